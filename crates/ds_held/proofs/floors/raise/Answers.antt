use Rattle.std.proofs.Common.{Ok, Err, sym, subst}
use Rattle.std.proofs.lemmas.Cmp.{nat_list_cmp_total}
use Rattle.std.proofs.lemmas.Map.Lookups.{exact_bytes}
use Rattle.std.specs.FinMap.{len}
use Rattle.ds_names.specs.Key.{name_cmp}
use Rattle.ds_held.specs.Kept.{owned, floors_map, IsFloorPlace}
use Rattle.ds_held.specs.Merge.{AnswersNew}
use Rattle.ds_held.specs.Raise.{AnswersFloor}
use Rattle.ds_held.proofs.PlaceLemmas.{get_there, get_none}
use Rattle.ds_held.proofs.KeptLemmas.{count_floors}
use Rattle.ds_held.proofs.floors.raise.Goals as goal

pub returns-in-Ok-clause-answer : goal.returns-in-Ok-clause-answer
returns-in-Ok-clause-answer c =
    let fs = c.args.floors.now.items in
    let here : IsFloorPlace c.args.floors.now.items c.args.floor.owner (Ok c.in-Ok.i) =
    subst (λ l. IsFloorPlace l c.args.floor.owner (Ok c.in-Ok.i)) c.deref.ensures.value c.in-Ok.ensures in
    subst (λ o. AnswersFloor o (len (floors_map fs)) c.args.floor.generation (Ok c.replace.result))
    (sym (get_there name_cmp nat_list_cmp_total exact_bytes owned fs c.args.floor.owner c.in-Ok.i c.args.floor c.requires.rising here))
    c.replace.ensures.answer

pub returns-in-Err-clause-answer : goal.returns-in-Err-clause-answer
returns-in-Err-clause-answer c =
    let fs = c.args.floors.now.items in
    let gap : IsFloorPlace c.args.floors.now.items c.args.floor.owner (Err c.in-Err.i) =
    subst (λ l. IsFloorPlace l c.args.floor.owner (Err c.in-Err.i)) c.deref.ensures.value c.in-Err.ensures in
    subst (λ o. AnswersFloor o (len (floors_map fs)) c.args.floor.generation c.add.result)
    (sym (get_none name_cmp nat_list_cmp_total exact_bytes owned fs c.args.floor.owner c.in-Err.i gap))
    (subst (λ n. AnswersNew n 64 c.add.result) (sym (count_floors fs c.requires.rising)) c.add.ensures.answer)
