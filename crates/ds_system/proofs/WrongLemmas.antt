-- None of the wrong ways to follow a map is right.
use Rattle.std.proofs.Common.{◌≡◌, ℕ, ◌≤◌, ◌<◌, true, false, List, [], Some, None, refl, ap, subst, inl, inr, arith}
use Rattle.ds_names.specs.Endpoint.{EndpointRecord}
use Rattle.ds_names.specs.Key.{label_key}
use Rattle.ds_entry.proofs.Members.{Contains-head}
use Rattle.ds_machine.specs.Parts.{held_at}
use Rattle.rs_core.specs.Action.{label_put, label_gone}
use Rattle.driver_tables.specs.declared.moves.Move.{Move}
use Rattle.driver_tables.specs.declared.moves.Move.TheVariants.{Send}
use Rattle.ds_system.specs.Turn.{TableTurn}
use Rattle.ds_system.specs.Sending.{Sending, GoesToNoOlder}
use Rattle.ds_system.specs.Wrong.{disk, old, young, lives_at, gone_since, DoesNothing, SendsToOld, SubmitsUnseen, SendsToGone}
use Rattle.ds_system.specs.Wrong.{FollowsAnotherMap, EndsByOldTombstone, GoesBack, WrongTurns}
use Rattle.ds_system.proofs.NewsLemmas.{same_some}

differ : old ≡ young → ⊥
differ e = let k : old.generation ≡ young.generation = ap (λ (z : EndpointRecord). z.generation) e in omega (arith, k)

-- a move about the disk goes to no older generation than its map has
not_to_old : (turn : TableTurn) (earlier : List Sending) (m : Move) (g : GoesToNoOlder (lives_at young) turn earlier m old) →
    disk ≡ g.label → ⊥
not_to_old turn earlier m g same =
    let l : 2 ≤ 1 = g.of_map (label_put disk young)
    (subst (λ (z : List ℕ). held_at (lives_at young) (label_key z) ≡ Some (label_put disk young)) same refl) in
    omega arith

nothing_fails : ¬ DoesNothing
nothing_fails f = elim (f.knows refl disk (label_put disk young) refl refl) [
  | inl e ↦ (let n : None ≡ Some young = e in cc)
  | inr p ↦ (let n : false ≡ true = p.0 in cc)
]

old_fails : ¬ SendsToOld
old_fails f = let g = f.sends [] [] (Send 7 old) old refl refl in not_to_old _ _ (Send 7 old) g (same_some disk g.label g.under)

unseen_fails : ¬ SubmitsUnseen
unseen_fails f = let g = f.sends [] [] (Send 7 old) old refl refl in not_to_old _ _ (Send 7 old) g (same_some disk g.label g.under)

gone_fails : ¬ SendsToGone
gone_fails f =
    let g = f.sends [] [] (Send 7 young) young refl refl in
    let there : held_at (gone_since 2) (label_key g.label) ≡ Some (label_gone disk 2) =
    subst (λ (z : List ℕ). held_at (gone_since 2) (label_key z) ≡ Some (label_gone disk 2)) (same_some disk g.label g.under) refl in
    let l : 2 < 2 = g.gone (label_gone disk 2) there refl in
    omega arith

another_fails : ¬ FollowsAnotherMap
another_fails f = elim (f.knows refl disk (label_put disk young) refl refl) [
  | inl e ↦ differ (same_some old young e)
  | inr p ↦ (let n : false ≡ true = p.0 in cc)
]

tombstone_fails : ¬ EndsByOldTombstone
tombstone_fails f = let t = f.tombstones disk (label_gone disk 1) refl refl in let n : None ≡ Some young = t.0.now in cc

back_fails : ¬ GoesBack
back_fails f =
    let g = f.sends [] [] (Send 7 old) old refl refl in
    let l : 2 ≤ 1 = g.of_earlier (record { label = disk; endpoint = young }) (Contains-head (record { label = disk; endpoint = young }) [])
    (same_some disk g.label g.under) in
    omega arith

pub wrong_turns : WrongTurns
wrong_turns = (nothing_fails, old_fails, unseen_fails, gone_fails, another_fails, tombstone_fails, back_fails)
