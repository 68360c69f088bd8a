use Rattle.std.proofs.Common.{sym, subst}
use Rattle.ds_held.specs.Held.{Holding, held_changes}
use Rattle.ds_held.specs.Kept.{IsPlace}
use Rattle.ds_held.proofs.KeptLemmas.{changes_are}
use Rattle.ds_held.proofs.held.Held.place.Goals as goal

pub returns : goal.returns
returns c =
    subst (λ (h : Holding). IsPlace (held_changes h) c.args.key.now c.place_of.result) c.self.view_is
    (subst (λ l. IsPlace l c.args.key.now c.place_of.result)
    (sym (changes_are c.self.inside.floors.items c.self.inside.changes c.self.inside.limits c.self.invariant.keys)) c.place_of.ensures)
