-- Desks whose passes are all back.
use Rattle.std.proofs.Common.{All, ◌≡◌, ℕ, ◌≤◌, List, [], ◌∷◌, length, arith, refl, sym, ◌∙◌}
use Rattle.std.proofs.lemmas.List.Elements.{All-head, All-tail}
use Rattle.desk_rule.specs.History.{total_of}
use Rattle.desk_rule.specs.declared.view.View.{View}
use Rattle.desk.specs.declared.fault.DeskFault.{DeskFault}
use Rattle.desk.specs.declared.fault.DeskFault.TheVariants.{BadCount, BadFirst, BadServer, Worn, PassesOut, Noted, NoRoom}
use Rattle.desk.specs.declared.pass.Sight.{Ghosts}
use Rattle.desk.specs.Closing.{IsPassesFault}
use Rattle.desk.specs.Pass.{notes_learnt, notes_made}
use Rattle.ds_machine.specs.declared.command.Command.{Command}
use Rattle.ds_machine.specs.declared.reply.Reply.{Reply}
use Rattle.desk_store.specs.Record.{Boxed}
use Rattle.ds_live.specs.Homes.{Home}
use Rattle.ds_live.specs.Workers.{IsAtHome, StorePass}

module _ {Z : Type 0} {G : Ghosts (View (Boxed Z) Command Reply)} (home : Home) where
  none_in_all : (ps : List (StorePass Z G)) → All (λ (p : StorePass Z G). IsAtHome home p) ps →
      (total_of notes_made ps ≡ 0) × (total_of notes_learnt ps ≡ 0)
  none_in_all [] at = (refl, refl)
  none_in_all (p ∷ ps) at =
      let here = All-head (λ (p : StorePass Z G). IsAtHome home p) p ps at in
      let rest = none_in_all ps (All-tail (λ (p : StorePass Z G). IsAtHome home p) p ps at) in
      (omega (arith, here.none_made, rest.0), omega (arith, here.none_learnt, rest.1))

  -- a desk whose passes are all back, and made no note, doesn't stay open
  pub never_stays : (fault : DeskFault) (made : ℕ) (ps : List (StorePass Z G)) → made ≤ length ps →
      All (λ (p : StorePass Z G). IsAtHome home p) ps → IsPassesFault fault made ps → ⊥
  never_stays BadCount made ps all at cause = cause
  never_stays BadFirst made ps all at cause = cause
  never_stays BadServer made ps all at cause = cause
  never_stays Worn made ps all at cause = cause
  never_stays PassesOut made ps all at cause = omega (arith, cause, all)
  never_stays Noted made ps all at cause = (let none = none_in_all ps at in cause.1 (none.0 ∙ sym none.1))
  never_stays NoRoom made ps all at cause = cause
