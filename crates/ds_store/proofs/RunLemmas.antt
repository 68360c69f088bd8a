-- How a run continues.
use Rattle.std.proofs.Common.{◌≡◌, List, [], ◌∷◌, ◌++◌, length, take, refl, ap, sym, ◌∙◌, subst}
use Rattle.std.proofs.Math.Seq.{take-append_seam}
use Rattle.ds_machine.specs.State.{State}
use Rattle.ds_machine.specs.declared.command.Command.{Command}
use Rattle.ds_machine.specs.declared.reply.Reply.{Reply}
use Rattle.ds_machine.specs.Machine.{Step}
use Rattle.ds_store.specs.Last.{IsLast}
use Rattle.ds_store.specs.Run.{LastRun, RunsFirst}

-- a run, and one step more at its end
pub run_more : (commands : List Command) (replies : List Reply) (s mid t : State) (command : Command) (reply : Reply) →
    LastRun s commands replies mid → Step mid command reply t →
    IsLast mid command reply → LastRun s (commands ++ command ∷ []) (replies ++ reply ∷ []) t
run_more [] [] s mid t command reply run step last =
    (t, subst (λ (x : State). Step x command reply t) run step, subst (λ (x : State). IsLast x command reply) run last, refl)
run_more [] (r ∷ replies) s mid t command reply run step last = absurd run
run_more (c ∷ commands) [] s mid t command reply run step last = absurd run
run_more (c ∷ commands) (r ∷ replies) s mid t command reply run step last =
    (run.0, run.1, run.2, run_more commands replies run.0 mid t command reply run.3 step last)

-- a run of the first commands
pub run_first : (front rest commands : List Command) (replies : List Reply) (s t : State) → front ++ rest ≡ commands →
    LastRun s front replies t → RunsFirst s commands t
run_first front rest commands replies s t e run =
    let first : front ≡ take (length front) commands = sym (take-append_seam front rest) ∙ ap (take (length front)) e in
    (length front, replies, subst (λ (l : List Command). LastRun s l replies t) first run)
