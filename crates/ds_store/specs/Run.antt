-- Runs of a store.
use Rattle.std.specs.Prelude.{◌≡◌, ℕ, List, [], ◌∷◌, take}
use Rattle.ds_machine.specs.State.{State}
use Rattle.ds_machine.specs.Machine.{Step}
use Rattle.ds_machine.specs.declared.command.Command.{Command}
use Rattle.ds_machine.specs.declared.reply.Reply.{Reply}
use Rattle.ds_store.specs.Last.{IsLast}

-- A run of the machine: each command gets its reply in order, and in each step lack of memory comes last.
abbrev pub LastRun : State → List Command → List Reply → State → Type 0
LastRun old [] [] new = new ≡ old
LastRun old (command ∷ commands) (reply ∷ replies) new =
    (mid : State) × Step old command reply mid × IsLast old command reply × LastRun mid commands replies new
LastRun old [] (reply ∷ replies) new = ⊥
LastRun old (command ∷ commands) [] new = ⊥

-- The first `done` commands were answered so, and no others.
abbrev pub RunsFirst : State → List Command → State → Type 0
RunsFirst old commands new = (done : ℕ) × (replies : List Reply) × LastRun old (take done commands) replies new
