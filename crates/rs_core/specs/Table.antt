-- The table of RS: what each event calls for, by the service's state.
use Rattle.std.specs.Prelude.{ℕ, ◌==◌, nat_le, Result, Ok, Err, if◌then◌else◌}
use Rattle.rs_core.specs.declared.event.Event.{Event}
use Rattle.rs_core.specs.declared.event.Event.TheVariants as events
use Rattle.rs_core.specs.declared.fault.RsFault.{RsFault}
use Rattle.rs_core.specs.declared.fault.RsFault.TheVariants.{AlreadyUp, NotUp}
use Rattle.rs_core.specs.declared.state.State.{State}
use Rattle.rs_core.specs.declared.state.State.TheVariants.{Down, Up, Waiting, GaveUp}
use Rattle.rs_core.specs.declared.deed.Deed.{Deed}
use Rattle.rs_core.specs.declared.deed.Deed.TheVariants.{Begin, Resume, Halt, Replace, Lose, Forget}

-- The deed of `up`: start a service that is down or was given up, with no failures.
abbrev pub on_up : State → Result Deed RsFault
on_up Down = Ok Begin
on_up GaveUp = Ok Begin
on_up (Up r) = Err AlreadyUp
on_up (Waiting p) = Err AlreadyUp

-- The deed of `down`: stop the service's instance, or end its wait.
abbrev pub on_stop : State → Result Deed RsFault
on_stop (Up r) = Ok Halt
on_stop (Waiting p) = Ok Forget
on_stop Down = Err NotUp
on_stop GaveUp = Err NotUp

-- The deed of `refresh`: stop the instance and start another at once.
abbrev pub on_refresh : State → Result Deed RsFault
on_refresh (Up r) = Ok Replace
on_refresh (Waiting p) = Err NotUp
on_refresh Down = Err NotUp
on_refresh GaveUp = Err NotUp

-- The deed of `restart`: end a wait with a start, or start a given-up service anew.
abbrev pub on_restart : State → Result Deed RsFault
on_restart (Waiting p) = Ok Resume
on_restart GaveUp = Ok Begin
on_restart (Up r) = Err AlreadyUp
on_restart Down = Err NotUp

-- The deed of an event with a label.
abbrev pub on_label : Event → State → Result Deed RsFault
on_label (events.Up label) = on_up
on_label (events.Stop label) = on_stop
on_label (events.Refresh label) = on_refresh
on_label _ = on_restart

-- The deed of a death: a failure, except that cause 6 is a refresh. Causes 4 and 5 leave a process that has to be
-- killed.
abbrev pub on_death : ℕ → Deed
on_death cause = if cause == 6 then Replace else Lose (nat_le 4 cause)
