-- What running a list of events is.
use Rattle.std.specs.Prelude.{ℕ, ◌<◌, ◌≤◌, List, [], ◌∷◌, length}
use Rattle.ds_replica.specs.declared.event.Event.{Event}
use Rattle.ds_replica.specs.declared.outcome.Outcome.{Outcome}
use Rattle.ds_replica.specs.Happens.{Happens, HappenAll}
use Rattle.ds_world.specs.declared.fault.WorldFault.{WorldFault}
use Rattle.ds_world.specs.declared.fault.WorldFault.TheVariants.{TooMany, NoRoom}
use Rattle.ds_world.specs.World.{WorldRecord, Leads}

-- The most events of one run.
abbrev pub most_events : ℕ
most_events = 65536

-- Each event with its outcome.
abbrev pub paired : List Event → List Outcome → List (Event × Outcome)
paired [] outcomes = []
paired (event ∷ events) [] = []
paired (event ∷ events) (outcome ∷ outcomes) = (event, outcome) ∷ paired events outcomes

-- Whether the event happened, with this outcome.
abbrev pub EventLeads : Event → Outcome → WorldRecord → WorldRecord → Type 0
EventLeads event outcome old new = Leads (λ w after. Happens w event outcome after) old new

-- Whether the events happened in order, with these outcomes.
abbrev pub RunLeads : List Event → List Outcome → WorldRecord → WorldRecord → Type 0
RunLeads events outcomes old new = Leads (λ w after. HappenAll w (paired events outcomes) after) old new

-- Whether the events can't be run, by this fault. Lack of memory is reported only if they aren't too many.
abbrev pub IsRunFault : WorldFault → List Event → Type 0
IsRunFault TooMany events = most_events < length events
IsRunFault NoRoom events = length events ≤ most_events
