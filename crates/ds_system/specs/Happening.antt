-- The steps of a system: one event, and runs of events.
use Rattle.std.specs.Prelude.{◌≡◌, List}
use Rattle.std.specs.List.{flat_map}
use Rattle.ds_entry.specs.declared.body.Body.TheVariants as bodies
use Rattle.history.specs.History.{Path}
use Rattle.ds_system.specs.declared.event.SystemEvent.{SystemEvent}
use Rattle.ds_system.specs.declared.event.SystemEvent.TheVariants.{Service, Put, Remove, Again, World, Follow, Submit, Answered}
use Rattle.ds_system.specs.declared.outcome.SystemFault.{SystemFault}
use Rattle.ds_system.specs.declared.outcome.SystemOutcome.{SystemOutcome}
use Rattle.ds_system.specs.declared.outcome.SystemOutcome.TheVariants.{Acted, Replied, Moved, Happened, Refused}
use Rattle.ds_system.specs.System.{System}
use Rattle.ds_system.specs.Steps.{Steps, WorldEvents, no_steps}
use Rattle.ds_system.specs.EffectsOfTurns.{Acts, WritesEntry, Repeats, Passes, FollowsBoth, FollowsAndSubmits, TakesReply}
use Rattle.ds_system.specs.Refusals.{IsSystemRefused}

-- The effect of an accepted event.
abbrev pub SystemTakes : System → SystemEvent → SystemOutcome → Steps → System → Type 0
SystemTakes s (Service event tick side) (Acted actions replies) steps t = Acts s event tick side actions replies steps t
SystemTakes s (Put label key value side) (Replied reply) steps t = WritesEntry s label key (bodies.Put value) side reply steps t
SystemTakes s (Remove label key side) (Replied reply) steps t = WritesEntry s label key bodies.Gone side reply steps t
SystemTakes s (Again k side) (Replied reply) steps t = Repeats s k side reply steps t
SystemTakes s (World event) (Happened outcome) steps t = Passes s event outcome steps t
SystemTakes s Follow (Moved rounds own fault) steps t = FollowsBoth s rounds own fault steps t
SystemTakes s (Submit table id unit) (Moved rounds own fault) steps t = FollowsAndSubmits s table id unit rounds own fault steps t
SystemTakes s (Answered table endpoint id) (Moved rounds own fault) steps t = TakesReply s table endpoint id rounds own fault steps t
SystemTakes s event outcome steps t = ⊥

-- Whether the event was refused, and nothing changed.
pub record IsRefusedSo (s : System) (event : SystemEvent) (fault : SystemFault) (steps : Steps) (t : System) : Type 0 where
  pub refused : IsSystemRefused s event fault
  pub steps_are : steps ≡ no_steps
  pub system_is : t ≡ s

-- Whether the event has this outcome, by these steps.
abbrev pub SystemDoes : System → SystemEvent → SystemOutcome → Steps → System → Type 0
SystemDoes s event (Refused fault) steps t = IsRefusedSo s event fault steps t
SystemDoes s event outcome steps t = SystemTakes s event outcome steps t

-- An event with its outcome, and the steps that it consists of.
pub record SystemEntry : Type 0 where
  pub event : SystemEvent
  pub outcome : SystemOutcome
  pub steps : Steps

-- A path of such events, one for each entry.
abbrev pub SystemRun : System → List SystemEntry → System → Type 0
SystemRun = Path (λ s entry t. SystemDoes s entry.event entry.outcome entry.steps t)

-- All events of the world in these entries, in order.
abbrev pub all_events : List SystemEntry → WorldEvents
all_events entries = flat_map (λ (entry : SystemEntry). entry.steps.events) entries
