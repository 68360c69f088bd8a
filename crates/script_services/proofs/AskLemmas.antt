-- The commands of RS's actions, as events of a world.
use Rattle.std.proofs.Common.{◌≡◌, List, [], ◌∷◌, ◌++◌, Option, Some, None, Result, Ok, Err, ℕ, sym, ap, subst, ◌∙◌, inl, inr, append-nil}
use Rattle.std.proofs.Common.{append_assoc, Contains}
use Rattle.std.proofs.lemmas.List.Elements.{Contains-append_cases}
use Rattle.ds_entry.proofs.Members.{Contains-nil, Contains-single}
use Rattle.ds_machine.specs.declared.command.Command.{Command}
use Rattle.ds_replica.specs.declared.event.Event.{Event}
use Rattle.ds_replica.specs.declared.event.Event.TheVariants.{Ask}
use Rattle.ds_replica.specs.declared.event.Side.{Side}
use Rattle.ds_replica.specs.declared.outcome.Outcome.{Outcome}
use Rattle.ds_replica.specs.declared.outcome.Outcome.TheVariants.{Replied}
use Rattle.ds_replica.specs.Bringing.{IsProperEvent}
use Rattle.ds_replica.specs.Happens.{HappenAll}
use Rattle.ds_replica.specs.World.{World}
use Rattle.ds_replica.proofs.CheckLemmas.{happen_last}
use Rattle.ds_world.specs.World.{WorldRecord, WorldStands}
use Rattle.ds_world.specs.Run.{EventLeads}
use Rattle.rs_core.specs.declared.action.Action.{Action}
use Rattle.rs_core.specs.declared.fault.RsFault.{RsFault}
use Rattle.rs_to_store.specs.Asked.{command_of}
use Rattle.script_services.specs.Services.{AsksIfAny, AnswersActions, TellsActions}

-- whatever happened since some world, these events lead from a world that the old value stands for to one that the new
-- value stands for
abbrev pub EventsGoOn : List (Event × Outcome) → WorldRecord → WorldRecord → Type 0
EventsGoOn events old new =
    (start w : World) (before : List (Event × Outcome)) → HappenAll start before w → WorldStands old w →
    (after : World) × HappenAll start (before ++ events) after × WorldStands new after

none_go_on : (old new : WorldRecord) (events : List (Event × Outcome)) → events ≡ [] → new ≡ old → EventsGoOn events old new
none_go_on old new events none same start w before h stands = (
  w,
  subst (λ (l : List (Event × Outcome)). HappenAll start l w)
      (sym (append-nil before) ∙ ap (λ (l : List (Event × Outcome)). before ++ l) (sym none)) h,
  subst (λ (v : WorldRecord). WorldStands v w) (sym same) stands,
)

pub one_goes_on : (event : Event) (outcome : Outcome) (old new : WorldRecord) (events : List (Event × Outcome)) →
    events ≡ (event, outcome) ∷ [] → EventLeads event outcome old new → EventsGoOn events old new
one_goes_on event outcome old new events one leads start w before h stands =
    let next = leads w stands in (
      next.0,
      subst (λ (l : List (Event × Outcome)). HappenAll start (before ++ l) next.0) (sym one)
          (happen_last before start w next.0 event outcome h next.1),
      next.2,
    )

both_go_on : (one more events : List (Event × Outcome)) (old mid new : WorldRecord) → events ≡ one ++ more → EventsGoOn one old mid →
    EventsGoOn more mid new → EventsGoOn events old new
both_go_on one more events old mid new all first rest start w before h stands =
    let a = first start w before h stands in
    let b = rest start a.0 (before ++ one) a.1 a.2 in (
      b.0,
      subst (λ (l : List (Event × Outcome)). HappenAll start l b.0)
          (append_assoc before one more ∙ ap (λ (l : List (Event × Outcome)). before ++ l) (sym all)) b.1,
      b.2,
    )

asked_go_on : (side : Side) (command : Option Command) (old new : WorldRecord) (out : List ℕ) (asks : List (Event × Outcome)) →
    AsksIfAny side command old out asks new → EventsGoOn asks old new
asked_go_on side None old new out asks h = none_go_on old new asks h.1 h.2
asked_go_on side (Some command) old new out asks h = one_goes_on (Ask side command) (Replied h.reply) old new asks h.event h.leads

actions_go_on : (side : Side) (acts : List Action) (old new : WorldRecord) (out : List ℕ) (asks : List (Event × Outcome)) →
    AnswersActions side acts old out asks new → EventsGoOn asks old new
actions_go_on side [] old new out asks h = none_go_on old new asks h.1 h.2
actions_go_on side (x ∷ acts) old new out asks (mid, first, rest, one, more, here, there, lines, events) =
    both_go_on one more asks old mid new events (asked_go_on side (command_of x) old mid first one here)
    (actions_go_on side acts mid new rest more there)

pub told_go_on : (side : Side) (answer : Result (List Action) RsFault) (old new : WorldRecord) (out : List ℕ)
    (asks : List (Event × Outcome)) → TellsActions side answer old out asks new → EventsGoOn asks old new
told_go_on side (Ok acts) old new out asks h = actions_go_on side acts old new h.0 asks h.1
told_go_on side (Err fault) old new out asks h = none_go_on old new asks h.1 h.2

-- ---- their parts are in their ranges

abbrev AreProperAsks : List (Event × Outcome) → Type 0
AreProperAsks events = (e : Event × Outcome) → Contains events e → IsProperEvent e.0

no_asks : (asks : List (Event × Outcome)) → asks ≡ [] → AreProperAsks asks
no_asks asks none e h = absurd (Contains-nil e (subst (λ (l : List (Event × Outcome)). Contains l e) none h))

asked_proper : (side : Side) (command : Option Command) (old new : WorldRecord) (out : List ℕ) (asks : List (Event × Outcome)) →
    AsksIfAny side command old out asks new → AreProperAsks asks
asked_proper side None old new out asks h = no_asks asks h.1
asked_proper side (Some command) old new out asks h = λ e k.
    subst (λ (y : Event × Outcome). IsProperEvent y.0)
    (sym (Contains-single _ e (subst (λ (l : List (Event × Outcome)). Contains l e) h.event k))) h.told.0

actions_proper : (side : Side) (acts : List Action) (old new : WorldRecord) (out : List ℕ) (asks : List (Event × Outcome)) →
    AnswersActions side acts old out asks new → AreProperAsks asks
actions_proper side [] old new out asks h = no_asks asks h.1
actions_proper side (x ∷ acts) old new out asks (mid, first, rest, one, more, here, there, lines, events) = λ e k.
    elim (Contains-append_cases one more e (subst (λ (l : List (Event × Outcome)). Contains l e) events k)) [
      | inl a ↦ asked_proper side (command_of x) old mid first one here e a
      | inr b ↦ actions_proper side acts mid new rest more there e b
    ]

pub told_proper : (side : Side) (answer : Result (List Action) RsFault) (old new : WorldRecord) (out : List ℕ)
    (asks : List (Event × Outcome)) → TellsActions side answer old out asks new → AreProperAsks asks
told_proper side (Ok acts) old new out asks h = actions_proper side acts old new h.0 asks h.1
told_proper side (Err fault) old new out asks h = no_asks asks h.1
