-- RS's actions, and their commands to a store.
use Rattle.std.proofs.Common.{◌≡◌, ℕ, zero, suc, false, List, [], ◌∷◌, ◌++◌, drop, take, Option, Some, None, Ok, refl, sym, ap, subst, ◌∙◌}
use Rattle.std.proofs.Common.{append_assoc, append-nil}
use Rattle.std.specs.List.{AllByRecursion, slice_get}
use Rattle.std.proofs.lemmas.List.{take-append-drop}
use Rattle.ds_names.specs.Endpoint.{EndpointRecord, endpoint_of}
use Rattle.ds_names.specs.declared.key.Key.{Key}
use Rattle.ds_names.specs.declared.version.Version.{Version}
use Rattle.ds_entry.specs.declared.body.Body.{Body}
use Rattle.ds_entry.specs.declared.body.Body.TheVariants.{Put, Gone}
use Rattle.ds_machine.specs.declared.command.Command.{Command}
use Rattle.ds_replica.specs.declared.event.Event.{Event}
use Rattle.ds_replica.specs.declared.event.Side.{Side}
use Rattle.ds_replica.specs.declared.outcome.Outcome.{Outcome}
use Rattle.ds_replica.specs.Happens.{gives_items}
use Rattle.ds_world.specs.World.{WorldRecord}
use Rattle.rs_core.specs.Action.{IsActionInPlace}
use Rattle.rs_core.specs.declared.action.Action.{Action}
use Rattle.rs_core.specs.declared.action.Action.TheVariants as actions
use Rattle.rs_core.specs.declared.event.Event as services
use Rattle.rs_core.specs.declared.event.Event.TheVariants.{Up, Stop, Refresh, Restart, Death, Beat, Tick}
use Rattle.rs_to_store.specs.Asked.{asking_for, command_of}
use Rattle.script_answers.specs.Actions.{action_line}
use Rattle.script_services.specs.Services.{without_settings, AsksIfAny, AnswersActions}
use Rattle.script_services.specs.Waiting.{BeginsTelling}

-- ---- a copy of what they offer takes no memory

abbrev InPlace : List Action → Type 0
InPlace = AllByRecursion IsActionInPlace

pub none_in_place : (event : services.Event) (acts : List Action) → Ok acts ≡ without_settings event → InPlace acts
none_in_place (Up label) acts e = absurd (let q : Ok acts ≡ without_settings (Up label) = e in cc)
none_in_place (Stop label) acts e = absurd (let q : Ok acts ≡ without_settings (Stop label) = e in cc)
none_in_place (Refresh label) acts e = absurd (let q : Ok acts ≡ without_settings (Refresh label) = e in cc)
none_in_place (Restart label) acts e = absurd (let q : Ok acts ≡ without_settings (Restart label) = e in cc)
none_in_place (Death endpoint cause) acts e = absurd (let q : Ok acts ≡ without_settings (Death endpoint cause) = e in cc)
none_in_place (Beat endpoint) acts e = absurd (let q : Ok acts ≡ without_settings (Beat endpoint) = e in cc)
none_in_place Tick acts e = let same : acts ≡ [] = cc in subst InPlace (sym same) tt

pub in_place_at : (acts : List Action) (i : ℕ) (x : Action) → InPlace acts → slice_get acts i ≡ Some x → IsActionInPlace x
in_place_at [] i x h e = absurd (let q : None ≡ Some x = e in cc)
in_place_at (y ∷ acts) zero x h e = let same : y ≡ x = cc in subst IsActionInPlace same h.0
in_place_at (y ∷ acts) (suc i) x h e = in_place_at acts i x h.1 e

-- ---- their commands return no items

asking_gives : (caller : EndpointRecord) (key : Key) (version : Version) (body : Body) →
    gives_items (asking_for caller key version body) ≡ false
asking_gives caller key version (Put value) = refl
asking_gives caller key version Gone = refl

abbrev gives_none : Option Command → Type 0
gives_none None = Unit {0}
gives_none (Some command) = gives_items command ≡ false

action_gives : (action : Action) → gives_none (command_of action)
action_gives (actions.Offer c) = asking_gives (endpoint_of 0 2) c.key c.version c.body
action_gives (actions.Sweep f) = refl
action_gives (actions.Kill e) = tt
action_gives (actions.Start l e) = tt
action_gives (actions.Ping e) = tt

pub command_gives : (action : Action) (command : Command) → command_of action ≡ Some command → gives_items command ≡ false
command_gives action command same = subst gives_none same (action_gives action)

-- ---- actions in sequence

pub actions_more : (side : Side) (acts : List Action) (x : Action) (old mid new : WorldRecord) (out first : List ℕ)
    (asks one : List (Event × Outcome))
    → AnswersActions side acts old out asks mid → AsksIfAny side (command_of x) mid first one new
    → AnswersActions side (acts ++ x ∷ []) old (out ++ (action_line x ++ first)) (asks ++ one) new
actions_more side [] x old mid new out first asks one h asked = (
  new,
  first,
  [],
  one,
  [],
  subst (λ (w : WorldRecord). AsksIfAny side (command_of x) w first one new) h.2 asked,
  (refl, refl, refl),
  ap (λ (l : List ℕ). l ++ (action_line x ++ first)) h.0 ∙ ap (λ (l : List ℕ). action_line x ++ l) (sym (append-nil first)),
  ap (λ (l : List (Event × Outcome)). l ++ one) h.1 ∙ sym (append-nil one),
)
actions_more side (y ∷ acts) x old mid new out first asks one (m, f, r, o, k, here, there, lines, events) asked =
    let more = action_line x ++ first in (
      m,
      f,
      r ++ more,
      o,
      k ++ one,
      here,
      actions_more side acts x m mid new r first k one there asked,
      ap (λ (l : List ℕ). l ++ more) lines ∙ append_assoc (action_line y) (f ++ r) more ∙
          ap (λ (l : List ℕ). action_line y ++ l) (append_assoc f r more),
      ap (λ (l : List (Event × Outcome)). l ++ one) events ∙ append_assoc o k one,
    )

-- an action without a command sends none
pub asks_none : (side : Side) (command : Option Command) (world : WorldRecord) → command ≡ None → AsksIfAny side command world [] [] world
asks_none side command world none = subst (λ (o : Option Command). AsksIfAny side o world [] [] world) (sym none) (refl, refl, refl)

-- the first actions went to the store
pub first_sent : (side : Side) (acts : List Action) (i : ℕ) (old new : WorldRecord) (out : List ℕ) (asks : List (Event × Outcome)) →
    AnswersActions side (take i acts) old out asks new → BeginsTelling side (Ok acts) old new
first_sent side acts i old new out asks h = (take i acts, drop i acts, out, asks, sym (take-append-drop i acts), h)
