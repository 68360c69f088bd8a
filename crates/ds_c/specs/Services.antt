-- What the calls on RS answer, and what they leave in the handle.
use Rattle.std.specs.Prelude.{◌≡◌, ℕ, cond, List, Option, None, Some, is_some}
use Rattle.std.specs.Option.{option_map}
use Rattle.c_values.specs.declared.answer.Answer.{Answer}
use Rattle.rs_settings.specs.Dealing.{may_complain, may_connect}
use Rattle.c_rs.specs.declared.action.RsAction.{RsAction}
use Rattle.c_rs.specs.declared.event.RsEvent.{RsEvent}
use Rattle.c_rs.specs.declared.fault.SettingsRefusal.{SettingsRefusal}
use Rattle.c_rs.specs.declared.service.RsService.{RsService}
use Rattle.c_rs.specs.Action.{action_in}
use Rattle.c_rs.specs.Opening.{OpensRs}
use Rattle.c_rs.specs.Reading.{ReadsDue, may_deal_in, may_publish_in}
use Rattle.c_rs.specs.Service.{service_row}
use Rattle.c_keeper.specs.declared.session.KeeperSession.{KeeperSession}
use Rattle.c_keeper.specs.Barred.{ServesUnlessKept}
use Rattle.ds_c.specs.Calls.{done, is_closed}

abbrev pub not_allowed : ℕ
not_allowed = 9

abbrev pub not_found : ℕ
not_found = 14

-- Whether RS is opened beside the store of an open handle, or refused.
abbrev pub OpensIn : KeeperSession → List ℕ → ℕ → ℕ → SettingsRefusal → ℕ → SettingsRefusal → Option KeeperSession → Type 0
OpensIn old text next first before word fault None = ⊥
OpensIn old text next first before word fault (Some new) =
    OpensRs text next first old.rs before word fault new.rs × (new.processes ≡ old.processes)

-- The effect of a call that opens RS. If the handle is closed, it and the fault's place are unchanged.
abbrev pub OpensServices : Option KeeperSession → List ℕ → ℕ → ℕ → SettingsRefusal → ℕ → SettingsRefusal → Option KeeperSession → Type 0
OpensServices None text next first before word fault new = (word ≡ is_closed) × (fault ≡ before) × (new ≡ None)
OpensServices (Some old) text next first before word fault new = OpensIn old text next first before word fault new

-- Whether an event reaches RS and the store of an open handle.
abbrev pub EventReaches : KeeperSession → RsEvent → ℕ → Answer → Option KeeperSession → Type 0
EventReaches old event word answer None = ⊥
EventReaches old event word answer (Some new) =
    (word ≡ done) × ServesUnlessKept (is_some old.processes) event old.rs answer new.rs × (new.processes ≡ old.processes)

-- The effect of a call that reports an event. If the handle is closed, it and the answer's place are unchanged.
abbrev pub EventsReach : Option KeeperSession → RsEvent → Answer → ℕ → Answer → Option KeeperSession → Type 0
EventsReach None event before word answer new = (word ≡ is_closed) × (answer ≡ before) × (new ≡ None)
EventsReach (Some old) event before word answer new = EventReaches old event word answer new

module _ {A : Type 0} where
  -- Whether a part that may be missing is written, or its place is unchanged.
  abbrev pub ReadsPart : Option A → A → ℕ → A → Type 0
  ReadsPart None before word new = (word ≡ not_found) × (new ≡ before)
  ReadsPart (Some part) before word new = (word ≡ done) × (new ≡ part)

  -- Whether a part of what an open handle holds is written. If the handle is closed, none is.
  abbrev pub ReadsOf : (KeeperSession → Option A) → Option KeeperSession → A → ℕ → A → Type 0
  ReadsOf part None before word new = (word ≡ is_closed) × (new ≡ before)
  ReadsOf part (Some s) before word new = ReadsPart (part s) before word new

-- The effect of calls that write an action of the last answer, a service, and the next generation.
abbrev pub ReadsAction : Option KeeperSession → ℕ → RsAction → ℕ → RsAction → Type 0
ReadsAction held index before word action = ReadsOf (λ s. action_in s.rs index) held before word action

abbrev pub ReadsService : Option KeeperSession → ℕ → RsService → ℕ → RsService → Type 0
ReadsService held index before word service = ReadsOf (λ s. service_row s.rs.session.node.services index) held before word service

abbrev pub ReadsNext : Option KeeperSession → ℕ → ℕ → ℕ → Type 0
ReadsNext held before word generation = ReadsOf (λ s. option_map (λ rs. rs.next) s.rs.session.node.services) held before word generation

-- The effect of a call that writes the first tick that has actions.
abbrev pub ReadsDueTick : Option KeeperSession → ℕ → ℕ → ℕ → Type 0
ReadsDueTick None before word tick = (word ≡ is_closed) × (tick ≡ before)
ReadsDueTick (Some s) before word tick = (part : Option ℕ) × ReadsDue s.rs.session.node.services part × ReadsPart part before word tick

-- The effect of a call that judges whether an instance may publish under a key.
abbrev pub FindsPublisher : Option KeeperSession → ℕ → ℕ → ℕ → List ℕ → ℕ → Type 0
FindsPublisher None generation slot kind name word = word ≡ is_closed
FindsPublisher (Some s) generation slot kind name word =
    word ≡ cond (may_publish_in s.rs.session.node.services generation slot kind name) done not_allowed

-- The effect of a call that judges whether an instance may complain of a service.
abbrev pub FindsComplainer : Option KeeperSession → ℕ → ℕ → List ℕ → ℕ → Type 0
FindsComplainer None generation slot label word = word ≡ is_closed
FindsComplainer (Some s) generation slot label word =
    word ≡ cond (may_deal_in may_complain s.rs.session.node.services generation slot label) done not_allowed

-- The effect of a call that judges whether an instance may connect to a service.
abbrev pub FindsConnector : Option KeeperSession → ℕ → ℕ → List ℕ → ℕ → Type 0
FindsConnector None generation slot label word = word ≡ is_closed
FindsConnector (Some s) generation slot label word =
    word ≡ cond (may_deal_in may_connect s.rs.session.node.services generation slot label) done not_allowed
