-- Examples in which one premise of a law of settling or recovery fails, and one in which all hold.
use Rattle.std.proofs.Common.{◌≡◌, ◌≢◌, ℕ, ◌+◌, ◌^◌, ◌≤◌, false, List, [], ◌∷◌, ◌++◌, None, Some, refl, sym, ap, ◌∙◌, arith}
use Rattle.ds_names.specs.Endpoint.{endpoint_of}
use Rattle.rs_settings.specs.Settings.{SettingsRecord, settings}
use Rattle.rs_settings.specs.declared.service.Service.{Service}
use Rattle.rs_settings.specs.declared.class.Class.TheVariants.{Server}
use Rattle.rs_core.specs.declared.action.Action.{Action}
use Rattle.rs_core.specs.declared.deed.Deed.TheVariants.{Resume, Lose, Forget}
use Rattle.rs_core.specs.declared.event.Event.TheVariants.{Tick, Stop, Death}
use Rattle.rs_core.specs.declared.state.Pause.{Pause}
use Rattle.rs_core.specs.declared.state.Running.{Running}
use Rattle.rs_core.specs.declared.state.State.TheVariants.{Down, Up, Waiting}
use Rattle.rs_core.specs.State.{RsRecord, rs_of, state_at}
use Rattle.rs_core.specs.Slots.{new_slots, slots_from}
use Rattle.rs_core.specs.declared.fault.RsFault.{RsFault}
use Rattle.rs_core.specs.declared.fault.RsFault.TheVariants.{TickBack, Worn, GenerationsSpent, NoSlot}
use Rattle.rs_core.specs.Judging.{refusal}
use Rattle.rs_core.specs.Machine.{task, actions_of}
use Rattle.rs_core.specs.Step.{RsStep, done_to}
use Rattle.rs_core.specs.Settling.{Ticks, ReportsSettle, IsFailure}
use Rattle.rs_core.specs.SettlingPremises.{RunsInstance, RunsNewer, CanSettle, SettlingNeeds, ExistenceNeeds, RecoveryNeeds}
use Rattle.rs_core.specs.SettlingPremises.{RecoveryHappens}

-- ---- states

-- a service without a label or heartbeats, restarted once
abbrev service : Service
service = record {
  label = [];
  class = Server;
  unit = None;
  period = 0;
  limit = 1;
  publishes = [];
  complains = None;
  connects = None;
  forget = 0;
  startup = 0;
}

abbrev one_service : SettingsRecord
one_service = settings 1 (service ∷ [])

abbrev pause_to : ℕ → Pause
pause_to tick = record { until = tick; failures = 1 }

-- RS of these settings, whose service waits until the tick
abbrev waiting : SettingsRecord → ℕ → RsRecord
waiting settings until = rs_of settings (Waiting (pause_to until) ∷ []) 0 1 (new_slots 16)

abbrev instance : ℕ → Running
instance generation = record { endpoint = endpoint_of generation 16; since = 0; beat = 0; ping = 0; failures = 0 }

-- RS of one service, whose instance has this generation
abbrev running : ℕ → ℕ → RsRecord
running generation next = rs_of one_service (Up (instance generation) ∷ []) 0 next (slots_from 16 [] 1)

abbrev stopped : ℕ → ℕ → List Action
stopped generation next = actions_of (running generation next) service (Up (instance generation)) (Lose false)

-- RS once the instance has failed
abbrev fallen : ℕ → ℕ → RsRecord
fallen generation next = done_to (running generation next) 0 (task (Lose false) 0)

-- RS once it runs again
abbrev risen : ℕ → ℕ → RsRecord
risen generation next = done_to (fallen generation next) 1 (task Resume 0)

abbrev started : ℕ → ℕ → List Action
started generation next = actions_of (fallen generation next) service (Waiting (pause_to 1)) Resume

-- ---- steps

idles : (s : RsRecord) (tick : ℕ) → RsStep s Tick tick [] (record s { tick = tick }) → ReportsSettle tick s [] (record s { tick = tick })
idles s tick step = record { acted = tt; reports = (record s { tick = tick }, step, refl) }

not_waiting : (p : Pause) (t : RsRecord) (i : ℕ) → state_at t i ≡ Waiting p → RunsInstance t i → ⊥
not_waiting p t i e (r, up) = let n : Waiting p ≡ Up r = sym e ∙ up in cc

not_down : (r : Running) (t : RsRecord) (i : ℕ) → state_at t i ≡ Down → RunsNewer t i r → ⊥
not_down r t i e (q, up, newer) = let n : Down ≡ Up q = sym e ∙ up in cc

falls : (generation next : ℕ) → RsStep (running generation next) (Death (endpoint_of generation 16) 1) 0 (stopped generation next)
    (fallen generation next)
    → IsFailure (running generation next) (Death (endpoint_of generation 16) 1) 0 (stopped generation next) (fallen generation next) 0
    (instance generation) (pause_to 1)
falls generation next step = record { ran = refl; step = step; waits = refl }

first_falls : RsStep (running 1 2) (Death (endpoint_of 1 16) 1) 0 (stopped 1 2) (fallen 1 2)
first_falls = (Some (task (Lose false) 0), refl, refl, record { done = refl; after = refl })

first_rises : RsStep (fallen 1 2) Tick 1 (started 1 2) (risen 1 2)
first_rises = (Some (task Resume 0), refl, refl, record { done = refl; after = refl })

first_idles : RsStep (risen 1 2) Tick 1 [] (risen 1 2)
first_idles = (None, refl, refl, record { done = refl; after = refl })

-- an instance whose generation RS never gave
fifth_falls : RsStep (running 5 1) (Death (endpoint_of 5 16) 1) 0 (stopped 5 1) (fallen 5 1)
fifth_falls = (Some (task (Lose false) 0), refl, refl, record { done = refl; after = refl })

fifth_rises : RsStep (fallen 5 1) Tick 1 (started 5 1) (risen 5 1)
fifth_rises = (Some (task Resume 0), refl, refl, record { done = refl; after = refl })

fifth_idles : RsStep (risen 5 1) Tick 1 [] (risen 5 1)
fifth_idles = (None, refl, refl, record { done = refl; after = refl })

acts : (x : Action) (xs : List Action) → x ∷ xs ≢ []
acts x xs = λ e. let n : x ∷ xs ≡ [] = e in cc

rises : (generation next : ℕ) → RsStep (fallen generation next) Tick 1 (started generation next) (risen generation next) →
    RsStep (risen generation next) Tick 1 [] (risen generation next)
    → ReportsSettle 1 (fallen generation next) (started generation next ∷ []) (risen generation next)
rises generation next step last =
    record { acted = (acts _ _, tt); reports = (risen generation next, step, (risen generation next, last, refl)) }

-- ---- settling

-- RS without services
abbrev bare : RsRecord
bare = rs_of (settings 1 []) [] 0 1 (new_slots 16)

bare_idles : RsStep bare Tick 0 [] bare
bare_idles = (None, refl, refl, record { done = refl; after = refl })

pub settling_needs : SettlingNeeds
settling_needs = record {
  acted = λ law. let e : 1 ≤ 0 = law bare bare 0 ([] ∷ []) (bare, bare_idles, (bare, bare_idles, refl)) in omega (arith, e);
  ended = λ law. not_waiting (pause_to 0) (waiting one_service 0) 0 refl
      (law (waiting one_service 0) (waiting one_service 0) 0 0 (pause_to 0) [] tt refl (omega arith) refl (omega arith));
  over = λ law. not_waiting (pause_to 1) (waiting one_service 1) 0 refl
      (law (waiting one_service 1) (waiting one_service 1) 0 0 (pause_to 1) [] (idles (waiting one_service 1) 0 early) (omega arith) refl);
  within = λ law. not_waiting (pause_to 0) (waiting (settings 1 []) 0) 0 refl
      (law (waiting (settings 1 []) 0) (waiting (settings 1 []) 0) 0 0 (pause_to 0) [] (idles (waiting (settings 1 []) 0) 0 outside) refl
      (omega arith));
}
  where
    early : RsStep (waiting one_service 1) Tick 0 [] (waiting one_service 1)
    early = (None, refl, refl, record { done = refl; after = refl })

    outside : RsStep (waiting (settings 1 []) 0) Tick 0 [] (waiting (settings 1 []) 0)
    outside = (None, refl, refl, record { done = refl; after = refl })

-- ---- ticks that are refused

-- a refused tick never settles
refused : (s : RsRecord) (tick : ℕ) (fault : RsFault) → refusal s Tick tick ≡ Some fault → CanSettle tick s → ⊥
refused s tick fault e ([], t, settles) = of settles.reports
  where
    of : Ticks tick s ([] ∷ []) t → ⊥
    of (m, step, end) = let n : Some fault ≡ None = sym e ∙ step.1 in cc
refused s tick fault e (actions ∷ rest, t, settles) = of settles.reports
  where
    of : Ticks tick s (actions ∷ (rest ++ [] ∷ [])) t → ⊥
    of (m, step, end) = let n : Some fault ≡ None = sym e ∙ step.1 in cc

-- RS whose only slot is used, with a service that waits
abbrev crowded : SettingsRecord → RsRecord
crowded settings = rs_of settings (Waiting (pause_to 0) ∷ Up (instance 1) ∷ []) 0 2 (slots_from 16 [] 1)

abbrev ticked : RsRecord
ticked = rs_of (settings 1 []) [] 1 1 (new_slots 16)

abbrev spent : RsRecord
spent = rs_of one_service (Waiting (pause_to 0) ∷ []) 0 2097152 (new_slots 16)

pub existence_needs : ExistenceNeeds
existence_needs = record {
  later = λ law. refused ticked 0 TickBack refl (law ticked 0 (omega arith) refl (omega arith) (omega arith));
  most = λ law. refused bare (2 ^ 62 + 1) Worn refl (law bare (2 ^ 62 + 1) (omega arith) refl (omega arith) (omega arith));
  count = λ law. refused (crowded one_service) 0 NoSlot refl
      (law (crowded one_service) 0 (omega arith) (omega arith) (omega arith) (omega arith));
  slots = λ law. refused (crowded (settings 1 (service ∷ service ∷ []))) 0 NoSlot refl
      (law (crowded (settings 1 (service ∷ service ∷ []))) 0 (omega arith) (omega arith) refl (omega arith));
  generations = λ law. refused spent 0 GenerationsSpent refl (law spent 0 (omega arith) (omega arith) refl (omega arith));
}

-- ---- recovery

-- RS after the service that waited was stopped
abbrev halted : RsRecord
halted = done_to (fallen 1 2) 0 (task Forget 0)

halts : RsStep (fallen 1 2) (Stop []) 0 [] halted
halts = (Some (task Forget 0), refl, refl, record { done = refl; after = refl })

halted_idles : RsStep halted Tick 1 [] (record halted { tick = 1 })
halted_idles = (None, refl, refl, record { done = refl; after = refl })

pub recovery_needs : RecoveryNeeds
recovery_needs = record {
  given = λ law. older (law (running 5 1) (fallen 5 1) (fallen 5 1) (risen 5 1) (Death (endpoint_of 5 16) 1) 0 1 (stopped 5 1) 0
      (instance 5) (pause_to 1) [] (started 5 1 ∷ [])
      (omega arith) (falls 5 1 fifth_falls) refl refl (omega arith) (rises 5 1 fifth_rises fifth_idles));
  waits = λ law. not_down (instance 1) (record halted { tick = 1 }) 0 refl
      (law (running 1 2) (fallen 1 2) halted (record halted { tick = 1 }) (Death (endpoint_of 1 16) 1) 0 1 (stopped 1 2) 0 (instance 1)
      (pause_to 1) ([] ∷ []) []
      (omega arith) (omega arith) (falls 1 2 first_falls) (halted, (Stop [], 0, halts), refl) (omega arith) (idles halted 1 halted_idles));
}
  where
    of : (r q : Running) → Up r ≡ Up q → r.endpoint.generation ≡ q.endpoint.generation
    of r q e = let same : r ≡ q = cc in ap (λ (z : Running). z.endpoint.generation) same

    older : RunsNewer (risen 5 1) 0 (instance 5) → ⊥
    older (q, up, newer) = let e : 1 ≡ q.endpoint.generation = of _ q up in omega (arith, e, newer)

pub recovery_happens : RecoveryHappens
recovery_happens = (
  running 1 2,
  fallen 1 2,
  risen 1 2,
  Death (endpoint_of 1 16) 1,
  0,
  1,
  stopped 1 2,
  0,
  instance 1,
  pause_to 1,
  started 1 2 ∷ [],
  record {
    within = omega arith;
    given = omega arith;
    fails = falls 1 2 first_falls;
    over = omega arith;
    settles = rises 1 2 first_rises first_idles;
  },
)
