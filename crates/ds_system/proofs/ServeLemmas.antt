-- The effects of RS's actions.
use Rattle.std.proofs.Common.{◌≡◌, ℕ, zero, suc, ◌+◌, ◌≤◌, true, false, List, [], ◌∷◌, ◌++◌, length, take, Option, Some, None, refl, ap}
use Rattle.std.proofs.Common.{sym, ◌∙◌, subst, inl, inr, arith}
use Rattle.std.specs.List.{slice_get, filter_map, cons_option, AllByRecursion}
use Rattle.std.proofs.lemmas.List.{append-nil, length_push, take_more}
use Rattle.std.proofs.lemmas.List.Elements.{filter_map-append, Contains-append_cases}
use Rattle.std.proofs.lemmas.Option.{slice_get_within, get_or_from_slice_get}
use Rattle.ds_names.specs.Endpoint.{EndpointRecord, endpoint_of}
use Rattle.ds_names.specs.declared.key.Key.{Key}
use Rattle.ds_names.specs.declared.version.Version.{Version}
use Rattle.ds_entry.specs.Change.{ChangeRecord}
use Rattle.ds_entry.specs.declared.body.Body.{Body}
use Rattle.ds_entry.specs.declared.body.Body.TheVariants.{Put, Gone}
use Rattle.ds_entry.proofs.Members.{Contains-nil}
use Rattle.ds_machine.specs.declared.command.Command.{Command}
use Rattle.ds_machine.specs.declared.reply.Reply.{Reply}
use Rattle.ds_machine.proofs.PartLemmas.{found}
use Rattle.rs_core.specs.declared.action.Action.{Action}
use Rattle.rs_core.specs.declared.action.Action.TheVariants as actions
use Rattle.rs_core.specs.declared.event.Event as services
use Rattle.rs_core.specs.declared.fault.RsFault.{RsFault}
use Rattle.rs_core.specs.declared.fault.RsFault.TheVariants as faults
use Rattle.rs_core.specs.State.{RsRecord}
use Rattle.rs_core.specs.Judging.{order, against, refusal}
use Rattle.rs_core.specs.Run.{offers}
use Rattle.rs_core.specs.Step.{RsStep}
use Rattle.ds_replica.specs.declared.event.Side.{Side}
use Rattle.ds_replica.specs.declared.event.Event.TheVariants.{Ask}
use Rattle.ds_replica.specs.declared.outcome.Outcome.TheVariants as results
use Rattle.ds_replica.specs.Happens.{HappenAll, gives_items}
use Rattle.ds_replica.proofs.HappenLemmas.{happen_then}
use Rattle.ds_world.specs.World.{WorldRecord}
use Rattle.ds_world.specs.Told.{AreTold}
use Rattle.ds_world.proofs.ReplyLemmas.{told_on}
use Rattle.rs_to_store.specs.Asked.{asking_for, command_of, commands}
use Rattle.ds_system.specs.declared.event.SystemEvent.TheVariants as events
use Rattle.ds_system.specs.declared.outcome.SystemOutcome.TheVariants.{Acted, Refused}
use Rattle.ds_system.specs.declared.outcome.SystemFault.TheVariants as refusals
use Rattle.ds_system.specs.Refusals.{IsServiceFault}
use Rattle.ds_system.specs.Steps.{WorldEvents, AreProper, no_steps, events_alone, asks_replied}
use Rattle.ds_system.specs.Stands.{SystemRecord, SystemEventLeads}
use Rattle.ds_system.specs.Effects.{AskedIfAny, AllAsked}
use Rattle.ds_system.proofs.AskLemmas.{proper_one}

-- ---- commands of changes return no items
pub asking_plain : (caller : EndpointRecord) (key : Key) (version : Version) (content : Body) →
    gives_items (asking_for caller key version content) ≡ false
asking_plain caller key version (Put value) = refl
asking_plain caller key version Gone = refl

abbrev IsPlain : Option Command → Type 0
IsPlain None = Unit {0}
IsPlain (Some command) = gives_items command ≡ false

plain_action : (x : Action) → IsPlain (command_of x)
plain_action (actions.Offer c) = asking_plain (endpoint_of 0 2) c.key c.version c.body
plain_action (actions.Sweep f) = refl
plain_action (actions.Kill e) = tt
plain_action (actions.Start l e) = tt
plain_action (actions.Ping e) = tt

pub plain_command : (x : Action) (command : Command) → Some command ≡ command_of x → gives_items command ≡ false
plain_command x command e = subst IsPlain (sym e) (plain_action x)

-- ---- actions in sequence
answered_more : (side : Side) (cs : List Command) (rs : List Reply) (c : Command) (r : Reply) → length rs ≡ length cs →
    asks_replied side (cs ++ c ∷ []) (rs ++ r ∷ []) ≡ asks_replied side cs rs ++ (Ask side c, results.Replied r) ∷ []
answered_more side [] [] c r e = refl
answered_more side [] (x ∷ rs) c r e = absurd (let l : length (x ∷ rs) ≡ 0 = e in omega arith)
answered_more side (y ∷ cs) [] c r e = absurd (let l : 0 ≡ length (y ∷ cs) = e in omega arith)
answered_more side (y ∷ cs) (x ∷ rs) c r e =
    ap (λ (l : WorldEvents). (Ask side y, results.Replied x) ∷ l) (answered_more side cs rs c r (omega (arith, e)))

pub asked_none : (side : Side) (w : WorldRecord) → AllAsked side [] [] w w
asked_none side w = record { one_each = refl; proper = λ e h. absurd (Contains-nil e h); leads = λ s st. (s, refl, st); told = refl }

pub asked_more : (side : Side) (cs : List Command) (rs after : List Reply) (a b d : WorldRecord) (o : Option Command) →
    AllAsked side cs rs a b → AskedIfAny side o rs after b d → AllAsked side (cs ++ cons_option o []) after a d
asked_more side cs rs after a b d None all one =
    subst (λ (l : List Command). AllAsked side l after a d) (sym (append-nil cs))
    (subst (λ (l : List Reply). AllAsked side cs l a d) (sym one.0) (subst (λ (w : WorldRecord). AllAsked side cs rs a w) (sym one.1) all))
asked_more side cs rs after a b d (Some c) all (r, same, leads, told) =
    subst (λ (l : List Reply). AllAsked side (cs ++ c ∷ []) l a d) (sym same)
    record {
      one_each = length_push rs r ∙ (ap (λ n. n + 1) all.one_each ∙ sym (length_push cs c));
      proper = subst AreProper (sym more) (λ e h.
          elim (Contains-append_cases (asks_replied side cs rs) ((Ask side c, results.Replied r) ∷ []) e h) [
            | inl k ↦ all.proper e k
            | inr k ↦ proper_one (Ask side c) (results.Replied r) told.0 e k
          ]);
      leads = λ w st.
          let one = all.leads w st in
          let two = leads one.0 one.2 in (
            two.0,
            subst (λ (l : WorldEvents). HappenAll w l two.0) (sym more)
                (happen_then (asks_replied side cs rs) ((Ask side c, results.Replied r) ∷ []) w one.0 two.0 one.1 (two.0, two.1, refl)),
            two.2,
          );
      told = subst (λ (l : WorldEvents). AreTold a l d) (sym more)
          (told_on (asks_replied side cs rs) ((Ask side c, results.Replied r) ∷ []) a b d all.told (d, leads, told, refl));
    }
  where
    more : asks_replied side (cs ++ c ∷ []) (rs ++ r ∷ []) ≡ asks_replied side cs rs ++ (Ask side c, results.Replied r) ∷ []
    more = answered_more side cs rs c r all.one_each

pub few_of : {X Y : Type 0} (f : X → Option Y) (xs : List X) → length (filter_map f xs) ≤ length xs
few_of f [] = omega arith
few_of {X} {Y} f (x ∷ xs) = by (f x) (few_of f xs)
  where
    by : (o : Option Y) → length (filter_map f xs) ≤ length xs → length (cons_option o (filter_map f xs)) ≤ length (x ∷ xs)
    by None l = omega arith
    by (Some y) l = omega arith

pub taken_by : {X Y : Type 0} (f : X → Option Y) (xs : List X) (i : ℕ) (x : X) → slice_get xs i ≡ Some x →
    filter_map f (take (i + 1) xs) ≡ filter_map f (take i xs) ++ cons_option (f x) []
taken_by {X} f xs i x e = ap (filter_map f)
    (take_more xs i x (slice_get_within xs i x e) ∙ ap (λ (y : X). take i xs ++ y ∷ []) (get_or_from_slice_get xs i x x e)) ∙
    filter_map-append f (take i xs) (x ∷ [])

pub all_at : (P : Action → Type 0) (xs : List Action) (i : ℕ) (x : Action) → AllByRecursion P xs → slice_get xs i ≡ Some x → P x
all_at P [] i x h e = absurd (let n : None ≡ Some x = e in cc)
all_at P (y ∷ xs) zero x h e = subst P (let q : Some y ≡ Some x = e in let k : y ≡ x = cc in k) h.0
all_at P (y ∷ xs) (suc i) x h e = all_at P xs i x h.1 e

-- ---- the event
never_room : (rs : RsRecord) (event : services.Event) (tick : ℕ) → refusal rs event tick ≡ Some faults.NoRoom → ⊥
never_room rs event tick e = let q : false ≡ true = (found (against rs event tick) order faults.NoRoom e).1 in cc

pub stands_fault : (rs : RsRecord) (event : services.Event) (tick : ℕ) (fault : RsFault) → refusal rs event tick ≡ Some fault →
    IsServiceFault rs event tick fault
stands_fault rs event tick faults.NoRoom e = absurd (never_room rs event tick e)
stands_fault rs event tick faults.TickBack e = e
stands_fault rs event tick faults.Worn e = e
stands_fault rs event tick faults.UnknownLabel e = e
stands_fault rs event tick faults.BadCause e = e
stands_fault rs event tick faults.AlreadyUp e = e
stands_fault rs event tick faults.NotUp e = e
stands_fault rs event tick faults.OldEndpoint e = e
stands_fault rs event tick faults.GenerationsSpent e = e
stands_fault rs event tick faults.NoSlot e = e

module _ (value : SystemRecord) (event : services.Event) (tick : ℕ) (side : Side) where
  pub rs_refused : (fault : RsFault) → IsServiceFault value.rs event tick fault →
      SystemEventLeads (events.Service event tick side) (Refused (refusals.Service fault)) value value
  rs_refused fault e s st = (
    s,
    no_steps,
    record {
      refused = subst (λ (z : RsRecord). IsServiceFault z event tick fault) (sym st.rs) e;
      steps_are =
          refl;
      system_is = refl;
    },
    st,
    refl,
  )

  -- and then RS and the made changes are unchanged
  pub rs_kept : (fault : RsFault) (rs : RsRecord) (made : List ChangeRecord) → rs ≡ value.rs → made ≡ value.made →
      IsServiceFault value.rs event tick fault
      → SystemEventLeads (events.Service event tick side) (Refused (refusals.Service fault)) value (record value { rs = rs; made = made })
  rs_kept fault rs made same kept e =
      subst (λ (r : RsRecord). SystemEventLeads (events.Service event tick side) (Refused (refusals.Service fault)) value
      (record value { rs = r; made = made })) (sym same)
      (subst (λ (l : List ChangeRecord). SystemEventLeads (events.Service event tick side) (Refused (refusals.Service fault)) value
      (record value { made = l })) (sym kept) (rs_refused fault e))

  pub acted : (next : RsRecord) (after : WorldRecord) (acts : List Action) (replies : List Reply) → RsStep value.rs event tick acts next →
      AllAsked side (commands acts) replies value.world after
      → SystemEventLeads (events.Service event tick side) (Acted acts replies) value
      (record value { rs = next; world = after; made = value.made ++ offers acts })
  acted next after acts replies step all s st =
      let led = all.leads s.world st.world in (
        record s { rs = next; world = led.0; made = s.made ++ offers acts },
        events_alone (asks_replied side (commands acts) replies),
        record {
          step = subst (λ (z : RsRecord). RsStep z event tick acts next) (sym st.rs) step;
          one_each = all.one_each;
          asked =
              record { steps_are = refl; proper = all.proper; happen = led.1 };
          system_is = refl;
        },
        record {
          rs = refl;
          numberers = st.numberers;
          world = led.2;
          file = st.file;
          net = st.net;
          made =
              ap (λ (l : List ChangeRecord). l ++ offers acts) st.made;
        },
        all.told,
      )
