-- A service's write: the instance that numbers it, the causes against it, and its effect.
use Rattle.std.proofs.Common.{◌≡◌, ℕ, Bool, true, false, not, cond, List, [], ◌∷◌, ◌++◌, Option, Some, None, Result, Ok, Err, IsOk, refl}
use Rattle.std.proofs.Common.{ap, sym, ◌∙◌, subst}
use Rattle.std.specs.List.{slice_set}
use Rattle.std.specs.Option.{option_map}
use Rattle.ds_names.specs.Endpoint.{EndpointRecord}
use Rattle.ds_names.specs.declared.key.Key.{Key}
use Rattle.ds_names.specs.declared.version.Version.{Version}
use Rattle.ds_entry.specs.Change.{ChangeRecord, change_of, is_of_kind, IsChange}
use Rattle.ds_entry.specs.declared.body.Body.{Body}
use Rattle.ds_entry.specs.declared.body.Body.TheVariants.{Put, Gone}
use Rattle.ds_machine.specs.declared.reply.Reply.{Reply}
use Rattle.rs_core.specs.declared.state.State.{State}
use Rattle.rs_core.specs.declared.state.State.TheVariants.{Up}
use Rattle.rs_core.specs.declared.state.Running.{Running}
use Rattle.rs_core.specs.State.{RsRecord, state_at, service_at}
use Rattle.rs_core.specs.Numbering.{NumbererRecord, Gives}
use Rattle.rs_core.specs.Says.{place_of_label}
use Rattle.ds_replica.specs.declared.event.Side.{Side}
use Rattle.ds_replica.specs.declared.event.Event.TheVariants.{Ask}
use Rattle.ds_replica.specs.declared.outcome.Outcome.TheVariants as results
use Rattle.ds_replica.specs.Bringing.{AreParts, IsProper}
use Rattle.ds_world.specs.World.{WorldRecord}
use Rattle.ds_world.specs.Run.{EventLeads}
use Rattle.ds_world.specs.Told.{IsTold, AreTold}
use Rattle.rs_to_store.specs.Asked.{asking_for}
use Rattle.ds_system.specs.declared.outcome.SystemFault.{SystemFault}
use Rattle.ds_system.specs.declared.outcome.SystemFault.TheVariants as refusals
use Rattle.ds_system.specs.declared.outcome.SystemFault.TheVariants.{UnknownLabel, NotDeclared, NotUp, BadKind, SeqSpent}
use Rattle.ds_system.specs.declared.outcome.SystemOutcome.TheVariants.{Replied, Refused}
use Rattle.ds_system.specs.System.{System}
use Rattle.ds_system.specs.Drawing.{Instance, is_declared, is_spent, numbers_left, judged_kind, judged_state, judged_place, judged}
use Rattle.ds_system.specs.Steps.{Steps, no_steps, events_alone}
use Rattle.ds_system.specs.EffectsOfTurns.{WritesEntry}
use Rattle.ds_system.specs.Refusals.{IsWriteFault}
use Rattle.ds_system.specs.Stands.{SystemRecord, SystemStands, SystemEventLeads}
use Rattle.ds_system.specs.Effects.{instance_at, write_event}
use Rattle.ds_system.proofs.AskLemmas.{proper_one}

-- ---- the judgement
-- the service's instance, as RS returned it for the label
pub up_from : (rs : RsRecord) (label : List ℕ) (i : ℕ) (o : Option State) (state : State) (r : Running)
    → o ≡ option_map (state_at rs) (place_of_label rs label) → place_of_label rs label ≡ Some i → o ≡ Some state → state ≡ Up r
    → state_at rs i ≡ Up r
up_from rs label i o state r told place is up =
    some (state_at rs i) state (sym (ap (option_map (state_at rs)) place) ∙ (sym told ∙ is)) ∙ up
  where
    some : (a b : State) → Some a ≡ Some b → a ≡ b
    some a b e = cc

module _ (rs : RsRecord) (numberers : List NumbererRecord) (label : List ℕ) (key : Key) (content : Body) where
  pub unknown : place_of_label rs label ≡ None → judged rs numberers label key content ≡ Err UnknownLabel
  unknown e = ap (judged_place rs numberers key content) e

  module _ (i : ℕ) (place : place_of_label rs label ≡ Some i) where
    at_place : judged rs numberers label key content ≡ cond (not (is_declared (service_at rs i) key)) (Err NotDeclared)
        (judged_state numberers key content i (state_at rs i))
    at_place = ap (judged_place rs numberers key content) place

    pub not_declared : is_declared (service_at rs i) key ≡ false → judged rs numberers label key content ≡ Err NotDeclared
    not_declared e = at_place ∙ ap (λ (b : Bool). cond (not b) (Err NotDeclared) (judged_state numberers key content i (state_at rs i))) e

    module _ (declared : is_declared (service_at rs i) key ≡ true) where
      in_state : judged rs numberers label key content ≡ judged_state numberers key content i (state_at rs i)
      in_state = at_place ∙ ap (λ (b : Bool). cond (not b) (Err NotDeclared) (judged_state numberers key content i (state_at rs i)))
          declared

      module _ (r : Running) (up : state_at rs i ≡ Up r) where
        in_up : judged rs numberers label key content ≡ judged_kind numberers key content (instance_at i r)
        in_up = in_state ∙ ap (judged_state numberers key content i) up

        pub bad_kind : is_of_kind key.kind content ≡ false → judged rs numberers label key content ≡ Err BadKind
        bad_kind e = in_up ∙ ap (λ (b : Bool). cond (not b) (Err BadKind)
            (cond (is_spent (numbers_left numberers (instance_at i r))) (Err SeqSpent) (Ok (instance_at i r)))) e

        module _ (kind : is_of_kind key.kind content ≡ true) (n : NumbererRecord) (numbers : n ≡ numbers_left numberers (instance_at i r))
          where
            in_kind : judged rs numberers label key content ≡ cond (is_spent n) (Err SeqSpent) (Ok (instance_at i r))
            in_kind =
                in_up
                ∙ (ap
                (λ (b : Bool).
                cond (not b) (Err BadKind)
                (cond (is_spent (numbers_left numberers (instance_at i r))) (Err SeqSpent) (Ok (instance_at i r))))
                kind
                ∙ ap (λ (m : NumbererRecord). cond (is_spent m) (Err SeqSpent) (Ok (instance_at i r))) (sym numbers))

            pub spent : is_spent n ≡ true → judged rs numberers label key content ≡ Err SeqSpent
            spent e = in_kind ∙ ap (λ (b : Bool). cond b (Err SeqSpent) (Ok (instance_at i r))) e

            pub drawn_so : is_spent n ≡ false → judged rs numberers label key content ≡ Ok (instance_at i r)
            drawn_so e = in_kind ∙ ap (λ (b : Bool). cond b (Err SeqSpent) (Ok (instance_at i r))) e

-- ---- the effect
change_parts : (c : ChangeRecord) → IsChange c → AreParts c.key c.version c.body
change_parts c h = record { name = h.name; epoch = h.epoch; seq = h.seq; body = h.body }

asking_proper : (caller : EndpointRecord) (key : Key) (version : Version) (content : Body) → AreParts key version content →
    IsProper (asking_for caller key version content)
asking_proper caller key version (Put value) h = h
asking_proper caller key version Gone h = h

-- the judged fault is never NoRoom
not_room : (numberers : List NumbererRecord) (key : Key) (content : Body) (it : Instance) →
    judged_kind numberers key content it ≡ Err refusals.NoRoom → ⊥
not_room numberers key content it e = by (is_of_kind key.kind content) (is_spent (numbers_left numberers it)) e
  where
    by : (kind none : Bool) → cond (not kind) (Err BadKind) (cond none (Err SeqSpent) (Ok it)) ≡ Err refusals.NoRoom → ⊥
    by false none h = cc
    by true true h = cc
    by true false h = cc

never_wanting : (rs : RsRecord) (numberers : List NumbererRecord) (label : List ℕ) (key : Key) (content : Body) →
    judged rs numberers label key content ≡ Err refusals.NoRoom → ⊥
never_wanting rs numberers label key content e = at (place_of_label rs label) e
  where
    state : (i : ℕ) (st : State) → judged_state numberers key content i st ≡ Err refusals.NoRoom → ⊥
    state i (Up r) h = not_room numberers key content (instance_at i r) h
    state i _ h = cc

    declared : (i : ℕ) (b : Bool) → cond (not b) (Err NotDeclared) (judged_state numberers key content i (state_at rs i)) ≡ Err
        refusals.NoRoom → ⊥
    declared i false h = cc
    declared i true h = state i (state_at rs i) h

    at : (o : Option ℕ) → judged_place rs numberers key content o ≡ Err refusals.NoRoom → ⊥
    at None h = cc
    at (Some i) h = declared i (is_declared (service_at rs i) key) h

judged_fault : (o : Result Instance SystemFault) (fault : SystemFault) → o ≡ Err fault → (o ≡ Err refusals.NoRoom → ⊥) →
    IsWriteFault o fault
judged_fault o refusals.NoRoom e n = absurd (n e)
judged_fault o (refusals.Service f) e n = e
judged_fault o refusals.UnknownLabel e n = e
judged_fault o refusals.NotDeclared e n = e
judged_fault o refusals.NotUp e n = e
judged_fault o refusals.BadKind e n = e
judged_fault o refusals.SeqSpent e n = e
judged_fault o refusals.NoMessage e n = e
judged_fault o refusals.NotAllowed e n = e

module _ (value : SystemRecord) (label : List ℕ) (key : Key) (side : Side) where
  judged_of : (content : Body) (s : System) → SystemStands value s →
      judged s.rs s.numberers label key content ≡ judged value.rs value.numberers label key content
  judged_of content s st = ap (λ (r : RsRecord). judged r s.numberers label key content) st.rs ∙
      ap (λ (n : List NumbererRecord). judged value.rs n label key content) st.numberers

  -- the write is refused
  refused_of : (content : Body) (fault : SystemFault) → IsWriteFault (judged value.rs value.numberers label key content) fault →
      (s : System) → SystemStands value s → IsWriteFault (judged s.rs s.numberers label key content) fault
  refused_of content fault h s st = subst (λ (o : Result Instance SystemFault). IsWriteFault o fault) (sym (judged_of content s st)) h

  refused_so : (content : Body) (fault : SystemFault) → IsWriteFault (judged value.rs value.numberers label key content) fault →
      SystemEventLeads (write_event label key content side) (Refused fault) value value
  refused_so (Put v) fault h s st =
      (s, no_steps, record { refused = refused_of (Put v) fault h s st; steps_are = refl; system_is = refl }, st, refl)
  refused_so Gone fault h s st =
      (s, no_steps, record { refused = refused_of Gone fault h s st; steps_are = refl; system_is = refl }, st, refl)

  pub write_refused : (content : Body) (fault : SystemFault) → judged value.rs value.numberers label key content ≡ Err fault →
      SystemEventLeads (write_event label key content side) (Refused fault) value value
  write_refused content fault e = refused_so content fault
      (judged_fault (judged value.rs value.numberers label key content) fault e (never_wanting value.rs value.numberers label key content))

  pub write_wanting : (content : Body) (it : Instance) → judged value.rs value.numberers label key content ≡ Ok it →
      SystemEventLeads (write_event label key content side) (Refused refusals.NoRoom) value value
  write_wanting content it e = refused_so content refusals.NoRoom (subst IsOk (sym e) refl)

  -- the write is numbered, made, and sent to the store
  module _ (content : Body) (it : Instance) (number : Version) (left : NumbererRecord) (reply : Reply) (next : WorldRecord) where
    abbrev pub written : SystemRecord
    written =
        record value
        { numberers = slice_set value.numberers it.place left; world = next; made = value.made ++ change_of key label number content ∷ [] }

    module _ (is : judged value.rs value.numberers label key content ≡ Ok it) (drawn : Gives (numbers_left value.numberers it) left number)
        (change : IsChange (change_of key label number content))
        (leads : EventLeads (Ask side (asking_for it.running.endpoint key number content)) (results.Replied reply) value.world next)
        (told : IsTold (Ask side (asking_for it.running.endpoint key number content)) (results.Replied reply) value.world next) where
      writes : (s : System) → SystemStands value s →
          (t : System) × (steps : Steps) × WritesEntry s label key content side reply steps t × SystemStands written t ×
          AreTold value.world steps.events next
      writes s st =
          let led = leads s.world st.world in
          let event = Ask side (asking_for it.running.endpoint key number content) in (
            record s {
              numberers = slice_set s.numberers it.place left;
              world = led.0;
              made =
                  s.made ++ change_of key label number content ∷ [];
            },
            events_alone ((event, results.Replied reply) ∷ []),
            record {
              instance = it;
              judged_is = judged_of content s st ∙ is;
              number = number;
              left = left;
              drawn = subst (λ (n : List NumbererRecord). Gives (numbers_left n it) left number) (sym st.numberers) drawn;
              asked =
                  record {
                    steps_are = refl;
                    proper =
                        proper_one event (results.Replied reply)
                        (asking_proper it.running.endpoint key number content
                        (change_parts (change_of key label number content) change));
                    happen = (led.0, led.1, refl);
                  };
              system_is = refl;
            },
            record {
              rs = st.rs;
              numberers = ap (λ (l : List NumbererRecord). slice_set l it.place left) st.numberers;
              world = led.2;
              file = st.file;
              net = st.net;
              made = ap (λ (l : List ChangeRecord). l ++ change_of key label number content ∷ []) st.made;
            },
            (next, leads, told, refl),
          )

  pub wrote : (content : Body) (it : Instance) (number : Version) (left : NumbererRecord) (reply : Reply) (next : WorldRecord)
      → judged value.rs value.numberers label key content ≡ Ok it → Gives (numbers_left value.numberers it) left number
      → IsChange (change_of key label number content)
      → EventLeads (Ask side (asking_for it.running.endpoint key number content)) (results.Replied reply) value.world next →
      IsTold (Ask side (asking_for it.running.endpoint key number content)) (results.Replied reply) value.world next
      → SystemEventLeads (write_event label key content side) (Replied reply) value (written content it number left reply next)
  wrote (Put v) it number left reply next is drawn change leads told = writes (Put v) it number left reply next is drawn change leads told
  wrote Gone it number left reply next is drawn change leads told = writes Gone it number left reply next is drawn change leads told
