-- What reaches a store besides new changes.
use Rattle.std.proofs.Common.{◌≡◌, ℕ, zero, suc, ◌≤◌, true, false, List, [], ◌∷◌, length, Some, None, refl, ap, sym, ◌∙◌, subst, arith}
use Rattle.std.specs.List.{slice_get}
use Rattle.ds_entry.specs.Change.{ChangeRecord, BodyCopyTakesMemory, IsChange}
use Rattle.ds_entry.specs.Item.{IsItem}
use Rattle.ds_entry.specs.declared.item.Item.TheVariants.{Change as Changed}
use Rattle.ds_entry.proofs.Members.{Contains-single}
use Rattle.ds_machine.specs.declared.command.Command.TheVariants.{Merge}
use Rattle.ds_machine.specs.declared.reply.Reply.{Reply}
use Rattle.ds_replica.specs.declared.event.Side.{Side}
use Rattle.ds_replica.specs.declared.event.Event as worlds
use Rattle.ds_replica.specs.declared.event.Event.TheVariants.{Ask, NewMap, Deliver, ClearMap, RestartStore}
use Rattle.ds_replica.specs.declared.outcome.Outcome as outcomes
use Rattle.ds_replica.specs.declared.outcome.Outcome.TheVariants as results
use Rattle.ds_replica.specs.Bringing.{IsProperEvent}
use Rattle.ds_world.specs.World.{WorldRecord}
use Rattle.ds_world.specs.Run.{EventLeads}
use Rattle.ds_world.specs.Told.{IsTold}
use Rattle.ds_system.specs.declared.event.SystemEvent.TheVariants as events
use Rattle.ds_system.specs.declared.outcome.SystemOutcome.TheVariants.{Replied, Happened, Refused}
use Rattle.ds_system.specs.declared.outcome.SystemFault.TheVariants as refusals
use Rattle.ds_system.specs.Steps.{AreProper, no_steps, events_alone, is_barred}
use Rattle.ds_system.specs.Stands.{SystemRecord, SystemEventLeads}

-- ---- parts in their ranges
pub proper_one : (event : worlds.Event) (outcome : outcomes.Outcome) → IsProperEvent event → AreProper ((event, outcome) ∷ [])
proper_one event outcome h e k = subst (λ (z : worlds.Event × outcomes.Outcome). IsProperEvent z.0)
    (sym (Contains-single (event, outcome) e k)) h

-- what the world says of an event includes its proper parts
pub told_proper : (event : worlds.Event) (outcome : outcomes.Outcome) (old new : WorldRecord) → IsTold event outcome old new →
    IsProperEvent event
told_proper (Ask side command) outcome old new told = told.0
told_proper (NewMap query) outcome old new told = tt
told_proper (Deliver k holder count) outcome old new told = tt
told_proper (ClearMap j) outcome old new told = tt
told_proper (RestartStore side incarnation) outcome old new told = tt

-- an index past the last element
past : (xs : List ChangeRecord) (k : ℕ) → slice_get xs k ≡ None → length xs ≤ k
past [] k e = omega arith
past (x ∷ xs) zero e = absurd (cc)
past (x ∷ xs) (suc k) e = let l : length xs ≤ k = past xs k e in omega arith

module _ (value : SystemRecord) where
  -- ---- a repeated change
  pub no_change : (k : ℕ) (side : Side) → slice_get value.made k ≡ None →
      SystemEventLeads (events.Again k side) (Refused refusals.NoMessage) value value
  no_change k side e s st = (
    s,
    no_steps,
    record {
      refused = subst (λ (l : List ChangeRecord). length l ≤ k) (sym st.made) (past value.made k e);
      steps_are =
          refl;
      system_is = refl;
    },
    st,
    refl,
  )

  pub no_room_again : (k : ℕ) (side : Side) (c : ChangeRecord) → slice_get value.made k ≡ Some c → BodyCopyTakesMemory c.body →
      SystemEventLeads (events.Again k side) (Refused refusals.NoRoom) value value
  no_room_again k side c e takes s st = (
    s,
    no_steps,
    record {
      refused = record {
        change = c;
        there = ap (λ (l : List ChangeRecord). slice_get l k) st.made ∙ e;
        takes =
            takes;
      };
      steps_are = refl;
      system_is = refl;
    },
    st,
    refl,
  )

  pub repeated : (k : ℕ) (side : Side) (c : ChangeRecord) (reply : Reply) (next : WorldRecord) → slice_get value.made k ≡ Some c →
      IsChange c → EventLeads (Ask side (Merge (Changed c ∷ []))) (results.Replied reply) value.world next
      → IsTold (Ask side (Merge (Changed c ∷ []))) (results.Replied reply) value.world next →
      SystemEventLeads (events.Again k side) (Replied reply) value (record value { world = next })
  repeated k side c reply next e change leads told s st =
      let led = leads s.world st.world in (
        record s { world = led.0 },
        events_alone ((Ask side (Merge (Changed c ∷ [])), results.Replied reply) ∷ []),
        record {
          change = c;
          there = ap (λ (l : List ChangeRecord). slice_get l k) st.made ∙ e;
          asked =
              record {
                steps_are = refl;
                proper = proper_one (Ask side (Merge (Changed c ∷ []))) (results.Replied reply)
                    (λ i h. subst IsItem (sym (Contains-single (Changed c) i h)) change);
                happen = (led.0, led.1, refl);
              };
          system_is = refl;
        },
        record { rs = st.rs; numberers = st.numberers; world = led.2; file = st.file; net = st.net; made = st.made },
        (next, leads, told, refl),
      )

  -- ---- an event of the world
  pub barred : (event : worlds.Event) → is_barred event ≡ true →
      SystemEventLeads (events.World event) (Refused refusals.NotAllowed) value value
  barred event e s st = (s, no_steps, record { refused = e; steps_are = refl; system_is = refl }, st, refl)

  pub passed : (event : worlds.Event) (outcome : outcomes.Outcome) (next : WorldRecord) → is_barred event ≡ false →
      EventLeads event outcome value.world next → IsTold event outcome value.world next
      → SystemEventLeads (events.World event) (Happened outcome) value (record value { world = next })
  passed event outcome next e leads told s st =
      let led = leads s.world st.world in (
        record s { world = led.0 },
        events_alone ((event, outcome) ∷ []),
        record {
          allowed = e;
          asked = record {
            steps_are = refl;
            proper =
                proper_one event outcome (told_proper event outcome value.world next told);
            happen = (led.0, led.1, refl);
          };
          system_is = refl;
        },
        record { rs = st.rs; numberers = st.numberers; world = led.2; file = st.file; net = st.net; made = st.made },
        (next, leads, told, refl),
      )
