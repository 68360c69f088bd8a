-- States that a trace leads to.
use Rattle.std.proofs.Common.{◌≡◌, ℕ, ◌+◌, ◌<◌, ◌≤◌, ◌^◌, Bool, true, false, cond, nat_le, List, [], ◌∷◌, length, take, Some, Contains, inl}
use Rattle.std.proofs.Common.{inr, refl, sym, ap, subst, append-nil, append_assoc}
use Rattle.std.proofs.lemmas.Bool.{leb-true}
use Rattle.std.proofs.lemmas.List.Elements.{All-contains, Contains-append_cases}
use Rattle.std.proofs.lemmas.Option.{same_Some}
use Rattle.ds_names.specs.Endpoint.{EndpointRecord, is_rs}
use Rattle.ds_names.specs.Name.{IsName}
use Rattle.ds_entry.specs.declared.floor.Floor.{Floor}
use Rattle.ds_entry.specs.declared.item.Item.{Item}
use Rattle.ds_entry.specs.declared.item.Item.TheVariants.{Change as Changed, Floor as Floored}
use Rattle.ds_entry.proofs.Members.{Contains-nil, Contains-single, Contains-from_take}
use Rattle.ds_join.specs.ItemTop.{IsPartOf}
use Rattle.ds_machine.specs.Effect.{known_after, brought_by}
use Rattle.ds_names.specs.Limits.{last_place}
use Rattle.ds_machine.specs.Machine.{Step, Answers, outcome}
use Rattle.ds_machine.specs.Merging.{Course, course}
use Rattle.ds_machine.specs.Reached.{IsReached}
use Rattle.ds_machine.specs.State.{State, held, next_position, takes_effect, owed}
use Rattle.ds_machine.specs.declared.command.Command.{Command}
use Rattle.ds_machine.specs.declared.command.Command.TheVariants.{Publish, Delete, Sweep, Retrieve, NameOf, Subscribe, Check, Since}
use Rattle.ds_machine.specs.declared.command.Command.TheVariants.{Snapshot, Page, Merge}
use Rattle.ds_machine.specs.declared.refusal.Refusal.TheVariants as refusals
use Rattle.ds_machine.specs.declared.reply.Reply.{Reply}
use Rattle.ds_machine.specs.declared.reply.Reply.TheVariants.{Changed as Accepted, Known, Swept, Merged, MergeStopped, Refused}
use Rattle.ds_machine.proofs.CourseLemmas.{reached_grown}
use Rattle.ds_machine.proofs.EffectLemmas.{begun_went}
use Rattle.ds_machine.proofs.KnownLemmas.{steps_stay_reached, steps_go_on}
use Rattle.ds_machine.proofs.ReachedLemmas.{held_is_top, with_accepted}
use Rattle.ds_machine.specs.Within.{IsWithin}
use Rattle.ds_machine.proofs.WithinLemmas.{steps_stay_within}
use Rattle.ds_replica.specs.Bringing.{IsProper}
use Rattle.ds_replica.specs.CaughtUp.{AreItems}
use Rattle.ds_replica.proofs.BringLemmas.{learnt_items}
use Rattle.ds_replica.proofs.GoneLemmas.{step_accepts}
use Rattle.ds_machine.proofs.OneStepLemmas.{none_some}
use Rattle.script_commands.specs.Command.{IsCommand, store_command}
use Rattle.script_commands.proofs.ProperLemmas.{line_proper}
use Rattle.script_commands.specs.declared.command.ScriptCommand.{ScriptCommand}
use Rattle.script_commands.specs.declared.command.ScriptCommand.TheVariants as lines
use Rattle.ds_machine.specs.Batches.{AreFree}
use Rattle.ds_machine.specs.Taken.{HasNoFloor, all_taken}
use Rattle.ds_machine.proofs.TakenLemmas.{free_are_taken}
use Rattle.trace_walk.specs.declared.asked.Asked.{Asked}
use Rattle.trace_walk.specs.declared.asked.Asked.TheVariants as askeds
use Rattle.trace_walk.specs.declared.header.Format.{Format}
use Rattle.trace_walk.specs.declared.header.Format.TheVariants.{One, Two}
use Rattle.trace_walk.specs.Legal.{StepOf}
use Rattle.trace_walk.specs.OneReply.{IsTraced, TracedStays}
use Rattle.trace_walk.specs.Sweep.{older_sweep, tombstones}
use Rattle.trace_walk.specs.Text.{MayAsk, MayMerge, Carries, CarriesLine, command_asked}
use Rattle.trace_walk.proofs.TombstoneLemmas.{tombstones_are_free, tombstones_are_taken, tombstones_are_items, no_floor_tombstone}

-- ---- what an entry brings

pub asked_proper : (format : Format) (pass : ℕ) (asked : Asked) (command : Command) → MayAsk format pass asked →
    command_asked asked ≡ Some command → IsProper command
asked_proper format pass (askeds.Line c) command may e = line_proper c command may.0 e
asked_proper format pass (askeds.Merge items) command may e =
    subst IsProper (same_Some (Merge items) command e) (λ i h. (All-contains (MayMerge format) items i may.1 h).0)

-- an entry of format 1 brings no floor, except a sweep, which differs there
abbrev BringsNoFloor : Command → Type 0
BringsNoFloor (Sweep caller owner generation) = Unit {0}
BringsNoFloor (Merge items) = (f : Floor) → Contains items (Floored f) → ⊥
BringsNoFloor _ = Unit {0}

not_carried : (i : Item) (f : Floor) → Carries One i → Floored f ≡ i → ⊥
not_carried (Changed c) f carries e = let q : Floored f ≡ Changed c = e in cc
not_carried (Floored g) f carries e = carries

line_brings : (c : ScriptCommand) (command : Command) → IsCommand c → CarriesLine One c → store_command c ≡ Some command →
    BringsNoFloor command
line_brings (lines.Offer i) command is carries e =
    subst BringsNoFloor (same_Some (Merge (i ∷ [])) command e) (λ f h. not_carried i f carries (Contains-single i (Floored f) h))
line_brings (lines.Store (Merge items)) command is carries e = absurd is
line_brings (lines.Store asked) command is carries e = subst BringsNoFloor (same_Some asked command e) tt
line_brings _ command is carries e = absurd (none_some command e)

asked_brings : (pass : ℕ) (asked : Asked) (command : Command) → MayAsk One pass asked → command_asked asked ≡ Some command →
    BringsNoFloor command
asked_brings pass (askeds.Line c) command may e = line_brings c command may.0 may.2 e
asked_brings pass (askeds.Merge items) command may e =
    subst BringsNoFloor (same_Some (Merge items) command e)
    (λ f h. not_carried (Floored f) f (All-contains (MayMerge One) items (Floored f) may.1 h).1 refl)

-- ---- a step of the machine

-- what was accepted before, or was learnt
known_part : (reply : Reply) (items : List Item) → IsPartOf (known_after reply items) items
known_part (Accepted mask) items i h = h
known_part Known items i h = h
known_part (Swept count mask) items i h = h
known_part (Merged done taken stale mask) items i h = h
known_part (MergeStopped done fault mask) items i h = Contains-from_take done items i h
known_part _ items i h = absurd (Contains-nil i h)

step_items : (s t : State) (command : Command) (reply : Reply) → IsReached s → AreItems s.feed.accepted → IsProper command →
    Step s command reply t → AreItems t.feed.accepted
step_items s t command reply r items proper step i h = elim (step_accepts s t command reply r step i h) [
  | inl k ↦ items i k
  | inr k ↦ learnt_items s t command reply (λ j m. items j ((held_is_top s r).among j m)) proper step i k
]

step_floors : (s t : State) (command : Command) (reply : Reply) → IsReached s → HasNoFloor s →
    ((f : Floor) → Contains (brought_by s command) (Floored f) → ⊥) → Step s command reply t → HasNoFloor t
step_floors s t command reply r floors none step f h = elim (step_accepts s t command reply r step (Floored f) h) [
  | inl k ↦ floors f k
  | inr k ↦ none f (known_part reply (brought_by s command) (Floored f) k)
]

no_floor_here : (c : Item) (f : Floor) → ((g : Floor) → c ≡ Floored g → ⊥) → Contains (c ∷ []) (Floored f) → ⊥
no_floor_here c f other h = other f (sym (Contains-single c (Floored f) h))

-- the run of the store is one
run_stays : (s t : State) (command : Command) (reply : Reply) → IsReached s → s.feed.incarnation < 2 ^ 64 → Step s command reply t →
    t.feed.incarnation < 2 ^ 64
run_stays s t command reply r few step = subst (λ (n : ℕ). n < 2 ^ 64) (sym (steps_go_on s t command reply r step).incarnation) few

-- items that are free in order leave a state within the limits, however many they are
free_within : (s : State) (items : List Item) → IsWithin s → AreFree s items → IsWithin (takes_effect s items)
free_within s [] w free = subst IsWithin (ap (with_accepted s) (sym (append-nil s.feed.accepted))) w
free_within s (i ∷ items) w free =
    let taken : course s (i ∷ []) ≡ all_taken s (i ∷ []) = free_are_taken s (i ∷ []) (free.0, tt) in
    let step : Step s (Merge (i ∷ [])) (outcome s (Merge (i ∷ []))).0 (takes_effect s (i ∷ [])) = inl
    (inl (record { reply_is = refl; state_is = ap (λ (k : Course). k.state) (sym taken) })) in
    let one : IsWithin (takes_effect s (i ∷ [])) =
    steps_stay_within s (takes_effect s (i ∷ [])) (Merge (i ∷ [])) (outcome s (Merge (i ∷ []))).0 w step in
    subst IsWithin (ap (with_accepted s) (append_assoc s.feed.accepted (i ∷ []) items))
    (free_within (takes_effect s (i ∷ [])) items one free.1)

stays_two : (s t : State) (command : Command) (reply : Reply) → IsTraced Two s → IsProper command → Step s command reply t → IsTraced Two t
stays_two s t command reply traced proper step =
    record {
      reached = steps_stay_reached s t command reply traced.reached step;
      items = step_items s t command reply traced.reached traced.items proper step;
      floors = tt;
      within = steps_stay_within s t command reply traced.within step;
      incarnation = run_stays s t command reply traced.reached traced.incarnation step;
    }

stays_one : (s t : State) (command : Command) (reply : Reply) → IsTraced One s → IsProper command →
    ((f : Floor) → Contains (brought_by s command) (Floored f) → ⊥) → Step s command reply t → IsTraced One t
stays_one s t command reply traced proper none step =
    record {
      reached = steps_stay_reached s t command reply traced.reached step;
      items = step_items s t command reply traced.reached traced.items proper step;
      floors = step_floors s t command reply traced.reached traced.floors none step;
      within = steps_stay_within s t command reply traced.within step;
      incarnation = run_stays s t command reply traced.reached traced.incarnation step;
    }

-- ---- a sweep of format 1

module _ (s : State) (owner : List ℕ) (generation : ℕ) (traced : IsTraced One s) (name : IsName owner) (few : generation ≤ 2097151) where
  abbrev gone : List Item
  gone = tombstones (held s) owner generation

  swept_stays : next_position s + length gone ≤ last_place → IsTraced One (takes_effect s gone)
  swept_stays left =
      let taken = tombstones_are_taken s owner generation traced.reached traced.items traced.floors left in
      let w = begun_went s gone traced.reached in
      let grown : IsReached (course s gone).state = reached_grown s (course s gone).state (take w.count gone) traced.reached w.grows in
      record {
        reached = subst (λ (k : _). IsReached k.state) taken grown;
        items = λ i h. elim (Contains-append_cases s.feed.accepted gone i h)
            [ inl k ↦ traced.items i k | inr k ↦ tombstones_are_items s owner generation traced.reached traced.items name few i k ];
        floors = λ f h. elim (Contains-append_cases s.feed.accepted gone (Floored f) h)
            [ inl k ↦ traced.floors f k | inr k ↦ no_floor_tombstone s owner generation f k ];
        within = free_within s gone traced.within (tombstones_are_free s owner generation traced.reached traced.items traced.floors left);
        incarnation = traced.incarnation;
      }

  older_stays : (caller : EndpointRecord) → IsTraced One (older_sweep s caller owner generation).1
  older_stays caller = by_tests (is_rs caller) (nat_le (next_position s + length gone) last_place) refl
    where
      by_tests : (a b : Bool)
          → nat_le (next_position s + length gone) last_place ≡ b
          → IsTraced One
          (cond {A = Reply × State} a
          (cond b (Swept (length gone) (owed s gone), takes_effect s gone) (Refused refusals.Worn, s))
          (Refused refusals.NotAllowed, s)).1
      by_tests true true e = swept_stays (leb-true (next_position s + length gone) last_place e)
      by_tests true false e = traced
      by_tests false b e = traced

  answers_stay : (t : State) (caller : EndpointRecord) (reply : Reply) → Answers s (older_sweep s caller owner generation) reply t →
      IsTraced One t
  answers_stay t caller reply (inl a) = subst (IsTraced One) (sym a.state_is) (older_stays caller)
  answers_stay t caller reply (inr w) = subst (IsTraced One) (sym w.state_is) traced

-- ---- each step

stays_by : (s t : State) (command : Command) (reply : Reply) → IsTraced One s → IsProper command → BringsNoFloor command →
    StepOf One s command reply t → IsTraced One t
stays_by s t (Sweep caller owner generation) reply traced proper none x =
    answers_stay s owner generation traced proper.owner proper.generation t caller reply x
stays_by s t (Publish caller key version value overwrite) reply traced proper none x =
    stays_one s t (Publish caller key version value overwrite) reply traced proper (λ f h. no_floor_here _ f (λ g e. cc) h) x
stays_by s t (Delete caller key version) reply traced proper none x =
    stays_one s t (Delete caller key version) reply traced proper (λ f h. no_floor_here _ f (λ g e. cc) h) x
stays_by s t (Retrieve key) reply traced proper none x =
    stays_one s t (Retrieve key) reply traced proper (λ f h. Contains-nil (Floored f) h) x
stays_by s t (NameOf endpoint) reply traced proper none x =
    stays_one s t (NameOf endpoint) reply traced proper (λ f h. Contains-nil (Floored f) h) x
stays_by s t (Subscribe sub query initial overwrite) reply traced proper none x =
    stays_one s t (Subscribe sub query initial overwrite) reply traced proper (λ f h. Contains-nil (Floored f) h) x
stays_by s t (Check sub max) reply traced proper none x =
    stays_one s t (Check sub max) reply traced proper (λ f h. Contains-nil (Floored f) h) x
stays_by s t (Since scope at max) reply traced proper none x =
    stays_one s t (Since scope at max) reply traced proper (λ f h. Contains-nil (Floored f) h) x
stays_by s t (Snapshot scope) reply traced proper none x =
    stays_one s t (Snapshot scope) reply traced proper (λ f h. Contains-nil (Floored f) h) x
stays_by s t (Page scope after max) reply traced proper none x =
    stays_one s t (Page scope after max) reply traced proper (λ f h. Contains-nil (Floored f) h) x
stays_by s t (Merge items) reply traced proper none x = stays_one s t (Merge items) reply traced proper none x

pub traced_stays : TracedStays
traced_stays Two pass asked command s t reply traced may e x =
    stays_two s t command reply traced (asked_proper Two pass asked command may e) x
traced_stays One pass asked command s t reply traced may e x =
    stays_by s t command reply traced (asked_proper One pass asked command may e) (asked_brings pass asked command may e) x
