-- The tombstones of a sweep of format 1.
use Rattle.std.proofs.Common.{◌≡◌, ℕ, ◌+◌, ◌<◌, ◌≤◌, ◌≢◌, ◌==◌, min, not, Bool, true, false, cond, List, [], ◌∷◌, ◌++◌, map, filter, take}
use Rattle.std.proofs.Common.{length, Option, Some, None}
use Rattle.std.proofs.Common.{refl, sym, ap, ◌∙◌, subst, arith, inl, inr, append-nil, append_assoc, length-append, nat_le}
use Rattle.std.specs.Int.Bits.{bit_or}
use Rattle.std.specs.FinMap.{entries}
use Rattle.std.specs.List.{All, slice_get, flat_map}
use Rattle.std.specs.Option.{option_and_then}
use Rattle.std.proofs.lemmas.Bool.{eqb-true, false≢true}
use Rattle.std.proofs.lemmas.Grind.{flat_map-append}
use Rattle.std.proofs.lemmas.List.{map-append, take_all, take_more, take-append-le}
use Rattle.std.proofs.lemmas.List.Elements.{All-nil, All-cons, All-append}
use Rattle.std.proofs.lemmas.Option.{get_or_from_slice_get, slice_get_cases, slice_get_within}
use Rattle.ds_entry.specs.Change.{ChangeRecord}
use Rattle.ds_entry.specs.declared.item.Item.{Item}
use Rattle.ds_held.specs.Limits.{LimitsRecord, IsLimits}
use Rattle.ds_held.specs.Held.{Holding, change_item, floor_item, held_changes, held_items}
use Rattle.ds_content.specs.Content.{ContentRecord}
use Rattle.ds_content.specs.Stands.{ContentStands}
use Rattle.ds_names.specs.Endpoint.{EndpointRecord, endpoint_of, is_same_endpoint, is_rs}
use Rattle.ds_names.specs.Limits.{last_place}
use Rattle.ds_machine.specs.Parts.{changes_in}
use Rattle.ds_machine.specs.State.{State, held, next_position, takes_effect, owed}
use Rattle.ds_machine.specs.declared.refusal.Refusal.{Refusal}
use Rattle.ds_machine.specs.declared.refusal.Refusal.TheVariants as refusals
use Rattle.ds_machine.specs.declared.reply.Reply.{Reply}
use Rattle.ds_machine.specs.declared.reply.Reply.TheVariants.{Swept, Refused}
use Rattle.ds_machine.proofs.ReachedLemmas.{with_accepted}
use Rattle.ds_machine.proofs.OneStepLemmas.{none_some}
use Rattle.ds_machine.specs.Batches.{AreFree}
use Rattle.ds_machine.proofs.BatchLemmas.{free_in_parts, owed_in_parts}
use Rattle.trace_walk.proofs.HeaderLemmas.{few_limits}
use Rattle.trace_walk.specs.Sweep.{is_swept, tombstone, tombstones, older_sweep}
use Rattle.trace_walk.specs.Text.{TraceEntry, entry_text}
use Rattle.trace_walk.specs.Upgrade.{MergeInParts, IsPart, IsFullPart, AreFilled, merge_entry}
use Rattle.trace_walk.specs.declared.merges.Merges.{Merges}
use Rattle.trace_walk.specs.Merging.{AreEntries, IsEmpty, taking_entry}
use Rattle.trace_walk.specs.declared.sweep.Sweep.{Sweep}
use Rattle.trace_walk.specs.Sweeping.{IsSweptInMerges, tombstone_over}

-- the tombstones for these changes
abbrev pub gone_of : List ℕ → ℕ → List ChangeRecord → List Item
gone_of owner generation cs = map (tombstone owner generation) (filter (is_swept owner generation) cs)

after_floors : (fs : List (List ℕ × ℕ)) (items : List Item) → changes_in (map floor_item fs ++ items) ≡ changes_in items
after_floors [] items = refl
after_floors (f ∷ fs) items = after_floors fs items

pub held_gone : (owner : List ℕ) (generation : ℕ) (h : Holding) →
    gone_of owner generation (held_changes h) ≡ tombstones (held_items h) owner generation
held_gone owner generation h = ap (λ (l : List ChangeRecord). gone_of owner generation l)
    (sym (after_floors (entries h.floors) (map change_item (held_changes h)) ∙ own_changes (held_changes h)))
  where
    own_changes : (cs : List ChangeRecord) → changes_in (map change_item cs) ≡ cs
    own_changes [] = refl
    own_changes (c ∷ cs) = ap (λ (l : List ChangeRecord). c ∷ l) (own_changes cs)

gone_push : (owner : List ℕ) (generation : ℕ) (cs : List ChangeRecord) (c : ChangeRecord) →
    gone_of owner generation (cs ++ c ∷ []) ≡ gone_of owner generation cs ++ cond (is_swept owner generation c)
    (tombstone owner generation c ∷ []) []
gone_push owner generation [] c = by_test (is_swept owner generation c)
  where
    by_test : (b : Bool) → map (tombstone owner generation) (cond b (c ∷ []) []) ≡ cond b (tombstone owner generation c ∷ []) []
    by_test true = refl
    by_test false = refl
gone_push owner generation (d ∷ cs) c = by_test (is_swept owner generation d) (gone_push owner generation cs c)
  where
    by_test : (b : Bool)
        → gone_of owner generation (cs ++ c ∷ [])
        ≡ gone_of owner generation cs ++ cond (is_swept owner generation c) (tombstone owner generation c ∷ []) []
        → map (tombstone owner generation)
        (cond b (d ∷ filter (is_swept owner generation) (cs ++ c ∷ [])) (filter (is_swept owner generation) (cs ++ c ∷ [])))
        ≡ map (tombstone owner generation) (cond b (d ∷ filter (is_swept owner generation) cs) (filter (is_swept owner generation) cs)) ++
        cond (is_swept owner generation c) (tombstone owner generation c ∷ []) []
    by_test true rest = ap (λ (l : List Item). tombstone owner generation d ∷ l) rest
    by_test false rest = rest

module _ (owner : List ℕ) (generation : ℕ) (cs : List ChangeRecord) (i : ℕ) where
  one_more : (c : ChangeRecord) → slice_get cs i ≡ Some c →
      gone_of owner generation (take (i + 1) cs) ≡ gone_of owner generation (take i cs) ++ cond (is_swept owner generation c)
      (tombstone owner generation c ∷ []) []
  one_more c at =
      ap (λ (l : List ChangeRecord). gone_of owner generation l)
      (take_more cs i c (slice_get_within cs i c at) ∙ ap (λ (y : ChangeRecord). take i cs ++ y ∷ []) (get_or_from_slice_get cs i c c at))
      ∙ gone_push owner generation (take i cs) c

  -- the change at the index gets one
  pub gone_added : (t : Item) → Some t ≡ option_and_then (tombstone_over owner generation) (slice_get cs i) →
      gone_of owner generation (take i cs) ++ t ∷ [] ≡ gone_of owner generation (take (i + 1) cs)
  gone_added t e = by_change (slice_get cs i) refl e
    where
      by_change : (o : Option ChangeRecord) → slice_get cs i ≡ o → Some t ≡ option_and_then (tombstone_over owner generation) o →
          gone_of owner generation (take i cs) ++ t ∷ [] ≡ gone_of owner generation (take (i + 1) cs)
      by_change None at f = absurd (none_some t (sym f))
      by_change (Some c) at f = by_test (is_swept owner generation c) refl f
        where
          by_test : (b : Bool) → is_swept owner generation c ≡ b → Some t ≡ cond b (Some (tombstone owner generation c)) None →
              gone_of owner generation (take i cs) ++ t ∷ [] ≡ gone_of owner generation (take (i + 1) cs)
          by_test true s g =
              let same : t ≡ tombstone owner generation c = cc in
              ap (λ (x : Item). gone_of owner generation (take i cs) ++ x ∷ []) same ∙
              sym (one_more c at ∙ ap (λ (b : Bool). gone_of owner generation (take i cs) ++ cond b (tombstone owner generation c ∷ []) [])
              s)
          by_test false s g = absurd (none_some t (sym g))

  -- it gets none, and there is a change
  pub gone_passed : i < length cs → None ≡ option_and_then (tombstone_over owner generation) (slice_get cs i) →
      gone_of owner generation (take i cs) ≡ gone_of owner generation (take (i + 1) cs)
  gone_passed lt e = by_change (slice_get cs i) refl e
    where
      by_change : (o : Option ChangeRecord) → slice_get cs i ≡ o → None ≡ option_and_then (tombstone_over owner generation) o →
          gone_of owner generation (take i cs) ≡ gone_of owner generation (take (i + 1) cs)
      by_change None at f = elim (slice_get_cases cs i).1 [
        | inl h ↦ absurd (none_some h.0 (sym at ∙ h.2))
        | inr h ↦ absurd (omega (arith, lt, h.0))
      ]
      by_change (Some c) at f = by_test (is_swept owner generation c) refl f
        where
          by_test : (b : Bool) → is_swept owner generation c ≡ b → None ≡ cond b (Some (tombstone owner generation c)) None →
              gone_of owner generation (take i cs) ≡ gone_of owner generation (take (i + 1) cs)
          by_test true s g = absurd (none_some (tombstone owner generation c) g)
          by_test false s g = sym (one_more c at ∙
              ap (λ (b : Bool). gone_of owner generation (take i cs) ++ cond b (tombstone owner generation c ∷ []) []) s ∙
              append-nil (gone_of owner generation (take i cs)))

-- limits have at most so many keys
pub most_keys : (l : LimitsRecord) (count : ℕ) → count ≡ l.keys → IsLimits l → count ≤ 4096
most_keys l count e is = omega (arith, e, (few_limits l is).1)

-- ---- the batches of a sweep

-- the items so far with one more batch, and what is owed for them
pub one_batch : (new : ContentRecord) (s : State) (whole part batch rest : List Item) (mask more : ℕ)
    → whole ≡ part ++ (batch ++ rest) → mask ≡ owed s part → more ≡ owed (takes_effect s part) batch
    → ContentStands new (takes_effect (takes_effect s part) batch)
    → (whole ≡ (part ++ batch) ++ rest) × ContentStands new (takes_effect s (part ++ batch)) × (bit_or mask more ≡ owed s (part ++ batch))
one_batch new s whole part batch rest mask more e m n stands = (
  e ∙ sym (append_assoc part batch rest),
  subst (λ (l : List Item). ContentStands new (with_accepted s l)) (append_assoc s.feed.accepted part batch) stands,
  ap (λ (x : ℕ). bit_or x more) m ∙ ap (λ (x : ℕ). bit_or (owed s part) x) n ∙ sym (owed_in_parts s part batch),
)

-- the Merges merge the items, and each is full if more of them are left
pub record AreMerged (s : State) (pass : ℕ) (limits : LimitsRecord) (gone rest : List Item) (merges : Merges) : Type 0 where
  pub new : List TraceEntry
  pub merge : MergeInParts s pass gone new
  pub are : AreEntries limits merges new
  pub full : 0 < length rest → All IsFullPart merge.0

none_filled : AreFilled []
none_filled front last e = absurd (omega (arith, ap length e, length-append front (last ∷ [])))

without_last : (front : List (List Item)) (last : List Item) → take (length front) (front ++ last ∷ []) ≡ front
without_last front last = take-append-le (length front) front (last ∷ []) (omega arith) ∙ take_all (length front) front (omega arith)

one_filled : (parts : List (List Item)) (batch : List Item) → All IsFullPart parts → AreFilled (parts ++ batch ∷ [])
one_filled parts batch full front last e =
    let long : length parts ≡ length front = omega
    (arith, ap length e, length-append parts (batch ∷ []), length-append front (last ∷ [])) in
    subst (All IsFullPart) (sym (without_last parts batch) ∙ ap (take (length parts)) e ∙
    ap (λ (n : ℕ). take n (front ++ last ∷ [])) long ∙ without_last front last) full

pub none_merged : (s : State) (pass : ℕ) (limits : LimitsRecord) (rest : List Item) (merges : Merges) → IsEmpty merges →
    AreMerged s pass limits [] rest merges
none_merged s pass limits rest merges is =
    record {
      new = [];
      merge = ([], All-nil IsPart, refl, refl, none_filled);
      are = record { text = is.text; counted = is.count };
      full = λ more.
          All-nil IsFullPart;
    }

pub one_merged : (s : State) (pass : ℕ) (limits : LimitsRecord) (part batch rest more : List Item) (before after : Merges) (mask : ℕ)
    → IsPart batch → 0 < length rest → (0 < length more → IsFullPart batch) → mask ≡ owed (takes_effect s part) batch
    → AreMerged s pass limits part rest before →
    after.text.items ≡ before.text.items ++ entry_text limits (taking_entry pass batch mask) → after.count ≡ before.count + 1 →
    AreMerged s pass limits (part ++ batch) more after
one_merged s pass limits part batch rest more before after mask is some fills owes x text count =
    let parts : List (List Item) = x.merge.0 in
    let entry : TraceEntry = merge_entry s pass batch in
    let last : List ℕ = entry_text limits entry in
    let same : taking_entry pass batch mask ≡ entry = ap (λ (m : ℕ). taking_entry pass batch m) owes in
    record {
      new = x.new ++ entry ∷ [];
      merge = (
        parts ++ batch ∷ [],
        All-append IsPart parts (batch ∷ []) x.merge.1 (All-cons IsPart batch [] is (All-nil IsPart)),
        flat_map-append (λ (l : List Item). l) parts (batch ∷ []) ∙ ap (λ (l : List Item). l ++ (batch ++ [])) x.merge.2 ∙
            ap (λ (l : List Item). part ++ l) (append-nil batch),
        ap (λ (l : List TraceEntry). l ++ entry ∷ []) x.merge.3 ∙ sym (map-append (merge_entry s pass) parts (batch ∷ [])),
        one_filled parts batch (x.full some),
      );
      full = λ left. All-append IsFullPart parts (batch ∷ []) (x.full some)
          (All-cons IsFullPart batch [] (fills left) (All-nil IsFullPart));
      are = record {
        text = text ∙ ap (λ (e : TraceEntry). before.text.items ++ entry_text limits e) same ∙ ap (λ (l : List ℕ). l ++ last) x.are.text
            ∙ ap (λ (l : List ℕ). flat_map (entry_text limits) x.new ++ l) (sym (append-nil last)) ∙
            sym (flat_map-append (entry_text limits) x.new (entry ∷ []));
        counted = omega (arith, length-append x.new (entry ∷ []), x.are.counted, count);
      };
    }

-- a sweep that is refused has no entries
pub none_swept : (s : State) (pass : ℕ) (limits : LimitsRecord) (sweep : Sweep) (refusal : Refusal) (merges : Merges) → IsEmpty merges →
    IsSweptInMerges s pass limits sweep (Refused refusal) merges
none_swept s pass limits sweep refusal merges is = ([], refl, record { text = is.text; counted = is.count })

-- the batch is free
pub batch_free : (s : State) (whole part batch rest : List Item) → whole ≡ part ++ (batch ++ rest) → AreFree s whole →
    AreFree (takes_effect s part) batch
batch_free s whole part batch rest e free =
    (free_in_parts (takes_effect s part) batch rest (free_in_parts s part (batch ++ rest) (subst (AreFree s) e free)).1).0

-- RS swept, and the positions were left
pub older_swept : (s : State) (caller : EndpointRecord) (owner : List ℕ) (generation : ℕ) → is_rs caller ≡ true →
    nat_le (next_position s + length (tombstones (held s) owner generation)) last_place ≡ true
    → older_sweep s caller owner generation ≡ (
      Swept (length (tombstones (held s) owner generation)) (owed s (tombstones (held s) owner generation)),
      takes_effect s
          (tombstones (held s) owner generation),
    )
older_swept s caller owner generation a b =
    let gone : List Item = tombstones (held s) owner generation in
    ap (λ (x : Bool). cond {A = Reply × State} x
    (cond (nat_le (next_position s + length gone) last_place) (Swept (length gone) (owed s gone), takes_effect s gone)
    (Refused refusals.Worn, s)) (Refused refusals.NotAllowed, s)) a
    ∙ ap (λ (x : Bool). cond {A = Reply × State} x (Swept (length gone) (owed s gone), takes_effect s gone) (Refused refusals.Worn, s)) b

pub least_some : (n m : ℕ) → n ≢ 0 → m ≡ min n 256 → 0 < m
least_some n m some e = omega (arith, some, e)

pub least_most : (n m : ℕ) → m ≡ min n 256 → m ≤ 256
least_most n m e = omega (arith, e)

pub none_left : (rest : List Item) → (length rest == 0) ≡ true → rest ≡ []
none_left [] e = refl
none_left (i ∷ rest) e = absurd (omega (arith, eqb-true (length (i ∷ rest)) 0 e))

pub caller_is : (caller rs : EndpointRecord) → rs ≡ endpoint_of 0 2 → false ≡ not (is_same_endpoint caller rs) → is_rs caller ≡ true
caller_is caller rs e f = by_test (is_same_endpoint caller rs) refl f
  where
    by_test : (b : Bool) → is_same_endpoint caller rs ≡ b → false ≡ not b → is_rs caller ≡ true
    by_test true g h = ap (λ (x : EndpointRecord). is_same_endpoint caller x) (sym e) ∙ g
    by_test false g h = absurd (false≢true h)
