-- The items of Merges, in order.
use Rattle.std.proofs.Common.{◌≡◌, ◌⊎◌, ℕ, ◌+◌, ◌-◌, ◌<◌, ◌≤◌, List, [], ◌∷◌, ◌++◌, length, take, drop, refl, ap, sym, ◌∙◌, subst, inl, inr}
use Rattle.std.proofs.Common.{arith, append-nil, append_assoc, length-append, length-drop}
use Rattle.std.specs.List.{AllByRecursion}
use Rattle.std.proofs.lemmas.List.{take-append-drop}
use Rattle.std.proofs.lemmas.List.Concat.{flat_map-append}
use Rattle.std.proofs.lemmas.List.Elements.{Contains-append_cases}
use Rattle.std.proofs.lemmas.List.Sums.{sum_by-append}
use Rattle.history.specs.declared.entry.Entry.{Entry}
use Rattle.history.specs.History.{entry, Run}
use Rattle.history.proofs.RunLemmas.{run_cut}
use Rattle.desk_rule.proofs.ListLemmas.{prefix_append, prefix_nil}
use Rattle.ds_names.specs.Limits.{most_items}
use Rattle.ds_entry.specs.declared.item.Item.{Item}
use Rattle.ds_entry.proofs.Members.{Contains-nil}
use Rattle.ds_machine.specs.State.{State}
use Rattle.ds_machine.specs.Reached.{IsReached}
use Rattle.ds_machine.specs.Says.{IsMerged}
use Rattle.ds_machine.specs.declared.command.Command.{Command}
use Rattle.ds_machine.specs.declared.command.Command.TheVariants.{Merge}
use Rattle.ds_machine.specs.declared.reply.Reply.{Reply}
use Rattle.ds_machine.specs.declared.reply.Reply.TheVariants.{Merged}
use Rattle.ds_machine.proofs.SaysLemmas.{merged_says}
use Rattle.ds_store.specs.Turns.{Answered}
use Rattle.desk_store.specs.Merged.{HoldsAll}
use Rattle.desk_store.proofs.FollowLemmas.{stays_reached}
use Rattle.desk_store.proofs.MergedLemmas.{held_stays}
use Rattle.desk_store.specs.Called.{Made, MadeCall}
use Rattle.desk_store.specs.Merging.{FailsMerging}
use Rattle.desk_store.specs.Record.{AfterEach, HasLegalHistory, PassRecord}
use Rattle.desk_store.specs.declared.call_fault.CallFault.TheVariants as calls
use Rattle.desk_store.specs.declared.merging.MergeFault.{MergeFault}
use Rattle.desk_store.specs.declared.merging.MergeFault.TheVariants as merges
use Rattle.desk_store.proofs.FaultLemmas.{fails_later}
use Rattle.desk_store.proofs.RecordLemmas.{call_last, made_more, made_none}
use Rattle.desk_store.specs.ExchangeFaults.{IsGivingFault, LeavesSome, merge_fault}
use Rattle.desk_store.specs.Giving.{AreMerges, GivesAll, GivesOnly, IsWholeMerge, all_given, taken_in_all, taken_told, items_merged}

-- ---- lists of Merges
pub given_both : (own more : List (Entry Command Reply)) → all_given (own ++ more) ≡ all_given own ++ all_given more
given_both own more = flat_map-append (λ (e : Entry Command Reply). items_merged e.command) own more

taken_both : (own more : List (Entry Command Reply)) → taken_in_all (own ++ more) ≡ taken_in_all own + taken_in_all more
taken_both own more = sum_by-append (λ (e : Entry Command Reply). taken_told e.reply) own more

whole_merges : (own : List (Entry Command Reply)) → AllByRecursion IsWholeMerge own → AreMerges own
whole_merges [] all = tt
whole_merges (e ∷ es) all = (all.0.0, inr (all.0.1, whole_merges es all.1))

merges_after : (own more : List (Entry Command Reply)) → AllByRecursion IsWholeMerge own → AreMerges more → AreMerges (own ++ more)
merges_after [] more all merges = merges
merges_after (e ∷ own) more all merges = (all.0.0, inr (all.0.1, merges_after own more all.1 merges))

whole_both : (own more : List (Entry Command Reply)) → AllByRecursion IsWholeMerge own → AllByRecursion IsWholeMerge more →
    AllByRecursion IsWholeMerge (own ++ more)
whole_both [] more all rest = rest
whole_both (e ∷ own) more all rest = (all.0, whole_both own more all.1 rest)

-- ---- what is held stays held
held_later : (p q : PassRecord) (own : List (Entry Command Reply)) (items : List Item) → Made p q own →
    AfterEach p p.history (λ t. HoldsAll t items) → AfterEach q q.history (λ t. HoldsAll t items)
held_later p q own items made held content opened s t at run =
    let cut = run_cut Answered s t p.history made.between (subst (λ (l : List (Entry Command Reply)). Run Answered s l t) made.seen run) in
    held_stays made.between cut.0 t items (stays_reached p.history s cut.0 at.reached cut.1) cut.2
    (held content (sym made.same_opening ∙ opened) s cut.0 at cut.1)

held_both : (q : PassRecord) (xs ys : List Item) → AfterEach q q.history (λ t. HoldsAll t xs) →
    AfterEach q q.history (λ t. HoldsAll t ys) → AfterEach q q.history (λ t. HoldsAll t (xs ++ ys))
held_both q xs ys a b content opened s t at run i h =
    elim (Contains-append_cases xs ys i h) [ inl k ↦ a content opened s t at run i k | inr k ↦ b content opened s t at run i k ]

legal_later : (p q r : PassRecord) → (q ≡ p) ⊎ HasLegalHistory q → (r ≡ q) ⊎ HasLegalHistory r → (r ≡ p) ⊎ HasLegalHistory r
legal_later p q r a (inr legal) = inr legal
legal_later p q r (inl e) (inl f) = inl (f ∙ e)
legal_later p q r (inr legal) (inl f) = inr (subst (λ (x : PassRecord). HasLegalHistory x) (sym f) legal)

-- ---- all items were given
pub gives_none : (p : PassRecord) → GivesAll p p [] 0
gives_none p = record {
  own = [];
  made = made_none p;
  legal = inl refl;
  merges = tt;
  items_are = refl;
  taken_is = refl;
  within = omega arith;
  held = λ content opened s t at run i h. absurd (Contains-nil i h);
}

pub gives_both : (p q r : PassRecord) (xs ys : List Item) (m n : ℕ) → GivesAll p q xs m → GivesAll q r ys n →
    GivesAll p r (xs ++ ys) (m + n)
gives_both p q r xs ys m n a b = record {
  own = a.own ++ b.own;
  made = made_more p q r a.own b.own a.made b.made;
  legal = legal_later p q r a.legal b.legal;
  merges = whole_both a.own b.own a.merges b.merges;
  items_are = given_both a.own b.own ∙ ap (λ (l : List Item). l ++ all_given b.own) a.items_are ∙
      ap (λ (l : List Item). xs ++ l) b.items_are;
  taken_is = omega (arith, a.taken_is, b.taken_is, taken_both a.own b.own);
  within = omega (arith, a.within, b.within, length-append xs ys);
  held = held_both r xs ys (held_later q r b.own xs b.made a.held) b.held;
}

-- ---- no more was called
pub only_none : (p : PassRecord) (items : List Item) → GivesOnly p p items
only_none p items = record { own = []; made = made_none p; merges = tt; in_order = prefix_nil items }

pub only_all : (p q : PassRecord) (xs ys : List Item) (m : ℕ) → GivesAll p q xs m → GivesOnly p q (xs ++ ys)
only_all p q xs ys m a =
    record
    { own = a.own; made = a.made; merges = whole_merges a.own a.merges; in_order = (ys, ap (λ (l : List Item). l ++ ys) a.items_are) }

pub only_after : (p q r : PassRecord) (xs ys : List Item) (m : ℕ) → GivesAll p q xs m → GivesOnly q r ys → GivesOnly p r (xs ++ ys)
only_after p q r xs ys m a o = record {
  own = a.own ++ o.own;
  made = made_more p q r a.own o.own a.made o.made;
  merges = merges_after a.own o.own a.merges o.merges;
  in_order = (
    o.in_order.0,
    ap (λ (l : List Item). l ++ o.in_order.0) (given_both a.own o.own) ∙ append_assoc (all_given a.own) (all_given o.own) o.in_order.0
        ∙ ap (λ (l : List Item). all_given a.own ++ l) o.in_order.1 ∙ ap (λ (l : List Item). l ++ ys) a.items_are,
  );
}

pub only_more : (p q : PassRecord) (xs ys : List Item) → GivesOnly p q xs → GivesOnly p q (xs ++ ys)
only_more p q xs ys o =
    record { own = o.own; made = o.made; merges = o.merges; in_order = prefix_append (all_given o.own) xs ys o.in_order }

-- ---- some items are left
pub leaves_rest : (p q : PassRecord) (items front rest : List Item) (m : ℕ) → GivesAll p q front m → front ++ rest ≡ items →
    most_items < length rest → LeavesSome p q items
leaves_rest p q items front rest m g whole many = record {
  own = g.own;
  made = g.made;
  merges = g.merges;
  left =
      omega (arith, many, ap (λ (l : List Item). length l) g.items_are, ap (λ (l : List Item). length l) whole, length-append front rest);
}

pub leaves_after : (p q r : PassRecord) (xs ys : List Item) (m : ℕ) → GivesAll p q xs m → LeavesSome q r ys → LeavesSome p r (xs ++ ys)
leaves_after p q r xs ys m a o = record {
  own = a.own ++ o.own;
  made = made_more p q r a.own o.own a.made o.made;
  merges = whole_both a.own o.own a.merges o.merges;
  left =
      omega (
        arith,
        o.left,
        ap (λ (l : List Item). length l) (given_both a.own o.own),
        length-append (all_given a.own) (all_given o.own),
        ap
            (λ (l : List Item). length l) a.items_are,
        length-append xs ys,
      );
}

-- ---- one Merge
module _ (p q : PassRecord) (items : List Item) (reply : Reply) (place : ℕ) (some : 0 < length items) (few : length items ≤ most_items)
    (c : MadeCall p q (Merge items) reply place) where
  call : Entry Command Reply
  call = entry p.origin.number (Merge items) reply

  pub only_called : GivesOnly p q items
  unfolding call
  only_called = record {
    own = call ∷ [];
    made = c.made;
    merges = (record { part = items; command = refl; some = some; few = few }, inl refl);
    in_order = ([], append-nil (items ++ []) ∙ append-nil items);
  }

module _ (p q : PassRecord) (items : List Item) (done taken stale owed place : ℕ) (some : 0 < length items)
    (few : length items ≤ most_items)
    (c : MadeCall p q (Merge items) (Merged done taken stale owed) place) where
  -- in each state to which what the pass has seen leads
  says : (s t : State) → IsReached s → Run Answered s q.history t → IsMerged items done taken stale t
  says s t at run =
      let last = call_last p q (Merge items) (Merged done taken stale owed) place c s t run in
      merged_says last.0 t items done taken stale owed (stays_reached (p.history ++ c.between) s last.0 at last.1) last.2.step

  pub merge_gives : GivesAll p q items taken
  merge_gives =
      let run = c.legal.legal c.legal.begun c.legal.stood in
      let m = says c.legal.begun run.0 c.legal.stood.reached run.1 in
      record {
        own = entry p.origin.number (Merge items) (Merged done taken stale owed) ∷ [];
        made = c.made;
        legal = inr c.legal;
        merges = (
          (
            record { part = items; command = refl; some = some; few = few },
            record
                { done = done; taken = taken; stale = stale; owed = owed; reply = refl },
          ),
          tt,
        );
        items_are = append-nil items;
        taken_is = omega arith;
        within = omega (arith, m.within, m.all);
        held = λ content opened s t at reached. (says s t at.reached reached).holds;
      }

pub told_gives : (p q : PassRecord) (items : List Item) (taken : ℕ) → 0 < length items → length items ≤ most_items →
    (done stale owed place : ℕ) × MadeCall p q (Merge items) (Merged done taken stale owed) place → GivesAll p q items taken
told_gives p q items taken some few t = merge_gives p q items t.0 taken t.1 t.2 t.3 some few t.4

pub told_only : (p q : PassRecord) (items : List Item) (taken : ℕ) → 0 < length items → length items ≤ most_items →
    (done stale owed place : ℕ) × MadeCall p q (Merge items) (Merged done taken stale owed) place → GivesOnly p q items
told_only p q items taken some few t = only_called p q items (Merged t.0 taken t.1 t.2) t.3 some few t.4

-- it failed
pub fails_only : (p q : PassRecord) (items : List Item) (fault : MergeFault) → 0 < length items → length items ≤ most_items →
    FailsMerging p q (Merge items) fault → GivesOnly p q items
fails_only p q items (merges.Desk fault) some few w = record { own = []; made = w.made; merges = tt; in_order = prefix_nil items }
fails_only p q items (merges.Stopped done cause) some few t = only_called p q items t.0 t.1 some few t.2

pub merge_fails : (p q r : PassRecord) (items front part : List Item) (m : ℕ) (fault : MergeFault) → GivesAll p q front m →
    FailsMerging q r (Merge part) fault → IsGivingFault p r items (merge_fault fault)
merge_fails p q r items front part m (merges.Desk fault) g w =
    fails_later p q r g.own (calls.Desk fault) g.made (record { own = []; made = w.made; cause = (w.fault_is, w.full) })
merge_fails p q r items front part m (merges.Stopped done cause) g t =
    let last : Entry Command Reply = entry q.origin.number (Merge part) t.0 in
    record { front = g.own; last = last; made = made_more p q r g.own (last ∷ []) g.made t.2.made; stopped = t.3 }

-- ---- parts of 256
module _ (rest part : List Item) (is : part ≡ take most_items rest) where
  both_are : part ++ drop most_items rest ≡ rest
  both_are = ap (λ (l : List Item). l ++ drop most_items rest) is ∙ take-append-drop most_items rest

  part_and_rest : length part + (length rest - most_items) ≡ length rest
  part_and_rest =
      omega (arith, ap (λ (l : List Item). length l) both_are, length-append part (drop most_items rest), length-drop most_items rest)

  pub part_has_some : 0 < length rest → 0 < length part
  part_has_some l = omega (arith, part_and_rest, l)

  pub part_has_few : length part ≤ most_items
  part_has_few = omega (arith, part_and_rest)

  pub part_within : length part ≤ length rest
  part_within = omega (arith, part_and_rest)

  module _ (past items front : List Item) (left : past ≡ drop most_items rest) (whole : front ++ rest ≡ items) where
    pub parts_more : (front ++ part) ++ past ≡ items
    parts_more = append_assoc front part past ∙ ap (λ (l : List Item). front ++ l) (ap (λ (l : List Item). part ++ l) left ∙ both_are) ∙
        whole

    pub only_part : (p q r : PassRecord) (m : ℕ) → GivesAll p q front m → GivesOnly q r part → GivesOnly p r items
    only_part p q r m g o = subst (λ (l : List Item). GivesOnly p r l) parts_more
        (only_more p r (front ++ part) past (only_after p q r front part m g o))

pub gives_end : (p q : PassRecord) (items front rest : List Item) (m : ℕ) → GivesAll p q front m → front ++ rest ≡ items →
    length rest ≡ 0 → GivesAll p q items m
gives_end p q items front [] m g whole none = subst (λ (l : List Item). GivesAll p q l m) (sym (append-nil front) ∙ whole) g
gives_end p q items front (x ∷ rest) m g whole none = absurd (omega (arith, none))

-- the last of them
module _ (p q r : PassRecord) (items front rest : List Item) (m : ℕ) (g : GivesAll p q front m) (whole : front ++ rest ≡ items) where
  pub gives_rest : (n : ℕ) → GivesAll q r rest n → GivesAll p r items (m + n)
  gives_rest n o = subst (λ (l : List Item). GivesAll p r l (m + n)) whole (gives_both p q r front rest m n g o)

  pub only_rest : GivesOnly q r rest → GivesOnly p r items
  only_rest o = subst (λ (l : List Item). GivesOnly p r l) whole (only_after p q r front rest m g o)

pub only_front : (p q : PassRecord) (items front rest : List Item) (m : ℕ) → GivesAll p q front m → front ++ rest ≡ items →
    GivesOnly p q items
only_front p q items front rest m g whole = subst (λ (l : List Item). GivesOnly p q l) whole (only_all p q front rest m g)
