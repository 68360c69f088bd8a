-- Examples in which one premise of a law of catching up, of agreement, of labels or of checks fails.
use Rattle.std.proofs.Common.{◌≡◌, ℕ, ◌≤◌, Bool, true, false, List, [], ◌∷◌, ◌++◌, take, refl, ap, sym, ◌∙◌, subst, inl, inr, arith}
use Rattle.std.proofs.Common.{is_some}
use Rattle.std.specs.Ordering.{eq_by_cmp}
use Rattle.std.specs.List.{Contains, list_any}
use Rattle.ds_names.specs.Key.{key_cmp}
use Rattle.ds_names.specs.Name.{IsName, is_name_byte, rs_name}
use Rattle.ds_names.specs.declared.key.Key.{Key}
use Rattle.ds_names.specs.declared.kind.Kind.TheVariants.{Label, U32}
use Rattle.ds_entry.specs.Change.{ChangeRecord, IsChange}
use Rattle.ds_entry.specs.Item.{IsItem}
use Rattle.ds_entry.specs.ItemCovers.{covers, AreSingleNumbered}
use Rattle.ds_entry.specs.declared.body.Value.TheVariants as values
use Rattle.ds_entry.specs.declared.body.Body.TheVariants.{Put, Gone}
use Rattle.ds_entry.specs.declared.item.Item.{Item}
use Rattle.ds_entry.specs.declared.item.Item.TheVariants.{Change as Changed}
use Rattle.ds_entry.proofs.Members.{Contains-nil, Contains-single, Contains-cons, Contains-head, Contains-tail}
use Rattle.ds_join.specs.ItemTop.{IsTop, CoversAll, tops}
use Rattle.ds_join.proofs.ItemTopLemmas.{join_is_commutative}
use Rattle.ds_replica.specs.Sent.{Sent, IsSent}
use Rattle.ds_replica.specs.CatchUp.{MapHolds}
use Rattle.ds_replica.specs.Accepting.{AreNew}
use Rattle.ds_replica.specs.Checked.{unseen_by, CheckTurn, IsCheckTurn}
use Rattle.ds_replica.specs.HolderPremises.{CatchUpNeeds, AgreementNeeds, LabelsNeed}
use Rattle.ds_replica.specs.CheckPremises.{ChecksNeed}
use Rattle.ds_replica.proofs.CheckedLemmas.{one_by_one_is_new}
use Rattle.ds_replica.proofs.Samples.{record_of, a1, a1', a2, b1, c1, floor1, feed_of, all, key_of, not_among, top_of_one, top_by}
use Rattle.ds_replica.proofs.Samples.{one_single}
use Rattle.ds_entry.specs.Left.{is_put, value_in}
use Rattle.ds_entry.specs.declared.body.Body.{Body}

-- Lists that a test distinguishes aren't equal.
differ : (test : Item → Bool) (xs ys : List Item) → list_any test xs ≡ true → list_any test ys ≡ false → xs ≡ ys → ⊥
differ test xs ys e n h = let t : true ≡ false = sym e ∙ (ap (list_any test) h ∙ n) in cc

-- ---- catching up

-- an item that stands for these
abbrev sent_for : Item → List Item → Sent
sent_for item stands_for = record { item = item; stands_for = stands_for }

is_sent : (i : Item) (stands_for : List Item) → IsTop (i ∷ []) stands_for → (s : Sent) → Contains (sent_for i stands_for ∷ []) s → IsSent s
is_sent i stands_for t s h = subst IsSent (sym (Contains-single (sent_for i stands_for) s h)) t

-- `a1` alone, and its top
one : IsTop (a1 ∷ []) (a1 ∷ [])
one = top_by (a1 ∷ []) (refl, tt)

map_of_one : MapHolds all (sent_for a1 (a1 ∷ []) ∷ []) (a1 ∷ [])
map_of_one = record { sent = is_sent a1 (a1 ∷ []) one; top = one }

pub covers_one : (j i : Item) → covers j i ≡ true → CoversAll (j ∷ []) (i ∷ [])
covers_one j i e k h = (j, Contains-head j [], subst (λ (z : Item). covers j z ≡ true) (sym (Contains-single i k h)) e)

covers_two : (k i j : Item) → covers k i ≡ true → covers k j ≡ true → CoversAll (k ∷ []) (i ∷ j ∷ [])
covers_two k i j e f l h =
    elim (Contains-cons i (j ∷ []) l h) [
      | inl q ↦ (k, Contains-head k [], subst (λ (z : Item). covers k z ≡ true) (sym q) e)
      | inr q ↦ covers_one k j f l q
    ]

-- the two changes of one version, and the top that has the first one
two : IsTop (a1' ∷ []) (a1' ∷ a1 ∷ [])
two = top_by (a1' ∷ a1 ∷ []) (refl, (refl, tt))

under_a : Key → Bool
under_a key = eq_by_cmp key_cmp key (key_of U32 97)

nothing_single : AreSingleNumbered []
nothing_single =
    record { one_change = λ c d h k e f. absurd (Contains-nil (Changed c) h); one_owner = λ c d h k e. absurd (Contains-nil (Changed c) h) }

pub catch_up_needs : CatchUpNeeds
unfolding under_a
catch_up_needs = record {
  whole = λ law.
      differ (covers a1) (a1 ∷ []) [] refl refl
      (sym (law (feed_of (a1 ∷ [])) all [] (a1 ∷ []) [] one (record { sent = λ s h. absurd (Contains-nil s h); top = top_by [] tt })
      (λ i h. absurd (Contains-nil i h)) nothing_single));
  nothing_else = λ law. differ (covers a1) (a1 ∷ []) [] refl refl
      (law (feed_of []) all (sent_for a1 (a1 ∷ []) ∷ []) [] (a1 ∷ []) (top_by [] tt) map_of_one (λ i h. absurd (Contains-nil i h))
      (one_single a1));
  numbers = λ law.
      differ is_put (a1' ∷ []) (a1 ∷ []) refl refl
      (law (feed_of (a1 ∷ [])) all (sent_for a1' (a1' ∷ a1 ∷ []) ∷ []) (a1 ∷ []) (a1' ∷ []) one
      (record { sent = is_sent a1' (a1' ∷ a1 ∷ []) two; top = two }) (λ i h. Contains-tail a1' (a1 ∷ []) i h)
      (covers_two a1 a1' a1 refl refl));
  sent = λ law.
      differ (covers b1) (a1 ∷ b1 ∷ []) (a1 ∷ []) refl refl
      (law (feed_of (a1 ∷ [])) under_a (sent_for a1 (a1 ∷ b1 ∷ []) ∷ []) (a1 ∷ []) (a1 ∷ b1 ∷ []) one
      (top_by (a1 ∷ b1 ∷ []) (refl, (refl, tt)))
      (λ i h. subst (λ (z : Item). Contains (a1 ∷ b1 ∷ []) z) (sym (Contains-single a1 i h)) (Contains-head a1 (b1 ∷ [])))
      (covers_one a1 a1 refl) (one_single a1));
  held = λ law. differ (covers a1) (a1 ∷ []) [] refl refl
      (law (feed_of []) all [] [] (a1 ∷ []) (top_by [] tt) (λ s h. absurd (Contains-nil s h)) (λ i h. absurd (Contains-nil i h))
      (λ i h. absurd (Contains-nil i h)) nothing_single);
  stored = λ law. differ (λ i. covers i a2) (a2 ∷ []) (a1 ∷ []) refl refl
      (sym (law (feed_of (a1 ∷ [])) all (sent_for a1 (a1 ∷ []) ∷ []) (a2 ∷ []) (a1 ∷ []) map_of_one (λ i h. h) (covers_one a2 a1 refl)
      (one_single a1)));
}

-- ---- agreement

pub agreement_needs : AgreementNeeds
agreement_needs = record {
  numbers = λ law.
      differ is_put (a1' ∷ []) (a1 ∷ []) refl refl
      (law all (a1' ∷ a1 ∷ []) (a1' ∷ a1 ∷ []) (a1' ∷ []) (a1 ∷ []) two
      (join_is_commutative (a1 ∷ []) (a1' ∷ []) (a1 ∷ []) (top_by (a1 ∷ a1' ∷ []) (refl, (refl, tt))))
      (record { there = λ i h. h; here = λ i h. h }));
  same = λ law. differ (covers a1) (a1 ∷ []) [] refl refl (law all (a1 ∷ []) [] (a1 ∷ []) [] one (top_by [] tt) (one_single a1));
}

-- ---- labels

-- the label `a` of RS, at an endpoint of this generation
abbrev labelled : ℕ → ChangeRecord
labelled generation =
    record {
      key = key_of Label 97;
      owner = rs_name;
      version = record { epoch = 1; seq = 0 };
      body =
          Put (values.Label (record { generation = generation; slot = 0 }));
    }

label_top : (generation : ℕ) → IsTop (Changed (labelled generation) ∷ []) (Changed (labelled generation) ∷ [])
label_top generation = top_of_one rs_name (Changed (labelled generation) ∷ []) (refl, tt)

a_is_name : IsName (97 ∷ [])
unfolding is_name_byte
a_is_name = record { some = omega arith; limit = omega arith; allowed = refl }

rs_is_name : IsName rs_name
unfolding is_name_byte
rs_is_name = record { some = omega arith; limit = omega arith; allowed = refl }

label_is_change : IsChange (labelled 1)
label_is_change = record {
  name = a_is_name;
  owner = rs_is_name;
  epoch = omega arith;
  seq = omega arith;
  body = record { generation = omega arith; slot = omega arith };
  kind = refl;
  rule = record { owner = refl; name = λ e. cc; epoch = omega arith; body = (refl, refl) };
}

pub labels_need : LabelsNeed
labels_need = record {
  label = λ law.
      let held = (law (c1 ∷ floor1 ∷ []) (floor1 ∷ []) (record_of U32 99 1 Gone) (top_by (c1 ∷ floor1 ∷ []) (refl, (tt, tt)))
      (Contains-head c1 (floor1 ∷ []))).some in
      let n : Changed held.0 ≡ floor1 = Contains-single floor1 (Changed held.0) held.1 in cc;
  items = λ law.
      let known : List Item = Changed (labelled 0) ∷ [] in
      let live = law all known known (97 ∷ []) (label_top 0) refl in
      let l : 1 ≤ 0 = live.newest (labelled 0) (Contains-head (Changed (labelled 0)) []) refl in
      omega arith;
  query = λ law.
      let known : List Item = Changed (labelled 1) ∷ [] in
      let gone = law (λ key. false) known known (97 ∷ [])
      (λ i h. subst IsItem (sym (Contains-single (Changed (labelled 1)) i h)) label_is_change) (label_top 1) (labelled 1)
      (Contains-head (Changed (labelled 1)) []) refl in
      let same : Changed gone.0 ≡ Changed (labelled 1) = Contains-single (Changed (labelled 1)) (Changed gone.0) gone.1 in
      let puts : true ≡ false = sym (ap is_put same) ∙ ap (λ (b : Body). is_some (value_in b)) gone.3 in
      cc;
}

-- ---- checks

abbrev check_by : List Item → ℕ → List Item → CheckTurn
check_by shown max accepted =
    record
    { feed = feed_of accepted; known = accepted; held = tops accepted; max = max; items = take max (unseen_by all shown (tops accepted)) }

check_is : (shown accepted more : List Item) (max : ℕ) → IsTop (tops accepted) accepted →
    IsCheckTurn (feed_of []) (feed_of (accepted ++ more)) all shown (check_by shown max accepted)
check_is shown accepted more max t = record {
  later = record { incarnation = refl; first = refl; grown = (accepted, refl) };
  front = record { incarnation = refl; first = refl; grown = (more, refl) };
  knows = λ i h. h;
  top = t;
  given = refl;
}

-- the first item of a store is new
one_is_new : AreNew [] (a1 ∷ [])
one_is_new = one_by_one_is_new.one_more [] [] a1 (one_by_one_is_new.none []) (λ j h. absurd (Contains-nil j h))

pub checks_need : ChecksNeed
checks_need = record {
  fewer = λ law. Contains-nil a1 (law (feed_of []) (feed_of (a1 ∷ [])) all (a1 ∷ []) [] (check_by [] 0 (a1 ∷ [])) refl one_is_new
      (check_is [] (a1 ∷ []) [] 0 one, tt) a1 (Contains-head a1 []));
  initial = λ law.
      Contains-nil a1
      (law (feed_of []) (feed_of (a1 ∷ [])) all (a1 ∷ []) (a1 ∷ []) [] (check_by (a1 ∷ []) 1 (a1 ∷ [])) refl one_is_new
      (check_is (a1 ∷ []) (a1 ∷ []) [] 1 one, tt) (omega arith) a1 (Contains-head a1 []));
  new = λ law.
      not_among (covers a1) (a2 ∷ []) a1 refl refl
      (law (feed_of []) (feed_of (a2 ∷ a1 ∷ [])) all (check_by [] 2 (a2 ∷ []) ∷ []) (check_by (a2 ∷ []) 2 (a2 ∷ a1 ∷ [])) (
        check_is [] (a2 ∷ []) (a1 ∷ []) 2 (top_by (a2 ∷ []) (refl, tt)),
        (check_is (a2 ∷ []) (a2 ∷ a1 ∷ []) [] 2 (top_by (a2 ∷ a1 ∷ []) (refl, (refl, tt))), tt),
      ) (omega arith) a1
      (Contains-tail a2 (a1 ∷ []) a1 (Contains-head a1 [])));
}
