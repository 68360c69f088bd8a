-- Stores that read each other, and some that don't.
use Rattle.std.proofs.Common.{◌≡◌, ◌⊎◌, Bool, true, List, [], ◌∷◌, refl, sym, ◌∙◌, subst, inl, inr, Contains}
use Rattle.ds_names.specs.declared.key.Key.{Key}
use Rattle.ds_entry.specs.ItemCovers.{covers}
use Rattle.ds_entry.specs.Under.{under}
use Rattle.ds_entry.specs.declared.item.Item.{Item}
use Rattle.ds_entry.proofs.Members.{Contains-cons, Contains-head, Contains-nil, Contains-single, Contains-tail}
use Rattle.ds_join.specs.ItemTop.{IsPartOf}
use Rattle.ds_machine.specs.Reached.{AreExact}
use Rattle.ds_pattern.specs.declared.query.Query.{Query}
use Rattle.ds_pattern.specs.Under.{is_under}
use Rattle.ds_replica.specs.Rows.{ended, irq, one}
use Rattle.ds_replica.specs.Sent.{given, stood_for}
use Rattle.ds_replica.proofs.SentLemmas.{Contains-from_under, Contains-under, given_stands}
use Rattle.ds_reader.specs.ReadWhole.{IsReadWhole}
use Rattle.holders.specs.Holding.{StoreOf, all_held}
use Rattle.holders.specs.Readers.{AreReadFrom, HasRead, Reader}
use Rattle.holders.specs.ReaderPremises.{NothingElseIsNeeded, ReaderPremisesHold, ReadersMeet, ReadingIsNeeded}
use Rattle.holders.proofs.PremiseLemmas.{both_exact, one_exact}
use Rattle.holders.proofs.StoreRowLemmas.{both_known, both_reached, content_of, empty, floor_known, nothing_merged, one_known}
use Rattle.holders.proofs.StoreRowLemmas.{with_both, with_floor, with_one}

-- ---- the readers

abbrev idle : Reader
idle = record { holder = StoreOf (content_of empty); before = []; known = []; knows = nothing_merged; kept = λ i h. h }

-- A store that was brought an entry, before or meanwhile.
abbrev told_before : Reader
told_before = record { holder = StoreOf (content_of with_one); before = one ∷ []; known = one ∷ []; knows = one_known; kept = λ i h. h }

abbrev told_meanwhile : Reader
told_meanwhile = record {
  holder = StoreOf (content_of with_one);
  before = [];
  known = one ∷ [];
  knows = one_known;
  kept = λ i h. absurd (Contains-nil i h);
}

-- Two of which one holds the entry and the other holds nothing.
differ : (query : Query) → is_under query irq ≡ true → under (is_under query) (all_held told_before.holder) ≡
    under (is_under query) (all_held idle.holder) → ⊥
differ query passes same =
    let here : Contains (under (is_under query) (one ∷ [])) one =
    Contains-under (is_under query) (one ∷ []) one (Contains-head one []) passes in
    Contains-nil one (subst (λ (l : List Item). Contains l one) same here)

still_part : (query : Key → Bool) (xs ys : List Item) → IsPartOf xs ys → IsPartOf (under query xs) (under query ys)
still_part query xs ys part i h = let k = Contains-from_under query xs i h in Contains-under query ys i (part i k.0) k.1

pub reading_is_needed : ReadingIsNeeded
reading_is_needed query passes law =
    differ query passes
    (law (told_before ∷ idle ∷ []) exact nothing_else told_before idle (Contains-head told_before (idle ∷ []))
    (Contains-tail told_before (idle ∷ []) idle (Contains-head idle [])))
  where
    exact : AreExact (under (is_under query) (one ∷ []))
    exact i j h k e f = one_exact i j (Contains-from_under (is_under query) (one ∷ []) i h).0
        (Contains-from_under (is_under query) (one ∷ []) j k).0 e f

    part : (r : Reader) → (r ≡ told_before) ⊎ (r ≡ idle) → IsPartOf r.known (one ∷ [])
    part r (inl is) i h = subst (λ (x : Reader). Contains x.known i) is h
    part r (inr is) i h = absurd (Contains-nil i (subst (λ (x : Reader). Contains x.known i) is h))

    nothing_else : (r : Reader) → Contains (told_before ∷ idle ∷ []) r →
        IsPartOf (under (is_under query) r.known) (under (is_under query) (one ∷ []))
    nothing_else r h = still_part (is_under query) r.known (one ∷ []) (part r (elim (Contains-cons told_before (idle ∷ []) r h)
        [ inl is ↦ inl is | inr k ↦ inr (Contains-single idle r k) ]))

pub nothing_else_is_needed : NothingElseIsNeeded
nothing_else_is_needed query passes law =
    differ query passes
    (law (told_meanwhile ∷ idle ∷ []) (λ i j h k e f. absurd (Contains-nil i h)) each told_meanwhile idle
    (Contains-head told_meanwhile (idle ∷ [])) (Contains-tail told_meanwhile (idle ∷ []) idle (Contains-head idle [])))
  where
    none : (r : Reader) → (r ≡ told_meanwhile) ⊎ (r ≡ idle) → under (is_under query) r.before ≡ []
    none r (inl is) = subst (λ (x : Reader). under (is_under query) x.before ≡ []) (sym is) refl
    none r (inr is) = subst (λ (x : Reader). under (is_under query) x.before ≡ []) (sym is) refl

    each : (from to : Reader) → Contains (told_meanwhile ∷ idle ∷ []) from → Contains (told_meanwhile ∷ idle ∷ []) to →
        HasRead query from to
    each from to h k = inr (inl (none from (elim (Contains-cons told_meanwhile (idle ∷ []) from h)
        [ inl is ↦ inl is | inr l ↦ inr (Contains-single idle from l) ])))

-- ---- a store that reads another

abbrev both : List Item
both = one ∷ ended ∷ []

abbrev source : Reader
source = record { holder = StoreOf (content_of with_both); before = both; known = both; knows = both_known; kept = λ i h. h }

abbrev target : Reader
target = record {
  holder = StoreOf (content_of with_floor);
  before = [];
  known = ended ∷ [];
  knows = floor_known;
  kept = λ i h. absurd (Contains-nil i h);
}

floor_there : Contains both ended
floor_there = Contains-tail one (ended ∷ []) ended (Contains-head ended [])

floor_part : IsPartOf (ended ∷ []) both
floor_part i h = subst (λ (x : Item). Contains both x) (sym (Contains-single ended i h)) floor_there

module _ (query : Query) where
  read_whole : IsReadWhole with_both query (ended ∷ [])
  read_whole = record {
    among = λ i h. subst (λ (x : Item). Contains (under (is_under query) both) x) (sym (Contains-single ended i h))
        (Contains-under (is_under query) both ended floor_there refl);
    whole = λ i h. stands i (Contains-from_under (is_under query) both i h).0;
  }
    where
      covered : (i : Item) → Contains both i → covers ended i ≡ true
      covered i h = elim (Contains-cons one (ended ∷ []) i h) [
        | inl is ↦ subst (λ (x : Item). covers ended x ≡ true) (sym is) refl
        | inr k ↦ subst (λ (x : Item). covers ended x ≡ true) (sym (Contains-single ended i k)) refl
      ]

      stands : (i : Item) → Contains both i → Contains (stood_for (given both (ended ∷ []))) i
      stands i h = given_stands both (ended ∷ []) i ended (Contains-head ended []) h (covered i h)

  read_from : AreReadFrom query both (ended ∷ [])
  read_from = record {
    holder = StoreOf (content_of with_both);
    known = both;
    knows = both_known;
    has = λ i h. h;
    state = with_both;
    reached = both_reached;
    held_is = refl;
    read = read_whole;
  }

  of_two : (r : Reader) → Contains (source ∷ target ∷ []) r → (r ≡ source) ⊎ (r ≡ target)
  of_two r h = elim (Contains-cons source (target ∷ []) r h) [ inl is ↦ inl is | inr k ↦ inr (Contains-single target r k) ]

  has_read : (from to : Reader) → (from ≡ source) ⊎ (from ≡ target) → (to ≡ source) ⊎ (to ≡ target) → HasRead query from to
  has_read from to (inr is) there =
      inr (inl (subst (λ (x : Reader). under (is_under query) x.before ≡ []) (sym is) refl))
  has_read from to (inl is) (inl there) = inl (is ∙ sym there)
  has_read from to (inl is) (inr there) =
      subst (λ (x : Reader). HasRead query x to) (sym is)
      (subst (λ (x : Reader). HasRead query source x) (sym there) (inr (inr (ended ∷ [], read_from, λ i h. h))))

  known_part : (r : Reader) → (r ≡ source) ⊎ (r ≡ target) → IsPartOf r.known both
  known_part r (inl is) = subst (λ (x : Reader). IsPartOf x.known both) (sym is) (λ i h. h)
  known_part r (inr is) = subst (λ (x : Reader). IsPartOf x.known both) (sym is) floor_part

  exact_under : AreExact (under (is_under query) both)
  exact_under i j h k e f = both_exact i j (longer i (Contains-from_under (is_under query) both i h).0)
      (longer j (Contains-from_under (is_under query) both j k).0) e f
    where
      longer : (x : Item) → Contains both x → Contains (one ∷ ended ∷ ended ∷ []) x
      longer x l = elim (Contains-cons one (ended ∷ []) x l) [
        | inl is ↦ subst (λ (z : Item). Contains (one ∷ ended ∷ ended ∷ []) z) (sym is) (Contains-head one (ended ∷ ended ∷ []))
        | inr m ↦ Contains-tail one (ended ∷ ended ∷ []) x (Contains-tail ended (ended ∷ []) x m)
      ]

  readers_meet : ReadersMeet query
  readers_meet = record {
    first = source;
    second = target;
    have = record {
      each = λ from to h k. has_read from to (of_two from h) (of_two to k);
      nothing_else = λ r h. still_part (is_under query) r.known both (known_part r (of_two r h));
    };
    exact = exact_under;
    before = (refl, refl);
    known = refl;
    held = refl;
  }

pub reader_premises_hold : ReaderPremisesHold
reader_premises_hold query = readers_meet query
