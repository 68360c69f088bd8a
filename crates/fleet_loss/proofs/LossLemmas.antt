-- The judgement of losses.
use Rattle.std.proofs.Common.{◌≡◌, ◌⊎◌, ℕ, ◌<◌, ◌≤◌, ◌==◌, nat_lt, Bool, true, false, not, ◌||◌, ◌&&◌, List, [], ◌∷◌, refl, sym, ap, ◌∙◌}
use Rattle.std.proofs.Common.{subst, inl, inr, arith}
use Rattle.std.specs.List.{Contains, list_any}
use Rattle.std.proofs.lemmas.Bool.{ltb-true, ltb-false, eqb-true, lt-ltb, le-ltb, and_left, and_right, or_from, or_left, or_right}
use Rattle.std.proofs.lemmas.List.{length-append}
use Rattle.std.proofs.lemmas.List.Filters.{length-filter_both}
use Rattle.std.proofs.lemmas.List.Elements.{Contains-append_left}
use Rattle.history.specs.History.{Path}
use Rattle.ds_entry.proofs.Members.{Contains-single, Contains-filter, Contains-from_list_any, list_any-from_Contains}
use Rattle.fleet_loss.specs.Stream.{Stream, missing, IsRepresented, Deed, stream_after, MayDo, StreamDoes}
use Rattle.fleet_loss.specs.Stream.Deed.{Adds, Compacts}
use Rattle.fleet_loss.specs.Loss.{has_less, lacks, NoFalseAlarm, LacksAreSeen, SmallerIdsAreSeen, SameEndAlarms, CountsAreNotEnough}

-- What stays, or only grows, while a server loses nothing.
record Goes (s t : Stream) : Type 0 where
  end : s.end ≤ t.end
  bytes : (s.end < t.end) ⊎ (t.bytes ≡ s.bytes)
  missing : missing t ≡ missing s
  added : s.added ≤ t.added
  generated : s.generated ≤ t.generated
  there : (w : ℕ) → IsRepresented s w → IsRepresented t w

stays : (s : Stream) → Goes s s
stays s =
    record { end = omega arith; bytes = inr refl; missing = refl; added = omega arith; generated = omega arith; there = λ w h. h }

both_go : (s t u : Stream) → Goes s t → Goes t u → Goes s u
both_go s t u g h =
    record {
      end = (let a = g.end in let b = h.end in omega arith);
      bytes = elim h.bytes [
        | inl l ↦ inl (let a = g.end in omega arith)
        | inr e ↦ elim g.bytes [ inl l ↦ inl (let b = h.end in omega arith) | inr f ↦ inr (e ∙ f) ]
      ];
      missing = h.missing ∙ g.missing;
      added = (let a = g.added in let b = h.added in omega arith);
      generated = (let a = g.generated in let b = h.generated in omega arith);
      there = λ w q. h.there w (g.there w q);
    }

one_goes : (s : Stream) (d : Deed) → MayDo s d → Goes s (stream_after s d)
one_goes s (Adds id) m =
    record {
      end = omega arith;
      bytes = inr refl;
      missing = (let e = length-append s.entries (id ∷ []) in omega arith);
      added = omega arith;
      generated = omega arith;
      there = λ w h. elim h [ inl c ↦ inl (Contains-append_left s.entries (id ∷ []) w c) | inr l ↦ inr l ];
    }
one_goes s (Compacts p b) m =
    let l = m.0 in
    let above = λ (id : ℕ). nat_lt p id in
    let below = λ (id : ℕ). not (nat_lt p id) in
    let parts = length-filter_both above below (λ x. refl) s.entries in
    record {
      end = omega arith;
      bytes = inl l;
      missing = omega arith;
      added = omega arith;
      generated = omega arith;
      there = λ w h. by_test w h (nat_lt p w) refl;
    }
  where
    by_test : (w : ℕ) → IsRepresented s w → (c : Bool) → nat_lt p w ≡ c → IsRepresented (stream_after s (Compacts p b)) w
    by_test w (inl h) true e = inl (Contains-filter (λ id. nat_lt p id) s.entries w h e)
    by_test w (inr q) true e = let f = ltb-true p w e in let l2 = m.0 in inr (omega arith)
    by_test w h false e = inr (ltb-false p w e)

all_go : (s t : Stream) (deeds : List Deed) → Path StreamDoes s deeds t → Goes s t
all_go s t [] e = subst (λ (u : Stream). Goes s u) e (stays s)
all_go s t (d ∷ ds) path =
    let one = subst (λ (u : Stream). Goes s u) path.1.1 (one_goes s d path.1.0) in
    both_go s path.0 t one (all_go path.0 t ds path.2)

none_lacks : (t : Stream) (probes : List ℕ) → ((w : ℕ) → Contains probes w → IsRepresented t w) → list_any (lacks t) probes ≡ false
none_lacks t probes f = by_test (list_any (lacks t) probes) refl
  where
    here : (w : ℕ) → IsRepresented t w → lacks t w ≡ false
    here w (inl h) =
        and_right (nat_lt t.end w) (not (list_any (λ id. id == w) t.entries))
        (ap not (list_any-from_Contains (λ (id : ℕ). id == w) t.entries w h (grind arith)))
    here w (inr l) = and_left (nat_lt t.end w) (not (list_any (λ id. id == w) t.entries)) (le-ltb t.end w l)

    by_test : (c : Bool) → list_any (lacks t) probes ≡ c → list_any (lacks t) probes ≡ false
    by_test true e =
        let w = Contains-from_list_any (lacks t) probes e in
        let n : true ≡ false = sym w.2 ∙ here w.0 (f w.0 w.1) in
        absurd (cc)
    by_test false e = e

has_no_less : (s t : Stream) → Goes s t → has_less s t ≡ false
has_no_less s t g =
    or_from (nat_lt t.end s.end) (nat_lt (missing s) (missing t) ||
    (nat_lt t.added s.added || (nat_lt t.bytes s.bytes && not (nat_lt s.end t.end))))
    (le-ltb t.end s.end g.end)
    (or_from (nat_lt (missing s) (missing t)) (nat_lt t.added s.added || (nat_lt t.bytes s.bytes && not (nat_lt s.end t.end)))
    (le-ltb (missing s) (missing t) (let e = g.missing in omega arith))
    (or_from (nat_lt t.added s.added) (nat_lt t.bytes s.bytes && not (nat_lt s.end t.end))
    (le-ltb t.added s.added g.added)
    (elim g.bytes [
      | inl l ↦ and_right (nat_lt t.bytes s.bytes) (not (nat_lt s.end t.end)) (ap not (lt-ltb s.end t.end l))
      | inr e ↦ and_left (nat_lt t.bytes s.bytes) (not (nat_lt s.end t.end)) (le-ltb t.bytes s.bytes (omega arith))
    ])))

pub no_false_alarm : NoFalseAlarm
no_false_alarm s t deeds read probes path r there =
    let g = all_go s t deeds path in
    or_from (nat_lt t.generated read) (has_less s t || list_any (lacks t) probes)
    (le-ltb t.generated read (let e = g.generated in omega arith))
    (or_from (has_less s t) (list_any (lacks t) probes) (has_no_less s t g) (none_lacks t probes (λ w h. g.there w (there w h))))

pub lacks_are_seen : LacksAreSeen
lacks_are_seen s t read w probes h n l =
    or_right (nat_lt t.generated read) (has_less s t || list_any (lacks t) probes)
    (or_right (has_less s t) (list_any (lacks t) probes)
    (list_any-from_Contains (lacks t) probes w h
    (both (nat_lt t.end w) (list_any (λ id. id == w) t.entries) (lt-ltb t.end w l) (absent (list_any (λ id. id == w) t.entries) refl))))
  where
    both : (a b : Bool) → a ≡ true → b ≡ false → a && not b ≡ true
    both true false e f = refl
    both true true e f = absurd (cc)
    both false b e f = absurd (cc)

    absent : (c : Bool) → list_any (λ id. id == w) t.entries ≡ c → list_any (λ id. id == w) t.entries ≡ false
    absent true e =
        let id = Contains-from_list_any (λ (id : ℕ). id == w) t.entries e in
        absurd (n (subst (λ (x : ℕ). Contains t.entries x) (eqb-true id.0 w id.2) id.1))
    absent false e = e

pub same_end_alarms : SameEndAlarms
same_end_alarms = (record { entries = []; generated = 1; end = 1; bytes = 2; added = 1; trimmed = 1 }, 1, refl)

pub smaller_ids_are_seen : SmallerIdsAreSeen
smaller_ids_are_seen s t read probes l =
    or_left (nat_lt t.generated read) (has_less s t || list_any (lacks t) probes) (lt-ltb t.generated read l)

-- A stream of one entry, and no snapshot.
one_entry : ℕ → Stream
one_entry id = record { entries = id ∷ []; generated = id; end = 0; bytes = 0; added = 1; trimmed = 0 }

pub counts_are_not_enough : CountsAreNotEnough
unfolding one_entry
counts_are_not_enough = (one_entry 1, one_entry 2, refl, apart, refl, refl, refl)
  where
    apart : (w : ℕ) → Contains (1 ∷ []) w → Contains (2 ∷ []) w → ⊥
    apart w h k = let e = Contains-single 1 w h in let f = Contains-single 2 w k in omega arith
