-- What the journal returns, reply by reply, is whole.
use Rattle.std.proofs.Common.{◌≡◌, ℕ, ◌+◌, ◌-◌, ◌≤◌, ◌==◌, min, not, Bool, true, false, cond, List, [], ◌∷◌, ◌++◌, take, drop, length, Some}
use Rattle.std.proofs.Common.{None, refl, sym, ap, ◌∙◌, subst, inl, inr, ◌⊎◌, append-nil, arith}
use Rattle.std.specs.Prelude.{nat_lt}
use Rattle.std.specs.List.{Contains, filter}
use Rattle.std.proofs.lemmas.Bool.{ltb-false}
use Rattle.std.proofs.lemmas.List.{take_all, take-take, take-append-drop, drop-take, length-take, length-drop}
use Rattle.std.proofs.lemmas.List.Elements.{Contains-append_cases}
use Rattle.ds_names.specs.declared.key.Key.{Key}
use Rattle.ds_entry.specs.Item.{passes}
use Rattle.ds_entry.specs.ItemCovers.{covers}
use Rattle.ds_entry.specs.declared.item.Item.{Item}
use Rattle.ds_entry.proofs.Members.{Contains-filter, Contains-from_filter, Contains-from_take, Contains-from_drop}
use Rattle.ds_entry.proofs.ItemLemmas.{covers-refl}
use Rattle.ds_join.specs.ItemTop.{IsPartOf}
use Rattle.ds_feed.specs.declared.cursor.Cursor.{Cursor}
use Rattle.ds_feed.specs.declared.journal.SinceFault.TheVariants.{OldCursor, Ahead, Behind}
use Rattle.ds_feed.specs.declared.reading.Since.{Since}
use Rattle.ds_feed.specs.Feed.{Feed, position, from}
use Rattle.ds_feed.specs.Since.{piece, fault_at, IsGiven}
use Rattle.ds_feed.proofs.LawLemmas.{prefix_is_shortest}
use Rattle.ds_replica.specs.Sent.{Sent, given, stood_for}
use Rattle.ds_replica.specs.Front.{IsFront}
use Rattle.ds_replica.specs.Whole.{before, IsWhole}
use Rattle.ds_replica.specs.Journaled.{SinceTurn, IsSinceTurn, AreSince, since_items, cursor_after}
use Rattle.ds_replica.specs.TurnLaws.{FewerReachTheEnd}
use Rattle.ds_replica.specs.WholeLaws.{SinceExtends, SincesExtend}
use Rattle.ds_replica.proofs.SentLemmas.{Contains-under, Contains-from_under, kept, given_stands, stood_left, stood_right}
use Rattle.ds_replica.proofs.WholeLemmas.{before_part, before_later, front_same}

-- ---- fronts

-- Everything that took effect did so before the next position.
pub all_before : (f : Feed) → before f (position f) ≡ f.accepted
all_before f = take_all (position f - f.first) f.accepted (omega arith)

-- A feed at an earlier time is what took effect before its position then.
pub front_is : (f late : Feed) → IsFront f late → before late (position f) ≡ f.accepted
front_is f late g = before_later f late (position f) g (omega arith) ∙ all_before f

-- of two earlier times, what took effect by the one of the smaller position did by the other
pub front_part : (f g late : Feed) → IsFront f late → IsFront g late → position f ≤ position g → IsPartOf f.accepted g.accepted
front_part f g late a b l i h =
    let early : Contains (before late (position f)) i = subst (λ (xs : List Item). Contains xs i) (sym (front_is f late a)) h in
    subst (λ (xs : List Item). Contains xs i) (front_is g late b) (before_part late (position f) (position g) l i early)

-- ---- one reply

-- A cursor that the journal answers is within what took effect.
record IsReached (f : Feed) (p : ℕ) : Type 0 where
  low : f.first ≤ p
  high : p ≤ position f

reached : (f : Feed) (at : Cursor) → fault_at f at ≡ None → IsReached f at.position
reached f at e = by_tests (at.incarnation == f.incarnation) (nat_lt (position f) at.position)
    (nat_lt (at.position + min f.ring (length f.accepted)) (position f)) refl refl e
  where
    by_tests : (same ahead past : Bool) → nat_lt (position f) at.position ≡ ahead →
        nat_lt (at.position + min f.ring (length f.accepted)) (position f) ≡ past →
        cond (not same) (Some OldCursor) (cond ahead (Some Ahead) (cond past (Some Behind) None)) ≡ None → IsReached f at.position
    by_tests false ahead past a b e = cc
    by_tests true true past a b e = cc
    by_tests true false true a b e = cc
    by_tests true false false a b e =
        let high : at.position ≤ position f = ltb-false (position f) at.position a in
        let low : position f ≤ at.position + min f.ring (length f.accepted) =
        ltb-false (at.position + min f.ring (length f.accepted)) (position f) b in
        record { low = omega arith; high = high }

-- What took effect before the returned cursor did so before the requested one, or is in the piece.
split_at : (n m : ℕ) (xs : List Item) (i : Item) → Contains (take (n + m) xs) i → Contains (take n xs) i ⊎ Contains (take m (drop n xs)) i
split_at n m xs i h =
    elim (Contains-append_cases (take n (take (n + m) xs)) (drop n (take (n + m) xs)) i
    (subst (λ (l : List Item). Contains l i) (sym (take-append-drop n (take (n + m) xs))) h)) [
      | inl k ↦ inl (subst (λ (l : List Item). Contains l i) (take-take n (n + m) xs (omega arith)) k)
      | inr k ↦ inr (subst (λ (l : List Item). Contains l i) (drop-take n m xs) k)
    ]

piece_is : (f : Feed) (test : Item → Bool) (at : Cursor) (max : ℕ) →
    piece f test at max ≡ take (length (piece f test at max)) (from f at.position)
piece_is f test at max = (prefix_is_shortest test max (from f at.position)).front

-- The returned cursor isn't past what took effect, nor before the requested one.
given_within : (f : Feed) (test : Item → Bool) (at : Cursor) (max : ℕ) (since : Since) → IsGiven f test at max since →
    (since.cursor.position ≤ position f) × (at.position ≤ since.cursor.position)
given_within f test at max since g =
    let r = reached f at g.reached in
    let low : f.first ≤ at.position = r.low in
    let high : at.position ≤ position f = r.high in
    let n = length (piece f test at max) in
    let c : since.cursor.position ≡ at.position + n = ap (λ (s : Since). s.cursor.position) g.given in
    let l : n ≡ min n (length (from f at.position)) = ap length (piece_is f test at max) ∙ length-take n (from f at.position) in
    let m : length (from f at.position) ≡ length f.accepted - (at.position - f.first) = length-drop (at.position - f.first) f.accepted in
    (omega arith, omega arith)

-- A reply with fewer items than were asked for has everything that is left.
pub fewer_reach_the_end : FewerReachTheEnd
fewer_reach_the_end f test at max since g few = by_piece (prefix_is_shortest test max (from f at.position)).full_or_all
  where
    by_piece : (length (filter test (piece f test at max)) ≡ max) ⊎ (piece f test at max ≡ from f at.position) →
        since.cursor.position ≡ position f
    by_piece (inl full) =
        let n : length since.items ≡ length (filter test (piece f test at max)) = ap (λ (s : Since). length s.items) g.given in
        absurd (omega (arith, n, full, few))
    by_piece (inr all) =
        let r = reached f at g.reached in
        let low : f.first ≤ at.position = r.low in
        let high : at.position ≤ position f = r.high in
        let c : since.cursor.position ≡ at.position + length (piece f test at max) = ap (λ (s : Since). s.cursor.position) g.given in
        let rest = length-drop (at.position - f.first) f.accepted in
        let l : length (piece f test at max) ≡ length f.accepted - (at.position - f.first) = ap (λ (x : List Item). length x) all ∙ rest in
        omega arith

given_splits : (f : Feed) (test : Item → Bool) (at : Cursor) (max : ℕ) (since : Since) → IsGiven f test at max since → (i : Item) →
    test i ≡ true →
    Contains (before f since.cursor.position) i → Contains (before f at.position) i ⊎ Contains since.items i
given_splits f test at max since g i q h =
    elim (split_at (at.position - f.first) n f.accepted i (subst (λ (k : ℕ). Contains (take k f.accepted) i) place h)) [
      | inl k ↦ inl k
      | inr k ↦ inr (subst (λ (l : List Item). Contains l i) (sym items)
          (Contains-filter test (piece f test at max) i (subst (λ (l : List Item). Contains l i) (sym (piece_is f test at max)) k) q))
    ]
  where
    n : ℕ
    n = length (piece f test at max)

    items : since.items ≡ filter test (piece f test at max)
    items = ap (λ (s : Since). s.items) g.given

    place : since.cursor.position - f.first ≡ (at.position - f.first) + length (piece f test at max)
    place =
        let low : f.first ≤ at.position = (reached f at g.reached).low in
        let c : since.cursor.position ≡ at.position + length (piece f test at max) = ap (λ (s : Since). s.cursor.position) g.given in
        omega arith

-- What is returned took effect.
pub given_accepted : (f : Feed) (test : Item → Bool) (at : Cursor) (max : ℕ) (since : Since) → IsGiven f test at max since →
    IsPartOf since.items f.accepted
given_accepted f test at max since g i h =
    let k = Contains-from_filter test (piece f test at max) i
    (subst (λ (l : List Item). Contains l i) (ap (λ (s : Since). s.items) g.given) h) in
    let there : Contains (take (length (piece f test at max)) (from f at.position)) i =
    subst (λ (l : List Item). Contains l i) (piece_is f test at max) k.0 in
    Contains-from_drop (at.position - f.first) f.accepted i (Contains-from_take (length (piece f test at max)) (from f at.position) i there)

-- ---- reply by reply

-- the item took effect by an earlier time than the cursor's, or is the other one
abbrev pub IsEarly : Feed → Cursor → Item → Item → Type 0
IsEarly f at d c = ((b : Feed) × IsFront b f × (position b ≤ at.position) × Contains b.accepted c) ⊎ (c ≡ d)

module _ (f : Feed) (scope : Key → Bool) where
  turn_ends : (at : Cursor) (t : SinceTurn) → IsSinceTurn f scope at t →
      (t.since.cursor.position ≤ position t.feed) × (at.position ≤ t.since.cursor.position)
  turn_ends at t s = given_within t.feed (passes scope) at t.max t.since s.given

  -- A store that returned an item knew what is early for it.
  knew : (at : Cursor) (t : SinceTurn) (d c : Item) → IsSinceTurn f scope at t → IsEarly f at d c → Contains t.since.items d →
      Contains t.known c
  knew at t d c s (inl e) h =
      let ends = turn_ends at t s in
      let low : position e.0 ≤ at.position = e.2 in
      let on : at.position ≤ t.since.cursor.position = ends.1 in
      let high : t.since.cursor.position ≤ position t.feed = ends.0 in
      s.knows c (front_part e.0 t.feed f e.1 s.front (omega arith) c e.3)
  knew at t d c s (inr e) h = s.knows c (subst (λ (z : Item). Contains t.feed.accepted z) (sym e)
      (given_accepted t.feed (passes scope) at t.max t.since s.given d h))

  still_early : (at : Cursor) (t : SinceTurn) (d c : Item) → IsSinceTurn f scope at t → IsEarly f at d c → IsEarly f t.since.cursor d c
  still_early at t d c s (inl e) = let on : at.position ≤ t.since.cursor.position = (turn_ends at t s).1 in
      let low : position e.0 ≤ at.position = e.2 in inl (e.0, e.1, omega arith, e.3)
  still_early at t d c s (inr e) = inr e

  -- An item that took effect before the last cursor did so before the first one, or the replies stand for each early
  -- item that it covers.
  pub journal_covers : (at : Cursor) (ts : List SinceTurn) (d c : Item) → AreSince f scope at ts → passes scope d ≡ true →
      covers d c ≡ true → IsEarly f at d c → Contains (before f (cursor_after at ts).position) d →
      Contains (before f at.position) d ⊎ Contains (stood_for (since_items ts)) c
  journal_covers at [] d c s q e early h = inl h
  journal_covers at (t ∷ ts) d c s q e early h =
      elim (journal_covers t.since.cursor ts d c s.1 q e (still_early at t d c s.0 early) h)
      [ inl k ↦ earlier k | inr k ↦ inr (stood_right (given t.known t.since.items) (since_items ts) c k) ]
    where
      at_front : (p : ℕ) → p ≤ position t.feed → before f p ≡ before t.feed p
      at_front p l = before_later t.feed f p s.0.front l

      by_piece : Contains (before t.feed at.position) d ⊎ Contains t.since.items d →
          Contains (before f at.position) d ⊎ Contains (stood_for (given t.known t.since.items ++ since_items ts)) c
      by_piece (inl k) =
          let ends = turn_ends at t s.0 in
          let high : t.since.cursor.position ≤ position t.feed = ends.0 in
          let on : at.position ≤ t.since.cursor.position = ends.1 in
          inl (subst (λ (l : List Item). Contains l d) (sym (at_front at.position (omega arith))) k)
      by_piece (inr k) = inr (stood_left (given t.known t.since.items) (since_items ts) c
          (given_stands t.known t.since.items c d k (knew at t d c s.0 early k) e))

      earlier : Contains (before f t.since.cursor.position) d →
          Contains (before f at.position) d ⊎ Contains (stood_for (given t.known t.since.items ++ since_items ts)) c
      earlier k =
          by_piece (given_splits t.feed (passes scope) at t.max t.since s.0.given d q
          (subst (λ (l : List Item). Contains l d) (at_front t.since.cursor.position (turn_ends at t s.0).0) k))

  pub journal_stands : (at : Cursor) (ts : List SinceTurn) (d : Item) → AreSince f scope at ts → passes scope d ≡ true →
      Contains (before f (cursor_after at ts).position) d →
      Contains (before f at.position) d ⊎ Contains (stood_for (since_items ts)) d
  journal_stands at ts d s q h = journal_covers at ts d d s q (covers-refl d) (inr refl) h

pub sinces_extend : SincesExtend
sinces_extend f scope query items at turns keep s w i h =
    let k = Contains-from_under query (before f (cursor_after at turns).position) i h in
    elim (journal_stands f scope at turns i s (kept scope query keep i k.1) k.0) [
      | inl l ↦ stood_left items (since_items turns) i (w i (Contains-under query (before f at.position) i l k.1))
      | inr l ↦ stood_right items (since_items turns) i l
    ]

pub since_extends : SinceExtends
since_extends f known scope query items at max since knows keep g w =
    let turn : SinceTurn = record { feed = f; known = known; max = max; since = since } in
    let one : given known since.items ++ [] ≡ given known since.items = append-nil (given known since.items) in
    subst (λ (l : List Sent). IsWhole f query (items ++ l) since.cursor.position) one
    (sinces_extend f scope query items at (turn ∷ []) keep (record { front = front_same f; knows = knows; given = g }, tt) w)
