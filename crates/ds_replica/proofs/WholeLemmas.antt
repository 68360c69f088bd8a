-- Snapshots and journals are whole.
use Rattle.std.proofs.Common.{◌≡◌, ℕ, ◌-◌, ◌≤◌, List, [], ◌∷◌, ◌++◌, take, length, refl, sym, ap, ◌∙◌, subst, append_assoc, append-nil}
use Rattle.std.proofs.Common.{arith}
use Rattle.std.specs.List.{Contains}
use Rattle.std.proofs.lemmas.List.{take-append-le, take-take}
use Rattle.ds_entry.specs.declared.item.Item.{Item}
use Rattle.ds_entry.proofs.Members.{Contains-nil, Contains-from_take}
use Rattle.ds_entry.proofs.ItemLemmas.{covers-query}
use Rattle.ds_join.specs.ItemTop.{IsPartOf}
use Rattle.ds_feed.specs.Feed.{Feed, position}
use Rattle.ds_replica.specs.Front.{IsFront}
use Rattle.ds_replica.specs.Whole.{before}
use Rattle.ds_replica.specs.WholeLaws.{SnapshotIsWhole, NothingIsWhole, MoreIsWhole, EarlierIsWhole, NarrowerIsWhole, WholeStays, FeedsGrow}
use Rattle.ds_replica.proofs.SentLemmas.{Contains-under, Contains-from_under, kept, given_stands, stood_wider}
use Rattle.ds_entry.specs.Under.{under}

pub snapshot_is_whole : SnapshotIsWhole
snapshot_is_whole f known held scope query top knows keep i h =
    let k = Contains-from_under query (before f (position f)) i h in
    let accepted : Contains f.accepted i = Contains-from_take (position f - f.first) f.accepted i k.0 in
    let d = top.greatest i accepted in
    given_stands known (under scope held) i d.0
    (Contains-under scope held d.0 d.1 (kept scope query keep d.0 (covers-query query d.0 i d.2 k.1))) (knows i accepted) d.2

-- ---- more, earlier, narrower

nothing_before : (f : Feed) (r : ℕ) → r ≤ f.first → before f r ≡ []
nothing_before f r l = let n : r - f.first ≡ 0 = omega arith in ap (λ (m : ℕ). take m f.accepted) n

pub nothing_is_whole : NothingIsWhole
nothing_is_whole f query items r l i h =
    let none : Contains [] i = subst (λ (xs : List Item). Contains (under query xs) i) (nothing_before f r l) h in
    absurd (Contains-nil i none)

pub more_is_whole : MoreIsWhole
more_is_whole f query items more r wider w i h = stood_wider items more wider i (w i h)

-- what took effect before an earlier position did so before a later one
pub before_part : (f : Feed) (p r : ℕ) → p ≤ r → IsPartOf (before f p) (before f r)
before_part f p r l i h =
    let n : p - f.first ≤ r - f.first = omega arith in
    Contains-from_take (p - f.first) (before f r) i
    (subst (λ (xs : List Item). Contains xs i) (sym (take-take (p - f.first) (r - f.first) f.accepted n)) h)

pub earlier_is_whole : EarlierIsWhole
earlier_is_whole f query items p r l w i h =
    let k = Contains-from_under query (before f p) i h in
    w i (Contains-under query (before f r) i (before_part f p r l i k.0) k.1)

pub narrower_is_whole : NarrowerIsWhole
narrower_is_whole f query narrow items r keep w i h =
    let k = Contains-from_under narrow (before f r) i h in
    w i (Contains-under query (before f r) i k.0 (kept query narrow keep i k.1))

-- ---- later

-- What took effect before a position that was reached took effect before it later too, and nothing else did.
pub before_later : (f late : Feed) (r : ℕ) → IsFront f late → r ≤ position f → before late r ≡ before f r
before_later f late r g l =
    let first : late.first ≡ f.first = g.first in
    let n : r - f.first ≤ length f.accepted = omega arith in
    ap (λ (k : ℕ). take (r - k) late.accepted) first ∙
    (ap (take (r - f.first)) g.grown.1 ∙ take-append-le (r - f.first) f.accepted g.grown.0 n)

pub whole_stays : WholeStays
whole_stays f late query items r g l w i h = w i (subst (λ (xs : List Item). Contains (under query xs) i) (before_later f late r g l) h)

pub front_same : (f : Feed) → IsFront f f
front_same f = record { incarnation = refl; first = refl; grown = ([], sym (append-nil f.accepted)) }

pub front_later : (f g h : Feed) → IsFront f g → IsFront g h → IsFront f h
front_later f g h a b = record {
  incarnation = b.incarnation ∙ a.incarnation;
  first = b.first ∙ a.first;
  grown = (
    a.grown.0 ++ b.grown.0,
    b.grown.1 ∙ (ap (λ (l : List Item). l ++ b.grown.0) a.grown.1 ∙
        append_assoc f.accepted a.grown.0 b.grown.0),
  );
}

pub feeds_grow : FeedsGrow
feeds_grow = record {
  one_more = λ f i. record { incarnation = refl; first = refl; grown = (i ∷ [], refl) };
  same = front_same;
  later = front_later;
}
