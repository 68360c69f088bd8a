-- How checks and replies of the journal grow, one by one.
use Rattle.std.proofs.Common.{◌≡◌, Bool, List, [], ◌∷◌, ◌++◌, map, take, refl, ap, sym, ◌∙◌, subst, append_assoc, append-nil}
use Rattle.std.specs.List.{Contains}
use Rattle.std.proofs.lemmas.List.{map-append}
use Rattle.std.proofs.lemmas.List.Elements.{Contains-append_left}
use Rattle.ds_names.specs.declared.key.Key.{Key}
use Rattle.ds_entry.specs.Item.{passes}
use Rattle.ds_entry.specs.declared.item.Item.{Item}
use Rattle.ds_entry.proofs.Members.{Contains-from_filter, Contains-from_take}
use Rattle.ds_join.specs.ItemTop.{IsPartOf}
use Rattle.ds_feed.specs.declared.cursor.Cursor.{Cursor}
use Rattle.ds_feed.specs.Feed.{Feed, position}
use Rattle.ds_replica.specs.Sent.{Sent, given, sent_by}
use Rattle.ds_replica.specs.Front.{IsFront}
use Rattle.ds_replica.specs.Whole.{IsWhole}
use Rattle.ds_replica.specs.Checked.{CheckTurn, IsCheckTurn, AreChecks, check_items, unseen_by}
use Rattle.ds_replica.specs.Journaled.{SinceTurn, IsSinceTurn, AreSince, since_items, cursor_after}
use Rattle.ds_replica.specs.Gathered.{checked, journaled}
use Rattle.ds_replica.specs.TurnLaws.{check_knowing, since_knowing, ChecksGrow, SincesGrow, CheckedIsWhole}
use Rattle.ds_replica.proofs.WholeLemmas.{feeds_grow}
use Rattle.ds_replica.proofs.JournalLemmas.{given_accepted}
use Rattle.ds_replica.proofs.CheckedLemmas.{checks_are_whole}
use Rattle.ds_join.proofs.ItemTopLemmas.{part_union}

-- ---- what is among what was accepted

pub part_of_later : (xs : List Item) (f late : Feed) → IsFront f late → IsPartOf xs f.accepted → IsPartOf xs late.accepted
part_of_later xs f late front p i h = subst (λ (l : List Item). Contains l i) (sym front.grown.1)
    (Contains-append_left f.accepted front.grown.0 i (p i h))

pub part_of_nothing : (all : List Item) → IsPartOf [] all
part_of_nothing all i h = Contains-append_left [] all i h

pub given_both : (known xs ys : List Item) → given known (xs ++ ys) ≡ given known xs ++ given known ys
given_both known xs ys = map-append (sent_by known) xs ys

-- ---- checks
checks_later : (early f late : Feed) (query : Key → Bool) (shown : List Item) (turns : List CheckTurn) → IsFront f late →
    AreChecks early f query shown turns → AreChecks early late query shown turns
checks_later early f late query shown [] front h = tt
checks_later early f late query shown (t ∷ ts) front h = (
  record {
    later = h.0.later;
    front = feeds_grow.later t.feed f late h.0.front front;
    knows = h.0.knows;
    top = h.0.top;
    given =
        h.0.given;
  },
  checks_later early f late query (shown ++ t.items) ts front h.1,
)

one_check_more : (early f : Feed) (query : Key → Bool) (shown : List Item) (turns : List CheckTurn) (t : CheckTurn) →
    AreChecks early f query shown turns →
    IsCheckTurn early f query (shown ++ checked turns) t → AreChecks early f query shown (turns ++ t ∷ [])
one_check_more early f query shown [] t h k = (subst (λ (l : List Item). IsCheckTurn early f query l t) (append-nil shown) k, tt)
one_check_more early f query shown (u ∷ us) t h k = (
  h.0,
  one_check_more early f query (shown ++ u.items) us t h.1
      (subst (λ (l : List Item). IsCheckTurn early f query l t) (sym (append_assoc shown u.items (checked us))) k),
)

checked_more : (turns : List CheckTurn) (t : CheckTurn) → checked (turns ++ t ∷ []) ≡ checked turns ++ t.items
checked_more [] t = append-nil t.items
checked_more (u ∷ us) t = ap (λ (l : List Item). u.items ++ l) (checked_more us t) ∙ sym (append_assoc u.items (checked us) t.items)

check_among : (early f : Feed) (query : Key → Bool) (shown : List Item) (t : CheckTurn) → IsCheckTurn early f query shown t →
    IsPartOf t.items f.accepted
check_among early f query shown t h =
    part_of_later t.items t.feed f h.front (λ i k.
    (let u : Contains (take t.max (unseen_by query shown t.held)) i = subst (λ (l : List Item). Contains l i) h.given k in
    h.top.among i (Contains-from_filter _ t.held i (Contains-from_take t.max (unseen_by query shown t.held) i u)).0))

checks_among : (early f : Feed) (query : Key → Bool) (shown : List Item) (turns : List CheckTurn) → AreChecks early f query shown turns →
    IsPartOf (checked turns) f.accepted
checks_among early f query shown [] h = part_of_nothing f.accepted
checks_among early f query shown (t ∷ ts) h =
    part_union t.items (checked ts) f.accepted (check_among early f query shown t h.0)
    (checks_among early f query (shown ++ t.items) ts h.1)

checks_knowing : (early f : Feed) (query : Key → Bool) (shown known : List Item) (turns : List CheckTurn) → IsPartOf f.accepted known →
    AreChecks early f query shown turns → AreChecks early f query shown (map (check_knowing known) turns)
checks_knowing early f query shown known [] p h = tt
checks_knowing early f query shown known (t ∷ ts) p h = (
  record {
    later = h.0.later;
    front = h.0.front;
    knows = λ i k. p i (part_of_later t.feed.accepted t.feed f h.0.front (λ j l. l) i k);
    top =
        h.0.top;
    given = h.0.given;
  },
  checks_knowing early f query (shown ++ t.items) known ts p h.1,
)

checks_known : (known : List Item) (turns : List CheckTurn) → check_items (map (check_knowing known) turns) ≡ given known (checked turns)
checks_known known [] = refl
checks_known known (t ∷ ts) = ap (λ (l : List Sent). given known t.items ++ l) (checks_known known ts) ∙
    sym (given_both known t.items (checked ts))

pub checks_grow : ChecksGrow
checks_grow =
    record {
      later = checks_later;
      one_more = one_check_more;
      items_more = checked_more;
      among = checks_among;
      knowing =
          checks_knowing;
      items_known = checks_known;
    }

pub checked_is_whole : CheckedIsWhole
checked_is_whole early f query since turns last e new are is few =
    let known = f.accepted in
    let all = checks_knowing early f query [] known (turns ++ last ∷ []) (λ i h. h) (one_check_more early f query [] turns last are is) in
    let split : map (check_knowing known) (turns ++ last ∷ []) ≡ map (check_knowing known) turns ++ check_knowing known last ∷ [] =
    map-append (check_knowing known) turns (last ∷ []) in
    let law = checks_are_whole early f query since (map (check_knowing known) turns) (check_knowing known last) e new
    (subst (AreChecks early f query []) split all) few in
    let same : check_items (map (check_knowing known) turns ++ check_knowing known last ∷ []) ≡ given known (checked turns ++ last.items) =
    ap check_items (sym split) ∙ (checks_known known (turns ++ last ∷ []) ∙ ap (given known) (checked_more turns last)) in
    subst (λ (l : List Sent). IsWhole f query l (position last.feed)) same law

-- ---- replies of the journal
sinces_later : (f late : Feed) (scope : Key → Bool) (at : Cursor) (turns : List SinceTurn) → IsFront f late → AreSince f scope at turns →
    AreSince late scope at turns
sinces_later f late scope at [] front h = tt
sinces_later f late scope at (t ∷ ts) front h = (
  record { front = feeds_grow.later t.feed f late h.0.front front; knows = h.0.knows; given = h.0.given },
  sinces_later f late scope
      t.since.cursor ts front h.1,
)

one_since_more : (f : Feed) (scope : Key → Bool) (at : Cursor) (turns : List SinceTurn) (t : SinceTurn) → AreSince f scope at turns →
    IsSinceTurn f scope (cursor_after at turns) t → AreSince f scope at (turns ++ t ∷ [])
one_since_more f scope at [] t h k = (k, tt)
one_since_more f scope at (u ∷ us) t h k = (h.0, one_since_more f scope u.since.cursor us t h.1 k)

journaled_more : (turns : List SinceTurn) (t : SinceTurn) → journaled (turns ++ t ∷ []) ≡ journaled turns ++ t.since.items
journaled_more [] t = append-nil t.since.items
journaled_more (u ∷ us) t = ap (λ (l : List Item). u.since.items ++ l) (journaled_more us t) ∙
    sym (append_assoc u.since.items (journaled us) t.since.items)

cursor_more : (at : Cursor) (turns : List SinceTurn) (t : SinceTurn) → cursor_after at (turns ++ t ∷ []) ≡ t.since.cursor
cursor_more at [] t = refl
cursor_more at (u ∷ us) t = cursor_more u.since.cursor us t

sinces_among : (f : Feed) (scope : Key → Bool) (at : Cursor) (turns : List SinceTurn) → AreSince f scope at turns →
    IsPartOf (journaled turns) f.accepted
sinces_among f scope at [] h = part_of_nothing f.accepted
sinces_among f scope at (t ∷ ts) h =
    part_union t.since.items (journaled ts) f.accepted
    (part_of_later t.since.items t.feed f h.0.front (given_accepted t.feed (passes scope) at t.max t.since h.0.given))
    (sinces_among f scope t.since.cursor ts h.1)

pub sinces_knowing : (f : Feed) (scope : Key → Bool) (at : Cursor) (known : List Item) (turns : List SinceTurn) →
    IsPartOf f.accepted known → AreSince f scope at turns → AreSince f scope at (map (since_knowing known) turns)
sinces_knowing f scope at known [] p h = tt
sinces_knowing f scope at known (t ∷ ts) p h = (
  record { front = h.0.front; knows = λ i k. p i (part_of_later t.feed.accepted t.feed f h.0.front (λ j l. l) i k); given = h.0.given },
  sinces_knowing f scope t.since.cursor known ts p h.1,
)

pub sinces_known : (known : List Item) (turns : List SinceTurn) →
    since_items (map (since_knowing known) turns) ≡ given known (journaled turns)
sinces_known known [] = refl
sinces_known known (t ∷ ts) = ap (λ (l : List Sent). given known t.since.items ++ l) (sinces_known known ts) ∙
    sym (given_both known t.since.items (journaled ts))

pub cursor_known : (at : Cursor) (known : List Item) (turns : List SinceTurn) →
    cursor_after at (map (since_knowing known) turns) ≡ cursor_after at turns
cursor_known at known [] = refl
cursor_known at known (t ∷ ts) = cursor_known t.since.cursor known ts

pub sinces_grow : SincesGrow
sinces_grow =
    record {
      later = sinces_later;
      one_more = one_since_more;
      items_more = journaled_more;
      cursor_more = cursor_more;
      among =
          sinces_among;
      knowing = sinces_knowing;
      items_known = sinces_known;
      cursor_known = cursor_known;
    }
