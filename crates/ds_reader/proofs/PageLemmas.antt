-- The pages of a reader are whole, with the items of the journal.
use Rattle.std.proofs.Common.{◌≡◌, ◌≢◌, ℕ, ◌+◌, ◌≤◌, Bool, true, false, List, [], ◌∷◌, ◌++◌, length, Option, Some, None, refl, ap, sym, ◌∙◌}
use Rattle.std.proofs.Common.{subst, arith, append_assoc}
use Rattle.std.specs.Option.{unwrap_or}
use Rattle.std.proofs.lemmas.List.{length_push}
use Rattle.std.proofs.lemmas.List.Elements.{All-nil, All-push}
use Rattle.ds_names.specs.declared.key.Key.{Key}
use Rattle.ds_entry.specs.declared.item.Item.{Item}
use Rattle.ds_entry.specs.Under.{under}
use Rattle.ds_join.specs.ItemTop.{IsPartOf}
use Rattle.ds_feed.specs.declared.cursor.Cursor.{Cursor}
use Rattle.ds_feed.specs.declared.reading.Page.{Page}
use Rattle.ds_feed.specs.Feed.{Feed}
use Rattle.ds_feed.specs.Page.{page_of}
use Rattle.ds_pattern.specs.Under.{is_under}
use Rattle.ds_replica.specs.Sent.{given}
use Rattle.ds_replica.specs.Whole.{IsWhole}
use Rattle.ds_replica.specs.Journaled.{AreSince, cursor_after}
use Rattle.ds_replica.specs.Paged.{PageTurn, IsPageTurn, last_key}
use Rattle.ds_replica.specs.OpenPages.{AreOpenPages, key_after, position_after, first_cursor}
use Rattle.ds_replica.specs.Gathered.{journaled, paged}
use Rattle.ds_machine.specs.Scope.{is_kept}
use Rattle.ds_machine.specs.State.{State, held, cursor, next_position}
use Rattle.ds_machine.specs.Effect.{GoesOn}
use Rattle.ds_machine.specs.declared.command.Scope.TheVariants.{Under}
use Rattle.ds_reader.specs.Asked.{Went}
use Rattle.ds_reader.specs.GivesUp.{AreAllOpen, ArePaged, IsPagedMore}
use Rattle.ds_reader.specs.Laws.{ReaderLaws}
use Rattle.ds_reader.specs.CaughtUp.{IsCaughtUp}
use Rattle.ds_reader.specs.ReadWhole.{AreRead, IsReadWhole}
use Rattle.ds_reader.specs.declared.reading.Reading.{Reading}
use Rattle.ds_reader.proofs.StateLemmas.{no_earlier, went_on, went_reached}
use Rattle.ds_join.proofs.ItemTopLemmas.{part_union}
use Rattle.ds_reader.proofs.UnderLemmas.{ArePassed, both_passed, page_passed, pages_passed, part_under, sinces_passed}

-- a page is of the size asked for
abbrev pub IsAsked : Reading → PageTurn → Type 0
IsAsked reading page = page.max ≡ reading.max

-- pages after a position are pages after none
from_none : (f : Feed) (scope : Key → Bool) (after : Option Key) (p : ℕ) (pages : List PageTurn) → AreOpenPages f scope after p pages →
    AreOpenPages f scope after 0 pages
from_none f scope after p [] w = tt
from_none f scope after p (t ∷ ts) w = (w.0, omega arith, w.2, w.3)

none_earlier : (p r : ℕ) (pages : List PageTurn) → position_after p pages ≤ r → position_after 0 pages ≤ r
none_earlier p r [] l = omega arith
none_earlier p r (t ∷ ts) l = l

-- a reader's progress: the store has grown, and `count` pages had these items, none of them the last
pub record Paging (stood : State → Type 0) (s : State) (reading : Reading) (items : List Item) (after : Option Key) (from : Option Cursor)
    (count : ℕ) : Type 0 where
  pub now : State
  pub goes : GoesOn s now
  pub turns : List PageTurn
  pub all : AreAllOpen s now reading turns
  pub after_is : key_after None turns ≡ after
  pub from_is : first_cursor turns ≡ from
  pub items_are : paged turns ≡ items
  pub at_most : position_after (next_position s) turns ≤ next_position now
  pub count_is : length turns ≡ count
  pub stands : stood now

pub not_begun : ReaderLaws → (stood : State → Type 0) (s : State) (reading : Reading) → stood s → Paging stood s reading [] None None 0
not_begun laws stood s reading stands =
    record {
      now = s;
      goes = laws.same s;
      turns = [];
      all = record { are = tt; asked = All-nil (IsAsked reading) };
      after_is = refl;
      from_is = refl;
      items_are = refl;
      at_most = omega arith;
      count_is = refl;
      stands = stands;
    }

-- what others did leaves the store's pages as they are
module _ (laws : ReaderLaws) (stood : State → Type 0) (s : State) (reading : Reading) (items : List Item) (after : Option Key)
    (from : Option Cursor) (count : ℕ) (k : Paging stood s reading items after from count) (t : State) (went : Went k.now t) where
  pub gone : GoesOn s t
  gone = laws.later s k.now t k.goes (went_on laws k.now t went)

  pub still_open : AreAllOpen s t reading k.turns
  still_open = record {
    are = laws.pages.later k.now.feed t.feed (is_under reading.query) None (next_position s) k.turns
        (laws.front k.now t (went_on laws k.now t went)) k.all.are;
    asked = k.all.asked;
  }

  -- one more page
  module _ (page : Page) (page_is : page ≡ page_of (is_kept (Under reading.query)) after reading.max (held t) (cursor t)) where
    turn : PageTurn
    turn = record { feed = t.feed; known = t.feed.accepted; held = held t; max = reading.max; page = page }

    is_turn : IsPageTurn t.feed (is_under reading.query) (key_after None k.turns) turn
    unfolding turn
    is_turn =
        subst (λ (o : Option Key). IsPageTurn t.feed (is_under reading.query) o turn) (sym k.after_is)
        (record { front = laws.feeds.same t.feed; knows = λ i h. h; top = laws.held t (went_reached laws k.now t went); given = page_is })

    place : page.cursor.position ≡ next_position t
    place = ap (λ (x : Page). x.cursor.position) page_is

    no_step_back : position_after (next_position s) k.turns ≤ page.cursor.position
    no_step_back =
        let l : position_after (next_position s) k.turns ≤ next_position k.now = k.at_most in
        let m : next_position k.now ≤ next_position t = no_earlier k.now t (went_on laws k.now t went) in
        let n : position_after (next_position s) k.turns ≤ next_position t = omega (arith, l, m) in
        subst (λ (r : ℕ). position_after (next_position s) k.turns ≤ r) (sym place) n

    -- with items
    pub paged_more : page.items ≢ [] → IsPagedMore s t reading k.turns
    unfolding turn
    paged_more some = record { open_ones = still_open; turn = turn; is = is_turn; asked = refl; some = some }

    -- that isn't the last
    pub paged_on : (next : State → Type 0) → next t → page.last ≡ false →
        Paging next s reading (items ++ page.items) (last_key after page.items) (Some (unwrap_or from page.cursor)) (count + 1)
    unfolding turn
    paged_on next stands more =
        record {
          now = t;
          goes = gone;
          turns = k.turns ++ turn ∷ [];
          all = record {
            are = laws.pages.one_more t.feed (is_under reading.query) None (next_position s) k.turns turn still_open.are
                is_turn no_step_back more;
            asked = All-push (IsAsked reading) k.turns turn k.all.asked refl;
          };
          after_is = laws.pages.key_more None k.turns turn ∙ ap (λ (o : Option Key). last_key o page.items) k.after_is;
          from_is = laws.pages.first_more k.turns turn ∙ ap (λ (o : Option Cursor). Some (unwrap_or o page.cursor)) k.from_is;
          items_are = laws.pages.items_more k.turns turn ∙ ap (λ (l : List Item). l ++ page.items) k.items_are;
          at_most = subst (λ (r : ℕ). r ≤ next_position t) (sym (laws.pages.position_more (next_position s) k.turns turn ∙ place))
              (omega arith);
          count_is = length_push k.turns turn ∙ ap (λ (n : ℕ). n + 1) k.count_is;
          stands = stands;
        }

    -- the last page, of the store as it is later
    pub all_paged : page.last ≡ true → (u : State) → GoesOn t u → ArePaged s u reading (unwrap_or from page.cursor)
    unfolding turn
    all_paged last u goes =
        let front = laws.front t u goes in
        let h = is_turn in
        record {
          pages = k.turns;
          open_ones = record {
            are = laws.pages.later t.feed u.feed (is_under reading.query) None (next_position s) k.turns front
                still_open.are;
            asked = k.all.asked;
          };
          last = turn;
          is = record { front = laws.feeds.later turn.feed t.feed u.feed h.front front; knows = h.knows; top = h.top; given = h.given };
          asked = refl;
          no_earlier = no_step_back;
          ends = last;
          from_is = ap (λ (o : Option Cursor). unwrap_or o page.cursor) (sym k.from_is);
        }

    -- the last page, and the journal after it
    pub read_whole : page.last ≡ true → (u : State) (all : List Item) → GoesOn t u →
        IsCaughtUp u reading.query (unwrap_or from page.cursor) (items ++ page.items) all → IsReadWhole u reading.query all
    unfolding turn all_paged
    read_whole last u all goes caught =
        let query = reading.query in
        let known = u.feed.accepted in
        let p = all_paged last u goes in
        let l : next_position t ≤ next_position u = no_earlier t u goes in
        let end : page.cursor.position ≤ (cursor_after (unwrap_or from page.cursor) caught.turns).position =
        subst (λ (r : ℕ). page.cursor.position ≤ r) (sym caught.to_end) (subst (λ (r : ℕ). r ≤ next_position u) (sym place) l) in
        let law =
        laws.paged_whole u.feed (is_under query) (is_under query) (is_under query) k.turns turn caught.turns (λ key e. e) (λ key e. e)
        (from_none u.feed (is_under query) None (next_position s) k.turns p.open_ones.are) p.is
        (none_earlier (next_position s) page.cursor.position k.turns no_step_back) last
        (subst (λ (c : Cursor). AreSince u.feed (is_under query) c caught.turns) p.from_is caught.are)
        (subst (λ (c : Cursor). page.cursor.position ≤ (cursor_after c caught.turns).position) p.from_is end) in
        let same : paged k.turns ++ (page.items ++ journaled caught.turns) ≡ all =
        ap (λ (x : List Item). x ++ (page.items ++ journaled caught.turns)) k.items_are ∙
        sym (append_assoc items page.items (journaled caught.turns)) ∙ sym caught.items_are in
        let part : IsPartOf (paged k.turns ++ (page.items ++ journaled caught.turns)) known =
        part_union (paged k.turns) (page.items ++ journaled caught.turns) known
        (laws.pages.among u.feed (is_under query) None (next_position s) k.turns p.open_ones.are)
        (part_union page.items (journaled caught.turns) known
        (laws.pages.turn_among u.feed (is_under query) (key_after None k.turns) turn p.is)
        (laws.sinces.among u.feed (is_under query) (unwrap_or from page.cursor) caught.turns caught.are)) in
        let passed : ArePassed (is_under query) (paged k.turns ++ (page.items ++ journaled caught.turns)) =
        both_passed (is_under query) (paged k.turns) (page.items ++ journaled caught.turns)
        (pages_passed u.feed (is_under query) None (next_position s) k.turns p.open_ones.are)
        (both_passed (is_under query) page.items (journaled caught.turns)
        (page_passed u.feed (is_under query) (key_after None k.turns) turn p.is)
        (sinces_passed u.feed (is_under query) (unwrap_or from page.cursor) caught.turns caught.are)) in
        record {
          among = subst (λ (x : List Item). IsPartOf x (under (is_under query) known)) same
              (part_under (is_under query) _ known part passed);
          whole =
              subst (λ (r : ℕ). IsWhole u.feed (is_under query) (given known all) r) caught.to_end
              (subst (λ (c : Cursor). IsWhole u.feed (is_under query) (given known all) (cursor_after c caught.turns).position)
              (sym p.from_is)
              (subst (λ (x : List Item). IsWhole u.feed (is_under query) (given known x)
              (cursor_after (unwrap_or (first_cursor k.turns) page.cursor) caught.turns).position) same law));
        }

    pub read_each : page.last ≡ true → (u : State) (all : List Item) → GoesOn t u →
        IsCaughtUp u reading.query (unwrap_or from page.cursor) (items ++ page.items) all → AreRead s u reading all
    unfolding turn all_paged
    read_each last u all goes caught =
        record {
          from = unwrap_or from page.cursor;
          pages = all_paged last u goes;
          turns = caught.turns;
          are = caught.are;
          items_are =
              sym
              (ap (λ (x : List Item). x ++ (page.items ++ journaled caught.turns)) k.items_are
              ∙ sym (append_assoc items page.items (journaled caught.turns))
              ∙ sym caught.items_are);
        }
