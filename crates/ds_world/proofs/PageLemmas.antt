-- Messages of a run are turns of their stores; snapshots are whole, the journal extends what is whole, and all pages
-- are whole with it.
use Rattle.std.proofs.Common.{◌≡◌, ℕ, ◌≤◌, Bool, true, false, List, [], ◌∷◌, ◌++◌, take, Option, None, Some, refl, ap, sym, ◌∙◌, subst}
use Rattle.std.proofs.Common.{append-nil}
use Rattle.std.specs.Prelude.{MatchBool}
use Rattle.std.specs.List.{filter, flat_map, slice_get}
use Rattle.ds_names.specs.declared.key.Key.{Key}
use Rattle.ds_entry.specs.declared.item.Item.{Item}
use Rattle.ds_feed.specs.declared.cursor.Cursor.{Cursor}
use Rattle.ds_feed.specs.declared.reading.Page as readings
use Rattle.ds_feed.specs.declared.reading.Snapshot as snaps
use Rattle.ds_feed.specs.declared.reading.Since as journals
use Rattle.ds_feed.specs.Feed.{position}
use Rattle.ds_feed.specs.Since.{IsGiven, piece, since_of}
use Rattle.ds_feed.specs.Page.{floors_of, changes_of, still_to_come, page_of}
use Rattle.ds_replica.specs.Under.{KeepsQuery}
use Rattle.ds_replica.specs.Sent.{Sent, given}
use Rattle.ds_replica.specs.Whole.{IsWhole}
use Rattle.ds_replica.specs.Journaled.{SinceTurn, IsSinceTurn, AreSince, since_items, cursor_after}
use Rattle.ds_replica.specs.Paged.{PageTurn, IsPageTurn, last_key, ArePages, page_items, last_cursor}
use Rattle.ds_replica.proofs.JournalLemmas.{sinces_extend}
use Rattle.ds_replica.proofs.PageLemmas.{pages_are_whole}
use Rattle.ds_machine.specs.Scope.{keeps, is_kept}
use Rattle.ds_machine.specs.State.{State, held, cursor}
use Rattle.ds_machine.specs.Machine.{Step}
use Rattle.ds_machine.specs.Order.{first_refusal}
use Rattle.ds_machine.specs.Calling.{against_since, against_page}
use Rattle.ds_machine.specs.Says.{JournaledSays, SnappedSays, PagedSays}
use Rattle.ds_machine.specs.declared.command.Scope.{Scope}
use Rattle.ds_machine.specs.declared.command.Command.{Command}
use Rattle.ds_machine.specs.declared.command.Command.TheVariants.{Since, Snapshot, Page}
use Rattle.ds_machine.specs.declared.reply.Reply.{Reply}
use Rattle.ds_machine.specs.declared.reply.Reply.TheVariants.{Journaled, Snapped, Paged}
use Rattle.ds_machine.proofs.ReachedLemmas.{held_is_top}
use Rattle.ds_replica.specs.declared.event.Side.{Side}
use Rattle.ds_replica.specs.declared.event.Event.{Event}
use Rattle.ds_replica.specs.declared.outcome.Outcome.{Outcome}
use Rattle.ds_replica.specs.World.{store_at}
use Rattle.ds_replica.specs.Known.{StoreAccount, Account, message_items, store_of, extended_all}
use Rattle.ds_replica.specs.Fits.{Fits, FitsStore}
use Rattle.ds_replica.specs.Messages.{IsAsked, account_after, feed_of, IsMessage}
use Rattle.ds_replica.specs.Checks.{sent_in}
use Rattle.ds_replica.proofs.EventLemmas.{events_fit}
use Rattle.ds_replica.proofs.FitLemmas.{store_fits, own_fits}
use Rattle.ds_replica.proofs.GivenLemmas.{given_unless}
use Rattle.ds_replica.proofs.MessageLemmas.{gave, front, snapshot_is_whole}
use Rattle.ds_world.specs.World.{WorldRecord}
use Rattle.ds_world.specs.Account.{IsFor}
use Rattle.ds_world.specs.Messages.{WasGiven, GivenSince, GivenPage, SnapshotsAreWhole, SincesAreTurns, SinceMessagesExtend, PagesAreTurns}
use Rattle.ds_world.specs.Pages.{WerePaged, WereJournaled, last_page, last_since, AllPagesAreWhole}
use Rattle.ds_world.specs.Told.{AreTold}
use Rattle.ds_world.proofs.GivenLemmas.{now_after}
use Rattle.ds_world.proofs.ReplyLemmas.{WasAsked, asked_for}

-- ---- the last page, and those before it
none_after : (b : Bool) (given : List GivenPage) (turns : List PageTurn) → turns ≡ [] → MatchBool b (given ≡ []) ⊥ →
    MatchBool b (turns ≡ []) ⊥
none_after true given turns none w = none
none_after false given turns none w = w

one_after : (b : Bool) (y : GivenPage) (ys : List GivenPage) (W : Type 0) → MatchBool b ((y ∷ ys) ≡ []) W → (b ≡ false) × W
one_after true y ys W e = cc
one_after false y ys W w = (refl, w)

module _ (says_snapshot : SnappedSays) (says_page : PagedSays) (says_since : JournaledSays) (account : Account) (old new : WorldRecord)
    (events : List (Event × Outcome)) (told : AreTold old events new)
    (f : IsFor account old) (side : Side) where
  abbrev now : Account
  now = extended_all account events

  abbrev known_then : List (Event × Outcome) → StoreAccount
  known_then before = store_of (extended_all account before) side

  abbrev page_turn : List (Event × Outcome) → GivenPage → PageTurn
  page_turn before x =
      record {
        feed = (known_then before).state.feed;
        known = (known_then before).known;
        held = held (known_then before).state;
        max =
            x.max;
        page = x.page;
      }

  abbrev since_turn : List (Event × Outcome) → GivenSince → SinceTurn
  since_turn before x = record { feed = (known_then before).state.feed; known = (known_then before).known; max = x.max; since = x.since }

  -- ---- one message
  module _ (command : Command) (k : ℕ) (g : WasGiven events side command k) where
    was : WasAsked g.before g.since side command k f.0 new
    was = asked_for old new events told g.before g.since side command k f.0 g.all f.1

    fits : Fits (extended_all account g.before) was.mid
    fits = events_fit account f.0 was.mid g.before f.2 was.before_happens

    asked : IsAsked (extended_all account g.before) was.mid side command k g.since was.late
    asked = record { fits = fits; happen = (was.after, (was.stands_not, was.asks), was.since_happens); stays = g.stays }

    own : FitsStore (extended_all account g.before).brought (known_then g.before) (known_then g.before).state
    own = own_fits (extended_all account g.before) was.mid side fits

    now_is : account_after (extended_all account g.before) side command k g.since ≡ now
    now_is = now_after account events side command k g

    stepped : (reply : Reply) → slice_get new.messages k ≡ Some reply → Step (known_then g.before).state command reply was.asks.after
    stepped reply e =
        let same : was.asks.reply ≡ reply = let there = was.there in cc in
        subst (λ (s : State). Step s command reply was.asks.after)
        (sym (store_fits (extended_all account g.before) was.mid side fits).state_is)
        (subst (λ (r : Reply). Step (store_at was.mid side) command r was.asks.after) same was.asks.step)

  module _ (scope : Scope) (k : ℕ) (snapshot : snaps.Snapshot) (g : WasGiven events side (Snapshot scope) k)
      (there : slice_get new.messages k ≡ Some (Snapped snapshot)) where
    abbrev ask_snapshot : Command
    ask_snapshot = Snapshot scope

    snapshot_at : snapshot.cursor.position ≡ position (known_then g.before).state.feed
    snapshot_at = ap (λ (s : snaps.Snapshot). s.cursor.position)
        (says_snapshot (known_then g.before).state (was ask_snapshot k g).asks.after scope snapshot
        (stepped ask_snapshot k g (Snapped snapshot) there)).0

    whole_snapshot : (query : Key → Bool) → KeepsQuery (keeps scope) query →
        IsWhole (feed_of now side) query (sent_in now k) snapshot.cursor.position
    whole_snapshot query keep =
        let w = was ask_snapshot k g in
        let at = position (known_then g.before).state.feed in
        let r =
        subst (λ (a : Account). (sent : List Sent) × IsMessage a k sent × IsWhole (feed_of a side) query sent at) (now_is ask_snapshot k g)
        (snapshot_is_whole (extended_all account g.before) w.mid w.late side scope query k g.since (asked ask_snapshot k g) keep) in
        subst (λ (p : ℕ). IsWhole (feed_of now side) query (sent_in now k) p) (sym snapshot_at)
        (subst (λ (l : List Sent). IsWhole (feed_of now side) query l at) (sym (ap message_items r.1)) r.2)

  module _ (scope : Scope) (past : Option Key) (x : GivenPage) (g : WasGiven events side (Page scope past x.max) x.message)
      (there : slice_get new.messages x.message ≡ Some (Paged x.page)) where
    abbrev ask_page : Command
    ask_page = Page scope past x.max

    page_is : x.page ≡ page_of (is_kept scope) past x.max (held (known_then g.before).state) (cursor (known_then g.before).state)
    page_is = (says_page (known_then g.before).state (was ask_page x.message g).asks.after scope past x.max x.page
        (stepped ask_page x.message g (Paged x.page) there)).0

    is_page : IsPageTurn (feed_of now side) (keeps scope) past (page_turn g.before x)
    is_page =
        let own = own ask_page x.message g in
        subst (λ (a : Account). IsPageTurn (feed_of a side) (keeps scope) past (page_turn g.before x)) (now_is ask_page x.message g)
        (record {
          front = front (extended_all account g.before) (was ask_page x.message g).mid (was ask_page x.message g).late side ask_page
              x.message g.since (asked ask_page x.message g);
          knows = own.accepted;
          top = held_is_top (known_then g.before).state own.reached;
          given = page_is;
        })

    page_sent : sent_in now x.message ≡ given (known_then g.before).known x.page.items
    page_sent =
        let a = known_then g.before in
        let own = own ask_page x.message g in
        let w = was ask_page x.message g in
        let gift = gave (extended_all account g.before) w.mid w.late side ask_page x.message g.since (asked ask_page x.message g) in
        let left = still_to_come (is_kept scope) past (held a.state) in
        let same = given_unless a.state own.reached (first_refusal (against_page scope x.max))
        (Paged (page_of (is_kept scope) past x.max (held a.state) (cursor a.state)))
        (floors_of left ++ take x.max (changes_of left)) gift.items refl gift.given_is in
        let here : IsMessage now x.message (given a.known gift.items) =
        subst (λ (b : Account). IsMessage b x.message (given a.known gift.items)) (now_is ask_page x.message g) gift.message in
        ap message_items here ∙ ap (λ (l : List Item). given a.known l) (sym (ap (λ (p : readings.Page). p.items) page_is ∙ same))

  module _ (scope : Scope) (at : Cursor) (x : GivenSince) (g : WasGiven events side (Since scope at x.max) x.message)
      (there : slice_get new.messages x.message ≡ Some (Journaled x.since)) where
    abbrev ask_since : Command
    ask_since = Since scope at x.max

    since_is : IsGiven (known_then g.before).state.feed (is_kept scope) at x.max x.since
    since_is = (says_since (known_then g.before).state (was ask_since x.message g).asks.after scope at x.max x.since
        (stepped ask_since x.message g (Journaled x.since) there)).0

    is_since : IsSinceTurn (feed_of now side) (keeps scope) at (since_turn g.before x)
    is_since =
        let own = own ask_since x.message g in
        subst (λ (a : Account). IsSinceTurn (feed_of a side) (keeps scope) at (since_turn g.before x)) (now_is ask_since x.message g)
        (record {
          front = front (extended_all account g.before) (was ask_since x.message g).mid (was ask_since x.message g).late side ask_since
              x.message g.since (asked ask_since x.message g);
          knows = own.accepted;
          given = since_is;
        })

    since_sent : sent_in now x.message ≡ given (known_then g.before).known x.since.items
    since_sent =
        let a = known_then g.before in
        let own = own ask_since x.message g in
        let w = was ask_since x.message g in
        let gift = gave (extended_all account g.before) w.mid w.late side ask_since x.message g.since (asked ask_since x.message g) in
        let same = given_unless a.state own.reached (first_refusal (against_since a.state.feed scope at x.max))
        (Journaled (since_of a.state.feed (is_kept scope) at x.max))
        (filter (is_kept scope) (piece a.state.feed (is_kept scope) at x.max)) gift.items refl gift.given_is in
        let here : IsMessage now x.message (given a.known gift.items) =
        subst (λ (b : Account). IsMessage b x.message (given a.known gift.items)) (now_is ask_since x.message g) gift.message in
        ap message_items here ∙ ap (λ (l : List Item). given a.known l) (sym (ap (λ (p : journals.Since). p.items) since_is.given ∙ same))

  -- ---- each of them
  snapshots_whole : (scope : Scope) (query : Key → Bool) (k : ℕ) (snapshot : snaps.Snapshot) → WasGiven events side (Snapshot scope) k →
      slice_get new.messages k ≡ Some (Snapped snapshot)
      → KeepsQuery (keeps scope) query → IsWhole (feed_of now side) query (sent_in now k) snapshot.cursor.position
  snapshots_whole scope query k snapshot g there keep = whole_snapshot scope k snapshot g there query keep

  since_extends : (scope : Scope) (query : Key → Bool) (at : Cursor) (x : GivenSince) (items : List Sent) →
      WasGiven events side (Since scope at x.max) x.message → slice_get new.messages x.message ≡ Some (Journaled x.since) →
      KeepsQuery (keeps scope) query →
      IsWhole (feed_of now side) query items at.position →
      IsWhole (feed_of now side) query (items ++ sent_in now x.message) x.since.cursor.position
  since_extends scope query at x items g there keep whole =
      let t = since_turn g.before x in
      subst (λ (l : List Sent). IsWhole (feed_of now side) query (items ++ l) x.since.cursor.position)
      (append-nil (given t.known x.since.items) ∙ sym (since_sent scope at x g there))
      (sinces_extend (feed_of now side) (keeps scope) query items at (t ∷ []) keep (is_since scope at x g there, tt) whole)

  -- ---- all of them
  abbrev page_sents : List GivenPage → List Sent
  page_sents xs = flat_map (λ x. sent_in now x.message) xs

  abbrev since_sents : List GivenSince → List Sent
  since_sents xs = flat_map (λ x. sent_in now x.message) xs

  page_turns : (scope : Scope) (x : GivenPage) (xs : List GivenPage) (past : Option Key) (p : ℕ)
      (w : WerePaged events new.messages side scope past p (x ∷ xs)) →
      (us : List PageTurn) × ArePages (feed_of now side) (keeps scope) past p (page_turn w.0.before x ∷ us) ×
      (page_items us ≡ page_sents xs) × ((at : Cursor) → last_cursor at us ≡ last_page at xs)
  page_turns scope x [] past p w = ([], (is_page scope past x w.0 w.1, w.2, none_after x.page.last [] [] refl w.3), refl, λ at. refl)
  page_turns scope x (y ∷ ys) past p w =
      let n = one_after x.page.last y ys (WerePaged events new.messages side scope (last_key past x.page.items) x.page.cursor.position
      (y ∷ ys)) w.3 in
      let r = page_turns scope y ys (last_key past x.page.items) x.page.cursor.position n.1 in
      let us : List PageTurn = page_turn n.1.0.before y ∷ r.0 in
      let on = subst (λ (b : Bool). MatchBool b (us ≡ [])
      (ArePages (feed_of now side) (keeps scope) (last_key past x.page.items) x.page.cursor.position us)) (sym n.0) r.1 in
      let items : given (known_then n.1.0.before).known y.page.items ++ page_items r.0 ≡ sent_in now y.message ++ page_sents ys =
      ap (λ (l : List Sent). l ++ page_items r.0) (sym (page_sent scope (last_key past x.page.items) y n.1.0 n.1.1)) ∙
      ap (λ (l : List Sent). sent_in now y.message ++ l) r.2 in
      (us, (is_page scope past x w.0 w.1, w.2, on), items, λ at. r.3 y.page.cursor)

  since_turns : (scope : Scope) (xs : List GivenSince) (at : Cursor) → WereJournaled events new.messages side scope at xs →
      (ts : List SinceTurn) × AreSince (feed_of now side) (keeps scope) at ts × (since_items ts ≡ since_sents xs) ×
      (cursor_after at ts ≡ last_since at xs)
  since_turns scope [] at w = ([], tt, refl, refl)
  since_turns scope (x ∷ xs) at w =
      let r = since_turns scope xs x.since.cursor w.2 in
      let items : given (known_then w.0.before).known x.since.items ++ since_items r.0 ≡ sent_in now x.message ++ since_sents xs =
      ap (λ (l : List Sent). l ++ since_items r.0) (sym (since_sent scope at x w.0 w.1)) ∙
      ap (λ (l : List Sent). sent_in now x.message ++ l) r.2 in
      (since_turn w.0.before x ∷ r.0, (is_since scope at x w.0 w.1, r.1), items, r.3)

module _ (says_snapshot : SnappedSays) (says_page : PagedSays) (says_since : JournaledSays) (account : Account) (old new : WorldRecord)
    (events : List (Event × Outcome)) (told : AreTold old events new) (f : IsFor account old) where
  pub snapshots : SnapshotsAreWhole account events new.messages
  snapshots side scope query k snapshot g there keep =
      snapshots_whole says_snapshot says_page says_since account old new events told f side scope query k snapshot g there keep

  pub since_turns_are : SincesAreTurns account events new.messages
  since_turns_are side scope at x g there = (
    since_turn says_snapshot says_page says_since account old new events told f side g.before x,
    refl,
    refl,
    refl,
    is_since says_snapshot says_page says_since account old new events told f side scope at x g there,
    since_sent says_snapshot says_page says_since account old new events told f side scope at x g there,
  )

  pub sinces : SinceMessagesExtend account events new.messages
  sinces side scope query at x items g there keep whole =
      since_extends says_snapshot says_page says_since account old new events told f side scope query at x items g there keep whole

  pub pages_are : PagesAreTurns account events new.messages
  pages_are side scope past x g there = (
    page_turn says_snapshot says_page says_since account old new events told f side g.before x,
    refl,
    refl,
    refl,
    is_page says_snapshot says_page says_since account old new events told f side scope past x g there,
    page_sent says_snapshot says_page says_since account old new events told f side scope past x g there,
  )

  pub all_pages : AllPagesAreWhole account events new.messages
  all_pages side scope other query first pages sinces keep keep_other w v bound =
      let now = extended_all account events in
      let p = page_turns says_snapshot says_page says_since account old new events told f side scope first pages None 0 w in
      let s = since_turns says_snapshot says_page says_since account old new events told f side other sinces first.page.cursor v in
      let turn = page_turn says_snapshot says_page says_since account old new events told f side w.0.before first in
      let late : (last_cursor first.page.cursor p.0).position ≤ (cursor_after first.page.cursor s.0).position =
      subst (λ (c : Cursor). c.position ≤ (cursor_after first.page.cursor s.0).position) (sym (p.3 first.page.cursor))
      (subst (λ (c : Cursor). (last_page first.page.cursor pages).position ≤ c.position) (sym s.3) bound) in
      let law = pages_are_whole (feed_of now side) (keeps scope) (keeps other) query turn p.0 s.0 keep keep_other p.1 s.1 late in
      let first_sent = page_sent says_snapshot says_page says_since account old new events told f side scope None first w.0 w.1 in
      let paged = ap (λ (l : List Sent). l ++ page_items p.0) (sym first_sent) ∙
      ap (λ (l : List Sent). sent_in now first.message ++ l) p.2 in
      subst (λ (c : Cursor). IsWhole (feed_of now side) query
      (flat_map (λ x. sent_in now x.message) (first ∷ pages) ++ flat_map (λ x. sent_in now x.message) sinces) c.position) s.3
      (subst (λ (l : List Sent). IsWhole (feed_of now side) query (flat_map (λ x. sent_in now x.message) (first ∷ pages) ++ l)
      (cursor_after first.page.cursor s.0).position) s.2
      (subst (λ (l : List Sent). IsWhole (feed_of now side) query (l ++ since_items s.0) (cursor_after first.page.cursor s.0).position)
      paged law))
