-- The checks of a reader are whole.
use Rattle.std.proofs.Common.{◌≡◌, ◌≢◌, ℕ, ◌+◌, ◌<◌, ◌≤◌, true, List, [], ◌∷◌, ◌++◌, length, Some, refl, ap, sym, ◌∙◌, subst, arith}
use Rattle.std.specs.List.{All}
use Rattle.std.proofs.lemmas.List.{length_push}
use Rattle.std.proofs.lemmas.List.Elements.{All-nil, All-push}
use Rattle.ds_entry.specs.declared.item.Item.{Item}
use Rattle.ds_entry.specs.Under.{under}
use Rattle.ds_join.specs.ItemTop.{IsPartOf}
use Rattle.ds_feed.specs.Feed as feeds
use Rattle.ds_feed.specs.Feed.{Feed}
use Rattle.ds_pattern.specs.declared.query.Query.{Query}
use Rattle.ds_pattern.specs.Under.{is_under}
use Rattle.ds_replica.specs.Sent.{given}
use Rattle.ds_replica.specs.Whole.{IsWhole}
use Rattle.ds_replica.specs.Checked.{CheckTurn, IsCheckTurn, AreChecks}
use Rattle.ds_replica.specs.Gathered as gathered
use Rattle.ds_machine.specs.Subscription.{Subscription}
use Rattle.ds_machine.specs.State.{State, held, subscription_at}
use Rattle.ds_machine.specs.Effect.{GoesOn}
use Rattle.ds_machine.specs.SubscriptionLaws.{IsCheckedOn}
use Rattle.ds_machine.specs.Reached.{IsReached}
use Rattle.ds_machine.specs.Says.{IsShown}
use Rattle.ds_machine.specs.declared.command.Command.TheVariants as commands
use Rattle.ds_machine.specs.declared.reply.Reply.TheVariants as replies
use Rattle.ds_reader.specs.Asked.{Asked, Went}
use Rattle.ds_reader.specs.GivesUp.{AreAllFull, IsCheckedMore, IsFull, IsOvertaken, Shows}
use Rattle.ds_reader.specs.Laws.{ReaderLaws}
use Rattle.ds_reader.specs.ReadWhole.{AreChecked, IsReadWhole}
use Rattle.ds_reader.specs.declared.reading.Reading.{Reading}
use Rattle.ds_reader.proofs.StateLemmas.{asked_on, went_on, went_reached}
use Rattle.ds_reader.proofs.UnderLemmas.{checks_passed, part_under}

-- a reader's progress: the store has grown, `count` checks showed these items, each as many as it asked for, and left
-- the subscription with this stamp
pub record Checking (stood : State → Type 0) (s : State) (sub max : ℕ) (query : Query) (items : List Item) (stamp count : ℕ) : Type 0 where
  pub now : State
  pub goes : GoesOn s now
  pub turns : List CheckTurn
  pub are : AreChecks s.feed now.feed (is_under query) [] turns
  pub items_are : gathered.checked turns ≡ items
  pub full : All (IsFull max) turns
  pub count_is : length turns ≡ count
  pub shows : Shows now sub query items
  pub stamp_is : shows.seer.stamp ≡ stamp
  pub stands : stood now

-- the subscription was made, and nothing is shown yet
pub begun : ReaderLaws → (stood : State → Type 0) (s t : State) (sub max : ℕ) (query : Query) (stamp owed : ℕ) →
    Asked s (commands.Subscribe sub query true true) (replies.Subscribed stamp owed) t → stood t → Checking stood s sub max query [] stamp 0
begun laws stood s t sub max query stamp owed a stands =
    let placed = laws.subscribe_leaves a.mid t sub query true true stamp owed (went_reached laws s a.mid a.went) a.answered.step in
    record {
      now = t;
      goes = asked_on laws s t (commands.Subscribe sub query true true) (replies.Subscribed stamp owed) a;
      turns = [];
      are = tt;
      items_are = refl;
      full = All-nil (IsFull max);
      count_is = refl;
      shows = record { seer = record { query = query; stamp = stamp; shown = [] }; here = placed.here; query_is = refl; shown_is = refl };
      stamp_is = refl;
      stands = stands;
    }

-- the subscription was shown what the checks showed
pub shows_checked : (stood : State → Type 0) (s : State) (sub max stamp count : ℕ) (query : Query) (items : List Item)
    (k : Checking stood s sub max query items stamp count) → Shows k.now sub query (gathered.checked k.turns)
shows_checked stood s sub max stamp count query items k = record {
  seer = k.shows.seer;
  here = k.shows.here;
  query_is = k.shows.query_is;
  shown_is = k.shows.shown_is ∙ sym k.items_are;
}

-- all checks so far were full
pub all_full : (stood : State → Type 0) (s : State) (sub stamp count : ℕ) (reading : Reading) (items : List Item)
    (k : Checking stood s sub reading.max reading.query items stamp count) → AreAllFull s k.now sub reading k.turns
all_full stood s sub stamp count reading items k =
    record {
      are = k.are;
      full = k.full;
      was_left = record {
        left = k.now;
        shows = shows_checked stood s sub reading.max stamp count reading.query items k;
        goes = record { commands = []; replies = []; run = refl };
      };
    }

-- and so they are after the steps of others
pub still_full : ReaderLaws → (stood : State → Type 0) (s : State) (sub stamp count : ℕ) (reading : Reading) (items : List Item)
    (k : Checking stood s sub reading.max reading.query items stamp count) (mid : State) → Went k.now mid →
    AreAllFull s mid sub reading k.turns
unfolding all_full
still_full laws stood s sub stamp count reading items k mid went =
    let a = all_full stood s sub stamp count reading items k in
    record {
      are = laws.checks.later s.feed k.now.feed mid.feed (is_under reading.query) [] k.turns
          (laws.front k.now mid (went_on laws k.now mid went)) a.are;
      full = a.full;
      was_left = record { left = k.now; shows = a.was_left.shows; goes = went.goes };
    }

-- one more check, after the steps of others, with another stamp than the reader's
pub overtaken : ReaderLaws → (stood : State → Type 0) (s : State) (sub stamp count : ℕ) (reading : Reading) (items more : List Item)
    (k : Checking stood s sub reading.max reading.query items stamp count) (t : State) (before after : ℕ) →
    Asked k.now (commands.Check sub reading.max) (replies.Checked more before after) t → before ≢ stamp →
    (turns : List CheckTurn) × IsOvertaken s t sub reading turns × (length turns ≡ count)
unfolding still_full all_full shows_checked
overtaken laws stood s sub stamp count reading items more k t before after a other =
    let found = laws.checked a.mid t sub reading.max more before after a.answered.step in
    let reached = went_reached laws k.now a.mid a.went in (
      k.turns,
      record {
        found = a.mid;
        all = still_full laws stood s sub stamp count reading items k a.mid a.went;
        seer = found.seer;
        here = found.here;
        differs = λ e. other (found.before_is ∙ e ∙ k.stamp_is);
        goes = laws.step a.mid t (commands.Check sub reading.max) (replies.Checked more before after) reached a.answered.step;
      },
      k.count_is,
    )

-- one with any stamp
module _ (laws : ReaderLaws) (stood : State → Type 0) (s : State) (sub : ℕ) (query : Query) (items more : List Item) (max stamp count : ℕ)
    (k : Checking stood s sub max query items stamp count)
    (t : State) (before after : ℕ) (a : Asked k.now (commands.Check sub max) (replies.Checked more before after) t) where
  mid : State
  mid = a.mid

  mid_reached : IsReached mid
  unfolding mid
  mid_reached = went_reached laws k.now a.mid a.went

  on : GoesOn k.now mid
  unfolding mid
  on = went_on laws k.now a.mid a.went

  goes : GoesOn mid t
  unfolding mid mid_reached
  goes = laws.step a.mid t (commands.Check sub max) (replies.Checked more before after) mid_reached a.answered.step

  found : IsShown mid sub max more before after t
  unfolding mid
  found = laws.checked a.mid t sub max more before after a.answered.step

  early : GoesOn s mid
  early = laws.later s k.now mid k.goes on

  pub gone : GoesOn s t
  gone = laws.later s mid t early goes

  are : AreChecks s.feed t.feed (is_under query) [] k.turns
  are = laws.checks.later s.feed k.now.feed t.feed (is_under query) [] k.turns (laws.front k.now t (laws.later k.now mid t on goes)) k.are

  -- with the reader's own stamp
  module _ (own : before ≡ stamp) where
    seer : Subscription
    seer = k.shows.seer

    here : subscription_at mid sub ≡ Some seer
    unfolding mid seer found
    here = found.here ∙ ap (λ (x : Subscription). Some x)
        (laws.tells k.now mid a.went.goes.commands a.went.goes.replies sub k.shows.seer found.seer a.went.reached a.went.goes.run
        k.shows.here found.here (sym found.before_is ∙ own ∙ sym k.stamp_is))

    shown : IsCheckedOn mid sub max seer more before after t
    unfolding mid seer
    shown = laws.check_leaves a.mid t sub max seer more before after mid_reached here a.answered.step

    turn : CheckTurn
    turn = record { feed = mid.feed; known = mid.feed.accepted; held = held mid; max = max; items = more }

    is_turn : IsCheckTurn s.feed t.feed (is_under query) (gathered.checked k.turns) turn
    unfolding turn seer
    is_turn =
        subst (λ (l : List Item). IsCheckTurn s.feed t.feed (is_under query) l turn) (k.shows.shown_is ∙ sym k.items_are)
        (subst (λ (q : Query). IsCheckTurn s.feed t.feed (is_under q) seer.shown turn) k.shows.query_is
        (record {
          later = laws.front s mid early;
          front = laws.front mid t goes;
          knows = λ i h. h;
          top = laws.held mid mid_reached;
          given = shown.items_are;
        }))

    all : AreChecks s.feed t.feed (is_under query) [] (k.turns ++ turn ∷ [])
    all = laws.checks.one_more s.feed t.feed (is_under query) [] k.turns turn are is_turn

    all_items : gathered.checked (k.turns ++ turn ∷ []) ≡ items ++ more
    unfolding turn
    all_items = laws.checks.items_more k.turns turn ∙ ap (λ (l : List Item). l ++ more) k.items_are

    pub checked_on : (next : State → Type 0) → next t → max ≤ length more → Checking next s sub max query (items ++ more) after (count + 1)
    unfolding turn seer
    checked_on next stands full =
        record {
          now = t;
          goes = gone;
          turns = k.turns ++ turn ∷ [];
          are = all;
          items_are = all_items;
          full = All-push (IsFull max) k.turns turn k.full (record { asked = refl; full = full });
          count_is = length_push k.turns turn ∙ ap (λ (n : ℕ). n + 1) k.count_is;
          shows = record {
            seer = record seer { stamp = after; shown = seer.shown ++ more };
            here = shown.placed.here;
            query_is = k.shows.query_is;
            shown_is = ap (λ (l : List Item). l ++ more) k.shows.shown_is;
          };
          stamp_is = refl;
          stands = stands;
        }

    pub read_each : AreChecked s t query (items ++ more)
    read_each = (k.turns ++ turn ∷ [], all, sym all_items)

    -- the last one showed fewer than it asked for
    pub read_whole : length more < max → IsReadWhole t query (items ++ more)
    unfolding turn
    read_whole few =
        let law = laws.checked_whole s.feed t.feed (is_under query) gone.grown.0 k.turns turn gone.grown.2
        (laws.news s.feed.accepted gone.grown.0 gone.grown.1) are is_turn few in
        record {
          among = subst (λ (l : List Item). IsPartOf l (under (is_under query) t.feed.accepted)) all_items
              (part_under (is_under query) (gathered.checked (k.turns ++ turn ∷ [])) t.feed.accepted
              (laws.checks.among s.feed t.feed (is_under query) [] (k.turns ++ turn ∷ []) all)
              (checks_passed s.feed t.feed (is_under query) [] (k.turns ++ turn ∷ []) all));
          whole =
              subst (λ (r : ℕ). IsWhole t.feed (is_under query) (given t.feed.accepted (items ++ more)) r)
              (sym (ap (λ (f : Feed). feeds.position f) shown.placed.feed_is))
              (subst (λ (l : List Item). IsWhole t.feed (is_under query) (given t.feed.accepted (l ++ more)) (feeds.position mid.feed))
              k.items_are law);
        }

-- one more with the reader's own stamp that showed items
pub checked_more : (laws : ReaderLaws) → (stood : State → Type 0) (s : State) (sub stamp count : ℕ) (reading : Reading)
    (items more : List Item)
    (k : Checking stood s sub reading.max reading.query items stamp count) (t : State) (before after : ℕ) →
    Asked k.now (commands.Check sub reading.max) (replies.Checked more before after) t → before ≡ stamp → more ≢ [] →
    count < reading.questions → (turns : List CheckTurn) × IsCheckedMore s t reading turns
unfolding turn
checked_more laws stood s sub stamp count reading items more k t before after a own some few = (
  k.turns,
  record {
    turn = turn laws stood s sub reading.query items more reading.max stamp count k t before after a own;
    are = all laws stood s sub reading.query items more reading.max stamp count k t before after a own;
    full = k.full;
    asked = refl;
    some = some;
    few = omega (arith, k.count_is, few);
  },
)
