-- What a reader gets from the journal, reply by reply.
use Rattle.std.proofs.Common.{◌≡◌, ◌≢◌, ℕ, ◌+◌, ◌<◌, ◌≤◌, List, [], ◌∷◌, ◌++◌, length, ap, sym, ◌∙◌, subst, append_assoc, append-nil, refl}
use Rattle.std.proofs.lemmas.List.{length_push}
use Rattle.std.proofs.lemmas.List.Elements.{All-nil, All-push}
use Rattle.ds_entry.specs.declared.item.Item.{Item}
use Rattle.ds_feed.specs.declared.cursor.Cursor.{Cursor}
use Rattle.ds_feed.specs.declared.reading.Since.{Since}
use Rattle.ds_feed.specs.Since.{IsGiven}
use Rattle.ds_pattern.specs.Under.{is_under}
use Rattle.ds_replica.specs.Journaled.{SinceTurn, IsSinceTurn, AreSince, cursor_after}
use Rattle.ds_replica.specs.Gathered.{journaled}
use Rattle.ds_machine.specs.Scope.{is_kept}
use Rattle.ds_machine.specs.State.{State}
use Rattle.ds_machine.specs.Effect.{GoesOn}
use Rattle.ds_machine.specs.declared.command.Scope.TheVariants.{Under}
use Rattle.ds_reader.specs.Asked.{Went}
use Rattle.ds_reader.specs.GivesUp.{IsFullSince, IsJournaledMore, AreFullSinces}
use Rattle.ds_reader.specs.Laws.{ReaderLaws}
use Rattle.ds_reader.specs.CaughtUp.{IsCaughtUp}
use Rattle.ds_reader.specs.declared.reading.Reading.{Reading}
use Rattle.ds_reader.proofs.StateLemmas.{went_on}

-- a reader's progress: the store has grown, and `count` replies added these items, each as many as it asked for
pub record Catching (stood : State → Type 0) (s : State) (reading : Reading) (from at : Cursor) (items more : List Item) (count : ℕ) : Type
    0 where
  pub now : State
  pub goes : GoesOn s now
  pub turns : List SinceTurn
  pub all : AreFullSinces now reading from turns
  pub at_is : cursor_after from turns ≡ at
  pub items_are : more ≡ items ++ journaled turns
  pub count_is : length turns ≡ count
  pub stands : stood now

pub not_begun : ReaderLaws → (stood : State → Type 0) (s : State) (reading : Reading) (from : Cursor) (items : List Item) → stood s →
    Catching stood s reading from from items items 0
not_begun laws stood s reading from items stands =
    record {
      now = s;
      goes = laws.same s;
      turns = [];
      all = record { are = tt; full = All-nil (IsFullSince reading.max) };
      at_is = refl;
      items_are = sym (append-nil items);
      count_is = refl;
      stands = stands;
    }

-- what others did leaves the journal's replies as they are
module _ (laws : ReaderLaws) (stood : State → Type 0) (s : State) (reading : Reading) (from at : Cursor) (items more : List Item)
    (count : ℕ) (k : Catching stood s reading from at items more count) (t : State) (went : Went k.now t) where
  pub gone : GoesOn s t
  gone = laws.later s k.now t k.goes (went_on laws k.now t went)

  pub still_full : AreFullSinces t reading from k.turns
  still_full = record {
    are = laws.sinces.later k.now.feed t.feed (is_under reading.query) from k.turns
        (laws.front k.now t (went_on laws k.now t went)) k.all.are;
    full = k.all.full;
  }

  -- one more reply
  module _ (since : Since) (given_is : IsGiven t.feed (is_kept (Under reading.query)) at reading.max since) where
    turn : SinceTurn
    turn = record { feed = t.feed; known = t.feed.accepted; max = reading.max; since = since }

    is_turn : IsSinceTurn t.feed (is_under reading.query) (cursor_after from k.turns) turn
    unfolding turn
    is_turn = subst (λ (c : Cursor). IsSinceTurn t.feed (is_under reading.query) c turn) (sym k.at_is)
        (record { front = laws.feeds.same t.feed; knows = λ i h. h; given = given_is })

    are : AreSince t.feed (is_under reading.query) from (k.turns ++ turn ∷ [])
    are = laws.sinces.one_more t.feed (is_under reading.query) from k.turns turn still_full.are is_turn

    all_items : more ++ since.items ≡ items ++ journaled (k.turns ++ turn ∷ [])
    unfolding turn
    all_items = ap (λ (l : List Item). l ++ since.items) k.items_are ∙ append_assoc items (journaled k.turns) since.items ∙
        ap (λ (l : List Item). items ++ l) (sym (laws.sinces.items_more k.turns turn))

    -- with items
    pub journaled_more : since.items ≢ [] → IsJournaledMore t reading from k.turns
    unfolding turn
    journaled_more some = record { turn = turn; are = are; full = k.all.full; asked = refl; some = some }

    -- with as many items as it asked for
    pub caught_on : (next : State → Type 0) → next t → reading.max ≤ length since.items →
        Catching next s reading from since.cursor items (more ++ since.items) (count + 1)
    unfolding turn
    caught_on next stands full =
        record {
          now = t;
          goes = gone;
          turns = k.turns ++ turn ∷ [];
          all = record {
            are = are;
            full = All-push (IsFullSince reading.max) k.turns turn k.all.full (record { asked = refl; full = full });
          };
          at_is = laws.sinces.cursor_more from k.turns turn;
          items_are = all_items;
          count_is = length_push k.turns turn ∙ ap (λ (n : ℕ). n + 1) k.count_is;
          stands = stands;
        }

    -- with fewer
    pub caught_up : length since.items < reading.max → IsCaughtUp t reading.query from items (more ++ since.items)
    unfolding turn
    caught_up few =
        record {
          turns = k.turns ++ turn ∷ [];
          are = are;
          items_are = all_items;
          to_end =
              ap (λ (c : Cursor). c.position) (laws.sinces.cursor_more from k.turns turn) ∙
              laws.ends t.feed (is_kept (Under reading.query)) at reading.max since given_is few;
        }
