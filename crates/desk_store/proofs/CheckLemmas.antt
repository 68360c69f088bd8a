-- What one call of a follower's leaves, by what it was answered.
use Rattle.std.proofs.Common.{◌≡◌, ℕ, ◌+◌, ◌<◌, List, ◌++◌, length, take, Option, Some, refl, ap, sym, ◌∙◌, subst, inl, inr}
use Rattle.history.specs.History.{entry}
use Rattle.ds_names.specs.Limits.{most_items}
use Rattle.ds_entry.specs.Under.{under}
use Rattle.ds_entry.specs.declared.item.Item.{Item}
use Rattle.ds_join.specs.ItemTop.{IsTop}
use Rattle.ds_join.specs.declared.merge.JoinFault.TheVariants.{NoRoom}
use Rattle.ds_join.specs.declared.merge.Stop.{Stop}
use Rattle.ds_held.specs.Held.{Holding, held_items}
use Rattle.ds_held.specs.Limits.{larger}
use Rattle.ds_pattern.specs.declared.query.Query.{Query}
use Rattle.ds_pattern.specs.Under.{is_under}
use Rattle.ds_machine.specs.declared.command.Command.TheVariants.{Check}
use Rattle.ds_machine.specs.declared.reply.Reply.{Reply}
use Rattle.ds_machine.specs.declared.reply.Reply.TheVariants.{Subscribed, Checked}
use Rattle.ds_content.proofs.OpenLemmas.{nothing_is_held}
use Rattle.ds_submap.specs.Map.{IsMap, SubMapRecord, empty_map, map_of}
use Rattle.ds_submap.specs.Take.{IsTakeStopped}
use Rattle.desk_store.proofs.FitLemmas.{checks_fit}
use Rattle.desk_store.specs.Called.{MadeCall}
use Rattle.desk_store.specs.Record.{PassRecord}
use Rattle.desk_store.proofs.RecordLemmas.{call_after}
use Rattle.ds_reader.specs.Asked.{subscribe_anew}
use Rattle.desk_store.specs.Follower.{FollowerRecord, follower_of, mapped}
use Rattle.desk_store.specs.KeepsUp.{KeepsUpWith, StandsForFront, StandsIfStamped}
use Rattle.desk_store.specs.Refresh.{EndsBy}
use Rattle.desk_store.proofs.StandLemmas.{checked_current, checked_in, checked_stands, subscribed_stands}

-- ---- a lost follower emptied its map and subscribed, by a query that is the map's
pub subscribe_stands : (p q : PassRecord) (sub : ℕ) (query asked : Query) (map : SubMapRecord) (stamp place : ℕ) (reply : Reply) →
    map ≡ empty_map query → asked ≡ query →
    MadeCall p q (subscribe_anew sub asked) reply place → (owed : ℕ) × (reply ≡ Subscribed stamp owed) →
    StandsForFront q sub map.query stamp (held_items map.held)
subscribe_stands p q sub query asked map stamp place reply empty same called told =
    let asks = subst (λ (x : Query). MadeCall p q (subscribe_anew sub x) reply place) same called in
    let made = subst (λ (r : Reply). MadeCall p q (subscribe_anew sub query) r place) told.1 asks in
    let stands = subscribed_stands p q sub query stamp told.0 place made in
    subst (λ (m : SubMapRecord). StandsForFront q sub m.query stamp (held_items m.held)) (sym empty)
    (subst (λ (l : List Item). StandsForFront q sub query stamp l) (sym (nothing_is_held larger)) stands)

-- ---- a follower with this last stamp checked
module _ (p q : PassRecord) (f : FollowerRecord) (stamp before after place : ℕ) (items : List Item) (reply : Reply)
    (stamped : f.stamp ≡ Some stamp) (keeps : KeepsUpWith p f)
    (called : MadeCall p q (Check f.sub most_items) reply place) (told : reply ≡ Checked items before after) where
  check_called : MadeCall p q (Check f.sub most_items) (Checked items before after) place
  check_called = subst (λ (r : Reply). MadeCall p q (Check f.sub most_items) r place) told called

  -- it got its own stamp
  module _ (same : before ≡ stamp) where
    own_called : MadeCall p q (Check f.sub most_items) (Checked items stamp after) place
    own_called = subst (λ (b : ℕ). MadeCall p q (Check f.sub most_items) (Checked items b after) place) same check_called

    stood : StandsForFront p f.sub f.map.query stamp (mapped f)
    stood = subst (λ (o : Option ℕ). StandsIfStamped p f.sub f.map.query o (mapped f)) stamped keeps

    -- and its map took the items
    module _ (held : Holding) (top : IsTop (held_items held) (mapped f ++ under (is_under f.map.query) items)) where
      abbrev pub checked_follower : FollowerRecord
      checked_follower = follower_of f.sub (Some after) (record { query = f.map.query; held = held })

      pub check_keeps : KeepsUpWith q checked_follower
      check_keeps = checked_stands p q f.sub f.map.query stamp after place items (mapped f) stood own_called (held_items held) top

      pub check_ends : length items < most_items → EndsBy p q f checked_follower (place + 1)
      check_ends few = record {
        call = entry p.origin.number (Check f.sub most_items) (Checked items stamp after);
        stamp = stamp;
        after = after;
        made = own_called.made;
        legal = called.legal;
        stamped = stamped;
        ends = record { items = items; checks = record { command = refl; reply = refl }; few = few };
        stamp_is = refl;
        up_to = record {
          at = call_after p q (Check f.sub most_items) (Checked items stamp after) place own_called;
          current = checked_current p q f.sub f.map.query stamp after place items (mapped f) stood own_called (held_items held) top few;
        };
      }

    -- or it stopped, only because memory ran out
    pub never_stops : (new : SubMapRecord) (stop : Stop) → IsMap new →
        IsTop (held_items new.held) (mapped f ++ under (is_under f.map.query) (take stop.done items)) →
        IsTakeStopped f.map.query f.map.held items new.held stop → stop.fault ≡ NoRoom
    never_stops new stop map top stopped =
        let legal = called.legal in
        let run = legal.legal legal.begun legal.stood in
        let at = checked_in p q f.sub f.map.query stamp after place items (mapped f) stood own_called legal.content legal.opened_with
        legal.begun run.0 legal.stood run.1 in
        elim stopped.refused [
          | inl r ↦
              checks_fit at.mid run.0 f.sub f.map.query stamp most_items stamp after items f.map.held new.held stop.done r.0 stop.fault
              at.reached at.within at.follows at.step
              (record { sound = map.sound; limits = map.limits; top = top }) r.1 r.2.1
          | inr u ↦ u.noroom
        ]

-- ---- likewise for a follower by its parts, and for the map that took the items
module _ (p q : PassRecord) (f : FollowerRecord) (sub : ℕ) (o : Option ℕ) (old new : SubMapRecord) (stamp before after place : ℕ)
    (items : List Item) (reply : Reply)
    (parts : f ≡ follower_of sub o old) (stamped : f.stamp ≡ Some stamp) (keeps : KeepsUpWith p f)
    (called : MadeCall p q (Check sub most_items) reply place)
    (told : reply ≡ Checked items before after) (same : before ≡ stamp) where
  kept : KeepsUpWith p (follower_of sub o old)
  kept = subst (λ (x : FollowerRecord). KeepsUpWith p x) parts keeps

  has_stamp : o ≡ Some stamp
  has_stamp = sym (ap (λ (x : FollowerRecord). x.stamp) parts) ∙ stamped

  module _ (query : new.query ≡ old.query) (top : IsTop (held_items new.held) (held_items old.held ++ under (is_under old.query) items))
    where
      pub map_stands : StandsForFront q sub new.query after (held_items new.held)
      map_stands =
          subst (λ (x : Query). StandsForFront q sub x after (held_items new.held)) (sym query)
          (check_keeps p q (follower_of sub o old) stamp before after place items reply has_stamp kept called told same new.held top)

      pub map_ends : length items < most_items → EndsBy p q f (follower_of sub (Some after) new) (place + 1)
      map_ends few =
          subst (λ (x : FollowerRecord). EndsBy p q x (follower_of sub (Some after) new) (place + 1)) (sym parts)
          (subst (λ (x : Query). EndsBy p q (follower_of sub o old) (follower_of sub (Some after) (map_of x new.held)) (place + 1))
          (sym query)
          (check_ends p q (follower_of sub o old) stamp before after place items reply has_stamp kept called told same new.held top few))

  pub map_never_stops : (stop : Stop) → IsMap new →
      IsTop (held_items new.held) (held_items old.held ++ under (is_under old.query) (take stop.done items)) →
      IsTakeStopped old.query old.held items new.held stop → stop.fault ≡ NoRoom
  map_never_stops stop map top stopped = never_stops p q (follower_of sub o old) stamp before after place items reply has_stamp kept called
      told same new stop map top stopped
