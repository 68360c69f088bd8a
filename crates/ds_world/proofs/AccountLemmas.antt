-- That every world has an account that fits it.
use Rattle.std.proofs.Common.{List, [], ◌∷◌, ◌++◌, map, filter, refl, sym, subst, IsTrue, All, Contains}
use Rattle.std.specs.List.{flat_map, AllZip}
use Rattle.std.proofs.lemmas.List.Elements.{All-head, All-tail, All-contains, Contains-append_left, Contains-append_right}
use Rattle.ds_entry.specs.Item.{passes}
use Rattle.ds_entry.specs.ItemCovers.{covers, covered_by}
use Rattle.ds_entry.specs.declared.item.Item.{Item}
use Rattle.ds_entry.proofs.ItemLemmas.{covers-refl}
use Rattle.ds_entry.proofs.Members.{Contains-head, Contains-tail, Contains-from_map, Contains-from_filter, Contains-flat_map}
use Rattle.ds_join.specs.ItemTop.{IsTop, IsPartOf}
use Rattle.ds_join.proofs.ItemTopLemmas.{top_of_same}
use Rattle.ds_held.specs.Held.{held_items}
use Rattle.ds_pattern.specs.Under.{is_under}
use Rattle.ds_submap.specs.Map.{SubMapRecord, IsMap}
use Rattle.ds_replica.specs.Sent.{Sent, IsSent, sent_by, given, learnt}
use Rattle.ds_replica.proofs.SentLemmas.{from_stood, given_stands, given_is_sent, learnt_of}
use Rattle.ds_machine.specs.State.{State}
use Rattle.ds_machine.specs.Reached.{IsReached}
use Rattle.ds_machine.proofs.ReachedLemmas.{held_is_top}
use Rattle.ds_content.specs.Stands.{ContentStands}
use Rattle.ds_content.proofs.HoldingLemmas.{top_itself}
use Rattle.ds_replica.specs.Known.{StoreAccount, MapAccount, Account}
use Rattle.ds_replica.specs.Fits.{AreWithin, FitsStore, FitsMap, FitsMessage}
use Rattle.ds_replica.proofs.FitLemmas.{items_given_back}
use Rattle.ds_world.specs.World.{WorldRecord, map_state, HasItems}
use Rattle.ds_world.specs.Account.{IsFor}
use Rattle.ds_world.proofs.StandLemmas.{all_items}

-- what a holder's items stand for is something that it knows
given_within : (known items brought : List Item) → IsPartOf known brought → AreWithin brought (given known items)
given_within known items brought part s h i k =
    let j = Contains-from_map (sent_by known) items s h in
    let there : Contains (covered_by j.0 known) i = subst (λ (t : Sent). Contains t.stands_for i) (sym j.2) k in
    part i (Contains-from_filter (covers j.0) known i there).0

-- ---- a map
-- whose items are from a holder that knows exactly what the map holds
abbrev map_account : SubMapRecord → MapAccount
map_account m = record { query = m.query; taken = given (held_items m.held) (held_items m.held) }

module _ (m : SubMapRecord) (is : IsMap m) where
  abbrev held : List Item
  held = held_items m.held

  sent : (s : Sent) → Contains (given held held) s → IsSent s
  sent s h = given_is_sent held held (λ i k. k) s h

  -- it learnt what it holds
  learns_all : IsPartOf held (learnt (is_under m.query) (given held held))
  learns_all i h =
      learnt_of (is_under m.query) (given held held) sent i (All-contains (λ j. IsTrue (passes (is_under m.query) j)) held i is.under h)
      (given_stands held held i i h h (covers-refl i))

  -- and nothing else
  learns_no_more : IsPartOf (learnt (is_under m.query) (given held held)) held
  learns_no_more i h =
      let s = from_stood (filter (λ (t : Sent). passes (is_under m.query) t.item) (given held held)) i h in
      let from = Contains-from_filter (λ (t : Sent). passes (is_under m.query) t.item) (given held held) s.0 s.1 in
      given_within held held held (λ j k. k) s.0 from.0 i s.2

  itself : IsTop held held
  itself = top_itself m.held is.sound

  map_fits : (brought : List Item) → IsPartOf held brought → FitsMap brought (map_account m) (map_state m)
  map_fits brought part = record {
    query_is = refl;
    map =
        record { sent = sent; top = top_of_same held held (learnt (is_under m.query) (given held held)) learns_all learns_no_more itself };
    within = given_within held held brought part;
  }

maps_fit : (maps : List SubMapRecord) (brought : List Item) → All IsMap maps
    → ((m : SubMapRecord) → Contains maps m → IsPartOf (held_items m.held) brought)
    → AllZip (FitsMap brought) (map map_account maps) (map map_state maps)
maps_fit [] brought all part = tt
maps_fit (m ∷ maps) brought all part = (
  map_fits m (All-head IsMap m maps all) brought (part m (Contains-head m maps)),
  maps_fit maps brought (All-tail IsMap m maps all) (λ n h. part n (Contains-tail m maps n h)),
)

-- ---- messages
-- from a holder that knows exactly their items
abbrev message_account : List Item → List Sent
message_account items = given items items

messages_fit : (messages : List (List Item)) (brought : List Item)
    → ((items : List Item) → Contains messages items → IsPartOf items brought)
    → AllZip (FitsMessage brought) (map message_account messages) messages
messages_fit [] brought part = tt
messages_fit (items ∷ messages) brought part = (
  record {
    items_are = items_given_back items items;
    sent = given_is_sent items items (λ i k. k);
    within = given_within items items brought (part items (Contains-head items messages));
  },
  messages_fit messages brought (λ others h. part others (Contains-tail items messages others h)),
)

-- ---- a store
-- that knows what it accepted
abbrev store_account : State → StoreAccount
store_account s = record { state = s; known = s.feed.accepted }

store_fits : (s : State) (brought : List Item) → IsReached s → IsPartOf s.feed.accepted brought → FitsStore brought (store_account s) s
store_fits s brought r part = record { state_is = refl; reached = r; top = held_is_top s r; accepted = λ i h. h; within = part }

-- ---- a world
module _ (value : WorldRecord) (s t : State) (a : ContentStands value.a s) (b : ContentStands value.b t) (maps : All IsMap value.maps)
    (messages : All HasItems value.messages) where
  abbrev sent_items : List (List Item)
  sent_items = (all_items value.messages messages).0

  abbrev of_maps : List Item
  of_maps = flat_map (λ (m : SubMapRecord). held_items m.held) value.maps

  abbrev of_messages : List Item
  of_messages = flat_map (λ (items : List Item). items) sent_items

  -- all that the stores accepted, and that maps and messages have
  abbrev brought : List Item
  brought = s.feed.accepted ++ (t.feed.accepted ++ (of_maps ++ of_messages))

  in_maps : (m : SubMapRecord) → Contains value.maps m → IsPartOf (held_items m.held) brought
  in_maps m h i k =
      Contains-append_right s.feed.accepted (t.feed.accepted ++ (of_maps ++ of_messages)) i
      (Contains-append_right t.feed.accepted (of_maps ++ of_messages) i
      (Contains-append_left of_maps of_messages i (Contains-flat_map (λ (m : SubMapRecord). held_items m.held) value.maps m i h k)))

  in_messages : (items : List Item) → Contains sent_items items → IsPartOf items brought
  in_messages items h i k =
      Contains-append_right s.feed.accepted (t.feed.accepted ++ (of_maps ++ of_messages)) i
      (Contains-append_right t.feed.accepted (of_maps ++ of_messages) i
      (Contains-append_right of_maps of_messages i (Contains-flat_map (λ (items : List Item). items) sent_items items i h k)))

  abbrev account : Account
  account = record {
    a = store_account s;
    b = store_account t;
    maps = map map_account value.maps;
    messages = map message_account sent_items;
    brought = brought;
  }

  pub some_account : (known : Account) × IsFor known value
  some_account = (
    account,
    (
      record { a = s; b = t; maps = map map_state value.maps; messages = sent_items },
      record { a = a; b = b; maps = refl; messages = (all_items value.messages messages).1 },
      record {
        a = store_fits s brought a.reached (λ i h. Contains-append_left s.feed.accepted (t.feed.accepted ++ (of_maps ++ of_messages)) i h);
        b = store_fits t brought b.reached (λ i h.
            Contains-append_right s.feed.accepted (t.feed.accepted ++ (of_maps ++ of_messages)) i
            (Contains-append_left t.feed.accepted (of_maps ++ of_messages) i h));
        maps = maps_fit value.maps brought maps in_maps;
        messages = messages_fit sent_items brought in_messages;
      },
    ),
  )
