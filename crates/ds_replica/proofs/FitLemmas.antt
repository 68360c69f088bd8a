-- What fits still fits later.
use Rattle.std.proofs.Common.{◌≡◌, ℕ, zero, suc, ◌≤◌, Bool, true, false, cond, List, [], ◌∷◌, ◌++◌, length, take, Option, Some, None, refl}
use Rattle.std.proofs.Common.{ap, sym, ◌∙◌, subst, inl, inr, arith, Contains}
use Rattle.std.specs.List.{AllZip, take-map}
use Rattle.std.proofs.lemmas.List.{take-take}
use Rattle.std.proofs.lemmas.List.Elements.{Contains-append_left, Contains-append_right, Contains-append_cases}
use Rattle.ds_names.specs.declared.key.Key.{Key}
use Rattle.ds_entry.specs.Item.{passes}
use Rattle.ds_entry.specs.ItemCovers.{covers}
use Rattle.ds_entry.specs.declared.item.Item.{Item}
use Rattle.ds_entry.proofs.Members.{Contains-head, Contains-from_map, Contains-from_filter}
use Rattle.ds_join.specs.ItemTop.{IsTop, IsPartOf}
use Rattle.ds_join.proofs.ItemTopLemmas.{held_is_top}
use Rattle.ds_pattern.specs.declared.query.Query.{Query}
use Rattle.ds_pattern.specs.Under.{is_under}
use Rattle.ds_replica.specs.Sent.{Sent, IsSent, sent_by, given, stood_for}
use Rattle.ds_replica.specs.Taking.{items_of, sent_under}
use Rattle.ds_replica.proofs.SentLemmas.{from_stood, stood, given_is_sent}
use Rattle.ds_replica.proofs.TakingLemmas.{holder_takes, map_takes}
use Rattle.ds_machine.specs.State.{State, held}
use Rattle.ds_machine.specs.Machine.{Step}
use Rattle.ds_machine.specs.Effect.{learnt_by}
use Rattle.ds_machine.specs.declared.command.Command.{Command}
use Rattle.ds_machine.specs.declared.reply.Reply.{Reply}
use Rattle.ds_machine.proofs.KnownLemmas.{steps_stay_reached, known_stays_held}
use Rattle.ds_replica.specs.declared.event.Side.{Side}
use Rattle.ds_replica.specs.declared.event.Side.TheVariants.{A, B}
use Rattle.ds_replica.specs.World.{MapState, World, store_at, with_state, with_items}
use Rattle.ds_replica.specs.Known.{StoreAccount, MapAccount, Account, store_of, store_asked, took, with_account, with_sent}
use Rattle.ds_replica.specs.Fits.{AreWithin, FitsStore, FitsMap, FitsMessage, Fits}
use Rattle.ds_replica.proofs.ZipLemmas.{AllZip-last, AllZip-weaker}
use Rattle.ds_replica.proofs.LeftLemmas.{step_left}
use Rattle.ds_replica.proofs.GoneLemmas.{step_accepts, Gone}
use Rattle.ds_entry.specs.Under.{under}

-- ---- with more brought in
module _ (brought wider : List Item) (more : IsPartOf brought wider) where
  pub store_wider : (a : StoreAccount) (s : State) → FitsStore brought a s → FitsStore wider a s
  store_wider a s f =
      record { state_is = f.state_is; reached = f.reached; top = f.top; accepted = f.accepted; within = λ i h. more i (f.within i h) }

  pub map_wider : (a : MapAccount) (m : MapState) → FitsMap brought a m → FitsMap wider a m
  map_wider a m f = record { query_is = f.query_is; map = f.map; within = λ s h i k. more i (f.within s h i k) }

  pub message_wider : (a : List Sent) (items : List Item) → FitsMessage brought a items → FitsMessage wider a items
  message_wider a items f = record { items_are = f.items_are; sent = f.sent; within = λ s h i k. more i (f.within s h i k) }

-- ---- at each side
pub store_fits : (account : Account) (w : World) (side : Side) → Fits account w →
    FitsStore account.brought (store_of account side) (store_at w side)
store_fits account w A f = f.a
store_fits account w B f = f.b

-- the same, said of the account's own state
pub own_fits : (account : Account) (w : World) (side : Side) → Fits account w →
    FitsStore account.brought (store_of account side) (store_of account side).state
own_fits account w side f = subst (FitsStore account.brought (store_of account side)) (sym (store_fits account w side f).state_is)
    (store_fits account w side f)

pub put_fits : (account : Account) (w : World) (side : Side) (x : StoreAccount) (t : State) → Fits account w →
    FitsStore account.brought x t → Fits (with_account account side x) (with_state w side t)
put_fits account w A x t f g = record { a = g; b = f.b; maps = f.maps; messages = f.messages }
put_fits account w B x t f g = record { a = f.a; b = g; maps = f.maps; messages = f.messages }

module _ (account : Account) (w : World) (x : StoreAccount) (t : State) (learnt known : List Item) (f : Fits account w) where
  more : IsPartOf account.brought (account.brought ++ learnt)
  more i h = Contains-append_left account.brought learnt i h

  maps_still : AllZip (FitsMap (account.brought ++ learnt)) account.maps w.maps
  maps_still = AllZip-weaker (FitsMap account.brought) (FitsMap (account.brought ++ learnt))
      (map_wider account.brought (account.brought ++ learnt) more) account.maps w.maps f.maps

  messages_still : AllZip (FitsMessage (account.brought ++ learnt)) account.messages w.messages
  messages_still = AllZip-weaker (FitsMessage account.brought) (FitsMessage (account.brought ++ learnt))
      (message_wider account.brought (account.brought ++ learnt) more) account.messages w.messages f.messages

  -- a store that learnt something, and what it replied
  pub asked_fits : (side : Side) (o : Option (List Item)) → FitsStore (account.brought ++ learnt) x t →
      ((items : List Item) → o ≡ Some items → FitsMessage (account.brought ++ learnt) (given known items) items)
      → Fits (record (with_account account side x) { messages = with_sent account.messages known o; brought = account.brought ++ learnt })
      (with_items (with_state w side t) o)
  asked_fits A None g m =
      record {
        a = g;
        b = store_wider account.brought (account.brought ++ learnt) more account.b w.b f.b;
        maps = maps_still;
        messages =
            messages_still;
      }
  asked_fits A (Some items) g m = record {
    a = g;
    b = store_wider account.brought (account.brought ++ learnt) more account.b w.b f.b;
    maps = maps_still;
    messages = AllZip-last (FitsMessage (account.brought ++ learnt)) account.messages w.messages (given known items) items messages_still
        (m items refl);
  }
  asked_fits B None g m =
      record {
        a = store_wider account.brought (account.brought ++ learnt) more account.a w.a f.a;
        b = g;
        maps = maps_still;
        messages =
            messages_still;
      }
  asked_fits B (Some items) g m = record {
    a = store_wider account.brought (account.brought ++ learnt) more account.a w.a f.a;
    b = g;
    maps = maps_still;
    messages = AllZip-last (FitsMessage (account.brought ++ learnt)) account.messages w.messages (given known items) items messages_still
        (m items refl);
  }

-- ---- a message
pub items_given_back : (known items : List Item) → items_of (given known items) ≡ items
items_given_back known [] = refl
items_given_back known (i ∷ items) = ap (λ (l : List Item). i ∷ l) (items_given_back known items)

-- what a store sends of what it knows
pub message_given : (brought known items : List Item) → IsPartOf items known → IsPartOf known brought →
    FitsMessage brought (given known items) items
message_given brought known items part within = record {
  items_are = items_given_back known items;
  sent = given_is_sent known items part;
  within = λ s h i k.
      let m = Contains-from_map (sent_by known) items s h in
      within i (Contains-from_filter (covers m.0) known i (subst (λ (z : Sent). Contains z.stands_for i) (sym m.2) k)).0;
}

-- ---- a store after a command
pub asked_store : (brought : List Item) (a : StoreAccount) (t : State) (command : Command) (reply : Reply) → FitsStore brought a a.state →
    Step a.state command reply t →
    FitsStore (brought ++ learnt_by a.state command reply) (store_asked a command reply) t
asked_store brought a t command reply f step =
    let learnt = learnt_by a.state command reply in
    record {
      state_is = sym (step_left a.state t command reply f.reached step);
      reached = steps_stay_reached a.state t command reply f.reached step;
      top = known_stays_held a.state t command reply a.known f.reached step f.top;
      accepted = λ i h. elim (step_accepts a.state t command reply f.reached step i h)
          [ inl k ↦ Contains-append_left a.known learnt i (f.accepted i k) | inr k ↦ Contains-append_right a.known learnt i k ];
      within = λ i h. elim (Contains-append_cases a.known learnt i h)
          [ inl k ↦ Contains-append_left brought learnt i (f.within i k) | inr k ↦ Contains-append_right brought learnt i k ];
    }

-- ---- items that were taken
length_take : {X : Type 0} (n : ℕ) (xs : List X) → length (take n xs) ≤ n
length_take zero xs = omega arith
length_take (suc n) [] = omega arith
length_take (suc n) (x ∷ xs) = let l = length_take n xs in omega (arith, l)

-- the first of a message's items that were delivered are the first of the account's
pub first_sent : (brought : List Item) (sent : List Sent) (items : List Item) (n c : ℕ) → FitsMessage brought sent items →
    n ≤ length (take c items) → take n (take c items) ≡ items_of (take n sent)
first_sent brought sent items n c f l =
    let most = length_take c items in
    take-take n c items (omega (arith, l, most)) ∙ (ap (take n) (sym f.items_are) ∙ take-map (λ (s : Sent). s.item) n sent)

module _ (brought : List Item) (more : List Sent) (sent : (s : Sent) → Contains more s → IsSent s) (within : AreWithin brought more) where
  items_stood : IsPartOf (items_of more) (stood_for more)
  items_stood i h =
      let s = Contains-from_map (λ (t : Sent). t.item) more i h in
      subst (λ (z : Item). Contains (stood_for more) z) s.2
      (stood more s.0 s.0.item s.1 ((sent s.0 s.1).among s.0.item (Contains-head s.0.item [])))

  stood_within : IsPartOf (stood_for more) brought
  stood_within i h = let s = from_stood more i h in within s.0 s.1 i s.2

  pub took_store : (a : StoreAccount) (t : State) → FitsStore brought a a.state → Gone a.state (items_of more) t →
      FitsStore brought (took a more) t
  took_store a t f g =
      record {
        state_is = sym g.state_is;
        reached = g.reached;
        top = holder_takes a.known (held a.state) (held t) more sent f.top
            (g.top (held a.state) (held_is_top (held a.state) a.known f.top));
        accepted = λ i h. elim (g.accepted i h) [
          | inl k ↦ Contains-append_left a.known (stood_for more) i (f.accepted i k)
          | inr k ↦
              Contains-append_right a.known (stood_for more) i (items_stood i k)
        ];
        within = λ i h. elim (Contains-append_cases a.known (stood_for more) i h) [ inl k ↦ f.within i k | inr k ↦ stood_within i k ];
      }

  under_items : (query : Key → Bool) (items : List Sent) → under query (items_of items) ≡ items_of (sent_under query items)
  under_items query [] = refl
  under_items query (s ∷ items) =
      elim (passes query s.item) as (λ b. cond b (s.item ∷ under query (items_of items)) (under query (items_of items)) ≡ items_of
      (cond b (s ∷ sent_under query items) (sent_under query items)))
      [ true ↦ ap (λ (l : List Item). s.item ∷ l) (under_items query items) | false ↦ under_items query items ]

  pub took_map : (a : MapAccount) (m after : MapState) → FitsMap brought a m → after.query ≡ m.query →
      IsTop after.held (m.held ++ under (is_under m.query) (items_of more)) → FitsMap brought (record a { taken = a.taken ++ more }) after
  took_map a m after f e top =
      record {
        query_is = f.query_is ∙ sym e;
        map = map_takes (is_under a.query) a.taken more m.held after.held sent f.map
            (subst (λ l. IsTop after.held (m.held ++ l)) (under_items (is_under a.query) more)
            (subst (λ (q : Query). IsTop after.held (m.held ++ under (is_under q) (items_of more))) (sym f.query_is) top));
        within = λ s h. elim (Contains-append_cases a.taken more s h) [ inl k ↦ f.within s k | inr k ↦ within s k ];
      }
