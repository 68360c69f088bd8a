-- The headline's statements, of the value that callers see.
use Rattle.std.proofs.Common.{◌≡◌, ℕ, zero, suc, List, [], ◌∷◌, Option, Some, ap, sym, ◌∙◌, subst, inl, inr, All, Contains}
use Rattle.std.specs.List.{slice_get}
use Rattle.std.specs.Option.{option_map}
use Rattle.std.proofs.lemmas.List.Elements.{All-contains}
use Rattle.ds_names.specs.Endpoint.{EndpointRecord}
use Rattle.ds_entry.specs.declared.item.Item.{Item}
use Rattle.ds_entry.proofs.Members.{Contains-head, Contains-tail}
use Rattle.ds_entry.specs.declared.item.Item.TheVariants.{Change as Changed}
use Rattle.ds_join.specs.ItemTop.{CoversAll}
use Rattle.ds_held.specs.Held.{held_items}
use Rattle.ds_pattern.specs.Under.{is_under}
use Rattle.ds_submap.specs.Map.{SubMapRecord, IsMap}
use Rattle.ds_replica.specs.Labels.{label_in, IsNewest}
use Rattle.ds_replica.specs.declared.event.Event.{Event}
use Rattle.ds_replica.specs.declared.event.Side.{Side}
use Rattle.ds_replica.specs.declared.event.Side.TheVariants.{A, B}
use Rattle.ds_replica.specs.declared.event.Holder.{Holder}
use Rattle.ds_replica.specs.declared.event.Holder.TheVariants.{Store, Map}
use Rattle.ds_replica.specs.declared.outcome.Outcome.{Outcome}
use Rattle.ds_content.specs.Stands as contents
use Rattle.ds_replica.specs.World.{World, map_held, held_by, store_at}
use Rattle.ds_replica.specs.Happens.{HappenAll}
use Rattle.ds_replica.specs.Headline as headline
use Rattle.ds_replica.specs.Known.{Account, store_of, extended_all}
use Rattle.ds_replica.proofs.EventLemmas.{events_fit}
use Rattle.ds_replica.proofs.HolderLemmas.{equal_where_known, holds_the_stores, holds_at_least, labels_are_newest, nothing_clashes}
use Rattle.ds_replica.proofs.HolderLemmas.{nothing_below_floors}
use Rattle.ds_replica.proofs.BringLemmas.{events_bring_items}
use Rattle.ds_replica.proofs.StayLemmas.{floors_stand}
use Rattle.ds_replica.proofs.TurnLemmas.{whole_stays, turns_are_run}
use Rattle.ds_world.specs.World.{WorldRecord, map_state, held_in, store_in, WorldStands}
use Rattle.ds_world.specs.Account.{IsFor, Agrees, CatchesUp, KeepsUp, NamesNewest, IsFoundIn, NothingClashes, NothingBelowFloors}
use Rattle.ds_world.specs.Account.{FloorsStand, StaysWhole, StayItems, TurnsAreRun}
use Rattle.ds_world.specs.Told.{AreTold}
use Rattle.ds_world.proofs.NamedLemmas.{named}
use Rattle.ds_world.proofs.ReplyLemmas.{all_proper, happened}
use Rattle.ds_world.proofs.StandLemmas.{held_is, message_is}
use Rattle.ds_entry.specs.Under.{under, entries_of}

-- the element at an index is in the list
get_contains : {X : Type 0} (xs : List X) (k : ℕ) (x : X) → slice_get xs k ≡ Some x → Contains xs x
get_contains [] k x e = absurd (cc)
get_contains (y ∷ xs) zero x e = let same : y ≡ x = cc in subst (Contains (y ∷ xs)) same (Contains-head y xs)
get_contains (y ∷ xs) (suc k) x e = Contains-tail y xs x (get_contains xs k x e)

module _ (account : Account) (value : WorldRecord) (f : IsFor account value) where
  held : (h : Holder) → held_by f.0 h ≡ held_in value h
  held h = held_is value f.0 h f.1

  agrees : Agrees account value
  agrees query h i n k =
      let e = equal_where_known account f.0 query h i f.2 n k in (
        ap (under query) (sym (held h)) ∙ e.0 ∙ ap (under query) (held i),
        ap (λ (l : List Item). entries_of (under query l)) (sym (held h)) ∙ e.1 ∙
            ap (λ (l : List Item). entries_of (under query l)) (held i),
      )

  catches_up : CatchesUp account value
  catches_up j m side n all else =
      let e = holds_the_stores account f.0 j m side f.2 n all else in (
        sym (held (Map j)) ∙ e.0 ∙ ap (under (is_under m.query)) (held (Store side)),
        ap entries_of (sym (held (Map j))) ∙ e.1 ∙ ap (λ (l : List Item). entries_of (under (is_under m.query) l)) (held (Store side)),
      )

  keeps_up : KeepsUp account value
  keeps_up j m side all =
      subst (λ (l : List Item). CoversAll l (under (is_under m.query) (held_in value (Store side)))) (held (Map j))
      (subst (λ (l : List Item). CoversAll (held_by f.0 (Map j)) (under (is_under m.query) l)) (held (Store side))
      (holds_at_least account f.0 j m side f.2 all))

  names_newest : All IsMap value.maps → NamesNewest account value
  names_newest maps j m n side name there items all else u =
      let map = All-contains IsMap value.maps n maps (get_contains value.maps j n there) in
      let is : held_by f.0 (Map j) ≡ held_items n.held =
      held (Map j) ∙ ap (λ (o : Option SubMapRecord). map_held (option_map map_state o)) there in
      subst (λ (o : Option EndpointRecord). IsNewest (store_of account side).known name o)
      (ap (λ (l : List Item). label_in l name) is ∙ named n.held map.sound name)
      (labels_are_newest account f.0 f.2 items j m side name all else u)

  about : (i : Item) → IsFoundIn value i → headline.IsAbout f.0 i
  about i (inl h) = inl (h.0, subst (λ (l : List Item). Contains l i) (sym (held h.0)) h.1)
  about i (inr m) = inr (m.1, get_contains f.0.messages m.0 m.1 (message_is value f.0 m.0 f.1 ∙ m.2), m.3)

  clashes : NothingClashes account value
  clashes c d n h k e = nothing_clashes account f.0 c d f.2 n (about _ h) (about _ k) e

  floors : NothingBelowFloors account value
  floors h floor c k there = nothing_below_floors account f.0 h floor c f.2 k
      (subst (λ (l : List Item). Contains l (Changed c)) (sym (held h)) there)

module _ (account : Account) (old new : WorldRecord) (all : List (Event × Outcome)) (told : AreTold old all new) (f : IsFor account old)
  where
    went : (late : World) × HappenAll f.0 all late × WorldStands new late
    went = happened all old new f.0 told f.1

    pub account_fits : IsFor (extended_all account all) new
    account_fits = (went.0, went.2, events_fit account f.0 went.0 all f.2 went.1)

    -- so these hold of the value afterwards
    pub agree_after : Agrees (extended_all account all) new
    agree_after = agrees (extended_all account all) new account_fits

    pub catch_up_after : CatchesUp (extended_all account all) new
    catch_up_after = catches_up (extended_all account all) new account_fits

    pub keep_up_after : KeepsUp (extended_all account all) new
    keep_up_after = keeps_up (extended_all account all) new account_fits

    pub newest_after : All IsMap new.maps → NamesNewest (extended_all account all) new
    newest_after maps = names_newest (extended_all account all) new account_fits maps

    pub clashes_after : NothingClashes (extended_all account all) new
    clashes_after = clashes (extended_all account all) new account_fits

    pub floors_after : NothingBelowFloors (extended_all account all) new
    floors_after = floors (extended_all account all) new account_fits

    pub floors_stand_after : FloorsStand account all new
    floors_stand_after h floor c stays k there =
        floors_stand account f.0 went.0 h all floor c f.2 went.1 stays k
        (subst (λ (l : List Item). Contains l (Changed c)) (sym (held_is new went.0 h went.2)) there)

    pub items_stay : StayItems account all
    items_stay items = events_bring_items account f.0 went.0 all f.2 went.1 (all_proper old new all told) items

    pub stays_whole : StaysWhole account all
    stays_whole side query items r stays l whole = whole_stays account f.0 went.0 side all query items r f.2 went.1 stays l whole

store_stands : (value : WorldRecord) (w : World) (side : Side) → WorldStands value w →
    contents.ContentStands (store_in value side) (store_at w side)
store_stands value w A s = s.a
store_stands value w B s = s.b

pub turns : (old new : WorldRecord) (all : List (Event × Outcome)) → AreTold old all new → TurnsAreRun old all new
turns old new all told w side s stays =
    let went = happened all old new w told s in
    let t = turns_are_run w went.0 side all went.1 stays in
    (went.0, t.0, t.1, t.2, store_stands new went.0 side went.2)
