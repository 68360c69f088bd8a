-- No delivery is stopped by an item that contradicts what is held.
use Rattle.std.proofs.Common.{◌≡◌, ◌==◌, ℕ, true, false, not, ◌&&◌, List, [], ◌∷◌, ◌++◌, length, take, map, Option, Some, None, refl, ap}
use Rattle.std.proofs.Common.{sym, ◌∙◌, subst, inl, inr, Contains}
use Rattle.std.specs.List.{flat_map}
use Rattle.std.specs.Option.{option_map_or}
use Rattle.std.specs.Ordering.{is_eq}
use Rattle.std.proofs.lemmas.List.Elements.{Contains-append_left, Contains-append_right, Contains-append_cases}
use Rattle.std.proofs.lemmas.Bool.Decides.{eqb_tells}
use Rattle.ds_names.specs.declared.version.Version.{Version}
use Rattle.ds_names.specs.Version.{version_cmp}
use Rattle.ds_names.proofs.OrderLemmas.{exact_versions}
use Rattle.ds_entry.specs.Change.{ChangeRecord}
use Rattle.ds_entry.specs.ItemCovers.{AreSingleNumbered}
use Rattle.ds_entry.specs.declared.body.Value.TheVariants as values
use Rattle.ds_entry.specs.declared.body.Body.{Body}
use Rattle.ds_entry.specs.declared.body.Body.TheVariants.{Put, Gone}
use Rattle.ds_entry.specs.declared.item.Item.{Item}
use Rattle.ds_entry.specs.declared.item.Item.TheVariants.{Change as Changed, Floor as Floored}
use Rattle.ds_entry.proofs.Members.{Contains-from_take}
use Rattle.ds_join.specs.ItemTop.{IsPartOf}
use Rattle.ds_pattern.specs.Under.{is_under}
use Rattle.ds_replica.proofs.SentLemmas.{Contains-from_under}
use Rattle.ds_machine.specs.Parts.{held_at}
use Rattle.ds_machine.specs.State.{State, held, owed}
use Rattle.ds_machine.specs.Standing.{standing_of, floor_standing_of, on_held, against_change, against_floor, cause_of, is_same_body}
use Rattle.ds_machine.specs.Order.{by_command, by_version, by_room, first_refusal}
use Rattle.ds_machine.specs.Calling.{against_merge}
use Rattle.ds_machine.specs.Merging.{Course, begun, course, merging}
use Rattle.ds_machine.specs.Machine.{Step}
use Rattle.ds_machine.specs.Reached.{IsReached}
use Rattle.ds_machine.specs.Effect.{known_after}
use Rattle.ds_machine.specs.declared.refusal.Cause.{Cause}
use Rattle.ds_machine.specs.declared.refusal.Cause.TheVariants as causes
use Rattle.ds_machine.specs.declared.refusal.Refusal.{Refusal}
use Rattle.ds_machine.specs.declared.refusal.Refusal.TheVariants as refusals
use Rattle.ds_machine.specs.declared.command.Command.TheVariants.{Merge}
use Rattle.ds_machine.specs.declared.reply.Reply.{Reply}
use Rattle.ds_machine.specs.declared.reply.Reply.TheVariants.{Merged, MergeStopped, Refused as Refusing}
use Rattle.ds_machine.proofs.PartLemmas.{found, key_found}
use Rattle.ds_machine.proofs.ReachedLemmas.{held_is_top}
use Rattle.ds_machine.proofs.KnownLemmas.{steps_stay_reached}
use Rattle.ds_replica.specs.declared.event.Holder.{Holder}
use Rattle.ds_replica.specs.declared.event.Holder.TheVariants.{Store, Map}
use Rattle.ds_replica.specs.declared.outcome.Outcome.TheVariants.{Stopped}
use Rattle.ds_replica.specs.World.{MapState, World, store_at, map_held}
use Rattle.ds_replica.specs.Delivery.{Tally, OthersFollow, GroupsAreMerged, DeliveryEnds, StandsAgainst}
use Rattle.ds_replica.specs.Happens.{tally_outcome, IsDelivered, Delivers, count_of}
use Rattle.ds_replica.specs.Known.{Account}
use Rattle.ds_replica.specs.Fits.{FitsMessage, Fits}
use Rattle.ds_replica.specs.Headline.{IsContradiction, NothingStopsInWorlds}
use Rattle.ds_replica.proofs.ZipLemmas.{AllZip-at}
use Rattle.ds_replica.proofs.LeftLemmas.{took}
use Rattle.ds_replica.proofs.GoneLemmas.{step_accepts}
use Rattle.ds_replica.proofs.FitLemmas.{store_fits}
use Rattle.ds_replica.proofs.HolderLemmas.{held_within, message_within}
use Rattle.ds_names.specs.Name.{is_same_name}
use Rattle.std.proofs.lemmas.Bool.{and_parts, and_from}
use Rattle.ds_replica.proofs.BringLemmas.{text_is}
use Rattle.ds_feed.proofs.PageLemmas.{contains_at}
use Rattle.ds_names.proofs.Tests.{equal_is}

-- ---- what is one and the same
eq_itself : (n : ℕ) → (n == n) ≡ true
eq_itself n = elim (eqb_tells n n) [ inl y ↦ y.0 | inr d ↦ absurd (d.1 refl) ]

body_itself : (b : Body) → is_same_body b b ≡ true
body_itself Gone = refl
body_itself (Put (values.Label e)) = and_from (e.generation == e.generation) (e.slot == e.slot) (eq_itself e.generation) (eq_itself e.slot)
body_itself (Put (values.U32 n)) = eq_itself n
body_itself (Put (values.Str t)) = text_is t
body_itself (Put (values.Mem t)) = text_is t

-- the order in which causes are judged
abbrev causes_of : Option Version → List Cause
causes_of v = map causes.Refused by_command ++ by_version v ++ map causes.Refused by_room

not_false : false ≡ true → ⊥
not_false e = cc

module _ (brought : List Item) (n : AreSingleNumbered brought) where
  -- ---- one item against what is held
  module _ (held : List Item) (part : IsPartOf held brought) where
    against_owner : (c : ChangeRecord) → Contains brought (Changed c) → (o : Option ChangeRecord) → held_at held c.key ≡ o →
        on_held o (λ h. not (is_same_name h.owner c.owner)) ≡ true → ⊥
    against_owner c b None e t = not_false t
    against_owner c b (Some h) e t =
        let k = key_found held c.key h e in
        let same = n.one_owner h c (part (Changed h) k.0) b (sym k.1) in
        not_false (sym (ap not (subst (λ (x : List ℕ). is_same_name h.owner x ≡ true) same (text_is h.owner))) ∙ t)

    against_body : (c : ChangeRecord) → Contains brought (Changed c) → (o : Option ChangeRecord) → held_at held c.key ≡ o →
        on_held o (λ h. is_eq (version_cmp h.version c.version) && not (is_same_body h.body c.body)) ≡ true → ⊥
    against_body c b None e t = not_false t
    against_body c b (Some h) e t =
        let k = key_found held c.key h e in
        let p = and_parts (is_eq (version_cmp h.version c.version)) (not (is_same_body h.body c.body)) t in
        let same = n.one_change h c (part (Changed h) k.0) b (sym k.1)
        (exact_versions h.version c.version (equal_is (version_cmp h.version c.version) p.0)) in
        not_false (sym (ap not (subst (λ (x : ChangeRecord). is_same_body h.body x.body ≡ true) same (body_itself h.body))) ∙ p.1)

    stands_not : (i : Item) → Contains brought i → (fault : Refusal) → StandsAgainst held i fault → IsContradiction fault → ⊥
    stands_not (Changed c) b refusals.NotOwner s e = s.3 (n.one_owner s.0 c (part (Changed s.0) s.1) b s.2)
    stands_not (Changed c) b (refusals.Clash v) s e =
        s.4 (ap (λ (x : ChangeRecord). x.body) (n.one_change s.0 c (part (Changed s.0) s.1) b s.2 s.3))
    stands_not (Floored f) b refusals.NotOwner s e = s
    stands_not (Floored f) b (refusals.Clash v) s e = s
    stands_not i b _ s e = e

  -- the machine's judgement of one item
  judged_not : (s : State) → IsPartOf (held s) brought → (i : Item) → Contains brought i → (fault : Refusal) →
      cause_of s i ≡ Some (causes.Refused fault) → IsContradiction fault → ⊥
  judged_not s part (Changed c) b refusals.NotOwner e t =
      against_owner (held s) part c b (held_at (held s) c.key) refl
      (found (against_change (standing_of s c) c) (causes_of (Some c.version)) (causes.Refused refusals.NotOwner) e).1
  judged_not s part (Changed c) b (refusals.Clash v) e t =
      against_body (held s) part c b (held_at (held s) c.key) refl
      (found (against_change (standing_of s c) c) (causes_of (Some c.version)) (causes.Refused (refusals.Clash v)) e).1
  judged_not s part (Floored f) b refusals.NotOwner e t =
      not_false (found (against_floor (floor_standing_of s f) f) (causes_of None) (causes.Refused refusals.NotOwner) e).1
  judged_not s part (Floored f) b (refusals.Clash v) e t =
      not_false (found (against_floor (floor_standing_of s f) f) (causes_of None) (causes.Refused (refusals.Clash v)) e).1
  judged_not s part i b _ e t = t

  -- ---- a Merge
  module _ (s mid : State) (group : List Item) (r : IsReached s) (accepted : IsPartOf s.feed.accepted brought) (b : IsPartOf group brought)
    where
      accepted_on : (reply : Reply) → Step s (Merge group) reply mid → IsPartOf (known_after reply group) brought →
          IsPartOf mid.feed.accepted brought
      accepted_on reply step k i h = elim (step_accepts s mid (Merge group) reply r step i h) [ inl a ↦ accepted i a | inr l ↦ k i l ]

      held_on : (reply : Reply) → Step s (Merge group) reply mid → IsPartOf (known_after reply group) brought → IsPartOf (held mid) brought
      held_on reply step k i h = accepted_on reply step k i
          ((held_is_top mid (steps_stay_reached s mid (Merge group) reply r step)).among i h)

      stopped_not : (done : ℕ) (fault : Refusal) (owes : ℕ) → Step s (Merge group) (MergeStopped done fault owes) mid →
          IsContradiction fault → ⊥
      stopped_not done fault owes (inl (inl is)) t = by_refusal (first_refusal (against_merge (length group))) is.reply_is is.state_is
        where
          k : Course
          k = course s group

          by_stop : (o : Option Refusal) → (course s group).stop ≡ o →
              MergeStopped done fault owes ≡ option_map_or {U = Reply}
              (λ f. MergeStopped (course s group).done f (owed s (course s group).taken)) o
              (Merged (course s group).done (length (course s group).taken) (course s group).stale (owed s (course s group).taken))
              → mid ≡ (course s group).state → ⊥
          by_stop None q e f = cc
          by_stop (Some stop) q e f =
              let same : fault ≡ stop = cc in
              let next = (took group (begun s) refl).stopped stop q in
              judged_not mid (held_on (MergeStopped done fault owes) (inl (inl is)) (λ i h. b i (Contains-from_take done group i h))) next.0
              (b next.0 next.1) stop
              (subst (λ (x : State). cause_of x next.0 ≡ Some (causes.Refused stop)) (sym f) next.2) (subst IsContradiction same t)

          by_refusal : (o : Option Refusal) → MergeStopped done fault owes ≡ (merging s group o).0 → mid ≡ (merging s group o).1 → ⊥
          by_refusal (Some f) e q = cc
          by_refusal None e q = by_stop (course s group).stop refl e q
      stopped_not done fault owes (inl (inr w)) t = let e : MergeStopped done fault owes ≡ Refusing _ = w.reply_is in cc
      stopped_not done fault owes (inr w) t =
          let e : MergeStopped done fault owes ≡ MergeStopped w.0 refusals.NoRoom _ = w.1.reply_is in
          let same : fault ≡ refusals.NoRoom = cc in
          subst IsContradiction same t

      refused_not : (fault : Refusal) → Step s (Merge group) (Refusing fault) mid → IsContradiction fault → ⊥
      refused_not fault (inl (inl is)) t = by_refusal (first_refusal (against_merge (length group))) refl is.reply_is
        where
          against_not : (f : Refusal) → against_merge (length group) f ≡ true → IsContradiction f → ⊥
          against_not refusals.NotOwner e t = not_false e
          against_not (refusals.Clash v) e t = not_false e
          against_not _ e t = t

          by_stop : (o : Option Refusal) → Refusing fault ≡ option_map_or {U = Reply}
              (λ f. MergeStopped (course s group).done f (owed s (course s group).taken)) o
              (Merged (course s group).done (length (course s group).taken) (course s group).stale (owed s (course s group).taken)) → ⊥
          by_stop None e = cc
          by_stop (Some stop) e = cc

          by_refusal : (o : Option Refusal) → first_refusal (against_merge (length group)) ≡ o → Refusing fault ≡ (merging s group o).0 → ⊥
          by_refusal (Some f) q e =
              let same : fault ≡ f = cc in
              against_not f (found (against_merge (length group)) (by_command ++ by_room) f q).1 (subst IsContradiction same t)
          by_refusal None q e = by_stop (course s group).stop e
      refused_not fault (inl (inr w)) t =
          let e : Refusing fault ≡ Refusing refusals.NoRoom = w.reply_is in
          let same : fault ≡ refusals.NoRoom = cc in
          subst IsContradiction same t
      refused_not fault (inr w) t = let e : Refusing fault ≡ MergeStopped _ _ _ = w.1.reply_is in cc

      follows_not : (new : State) (Others : Tally → State → Type 0) (reply : Reply) (tally : Tally) (fault : Refusal)
          → ((later : Tally) → IsReached mid → IsPartOf mid.feed.accepted brought → Others later new → later.stop ≡ Some fault →
          IsContradiction fault → ⊥)
          → Step s (Merge group) reply mid → OthersFollow reply mid Others tally new → tally.stop ≡ Some fault → IsContradiction fault → ⊥
      follows_not new Others (Merged done taken stale owes) tally fault others step f e t =
          others f.0 (steps_stay_reached s mid (Merge group) (Merged done taken stale owes) r step)
          (accepted_on (Merged done taken stale owes) step b) f.1 (sym (ap (λ (x : Tally). x.stop) f.2) ∙ e) t
      follows_not new Others (MergeStopped done stop owes) tally fault others step f e t =
          let q : Some stop ≡ Some fault = sym (ap (λ (x : Tally). x.stop) f.0) ∙ e in
          let same : fault ≡ stop = cc in
          stopped_not done stop owes step (subst IsContradiction same t)
      follows_not new Others (Refusing stop) tally fault others step f e t =
          let q : Some stop ≡ Some fault = sym (ap (λ (x : Tally). x.stop) f.0) ∙ e in
          let same : fault ≡ stop = cc in
          refused_not stop step (subst IsContradiction same t)
      follows_not new Others _ tally fault others step f e t = f

  -- ---- a delivery
  merges_not : (groups : List (List Item)) (s new : State) (tally : Tally) (fault : Refusal) → IsReached s →
      IsPartOf s.feed.accepted brought →
      IsPartOf (flat_map (λ group. group) groups) brought → GroupsAreMerged s groups tally new → tally.stop ≡ Some fault →
      IsContradiction fault → ⊥
  merges_not [] s new tally fault r a b m e t = let q : None ≡ Some fault = sym (ap (λ (x : Tally). x.stop) m.0) ∙ e in cc
  merges_not (group ∷ groups) s new tally fault r a b m e t =
      follows_not s m.1 group r a (λ i h. b i (Contains-append_left group (flat_map (λ g. g) groups) i h)) new
      (λ x y. GroupsAreMerged m.1 groups x y) m.0 tally fault
      (λ later q c others. merges_not groups m.1 new later fault q c
      (λ i h. b i (Contains-append_right group (flat_map (λ g. g) groups) i h)) others) m.2 m.3 e t

module _ (account : Account) (w new : World) (f : Fits account w) (n : AreSingleNumbered account.brought) where
  taken_not : (holder : Holder) (items : List Item) (tally : Tally) (fault : Refusal) → IsPartOf items account.brought →
      IsDelivered w holder items tally new → tally.stop ≡ Some fault → IsContradiction fault → ⊥
  taken_not (Store side) items tally fault b h e t =
      let s = store_fits account w side f in
      merges_not account.brought n h.takes.groups (store_at w side) h.after tally fault s.reached (λ i k. s.within i (s.accepted i k))
      (subst (λ l. IsPartOf l account.brought) (sym h.takes.all) b) h.takes.merged e t
  taken_not (Map j) items tally fault b h e t = ends_not (subst (DeliveryEnds h.after items tally.count.done) e h.takes.ends)
    where
      old_within : IsPartOf h.old.held account.brought
      old_within i k = held_within account w f (Map j) i (subst (λ (o : Option MapState). Contains (map_held o) i) (sym h.there) k)

      new_within : IsPartOf h.after.held account.brought
      new_within i k = elim (Contains-append_cases h.old.held _ i (h.takes.top.among i k)) [
        | inl a ↦ old_within i a
        | inr a ↦ b i (Contains-from_take tally.count.done items i
            (Contains-from_under (is_under h.old.query) (take tally.count.done items) i a).0)
      ]

      ends_not : DeliveryEnds h.after items tally.count.done (Some fault) → ⊥
      ends_not x = stands_not account.brought n h.after.held new_within x.0 (b x.0 (contains_at items tally.count.done x.0 x.1)) fault x.3 t

  stop_is : (tally : Tally) (o : Option Refusal) (done : ℕ) (fault : Refusal) (owes : ℕ) →
      Stopped done fault owes ≡ tally_outcome tally o → o ≡ Some fault
  stop_is tally None done fault owes e = absurd (cc)
  stop_is tally (Some stop) done fault owes e = cc

  delivery_not : (k : ℕ) (holder : Holder) (count : Option ℕ) (done : ℕ) (fault : Refusal) (owes : ℕ) →
      Delivers w k holder count (Stopped done fault owes) new → IsContradiction fault → ⊥
  delivery_not k holder count done fault owes h t =
      let at = AllZip-at (FitsMessage account.brought) account.messages w.messages k h.items f.messages h.there in
      taken_not holder (take (count_of count h.items) h.items) h.tally fault
      (λ i x. message_within account w f at.0 h.items at.2 i (Contains-from_take (count_of count h.items) h.items i x)) h.taken
      (stop_is h.tally h.tally.stop done fault owes h.outcome_is) t

pub nothing_stops : NothingStopsInWorlds
nothing_stops account w new k holder count done fault owes f n h t = delivery_not account w new f n k holder count done fault owes h.1 t
