-- What a holder knows it keeps, until it is emptied.
use Rattle.std.proofs.Common.{◌≡◌, ◌==◌, ℕ, zero, suc, true, false, List, [], ◌∷◌, ◌++◌, Option, Some, None, refl, ap, subst, Contains}
use Rattle.std.specs.List.{list_any, slice_get, slice_set}
use Rattle.std.proofs.lemmas.Bool.{eqb-false, or_parts}
use Rattle.std.proofs.lemmas.List.Elements.{Contains-append_left}
use Rattle.ds_entry.specs.Item.{passes}
use Rattle.ds_entry.specs.declared.item.Item.{Item}
use Rattle.ds_entry.proofs.Members.{Contains-nil, Contains-filter, Contains-from_filter}
use Rattle.ds_join.specs.ItemTop.{IsPartOf}
use Rattle.ds_pattern.specs.Under.{is_under}
use Rattle.ds_replica.specs.Sent.{Sent}
use Rattle.ds_replica.specs.Taking.{sent_under}
use Rattle.ds_replica.proofs.SentLemmas.{stood_wider}
use Rattle.ds_machine.specs.Machine.{outcome}
use Rattle.ds_machine.specs.declared.command.Command.{Command}
use Rattle.ds_machine.specs.declared.reply.Reply.{Reply}
use Rattle.ds_replica.specs.declared.event.Side.{Side}
use Rattle.ds_replica.specs.declared.event.Side.TheVariants.{A, B}
use Rattle.ds_replica.specs.declared.event.Holder.{Holder}
use Rattle.ds_replica.specs.declared.event.Holder.TheVariants.{Store, Map}
use Rattle.ds_replica.specs.declared.event.Event.{Event}
use Rattle.ds_replica.specs.declared.event.Event.TheVariants.{Ask, NewMap, Deliver, ClearMap, RestartStore}
use Rattle.ds_replica.specs.declared.outcome.Outcome.{Outcome}
use Rattle.ds_replica.specs.declared.outcome.Outcome.TheVariants.{Replied, Made, MapMade, Merged, Stopped, Cleared, Restarted}
use Rattle.ds_replica.specs.Happens.{reopened}
use Rattle.ds_replica.specs.Known.{MapAccount, Account, StoreAccount, store_of, known_by, map_known, known_at, with_account, with_reply}
use Rattle.ds_replica.specs.Known.{opened, map_took, map_cleared, delivered, sent_first, extended, extended_all}
use Rattle.ds_replica.specs.Turns.{empties_by, empties, KnownStays, FloorsStandInWorlds}
use Rattle.ds_replica.proofs.HolderLemmas.{nothing_below_floors}
use Rattle.ds_replica.proofs.EventLemmas.{events_fit}

same_part : (xs : List Item) → IsPartOf xs xs
same_part xs i h = h

-- ---- maps
pushed : (maps : List MapAccount) (x : MapAccount) (j : ℕ) →
    IsPartOf (map_known (slice_get maps j)) (map_known (slice_get (maps ++ x ∷ []) j))
pushed [] x j i h = absurd (Contains-nil i h)
pushed (m ∷ maps) x zero i h = h
pushed (m ∷ maps) x (suc j) i h = pushed maps x j i h

set_known : (maps : List MapAccount) (j l : ℕ) (m x : MapAccount) → slice_get maps j ≡ Some m → IsPartOf (known_by m) (known_by x) →
    IsPartOf (map_known (slice_get maps l)) (map_known (slice_get (slice_set maps j x) l))
set_known [] j l m x e p i h = h
set_known (y ∷ maps) zero zero m x e p i h = p i (let same : y ≡ m = cc in subst (λ (z : MapAccount). Contains (known_by z) i) same h)
set_known (y ∷ maps) zero (suc l) m x e p i h = h
set_known (y ∷ maps) (suc j) zero m x e p i h = h
set_known (y ∷ maps) (suc j) (suc l) m x e p i h = set_known maps j l m x e p i h

set_other : (maps : List MapAccount) (j l : ℕ) (x : MapAccount) → (j ≡ l → ⊥) →
    IsPartOf (map_known (slice_get maps l)) (map_known (slice_get (slice_set maps j x) l))
set_other [] j l x e i h = h
set_other (y ∷ maps) zero zero x e i h = absurd (e refl)
set_other (y ∷ maps) zero (suc l) x e i h = h
set_other (y ∷ maps) (suc j) zero x e i h = h
set_other (y ∷ maps) (suc j) (suc l) x e i h = set_other maps j l x (λ q. e (ap suc q)) i h

-- a map that took more knows what it knew
took_more : (m : MapAccount) (items : List Sent) → IsPartOf (known_by m) (known_by (record m { taken = m.taken ++ items }))
took_more m items =
    stood_wider (sent_under (is_under m.query) m.taken) (sent_under (is_under m.query) (m.taken ++ items))
    (λ s h. let k = Contains-from_filter (λ (x : Sent). passes (is_under m.query) x.item) m.taken s h in
    Contains-filter (λ (x : Sent). passes (is_under m.query) x.item) (m.taken ++ items) s (Contains-append_left m.taken items s k.0) k.1)

took_known : (maps : List MapAccount) (j l : ℕ) (items : List Sent) (o : Option MapAccount) → slice_get maps j ≡ o →
    IsPartOf (map_known (slice_get maps l)) (map_known (slice_get (map_took maps j items o) l))
took_known maps j l items None e = λ i h. h
took_known maps j l items (Some m) e = set_known maps j l m (record m { taken = m.taken ++ items }) e (took_more m items)

cleared_known : (maps : List MapAccount) (j l : ℕ) (o : Option MapAccount) → (j == l) ≡ false →
    IsPartOf (map_known (slice_get maps l)) (map_known (slice_get (map_cleared maps j o) l))
cleared_known maps j l None e = λ i h. h
cleared_known maps j l (Some m) e = set_other maps j l (record m { taken = [] }) (eqb-false j l e)

-- ---- events
module _ (account : Account) where
  put_known : (side : Side) (x : StoreAccount) (h : Holder) → IsPartOf (store_of account side).known x.known →
      IsPartOf (known_at account h) (known_at (with_account account side x) h)
  put_known A x (Store A) p = p
  put_known A x (Store B) p = same_part account.b.known
  put_known B x (Store A) p = same_part account.a.known
  put_known B x (Store B) p = p
  put_known A x (Map j) p = same_part (known_at account (Map j))
  put_known B x (Map j) p = same_part (known_at account (Map j))

  more_known : (learnt known : List Item) → IsPartOf known (known ++ learnt)
  more_known learnt known i h = Contains-append_left known learnt i h

  -- messages and what was brought in are nobody's knowledge
  reply_known : (side : Side) (command : Command) (reply : Reply) (h : Holder) →
      IsPartOf (known_at account h) (known_at (with_reply account side command reply) h)
  reply_known A command reply (Store A) = more_known _ account.a.known
  reply_known A command reply (Store B) = same_part account.b.known
  reply_known B command reply (Store A) = same_part account.a.known
  reply_known B command reply (Store B) = more_known _ account.b.known
  reply_known A command reply (Map j) = same_part (known_at account (Map j))
  reply_known B command reply (Map j) = same_part (known_at account (Map j))

  maps_known : (maps : List MapAccount) (h : Holder) →
      ((l : ℕ) → IsPartOf (map_known (slice_get account.maps l)) (map_known (slice_get maps l))) →
      IsPartOf (known_at account h) (known_at (record account { maps = maps }) h)
  maps_known maps (Store A) p = same_part account.a.known
  maps_known maps (Store B) p = same_part account.b.known
  maps_known maps (Map l) p = p l

  delivered_known : (holder : Holder) (items : List Sent) (h : Holder) →
      IsPartOf (known_at account h) (known_at (delivered account holder items) h)
  delivered_known (Store A) items h = put_known A _ h (more_known _ account.a.known)
  delivered_known (Store B) items h = put_known B _ h (more_known _ account.b.known)
  delivered_known (Map j) items h = maps_known (map_took account.maps j items (slice_get account.maps j)) h
      (λ l. took_known account.maps j l items (slice_get account.maps j) refl)

  restart_known : (side : Side) (incarnation : ℕ) (h : Holder) → empties_by h (RestartStore side incarnation) Restarted ≡ false →
      IsPartOf (known_at account h) (known_at (with_account account side (opened (reopened (store_of account side).state incarnation))) h)
  restart_known A n (Store A) e = absurd (let x : true ≡ false = e in cc)
  restart_known A n (Store B) e = same_part account.b.known
  restart_known B n (Store A) e = same_part account.a.known
  restart_known B n (Store B) e = absurd (let x : true ≡ false = e in cc)
  restart_known A n (Map j) e = same_part (known_at account (Map j))
  restart_known B n (Map j) e = same_part (known_at account (Map j))

  clear_known : (j : ℕ) (h : Holder) → empties_by h (ClearMap j) Cleared ≡ false →
      IsPartOf (known_at account h) (known_at (record account { maps = map_cleared account.maps j (slice_get account.maps j) }) h)
  clear_known j (Store A) e = same_part account.a.known
  clear_known j (Store B) e = same_part account.b.known
  clear_known j (Map l) e = cleared_known account.maps j l (slice_get account.maps j) e

  event_known : (h : Holder) (event : Event) (out : Outcome) → empties_by h event out ≡ false →
      IsPartOf (known_at account h) (known_at (extended account event out) h)
  event_known h (Ask side command) (Replied reply) e = reply_known side command reply h
  event_known h (Ask side command) (Made k) e = reply_known side command (outcome (store_of account side).state command).0 h
  event_known h (Ask side command) _ e = same_part (known_at account h)
  event_known h (NewMap query) (MapMade j) e =
      maps_known (account.maps ++ record { query = query; taken = [] } ∷ []) h
      (λ l. pushed account.maps (record { query = query; taken = [] }) l)
  event_known h (NewMap query) _ e = same_part (known_at account h)
  event_known h (Deliver k holder count) (Merged counted owed) e = delivered_known holder (sent_first account k counted.done) h
  event_known h (Deliver k holder count) (Stopped done fault owed) e = delivered_known holder (sent_first account k done) h
  event_known h (Deliver k holder count) _ e = same_part (known_at account h)
  event_known h (ClearMap j) Cleared e = clear_known j h e
  event_known h (ClearMap j) _ e = same_part (known_at account h)
  event_known h (RestartStore side incarnation) Restarted e = restart_known side incarnation h e
  event_known h (RestartStore side incarnation) _ e = same_part (known_at account h)

pub known_stays : KnownStays
known_stays account h [] e i k = k
known_stays account h (x ∷ events) e i k =
    let n = or_parts (empties h x) (list_any (empties h) events) e in
    known_stays (extended account x.0 x.1) h events n.1 i (event_known account h x.0 x.1 n.0 i k)

pub floors_stand : FloorsStandInWorlds
floors_stand account old new h events f c fits happen e k l =
    nothing_below_floors (extended_all account events) new h f c (events_fit account old new events fits happen)
    (known_stays account h events e _ k) l
