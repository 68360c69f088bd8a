-- The servers' maps are maps of all labels, whatever happens.
use Rattle.std.proofs.Common.{◌≡◌, ℕ, zero, suc, true, List, [], ◌∷◌, ◌++◌, map, Option, Some, None, refl, ap, sym, ◌∙◌}
use Rattle.std.proofs.Common.{append-nil, append_assoc, codes}
use Rattle.std.specs.Prelude.{slice_set}
use Rattle.std.specs.List.{slice_get}
use Rattle.ds_names.specs.Key.{label_key}
use Rattle.ds_names.specs.Name.{IsName}
use Rattle.ds_held.proofs.MergeLemmas.{no_some}
use Rattle.ds_held.specs.Limits.{larger}
use Rattle.ds_pattern.specs.declared.query.Query.{Query}
use Rattle.ds_pattern.specs.Under.{is_under}
use Rattle.ds_pattern.proofs.StarLemmas.{dot_star_matches}
use Rattle.ds_replica.specs.declared.seed.Seed.{Seed}
use Rattle.ds_replica.specs.declared.event.Side.{Side}
use Rattle.ds_replica.specs.declared.event.Side.TheVariants.{A, B}
use Rattle.ds_replica.specs.declared.event.Holder.TheVariants.{Store, Map}
use Rattle.ds_replica.specs.declared.event.Event.{Event}
use Rattle.ds_replica.specs.declared.event.Event.TheVariants.{Ask, NewMap, Deliver, ClearMap, RestartStore}
use Rattle.ds_replica.specs.declared.outcome.Outcome.{Outcome}
use Rattle.ds_replica.specs.declared.outcome.Outcome.TheVariants.{Replied, Made, MapMade, Merged, Stopped, Cleared, Restarted}
use Rattle.ds_replica.specs.Sent.{Sent}
use Rattle.ds_replica.specs.Known.{Account, MapAccount, StoreAccount, new_account, extended, extended_all, with_account, with_reply}
use Rattle.ds_replica.specs.Known.{delivered, map_took, map_cleared}
use Rattle.ds_system.specs.declared.event.Table.{Table}
use Rattle.ds_system.specs.declared.event.Table.TheVariants.{File, Net}
use Rattle.ds_system.specs.System.{map_number}
use Rattle.ds_system.specs.Steps.{WorldEvents}
use Rattle.ds_system.specs.Happening.{SystemEntry, all_events}
use Rattle.ds_system.specs.Start.{labels_query, two_maps, account_since}
use Rattle.ds_system.proofs.NewsLemmas.{same_some}

abbrev queries : List MapAccount → List Query
queries maps = map (λ (m : MapAccount). m.query) maps

-- a map that takes items, or is cleared, keeps its query
set_query : (maps : List MapAccount) (j : ℕ) (m n : MapAccount) → slice_get maps j ≡ Some m → n.query ≡ m.query →
    queries (slice_set maps j n) ≡ queries maps
set_query [] j m n e q = refl
set_query (x ∷ maps) zero m n e q =
    ap (λ (z : Query). z ∷ queries maps) (q ∙ ap (λ (z : MapAccount). z.query) (sym (same_some x m e)))
set_query (x ∷ maps) (suc j) m n e q = ap (λ (z : List Query). x.query ∷ z) (set_query maps j m n e q)

took_query : (maps : List MapAccount) (j : ℕ) (items : List Sent) (o : Option MapAccount) → slice_get maps j ≡ o →
    queries (map_took maps j items o) ≡ queries maps
took_query maps j items None e = refl
took_query maps j items (Some m) e = set_query maps j m (record m { taken = m.taken ++ items }) e refl

cleared_query : (maps : List MapAccount) (j : ℕ) (o : Option MapAccount) → slice_get maps j ≡ o →
    queries (map_cleared maps j o) ≡ queries maps
cleared_query maps j None e = refl
cleared_query maps j (Some m) e = set_query maps j m (record m { taken = [] }) e refl

-- later queries come after these
abbrev Grow : Account → Account → Type 0
Grow account after = (more : List Query) × (queries after.maps ≡ queries account.maps ++ more)

same_maps : (account after : Account) → queries after.maps ≡ queries account.maps → Grow account after
same_maps account after e = ([], e ∙ sym (append-nil (queries account.maps)))

put_maps : (account : Account) (side : Side) (a : StoreAccount) → (with_account account side a).maps ≡ account.maps
put_maps account A a = refl
put_maps account B a = refl

all_queries : (xs : List MapAccount) (m : MapAccount) → queries (xs ++ m ∷ []) ≡ queries xs ++ m.query ∷ []
all_queries [] m = refl
all_queries (x ∷ xs) m = ap (λ (l : List Query). x.query ∷ l) (all_queries xs m)

event_grows : (account : Account) (event : Event) (outcome : Outcome) → Grow account (extended account event outcome)
event_grows account (Ask side command) (Replied reply) =
    same_maps account (with_reply account side command reply) (ap queries (put_maps account side _))
event_grows account (Ask side command) (Made k) =
    same_maps account (with_reply account side command _) (ap queries (put_maps account side _))
event_grows account (NewMap query) (MapMade j) = (query ∷ [], all_queries account.maps (record { query = query; taken = [] }))
event_grows account (Deliver k (Store side) count) (Merged counted owed) =
    same_maps account (with_account account side _) (ap queries (put_maps account side _))
event_grows account (Deliver k (Map j) count) (Merged counted owed) =
    same_maps account (delivered account (Map j) _) (took_query account.maps j _ (slice_get account.maps j) refl)
event_grows account (Deliver k (Store side) count) (Stopped done fault owed) =
    same_maps account (with_account account side _) (ap queries (put_maps account side _))
event_grows account (Deliver k (Map j) count) (Stopped done fault owed) =
    same_maps account (delivered account (Map j) _) (took_query account.maps j _ (slice_get account.maps j) refl)
event_grows account (ClearMap j) Cleared =
    same_maps account (extended account (ClearMap j) Cleared) (cleared_query account.maps j (slice_get account.maps j) refl)
event_grows account (RestartStore side incarnation) Restarted =
    same_maps account (with_account account side _) (ap queries (put_maps account side _))
event_grows account event outcome = same_maps account account refl

grow_twice : (a b c : Account) → Grow a b → Grow b c → Grow a c
grow_twice a b c p q = (p.0 ++ q.0, q.1 ∙ (ap (λ (l : List Query). l ++ q.0) p.1 ∙ append_assoc (queries a.maps) p.0 q.0))

events_grow : (account : Account) (events : WorldEvents) → Grow account (extended_all account events)
events_grow account [] = same_maps account account refl
events_grow account (e ∷ es) = grow_twice account (extended account e.0 e.1) (extended_all (extended account e.0 e.1) es)
    (event_grows account e.0 e.1) (events_grow (extended account e.0 e.1) es)

-- so each server's map is a map of all labels
pub server_query : (a b : Seed) (entries : List SystemEntry) (table : Table) (m : MapAccount) →
    slice_get (account_since a b entries).maps (map_number table) ≡ Some m → m.query ≡ labels_query
server_query a b entries table m e = by table (account_since a b entries).maps grown.1 e
  where
    grown : Grow (extended_all (new_account a b larger) two_maps) (account_since a b entries)
    grown = events_grow (extended_all (new_account a b larger) two_maps) (all_events entries)

    by : (table : Table) (maps : List MapAccount) → queries maps ≡ labels_query ∷ labels_query ∷ grown.0 →
        slice_get maps (map_number table) ≡ Some m → m.query ≡ labels_query
    by File [] q k = no_some m k
    by File (x ∷ maps) q k =
        ap (λ (z : MapAccount). z.query) (sym (same_some x m k)) ∙ (let h : x.query ≡ labels_query = cc in h)
    by Net [] q k = no_some m k
    by Net (x ∷ []) q k = no_some m k
    by Net (x ∷ y ∷ maps) q k =
        ap (λ (z : MapAccount). z.query) (sym (same_some y m k)) ∙ (let h : y.query ≡ labels_query = cc in h)

pub label_passes : (query : Query) (name : List ℕ) → query ≡ labels_query → IsName name → is_under query (label_key name) ≡ true
label_passes query name q n = ap (λ (z : Query). is_under z (label_key name)) q ∙ dot_star_matches (codes ".*") name refl n
