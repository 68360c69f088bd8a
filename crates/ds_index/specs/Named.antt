-- Labels in the order of their endpoints.
use Rattle.std.specs.Prelude.{◌≡◌, ℕ, suc, ◌+◌, ◌≤◌, Bool, true, false, cond, List, [], ◌∷◌, Option, Some, None}
use Rattle.std.specs.declared.cmp.Ordering.{Ordering}
use Rattle.std.specs.Ordering.{nat_cmp, ordering_then, is_eq, is_lt}
use Rattle.std.specs.List.Sorted.{IsPartitionPoint}
use Rattle.ds_names.specs.Endpoint.{EndpointRecord}
use Rattle.ds_names.specs.Key.{name_cmp}
use Rattle.ds_index.specs.declared.named.Named.{Named}

-- The slot plus 1, or 0 without an endpoint.
abbrev pub slot_of : Option EndpointRecord → ℕ
slot_of None = 0
slot_of (Some e) = suc e.slot

-- The generation, or 0 without an endpoint.
abbrev pub generation_of : Option EndpointRecord → ℕ
generation_of None = 0
generation_of (Some e) = e.generation

-- The order of endpoints: by slot, then by generation; `None` comes before all of them.
abbrev pub holder_cmp : Option EndpointRecord → Option EndpointRecord → Ordering
holder_cmp a b = ordering_then (nat_cmp (slot_of a) (slot_of b)) (nat_cmp (generation_of a) (generation_of b))

-- The order of labels: by endpoint, then by name.
abbrev pub named_cmp : Named → Named → Ordering
named_cmp p q = ordering_then (holder_cmp p.endpoint q.endpoint) (name_cmp p.name q.name)

-- The name with this endpoint.
abbrev pub named_at : Option EndpointRecord → List ℕ → Named
named_at endpoint name = record { endpoint = endpoint; name = name }

-- Whether the first label comes after the second.
abbrev pub is_label_after : Named → Named → Bool
is_label_after p q = is_lt (named_cmp q p)

-- Whether the first label comes after the second of the same slot: by generation, then by name.
abbrev pub is_after_in_slot : Named → Named → Bool
is_after_in_slot p q = is_lt (ordering_then (nat_cmp (generation_of q.endpoint) (generation_of p.endpoint)) (name_cmp q.name p.name))

-- Whether the labels of the endpoint begin after this one.
abbrev pub begins_after : EndpointRecord → Named → Bool
begins_after e p = is_lt (holder_cmp p.endpoint (Some e))

-- Whether the label has the endpoint.
abbrev pub holds_endpoint : EndpointRecord → Named → Bool
holds_endpoint e p = is_eq (holder_cmp p.endpoint (Some e))

-- The index where the endpoint's labels begin in the list: they come after each label before it, and after none from
-- there on.
abbrev pub IsBegin : EndpointRecord → List Named → ℕ → Type 0
IsBegin e names place = IsPartitionPoint (λ q. begins_after e q ≡ true) (λ q. begins_after e q ≡ false) names place

-- The label's index in the list: it comes after each label before the index, and after none from there on.
abbrev pub IsLabelPlace : Named → List Named → ℕ → Type 0
IsLabelPlace p names place = IsPartitionPoint (λ q. is_label_after p q ≡ true) (λ q. is_label_after p q ≡ false) names place

-- Whether the label may replace the one at the index: its place is there or one further.
abbrev pub IsNearLabel : Named → List Named → ℕ → Type 0
IsNearLabel p names index = (place : ℕ) × IsLabelPlace p names place × (index ≤ place) × (place ≤ index + 1)

-- The labels with one more, inserted after all that come before it.
abbrev pub inserted_label : Named → List Named → List Named
inserted_label p [] = p ∷ []
inserted_label p (q ∷ qs) = cond (is_label_after p q) (q ∷ inserted_label p qs) (p ∷ q ∷ qs)
