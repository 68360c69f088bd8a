-- What is read of RS, in numbers.
use Rattle.std.specs.Prelude.{◌≡◌, ℕ, ◌≤◌, ◌^◌, Bool, false, cond, List, Option, None, Some, is_some, IfSome}
use Rattle.ds_names.specs.Endpoint.{EndpointRecord}
use Rattle.ds_names.specs.declared.key.Key.{Key}
use Rattle.rs_core.specs.State.{RsRecord}
use Rattle.rs_core.specs.Machine.{due}
use Rattle.rs_core.specs.Reading.{deals_at, declares_at, is_from, place_of_instance}
use Rattle.rs_core.specs.Says.{place_of_label}
use Rattle.rs_settings.specs.declared.service.Service.{Service}
use Rattle.c_values.specs.Request.{endpoint_at, is_name, key_of_parts, kind_at}

-- ---- the first tick that has actions

-- The number of a tick: the greatest number if there is none.
abbrev pub tick_number : Option ℕ → ℕ
tick_number None = 18446744073709551615
tick_number (Some tick) = tick

-- Whether this is the first tick that has actions: each tick from it on has, and none before it. It isn't before the last event's.
pub record IsDueTick (rs : RsRecord) (number : ℕ) : Type 0 where
  pub first : Option ℕ
  pub from : (tick : ℕ) → rs.tick ≤ tick → tick ≤ 2 ^ 62 → is_some (due rs tick) ≡ is_from first tick
  pub range : IfSome first (λ tick. (rs.tick ≤ tick) × (tick ≤ 2 ^ 62))
  pub number_is : number ≡ tick_number first

-- Whether this is that number; there is none unless RS is open.
abbrev pub ReadsDue : Option RsRecord → Option ℕ → Type 0
ReadsDue None result = result ≡ None
ReadsDue (Some rs) None = ⊥
ReadsDue (Some rs) (Some number) = IsDueTick rs number

-- ---- who may publish

-- The name that the bytes are, and the key of a kind's number and a name.
abbrev pub name_of_bytes : List ℕ → Option (List ℕ)
name_of_bytes bytes = cond (is_name bytes) (Some bytes) None

unfoldable pub key_at : ℕ → List ℕ → Option Key
key_at kind name = key_of_parts (name_of_bytes name) (kind_at kind)

-- Whether the instance may publish under the key. If either is missing, it may not.
abbrev pub may_publish_if : RsRecord → Option EndpointRecord → Option Key → Bool
may_publish_if rs (Some instance) (Some key) = declares_at rs (place_of_instance rs instance) key
may_publish_if rs (Some instance) None = false
may_publish_if rs None key = false

-- Whether an instance may publish under a key, both given by numbers and bytes, if RS is open.
abbrev pub may_publish_in : Option RsRecord → ℕ → ℕ → ℕ → List ℕ → Bool
may_publish_in None generation slot kind name = false
may_publish_in (Some rs) generation slot kind name = may_publish_if rs (endpoint_at generation slot) (key_at kind name)

-- ---- which service an instance may deal with

-- Whether the instance may deal with the service of the label, by a rule of the settings. If either is missing, it may not.
abbrev pub may_deal_if : (Service → Service → Bool) → RsRecord → Option EndpointRecord → Option (List ℕ) → Bool
may_deal_if may rs (Some instance) (Some label) = deals_at may rs (place_of_instance rs instance) (place_of_label rs label)
may_deal_if may rs (Some instance) None = false
may_deal_if may rs None label = false

-- Whether an instance may deal with a service, both given by numbers and bytes, if RS is open.
abbrev pub may_deal_in : (Service → Service → Bool) → Option RsRecord → ℕ → ℕ → List ℕ → Bool
may_deal_in may None generation slot label = false
may_deal_in may (Some rs) generation slot label = may_deal_if may rs (endpoint_at generation slot) (name_of_bytes label)
