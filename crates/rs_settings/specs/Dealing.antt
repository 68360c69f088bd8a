-- What a service may publish, and with which services it may deal.
use Rattle.std.specs.Prelude.{ℕ, Bool, true, not, ◌&&◌, ◌≢◌, List, [], Option, Some, None}
use Rattle.ds_names.specs.Kind.{is_label}
use Rattle.ds_names.specs.declared.key.Key.{Key}
use Rattle.rs_settings.specs.Values.{is_server}
use Rattle.rs_settings.specs.Shared.{has_name}
use Rattle.rs_settings.specs.declared.service.Service.{Service}

-- Whether the service may publish under the key: the key isn't a label's, and the service declares its name.
abbrev pub is_declared : Service → Key → Bool
is_declared service key = not (is_label key.kind) && has_name service.publishes key.name

-- There is a list, and it has a name: a copy takes memory.
abbrev pub HasNames : Option (List (List ℕ)) → Type 0
HasNames None = ⊥
HasNames (Some labels) = labels ≢ []

-- Whether the label is listed. `unlisted` is the answer if there is no list.
abbrev pub is_listed : Bool → Option (List (List ℕ)) → List ℕ → Bool
is_listed unlisted None label = unlisted
is_listed unlisted (Some labels) label = has_name labels label

-- Whether the service may complain of the other one: `complains` lists its label. Without a list, servers may complain of all services that
-- aren't servers.
abbrev pub may_complain : Service → Service → Bool
may_complain service other = is_listed (is_server service.class && not (is_server other.class)) service.complains other.label

-- Whether the service may connect to the other one: `connects` lists its label. Without a list it may.
abbrev pub may_connect : Service → Service → Bool
may_connect service other = is_listed true service.connects other.label
