-- The news of a label: what a map tells a driver table.
use Rattle.std.specs.Prelude.{if◌then◌else◌, ℕ, Bool, false, nat_lt, Option, Some, None}
use Rattle.ds_names.specs.Endpoint.{EndpointRecord}
use Rattle.ds_entry.specs.Change.{ChangeRecord}
use Rattle.ds_entry.specs.Left.{endpoint_in}
use Rattle.ds_entry.specs.declared.body.Body.{Body}
use Rattle.ds_entry.specs.declared.body.Body.TheVariants.{Put, Gone}

-- Whether the generation is below the newest, if there is a newest.
abbrev pub is_below_newest : Option ℕ → ℕ → Bool
is_below_newest None generation = false
is_below_newest (Some newest) generation = nat_lt generation newest

-- Whether a change of this epoch is a tombstone of an instance before the newest, of which it tells nothing.
abbrev pub is_old_tombstone : Option ℕ → ℕ → Body → Bool
is_old_tombstone newest epoch (Put value) = false
is_old_tombstone newest epoch Gone = is_below_newest newest epoch

-- The newest generation, for a tombstone, which is compared with it; nothing for a put.
abbrev pub newest_for : Body → Option ℕ → Option ℕ
newest_for (Put value) newest = None
newest_for Gone newest = newest

-- What a change tells of its label: the driver's endpoint, or that there is no driver; nothing, if it is an old
-- tombstone.
abbrev pub told_by : Option ℕ → ChangeRecord → Option (Option EndpointRecord)
told_by newest c = if is_old_tombstone newest c.version.epoch c.body then None else Some (endpoint_in c.body)

-- What the held change of a label tells, if a change is held.
abbrev pub told : Option ℕ → Option ChangeRecord → Option (Option EndpointRecord)
told newest None = None
told newest (Some c) = told_by newest c
