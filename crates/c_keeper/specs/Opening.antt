-- Opening keepers.
use Rattle.std.specs.Prelude.{◌≡◌, ◌≢◌, ◌⊎◌, ℕ, true, [], length, Option, None, Some, is_some}
use Rattle.std.specs.List.{All}
use Rattle.process_rule.specs.Supervisor.{new_service}
use Rattle.process_keeper.specs.Sight.{service}
use Rattle.rs_core.specs.Late.{endpoint_in_force}
use Rattle.rs_core.specs.State.{RsRecord, state_at}
use Rattle.node_supervisor.specs.declared.processes.Processes.{Processes}

-- Whether these are keepers of RS's services: an earlier run may have left processes of each, and the file has RS's next generation.
pub record AreNewKeepers (rs : RsRecord) (p : Processes) : Type 0 where
  pub count : length p.keeper.labels.items ≡ length rs.states
  pub labels : All (λ q. service q ≡ new_service) p.keeper.labels.items
  pub generations : (p.keeper.next ≡ rs.next) × (p.keeper.file ≡ rs.next)

-- Whether RS counts no instance as up.
abbrev pub CountsNone : RsRecord → Type 0
CountsNone rs = (k : ℕ) → endpoint_in_force (state_at rs k) ≡ None

-- Whether RS counts an instance as up.
abbrev pub CountsOne : RsRecord → Type 0
CountsOne rs = (k : ℕ) × (is_some (endpoint_in_force (state_at rs k)) ≡ true)

-- Whether keepers are opened beside RS, which counts no instance; or are refused, as the word says.
abbrev pub OpensKeepersOf : RsRecord → ℕ → Option Processes → Type 0
OpensKeepersOf rs word (Some p) = (word ≡ 0) × CountsNone rs × AreNewKeepers rs p
OpensKeepersOf rs word None = ((word ≡ 28) × CountsOne rs) ⊎ ((word ≡ 20) × CountsNone rs × (rs.settings.services ≢ []))

-- Whether keepers are opened, or RS isn't open.
abbrev pub OpensBeside : Option RsRecord → ℕ → Option Processes → Type 0
OpensBeside None word new = (word ≡ 14) × (new ≡ None)
OpensBeside (Some rs) word new = OpensKeepersOf rs word new

-- The effect of an opening. Keepers that are open stay.
abbrev pub OpensKeepers : Option RsRecord → Option Processes → ℕ → Option Processes → Type 0
OpensKeepers services None word new = OpensBeside services word new
OpensKeepers services (Some p) word new = (word ≡ 13) × (new ≡ Some p)
