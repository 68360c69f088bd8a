-- The causes against a change or a floor that is to take effect.
use Rattle.std.specs.Prelude.{◌≡◌, ℕ, ◌<◌, Bool, true, false, not, ◌&&◌, ◌||◌, ◌==◌, nat_le, nat_lt, length, Option, Some, None, is_none}
use Rattle.std.specs.declared.cmp.Ordering.TheVariants.{Less}
use Rattle.std.specs.Ordering.{is_eq, is_gt}
use Rattle.std.specs.Cmp.Lexicographic.{pointwise}
use Rattle.ds_names.specs.Version.{version_cmp}
use Rattle.ds_entry.specs.declared.body.Value.{Value}
use Rattle.ds_entry.specs.declared.body.Value.TheVariants as values
use Rattle.ds_entry.specs.declared.body.Body.{Body}
use Rattle.ds_entry.specs.declared.body.Body.TheVariants.{Put, Gone}
use Rattle.ds_entry.specs.declared.floor.Floor.{Floor}
use Rattle.ds_entry.specs.declared.item.Item.{Item}
use Rattle.ds_entry.specs.declared.item.Item.TheVariants.{Change as Changed, Floor as Floored}
use Rattle.ds_entry.specs.Change.{ChangeRecord}
use Rattle.ds_entry.specs.Void.{is_void}
use Rattle.ds_machine.specs.Parts.{changes_in, floors_in, held_at, floor_at}
use Rattle.ds_machine.specs.State.{State, held, next_position}
use Rattle.ds_machine.specs.Order.{first_cause}
use Rattle.ds_machine.specs.declared.refusal.Cause.{Cause}
use Rattle.ds_machine.specs.declared.refusal.Cause.TheVariants.{Known, Refused}
use Rattle.ds_machine.specs.declared.refusal.Refusal.TheVariants.{NotOwner, Clash, Stale, Full, Worn}
use Rattle.ds_names.specs.Limits.{most_floors, last_place}
use Rattle.ds_names.specs.Endpoint.{is_same_endpoint}
use Rattle.ds_names.specs.Name.{is_same_name}

abbrev pub is_same_value : Value → Value → Bool
is_same_value (values.Label d) (values.Label e) = is_same_endpoint d e
is_same_value (values.U32 m) (values.U32 n) = m == n
is_same_value (values.Str s) (values.Str t) = pointwise ◌==◌ s t
is_same_value (values.Mem s) (values.Mem t) = pointwise ◌==◌ s t
is_same_value _ _ = false

abbrev pub is_same_body : Body → Body → Bool
is_same_body (Put a) (Put b) = is_same_value a b
is_same_body Gone Gone = true
is_same_body _ _ = false

-- ---- a change

-- What a change meets: its key's held change, whether a floor makes it void, the number of keys held and allowed, and
-- the position.
pub record Standing : Type 0 where
  pub held : Option ChangeRecord
  pub void : Bool
  pub count : ℕ
  pub most : ℕ
  pub position : ℕ

abbrev pub standing_of : State → ChangeRecord → Standing
standing_of s c = record {
  held = held_at (held s) c.key;
  void = is_void (held s) c;
  count = length (changes_in (held s));
  most = s.limits.keys;
  position = next_position s;
}

-- Whether a change is held and passes the test.
abbrev pub on_held : Option ChangeRecord → (ChangeRecord → Bool) → Bool
on_held None test = false
on_held (Some h) test = test h

-- Whether the cause applies to the change: another owner, the same version with another body, a greater version or a
-- floor, a repeat, all keys used, or no position left.
abbrev pub against_change : Standing → ChangeRecord → Cause → Bool
against_change t c (Refused NotOwner) = on_held t.held (λ h. not (is_same_name h.owner c.owner))
against_change t c (Refused (Clash v)) = on_held t.held (λ h. is_eq (version_cmp h.version c.version) && not (is_same_body h.body c.body))
against_change t c (Refused Stale) = on_held t.held (λ h. is_gt (version_cmp h.version c.version)) || t.void
against_change t c Known = on_held t.held (λ h. is_eq (version_cmp h.version c.version) && is_same_body h.body c.body)
against_change t c (Refused Full) = is_none t.held && nat_le t.most t.count
against_change t c (Refused Worn) = nat_le last_place t.position
against_change t c _ = false

-- The change `c` has the owner of `h` and a greater version, so it takes the place of `h`.
abbrev pub TakesPlace : ChangeRecord → ChangeRecord → Type 0
TakesPlace h c = (h.owner ≡ c.owner) × (version_cmp h.version c.version ≡ Less)

-- Whether another key can be held, or the change takes the place of the held one of its key.
abbrev pub HasRoom : Option ChangeRecord → ℕ → ℕ → ChangeRecord → Type 0
HasRoom None count most c = count < most
HasRoom (Some h) count most c = TakesPlace h c

-- Whether no cause applies to the change: its key can be held or its held change yields, no floor makes it void, and a
-- position is left.
pub record IsFree (t : Standing) (c : ChangeRecord) : Type 0 where
  pub room : HasRoom t.held t.count t.most c
  pub valid : t.void ≡ false
  pub left : t.position < last_place

-- ---- a floor

-- What a floor meets: its owner's held floor, the number of floors held, and the position.
pub record FloorStanding : Type 0 where
  pub held : Option Floor
  pub count : ℕ
  pub position : ℕ

abbrev pub floor_standing_of : State → Floor → FloorStanding
floor_standing_of s f = record { held = floor_at (held s) f.owner; count = length (floors_in (held s)); position = next_position s }

-- Whether a floor is held and its generation passes the test.
abbrev pub on_floor : Option Floor → (ℕ → Bool) → Bool
on_floor None test = false
on_floor (Some g) test = test g.generation

-- Whether the cause applies to the floor: a greater one of its owner, an equal one, all floors used, or no position
-- left.
abbrev pub against_floor : FloorStanding → Floor → Cause → Bool
against_floor t f (Refused Stale) = on_floor t.held (λ g. nat_lt f.generation g)
against_floor t f Known = on_floor t.held (λ g. g == f.generation)
against_floor t f (Refused Full) = is_none t.held && nat_le most_floors t.count
against_floor t f (Refused Worn) = nat_le last_place t.position
against_floor t f _ = false

-- Whether another floor can be held, or this one is above the held one of its owner.
abbrev pub HasFloorRoom : Option Floor → ℕ → Floor → Type 0
HasFloorRoom None count f = count < most_floors
HasFloorRoom (Some g) count f = g.generation < f.generation

-- Whether no cause applies to the floor: it can be held, and a position is left.
pub record IsFloorFree (t : FloorStanding) (f : Floor) : Type 0 where
  pub room : HasFloorRoom t.held t.count f
  pub left : t.position < last_place

-- ---- an item

-- The first cause against an item of another holder.
abbrev pub cause_of : State → Item → Option Cause
cause_of s (Changed c) = first_cause (Some c.version) (against_change (standing_of s c) c)
cause_of s (Floored f) = first_cause None (against_floor (floor_standing_of s f) f)
