-- The order of kinds, and the kinds in a mask.
use Rattle.std.specs.Prelude.{ℕ, ◌/◌, ◌%◌, ◌==◌, Bool, true, false}
use Rattle.ds_names.specs.declared.kind.Kind.{Kind}
use Rattle.ds_names.specs.declared.kind.Kind.TheVariants.{Label, U32, Str, Mem}

-- The index of a kind in the order of kinds.
abbrev pub kind_place : Kind → ℕ
kind_place Label = 0
kind_place U32 = 1
kind_place Str = 2
kind_place Mem = 3

-- Whether the kind is Label.
abbrev pub is_label : Kind → Bool
is_label Label = true
is_label U32 = false
is_label Str = false
is_label Mem = false

-- Whether the mask has the kind's bit: 1 for label, 2 for u32, 4 for str, 8 for mem.
abbrev pub names_kind : ℕ → Kind → Bool
names_kind mask Label = mask % 2 == 1
names_kind mask U32 = mask / 2 % 2 == 1
names_kind mask Str = mask / 4 % 2 == 1
names_kind mask Mem = mask / 8 % 2 == 1
