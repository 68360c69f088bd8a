use Rattle.std.proofs.Common.{refl, lit<, lit≤}
use Rattle.ds_names.specs.Name.{is_name_byte}
use Rattle.rs_settings.proofs.draft.any_name.Goals as goal

pub unreachable-requires : goal.unreachable-requires
unfolding is_name_byte
unreachable-requires c = c.in-Err.ensures (record { some = lit< tt; limit = lit≤ tt; allowed = refl })
