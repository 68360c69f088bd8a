use Rattle.std.proofs.Common.{lit<, lit≤, refl}
use Rattle.ds_names.specs.Name.{is_name_byte, IsName, rs_name}
use Rattle.ds_names.proofs.name.Name.rs.Goals as goal

rs_is_name : IsName rs_name
unfolding is_name_byte
rs_is_name = record { some = lit< tt; limit = lit≤ tt; allowed = refl }

pub unreachable-requires : goal.unreachable-requires
unreachable-requires c = c.in-Err.ensures rs_is_name
