-- Names of a letter and a digit.
use Rattle.std.proofs.Common.{ℕ, zero, suc, ◌<◌, lit<, lit≤, refl, arith}
use Rattle.ds_names.specs.Name.{is_name_byte, IsName}
use Rattle.ds_live.specs.Commands.{lettered}

pub p_is_name : (index : ℕ) → index < 8 → IsName (lettered 112 index)
unfolding is_name_byte
p_is_name zero few = record { some = lit< tt; limit = lit≤ tt; allowed = refl }
p_is_name (suc zero) few = record { some = lit< tt; limit = lit≤ tt; allowed = refl }
p_is_name (suc (suc zero)) few = record { some = lit< tt; limit = lit≤ tt; allowed = refl }
p_is_name (suc (suc (suc zero))) few = record { some = lit< tt; limit = lit≤ tt; allowed = refl }
p_is_name (suc (suc (suc (suc zero)))) few = record { some = lit< tt; limit = lit≤ tt; allowed = refl }
p_is_name (suc (suc (suc (suc (suc zero))))) few = record { some = lit< tt; limit = lit≤ tt; allowed = refl }
p_is_name (suc (suc (suc (suc (suc (suc zero)))))) few = record { some = lit< tt; limit = lit≤ tt; allowed = refl }
p_is_name (suc (suc (suc (suc (suc (suc (suc zero))))))) few = record { some = lit< tt; limit = lit≤ tt; allowed = refl }
p_is_name (suc (suc (suc (suc (suc (suc (suc (suc index)))))))) few = absurd (omega (arith, few))

pub n_is_name : (index : ℕ) → index < 8 → IsName (lettered 110 index)
unfolding is_name_byte
n_is_name zero few = record { some = lit< tt; limit = lit≤ tt; allowed = refl }
n_is_name (suc zero) few = record { some = lit< tt; limit = lit≤ tt; allowed = refl }
n_is_name (suc (suc zero)) few = record { some = lit< tt; limit = lit≤ tt; allowed = refl }
n_is_name (suc (suc (suc zero))) few = record { some = lit< tt; limit = lit≤ tt; allowed = refl }
n_is_name (suc (suc (suc (suc zero)))) few = record { some = lit< tt; limit = lit≤ tt; allowed = refl }
n_is_name (suc (suc (suc (suc (suc zero))))) few = record { some = lit< tt; limit = lit≤ tt; allowed = refl }
n_is_name (suc (suc (suc (suc (suc (suc zero)))))) few = record { some = lit< tt; limit = lit≤ tt; allowed = refl }
n_is_name (suc (suc (suc (suc (suc (suc (suc zero))))))) few = record { some = lit< tt; limit = lit≤ tt; allowed = refl }
n_is_name (suc (suc (suc (suc (suc (suc (suc (suc index)))))))) few = absurd (omega (arith, few))
