-- The number of a table's server.
use Rattle.std.proofs.Common.{◌≡◌, ◌≤◌, ℕ, subst, arith}
use Rattle.c_store.specs.declared.drivers.Tables.{Tables}
use Rattle.c_store.specs.declared.drivers.Tables.TheVariants.{File, Net}
use Rattle.c_store.specs.Drivers.{server_number}

-- there are two servers
pub number_few : (t : Tables) (n : ℕ) → server_number t ≡ n → n ≤ 1
number_few (File table) n e = subst (λ (m : ℕ). m ≤ 1) e (omega arith)
number_few (Net table) n e = subst (λ (m : ℕ). m ≤ 1) e (omega arith)
