-- The meaning of the tests of a view.
use Rattle.std.proofs.Common.{◌≡◌, ◌==◌, true, false, not, [], length, eqb-true}
use Rattle.desk_rule.specs.declared.view.View.{View}
use Rattle.desk_rule.proofs.ListLemmas.{nil_of}
use Rattle.desk.specs.Sight.{listens_of}
use Rattle.std.proofs.lemmas.Bool.{and_parts, not-true}

module _ {M C R : Type 0} where
  pub listens_facts : (v : View M C R) → listens_of v ≡ true → (v.passes ≡ []) × (v.holding ≡ false)
  listens_facts v e = let a = and_parts (not v.holding) (length v.passes == 0) e in
      (nil_of v.passes (eqb-true (length v.passes) 0 a.1), not-true v.holding a.0)
