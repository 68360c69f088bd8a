-- Sums over keys.
use Rattle.std.proofs.Common.{◌≡◌, ◌+◌, cond, ℕ, Bool, true, false, [], ◌∷◌, refl, ap, arith}
use Rattle.std.specs.List.{filter}
use Rattle.fleet_rule.specs.Digest.{digest, DigestsFollow, OwnChangesAreNotEnough}
use Rattle.fleet_rule.specs.Digest.Arrival.{Changes, Reads}

pub digests_follow : (I : Type 0) → DigestsFollow I
digests_follow I hash held logged waits [] same = refl
digests_follow I hash held logged waits (k ∷ ks) same = by_test (digests_follow I hash held logged waits ks same) (waits k) refl
  where
    by_test : digest hash logged ks + digest hash held (filter waits ks) ≡ digest hash held ks + digest hash logged (filter waits ks) →
        (b : Bool) → waits k ≡ b →
        (hash (logged k) + digest hash logged ks) + digest hash held (cond b (k ∷ filter waits ks) (filter waits ks)) ≡
        (hash (held k) + digest hash held ks) + digest hash logged (cond b (k ∷ filter waits ks) (filter waits ks))
    by_test r true e =
        let both : (hash (logged k) + digest hash logged ks) + (hash (held k) + digest hash held (filter waits ks)) ≡
        (hash (held k) + digest hash held ks) + (hash (logged k) + digest hash logged (filter waits ks)) = omega arith in
        both
    by_test r false e =
        let s : hash (held k) ≡ hash (logged k) = ap hash (same k e) in
        let neither : (hash (logged k) + digest hash logged ks) + digest hash held (filter waits ks) ≡
        (hash (held k) + digest hash held ks) + digest hash logged (filter waits ks) = omega arith in
        neither

one_more : (n m : ℕ) → n ≡ m + 1 → n ≡ m → ⊥
one_more n m f e = omega arith

pub own_changes_are_not_enough : OwnChangesAreNotEnough
own_changes_are_not_enough = (1, Changes 2 ∷ Reads 3 ∷ [], λ e. one_more 5 4 refl e)
