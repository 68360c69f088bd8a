-- The names of a change, appended to bytes.
use Rattle.std.proofs.Common.{◌≡◌, ℕ, ◌+◌, ◌≤◌, ◌==◌, true, List, [], ◌++◌, length, take, drop, refl, sym, ap, ◌∙◌, arith, append_assoc}
use Rattle.std.proofs.Common.{append-nil}
use Rattle.std.specs.List.{starts_with}
use Rattle.std.proofs.Math.Nat.{max-eq_left, max-eq_right}
use Rattle.std.proofs.lemmas.Bool.Decides.{Decides-eqb}
use Rattle.std.proofs.lemmas.List.{length-append, take_at, drop_at}
use Rattle.std.proofs.lemmas.Slice.Eq.{starts_is}
use Rattle.ds_entry.specs.Change.{ChangeRecord}
use Rattle.ds_packed.specs.Names.{AddsNames}

module _ (change : ChangeRecord) (old new : List ℕ) (n o : ℕ) (n_is : n ≡ length change.key.name) (o_is : o ≡ length change.owner) where
  abbrev name : List ℕ
  name = change.key.name

  -- the key's name begins with the owner's
  pub inside : true ≡ starts_with ◌==◌ name change.owner → new ≡ old ++ name →
      AddsNames change (record { name = n; owner_from = 0; owner = o }) old new
  inside starts e =
      let front : name ≡ change.owner ++ drop (length change.owner) name = (starts_is Decides-eqb name change.owner true starts).0 refl in
      let all : length name ≡ length change.owner + length (drop (length change.owner) name) =
      ap length front ∙ length-append change.owner (drop (length change.owner) name) in
      let within : 0 + o ≤ n = omega (arith, all, n_is, o_is) in
      record {
        names = name;
        added = e;
        length_is = sym n_is ∙ sym (max-eq_left within);
        name_is = ap (take n) (sym (append-nil name)) ∙ take_at name [] n (sym n_is);
        owner_is = ap (take o) front ∙ take_at change.owner (drop (length change.owner) name) o (sym o_is);
      }

  -- The owner's name comes after the key's.
  pub past : new ≡ (old ++ name) ++ change.owner → AddsNames change (record { name = n; owner_from = n; owner = o }) old new
  past e =
      let more : n ≤ n + o = omega arith in
      let all : length (name ++ change.owner) ≡ n + o = length-append name change.owner ∙ omega (arith, n_is, o_is) in
      record {
        names = name ++ change.owner;
        added = e ∙ append_assoc old name change.owner;
        length_is = all ∙ sym (max-eq_right more);
        name_is = take_at name change.owner n (sym n_is);
        owner_is = ap (take o) (drop_at name change.owner n (sym n_is) ∙ sym (append-nil change.owner)) ∙
            take_at change.owner [] o (sym o_is);
      }
