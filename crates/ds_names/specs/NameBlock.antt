-- Names in memory: each at the front of a block of 64 bytes, padded with zeros.
use Rattle.std.specs.Prelude.{◌≡◌, ℕ, ◌-◌, ◌≤◌, List, ◌++◌, length, take, drop, replicate}
use Rattle.std.proofs.Common.{sym, ap, ◌∙◌, arith}
use Rattle.std.proofs.lemmas.List.{length-take-le, take-append-drop}
use Rattle.ds_names.specs.declared.name.Name.TheInside.{Inside}
use Rattle.ds_names.specs.Name.{IsName}

-- The bytes of the name in a block.
abbrev pub name_in_block : Inside → List ℕ
name_in_block n = take n.len n.block

-- The block with the first `len` bytes, padded with zeros.
abbrev pub filled : List ℕ → ℕ → List ℕ
filled bytes len = take len bytes ++ replicate (64 - len) 0

-- Whether the block has a name, padded with zeros.
pub record KeepsName (n : Inside) : Type 0 where
  pub whole : length n.block ≡ 64
  pub fits : n.len ≤ 64
  pub name : IsName (take n.len n.block)
  pub zeros : drop n.len n.block ≡ replicate (64 - n.len) 0

-- The block with these bytes.
abbrev pub block_of : List ℕ → Inside
block_of bytes = record { block = bytes ++ replicate (64 - length bytes) 0; len = length bytes }

-- A block is the block of the name that it has.
pub block_of-name_of : (n : Inside) → KeepsName n → block_of (name_in_block n) ≡ n
block_of-name_of n kept =
    let len : length (take n.len n.block) ≡ n.len = length-take-le n.len n.block (omega (arith, kept.whole, kept.fits)) in
    let block : take n.len n.block ++
    replicate (64 - n.len) 0 ≡ n.block = ap (λ (z : List ℕ). take n.len n.block ++ z)
    (sym kept.zeros) ∙ take-append-drop n.len n.block in
    ap (λ (k : ℕ). record { block = take n.len n.block ++ replicate (64 - k) 0; len = k }) len ∙ ap
    (λ (b : List ℕ). record { block = b; len = n.len }) block
