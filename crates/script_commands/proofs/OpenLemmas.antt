-- Pieces of which one has more parts than another.
use Rattle.std.proofs.Common.{◌≡◌, ◌≢◌, ℕ, suc, ◌+◌, ◌-◌, ◌<◌, ◌≤◌, inl, inr, List, ◌++◌, length, refl, sym, ap, subst, length-append}
use Rattle.std.proofs.Common.{arith}
use Rattle.std.proofs.lemmas.Bool.{cases_lt}
use Rattle.ds_line.specs.FaultPlace.{Stand}
use Rattle.ds_line.specs.Piece.{Piece, Found, Breaks, StopsIn}
use Rattle.ds_line.specs.declared.part_fault.PartFault.{PartFault}
use Rattle.ds_line.specs.declared.part_fault.PartFault.TheVariants.{BadPart, NoRoom}
use Rattle.ds_line.proofs.PieceLemmas.{One, Goes, past, stand_split, both_found, stand_wider, stand_cut, stand_join}
use Rattle.ds_line.proofs.PlaceLemmas.{fewer}

-- ---- parts in sequence

-- ---- one piece, followed by another

-- no such piece extends another at the same front
abbrev pub Apart : Piece → Type 0
Apart p = (a b : p.Of) (bytes r after : List ℕ) → Found p a bytes r → p.Can b → length (p.parts a) < length (p.parts b) →
    ¬ Stand (suc (length (p.parts a))) (p.parts b) bytes after

-- the readable part ends within the first of two pieces
open_first : (p : Piece) (q : p.Of → Piece) (bytes rest : List ℕ) → Goes p q → Breaks p bytes rest → Breaks (past p q) bytes rest
open_first p q bytes rest goes s =
    let next = goes s.thing s.can in
    record {
      count = s.count;
      thing = (s.thing, next.0);
      can = (s.can, next.1);
      front = stand_wider s.count (p.parts s.thing) ((q s.thing).parts next.0) bytes rest s.front;
      most = λ x after can h.
          elim (cases_lt (length (p.parts x.0)) (suc s.count)) [
            | inl lt ↦
                (let two = stand_split (suc s.count) (suc s.count - length (p.parts x.0)) (p.parts x.0) ((q x.0).parts x.1) bytes after
                (omega (arith, lt)) h in
                s.none x.0 two.0 can.0 two.1)
            | inr le ↦ s.most x.0 after can.0 (stand_cut (suc s.count) (p.parts x.0) ((q x.0).parts x.1) bytes after le h)
          ];
      none = λ x after can h.
          let two = stand_split (length (p.parts x.0 ++ (q x.0).parts x.1)) (length ((q x.0).parts x.1)) (p.parts x.0) ((q x.0).parts x.1)
          bytes after (length-append (p.parts x.0) ((q x.0).parts x.1)) h in
          s.none x.0 two.0 can.0 two.1;
    }

-- what follows the first piece follows the one that is there
after_same : (p : Piece) (q : p.Of → Piece) (a : p.Of) (bytes r rest : List ℕ) → One p → Found p a bytes r →
    (s : Breaks (q a) r rest) (x : (b : p.Of) × (q b).Of) (mid after : List ℕ) (k : ℕ) → p.Can x.0 → (q x.0).Can x.1
    → Stand (length (p.parts x.0)) (p.parts x.0) bytes mid → Stand k ((q x.0).parts x.1) mid after →
    length (p.parts x.0) + k ≡ suc (length (p.parts a) + s.count) → ⊥
after_same p q a bytes r rest one found s x mid after k can_p can_q first second eq =
    let same = one a x.0 bytes r mid found (record { can = can_p; front = first }) in
    let len : length (p.parts x.0) ≡ length (p.parts a) = ap (λ (b : p.Of). length (p.parts b)) same.0 in
    let count : k ≡ suc s.count = omega (arith, eq, len) in
    subst (λ (b : p.Of). (y : (q b).Of) → (q b).Can y → Stand (suc s.count) ((q b).parts y) r after → ⊥) (sym same.0)
    (λ y is st. s.most y after is st) x.1 can_q
    (subst (λ (n : ℕ). Stand n ((q x.0).parts x.1) r after) count
    (subst (λ (b : List ℕ). Stand k ((q x.0).parts x.1) b after) same.1 second))

-- the readable part ends within the second, after a first one
open_then : (p : Piece) (q : p.Of → Piece) (a : p.Of) (bytes r rest : List ℕ) → Apart p → One p → Found p a bytes r → Breaks (q a) r rest →
    Breaks (past p q) bytes rest
open_then p q a bytes r rest apart one found s =
    record {
      count = length (p.parts a) + s.count;
      thing = (a, s.thing);
      can = (found.can, s.can);
      front = stand_join (length (p.parts a) + s.count) s.count (p.parts a) ((q a).parts s.thing) bytes r rest refl found.front s.front;
      most = λ x after can h.
          elim (cases_lt (suc (length (p.parts a) + s.count)) (length (p.parts x.0))) [
            | inl lt ↦
                (let whole = stand_cut (suc (length (p.parts a) + s.count)) (p.parts x.0) ((q x.0).parts x.1) bytes after
                (omega (arith, lt)) h in
                let less = fewer (suc (length (p.parts a))) (suc (length (p.parts a) + s.count)) (p.parts x.0) bytes after (omega arith)
                whole in
                apart a x.0 bytes r less.0 found can.0 (omega (arith, lt)) less.1)
            | inr le ↦
                (let k = suc (length (p.parts a) + s.count) - length (p.parts x.0) in
                let two = stand_split (suc (length (p.parts a) + s.count)) k (p.parts x.0) ((q x.0).parts x.1) bytes after
                (omega (arith, le)) h in
                after_same p q a bytes r rest one found s x two.0 after k can.0 can.1 two.1 two.2 (omega (arith, le)))
          ];
      none = λ x after can h.
          let two = stand_split (length (p.parts x.0 ++ (q x.0).parts x.1)) (length ((q x.0).parts x.1)) (p.parts x.0) ((q x.0).parts x.1)
          bytes after (length-append (p.parts x.0) ((q x.0).parts x.1)) h in
          let same = one a x.0 bytes r two.0 found (record { can = can.0; front = two.1 }) in
          subst (λ (b : p.Of). (y : (q b).Of) → (q b).Can y → Stand (length ((q b).parts y)) ((q b).parts y) r after → ⊥) (sym same.0)
          (λ y is st. s.none y after is st) x.1 can.1
          (subst (λ (b : List ℕ). Stand (length ((q x.0).parts x.1)) ((q x.0).parts x.1) b after) same.1 two.2);
    }

-- after a first piece, the readable part ends no earlier than that piece
pub first_counts : (p : Piece) (q : p.Of → Piece) (a : p.Of) (b : (q a).Of) (bytes r rest : List ℕ) → Found p a bytes r → (q a).Can b →
    (s : Breaks (past p q) bytes rest) → length (p.parts a) ≤ s.count
first_counts p q a b bytes r rest found can s =
    elim (cases_lt s.count (length (p.parts a))) [
      | inl lt ↦
          (let less = fewer (suc s.count) (length (p.parts a)) (p.parts a) bytes r (omega (arith, lt)) found.front in
          absurd (s.most (a, b) less.0 (found.can, can) (stand_wider (suc s.count) (p.parts a) ((q a).parts b) bytes less.0 less.1)))
      | inr le ↦ le
    ]

-- ---- as readers state it

pub open_first_stops : (p : Piece) (q : p.Of → Piece) (stop : PartFault) (bytes : List ℕ) → Goes p q → stop ≢ NoRoom →
    StopsIn p stop bytes → StopsIn (past p q) stop bytes
open_first_stops p q (BadPart left) bytes goes room s = (s.0, open_first p q bytes s.0 goes s.1, s.2)
open_first_stops p q NoRoom bytes goes room s = absurd (room refl)

pub open_then_stops : (p : Piece) (q : p.Of → Piece) (stop : PartFault) (a : p.Of) (bytes r : List ℕ) → Apart p → One p →
    Found p a bytes r → StopsIn (q a) stop r → StopsIn (past p q) stop bytes
open_then_stops p q (BadPart left) a bytes r apart one found s = (s.0, open_then p q a bytes r s.0 apart one found s.1, s.2)
open_then_stops p q NoRoom a bytes r apart one found s = ((a, s.0), s.1, both_found p q a s.0 bytes r s.1 found s.2)
