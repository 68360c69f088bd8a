-- Pieces that are unique at a front.
use Rattle.std.proofs.Common.{◌≡◌, ℕ, List, length, drop, refl, sym, ap, subst, ◌∙◌, length-append}
use Rattle.ds_names.specs.declared.kind.Kind.{Kind}
use Rattle.ds_line.specs.Part.{Part}
use Rattle.ds_line.specs.FaultPlace.{Stand}
use Rattle.ds_line.specs.Piece.{Piece, last_value}
use Rattle.ds_line.proofs.OpeningLemmas.{text_at}
use Rattle.ds_line.proofs.BodyLemmas.{class_one, value_text}
use Rattle.ds_line.proofs.ApartLemmas.{value_one}
use Rattle.ds_line.proofs.PieceLemmas.{past, One, one_by, stand_split, Views, after_byte}
use Rattle.script_commands.specs.Pieces.{a_value, an_end}

-- one piece, followed by another
pub one_after : (p : Piece) (q : p.Of → Piece) → One p → ((a : p.Of) → One (q a)) → One (past p q)
one_after p q one two a b bytes r s fa fb =
    let ta = stand_split (length ((past p q).parts a)) (length ((q a.0).parts a.1)) (p.parts a.0) ((q a.0).parts a.1) bytes r
    (length-append (p.parts a.0) ((q a.0).parts a.1)) fa.front in
    let tb = stand_split (length ((past p q).parts b)) (length ((q b.0).parts b.1)) (p.parts b.0) ((q b.0).parts b.1) bytes s
    (length-append (p.parts b.0) ((q b.0).parts b.1)) fb.front in
    let first = one a.0 b.0 bytes ta.0 tb.0 (record { can = fa.can.0; front = ta.1 }) (record { can = fb.can.0; front = tb.1 }) in
    let pair : (x : p.Of) → (q x).Of → (past p q).Of = λ x y. (x, y) in
    let P : p.Of → Type 0 = λ x. (y : (q x).Of) → (q x).Can y → Stand (length ((q x).parts y)) ((q x).parts y) ta.0 s →
    (pair x y ≡ a) × (s ≡ r) in
    subst P (sym first.0)
    (λ y can front.
    let second = two a.0 a.1 y ta.0 r s (record { can = fa.can.1; front = ta.2 }) (record { can = can; front = front }) in
    (ap (λ (z : (q a.0).Of). pair a.0 z) second.0, second.1))
    b.1 fb.can.1 (subst (λ (m : List ℕ). Stand (length ((q b.0).parts b.1)) ((q b.0).parts b.1) m s) first.1 tb.2)

-- a byte, followed by the piece
pub one_byte : (n : ℕ) (p : Piece) → One p → One (after_byte n p)
one_byte n p one a b bytes r s fa fb =
    let same : fb.front.0 ≡ fa.front.0 = ap (drop 1) (sym fb.front.1.parts ∙ fa.front.1.parts) in
    one a b fa.front.0 r s (record { can = fa.can; front = fa.front.2 })
    (record { can = fb.can; front = subst (λ (m : List ℕ). Stand (length (p.parts b)) (p.parts b) m s) same fb.front.2 })

-- the same contents under another view
pub one_view : (p q : Piece) (v : Views p q) → One p → ((b : q.Of) (can : q.Can b) → v.to (v.from b can).0 ≡ b) → One q
one_view p q v one back a b bytes r s fa fb =
    let xa = v.from a fa.can in
    let xb = v.from b fb.can in
    let e =
    one xa.0 xb.0 bytes r s (record { can = xa.1; front = subst (λ (x : List Part). Stand (length x) x bytes r) (sym xa.2) fa.front })
    (record { can = xb.1; front = subst (λ (x : List Part). Stand (length x) x bytes s) (sym xb.2) fb.front }) in
    (sym (back b fb.can) ∙ ap v.to e.0 ∙ back a fa.can, e.1)

pub end_one : One an_end
end_one a b bytes r s fa fb = (refl, sym fb.front.2 ∙ ap (drop 1) (sym fb.front.1.parts ∙ fa.front.1.parts) ∙ fa.front.2)

last_one : (kind : Kind) → One (last_value kind)
last_one kind = one_by (last_value kind)
    (λ a b is_a is_b. (class_one a b (is_a.of ∙ sym is_b.of), λ _. (refl, λ _. tt)))
    (λ a is. (value_text a is.valid, (refl, tt)))
    (λ a b is_a is_b same. value_one a b is_a.valid is_b.valid (is_a.of ∙ sym is_b.of) (ap (text_at 0) same))

pub marked_one : (kind : Kind) → One (a_value kind)
marked_one kind = one_byte 32 (after_byte 61 (after_byte 32 (last_value kind)))
    (one_byte 61 (after_byte 32 (last_value kind)) (one_byte 32 (last_value kind) (last_one kind)))
