-- Orders of notices: what they leave of the pending words, and what they raise and take.
use Rattle.std.proofs.Common.{◌≡◌, ◌≢◌, ℕ, ◌+◌, ◌-◌, ◌≤◌, List, [], ◌∷◌, ◌++◌, cond, refl, ap, sym, ◌∙◌, arith, eq-eqb, ne_eqb}
use Rattle.std.specs.Int.{bit_at}
use Rattle.std.proofs.lemmas.Nat.Bits.{bit_at_or, bit_at-zero, bit_at-lt}
use mathlib.Core.Logic.{dite}
use mathlib.Core.Option.{some}
use native.Mathlib.Decide.{ℕ_discrete}
use lib.ListN.{get_elem?}
use Rattle.desk_rule.specs.declared.notice.Act.{Act}
use Rattle.desk_rule.specs.declared.notice.Act.TheVariants.{Post, Take}
use Rattle.desk_rule.specs.declared.notice.Notice.{Notice}
use Rattle.desk_rule.specs.Notices.{after_notice, AreFound, given_by, IsOrder, IsPost, left_of, none_pending, NoTakes, pending_after}
use Rattle.desk_rule.specs.Notices.{posted_at, raised_at, raised_in, set_by, taken_at, taken_in, Words, words_after}
use Rattle.desk_rule.proofs.ListLemmas.{total_some}

-- what one notice sets, raises and takes, at its own server and at another
pub posted_here : (s b : ℕ) (n : Notice) → n.server ≡ s → posted_at s b n ≡ bit_at (set_by n.act) b
posted_here s b n e = ap (λ t. cond t (bit_at (set_by n.act) b) 0) (eq-eqb n.server s e)

pub posted_elsewhere : (s b : ℕ) (n : Notice) → n.server ≢ s → posted_at s b n ≡ 0
posted_elsewhere s b n other = ap (λ t. cond t (bit_at (set_by n.act) b) 0) (ne_eqb n.server s other)

pub raised_here : (s b : ℕ) (n : Notice) → n.server ≡ s → raised_at s b n ≡ bit_at (set_by n.act) b - bit_at n.found b
raised_here s b n e = ap (λ t. cond t (bit_at (set_by n.act) b - bit_at n.found b) 0) (eq-eqb n.server s e)

pub raised_elsewhere : (s b : ℕ) (n : Notice) → n.server ≢ s → raised_at s b n ≡ 0
raised_elsewhere s b n other = ap (λ t. cond t (bit_at (set_by n.act) b - bit_at n.found b) 0) (ne_eqb n.server s other)

pub taken_here : (s b : ℕ) (n : Notice) → n.server ≡ s → taken_at s b n ≡ bit_at (given_by n.found n.act) b
taken_here s b n e = ap (λ t. cond t (bit_at (given_by n.found n.act) b) 0) (eq-eqb n.server s e)

pub taken_elsewhere : (s b : ℕ) (n : Notice) → n.server ≢ s → taken_at s b n ≡ 0
taken_elsewhere s b n other = ap (λ t. cond t (bit_at (given_by n.found n.act) b) 0) (ne_eqb n.server s other)

-- the words after a notice, at its own server and at another
pub left_here : (words : Words) (n : Notice) (s : ℕ) → n.server ≡ s → after_notice words n s ≡ left_of n.found n.act
left_here words n s e = ap (λ t. cond t (left_of n.found n.act) (words s)) (eq-eqb n.server s e)

pub left_elsewhere : (words : Words) (n : Notice) (s : ℕ) → n.server ≢ s → after_notice words n s ≡ words s
left_elsewhere words n s other = ap (λ t. cond t (left_of n.found n.act) (words s)) (ne_eqb n.server s other)

pub words_append : (words : Words) (ns more : List Notice) → words_after words (ns ++ more) ≡ words_after (words_after words ns) more
words_append words [] more = refl
words_append words (n ∷ ns) more = words_append (after_notice words n) ns more

-- one more notice, which found its word as the earlier ones left it
pub found_push : (words : Words) (ns : List Notice) (n : Notice) → AreFound words ns → n.found ≡ words_after words ns n.server →
    AreFound words (ns ++ n ∷ [])
found_push words [] n found is = (is, tt)
found_push words (k ∷ ns) n found is = (found.0, found_push (after_notice words k) ns n found.1 is)

pub found_front : (words : Words) (ns more : List Notice) → AreFound words (ns ++ more) → AreFound words ns
found_front words [] more found = tt
found_front words (n ∷ ns) more found = (found.0, found_front (after_notice words n) ns more found.1)

found_back : (words : Words) (ns more : List Notice) → AreFound words (ns ++ more) → AreFound (words_after words ns) more
found_back words [] more found = found
found_back words (n ∷ ns) more found = found_back (after_notice words n) ns more found.1

-- one step balances: raised and found before are taken and left
act_balanced : (found b : ℕ) (act : Act) →
    (bit_at (set_by act) b - bit_at found b) + bit_at found b ≡ bit_at (given_by found act) b + bit_at (left_of found act) b
act_balanced found b (Post bits place) = let o = bit_at_or found bits b in let z = bit_at-zero b in omega arith
act_balanced found b Take = let z = bit_at-zero b in omega arith

one_balanced : (words : Words) (n : Notice) (s b : ℕ) → n.found ≡ words n.server →
    raised_at s b n + bit_at (words s) b ≡ taken_at s b n + bit_at (after_notice words n s) b
one_balanced words n s b found = dite (ℕ_discrete n.server s)
    (λ here.
    let a = act_balanced n.found b n.act in
    let r = raised_here s b n here in
    let t = taken_here s b n here in
    let before : bit_at (words s) b ≡ bit_at n.found b = ap (λ k. bit_at (words k) b) (sym here) ∙ ap (λ w. bit_at w b) (sym found) in
    let after : bit_at (after_notice words n s) b ≡ bit_at (left_of n.found n.act) b = ap (λ w. bit_at w b) (left_here words n s here) in
    omega arith)
    (λ other.
    let r = raised_elsewhere s b n other in
    let t = taken_elsewhere s b n other in
    let after : bit_at (after_notice words n s) b ≡ bit_at (words s) b = ap (λ w. bit_at w b) (left_elsewhere words n s other) in
    omega arith)

-- an order balances for each bit: raises, plus one if it was set before, are takes, plus one if it is set after
pub balanced : (words : Words) (ns : List Notice) (s b : ℕ) → AreFound words ns →
    raised_in ns s b + bit_at (words s) b ≡ taken_in ns s b + bit_at (words_after words ns s) b
balanced words [] s b found = omega arith
balanced words (n ∷ ns) s b found = let one = one_balanced words n s b found.0 in let rest =
    balanced (after_notice words n) ns s b found.1 in omega arith

pub order_balanced : (ns : List Notice) (s b : ℕ) → IsOrder ns → raised_in ns s b ≡ taken_in ns s b + bit_at (pending_after ns s) b
order_balanced ns s b order = let z = bit_at-zero b in let e = balanced none_pending ns s b order in omega arith

-- a notice to its server set each pending bit
pub pending_notice : (ns : List Notice) (s b : ℕ) → IsOrder ns → bit_at (pending_after ns s) b ≡ 1
    → (i : ℕ) × (n : Notice) × (get_elem? ns i ≡ some n) × (n.server ≡ s) × (bit_at (set_by n.act) b ≡ 1)
pending_notice ns s b order is =
    let all = order_balanced ns s b order in
    let one = total_some (raised_at s b) ns (omega arith) in
    let n : Notice = one.1 in
    let both : (n.server ≡ s) × (bit_at (set_by n.act) b ≡ 1) = dite (ℕ_discrete n.server s)
    (λ here. let r = raised_here s b n here in let some_bit = one.3 in let below = bit_at-lt (set_by n.act) b in (here, omega arith))
    (λ other. let r = raised_elsewhere s b n other in let some_bit = one.3 in absurd (omega arith)) in
    (one.0, n, one.2, both.0, both.1)

-- a set bit stays set while nothing takes its word
bit_stays : (words : Words) (ns : List Notice) (s b : ℕ) → AreFound words ns → NoTakes s ns → bit_at (words s) b ≡ 1 →
    bit_at (words_after words ns s) b ≡ 1
bit_stays words [] s b found none is = is
bit_stays words (n ∷ ns) s b found none is = bit_stays (after_notice words n) ns s b found.1 none.1 (dite (ℕ_discrete n.server s)
    (λ here. ap (λ w. bit_at w b) (left_here words n s here) ∙
    act_keeps n.found n.act b (none.0 here) (ap (λ w. bit_at w b) found.0 ∙ (ap (λ k. bit_at (words k) b) here ∙ is)))
    (λ other. ap (λ w. bit_at w b) (left_elsewhere words n s other) ∙ is))
  where
    act_keeps : (found : ℕ) (act : Act) (b : ℕ) → IsPost act → bit_at found b ≡ 1 → bit_at (left_of found act) b ≡ 1
    act_keeps found (Post bits place) b post set = let o = bit_at_or found bits b in let below = bit_at-lt bits b in omega arith
    act_keeps found Take b post set = absurd post

act_sets : (found : ℕ) (act : Act) (b : ℕ) → bit_at (set_by act) b ≡ 1 → bit_at (left_of found act) b ≡ 1
act_sets found (Post bits place) b set = let o = bit_at_or found bits b in let below = bit_at-lt found b in omega arith
act_sets found Take b set = let z = bit_at-zero b in absurd (omega arith)

-- a bit that a notice set stays pending until a later one takes its server's word
pub posted_stays : (before : List Notice) (n : Notice) (after : List Notice) (b : ℕ) → IsOrder (before ++ n ∷ after) →
    bit_at (set_by n.act) b ≡ 1 → NoTakes n.server after
    → bit_at (pending_after (before ++ n ∷ after) n.server) b ≡ 1
posted_stays before n after b order set none =
    let words : Words = pending_after before in
    let found = found_back none_pending before (n ∷ after) order in
    ap (λ (w : Words). bit_at (w n.server) b) (words_append none_pending before (n ∷ after))
    ∙ bit_stays (after_notice words n) after n.server b found.1 none
    (ap (λ w. bit_at w b) (left_here words n n.server refl) ∙ act_sets n.found n.act b set)

-- an order's notices take no more than they raise
pub order_taken : (ns : List Notice) (s b : ℕ) → IsOrder ns → taken_in ns s b ≤ raised_in ns s b
order_taken ns s b order = let e = order_balanced ns s b order in omega arith
