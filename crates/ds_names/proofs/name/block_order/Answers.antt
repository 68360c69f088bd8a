use Rattle.std.proofs.Common.{◌≢◌, ◌+◌, ◌*◌, take, drop, sym, ap, ◌∙◌, arith}
use Rattle.std.specs.Int.{from_be_bytes, w64}
use Rattle.std.specs.Ordering.{nat_cmp}
use Rattle.std.specs.Cmp.Lexicographic.{slice_cmp}
use Rattle.ds_names.proofs.WordLemmas.{word_more, apart, level}
use Rattle.ds_names.proofs.name.block_order.Goals as goal

pub returns-then-one-other : goal.returns-then-one-other
returns-then-one-other c =
    let mine = c.args.mine.now in
    let theirs = c.args.theirs.now in
    let at = c.loop-at.at in
    let one = from_be_bytes w64 (take 8 (drop (8 * at) mine)) in
    let other = from_be_bytes w64 (take 8 (drop (8 * at) theirs)) in
    let past = slice_cmp nat_cmp (drop (8 * (at + 1)) mine) (drop (8 * (at + 1)) theirs) in
    let step = word_more mine theirs at c.loop-at-test.true c.told-mine c.told-theirs (λ i. omega (arith, c.fits-mine i))
    (λ i. omega (arith, c.fits-theirs i)) in
    let differ : one ≢ other = λ same. c.if-one-other.true (c.word_at-one.ensures ∙ same ∙ sym c.word_at-other.ensures) in
    c.cmp.ensures ∙ ap (λ x. nat_cmp x c.word_at-other.result) c.word_at-one.ensures ∙ ap (λ y. nat_cmp one y) c.word_at-other.ensures ∙
    sym (apart one other past differ) ∙ sym step ∙ c.loop-at.invariant

pub loop-at-preserved : goal.loop-at-preserved
loop-at-preserved c =
    let mine = c.args.mine.now in
    let theirs = c.args.theirs.now in
    let at = c.loop-at.at in
    let one = from_be_bytes w64 (take 8 (drop (8 * at) mine)) in
    let other = from_be_bytes w64 (take 8 (drop (8 * at) theirs)) in
    let past = slice_cmp nat_cmp (drop (8 * (at + 1)) mine) (drop (8 * (at + 1)) theirs) in
    let step = word_more mine theirs at c.loop-at-test.true c.told-mine c.told-theirs (λ i. omega (arith, c.fits-mine i))
    (λ i. omega (arith, c.fits-theirs i)) in
    sym (level one other past (sym c.word_at-one.ensures ∙ c.if-one-other.false ∙ c.word_at-other.ensures)) ∙ sym step ∙ c.loop-at.invariant
