use Rattle.std.proofs.Common.{sym, ◌∙◌, arith}
use Rattle.ds_pattern.proofs.NarrowLemmas.{narrow_empty, narrow_literal, narrow_bytes, narrow_chars, narrow_look, narrow_repetition}
use Rattle.ds_pattern.proofs.NarrowLemmas.{narrow_inside, narrow_concat, narrow_alternation, each_next}
use Rattle.ds_pattern.proofs.narrow.+narrowed.Goals as goal

pub narrowed-returns-in-Empty : goal.narrowed-returns-in-Empty
narrowed-returns-in-Empty t c = rw c.in-Empty.is narrow_empty

pub narrowed-returns-in_ok-from_slice-in-Literal : goal.narrowed-returns-in_ok-from_slice-in-Literal
narrowed-returns-in_ok-from_slice-in-Literal t c =
    rw c.in-Literal.is (narrow_literal _ _ (c.in_ok-from_slice-in-Literal.ensures.items ∙ c.deref.ensures.value))

pub narrowed-returns-in_ok-clone-in-Bytes : goal.narrowed-returns-in_ok-clone-in-Bytes
narrowed-returns-in_ok-clone-in-Bytes t c = rw c.in-Bytes.is (narrow_bytes _ _ c.in_ok-clone-in-Bytes.ensures)

pub narrowed-returns-in_ok-of_ascii-in-Chars : goal.narrowed-returns-in_ok-of_ascii-in-Chars
narrowed-returns-in_ok-of_ascii-in-Chars t c = rw c.in-Chars.is (narrow_chars _ _ c.in_ok-of_ascii-in-Chars.ensures)

pub narrowed-returns-in-Look : goal.narrowed-returns-in-Look
narrowed-returns-in-Look t c = rw c.in-Look.is (narrow_look _ _ c.look_of_ascii.ensures.holds)

pub narrowed-returns-in_ok-new-in-Repetition : goal.narrowed-returns-in_ok-new-in-Repetition
narrowed-returns-in_ok-new-in-Repetition t c =
    rw c.in-Repetition.is (narrow_repetition _ _ _ _ _
    (rw (c.in_ok-new-in-Repetition.ensures.ok, sym c.deref-in-Repetition.ensures) c.in_ok-narrowed-in-Repetition.ensures))

pub narrowed-returns-in-Capture : goal.narrowed-returns-in-Capture
narrowed-returns-in-Capture t c = rw c.in-Capture.is (narrow_inside _ _ _ (rw c.deref-in-Capture.ensures at c.narrowed-in-Capture.ensures))

pub narrowed-returns-in_ok-all_narrowed-in-Concat : goal.narrowed-returns-in_ok-all_narrowed-in-Concat
narrowed-returns-in_ok-all_narrowed-in-Concat t c =
    rw c.in-Concat.is (narrow_concat _ _ (rw c.deref-in-Concat.ensures.value at c.in_ok-all_narrowed-in-Concat.ensures))

pub narrowed-returns-in_ok-all_narrowed-in-Alternation : goal.narrowed-returns-in_ok-all_narrowed-in-Alternation
narrowed-returns-in_ok-all_narrowed-in-Alternation t c =
    rw c.in-Alternation.is (narrow_alternation _ _ (rw c.deref-in-Alternation.ensures.value at c.in_ok-all_narrowed-in-Alternation.ensures))

pub all_narrowed-loop-i-preserved : goal.all_narrowed-loop-i-preserved
all_narrowed-loop-i-preserved t c =
    rw c.in_ok-push.ensures.items (each_next c.loop-i.all.items c.args.trees.now c.in_ok-narrowed.field-0 c.loop-i.i c.index-trees-i.result
    (omega (arith, c.loop-i-test.true))
    (sym c.index-trees-i.is) c.loop-i.invariant c.in_ok-narrowed.ensures)
