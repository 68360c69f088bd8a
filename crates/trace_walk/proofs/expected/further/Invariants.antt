use Rattle.std.proofs.Common.{◌≡◌, ◌++◌, ◌∷◌, [], length, ℕ, List}
use Rattle.trace_walk.specs.Text.{marked}
use Rattle.trace_walk.specs.Reads.{ReadsFurther}
use Rattle.trace_walk.specs.Walking.{IsAt, IsSaid}
use Rattle.trace_walk.proofs.expected.further.Given as goal

-- whatever comes before it, some more lines of the text were compared
abbrev pub invariant-loop-line : goal.invariant-loop-line
invariant-loop-line g l = record {
  said : (bytes base whole given : List ℕ) → whole ≡ (given ++ 10 ∷ []) ++ l.fn.text →
      IsAt bytes (base ++ marked (given ++ 10 ∷ [])) l.fn.lines (g.R.Source.remaining l.fn.reader) →
      IsSaid bytes base whole l.rest l.lines (g.R.Source.remaining l.reader);
  reads : ReadsFurther g.R.Source l.fn.lines l.fn.reader l.lines l.reader;
}

abbrev pub decreases-loop-line : goal.decreases-loop-line
decreases-loop-line g l = length l.rest
