-- Lemmas about the next line.
use Rattle.std.proofs.Common.{◌≡◌, ℕ, suc, ◌<◌, List, [], ◌∷◌, ◌++◌, length, Option, Some, None, sym, ap, ◌∙◌, inl, arith, append_assoc}
use Rattle.std.proofs.Common.{append-nil, length-append}
use Rattle.std.specs.Io.KnownBytes.{Consumes, prepend_known}
use Rattle.std.proofs.KnownBytes.{Consumes-trans}
use Rattle.line_io.specs.Lines.{IsUnbroken}
use Rattle.line_io.specs.declared.pull.Pulled.{Pulled}
use Rattle.line_io.specs.declared.pull.Pulled.TheVariants as pulled
use Rattle.line_io.specs.Reading.{LinesContent, GoesToNext}
use Rattle.line_io.specs.Pulling.{left, Pulls, IsJudged}

-- a front is consumed of what was read
pub consumes_front : (known : Option (List ℕ)) (old front new : List ℕ) → old ≡ front ++ new →
    Consumes (prepend_known old known) (prepend_known new known) front
consumes_front None old front new e = tt
consumes_front (Some xs) old front new e = ap (λ l. l ++ xs) e ∙ append_assoc front new xs

-- a line that was gone to
pub pulls_judged : (r : Pulled) (from known : Option (List ℕ)) (first old new : LinesContent) → Consumes from (left old known) [] →
    old.count ≡ first.count → GoesToNext old new → IsJudged r new.line → Pulls r from (left new known) first new
pulls_judged pulled.Line from known first old new kept count g short = (
  g.ends,
  inl (Consumes-trans from (left old known) (left new known) [] new.line kept (consumes_front known old.rest new.line new.rest g.split)),
  short,
  g.count ∙ ap suc count,
)
pulls_judged pulled.Long from known first old new kept count g long =
    let split : old.rest ≡ g.ends.front ++ (10 ∷ new.rest) =
    g.split ∙ ap (λ l. l ++ new.rest) g.ends.parts ∙ append_assoc g.ends.front (10 ∷ []) new.rest in (
      g.ends.front,
      (
        prepend_known (10 ∷ new.rest) known,
        Consumes-trans from (left old known) (prepend_known (10 ∷ new.rest) known) [] g.ends.front kept
            (consumes_front known old.rest g.ends.front (10 ∷ new.rest) split),
      ),
      g.ends.none,
      omega (arith, long, ap length g.ends.parts, length-append g.ends.front (10 ∷ [])),
    )
pulls_judged pulled.End from known first old new kept count g e = absurd e
pulls_judged pulled.ReadFault from known first old new kept count g e = absurd e
pulls_judged pulled.NoRoom from known first old new kept count g e = absurd e

-- the front of a line that is too long already
pub pulls_long : (from known to : Option (List ℕ)) (first old new : LinesContent) → Consumes from (left old known) [] →
    IsUnbroken old.rest → 4096 < length old.rest → Pulls pulled.Long from to first new
pulls_long from known to first old new kept whole long = (
  old.rest,
  (
    prepend_known [] known,
    Consumes-trans from (left old known) (prepend_known [] known) [] old.rest kept
        (consumes_front known old.rest old.rest [] (sym (append-nil old.rest))),
  ),
  whole,
  long,
)
