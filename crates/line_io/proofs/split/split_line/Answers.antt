use Rattle.std.proofs.Common.{◌+◌, sym, MatchOption, arith, take-append-drop, subst}
use Rattle.line_io.specs.Lines.{IsUnbroken, BreaksAt, EndsLine}
use Rattle.line_io.proofs.NewlineLemmas.{ends_line}
use Rattle.line_io.proofs.split.split_line.Goals as goal

pub overflow_add-place : goal.overflow_add-place
overflow_add-place c =
    let b : BreaksAt c.args.text.now c.in-Some.place =
    subst (λ r. MatchOption r (IsUnbroken c.args.text.now) (BreaksAt c.args.text.now)) c.in-Some.is c.newline_place.ensures in
    omega (arith, b.within)

pub split_at-requires : goal.split_at-requires
split_at-requires c =
    let b : BreaksAt c.args.text.now c.in-Some.place =
    subst (λ r. MatchOption r (IsUnbroken c.args.text.now) (BreaksAt c.args.text.now)) c.in-Some.is c.newline_place.ensures in
    omega (arith, b.within)

pub returns-in-Some : goal.returns-in-Some
returns-in-Some c =
    let b : BreaksAt c.args.text.now c.in-Some.place =
    subst (λ r. MatchOption r (IsUnbroken c.args.text.now) (BreaksAt c.args.text.now)) c.in-Some.is c.newline_place.ensures in (
      subst EndsLine (sym c.split_at.ensures.front) (ends_line c.args.text.now c.in-Some.place b),
      rw (c.split_at.ensures.front, c.split_at.ensures.back) (sym (take-append-drop (c.in-Some.place + 1) c.args.text.now)),
    )

pub returns-in-None : goal.returns-in-None
returns-in-None c = subst (λ r. MatchOption r (IsUnbroken c.args.text.now) (BreaksAt c.args.text.now)) c.in-None.is c.newline_place.ensures
