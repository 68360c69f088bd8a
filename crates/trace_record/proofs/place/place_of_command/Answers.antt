use Rattle.std.proofs.Common.{◌-◌, ◌++◌, ◌∙◌, Bool, List, ℕ, ap, arith, inl, inr, refl, subst}
use Rattle.std.specs.Fmt.{decimal}
use Rattle.trace_walk.proofs.NumberLemmas.{none_after}
use Rattle.trace_record.specs.Asking.{IsLineBadAt}
use Rattle.trace_record.proofs.AskingLemmas.{ends_after_pass}
use Rattle.trace_record.proofs.PlaceLemmas.{after_pass}
use Rattle.trace_record.proofs.place.place_of_command.Goals as goal

pub place_after_pass-requires-2 : goal.place_after_pass-requires-2
place_after_pass-requires-2 c =
    let n = c.in-Some.field-0-0 in
    ends_after_pass n c.args.line.now c.in-Some-read_byte.rest.now c.in-Some.ensures.limit
    (c.in-Some.ensures.found.parts ∙ ap (λ (l : List ℕ). decimal n ++ l) c.in-Some-read_byte.ensures.found) c.requires.ends

pub returns-in_default-read_byte : goal.returns-in_default-read_byte
returns-in_default-read_byte c =
    let line = c.args.line.now in
    let n = c.in-Some.field-0-0 in
    subst (λ (b : Bool). IsLineBadAt b (c.args.number - 1) line 0) c.if-not-has_pass.ensures
    (inr (
      λ pass text few is. none_after line c.in-Some.rest.now n 32 (omega (arith, c.in-Some.ensures.limit)) refl c.in-Some.ensures.found
          c.in_default-read_byte.ensures.none pass text (omega (arith, few)) is,
      refl,
    ))

pub returns : goal.returns
returns c =
    let line = c.args.line.now in
    let n = c.in-Some.field-0-0 in
    let text = c.in-Some-read_byte.rest.now in
    let is = c.in-Some.ensures.found.parts ∙ ap (λ (l : List ℕ). decimal n ++ l) c.in-Some-read_byte.ensures.found in
    subst (λ (b : Bool). IsLineBadAt b (c.args.number - 1) line c.saturating_add.result) c.if-not-has_pass.ensures
    (inl (after_pass line text n c.place_after_pass-2.result c.saturating_add.result c.in-Some.ensures.limit is
    (omega (arith, c.requires.short)) c.place_after_pass-2.ensures
    (omega (arith, c.saturating_add.ensures, c.saturating_sub-before.ensures))))
