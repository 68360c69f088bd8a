use Rattle.std.proofs.Common.{◌++◌, Err, take, drop, suc, inl, sym, ap, subst, length, ◌∙◌, arith}
use Rattle.std.proofs.lemmas.List.{take-append-drop, take_all, length-drop, length-take-le}
use Rattle.script_commands.specs.declared.fault.CommandFault.{CommandFault}
use Rattle.c_store.specs.Line.{ReadsBytes}
use Rattle.c_store.proofs.LineLemmas.{of_ended}
use Rattle.c_store.proofs.reading.read_bytes.Goals as goal

-- there is more after the newline
pub returns-then-place-bytes : goal.returns-then-place-bytes
returns-then-place-bytes c =
    let bytes = c.args.bytes.now in
    let place = c.in-Some.place in
    subst (λ (f : CommandFault). ReadsBytes bytes (Err f)) (sym c.bad_at.ensures) (inl (record {
      line = take place bytes;
      rest = drop (suc place) bytes;
      unbroken = c.in-Some.ensures.line;
      text = sym (ap (λ l. l ++ drop (suc place) bytes) (sym c.in-Some.ensures.parts) ∙ take-append-drop (suc place) bytes);
      more = λ none. absurd (omega (arith, ap length none, length-drop (suc place) bytes, c.if-place-bytes.true));
      place_is = omega (arith, length-take-le place bytes, c.in-Some.ensures.within);
    }))

-- the newline is the last byte
pub returns-else-place-gt-LONGEST_LINE : goal.returns-else-place-gt-LONGEST_LINE
returns-else-place-gt-LONGEST_LINE c =
    let bytes = c.args.bytes.now in
    let place = c.in-Some.place in
    of_ended bytes (take place bytes) c.in-Some.ensures.line
    (sym (take_all (suc place) bytes (omega (arith, c.if-place-bytes.false))) ∙ c.in-Some.ensures.parts)
    (omega (arith, length-take-le place bytes, c.in-Some.ensures.within, c.if-place-gt-LONGEST_LINE.false)) c.read_line.result
    c.read_line.ensures
