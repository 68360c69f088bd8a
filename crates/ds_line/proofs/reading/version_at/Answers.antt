use Rattle.std.proofs.Common.{Option, ℕ, ◌<◌, ◌≤◌, ◌^◌, Result, Ok, Err, sym, subst, arith}
use Rattle.std.specs.Char.{is_ascii_digit}
use Rattle.std.specs.Fmt.{decimal}
use Rattle.ds_names.specs.Run.{Begins}
use Rattle.ds_entry.specs.Change.{ChangeRecord, change_of}
use Rattle.ds_entry.specs.declared.item.Item.{Item}
use Rattle.ds_line.specs.Reading.{up_to_epoch, ReadsChange, ReadsInto}
use Rattle.ds_line.specs.declared.part_fault.PartFault.{PartFault}
use Rattle.ds_line.proofs.AnswerLemmas.{is_false}
use Rattle.ds_line.proofs.LabelLemmas.{version_of}
use Rattle.ds_line.proofs.OpeningLemmas.{epoch_missing, epoch_refused, epoch_then, dot_missing, dot_then, seq_missing, seq_refused}
use Rattle.ds_line.proofs.OpeningLemmas.{seq_then, mark_space_missing, mark_space_then}
use Rattle.ds_line.proofs.reading.version_at.Goals as goal

pub returns-in_default : goal.returns-in_default
returns-in_default c = epoch_missing c.args.key.now c.args.owner.now c.args.bytes.now c.stop_at.result c.requires c.stop_at.ensures
    c.in_default.ensures.none

pub returns-then-not-has_seq : goal.returns-then-not-has_seq
returns-then-not-has_seq c =
    let is = c.in-Some-of.ensures.1 in
    let most : c.in-Some-of.epoch ≤ 2097151 = omega (arith, is, c.in-Some.ensures.limit) in
    let there = subst (λ x. Begins is_ascii_digit c.args.bytes.now (decimal x) c.in-Some.rest.now) (sym is) c.in-Some.ensures.found in
    epoch_refused c.args.key.now c.args.owner.now c.args.bytes.now c.in-Some.rest.now c.in-Some-of.epoch c.stop_at-then-not-has_seq.result
    c.requires
    c.stop_at-then-not-has_seq.ensures most there (λ has. is_false c.has_seq.result c.if-not-has_seq.true (c.has_seq.ensures.1 has))

pub returns-in_default-read_byte : goal.returns-in_default-read_byte
returns-in_default-read_byte c =
    let is = c.in-Some-of.ensures.1 in
    let most : c.in-Some-of.epoch ≤ 2097151 = omega (arith, is, c.in-Some.ensures.limit) in
    let there = subst (λ x. Begins is_ascii_digit c.args.bytes.now (decimal x) c.in-Some.rest.now) (sym is) c.in-Some.ensures.found in
    epoch_then c.args.key.now c.args.owner.now c.args.bytes.now c.in-Some.rest.now c.in-Some-of.epoch
    (Err c.stop_at-in_default-read_byte.result) most there
    (dot_missing c.args.key.now c.args.owner.now c.in-Some.rest.now c.in-Some-of.epoch c.stop_at-in_default-read_byte.result
    (c.has_seq.ensures.0 c.if-not-has_seq.false)
    c.stop_at-in_default-read_byte.ensures c.in_default-read_byte.ensures.none)

pub returns-in_default-read_decimal : goal.returns-in_default-read_decimal
returns-in_default-read_decimal c =
    let is = c.in-Some-of.ensures.1 in
    let most : c.in-Some-of.epoch ≤ 2097151 = omega (arith, is, c.in-Some.ensures.limit) in
    let there = subst (λ x. Begins is_ascii_digit c.args.bytes.now (decimal x) c.in-Some.rest.now) (sym is) c.in-Some.ensures.found in
    epoch_then c.args.key.now c.args.owner.now c.args.bytes.now c.in-Some.rest.now c.in-Some-of.epoch
    (Err c.stop_at-in_default-read_decimal.result) most there
    (dot_then c.args.key.now c.args.owner.now c.in-Some.rest.now c.in-Some-read_byte.at.now c.in-Some-of.epoch
    (Err c.stop_at-in_default-read_decimal.result) c.in-Some-read_byte.ensures.found
    (seq_missing c.args.key.now c.args.owner.now c.in-Some-read_byte.at.now c.in-Some-of.epoch c.stop_at-in_default-read_decimal.result
    (c.has_seq.ensures.0 c.if-not-has_seq.false)
    c.stop_at-in_default-read_decimal.ensures c.in_default-read_decimal.ensures.none))

pub returns-then-not-has_body : goal.returns-then-not-has_body
returns-then-not-has_body c =
    let is = c.in-Some-of.ensures.1 in
    let most : c.in-Some-of.epoch ≤ 2097151 = omega (arith, is, c.in-Some.ensures.limit) in
    let there = subst (λ x. Begins is_ascii_digit c.args.bytes.now (decimal x) c.in-Some.rest.now) (sym is) c.in-Some.ensures.found in
    let fits : c.in-Some-read_decimal.seq < 2 ^ 32 = omega (arith, c.in-Some-read_decimal.ensures.limit) in
    epoch_then c.args.key.now c.args.owner.now c.args.bytes.now c.in-Some.rest.now c.in-Some-of.epoch
    (Err c.stop_at-then-not-has_body.result) most there
    (dot_then c.args.key.now c.args.owner.now c.in-Some.rest.now c.in-Some-read_byte.at.now c.in-Some-of.epoch
    (Err c.stop_at-then-not-has_body.result) c.in-Some-read_byte.ensures.found
    (seq_refused c.args.key.now c.args.owner.now c.in-Some-read_byte.at.now c.in-Some-read_decimal.rest.now
    (version_of c.in-Some-of.epoch c.in-Some-read_decimal.seq)
    c.stop_at-then-not-has_body.result (c.has_seq.ensures.0 c.if-not-has_seq.false) c.stop_at-then-not-has_body.ensures fits
    c.in-Some-read_decimal.ensures.found
    (λ has. is_false c.has_body.result c.if-not-has_body.true (c.has_body.ensures.1 has))))

pub returns-in_default-read_byte-2 : goal.returns-in_default-read_byte-2
returns-in_default-read_byte-2 c =
    let is = c.in-Some-of.ensures.1 in
    let most : c.in-Some-of.epoch ≤ 2097151 = omega (arith, is, c.in-Some.ensures.limit) in
    let there = subst (λ x. Begins is_ascii_digit c.args.bytes.now (decimal x) c.in-Some.rest.now) (sym is) c.in-Some.ensures.found in
    let fits : c.in-Some-read_decimal.seq < 2 ^ 32 = omega (arith, c.in-Some-read_decimal.ensures.limit) in
    epoch_then c.args.key.now c.args.owner.now c.args.bytes.now c.in-Some.rest.now c.in-Some-of.epoch
    (Err c.stop_at-in_default-read_byte-2.result) most there
    (dot_then c.args.key.now c.args.owner.now c.in-Some.rest.now c.in-Some-read_byte.at.now c.in-Some-of.epoch
    (Err c.stop_at-in_default-read_byte-2.result) c.in-Some-read_byte.ensures.found
    (seq_then c.args.key.now c.args.owner.now c.in-Some-read_byte.at.now c.in-Some-read_decimal.rest.now
    (version_of c.in-Some-of.epoch c.in-Some-read_decimal.seq)
    (Err c.stop_at-in_default-read_byte-2.result) fits c.in-Some-read_decimal.ensures.found
    (mark_space_missing c.args.key.now c.args.owner.now c.in-Some-read_decimal.rest.now
    (version_of c.in-Some-of.epoch c.in-Some-read_decimal.seq)
    c.stop_at-in_default-read_byte-2.result (c.has_body.ensures.0 c.if-not-has_body.false) c.stop_at-in_default-read_byte-2.ensures
    c.in_default-read_byte-2.ensures.none)))

pub returns-in-Ok : goal.returns-in-Ok
returns-in-Ok c =
    let is = c.in-Some-of.ensures.1 in
    let most : c.in-Some-of.epoch ≤ 2097151 = omega (arith, is, c.in-Some.ensures.limit) in
    let there = subst (λ x. Begins is_ascii_digit c.args.bytes.now (decimal x) c.in-Some.rest.now) (sym is) c.in-Some.ensures.found in
    let fits : c.in-Some-read_decimal.seq < 2 ^ 32 = omega (arith, c.in-Some-read_decimal.ensures.limit) in
    let given : Result (ChangeRecord × ℕ) PartFault =
    Ok (change_of c.args.key.now c.args.owner.now (version_of c.in-Some-of.epoch c.in-Some-read_decimal.seq) c.in-Ok.body, c.in-Ok.left) in
    let read : ReadsChange (up_to_epoch c.args.key.now c.args.owner.now) c.args.bytes.now given =
    epoch_then c.args.key.now c.args.owner.now c.args.bytes.now c.in-Some.rest.now c.in-Some-of.epoch given most there
    (dot_then c.args.key.now c.args.owner.now c.in-Some.rest.now c.in-Some-read_byte.at.now c.in-Some-of.epoch given
    c.in-Some-read_byte.ensures.found
    (seq_then c.args.key.now c.args.owner.now c.in-Some-read_byte.at.now c.in-Some-read_decimal.rest.now
    (version_of c.in-Some-of.epoch c.in-Some-read_decimal.seq) given fits c.in-Some-read_decimal.ensures.found
    (mark_space_then c.args.key.now c.args.owner.now c.in-Some-read_decimal.rest.now c.in-Some-read_byte-2.rest.now
    (version_of c.in-Some-of.epoch c.in-Some-read_decimal.seq) given c.in-Some-read_byte-2.ensures.found c.in-Ok.ensures))) in
    subst (λ (placed : Option Item). ReadsInto (up_to_epoch c.args.key.now c.args.owner.now) c.args.bytes.now (Ok c.in-Ok.left) placed)
    (sym c.put_into.ensures.put) read

pub returns-in-Err : goal.returns-in-Err
returns-in-Err c =
    let is = c.in-Some-of.ensures.1 in
    let most : c.in-Some-of.epoch ≤ 2097151 = omega (arith, is, c.in-Some.ensures.limit) in
    let there = subst (λ x. Begins is_ascii_digit c.args.bytes.now (decimal x) c.in-Some.rest.now) (sym is) c.in-Some.ensures.found in
    let fits : c.in-Some-read_decimal.seq < 2 ^ 32 = omega (arith, c.in-Some-read_decimal.ensures.limit) in
    epoch_then c.args.key.now c.args.owner.now c.args.bytes.now c.in-Some.rest.now c.in-Some-of.epoch (Err c.in-Err.stop) most there
    (dot_then c.args.key.now c.args.owner.now c.in-Some.rest.now c.in-Some-read_byte.at.now c.in-Some-of.epoch (Err c.in-Err.stop)
    c.in-Some-read_byte.ensures.found
    (seq_then c.args.key.now c.args.owner.now c.in-Some-read_byte.at.now c.in-Some-read_decimal.rest.now
    (version_of c.in-Some-of.epoch c.in-Some-read_decimal.seq) (Err c.in-Err.stop) fits c.in-Some-read_decimal.ensures.found
    (mark_space_then c.args.key.now c.args.owner.now c.in-Some-read_decimal.rest.now c.in-Some-read_byte-2.rest.now
    (version_of c.in-Some-of.epoch c.in-Some-read_decimal.seq)
    (Err c.in-Err.stop) c.in-Some-read_byte-2.ensures.found c.in-Err.ensures)))
