use Rattle.std.proofs.Common.{◌≢◌, ℕ, List, ◌∷◌}
use Rattle.ds_entry.specs.declared.body.Body.TheVariants.{Gone}
use Rattle.ds_entry.specs.Change.{change_of, IsChange}
use Rattle.ds_line.specs.Reading.{HasValue, with_body}
use Rattle.ds_line.proofs.AnswerLemmas.{is_false}
use Rattle.ds_line.proofs.BodyLemmas.{mark_missing, mark_then}
use Rattle.ds_line.proofs.reading.body_at.Goals.{then-has_value+in_default, else-has_value, then-has_tombstone+in_default-read_byte}
use Rattle.ds_line.proofs.reading.body_at.Goals.{else-has_tombstone}
use Rattle.ds_line.proofs.reading.body_at.Goals as goal

pub returns-in-Some : goal.returns-in-Some
returns-in-Some c = mark_then c.args.key.now c.args.owner.now c.args.version 61 c.args.bytes.now c.in-Some.rest.now
    (with_body c.args.key.now c.args.owner.now c.args.version c.put_at.result) c.in-Some.ensures.found c.put_at.ensures

pub returns-in-Some-read_byte : goal.returns-in-Some-read_byte
returns-in-Some-read_byte c = mark_then c.args.key.now c.args.owner.now c.args.version 45 c.args.bytes.now c.in-Some-read_byte.rest.now
    (with_body c.args.key.now c.args.owner.now c.args.version c.gone_at.result) c.in-Some-read_byte.ensures.found c.gone_at.ensures

pub returns : goal.returns
returns c =
    let put : HasValue c.args.key.now c.args.owner.now c.args.version → (rest : List ℕ) → c.args.bytes.now ≢ 61 ∷ rest =
    elim c.if-has_value.branch [
      | then-has_value+in_default w ↦ (λ has. w.in_default.ensures.none)
      | else-has_value w ↦ (λ has. absurd (is_false c.has_value.result w.if-has_value.false (c.has_value.ensures.1 has)))
    ] in
    let gone : IsChange (change_of c.args.key.now c.args.owner.now c.args.version Gone) → (rest : List ℕ) → c.args.bytes.now ≢ 45 ∷ rest =
    elim c.if-has_tombstone.branch [
      | then-has_tombstone+in_default-read_byte w ↦ (λ has. w.in_default-read_byte.ensures.none)
      | else-has_tombstone w ↦ (λ has. absurd (is_false c.has_tombstone.result w.if-has_tombstone.false (c.has_tombstone.ensures.1 has)))
    ] in
    mark_missing c.args.key.now c.args.owner.now c.args.version c.args.bytes.now c.stop_at.result c.requires c.stop_at.ensures put gone
