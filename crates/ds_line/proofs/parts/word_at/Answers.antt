use Rattle.std.proofs.Common.{ap, take, drop, ◌∙◌}
use Rattle.std.specs.Char.{is_ascii_alphanumeric}
use Rattle.std.proofs.lemmas.List.Sums.{prefix_len-le-length}
use Rattle.ds_names.proofs.DecimalLemmas.{run_parts}
use Rattle.ds_line.proofs.PartLemmas.{run_begins}
use Rattle.ds_line.proofs.parts.word_at.Goals as goal

pub split_at-requires : goal.split_at-requires
split_at-requires c = rw c.word_len.ensures (prefix_len-le-length is_ascii_alphanumeric c.args.bytes.now)

pub returns-clause-found : goal.returns-clause-found
returns-clause-found c =
    let front = c.split_at.ensures.front ∙ ap (λ n. take n c.args.bytes.now) c.word_len.ensures in
    let back = c.split_at.ensures.back ∙ ap (λ n. drop n c.args.bytes.now) c.word_len.ensures in
    run_begins is_ascii_alphanumeric c.args.bytes.now c.split_at.result.0.now c.split_at.result.1.now front back

pub returns-clause-valid : goal.returns-clause-valid
returns-clause-valid c =
    let front = c.split_at.ensures.front ∙ ap (λ n. take n c.args.bytes.now) c.word_len.ensures in
    rw front (run_parts is_ascii_alphanumeric c.args.bytes.now).0
