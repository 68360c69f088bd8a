use Rattle.trace_record.proofs.PlaceLemmas.{read_bad, reads_by}
use Rattle.trace_record.proofs.place.place_after_pass.Goals as goal

pub returns : goal.returns
returns c =
    let before = c.args.before in
    let text = c.args.text.now in
    let r = c.read_line_after.result in
    read_bad before text r c.place_of_read.result (reads_by before text r c.read_line_after.ensures.first c.read_line_after.ensures.later)
    c.place_of_read.ensures.bad c.place_of_read.ensures.good
