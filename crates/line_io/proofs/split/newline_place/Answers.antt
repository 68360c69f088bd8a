use Rattle.line_io.proofs.NewlineLemmas.{newline_found}
use Rattle.line_io.proofs.split.newline_place.Goals as goal

pub returns : goal.returns
returns c = newline_found c.args.text.now c.memchr.result c.memchr.ensures
