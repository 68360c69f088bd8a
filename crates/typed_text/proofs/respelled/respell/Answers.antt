use Rattle.std.specs.Char.{is_ascii_alphabetic}
use Rattle.std.proofs.lemmas.List.Sums.{prefix_len-le-length}
use Rattle.typed_text.proofs.respelled.respell.Goals as goal

pub slice_bounds-make_ascii_lowercase-end : goal.slice_bounds-make_ascii_lowercase-end
slice_bounds-make_ascii_lowercase-end c = rw c.word_length-word.ensures (prefix_len-le-length is_ascii_alphabetic c.args.line.now)
