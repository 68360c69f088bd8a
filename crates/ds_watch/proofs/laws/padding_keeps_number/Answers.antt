use Rattle.ds_watch.proofs.PaddedLemmas.{padded_number}
use Rattle.ds_watch.proofs.laws.padding_keeps_number.Goals as goal

pub returns : goal.returns
returns c = padded_number
