use Rattle.ds_names.proofs.DecimalLemmas.{endpoint_text_one}
use Rattle.ds_names.proofs.endpoint.endpoints_have_one_text.Goals as goal

pub returns : goal.returns
returns c = endpoint_text_one
