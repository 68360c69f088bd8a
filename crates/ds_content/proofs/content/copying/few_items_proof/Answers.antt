use Rattle.ds_content.proofs.IndexLemmas.{few_items}
use Rattle.ds_content.proofs.content.copying.few_items_proof.Goals as goal

pub returns : goal.returns
returns c =
    few_items c.args.held.now c.limits.result c.len-count.result c.floor_count-floors.result c.limits.ensures c.keys-keys.ensures.limits
    c.len-count.ensures.count c.len-count.ensures.few
    c.floor_count-floors.ensures.count c.floor_count-floors.ensures.few
