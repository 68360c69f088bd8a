use Rattle.desk_store.proofs.PairPassLemmas.{after_is, is_in_turns, sees_by_calls, sees_by_looks, sees_by_notes}
use Rattle.desk_store.proofs.pair_laws.pair_passes_see_more.Goals as goal

pub returns : goal.returns
returns c = let p = c.args.pass.now in record {
  calls = sees_by_calls p;
  looks = sees_by_looks p;
  notes = sees_by_notes p;
  turns = is_in_turns p;
  places = after_is p;
}
