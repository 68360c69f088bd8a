use Rattle.desk_store.proofs.PassLemmas.{after_is, is_in_turns, sees_by_calls, sees_by_looks, sees_by_notes}
use Rattle.desk_store.proofs.RecordLemmas.{made_sees_more, seen_more_again}
use Rattle.desk_store.proofs.pass_laws.passes_see_more.Goals as goal

pub returns : goal.returns
returns c = let p = c.args.pass.now in record {
  calls = sees_by_calls p;
  looks = sees_by_looks p;
  notes = sees_by_notes p;
  made = made_sees_more;
  again = seen_more_again;
  turns = is_in_turns p;
  places = after_is p;
}
