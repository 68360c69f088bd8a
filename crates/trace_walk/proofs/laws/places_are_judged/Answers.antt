use Rattle.trace_walk.proofs.PlaceLemmas.{plus_places, reply_places, within_replies}
use Rattle.trace_walk.proofs.laws.places_are_judged.Goals as goal

pub returns : goal.returns
returns c = record { plus = plus_places; reply = reply_places; within = within_replies }
