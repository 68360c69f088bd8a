use Rattle.std.proofs.Common.{◌≡◌, ◌≤◌, ◌++◌, length, vec_capacity}
use Rattle.ds_system.specs.Since.{SystemRunLeads}
use Rattle.ds_system.proofs.system.System.happen_all.Given as goal

-- the events so far happened, and the list has room for all outcomes
abbrev pub invariant-loop-event : goal.invariant-loop-event
invariant-loop-event l = record {
  all : l.yielded ++ l.event-iterator.rest.items ≡ l.fn.events;
  one_each : length l.outcomes.items ≡ length l.yielded;
  room : length l.fn.events ≤ vec_capacity l.outcomes;
  done : SystemRunLeads l.yielded l.outcomes.items l.fn.self l.self;
}
