use Rattle.std.proofs.Common.{◌≡◌, length, take, drop}
use Rattle.std.specs.List.{All}
use Rattle.c_rs.specs.Running.{CallsInTurn, HasNoText}
use Rattle.c_rs.proofs.session.RsSession.run.Given as goal

-- the requests so far were asked, no answer had a text, and the places past the answers are as they were
abbrev pub invariant-loop-index : goal.invariant-loop-index
invariant-loop-index l = record {
  calls : CallsInTurn l.texts l.initial.self (take l.index l.requests) (take l.index l.answers) l.self;
  silent : All HasNoText (take l.index l.answers);
  past : drop l.index l.answers ≡ drop l.index l.initial.answers;
  many : length l.answers ≡ length l.initial.answers;
}
