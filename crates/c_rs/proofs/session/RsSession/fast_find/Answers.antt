use Rattle.std.proofs.Common.{inl}
use Rattle.c_rs.proofs.session.RsSession.fast_find.Goals as goal

pub returns : goal.returns
returns c = record { done = inl c.fast_find.ensures; told = c.let_go.ensures }
