use Rattle.std.proofs.Common.{inl}
use Rattle.c_rs.proofs.session.RsSession.fast_name.Goals as goal

pub returns : goal.returns
returns c = record { done = inl c.fast_name.ensures; told = c.let_go.ensures }
