use Rattle.std.proofs.Common.{inl, refl, sym, subst}
use Rattle.script_answers.specs.Outcome.{ring_line}
use Rattle.script_answers.proofs.ResultLemmas.{on_ok}
use Rattle.ds_script.specs.Session.{IsOpened, SessionContent}
use Rattle.ds_script.proofs.answer.answer_ring.Goals as goal

pub returns-in-Ok-clause-answered : goal.returns-in-Ok-clause-answered
returns-in-Ok-clause-answered c =
    on_ok c.answer_opened.result
    (λ a. (ring_line c.args.ring, a.0, inl (subst (λ (s : SessionContent). IsOpened c.args.ring s) (sym a.1) c.in-Ok.ensures.opened, refl)))
    c.answer_opened.ensures.answered
