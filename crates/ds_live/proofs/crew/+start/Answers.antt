use Rattle.std.proofs.Common.{arith, ap, sym, subst, ◌∙◌}
use Rattle.ds_live.proofs.BackLemmas.{one_of_none, one_of_some, alone_back, taken_one, same_length_of}
use Rattle.ds_live.proofs.crew.+start.Goals as goal

pub push_reserved-requires : goal.push_reserved-requires
push_reserved-requires g t c =
    let same = same_length_of g.J.Job.comes_back c.start-refused.result _ _ c.start-refused.ensures.ran c.start-refused.ensures.refused in
    omega (
      arith,
      c.start-refused.new.jobs.ok.0,
      c.pop.new.self.ok.0,
      c.args.jobs.now.ok.1,
      c.in-Some.ensures.cases,
      c.pop.ensures.capacity,
      c.start-refused.ensures.room,
    )

pub work-job-requires : goal.work-job-requires
work-job-requires g t c κs within =
    let one = taken_one g.J.Job.can_run c.pop.new.self.items c.args.jobs.now.items c.in-Some.job c.in-Some.ensures.items c.requires in
    (within, subst (λ f. g.J.Job.can_run f.0) (sym c.in-Err.ensures.err) one)

pub returns-in-Ok-clause-ran : goal.returns-in-Ok-clause-ran
returns-in-Ok-clause-ran g t c =
    one_of_none g.J.Job.comes_back c.start-refused.result _ _ _ _ c.in-Some.job c.in-Ok.child.promise.0.value c.join.result
    c.in-Some.ensures.items
    c.push_reserved.ensures.items c.start-refused.ensures.ran (ap (λ p. p.0.value) c.in-Ok.ensures.ok ∙ c.of.ensures) c.join.ensures

pub returns-in-Ok-clause-refused : goal.returns-in-Ok-clause-refused
returns-in-Ok-clause-refused g t c =
    one_of_some g.J.Job.comes_back c.start-refused.result _ _ _ _ c.in-Some.job c.in-Ok.child.promise.0.value c.join.result
    c.in-Some.ensures.items
    c.push_reserved.ensures.items c.start-refused.ensures.place c.start-refused.ensures.refused
    (ap (λ p. p.0.value) c.in-Ok.ensures.ok ∙ c.of.ensures) c.join.ensures

pub returns-in-Err-clause-refused : goal.returns-in-Err-clause-refused
returns-in-Err-clause-refused g t c =
    alone_back g.J.Job.comes_back c.len-place.result _ c.pop.new.self.items _ c.in-Some.job c.in-Err.refused.value.0 _
    (omega (arith, c.len-place.ensures, c.pop.new.self.ok.0))
    c.in-Some.ensures.items c.push_reserved-in-Err.ensures.items (ap (λ f. f.0) c.in-Err.ensures.err) c.work-job.ensures
