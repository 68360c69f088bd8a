use Rattle.std.proofs.Common.{◌≡◌, arith, refl, subst, sym}
use Rattle.desk.specs.Desk.{first_call, opened_with}
use Rattle.ds_live.specs.Homes.{home_of}
use Rattle.ds_live.proofs.BackLemmas.{each_back, same_length, same_sum}
use Rattle.ds_live.specs.Workers.{ComesBack, IsOf, others_in}
use Rattle.ds_live.specs.Fails.{IsLiveFault}
use Rattle.ds_live.specs.Run.{ClosesAfter}
use Rattle.ds_live.proofs.FailLemmas.{out_of_memory, run_fault, reported_last}
use Rattle.ds_live.proofs.HistoryLemmas.{closes_after}
use Rattle.ds_live.proofs.LeftLemmas.{fails_run}
use Rattle.ds_live.proofs.RunLemmas.{has_run, none_of_two, ok_of_two, without_fault}
use Rattle.ds_live.proofs.run.run_fit.Goals as goal

pub dismiss-fault-requires-clause-of_desks : goal.dismiss-fault-requires-clause-of_desks
dismiss-fault-requires-clause-of_desks g c = let a = home_of c.in_ok-first.first in let b = home_of c.in_ok-second.second in
    each_back (λ j k. ComesBack j.worker k.worker) (λ j. IsOf a b j.worker) (λ j. IsOf a b j.worker) (λ v w is back. back.still a b is)
    c.in_ok-jobs.jobs.items c.work_all-jobs.result.0.items c.in_ok-jobs.ensures.of_desks c.work_all-jobs.ensures.back

pub dismiss-fault-requires-clause-room : goal.dismiss-fault-requires-clause-room
dismiss-fault-requires-clause-room g c =
    let same = same_length (λ j k. ComesBack j.worker k.worker) 0 c.in_ok-jobs.jobs.items c.work_all-jobs.result.0.items
    c.work_all-jobs.ensures.back in
    omega (arith, same, c.in_ok-jobs.ensures.all, c.hire.ensures.room.0)

pub dismiss-fault-requires-clause-others_room : goal.dismiss-fault-requires-clause-others_room
dismiss-fault-requires-clause-others_room g c =
    let same = same_sum (λ j k. ComesBack j.worker k.worker) (λ j. others_in j.worker.task) (λ v w back. back.same_others)
    c.in_ok-jobs.jobs.items c.work_all-jobs.result.0.items c.work_all-jobs.ensures.back in
    omega (arith, same, c.in_ok-jobs.ensures.one, c.hire.ensures.room.1)

pub close_desk-first-requires-clause-home : goal.close_desk-first-requires-clause-home
close_desk-first-requires-clause-home g c = c.dismiss-fault.ensures.passes

pub close_desk-first-requires-clause-all : goal.close_desk-first-requires-clause-all
close_desk-first-requires-clause-all g c =
    let same = same_length (λ j k. ComesBack j.worker k.worker) 0 c.in_ok-jobs.jobs.items c.work_all-jobs.result.0.items
    c.work_all-jobs.ensures.back in
    omega (arith, same, c.in_ok-jobs.ensures.all, c.dismiss-fault.ensures.all, c.in_ok-first.ensures.count.0, c.in_ok-first.ensures.count.1)

pub close_desk-second-requires-clause-home : goal.close_desk-second-requires-clause-home
close_desk-second-requires-clause-home g c = c.dismiss-fault.ensures.others

pub close_desk-second-requires-clause-all : goal.close_desk-second-requires-clause-all
close_desk-second-requires-clause-all g c =
    let same = same_sum (λ j k. ComesBack j.worker k.worker) (λ j. others_in j.worker.task) (λ v w back. back.same_others)
    c.in_ok-jobs.jobs.items c.work_all-jobs.result.0.items c.work_all-jobs.ensures.back in
    omega (
      arith,
      same,
      c.in_ok-jobs.ensures.one,
      c.dismiss-fault.ensures.all_others,
      c.in_ok-second.ensures.count.0,
      c.in_ok-second.ensures.count.1,
    )

pub dismiss-fault-requires-clause-idle : goal.dismiss-fault-requires-clause-idle
dismiss-fault-requires-clause-idle g c = c.work_all-jobs.ensures.idle

pub end_run-requires : goal.end_run-requires
end_run-requires g c = (c.close_desk-first.ensures.account, c.close_desk-second.ensures.account)

pub hire-requires-clause-passes : goal.hire-requires-clause-passes
hire-requires-clause-passes g c = c.in_ok-first.ensures.home

pub hire-requires-clause-others : goal.hire-requires-clause-others
hire-requires-clause-others g c = c.in_ok-second.ensures.home

pub hire-requires-clause-count : goal.hire-requires-clause-count
hire-requires-clause-count g c = (omega (arith, c.in_ok-first.ensures.count.1, c.workers.ensures), c.in_ok-second.ensures.count.1)

pub dismiss-fault-requires-clause-taken : goal.dismiss-fault-requires-clause-taken
dismiss-fault-requires-clause-taken g c = c.in_ok-jobs.ensures.taken

pub hire-requires-clause-fresh : goal.hire-requires-clause-fresh
hire-requires-clause-fresh g c = (c.in_ok-first.ensures.fresh, c.in_ok-second.ensures.fresh)

-- without a fault: the jobs before and after the run, what was handed back, and the closed desks
pub returns-clause-ran : goal.returns-clause-ran
returns-clause-ran g c =
    let js = c.in_ok-jobs.jobs.items in let ks = c.work_all-jobs.result.0.items in let e = c.in_ok-jobs.ensures in let back =
    c.dismiss-fault.new.back in
    let first = c.in_ok-first.first in let second = c.in_ok-second.second in let d = c.dismiss-fault.ensures in
    without_fault c.dismiss-fault.result c.end_run.result _ _ c.end_run.ensures.fault
    (none_of_two c.work_all-jobs.result.1 c.dismiss-fault.result _ _ d.kept c.work_all-jobs.ensures.took d.finished)
    (λ q. ok_of_two c.end_run.result (λ run. (run.first ≡ c.close_desk-first.result) × (run.second ≡ c.close_desk-second.result))
    (λ run. run.followers.items ≡ back.followers.items) _
    (λ run same left. has_run g.G.Gate.answers (λ j. j.gate.now) (λ j. j.worker) c.args.gate.now c.args.sizes js ks back.passes.items
    back.others.items back.followers.items
    run.followers.items run.first.machine.value run.second.machine.value e.ready e.gates e.numbered
    (omega (arith, e.all, c.in_ok-first.ensures.count.1, c.workers.ensures)) c.work_all-jobs.ensures.back q.0 q.1
    (λ ps is. subst (λ x. ClosesAfter 1 ps x.machine.value) (sym same.0)
    (closes_after 1 (home_of first) (opened_with first) (first_call first) back.passes.items c.close_desk-first.result ps refl
    c.in_ok-first.ensures.opened d.passes c.close_desk-first.ensures.history is))
    (λ ps is. subst (λ x. ClosesAfter 2 ps x.machine.value) (sym same.1)
    (closes_after 2 (home_of second) (opened_with second) (first_call second) back.others.items c.close_desk-second.result ps refl
    c.in_ok-second.ensures.opened d.others c.close_desk-second.ensures.history is))
    left)
    c.end_run.ensures.desks c.end_run.ensures.followers)

pub returns-clause-report : goal.returns-clause-report
returns-clause-report g c = c.end_run.ensures.report

pub returns-clause-account : goal.returns-clause-account
returns-clause-account g c = c.end_run.ensures.account

-- the fault of the lowest worker, of the threads, or want of memory for the report
pub returns-clause-cause : goal.returns-clause-cause
returns-clause-cause g c =
    let js = c.in_ok-jobs.jobs.items in let ks = c.work_all-jobs.result.0.items in let e = c.in_ok-jobs.ensures in let back =
    c.dismiss-fault.new.back in
    let first = c.in_ok-first.first in let second = c.in_ok-second.second in let d = c.dismiss-fault.ensures in let w =
    c.work_all-jobs.ensures in
    let answers = g.G.Gate.answers c.args.gate.now in let sizes = c.args.sizes in
    reported_last (IsLiveFault answers sizes) c.dismiss-fault.result c.end_run.result c.end_run.ensures.cause tt
    (λ told is. run_fault answers sizes c.requires told
    (fails_run g.G.Gate.answers (λ j. j.gate.now) (λ j. j.worker) c.args.gate.now sizes js ks c.work_all-jobs.result.1
    c.dismiss-fault.result back.passes.items back.others.items
    c.close_desk-first.result.machine.value c.close_desk-second.result.machine.value e.ready e.gates e.numbered
    (omega (arith, e.all, c.in_ok-first.ensures.count.1, c.workers.ensures))
    w.back w.stopped w.took w.idle w.fault d.kept d.left
    (λ ps same. closes_after 1 (home_of first) (opened_with first) (first_call first) back.passes.items c.close_desk-first.result ps refl
    c.in_ok-first.ensures.opened d.passes c.close_desk-first.ensures.history same)
    (λ ps same. closes_after 2 (home_of second) (opened_with second) (first_call second) back.others.items c.close_desk-second.result ps
    refl c.in_ok-second.ensures.opened d.others c.close_desk-second.ensures.history same)
    told is))

-- and before the threads
pub returns-in_err-first-clause-cause : goal.returns-in_err-first-clause-cause
returns-in_err-first-clause-cause g c =
    out_of_memory (IsLiveFault (g.G.Gate.answers c.args.gate.now) c.args.sizes) c.from_residual.result c.in_err-first.field-0.0
    c.from_residual.ensures.1 c.in_err-first.ensures.cause tt

pub returns-in_err-second-clause-cause : goal.returns-in_err-second-clause-cause
returns-in_err-second-clause-cause g c =
    out_of_memory (IsLiveFault (g.G.Gate.answers c.args.gate.now) c.args.sizes) c.from_residual-in_err-second.result
    c.in_err-second.field-0.0 c.from_residual-in_err-second.ensures.1
    c.in_err-second.ensures.cause tt

pub returns-in_err-jobs-clause-cause : goal.returns-in_err-jobs-clause-cause
returns-in_err-jobs-clause-cause g c =
    out_of_memory (IsLiveFault (g.G.Gate.answers c.args.gate.now) c.args.sizes) c.from_residual-in_err-jobs.result c.in_err-jobs.field-0.0
    c.from_residual-in_err-jobs.ensures.1
    c.in_err-jobs.ensures.cause tt
