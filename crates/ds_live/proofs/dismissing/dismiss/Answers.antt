use Rattle.std.proofs.Common.{◌≡◌, [], ◌∷◌, ◌++◌, length, map, sum_by, ap, refl, sym, subst, ◌∙◌, None, IfNone, append-nil, append_assoc}
use Rattle.std.proofs.Common.{arith}
use Rattle.std.proofs.lemmas.List.Elements.{All-nil, All-same}
use Rattle.ds_live.specs.Homes.{home_of}
use Rattle.ds_live.specs.Workers.{Finishes, IsAtHome, IsOf, others_in, plain}
use Rattle.ds_live.specs.Dismissed.{HandBack, Leaves}
use Rattle.ds_live.specs.Tasks.{followers_in}
use Rattle.ds_live.proofs.JobLemmas.{length-last, longer_sum, no_length, other_of, popped, pushed}
use Rattle.ds_live.proofs.LeftLemmas.{none_left, one_left}
use Rattle.ds_live.proofs.RunLemmas.{if_none, kept_on, kept_still, none_handed, none_of_three, none_then, one_handed}
use Rattle.ds_live.proofs.dismissing.dismiss.Goals as goal

-- a job's worker, finished or unchanged
pub hand_back-fault-requires-clause-task : goal.hand_back-fault-requires-clause-task
hand_back-fault-requires-clause-task g c = let a = home_of c.args.desks.now.first in let b = home_of c.args.desks.now.second in
    let was = (popped (λ j. IsOf a b j.worker) c.pop.new.self.items c.loop-job.jobs.items c.in-Some.job c.in-Some.ensures.items
    c.loop-job.invariant.left).1 in
    let came = c.finish-fault.ensures.back in
    let is = came.still a b was in
    other_of b c.finish-fault.new.worker.index c.finish-fault.new.worker.pass c.finish-fault.new.worker.task is.task

pub hand_back-fault-requires-clause-others : goal.hand_back-fault-requires-clause-others
hand_back-fault-requires-clause-others g c = c.loop-job.invariant.others

pub hand_back-fault-requires-clause-others_room : goal.hand_back-fault-requires-clause-others_room
hand_back-fault-requires-clause-others_room g c = let i = c.loop-job.invariant in
    let came = c.finish-fault.ensures.back in
    let less = longer_sum (λ j. others_in j.worker.task) c.pop.new.self.items c.loop-job.jobs.items c.in-Some.job c.in-Some.ensures.items in
    let same = came.same_others in let all = i.all_others in let room = i.others_room in
    omega (arith, all, less, same, room)

pub hand_back-fault-requires-clause-room : goal.hand_back-fault-requires-clause-room
hand_back-fault-requires-clause-room g c = let i = c.loop-job.invariant in
    let fewer = length-last c.pop.new.self.items c.loop-job.jobs.items c.in-Some.job c.in-Some.ensures.items in
    let all = i.all in let room = i.room in
    omega (arith, all, fewer, room, c.loop-job.back.passes.ok.0)

pub loop-job-preserved : goal.loop-job-preserved
loop-job-preserved g c = let i = c.loop-job.invariant in let a = home_of c.args.desks.now.first in let b =
    home_of c.args.desks.now.second in
    let both = popped (λ j. IsOf a b j.worker) c.pop.new.self.items c.loop-job.jobs.items c.in-Some.job c.in-Some.ensures.items i.left in
    let came = c.finish-fault.ensures.back in
    let is = came.still a b both.1 in
    let e = c.hand_back-fault.ensures in
    let fewer = length-last c.pop.new.self.items c.loop-job.jobs.items c.in-Some.job c.in-Some.ensures.items in
    let less = longer_sum (λ j. others_in j.worker.task) c.pop.new.self.items c.loop-job.jobs.items c.in-Some.job c.in-Some.ensures.items in
    let more = length-last c.loop-job.back.passes.items c.hand_back-fault.new.back.passes.items c.finish-fault.new.worker.pass e.passes in
    let same_others = came.same_others in
    let all = i.all in let all_others = i.all_others in let one = e.all in
    let room = i.room in let others_room = i.others_room in
    let whole = i.finished.1 ∙ ap (λ l. l ++ i.finished.0) c.in-Some.ensures.items ∙
    append_assoc c.pop.new.self.items (c.in-Some.job ∷ []) i.finished.0 in
    record {
      home = pushed (λ p. IsAtHome a p) c.loop-job.back.passes.items c.hand_back-fault.new.back.passes.items c.finish-fault.new.worker.pass
          e.passes i.home is.pass;
      others = e.home;
      left = both.0;
      all = omega (arith, all, fewer, more);
      all_others = omega (arith, all_others, less, same_others, one);
      room = omega (arith, room, e.room.0);
      others_room = omega (arith, others_room, e.room.1);
      finished = (
        c.in-Some.job ∷ i.finished.0,
        whole,
        none_of_three c.loop-job.fault c.finish-fault.result c.hand_back-fault.result
            (HandBack (map (λ j. j.worker) i.finished.0) c.loop-job.back.passes.items c.loop-job.back.others.items
            c.loop-job.back.followers.items)
            (Finishes (plain c.in-Some.job.worker) (plain c.finish-fault.new.worker))
            (c.hand_back-fault.new.back.followers.items ≡ c.loop-job.back.followers.items ++ followers_in c.finish-fault.new.worker.task)
            (HandBack (c.in-Some.job.worker ∷ map (λ j. j.worker) i.finished.0) c.hand_back-fault.new.back.passes.items
            c.hand_back-fault.new.back.others.items c.hand_back-fault.new.back.followers.items)
            c.finish-fault.ensures.kept e.kept i.finished.2 c.finish-fault.ensures.done e.followers
            (λ h done f. one_handed (map (λ j. j.worker) i.finished.0) c.in-Some.job.worker c.finish-fault.new.worker
            c.loop-job.back.passes.items c.loop-job.back.others.items
            c.hand_back-fault.new.back.passes.items c.hand_back-fault.new.back.others.items c.loop-job.back.followers.items
            c.hand_back-fault.new.back.followers.items
            h (record { back = came; finishes = done }) e.passes e.others f),
        one_left c.args.fault c.loop-job.fault c.finish-fault.result c.hand_back-fault.result (map (λ j. j.worker) i.finished.0)
            c.in-Some.job.worker c.finish-fault.new.worker
            c.loop-job.back.passes.items c.loop-job.back.others.items c.hand_back-fault.new.back.passes.items
            c.hand_back-fault.new.back.others.items
            i.kept c.finish-fault.ensures.kept e.kept
            (none_then c.args.fault _ _ (λ all. (popped (λ j. j.worker.fault ≡ None) c.pop.new.self.items c.loop-job.jobs.items
            c.in-Some.job c.in-Some.ensures.items all).1) i.idle)
            came c.finish-fault.ensures.left c.finish-fault.ensures.own e.cause i.finished.3 e.passes e.others,
      );
      idle = none_then c.args.fault _ _ (λ all.
          (popped (λ j. j.worker.fault ≡ None) c.pop.new.self.items c.loop-job.jobs.items c.in-Some.job c.in-Some.ensures.items all).0)
          i.idle;
      kept = kept_on c.args.fault c.loop-job.fault c.finish-fault.result c.hand_back-fault.result i.kept c.finish-fault.ensures.kept e.kept;
    }

-- no pass is back yet
pub loop-job-init : goal.loop-job-init
loop-job-init g c = let a = home_of c.args.desks.now.first in let b = home_of c.args.desks.now.second in
    let none = c.requires.taken.0 in let none_of = c.requires.taken.1 in
    record {
      home = All-same (λ p. IsAtHome a p) c.args.back.now.passes.items [] none (All-nil (λ p. IsAtHome a p));
      others = All-same (λ p. IsAtHome b p) c.args.back.now.others.items [] none_of (All-nil (λ p. IsAtHome b p));
      left = c.requires.of_desks;
      all = omega (arith, ap length none);
      all_others = omega (arith, ap length none_of);
      room = c.requires.room;
      others_room = c.requires.others_room;
      finished = (
        [],
        sym (append-nil c.args.jobs.items),
        if_none c.args.fault _ (none_handed c.args.back.now.passes.items c.args.back.now.others.items c.args.back.now.followers.items none
            none_of c.requires.taken.2),
        none_left c.args.fault c.args.fault c.args.back.now.passes.items c.args.back.now.others.items none none_of refl,
      );
      idle = c.requires.idle;
      kept = kept_still c.args.fault;
    }

pub loop-job-smaller : goal.loop-job-smaller
loop-job-smaller g c =
    let fewer = length-last c.pop.new.self.items c.loop-job.jobs.items c.in-Some.job c.in-Some.ensures.items in
    omega (arith, fewer)

-- all are back, once no job is left
pub returns-clause-passes : goal.returns-clause-passes
returns-clause-passes g c = c.loop-job.invariant.home

pub returns-clause-others : goal.returns-clause-others
returns-clause-others g c = c.loop-job.invariant.others

pub returns-clause-all : goal.returns-clause-all
returns-clause-all g c = let all = c.loop-job.invariant.all in omega (arith, all, c.in_default.ensures.cases.0)

pub returns-clause-all_others : goal.returns-clause-all_others
returns-clause-all_others g c =
    let all = c.loop-job.invariant.all_others in
    let none = no_length c.loop-job.jobs.items (omega (arith, c.in_default.ensures.cases.0, c.loop-job.jobs.ok.0)) in
    omega (arith, all, ap (sum_by (λ j. others_in j.worker.task)) none)

pub returns-clause-finished : goal.returns-clause-finished
returns-clause-finished g c =
    let i = c.loop-job.invariant in
    let none = no_length c.loop-job.jobs.items (omega (arith, c.in_default.ensures.cases.0, c.loop-job.jobs.ok.0)) in
    let gone = i.finished.1 ∙ ap (λ l. l ++ i.finished.0) none in
    subst (λ l. IfNone c.loop-job.fault (HandBack (map (λ j. j.worker) l) c.loop-job.back.passes.items c.loop-job.back.others.items
    c.loop-job.back.followers.items)) (sym gone) i.finished.2

pub returns-clause-kept : goal.returns-clause-kept
returns-clause-kept g c = c.loop-job.invariant.kept

pub returns-clause-left : goal.returns-clause-left
returns-clause-left g c =
    let i = c.loop-job.invariant in
    let none = no_length c.loop-job.jobs.items (omega (arith, c.in_default.ensures.cases.0, c.loop-job.jobs.ok.0)) in
    let gone = i.finished.1 ∙ ap (λ l. l ++ i.finished.0) none in
    subst (λ l. Leaves c.args.fault c.loop-job.fault (map (λ j. j.worker) l) c.loop-job.back.passes.items c.loop-job.back.others.items)
    (sym gone) i.finished.3
