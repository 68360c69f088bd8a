use Rattle.std.proofs.Common.{◌≡◌, [], length, sum_by, refl, ap, ◌∙◌, arith}
use Rattle.desk.specs.Pass.{calls}
use Rattle.ds_live.specs.Homes.{home_of}
use Rattle.ds_live.specs.Workers.{IsAtHome, IsOf, others_in, plain}
use Rattle.ds_live.specs.Run.{IsReady}
use Rattle.ds_live.specs.declared.live_fault.LiveFault.TheVariants.{NoRoom}
use Rattle.ds_live.proofs.FailLemmas.{out_of_memory}
use Rattle.ds_live.proofs.HireLemmas.{all_numbered, more_numbered, one_numbered, task_ready}
use Rattle.ds_live.proofs.JobLemmas.{first_pushed, length-last, longer_sum, no_length, popped, pushed}
use Rattle.ds_live.proofs.hiring.hire.Goals as goal

-- the job of the one that exchanges
pub loop-pass-init : goal.loop-pass-init
loop-pass-init g c = let a = home_of c.args.desks.now.first in let b = home_of c.args.desks.now.second in
    let here = popped (λ p. IsAtHome a p) c.pop.new.self.items c.args.back.now.passes.items c.in-Some.pass c.in-Some.ensures.items
    c.requires.passes in
    let there = popped (λ p. IsAtHome b p) c.pop-2.new.self.items c.args.back.now.others.items c.in-Some-pop.other
    c.in-Some-pop.ensures.items c.requires.others in
    let fresh = popped (λ p. calls p ≡ []) c.pop.new.self.items c.args.back.now.passes.items c.in-Some.pass c.in-Some.ensures.items
    c.requires.fresh.0 in
    let fresh_others = popped (λ p. calls p ≡ []) c.pop-2.new.self.items c.args.back.now.others.items c.in-Some-pop.other
    c.in-Some-pop.ensures.items c.requires.fresh.1 in
    let fewer = length-last c.pop.new.self.items c.args.back.now.passes.items c.in-Some.pass c.in-Some.ensures.items in
    let fewer_others = length-last c.pop-2.new.self.items c.args.back.now.others.items c.in-Some-pop.other c.in-Some-pop.ensures.items in
    let more = length-last c.in-Ok.jobs.items c.push_reserved.new.self.items _ c.push_reserved.ensures.items in
    let others = longer_sum (λ j. others_in j.worker.task) c.in-Ok.jobs.items c.push_reserved.new.self.items _
    c.push_reserved.ensures.items in
    let none = ap length c.in-Ok.ensures.items in
    let none_of = ap (sum_by (λ j. others_in j.worker.task)) c.in-Ok.ensures.items in
    let many = c.requires.count.0 in let one = c.requires.count.1 in
    record {
      home = here.0;
      others = no_length c.pop-2.new.self.items (omega (arith, one, fewer_others));
      can_run = first_pushed (λ j. IsOf (home_of j.desks.now.first) (home_of j.desks.now.second) j.worker) c.in-Ok.jobs.items
          c.push_reserved.new.self.items _
          c.in-Ok.ensures.items c.push_reserved.ensures.items (record { pass = here.1; task = there.1 });
      hired = first_pushed (λ j. IsOf a b j.worker) c.in-Ok.jobs.items c.push_reserved.new.self.items _
          c.in-Ok.ensures.items c.push_reserved.ensures.items (record { pass = here.1; task = there.1 });
      all = omega (arith, fewer, more, none);
      few = omega (arith, fewer, many);
      one = omega (arith, others, none_of);
      room = omega (arith, c.len.ensures, c.in-Ok.ensures.capacity, c.push_reserved.ensures.capacity, c.args.back.now.passes.ok.0);
      passes_room = omega (arith, c.pop.ensures.capacity, c.args.back.now.passes.ok.0, c.args.back.now.passes.ok.1);
      others_room = omega (arith, c.pop-2.ensures.capacity, c.args.back.now.others.ok.0, c.args.back.now.others.ok.1, one);
      fresh = fresh.0;
      ready = first_pushed (λ j. IsReady c.args.sizes (plain j.worker)) c.in-Ok.jobs.items c.push_reserved.new.self.items _
          c.in-Ok.ensures.items c.push_reserved.ensures.items
          (record {
            turns = refl;
            task = (
              omega (arith, c.len-2.ensures, c.pop.new.self.ok.0, fewer, many),
              fresh.1,
              fresh_others.1,
              refl,
            );
            idle = refl;
          });
      numbered = one_numbered (λ j. j.worker.index) c.in-Ok.jobs.items c.push_reserved.new.self.items _ (length c.pop.new.self.items)
          (length c.args.back.now.passes.items)
          c.in-Ok.ensures.items c.push_reserved.ensures.items fewer (omega (arith, c.len-2.ensures, c.pop.new.self.ok.0));
      gates = first_pushed (λ j. j.gate.now ≡ c.args.gate.now) c.in-Ok.jobs.items c.push_reserved.new.self.items _ c.in-Ok.ensures.items
          c.push_reserved.ensures.items refl;
      followers = refl;
    }

-- one job more
pub loop-pass-preserved : goal.loop-pass-preserved
loop-pass-preserved g c = let i = c.loop-pass.invariant in let a = home_of c.args.desks.now.first in let b =
    home_of c.args.desks.now.second in
    let here = popped (λ p. IsAtHome a p) c.pop-in-loop-pass.new.self.items c.loop-pass.back.passes.items c.in-Some-pop-2.pass
    c.in-Some-pop-2.ensures.items i.home in
    let fresh = popped (λ p. calls p ≡ []) c.pop-in-loop-pass.new.self.items c.loop-pass.back.passes.items c.in-Some-pop-2.pass
    c.in-Some-pop-2.ensures.items i.fresh in
    let fewer = length-last c.pop-in-loop-pass.new.self.items c.loop-pass.back.passes.items c.in-Some-pop-2.pass
    c.in-Some-pop-2.ensures.items in
    let more = length-last c.loop-pass.jobs.items c.push_reserved-in-Some-pop-2.new.self.items _
    c.push_reserved-in-Some-pop-2.ensures.items in
    let sum = longer_sum (λ j. others_in j.worker.task) c.loop-pass.jobs.items c.push_reserved-in-Some-pop-2.new.self.items _
    c.push_reserved-in-Some-pop-2.ensures.items in
    let all = i.all in let few = i.few in let one = i.one in let room = i.room in let passes_room = i.passes_room in
    let none = c.in_ok-task.ensures.none in let kept = c.push_reserved-in-Some-pop-2.ensures.capacity in let left =
    c.pop-in-loop-pass.ensures.capacity in
    record {
      home = here.0;
      others = i.others;
      can_run = pushed (λ j. IsOf (home_of j.desks.now.first) (home_of j.desks.now.second) j.worker) c.loop-pass.jobs.items
          c.push_reserved-in-Some-pop-2.new.self.items _
          c.push_reserved-in-Some-pop-2.ensures.items i.can_run (record { pass = here.1; task = c.in_ok-task.ensures.task b });
      hired = pushed (λ j. IsOf a b j.worker) c.loop-pass.jobs.items c.push_reserved-in-Some-pop-2.new.self.items _
          c.push_reserved-in-Some-pop-2.ensures.items i.hired (record { pass = here.1; task = c.in_ok-task.ensures.task b });
      all = omega (arith, all, fewer, more);
      few = omega (arith, few, fewer);
      one = omega (arith, one, sum, none);
      room = omega (arith, room, kept);
      passes_room = omega (arith, passes_room, left);
      others_room = i.others_room;
      fresh = fresh.0;
      ready = pushed (λ j. IsReady c.args.sizes (plain j.worker)) c.loop-pass.jobs.items c.push_reserved-in-Some-pop-2.new.self.items _
          c.push_reserved-in-Some-pop-2.ensures.items i.ready
          (record {
            turns = refl;
            task = task_ready c.args.sizes _ c.in-Some-pop-2.pass c.in_ok-task.task fresh.1 c.in_ok-task.ensures.ready;
            idle = refl;
          });
      numbered = more_numbered (λ j. j.worker.index) c.loop-pass.jobs.items c.push_reserved-in-Some-pop-2.new.self.items _
          (length c.pop-in-loop-pass.new.self.items) (length c.loop-pass.back.passes.items)
          (length c.args.back.now.passes.items) c.push_reserved-in-Some-pop-2.ensures.items fewer i.numbered
          (omega (arith, c.len-index.ensures, c.pop-in-loop-pass.new.self.ok.0));
      gates = pushed (λ j. j.gate.now ≡ c.args.gate.now) c.loop-pass.jobs.items c.push_reserved-in-Some-pop-2.new.self.items _
          c.push_reserved-in-Some-pop-2.ensures.items i.gates refl;
      followers = i.followers;
    }

pub push_reserved-requires-in-Some-pop-2 : goal.push_reserved-requires-in-Some-pop-2
push_reserved-requires-in-Some-pop-2 g c = let i = c.loop-pass.invariant in
    let fewer = length-last c.pop-in-loop-pass.new.self.items c.loop-pass.back.passes.items c.in-Some-pop-2.pass
    c.in-Some-pop-2.ensures.items in
    let all = i.all in let room = i.room in
    omega (arith, all, fewer, room, c.loop-pass.jobs.ok.0)

pub loop-pass-smaller : goal.loop-pass-smaller
loop-pass-smaller g c =
    let fewer = length-last c.pop-in-loop-pass.new.self.items c.loop-pass.back.passes.items c.in-Some-pop-2.pass
    c.in-Some-pop-2.ensures.items in
    omega (arith, fewer)

-- the jobs of all, once no pass is left
pub returns-clause-can_run : goal.returns-clause-can_run
returns-clause-can_run g c = c.loop-pass.invariant.can_run

pub returns-clause-of_desks : goal.returns-clause-of_desks
returns-clause-of_desks g c = c.loop-pass.invariant.hired

pub returns-clause-one : goal.returns-clause-one
returns-clause-one g c = c.loop-pass.invariant.one

pub returns-clause-all : goal.returns-clause-all
returns-clause-all g c = let all = c.loop-pass.invariant.all in omega (arith, all, c.in_default-pop-3.ensures.cases.0)

pub returns-clause-taken : goal.returns-clause-taken
returns-clause-taken g c = (
  no_length c.pop-in-loop-pass.new.self.items (omega (arith, c.in_default-pop-3.ensures.cases.1, c.pop-in-loop-pass.new.self.ok.0)),
  c.loop-pass.invariant.others,
  ap (λ v. v.items) c.loop-pass.invariant.followers ∙ c.requires.none,
)

pub returns-clause-room : goal.returns-clause-room
returns-clause-room g c = let room = c.loop-pass.invariant.passes_room in
    (omega (arith, room, c.pop-in-loop-pass.ensures.capacity), c.loop-pass.invariant.others_room)

-- the lists of passes keep their room where no job can be made
pub returns-in_default-clause-room : goal.returns-in_default-clause-room
returns-in_default-clause-room g c = let passes = c.args.back.now.passes.ok in let others = c.args.back.now.others.ok in let one =
    c.requires.count.1 in
    (omega (arith, passes.0, passes.1), omega (arith, others.0, others.1, one))

pub returns-in_err-task-clause-room : goal.returns-in_err-task-clause-room
returns-in_err-task-clause-room g c = let room = c.loop-pass.invariant.passes_room in
    (omega (arith, room, c.pop-in-loop-pass.ensures.capacity), c.loop-pass.invariant.others_room)

pub returns-clause-ready : goal.returns-clause-ready
returns-clause-ready g c = c.loop-pass.invariant.ready

pub returns-clause-gates : goal.returns-clause-gates
returns-clause-gates g c = c.loop-pass.invariant.gates

pub returns-clause-numbered : goal.returns-clause-numbered
returns-clause-numbered g c = let all = c.loop-pass.invariant.all in
    all_numbered (λ j. j.worker.index) c.loop-pass.jobs.items (length c.loop-pass.back.passes.items) (length c.args.back.now.passes.items)
    (omega (arith, c.in_default-pop-3.ensures.cases.0)) all c.loop-pass.invariant.numbered

-- why none are hired
pub returns-in_err-task-clause-cause : goal.returns-in_err-task-clause-cause
returns-in_err-task-clause-cause g c =
    out_of_memory (λ fault. fault ≡ NoRoom) c.from_residual.result c.in_err-task.field-0.0 c.from_residual.ensures.1
    c.in_err-task.ensures.cause refl
