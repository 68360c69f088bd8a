use Rattle.std.proofs.Common.{arith}
use Rattle.std.proofs.lemmas.Result.{err_from_is_err_and}
use Rattle.ds_live.specs.Homes.{home_of}
use Rattle.ds_live.specs.Workers.{plain}
use Rattle.ds_live.proofs.WorkerLemmas.{back_again, ended_by_label, ended_by_turn, through_more, turns_more}
use Rattle.ds_live.proofs.worker.Worker+Pass+Box+Store.take_turns.Goals as goal

pub loop-turn-init : goal.loop-turn-init
loop-turn-init g c = record {
  back = c.begin.ensures.back;
  took = c.in_ok-begin.ensures.begun;
  through = tt;
  few = omega arith;
}

pub begin-requires : goal.begin-requires
begin-requires g c = (home_of c.args.second.now, c.requires)

pub returns-in_err-begin-clause-fault : goal.returns-in_err-begin-clause-fault
returns-in_err-begin-clause-fault g c =
    let exit = err_from_is_err_and c.from_residual.result c.from_residual.ensures.1 in
    rw (exit.1, exit.2) (ended_by_label (g.G.Gate.answers c.args.gate.now) (plain c.args.self.now) (plain c.begin.new.self)
    c.in_err-begin.field-0.0 c.in_err-begin.ensures.fault)

pub turn-requires : goal.turn-requires
turn-requires g c = c.loop-turn.invariant.back.still (home_of c.args.first.now) (home_of c.args.second.now) c.requires

pub loop-turn-preserved : goal.loop-turn-preserved
loop-turn-preserved g c = let s = c.args.self.now in let l = c.loop-turn in let i = l.invariant in record {
  back = back_again s l.self c.turn.new.self i.back c.turn.ensures.back;
  took = turns_more (plain s) (plain l.self) (plain c.turn.new.self) l.turn i.back.same_index i.took c.in_ok-turn.ensures.taken;
  through = through_more (g.G.Gate.answers c.args.gate.now) s.index l.self.index l.turn i.back.same_index i.through
      c.in_ok-pass_gate.ensures.passed;
  few = omega (arith, c.loop-turn-test.true);
}

pub returns-in_err-turn-clause-back : goal.returns-in_err-turn-clause-back
returns-in_err-turn-clause-back g c = back_again c.args.self.now c.loop-turn.self c.turn.new.self c.loop-turn.invariant.back
    c.turn.ensures.back

pub returns-in_err-turn-clause-fault : goal.returns-in_err-turn-clause-fault
returns-in_err-turn-clause-fault g c =
    let exit = err_from_is_err_and c.from_residual-in_err-turn.result c.from_residual-in_err-turn.ensures.1 in
    let s = c.args.self.now in let l = c.loop-turn in let i = l.invariant in
    rw (exit.1, exit.2)
    (ended_by_turn (g.G.Gate.answers c.args.gate.now) (plain s) (plain l.self) (plain c.turn.new.self) l.turn c.in_err-turn.field-0.0
    (omega (arith, c.loop-turn-test.true)) i.took i.back.same_index
    c.in_err-turn.ensures.fault)
