use Rattle.ds_live.proofs.worker.Worker+Pass+Box+Store.work.Goals as goal

-- it keeps how its turns ended beside all else
pub returns-in-Ok : goal.returns-in-Ok
returns-in-Ok g c = let back = c.take_turns.ensures.back in record {
  back = record {
    same_index = back.same_index;
    same_turns = back.same_turns;
    same_others = back.same_others;
    called = back.called;
    still = λ first second is. (let of = back.still first second is in record { pass = of.pass; task = of.task });
  };
  ended = c.in-Ok.ensures.took;
}

pub returns-in-Err : goal.returns-in-Err
returns-in-Err g c = let back = c.take_turns.ensures.back in record {
  back = record {
    same_index = back.same_index;
    same_turns = back.same_turns;
    same_others = back.same_others;
    called = back.called;
    still = λ first second is. (let of = back.still first second is in record { pass = of.pass; task = of.task });
  };
  ended = c.in-Err.ensures.fault;
}
