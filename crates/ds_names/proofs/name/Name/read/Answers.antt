use Rattle.std.proofs.Common.{length, [], ap, arith}
use Rattle.ds_names.proofs.NameBlockLemmas.{name_is_run, name_begins}
use Rattle.ds_names.proofs.name.Name.read.Goals as goal
use Rattle.ds_names.proofs.name.Name.read.Goals.{in_default-via-in-Some+else-bytes, in_default-via-in_default}

pub returns-in_default : goal.returns-in_default
returns-in_default c = λ is.
    let whole = name_is_run c.args.bytes.now c.args.bytes.now [] is (name_begins c.args.bytes.now) in
    elim c.in_default.branch [
      | in_default-via-in-Some+else-bytes w ↦ omega (
        arith,
        whole,
        name_is_run c.args.bytes.now _ _ w.in-Some.ensures.name w.in-Some.ensures.found,
        ap length w.bytes.ensures.value,
        w.if-bytes.false,
      )
      | in_default-via-in_default w ↦ w.in_default.ensures.none c.args.bytes.now [] is (name_begins c.args.bytes.now)
    ]
