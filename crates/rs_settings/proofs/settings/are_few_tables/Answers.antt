use Rattle.std.proofs.Common.{◌≡◌, arith, nat_le, false}
use Rattle.std.proofs.lemmas.Bool.Decides.{nat_tests}
use Rattle.rs_settings.proofs.TableLemmas.{few-yes, few-no}
use Rattle.rs_settings.proofs.settings.are_few_tables.Goals as goal

pub returns-then-len-le64-clause-value : goal.returns-then-len-le64-clause-value
returns-then-len-le64-clause-value c = rw (few-yes c.args.items.now.items (omega arith)) c.are_tables.ensures

pub returns-else-len-le64-clause-value : goal.returns-else-len-le64-clause-value
returns-else-len-le64-clause-value c =
    let e : nat_le c.len.result 64 ≡ false = grind (arith, nat_tests) in
    rw (few-no c.args.items.now.items (omega arith), e)
