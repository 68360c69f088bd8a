use Rattle.std.proofs.Common.{[], Err, subst, arith}
use Rattle.ds_entry.specs.Change.{IsChange}
use Rattle.ds_line.specs.Spelling.{change_parts}
use Rattle.ds_line.specs.Reading.{ReadsChange}
use Rattle.ds_line.specs.declared.part_fault.PartFault.{PartFault}
use Rattle.ds_line.proofs.StepLemmas.{stops_at}
use Rattle.ds_line.proofs.LineLemmas.{rest_fits, no_line}
use Rattle.ds_line.proofs.reading.change_into.Goals as goal

pub overflow_sub-place : goal.overflow_sub-place
overflow_sub-place c =
    let k = subst (λ (s : PartFault). ReadsChange [] c.args.bytes.now (Err s)) c.in-Err-BadPart.field-0-is c.in-Err-BadPart.ensures in
    omega (arith, rest_fits c.args.bytes.now k.0 k.1, k.2)

pub returns-in-Err-BadPart : goal.returns-in-Err-BadPart
returns-in-Err-BadPart c =
    let k = subst (λ (s : PartFault). ReadsChange [] c.args.bytes.now (Err s)) c.in-Err-BadPart.field-0-is c.in-Err-BadPart.ensures in
    record {
      none = no_line c.args.bytes.now k.0 k.1;
      first =
          record {
            rest = k.0;
            stops = stops_at IsChange change_parts c.args.bytes.now k.0 k.1;
            begins =
                omega (arith, rest_fits c.args.bytes.now k.0 k.1, k.2);
          };
    }
