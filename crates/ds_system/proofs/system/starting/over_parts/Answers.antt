use Rattle.std.proofs.Common.{length, refl, ap, sym, subst, ◌∙◌}
use Rattle.std.proofs.lemmas.List.{length-replicate}
use Rattle.rs_core.specs.State.{RsRecord}
use Rattle.rs_core.specs.Numbering.{numberer}
use Rattle.ds_system.specs.Begin.{BeginsOver}
use Rattle.ds_system.specs.Stands.{SystemRecord}
use Rattle.ds_system.proofs.system.starting.over_parts.Goals as goal

pub joined-requires : goal.joined-requires
joined-requires c =
    ap length c.requires.numberers ∙ (length-replicate (length c.args.settings.services) (numberer 0 0) ∙
    sym (ap (λ (r : RsRecord). length r.settings.services) c.in_ok-rs.ensures))

pub returns : goal.returns
returns c =
    subst (λ (s : SystemRecord). BeginsOver c.args.settings c.args.next c.args.world s) (sym c.joined.ensures)
    record {
      checked = c.requires.checked;
      rs = c.in_ok-rs.ensures;
      numberers = c.requires.numberers;
      same = refl;
      file = c.requires.file;
      net = c.requires.net;
      made = refl;
    }
