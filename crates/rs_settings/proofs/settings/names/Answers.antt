use Rattle.std.proofs.Common.{sym, subst, arith}
use Rattle.ds_names.specs.Name.{IsName}
use Rattle.rs_settings.specs.Draft.{text_in_value}
use Rattle.rs_settings.proofs.TableLemmas.{each-at}
use Rattle.rs_settings.proofs.settings.names.Goals as goal

pub name_of-requires : goal.name_of-requires
name_of-requires c = subst IsName (sym c.text_of.ensures)
    (each-at IsName text_in_value c.args.items.now c.loop-item.item-index c.item-item.result c.requires (omega arith) c.item-item.is)
