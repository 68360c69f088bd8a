use Rattle.std.proofs.Common.{◌≡◌, Ok, Err, IfErr, refl}
use Rattle.toml.specs.View.{table_view}
use Rattle.rs_settings.specs.Settings.{settings_in, TakesMemory, MayTakeMemory}
use Rattle.rs_settings.specs.declared.fault.SettingsCause.TheVariants.{NoRoom}
use Rattle.rs_settings.proofs.TableLemmas.{may-take}
use Rattle.rs_settings.proofs.settings.read.Goals as goal

pub returns-in-Ok-clause-memory : goal.returns-in-Ok-clause-memory
returns-in-Ok-clause-memory c =
    elim c.read_table.result as (λ r. IfErr r (λ f. f.cause ≡ NoRoom → TakesMemory (settings_in (table_view c.in-Ok.table))) →
    IfErr r (λ f. f.cause ≡ NoRoom → MayTakeMemory c.args.text.now)) [
      | Ok s ↦ λ h. tt
      | Err f ↦ λ h e. may-take settings_in c.args.text.now (table_view c.in-Ok.table) (λ takes. takes refl) c.in-Ok.ensures.document (h e)
    ] c.read_table.ensures.memory
