use Rattle.std.proofs.Common.{◌≡◌, Some, subst}
use Rattle.std.specs.Prelude.{slice_get}
use Rattle.ds_entry.specs.declared.item.Item.{Item}
use Rattle.ds_held.specs.Held.{held_items}
use Rattle.ds_watch.specs.Masks.{shown_to}
use Rattle.ds_watch.specs.declared.masks.Masks.{Masks}
use Rattle.ds_content.specs.Kept.{masks_at}
use Rattle.ds_content.specs.Marking.{IsSet}
use Rattle.ds_content.proofs.RemarkLemmas.{set_is_remarked}
use Rattle.ds_content.proofs.content.marking.show_one.Goals as goal

pub returns-in-Some : goal.returns-in-Some
returns-in-Some c =
    set_is_remarked c.args.held.now c.set_masks.new.held c.args.index (shown_to c.args.sub) c.in-Some.masks
    (subst (λ h. (i : Item) → slice_get (held_items h.held) c.args.index ≡ Some i → Some c.in-Some.masks ≡ masks_at h i) c.marked.ensures
    c.in-Some.ensures.here)
    (subst (λ (m : Masks). IsSet c.args.held.now c.set_masks.new.held c.args.index m) c.shown_to.ensures c.set_masks.ensures)
