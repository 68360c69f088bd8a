-- What takes effect is news, and leaves a state within its limits.
use Rattle.std.proofs.Common.{◌≡◌, [], ◌∷◌, length, subst}
use Rattle.ds_entry.specs.declared.floor.Floor.{Floor}
use Rattle.ds_entry.specs.declared.item.Item.{Item}
use Rattle.ds_entry.specs.declared.item.Item.TheVariants.{Change as Changed, Floor as Floored}
use Rattle.ds_entry.specs.Change.{ChangeRecord}
use Rattle.ds_machine.specs.Parts.{changes_in, floors_in, floor_at, held_at}
use Rattle.ds_machine.specs.State.{State, held, takes_effect}
use Rattle.ds_machine.specs.Standing.{Standing, FloorStanding, standing_of, floor_standing_of, IsFree, IsFloorFree}
use Rattle.ds_machine.specs.Within.{IsWithin}
use Rattle.ds_machine.specs.Effect.{IsNews}
use Rattle.ds_machine.proofs.NewsLemmas.{news_change, news_floor}
use Rattle.ds_machine.proofs.CauseLemmas.{room_above}
use Rattle.ds_machine.proofs.WithinLemmas.{within_more}
use Rattle.ds_content.specs.Content.{ContentRecord}
use Rattle.ds_content.specs.Standing.{standing_in, floor_standing_in}
use Rattle.ds_content.specs.Stands.{ContentStands}
use Rattle.ds_entry.specs.Void.{is_void}

-- ---- what is there before an item is what is there in the state
pub standing_at : (v : ContentRecord) (s : State) (c : ChangeRecord) → ContentStands v s → standing_in v c ≡ standing_of s c
standing_at v s c stands =
    λ i. record {
      held = held_at (stands.held i) c.key;
      void = is_void (stands.held i) c;
      count = length (changes_in (stands.held i));
      most = (stands.limits i).keys;
      position = stands.journal.position i;
    }

pub floor_standing_at : (v : ContentRecord) (s : State) (f : Floor) → ContentStands v s → floor_standing_in v f ≡ floor_standing_of s f
floor_standing_at v s f stands =
    λ i. record
    { held = floor_at (stands.held i) f.owner; count = length (floors_in (stands.held i)); position = stands.journal.position i }

-- ---- what no cause applies to
pub record Enters (s : State) (i : Item) : Type 0 where
  pub news : IsNews s.feed.accepted i
  pub within : IsWithin (takes_effect s (i ∷ []))

pub change_enters : (v : ContentRecord) (s : State) (c : ChangeRecord) → ContentStands v s → IsFree (standing_in v c) c →
    Enters s (Changed c)
change_enters v s c stands free =
    let here : IsFree (standing_of s c) c = subst (λ (t : Standing). IsFree t c) (standing_at v s c stands) free in
    record {
      news = news_change s.feed.accepted stands.reached.owners c here.valid (length (changes_in (held s))) s.limits.keys here.room;
      within = within_more s stands.within (Changed c) here;
    }

pub floor_enters : (v : ContentRecord) (s : State) (f : Floor) → ContentStands v s → IsFloorFree (floor_standing_in v f) f →
    Enters s (Floored f)
floor_enters v s f stands free =
    let here : IsFloorFree (floor_standing_of s f) f =
    subst (λ (t : FloorStanding). IsFloorFree t f) (floor_standing_at v s f stands) free in
    record {
      news = news_floor s.feed.accepted stands.reached.owners f
          (room_above (floor_at (held s) f.owner) (length (floors_in (held s))) f here.room);
      within = within_more s stands.within (Floored f) here;
    }
