-- What a Subscribe and a Check meet, in the machine's terms.
use Rattle.std.specs.Prelude.{◌≡◌, ℕ, ◌<◌, ◌≤◌, Bool, ◌&&◌, cond, nat_le, Option, Some, None, is_some}
use Rattle.ds_pattern.specs.declared.query.Query.{Query}
use Rattle.ds_machine.specs.Calling as machine
use Rattle.ds_machine.specs.Order.{first_refusal}
use Rattle.ds_machine.specs.declared.refusal.Refusal.{Refusal}
use Rattle.ds_machine.specs.declared.refusal.Refusal.TheVariants.{Worn}
use Rattle.ds_store.specs.declared.subscribe.SubscribeCase.{SubscribeCase}
use Rattle.ds_store.specs.declared.check.CheckCase.{CheckCase}
use Rattle.ds_names.specs.Limits.{most_items, last_place}

-- A Subscribe with its query.
abbrev pub machine_subscribe : SubscribeCase → Query → machine.SubscribeCase
machine_subscribe x query = record {
  places = x.places;
  taken = x.taken;
  stamp = x.stamp;
  sub = x.sub;
  query = query;
  overwrite = x.overwrite;
}

-- A Check, with whether something is to be shown, and with the last stamp.
abbrev pub machine_check : CheckCase → Bool → ℕ → machine.CheckCase
machine_check x some stamp = record { places = x.places; taken = is_some x.last; some = some; stamp = stamp; sub = x.sub; max = x.max }

-- The first refusal of a Check, by whether something is to be shown and by the last stamp.
abbrev pub refusal_of_case : CheckCase → Bool → ℕ → Option Refusal
refusal_of_case x some stamp = first_refusal (machine.against_check (machine_check x some stamp))

-- The refusal to show something, if one applies.
abbrev pub refusal_of_showing : Bool → ℕ → Option Refusal
refusal_of_showing some stamp = cond (some && nat_le last_place stamp) (Some Worn) None

-- The subscription exists, with this stamp, and the Check asks for 1 to 256 items.
pub record IsCheckable (x : CheckCase) (stamp : ℕ) : Type 0 where
  pub place : x.sub < x.places
  pub some : 0 < x.max
  pub few : x.max ≤ most_items
  pub made : x.last ≡ Some stamp
