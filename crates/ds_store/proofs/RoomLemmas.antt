-- Lack of memory isn't in the order of causes.
use Rattle.std.proofs.Common.{◌≡◌, ◌≢◌, Bool, true, false, cond, ◌||◌, List, [], ◌∷◌, ◌++◌, map, fold, Option, Some, None, refl, sym, ap}
use Rattle.std.proofs.Common.{◌∙◌}
use Rattle.std.proofs.lemmas.Option.{same_Some}
use Rattle.std.specs.List.{find, list_any}
use Rattle.std.specs.Option.{option_map_or}
use Rattle.ds_entry.specs.declared.item.Item.{Item}
use Rattle.ds_entry.specs.declared.item.Item.TheVariants.{Change as Changed, Floor as Floored}
use Rattle.ds_machine.specs.State.{State}
use Rattle.ds_machine.specs.Order.{by_command, by_version, by_room}
use Rattle.ds_machine.specs.Standing.{cause_of, standing_of, against_change, floor_standing_of, against_floor}
use Rattle.ds_machine.specs.Merging.{Course, begun, item_judged, item_merged, course}
use Rattle.ds_machine.specs.declared.refusal.Cause.{Cause}
use Rattle.ds_machine.specs.declared.refusal.Cause.TheVariants as causes
use Rattle.ds_machine.specs.declared.refusal.Refusal.{Refusal}
use Rattle.ds_machine.specs.declared.refusal.Refusal.TheVariants as refusals
use Rattle.ds_machine.specs.declared.command.Scope.TheVariants.{All, Under}
use Rattle.ds_store.specs.Last.{NoRoomIsNoCause, NoRoomIsNoRefusal, PatternMayLackRoom, BehindMayLackRoom}

-- what is found isn't one of those of which there are none
none_found : {X : Type 0} (p q : X → Bool) (xs : List X) (x : X) → list_any q xs ≡ false → find p xs ≡ Some x → q x ≡ false
none_found p q [] x n h = absurd (cc)
none_found p q (y ∷ ys) x n h = by_tests (p y) (q y) refl n h (none_found p q ys x)
  where
    by_tests : (b d : Bool) → q y ≡ d → d || list_any q ys ≡ false → cond b (Some y) (find p ys) ≡ Some x →
        (list_any q ys ≡ false → find p ys ≡ Some x → q x ≡ false) → q x ≡ false
    by_tests b true e m f rest = absurd (cc)
    by_tests true false e m f rest = ap q (sym (same_Some y x f)) ∙ e
    by_tests false false e m f rest = rest m f

abbrev is_no_room : Refusal → Bool
is_no_room refusals.NoRoom = true
is_no_room _ = false

abbrev wants_room : Cause → Bool
wants_room causes.Known = false
wants_room (causes.Refused refusal) = is_no_room refusal

pub no_cause : NoRoomIsNoCause
no_cause None stands e =
    let n : true ≡ false = none_found stands wants_room (map causes.Refused by_command ++ by_version None ++ map causes.Refused by_room)
    (causes.Refused refusals.NoRoom) refl e in
    cc
no_cause (Some v) stands e =
    let n : true ≡ false = none_found stands wants_room
    (map causes.Refused by_command ++ by_version (Some v) ++ map causes.Refused by_room) (causes.Refused refusals.NoRoom) refl e in
    cc

pub no_refusal : NoRoomIsNoRefusal
no_refusal stands e =
    let n : true ≡ false = none_found stands is_no_room (by_command ++ by_room) refusals.NoRoom refl e in
    cc

-- no item stops a merge for it
no_item : (s : State) (i : Item) → cause_of s i ≢ Some (causes.Refused refusals.NoRoom)
no_item s (Changed c) e = no_cause (Some c.version) (against_change (standing_of s c) c) e
no_item s (Floored f) e = no_cause None (against_floor (floor_standing_of s f) f) e

judged_on : (k : Course) (i : Item) (o : Option Cause) → o ≢ Some (causes.Refused refusals.NoRoom) → k.stop ≡ None →
    (item_judged k i o).stop ≢ Some refusals.NoRoom
judged_on k i None n e f = absurd (cc)
judged_on k i (Some causes.Known) n e f = absurd (cc)
judged_on k i (Some (causes.Refused refusal)) n e f = by_refusal refusal n f
  where
    by_refusal : (r : Refusal) → Some (causes.Refused r) ≢ Some (causes.Refused refusals.NoRoom) →
        (item_judged k i (Some (causes.Refused r))).stop ≡ Some refusals.NoRoom → ⊥
    by_refusal refusals.NoRoom n f = n refl
    by_refusal refusals.Stale n f = cc
    by_refusal r n f = cc

merged_on : (k : Course) (i : Item) → k.stop ≢ Some refusals.NoRoom → (item_merged k i).stop ≢ Some refusals.NoRoom
merged_on k i n = by_stop k.stop refl n
  where
    by_stop : (o : Option Refusal) → k.stop ≡ o → o ≢ Some refusals.NoRoom →
        (option_map_or (λ stop. k) o (item_judged k i (cause_of k.state i))).stop ≢ Some refusals.NoRoom
    by_stop None e n = judged_on k i (cause_of k.state i) (no_item k.state i) e
    by_stop (Some r) e n = λ f. n (sym e ∙ f)

course_on : (k : Course) (items : List Item) → k.stop ≢ Some refusals.NoRoom → (fold item_merged k items).stop ≢ Some refusals.NoRoom
course_on k [] n = n
course_on k (i ∷ items) n = course_on (item_merged k i) items (merged_on k i n)

pub no_course : (s : State) (items : List Item) → (course s items).stop ≢ Some refusals.NoRoom
no_course s items = course_on (begun s) items (λ e. cc)

-- ---- where a command with a scope may report it
pub pattern_may : PatternMayLackRoom
pattern_may All stands given e = absurd e
pattern_may (Under query) stands given e = e

front : (a b c : Bool) (rest : Option Refusal)
    → cond a (Some refusals.BadSub) (cond b (Some refusals.TooMany) (cond c (Some refusals.TooLong) rest)) ≡ None →
    cond a (Some refusals.BadSub) (cond b (Some refusals.TooMany) (cond c (Some refusals.TooLong) None)) ≡ None
front true b c rest e = absurd (cc)
front false true c rest e = absurd (cc)
front false false true rest e = absurd (cc)
front false false false rest e = refl

pub behind_may : BehindMayLackRoom
behind_may All stands given e some = (e, some)
behind_may (Under query) stands given e some = front (stands refusals.BadSub) (stands refusals.TooMany) (stands refusals.TooLong) _ e
