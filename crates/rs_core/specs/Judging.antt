-- The faults against an event, in the one order of refusals.
use Rattle.std.specs.Prelude.{ℕ, ◌^◌, Bool, true, false, not, ◌&&◌, nat_le, nat_lt}
use Rattle.std.specs.Prelude.{List, [], ◌∷◌, Option, Some, None, Result, Ok, Err, if◌then◌else◌}
use Rattle.std.specs.List.{find}
use Rattle.rs_core.specs.declared.event.Event.{Event}
use Rattle.rs_core.specs.declared.event.Event.TheVariants as events
use Rattle.rs_core.specs.declared.fault.RsFault.{RsFault}
use Rattle.rs_core.specs.declared.fault.RsFault.TheVariants.{TickBack, Worn, UnknownLabel, BadCause, AlreadyUp, NotUp}
use Rattle.rs_core.specs.declared.fault.RsFault.TheVariants.{OldEndpoint, GenerationsSpent, NoSlot, NoRoom}
use Rattle.rs_core.specs.declared.deed.Deed.{Deed}
use Rattle.rs_core.specs.declared.deed.Deed.TheVariants.{Begin, Resume, Replace, Forget, Hear}
use Rattle.rs_core.specs.declared.deed.Task.{Task}
use Rattle.rs_core.specs.State.{RsRecord, up_count}
use Rattle.rs_core.specs.Machine.{asked}

-- The one order.
abbrev pub order : List RsFault
order = TickBack ∷ Worn ∷ UnknownLabel ∷ BadCause ∷ AlreadyUp ∷ NotUp ∷ OldEndpoint ∷ GenerationsSpent ∷ NoSlot ∷ []

-- Whether the event is a death of a cause other than 1 to 6.
abbrev pub is_bad_cause : Event → Bool
is_bad_cause (events.Death endpoint cause) = not (nat_le 1 cause && nat_le cause 6)
is_bad_cause _ = false

-- Whether the deed takes a generation.
abbrev pub takes_generation : Deed → Bool
takes_generation Begin = true
takes_generation Resume = true
takes_generation Replace = true
takes_generation _ = false

-- Whether the deed takes a slot and frees none.
abbrev pub takes_slot : Deed → Bool
takes_slot Begin = true
takes_slot Resume = true
takes_slot _ = false

-- Whether the deed has actions, and so takes memory for their list.
abbrev pub has_actions : Deed → Bool
has_actions Forget = false
has_actions Hear = false
has_actions _ = true

-- Whether the event calls for a deed that passes the test.
abbrev pub asks : (Deed → Bool) → Result (Option Task) RsFault → Bool
asks test (Ok (Some p)) = test p.deed
asks test (Ok None) = false
asks test (Err fault) = false

-- Whether the table answers with this fault.
abbrev pub names_unknown : Result (Option Task) RsFault → Bool
names_unknown (Err UnknownLabel) = true
names_unknown _ = false

abbrev pub names_already_up : Result (Option Task) RsFault → Bool
names_already_up (Err AlreadyUp) = true
names_already_up _ = false

abbrev pub names_not_up : Result (Option Task) RsFault → Bool
names_not_up (Err NotUp) = true
names_not_up _ = false

abbrev pub names_old : Result (Option Task) RsFault → Bool
names_old (Err OldEndpoint) = true
names_old _ = false

-- Whether as many services are up as there are slots.
abbrev pub is_full : RsRecord → Bool
is_full s = nat_le s.settings.slots (up_count s.states)

-- Whether the fault applies to the event.
abbrev pub against : RsRecord → Event → ℕ → RsFault → Bool
against s event tick TickBack = nat_lt tick s.tick
against s event tick Worn = nat_lt (2 ^ 62) tick
against s event tick UnknownLabel = names_unknown (asked s event tick)
against s event tick BadCause = is_bad_cause event
against s event tick AlreadyUp = names_already_up (asked s event tick)
against s event tick NotUp = names_not_up (asked s event tick)
against s event tick OldEndpoint = names_old (asked s event tick)
against s event tick GenerationsSpent = asks takes_generation (asked s event tick) && nat_lt 2097151 s.next
against s event tick NoSlot = asks takes_slot (asked s event tick) && is_full s
against s event tick NoRoom = false

-- What is missing for a deed.
abbrev pub lack_for : RsRecord → Deed → Option RsFault
lack_for s deed =
    if takes_generation deed && nat_lt 2097151 s.next then Some GenerationsSpent
    else if takes_slot deed && is_full s then Some NoSlot
    else None

-- The first fault, in the order, that applies to the event.
abbrev pub refusal : RsRecord → Event → ℕ → Option RsFault
refusal s event tick = find (against s event tick) order
