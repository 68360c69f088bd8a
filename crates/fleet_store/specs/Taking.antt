-- What becomes of items that were read.
use Rattle.std.specs.Prelude.{◌≡◌, ℕ, Bool, true, false, ◌||◌, List, [], ◌∷◌, ◌++◌, Result, Ok, Err, OnOk, is_err, bit_or}
use Rattle.history.specs.History.{Path}
use Rattle.ds_entry.specs.ItemCovers.{covers}
use Rattle.ds_entry.specs.declared.item.Item.{Item}
use Rattle.ds_entry.specs.declared.item.Item.TheVariants.{Change as Changed, Floor as Floored}
use Rattle.ds_join.specs.ItemTop.{IsTop}
use Rattle.ds_join.specs.declared.merge.Merge.{Merge}
use Rattle.ds_join.specs.declared.merge.JoinFault.{JoinFault}
use Rattle.ds_held.specs.Held.{Holding, held_items}
use Rattle.ds_held.specs.Merge.{MergeAnswer, IsMergeRefused, after_merge}
use Rattle.ds_held.specs.Raise.{RaiseAnswer, after_raise}
use Rattle.ds_machine.specs.Owed.{owed_by}
use Rattle.ds_machine.specs.declared.command.Command.TheVariants.{Merge as Merges}
use Rattle.ds_machine.specs.declared.reply.Reply.{Reply}
use Rattle.ds_machine.specs.declared.reply.Reply.TheVariants.{Merged}
use Rattle.ds_content.specs.Content.{ContentRecord}
use Rattle.ds_store.specs.Turns.{Turn}
use Rattle.fleet_rule.specs.Covered.{Joins, JoinsPart}
use Rattle.fleet_store.specs.declared.taking.Taken.{Taken}

-- A store and its dead letters while they take items.
pub record Taking : Type 0 where
  pub store : ContentRecord
  pub dead : Holding  -- the dead letters
  pub owed : ℕ  -- the subscriptions that are owed a notice, as a mask
  pub has_dropped : Bool  -- an item was refused by both

abbrev pub taking_begun : ContentRecord → Holding → Taking
taking_begun store dead = record { store = store; dead = dead; owed = 0; has_dropped = false }

abbrev pub taking_of : ContentRecord → Holding → Taken → Taking
taking_of store dead taken = record { store = store; dead = dead; owed = taken.owed; has_dropped = taken.has_dropped }

-- Everything that is held: by the store, then as dead letters.
abbrev pub held_with_dead : ContentRecord → Holding → List Item
held_with_dead store dead = store.held ++ held_items dead

-- The dead letters' answer to an item, which is lent to them.
abbrev pub IsDeadLetterAnswer : Holding → Item → Result Merge JoinFault → Type 0
IsDeadLetterAnswer dead (Changed c) (Ok merge) = MergeAnswer dead c (Ok merge)
IsDeadLetterAnswer dead (Changed c) (Err fault) = IsMergeRefused dead c fault
IsDeadLetterAnswer dead (Floored f) answer = RaiseAnswer dead f answer

-- The dead letters after the answer.
abbrev pub after_answer : Holding → Item → Result Merge JoinFault → Holding
after_answer dead (Changed c) answer = after_merge dead c answer
after_answer dead (Floored f) answer = after_raise dead f answer

-- Whether the item was left to the dead letters, and dropped if they refused it.
pub record IsDeadLetter (old : Holding) (i : Item) (dropped : Bool) (new : Holding) : Type 0 where
  pub answer : Result Merge JoinFault
  pub answered : IsDeadLetterAnswer old i answer
  pub after : new ≡ after_answer old i answer
  pub joined : OnOk answer (IsTop (held_items new) (held_items old ++ i ∷ []))
  pub dropped_is : dropped ≡ is_err answer

-- Whether the reply is that of a whole merge.
abbrev pub is_merged : Reply → Bool
is_merged (Merged done taken stale owed) = true
is_merged _ = false

-- Whether an item is left to the dead letters unless the store merged it.
abbrev pub IsDeadLetterUnless : Bool → Holding → Item → Bool → Holding → Type 0
IsDeadLetterUnless true old i dropped new = (new ≡ old) × (dropped ≡ false)
IsDeadLetterUnless false old i dropped new = IsDeadLetter old i dropped new

-- Whether the store merged the item, or the dead letters got it.
pub record TakesItem (old : Taking) (i : Item) (new : Taking) : Type 0 where
  pub reply : Reply
  pub turn : Turn old.store (Merges (i ∷ [])) reply new.store
  pub dropped : Bool
  pub left : IsDeadLetterUnless (is_merged reply) old.dead i dropped new.dead
  pub owed_is : new.owed ≡ bit_or old.owed (owed_by reply)
  pub dropped_is : new.has_dropped ≡ (old.has_dropped || dropped)

-- A law: if no item was dropped, all are joined.
abbrev pub TakenAreJoined : Type 0
TakenAreJoined =
    (old new : Taking) (items : List Item) → Path TakesItem old items new → new.has_dropped ≡ false →
    Joins covers (held_with_dead new.store new.dead) (held_with_dead old.store old.dead) items

-- A law: otherwise nothing else is held, and all that was held is still covered.
abbrev pub TakenAreJoinedInPart : Type 0
TakenAreJoinedInPart =
    (old new : Taking) (items : List Item) → Path TakesItem old items new →
    JoinsPart covers (held_with_dead new.store new.dead) (held_with_dead old.store old.dead) items
