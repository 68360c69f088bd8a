-- The effect of a pass's calls on what it has seen.
use Rattle.std.specs.Prelude.{◌≡◌, ◌⊎◌, ℕ, ◌+◌, ◌^◌, ◌≤◌, List, [], ◌∷◌, ◌++◌, length}
use Rattle.history.specs.declared.entry.Entry.{Entry}
use Rattle.history.specs.History.{entry}
use Rattle.desk.specs.declared.fault.DeskFault.{DeskFault}
use Rattle.desk.specs.declared.fault.DeskFault.TheVariants.{Worn}
use Rattle.ds_machine.specs.declared.command.Command.{Command}
use Rattle.ds_machine.specs.declared.reply.Reply.{Reply}
use Rattle.ds_machine.specs.declared.reply.Reply.TheVariants.{Refused}
use Rattle.desk_store.specs.Record.{HasJustItsCalls, HasLegalHistory, PassRecord, place_after}

-- Whether q is the pass p later, which may have seen more, and made exactly these calls. Either it is unchanged, or its entries in the
-- history are exactly its calls.
pub record Made (p q : PassRecord) (own : List (Entry Command Reply)) : Type 0 where
  pub same : q.origin ≡ p.origin
  pub same_opening : q.opened ≡ p.opened
  pub between : List (Entry Command Reply)
  pub seen : q.history ≡ p.history ++ between
  pub longer : length own ≤ length between
  pub calls_are : q.calls ≡ p.calls ++ own
  pub turned : List (List (Entry Command Reply))
  pub turns_are : q.turns ≡ p.turns ++ turned
  -- each of the calls in a turn of its own
  pub apart : length own ≤ length turned
  pub just : (q ≡ p) ⊎ HasJustItsCalls q

-- Whether q is the pass p after one more call. The call got this reply at this place, and is the last one that q has seen.
pub record MadeCall (p q : PassRecord) (command : Command) (reply : Reply) (place : ℕ) : Type 0 where
  pub made : Made p q (entry p.origin.number command reply ∷ [])
  pub between : List (Entry Command Reply)
  pub ends : q.history ≡ (p.history ++ between) ++ entry p.origin.number command reply ∷ []
  pub turned : List (List (Entry Command Reply))
  pub turns_end : q.turns ≡ (p.turns ++ turned) ++ (entry p.origin.number command reply ∷ []) ∷ []
  pub at : place ≡ p.origin.first + length (p.turns ++ turned)
  pub legal : HasLegalHistory q

-- Whether the reply isn't a refusal.
abbrev pub IsAccepted : Reply → Type 0
IsAccepted (Refused refusal) = ⊥
IsAccepted _ = Unit {0}

-- Whether one of the calls that the pass made from p to q wasn't refused.
pub record HadAccepted (p q : PassRecord) : Type 0 where
  pub front : List (Entry Command Reply)
  pub call : Entry Command Reply
  pub back : List (Entry Command Reply)
  pub made : Made p q (front ++ call ∷ back)
  pub accepted : IsAccepted call.reply

-- Whether q is the pass p after a call that failed, because no place below 2 ^ 62 is left.
pub record FoundWorn (p q : PassRecord) (fault : DeskFault) : Type 0 where
  pub fault_is : fault ≡ Worn
  pub made : Made p q []
  pub full : place_after q ≡ 2 ^ 62
