-- Why a script ends by its reader or its writer.
use Rattle.std.proofs.Common.{◌≡◌, ℕ, ◌⊎◌, sym, subst, inl, inr}
use Rattle.ds_script.specs.declared.fault.ReplayFault.{ReplayFault}
use Rattle.ds_script.specs.declared.fault.ReplayFault.TheVariants.{BadLine, ReadFault, WriteFault, NoRoom}
use Rattle.line_io.specs.declared.streams.Source.{Ghosts as Reader}
use Rattle.line_io.specs.declared.streams.Sink.{Ghosts as Writer}
use Rattle.line_io.specs.Streams.{CallsLead, OnlyCalls, HasFailedWrite}
use Rattle.line_io.proofs.CallLemmas.{only_calls_on, failed_on}
use Rattle.ds_script.specs.Causes.{HasCause, HasWriteCause, HasTurnCause, SettlesFor}

-- a fault after writes that didn't fail
pub write_cause_on : {W : Type 0} (w : Writer W) (fault : ReplayFault) (from mid to : W) → OnlyCalls w.writes from mid →
    HasWriteCause w fault mid to → HasWriteCause w fault from to
write_cause_on w (BadLine number place expected) from mid to led h = only_calls_on w.writes from mid to led h
write_cause_on w ReadFault from mid to led h = absurd h
write_cause_on w WriteFault from mid to led h = failed_on w.writes w.fails from mid to led h
write_cause_on w NoRoom from mid to led h = only_calls_on w.writes from mid to led h

pub turn_cause_on : {R W : Type 0} (r : Reader R) (w : Writer W) (fault : ReplayFault) (old new : R) (from mid to : W) →
    OnlyCalls w.writes from mid → HasTurnCause r w fault old new mid to → HasTurnCause r w fault old new from to
turn_cause_on r w (BadLine number place expected) old new from mid to led h = only_calls_on w.writes from mid to led h
turn_cause_on r w ReadFault old new from mid to led h = (h.0, only_calls_on w.writes from mid to led h.1)
turn_cause_on r w WriteFault old new from mid to led h = failed_on w.writes w.fails from mid to led h
turn_cause_on r w NoRoom old new from mid to led h = only_calls_on w.writes from mid to led h

-- a fault of the lines that one read brought
pub turn_cause : {R W : Type 0} (r : Reader R) (w : Writer W) (fault : ReplayFault) (old new : R) (from to : W) →
    HasWriteCause w fault from to → HasTurnCause r w fault old new from to
turn_cause r w (BadLine number place expected) old new from to h = h
turn_cause r w ReadFault old new from to h = absurd h
turn_cause r w WriteFault old new from to h = h
turn_cause r w NoRoom old new from to h = h

-- The fault of a turn ends the script, after the reads and writes before it.
pub run_cause : {R W : Type 0} (r : Reader R) (w : Writer W) (fault : ReplayFault) (n : ℕ) (old mid new : R) (from at to : W) →
    CallsLead r.reads n old mid → OnlyCalls w.writes from at → HasTurnCause r w fault mid new at to
    → HasCause r w fault old new from to
run_cause r w (BadLine number place expected) n old mid new from at to led wrote h = only_calls_on w.writes from at to wrote h
run_cause r w ReadFault n old mid new from at to led wrote h = ((n, inl (mid, led, h.0)), only_calls_on w.writes from at to wrote h.1)
run_cause r w WriteFault n old mid new from at to led wrote h = failed_on w.writes w.fails from at to wrote h
run_cause r w NoRoom n old mid new from at to led wrote h = only_calls_on w.writes from at to wrote h

-- After the waiting answers are written, it is still the fault, or a write failed there.
either_cause : {R W : Type 0} (r : Reader R) (w : Writer W) (given fault : ReplayFault) (old new : R) (from mid to : W) →
    (OnlyCalls w.writes from to → HasCause r w fault old new from to) → OnlyCalls w.writes from mid
    → ((given ≡ fault) × OnlyCalls w.writes mid to) ⊎ ((given ≡ WriteFault) × HasFailedWrite w.writes w.fails mid to) →
    HasCause r w given old new from to
either_cause {R} {W} r w given fault old new from mid to still led s =
    elim s [
      | inl same ↦ subst (λ (f : ReplayFault). HasCause r w f old new from to) (sym same.0)
          (still (only_calls_on w.writes from mid to led same.1))
      | inr failed ↦ subst (λ (f : ReplayFault). HasCause r w f old new from to) (sym failed.0)
          (failed_on w.writes w.fails from mid to led failed.1)
    ]

pub settled_cause : {R W : Type 0} (r : Reader R) (w : Writer W) (given fault : ReplayFault) (old new : R) (from mid to : W) →
    HasCause r w fault old new from mid → SettlesFor w given fault mid to → HasCause r w given old new from to
settled_cause r w given (BadLine number place expected) old new from mid to c s =
    either_cause r w given (BadLine number place expected) old new from mid to (λ all. all) c s
settled_cause r w given ReadFault old new from mid to c s = either_cause r w given ReadFault old new from mid to (λ all. (c.0, all)) c.1 s
settled_cause {R} {W} r w given WriteFault old new from mid to c s =
    subst (λ (f : ReplayFault). HasCause r w f old new from to) (sym s.0)
    (subst (λ (x : W). HasFailedWrite w.writes w.fails from x) (sym s.1) c)
settled_cause r w given NoRoom old new from mid to c s = either_cause r w given NoRoom old new from mid to (λ all. all) c s
