-- What a noted input changes of what a label is to run, and of its leader.
use Rattle.std.proofs.Common.{◌≡◌, ◌&&◌, ℕ, Bool, true, not, is_some, cond, Option, Some, None, refl, sym, ap, ◌∙◌}
use Rattle.std.proofs.lemmas.Bool.{and_parts, false≢true}
use Rattle.std.proofs.lemmas.Option.{none-some}
use Rattle.process_keeper.specs.Following.{wanted, pending_or_up, up_generation}
use Rattle.process_keeper.specs.Inputs.{after_input, after_scan, is_accepted, is_stopping, is_by, is_due_by, with_leader, with_deadline}
use Rattle.process_keeper.specs.declared.input.Input.{Input}
use Rattle.process_keeper.specs.declared.input.Input.TheVariants.{Started, Cancelled, Stopped, Shortened, Begun, Failed, Exited, Changed}
use Rattle.process_keeper.specs.declared.input.Input.TheVariants.{Asked, Killed, Scanned, Reported, Reaped, Cleared}
use Rattle.process_keeper.specs.declared.instance.Instance.{Instance}
use Rattle.process_keeper.specs.declared.lifecycle.Lifecycle.{Lifecycle}
use Rattle.process_keeper.specs.declared.scan.Scan.{Scan}
use Rattle.process_keeper.specs.declared.scan.Scan.TheVariants.{Nothing, Dying, Living}
use Rattle.process_keeper.proofs.FollowLemmas.{stopped_not_up}
use Rattle.supervisor.specs.Following.{is_note}
use Rattle.supervisor.proofs.FollowLemmas.{IsAlone, KeepsLeader, stopped_keeps, stopped_not_running}

-- ---- what the label is to run
led_is_up : (o : Option ℕ) (n : ℕ) (i : Option Instance) → is_some o ≡ true → up_generation (with_leader o n) ≡ pending_or_up o i
led_is_up None n i e = absurd (false≢true e)
led_is_up (Some g) n i e = refl

stopping_not_up : (o : Option Instance) → is_stopping o ≡ true → up_generation o ≡ None
stopping_not_up None e = absurd (false≢true e)
stopping_not_up (Some b) e = ap (λ (x : Bool). cond x None (Some b.generation)) e

by_stopping : (o : Option ℕ) (i j : Option Instance) → up_generation i ≡ None → up_generation j ≡ None →
    pending_or_up o i ≡ pending_or_up o j
by_stopping None i j e f = e ∙ sym f
by_stopping (Some g) i j e f = refl

due_is_stopping : (at : ℕ) (o : Option Instance) → is_due_by at o ≡ true → is_stopping o ≡ true
due_is_stopping at None e = absurd (false≢true e)
due_is_stopping at (Some b) e = by_deadline b.deadline e
  where
    by_deadline : (d : Option ℕ) → is_by at d ≡ true → is_some d ≡ true
    by_deadline None e = absurd (false≢true e)
    by_deadline (Some t) e = refl

scan_wants : (p : Lifecycle) (found : Scan) → wanted (after_scan p found) ≡ wanted p
scan_wants p Nothing = refl
scan_wants p Dying = refl
scan_wants p Living = refl

pub note_wants : (p : Lifecycle) (input : Input) → is_note input ≡ true → is_accepted p input ≡ true →
    wanted (after_input p input) ≡ wanted p
note_wants p (Started g) n a = absurd (false≢true n)
note_wants p Cancelled n a = absurd (false≢true n)
note_wants p (Stopped at) n a = absurd (false≢true n)
note_wants p (Shortened at) n a =
    by_stopping p.pending (with_deadline p.instance at) p.instance (stopped_not_up p.instance at)
    (stopping_not_up p.instance (due_is_stopping at p.instance a))
note_wants p (Begun m) n a = led_is_up p.pending m p.instance (and_parts (is_some p.pending) (not (is_some p.instance) && p.is_clean) a).0
note_wants p (Failed now) n a = refl
note_wants p Exited n a = refl
note_wants p Changed n a = refl
note_wants p Asked n a = refl
note_wants p Killed n a = refl
note_wants p (Scanned found) n a = scan_wants p found
note_wants p (Reported now) n a = absurd (false≢true n)
note_wants p Reaped n a =
    by_stopping p.pending None p.instance refl
    (stopping_not_up p.instance (and_parts (is_stopping p.instance) (p.has_exited && (p.is_scanned && p.is_empty)) a).0)
note_wants p Cleared n a = refl

scan_alone : (p : Lifecycle) (found : Scan) → IsAlone p → IsAlone (after_scan p found)
scan_alone p Nothing h = h
scan_alone p Dying h = h
scan_alone p Living h = h

pub note_alone : (p : Lifecycle) (input : Input) → is_note input ≡ true → IsAlone p → IsAlone (after_input p input)
note_alone p (Started g) n h = absurd (false≢true n)
note_alone p Cancelled n h = absurd (false≢true n)
note_alone p (Stopped at) n h = absurd (false≢true n)
note_alone p (Shortened at) n h = λ e. stopped_not_running p.instance at
note_alone p (Begun m) n h = λ e. absurd (false≢true e)
note_alone p (Failed now) n h = h
note_alone p Exited n h = h
note_alone p Changed n h = h
note_alone p Asked n h = h
note_alone p Killed n h = h
note_alone p (Scanned found) n h = scan_alone p found h
note_alone p (Reported now) n h = absurd (false≢true n)
note_alone p Reaped n h = λ e. refl
note_alone p Cleared n h = h

pub report_alone : (p : Lifecycle) (now : ℕ) → IsAlone (after_input p (Reported now))
report_alone p now = λ e. stopped_not_running p.instance now

-- ---- its leader
no_leader : (o : Option Instance) (i : Instance) → not (is_some o) ≡ true → o ≡ Some i → ⊥
no_leader None i n e = none-some i e
no_leader (Some b) i n e = false≢true n

scan_keeps : (p : Lifecycle) (found : Scan) → KeepsLeader p (after_scan p found)
scan_keeps p Nothing = λ i e. (i, e, refl, refl)
scan_keeps p Dying = λ i e. (i, e, refl, refl)
scan_keeps p Living = λ i e. (i, e, refl, refl)

pub input_keeps : (p : Lifecycle) (input : Input) → is_accepted p input ≡ true → (input ≡ Reaped → ⊥) → KeepsLeader p (after_input p input)
input_keeps p (Started g) a n = λ i e. (i, e, refl, refl)
input_keeps p Cancelled a n = λ i e. (i, e, refl, refl)
input_keeps p (Stopped at) a n = λ i e. stopped_keeps p.instance at i e
input_keeps p (Shortened at) a n = λ i e. stopped_keeps p.instance at i e
input_keeps p (Begun m) a n = λ i e.
    absurd (no_leader p.instance i (and_parts (not (is_some p.instance)) p.is_clean
    (and_parts (is_some p.pending) (not (is_some p.instance) && p.is_clean) a).1).0 e)
input_keeps p (Failed now) a n = λ i e. (i, e, refl, refl)
input_keeps p Exited a n = λ i e. (i, e, refl, refl)
input_keeps p Changed a n = λ i e. (i, e, refl, refl)
input_keeps p Asked a n = λ i e. (i, e, refl, refl)
input_keeps p Killed a n = λ i e. (i, e, refl, refl)
input_keeps p (Scanned found) a n = scan_keeps p found
input_keeps p (Reported now) a n = λ i e. stopped_keeps p.instance now i e
input_keeps p Reaped a n = absurd (n refl)
input_keeps p Cleared a n = λ i e. (i, e, refl, refl)
