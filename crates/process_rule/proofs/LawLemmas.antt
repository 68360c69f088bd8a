-- The laws of reachable hosts.
use Rattle.std.proofs.Common.{◌≡◌, ℕ, true, Some, sym, ap, ◌∙◌, inr}
use Rattle.process_rule.specs.Kernel.{Process}
use Rattle.process_rule.specs.Supervisor.{InstanceState, Host}
use Rattle.process_rule.specs.Events.{IsReachable}
use Rattle.process_rule.specs.Events.Event.{Start, Cancel, Stop, Shorten, Write, Begin, Fail, Report, Kill, Reap, Clear, Forget, Fork, Exit}
use Rattle.process_rule.specs.Events.Event.{Vanish, Leave, Join, Pass, Restart}
use Rattle.process_rule.specs.Laws.{OneInstanceAtATime, BeginsAlone, ForgetsNone, GenerationsAreWritten, SignalsAreAimed, GroupsMayBeKilled}
use Rattle.process_rule.specs.Laws.{GraceIsKept, DeathsAreTrue, OnlyStartsWait}
use Rattle.process_rule.proofs.Standing.{IsKept}
use Rattle.process_rule.proofs.PutLemmas.{is_none, is_one, true_is_false}
use Rattle.process_rule.proofs.StepLemmas as steps

pub kept : (x : Host) → IsReachable x → IsKept x
kept x p = steps.all_kept p.first x p.events p.occurred (steps.new_kept p.first p.new)

pub one_instance_at_a_time : OneInstanceAtATime
one_instance_at_a_time x path q p r s e f a b l =
    let h = kept x path in
    sym ((h.processes q r e).generation a) ∙ ap (λ (k : ℕ). h.current k) l ∙ (h.processes p s f).generation b

pub begins_alone : BeginsAlone
begins_alone x path k g p m = steps.alone x k g p m (kept x path)

pub forgets_none : ForgetsNone
forgets_none x path k m q r e s a =
    let old = ((kept x path).processes q r e).held s (ap (λ (y : ℕ). (x.services y).clean) a ∙ m.1) in
    is_none (x.services k).instance old.0 m.0 (ap (λ (y : ℕ). (x.services y).instance) (sym a) ∙ old.1)

pub generations_are_written : GenerationsAreWritten
generations_are_written x path =
    let h = kept x path in
    record { given = λ g c. (h.below g c).1; begun = h.begun; given_once = h.given_once; begun_once = h.begun_once }

-- A process in the group of an instance.
member : (x : Host) (h : IsKept x) (k : ℕ) (i : InstanceState) → (x.services k).instance ≡ Some i → (q : ℕ) (r : Process) →
    x.processes q ≡ Some r →
    r.group ≡ i.leader → (r.label ≡ k) × (r.generation ≡ i.generation) × (r.found ≡ true)
member x h k i u q r e g =
    let p = h.processes q r e in
    let in_group = p.group k i u g in
    let held = p.held in_group.1 (ap (λ (y : ℕ). (x.services y).clean) in_group.0 ∙ (h.services k).clean i u) in
    let one = is_one (x.services k).instance held.0 i (ap (λ (y : ℕ). (x.services y).instance) (sym in_group.0) ∙ held.1) u in
    (in_group.0, sym held.2 ∙ ap (λ (y : InstanceState). y.generation) one, in_group.1)

pub signals_are_aimed : SignalsAreAimed
signals_are_aimed x path k i u =
    let h = kept x path in
    let l = (h.services k).leader i u in
    record { leader = (l.it, l.there, l.leads, l.generation); group = member x h k i u }

pub groups_may_be_killed : GroupsMayBeKilled
groups_may_be_killed x path k i u d q r e g =
    let m = member x (kept x path) k i u q r e g in
    (e, (m.2, inr (i, ap (λ (y : ℕ). (x.services y).instance) m.0 ∙ u, m.1, d)))

pub grace_is_kept : GraceIsKept
grace_is_kept x path k i u q r e s l d =
    ((kept x path).processes q r e).spared s d i (ap (λ (y : ℕ). (x.services y).instance) l ∙ u)

pub deaths_are_true : DeathsAreTrue
deaths_are_true x path =
    let h = kept x path in
    record { once = h.reported_once; begun = h.reported; dead = λ q r e. (h.processes q r e).dead }

pub only_starts_wait : OnlyStartsWait
only_starts_wait h pending file (Start k) e m = true_is_false e
only_starts_wait h pending file (Cancel k) e m = m
only_starts_wait h pending file (Stop k i n) e m = m
only_starts_wait h pending file (Shorten k i n) e m = m
only_starts_wait h pending file (Write n) e m = true_is_false e
only_starts_wait h pending file (Begin k g p) e m = true_is_false e
only_starts_wait h pending file (Fail k) e m = m
only_starts_wait h pending file (Report k i r) e m = m
only_starts_wait h pending file (Kill q r) e m = m
only_starts_wait h pending file (Reap k i r) e m = m
only_starts_wait h pending file (Clear k) e m = m
only_starts_wait h pending file (Forget k) e m = m
only_starts_wait h pending file (Fork q r n) e m = m
only_starts_wait h pending file (Exit q r) e m = m
only_starts_wait h pending file (Vanish q r) e m = m
only_starts_wait h pending file (Leave q r b) e m = m
only_starts_wait h pending file (Join q r n s) e m = m
only_starts_wait h pending file (Pass n) e m = m
only_starts_wait h pending file Restart e m = m
