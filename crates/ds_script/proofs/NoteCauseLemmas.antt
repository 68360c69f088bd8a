-- Why a replay of what is left ends by its reader or its writer.
use Rattle.std.proofs.Common.{◌≡◌, ℕ, zero, suc, ◌+◌, ◌-◌, ◌^◌, ◌≤◌, Result, Ok, Err, sym, subst, ap, ◌∙◌, inl, inr, arith}
use Rattle.std.specs.Result.{IsErrAnd}
use Rattle.std.proofs.lemmas.Result.{err_from_is_err_and}
use Rattle.ds_script.specs.declared.fault.ReplayFault.{ReplayFault}
use Rattle.ds_script.specs.declared.fault.ReplayFault.TheVariants.{BadLine, ReadFault, WriteFault, NoRoom}
use Rattle.ds_script.specs.Causes.{HasCause}
use Rattle.line_io.specs.declared.missed.Missed.{Missed}
use Rattle.line_io.specs.declared.missed.Missed.TheVariants.{Interrupted, Failed}
use Rattle.line_io.specs.Streams.{CallsLead, HasFailedRead, TellsRead}
use Rattle.line_io.proofs.CallLemmas.{calls_on}
use Rattle.line_io.specs.declared.streams.Source.{Ghosts as Reader}
use Rattle.line_io.specs.declared.streams.Sink.{Ghosts as Writer}
use Rattle.ds_script.specs.NoteCauses.{EndsReading, IsCausedBy, SomeReadsLead}

-- ---- reads of what is left, over the reader `inner` of a source, whose reference has this name

module _ {S R N : Type 0} (inner : S → R) (name : S → N) (reads fails : R → R → Type 0) where
  abbrev pub LeftReads : S → S → Type 0
  LeftReads a b = (name b ≡ name a) × SomeReadsLead reads (inner a) (inner b)

  abbrev pub LeftFails : S → S → Type 0
  LeftFails a b = (name b ≡ name a) × EndsReading (2 ^ 64 - 1) reads fails (inner a) (inner b)

  -- what a last read of the other source states, after `n` reads of which nothing was left
  pub told_on : (result : Result ℕ Missed) (old new : S) (mid : R) (n : ℕ) → name new ≡ name old → CallsLead reads n (inner old) mid →
      TellsRead reads fails result mid (inner new) → TellsRead LeftReads LeftFails result old new
  told_on (Ok count) old new mid n same led told = (same, (n, (mid, led, told)))
  told_on (Err Interrupted) old new mid n same led told = (same, (n, (mid, led, told)))
  told_on (Err Failed) old new mid n same led told = (same, (n, inl (mid, led, told)))

  -- likewise at the exit of a `?`
  pub told_at : (result : Result ℕ Missed) (e : Missed) (old new : S) (mid : R) (n : ℕ)
      → IsErrAnd result (λ f. f ≡ e) → name new ≡ name old → CallsLead reads n (inner old) mid
      → TellsRead reads fails (Err e) mid (inner new)
      → TellsRead LeftReads LeftFails result old new
  told_at result e old new mid n is same led told =
      let exit = err_from_is_err_and result is in
      subst (λ (r : Result ℕ Missed). TellsRead LeftReads LeftFails r old new) (sym (exit.1 ∙ ap (λ (x : Missed). Err x) exit.2))
      (told_on (Err e) old new mid n same led told)

  -- they are at least as many of the other source
  inner_calls : (n : ℕ) (old new : S) → CallsLead LeftReads n old new →
      (name new ≡ name old) × ((m : ℕ) × (n ≤ m) × CallsLead reads m (inner old) (inner new))
  inner_calls zero old new led = (ap name led, (0, omega arith, ap inner led))
  inner_calls (suc n) old new led =
      let before = inner_calls n old led.0 led.1 in (
        led.2.0 ∙ before.0,
        (
          suc led.2.1.0 + before.1.0,
          omega (arith, before.1.1),
          calls_on reads before.1.0 (suc led.2.1.0) (inner old)
              (inner led.0) (inner new) before.1.2 led.2.1.1,
        ),
      )

  inner_failed : (old new : S) → HasFailedRead LeftReads LeftFails old new →
      (name new ≡ name old) × EndsReading (2 ^ 32) reads fails (inner old) (inner new)
  inner_failed old new failed =
      elim failed.1 [
        | inl last ↦
            (let before = inner_calls failed.0 old last.0 last.1 in
            let ends = last.2.1 in
            elim ends.1 [
              | inl one ↦ (
                last.2.0 ∙ before.0,
                (
                  ends.0 + before.1.0,
                  inl
                      (one.0, calls_on reads before.1.0 ends.0 (inner old) (inner last.0) one.0 before.1.2 one.1, one.2),
                ),
              )
              | inr many ↦ (
                last.2.0 ∙ before.0,
                (
                  ends.0 + before.1.0,
                  inr
                      (omega (arith, many.0), calls_on reads before.1.0 ends.0 (inner old) (inner last.0) (inner new) before.1.2 many.1),
                ),
              )
            ])
        | inr many ↦
            (let all = inner_calls failed.0 old new many.1 in
            (all.0, (all.1.0, inr (omega (arith, all.1.1, many.0), all.1.2))))
      ]

-- The cause of a fault of the replay of what is left.
pub inner_cause : {S R W N : Type 0} (inner : S → R) (name : S → N) (left : Reader S) (r : Reader R) (w : Writer W) (fault : ReplayFault)
    (old new : S) (last : R) (from to : W) →
    left.reads ≡ LeftReads inner name r.reads r.fails → left.fails ≡ LeftFails inner name r.reads r.fails →
    (name new ≡ name old → inner new ≡ last) →
    HasCause left w fault old new from to → IsCausedBy r w fault (inner old) last from to
inner_cause inner name left r w (BadLine line place expected) old new last from to e f back c = c
inner_cause {S} {R} inner name left r w ReadFault old new last from to e f back c =
    let failed = inner_failed inner name r.reads r.fails old new
    (subst (λ (x : S → S → Type 0). HasFailedRead (LeftReads inner name r.reads r.fails) x old new) f
    (subst (λ (x : S → S → Type 0). HasFailedRead x left.fails old new) e c.0)) in
    (subst (λ (x : R). EndsReading (2 ^ 32) r.reads r.fails (inner old) x) (back failed.0) failed.1, c.1)
inner_cause inner name left r w WriteFault old new last from to e f back c = c
inner_cause inner name left r w NoRoom old new last from to e f back c = c
