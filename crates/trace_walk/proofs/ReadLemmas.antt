-- Reads in order, and whom a fault blames.
use Rattle.std.proofs.Common.{◌≡◌, ℕ, Result, Ok, Err, refl, sym, subst, ap, ◌∙◌, arith}
use Rattle.std.specs.Result.{IsErrAnd, IfErr, IfOk}
use Rattle.std.proofs.lemmas.Result.{err_from_is_err_and}
use Rattle.line_io.specs.Reading.{LinesContent, no_lines}
use Rattle.line_io.specs.Streams.{CallsLead}
use Rattle.line_io.specs.declared.streams.Source.{Ghosts as Reader}
use Rattle.trace_walk.specs.declared.asked.AskedFault.{AskedFault}
use Rattle.trace_walk.specs.declared.asked.AskedFault.TheVariants as badly
use Rattle.trace_walk.specs.declared.fault.WalkFault.{WalkFault}
use Rattle.trace_walk.specs.declared.fault.WalkFault.TheVariants.{IllegalAt, BadLineAt, ReadFault, NoRoom}
use Rattle.trace_walk.specs.declared.entry.EntryFault.{EntryFault}
use Rattle.trace_walk.specs.declared.entry.EntryFault.TheVariants as entries
use Rattle.trace_walk.specs.Reads.{Advances, ReadsFurther, IsBlameless, BlamesLines, BlamesReader}
use Rattle.trace_walk.specs.Walking.{of_entry, of_line, of_reply}

-- nothing was read
pub stays : {R : Type 0} (r : Reader R) (l : LinesContent) (x : R) → ReadsFurther r l x l x
stays r l x = (λ first led. led, omega arith)

pub stays_at : {R : Type 0} (r : Reader R) (old new : LinesContent) (x : R) → new ≡ old → ReadsFurther r old x new x
stays_at r old new x e = subst (λ (l : LinesContent). ReadsFurther r old x l x) (sym e) (stays r old x)

-- one part after another
pub on_and_on : {R : Type 0} (r : Reader R) (a b c : LinesContent) (x y z : R) → ReadsFurther r a x b y → ReadsFurther r b y c z →
    ReadsFurther r a x c z
on_and_on r a b c x y z f g = (λ first led. g.0 first (f.0 first led), omega (arith, f.1, g.1))

pub on_then : {R T : Type 0} (r : Reader R) (result : Result T WalkFault) (a b c : LinesContent) (x y z : R) → ReadsFurther r a x b y →
    Advances r result b y c z → Advances r result a x c z
on_then r (Ok v) a b c x y z f g = on_and_on r a b c x y z f g
on_then r (Err fault) a b c x y z f g = λ first led. g first (f.0 first led)

-- what the exit of a `?` hands on
pub carried_as : {T E : Type 0} (r : Result T E) (e : E) (P : Result T E → Type 0) → IsErrAnd r (λ f. f ≡ e) → P (Err e) → P r
carried_as {T} {E} r e P is p = let exit = err_from_is_err_and r is in subst P (sym (exit.1 ∙ ap (λ (x : E). Err x) exit.2)) p

-- from the beginning
pub none_read : {R : Type 0} (r : Reader R) (l : LinesContent) (x : R) → l ≡ no_lines → CallsLead r.reads l.reads x x
none_read r l x e = subst (λ (k : LinesContent). CallsLead r.reads k.reads x x) (sym e) refl

-- ---- faults that blame no reader

pub no_cause : {R : Type 0} (r : Reader R) (fault : WalkFault) (old new : R) → IsBlameless fault → BlamesReader r fault old new
no_cause r (IllegalAt number) old new is = tt
no_cause r (BadLineAt number) old new is = tt
no_cause r ReadFault old new is = absurd is
no_cause r NoRoom old new is = tt

pub room_blames : (fault : WalkFault) → fault ≡ NoRoom → IsBlameless fault
room_blames fault e = subst IsBlameless (sym e) tt

-- the fault of an entry's lines keeps its cause
pub blames_walk : {R : Type 0} (r : Reader R) (fault : EntryFault) (old new : R) → BlamesLines r fault old new →
    BlamesReader r (of_entry fault) old new
blames_walk r (entries.BadLine number) old new c = tt
blames_walk r entries.ReadFault old new c = c
blames_walk r entries.NoRoom old new c = tt

pub blames_reply : {R : Type 0} (r : Reader R) (fault : EntryFault) (old new : R) → BlamesLines r fault old new →
    BlamesReader r (of_reply fault) old new
blames_reply r (entries.BadLine number) old new c = tt
blames_reply r entries.ReadFault old new c = c
blames_reply r entries.NoRoom old new c = tt

pub asked_blames : (asked : AskedFault) (number : ℕ) (fault : WalkFault) → fault ≡ of_line asked number → IsBlameless fault
asked_blames badly.BadLine number fault e = subst IsBlameless (sym e) tt
asked_blames badly.NoRoom number fault e = subst IsBlameless (sym e) tt

-- nothing was read, and memory ran out or nothing else happened
pub refused_there : {R T : Type 0} (r : Reader R) (result : Result T WalkFault) (old new : LinesContent) (x : R) →
    IfOk result (λ v. new ≡ old) → IfErr result (λ fault. fault ≡ NoRoom) → Advances r result old x new x
refused_there r (Ok v) old new x same fault = stays_at r old new x same
refused_there r (Err e) old new x same fault = λ first led. no_cause r e first x (room_blames e fault)
