-- Why a walk ends at a place: the line there is the first wrong one.
use Rattle.std.proofs.Common.{◌≡◌, ℕ, suc, ◌<◌, ◌≤◌, Bool, true, List, [], ◌∷◌, ◌++◌, length, Option, Some, IfSome, Result, refl, sym, ap}
use Rattle.std.proofs.Common.{subst, ◌∙◌, arith, append_assoc, append-nil, length-append}
use Rattle.std.specs.Result.{IfErr, IsErrAnd}
use Rattle.std.proofs.lemmas.Result.{err_from_is_err_and}
use Rattle.line_io.specs.Lines.{HasLines, IsUnbroken, EndsLine, with_newline, joined}
use Rattle.line_io.specs.Reading.{LinesContent}
use Rattle.trace_walk.specs.Text.{marked, marked_from}
use Rattle.trace_walk.specs.Verdict.{Fails}
use Rattle.trace_walk.specs.Walk.{IsPlaceInEntry, NoneEnds}
use Rattle.trace_walk.proofs.MarkLemmas.{marked_line, marked_append}
use Rattle.trace_walk.specs.declared.fault.WalkFault.{WalkFault}
use Rattle.trace_walk.specs.declared.fault.WalkFault.TheVariants.{IllegalAt, NoRoom}
use Rattle.trace_walk.specs.declared.entry.EntryFault.{EntryFault}
use Rattle.trace_walk.specs.declared.entry.EntryFault.TheVariants as entries
use Rattle.trace_walk.specs.Walking.{IsAt, IsRead, IsLongFault, HasLine, IsFault, of_reply, IsShort, IsEnded, IsThere, IsSaid}

-- ---- faults at a place

is_nothing : (part : List ℕ) → length part ≡ 0 → part ≡ []
is_nothing [] e = refl
is_nothing (b ∷ part) e = absurd (omega (arith, e))

-- nothing is between the start and itself
pub none_here : (start : List ℕ) → NoneEnds start start
none_here start part left n e legal = is_nothing part
    (omega (arith, ap length e, length-append (start ++ part) left, length-append start part))

-- the verdict is at the line after the front, where a reply line must follow
at_place : (start bytes front : List ℕ) (number : ℕ) (May : List ℕ → Type 0) (before rest : List (List ℕ))
    → IsPlaceInEntry start front true May → HasLines bytes (before ++ rest) → front ≡ joined before → number ≡ suc (length before) →
    Fails front rest
    → IsFault start bytes (IllegalAt number)
at_place start bytes front number May before rest p lines past counted fails = (
  front,
  record { before = before; rest = rest; lines = lines; past = past; counted = counted; begins = p.begins; fails = fails },
  p.wants,
  p.none,
)

-- no line is there
pub missing : (start bytes front : List ℕ) (count number : ℕ) (May : List ℕ → Type 0)
    → IsRead bytes front count → IsPlaceInEntry start front true May → number ≡ suc count
    → IsFault start bytes (IllegalAt number)
missing start bytes front count number May r p e =
    at_place start bytes front number May r.0 [] p (subst (HasLines bytes) (sym (append-nil r.0)) r.1) r.2 (e ∙ ap suc r.3) p.ends

-- the line that is there is wrong
pub wrong_there : (start bytes front line : List ℕ) (l : LinesContent) (to : Option (List ℕ)) (number : ℕ) (May : List ℕ → Type 0)
    → HasLine bytes front line l to → IsPlaceInEntry start front true May → ¬ May (with_newline line) → number ≡ l.count
    → IsFault start bytes (IllegalAt number)
wrong_there start bytes front line l to number May h p none e =
    at_place start bytes front number May h.before (line ∷ h.more) p h.lines h.front_is (e ∙ h.counted) (p.wrong line h.more h.whole none)

pub not_short : (line : List ℕ) → 4096 < length line → ¬ IsShort (with_newline line)
not_short line long short = omega (arith, long, short, length-append line (10 ∷ []))

pub too_long : (start bytes front : List ℕ) (fault : EntryFault) → IsLongFault bytes front fault →
    IsPlaceInEntry start front true IsShort → IsFault start bytes (of_reply fault)
too_long start bytes front (entries.BadLine number) l p =
    at_place start bytes front number IsShort l.before (l.line ∷ l.more) p l.lines l.front_is l.counted
    (p.wrong l.line l.more l.whole (not_short l.line l.long))
too_long start bytes front entries.ReadFault l p = tt
too_long start bytes front entries.NoRoom l p = tt

-- out of memory isn't a verdict
pub no_room : (start bytes : List ℕ) (fault : WalkFault) → fault ≡ NoRoom → IsFault start bytes fault
no_room start bytes fault e = subst (IsFault start bytes) (sym e) tt

-- what the exit of a `?` hands on
pub carried : {T E : Type 0} (r : Result T E) (e : E) (P : E → Type 0) → IsErrAnd r (λ f. f ≡ e) → P e → IfErr r P
carried r e P is p = let exit = err_from_is_err_and r is in rw (exit.1, exit.2) p

-- what holds of the value
pub some_at : {T : Type 0} (o : Option T) (x : T) (P : T → Type 0) → o ≡ Some x → IfSome o P → P x
some_at o x P e h = subst (λ q. IfSome q P) e h

-- a place where fewer lines are wrong
pub place_of : (start front : List ℕ) (b : Bool) (May More : List ℕ → Type 0) → ((line : List ℕ) → May line → More line) →
    IsPlaceInEntry start front b May → IsPlaceInEntry start front b More
place_of start front b May More all p = record {
  begins = p.begins;
  wants = p.wants;
  ends = p.ends;
  none = p.none;
  wrong = λ line rest whole none.
      p.wrong line rest whole (λ m. none (all (with_newline line) m));
}

-- ---- the text of a reply

marked_one : (line : List ℕ) (e : EndsLine line) → marked (e.front ++ 10 ∷ []) ≡ 60 ∷ 32 ∷ line
unfolding marked_from
marked_one line e = marked_line e.front [] e.none ∙ ap (λ (l : List ℕ). 60 ∷ 32 ∷ l) (sym e.parts)

pub split_on : (bytes base whole rest next : List ℕ) (l : LinesContent) (from : Option (List ℕ)) → IsSaid bytes base whole rest l from →
    rest ≡ next → IsSaid bytes base whole next l from
split_on bytes base whole rest next l from x e =
    record { given = x.given; whole_is = x.whole_is ∙ ap (λ (r : List ℕ). (x.given ++ 10 ∷ []) ++ r) e; at = x.at }

-- one more line of it is there
pub one_more : (bytes base whole line more here : List ℕ) (old l : LinesContent) (from to : Option (List ℕ))
    (x : IsSaid bytes base whole (line ++ more) old from)
    → EndsLine line → HasLine bytes (base ++ marked (x.given ++ 10 ∷ [])) here l to → with_newline here ≡ 60 ∷ 32 ∷ line
    → IsSaid bytes base whole more l to
one_more bytes base whole line more here old l from to x e h same =
    let given : List ℕ = (x.given ++ 10 ∷ []) ++ e.front in
    let line_is : given ++ 10 ∷ [] ≡ (x.given ++ 10 ∷ []) ++ (e.front ++ 10 ∷ []) = append_assoc (x.given ++ 10 ∷ []) e.front (10 ∷ []) in
    let text : (base ++ marked (x.given ++ 10 ∷ [])) ++ with_newline here ≡ base ++ marked (given ++ 10 ∷ []) =
    append_assoc base (marked (x.given ++ 10 ∷ [])) (with_newline here)
    ∙ ap (λ (l : List ℕ). base ++ (marked (x.given ++ 10 ∷ []) ++ l)) (same ∙ sym (marked_one line e))
    ∙ ap (λ (l : List ℕ). base ++ l) (sym (marked_append x.given (e.front ++ 10 ∷ [])) ∙ ap (λ (l : List ℕ). marked l) (sym line_is)) in
    record {
      given = given;
      whole_is = x.whole_is ∙ sym (append_assoc (x.given ++ 10 ∷ []) line more) ∙
          ap (λ (l : List ℕ). ((x.given ++ 10 ∷ []) ++ l) ++ more) e.parts ∙ ap (λ (l : List ℕ). l ++ more) (sym line_is);
      at = subst (λ (f : List ℕ). IsAt bytes f l to) text h.then;
    }

-- its first line is there
pub first_said : (bytes base here line : List ℕ) (l : LinesContent) (to : Option (List ℕ)) (e : EndsLine line) →
    HasLine bytes base here l to → with_newline here ≡ 60 ∷ 32 ∷ line → IsAt bytes (base ++ marked (e.front ++ 10 ∷ [])) l to
first_said bytes base here line l to e h same = subst (λ (f : List ℕ). IsAt bytes (base ++ f) l to) (same ∙ sym (marked_one line e)) h.then

-- all of it is there
pub all_said : (bytes base whole rest : List ℕ) (l : LinesContent) (to : Option (List ℕ)) → IsSaid bytes base whole rest l to →
    IsEnded whole → IsUnbroken rest → IsAt bytes (base ++ marked whole) l to
all_said bytes base whole rest l to x all whole_line =
    let none : rest ≡ [] = all (x.given ++ 10 ∷ []) rest x.whole_is whole_line in
    subst (λ (f : List ℕ). IsAt bytes (base ++ marked f) l to)
    (sym (x.whole_is ∙ ap (λ (l : List ℕ). (x.given ++ 10 ∷ []) ++ l) none ∙ append-nil (x.given ++ 10 ∷ []))) x.at

-- the next line of it is short
next_short : (line next : List ℕ) → length next ≤ 4095 → line ≡ 60 ∷ 32 ∷ next → IsShort line
next_short line next few e = omega (arith, few, ap length e)

pub further_short : (start front next : List ℕ) →
    IsPlaceInEntry start front true (λ (line : List ℕ). line ≡ 60 ∷ 32 ∷ next) × (length next ≤ 4095) →
    IsPlaceInEntry start front true IsShort
further_short start front next p = place_of start front true (λ (line : List ℕ). line ≡ 60 ∷ 32 ∷ next) IsShort
    (λ line e. next_short line next p.1 e) p.0

pub further_there : (start front next here : List ℕ) → IsPlaceInEntry start front true (λ (line : List ℕ). line ≡ 60 ∷ 32 ∷ next) →
    IsPlaceInEntry start front true (IsThere here next)
further_there start front next here p = place_of start front true (λ (line : List ℕ). line ≡ 60 ∷ 32 ∷ next) (IsThere here next)
    (λ line e same. e) p
