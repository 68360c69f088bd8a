-- The verdict on a text: a legal trace, or the first wrong line.
use Rattle.std.specs.Prelude.{◌≡◌, ℕ, suc, List, [], ◌∷◌, ◌++◌, length}
use Rattle.line_io.specs.Lines.{HasLines, joined}
use Rattle.ds_machine.specs.State.{State}
use Rattle.trace_walk.specs.declared.header.Header.{Header}
use Rattle.trace_walk.specs.declared.verdict.Verdict.{Verdict}
use Rattle.trace_walk.specs.declared.verdict.Verdict.TheVariants.{Legal, IllegalAt, BadLineAt, ReadFault, NoRoom}
use Rattle.trace_walk.specs.Text.{TraceEntry}
use Rattle.trace_walk.specs.Legal.{IsTrace}

-- Whether the text is a legal trace of `count` entries.
abbrev pub IsLegal : List ℕ → ℕ → Type 0
IsLegal text count = (h : Header) × (entries : List TraceEntry) × (last : State) × IsTrace text h entries last × (length entries ≡ count)

-- Whether some legal trace begins with the text.
abbrev pub MayBegin : List ℕ → Type 0
MayBegin front = (more : List ℕ) × (count : ℕ) × IsLegal (front ++ more) count

-- Whether a reply line must follow: some legal trace continues with `<`.
abbrev pub WantsReply : List ℕ → Type 0
WantsReply front = MayBegin (front ++ 60 ∷ [])

-- Whether no legal trace continues with the first of these lines; if there is none, whether no legal trace ends here.
abbrev pub Fails : List ℕ → List (List ℕ) → Type 0
Fails front [] = (count : ℕ) → ¬ IsLegal front count
Fails front (line ∷ lines) = ¬ MayBegin (front ++ joined (line ∷ []))

-- Whether this line is the first that no legal trace has in its place. `front` is the lines before it.
pub record IsWrongAt (bytes : List ℕ) (number : ℕ) (front : List ℕ) : Type 0 where
  pub before : List (List ℕ)
  pub rest : List (List ℕ)
  pub lines : HasLines bytes (before ++ rest)
  pub past : front ≡ joined before
  pub counted : number ≡ suc (length before)
  pub begins : MayBegin front
  pub fails : Fails front rest

-- The verdict on the bytes. A missing last newline is read as present.
abbrev pub IsVerdict : List ℕ → Verdict → Type 0
IsVerdict bytes (Legal count) = (lines : List (List ℕ)) × HasLines bytes lines × IsLegal (joined lines) count
IsVerdict bytes (IllegalAt number) = (front : List ℕ) × IsWrongAt bytes number front × WantsReply front
IsVerdict bytes (BadLineAt number) = (front : List ℕ) × IsWrongAt bytes number front × ¬ WantsReply front
IsVerdict bytes ReadFault = Unit {0}
IsVerdict bytes NoRoom = Unit {0}
