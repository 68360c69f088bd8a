-- Reading one more part of a change: the next part is missing, or it is read.
use Rattle.std.proofs.Common.{◌≡◌, ℕ, ◌<◌, List, [], ◌∷◌, ◌++◌, length, Result, Ok, Err, Option, Some, None, refl, sym, subst, arith}
use Rattle.ds_names.specs.Run.{Begins}
use Rattle.ds_entry.specs.Change.{ChangeRecord, IsChange}
use Rattle.ds_entry.specs.declared.item.Item.{Item}
use Rattle.ds_entry.specs.declared.item.Item.TheVariants.{Change as Changed, Floor as Floored}
use Rattle.ds_line.specs.Part.{Class, run_of, Part}
use Rattle.ds_line.specs.Spelling.{change_parts}
use Rattle.ds_line.specs.FaultPlace.{Stand}
use Rattle.ds_line.specs.Reading.{ReadsChange, ReadsInto}
use Rattle.ds_line.specs.declared.part_fault.PartFault.{PartFault}
use Rattle.ds_line.specs.declared.part_fault.PartFault.TheVariants.{BadPart, NoRoom}
use Rattle.ds_line.proofs.PartLemmas.{IsText}
use Rattle.ds_line.proofs.StepLemmas.{Opens, stops_here, stops_after_part, completes_after_part}

-- there is a first part, and it is of the class
abbrev pub Begun : Class → List Part → Type 0
Begun class [] = ⊥
Begun class (p ∷ parts) = (p.class ≡ class) × IsText p.class p.text

-- After the known parts of a change comes a part of the class.
abbrev pub Comes : List Part → Class → Type 0
Comes known class = (c : ChangeRecord) (more : List Part) → IsChange c → change_parts c ≡ known ++ more → Begun class more

begun_opens : (class : Class) (parts : List Part) → Begun class parts → Opens class parts
begun_opens class [] h = tt
begun_opens class (p ∷ parts) h = h

begun_some : (class : Class) (parts : List Part) → Begun class parts → 0 < length parts
begun_some class [] h = absurd h
begun_some class (p ∷ parts) h = omega arith

-- No change continues after the known parts with what is here.
abbrev pub Misses : List Part → List ℕ → Type 0
Misses known bytes = (c : ChangeRecord) (more : List Part) (after : List ℕ) → IsChange c → change_parts c ≡ known ++ more →
    ¬ Stand 1 more bytes after

-- the next part is missing
pub missing : (known : List Part) (class : Class) (bytes : List ℕ) (stop : PartFault) (c : ChangeRecord) (further : List Part) →
    IsChange c → change_parts c ≡ known ++ further → Comes known class → stop ≡ BadPart (length bytes)
    → Misses known bytes → ReadsChange known bytes (Err stop)
missing known class bytes stop c further is split comes at misses =
    subst (λ (s : PartFault). ReadsChange known bytes (Err s)) (sym at) (
      bytes,
      stops_here IsChange change_parts known bytes c further is split misses
          (λ m more is_m eq. begun_some class more (comes m more is_m eq)),
      refl,
    )

-- the next part is read
pub read_on : (known : List Part) (p : Part) (bytes r : List ℕ) (result : Result (ChangeRecord × ℕ) PartFault) → IsText p.class p.text →
    Comes known p.class → Begins (run_of p.class) bytes p.text r
    → ReadsChange (known ++ p ∷ []) r result → ReadsChange known bytes result
read_on known p bytes r (Ok x) text comes begins k = (k.0, completes_after_part known p x.0 bytes r k.0 begins.parts k.1, k.2)
read_on known p bytes r (Err (BadPart left)) text comes begins k = (
  k.0,
  stops_after_part IsChange change_parts known p bytes r k.0 text (λ m more is eq. begun_opens p.class more (comes m more is eq))
      (λ m more is eq. begun_some p.class more (comes m more is eq)) begins k.1,
  k.2,
)
read_on known p bytes r (Err NoRoom) text comes begins k =
    record
    { put = k.put; rest = k.rest; completes = completes_after_part known p k.put bytes r k.rest begins.parts k.completes; value = k.value }

-- `read_on`, for a reader that stores the change.
pub into_on : (known more : List Part) (bytes r : List ℕ) (result : Result ℕ PartFault) (placed : Option Item) →
    ((given : Result (ChangeRecord × ℕ) PartFault) → ReadsChange more r given → ReadsChange known bytes given)
    → ReadsInto more r result placed → ReadsInto known bytes result placed
into_on known more bytes r (Ok left) (Some (Changed c)) on k = on (Ok (c, left)) k
into_on known more bytes r (Ok left) (Some (Floored f)) on k = k
into_on known more bytes r (Ok left) None on k = k
into_on known more bytes r (Err stop) placed on k = on (Err stop) k
