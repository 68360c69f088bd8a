-- The answers of the readers of a change's parts.
use Rattle.std.specs.Prelude.{◌≡◌, ℕ, suc, List, [], ◌∷◌, ◌++◌, length, take, Result, Ok, Err, Option, Some, None}
use Rattle.std.specs.Fmt.{decimal}
use Rattle.ds_names.specs.declared.key.Key.{Key}
use Rattle.ds_names.specs.declared.version.Version.{Version}
use Rattle.ds_entry.specs.declared.body.Value.{Value}
use Rattle.ds_entry.specs.declared.body.Body.{Body}
use Rattle.ds_entry.specs.declared.body.Body.TheVariants.{Put}
use Rattle.ds_entry.specs.declared.item.Item.{Item}
use Rattle.ds_entry.specs.declared.item.Item.TheVariants.{Change as Changed, Floor as Floored}
use Rattle.ds_entry.specs.Change.{ChangeRecord, change_of, IsChange, BodyCopyTakesMemory}
use Rattle.ds_line.specs.Part.{Part, part, byte, Name, Word, Number, texts}
use Rattle.ds_line.specs.Spelling.{space, kind_word, change_parts, spelling}
use Rattle.ds_line.specs.FaultPlace.{Stand, IsFaultIn}
use Rattle.ds_line.specs.declared.fault.LineFault.{LineFault}
use Rattle.ds_line.specs.declared.part_fault.PartFault.{PartFault}
use Rattle.ds_line.specs.declared.part_fault.PartFault.TheVariants.{BadPart, NoRoom}

-- The parts of a change up to and with the word of its kind.
abbrev pub up_to_kind : Key → List Part
up_to_kind key = part Name key.name ∷ space ∷ part Word (kind_word key.kind) ∷ []

-- The parts before its epoch.
abbrev pub up_to_epoch : Key → List ℕ → List Part
up_to_epoch key owner = up_to_kind key ++ space ∷ part Name owner ∷ space ∷ []

-- The parts before its mark.
abbrev pub up_to_mark : Key → List ℕ → Version → List Part
up_to_mark key owner version =
    up_to_epoch key owner ++ part Number (decimal version.epoch) ∷ byte 46 ∷ part Number (decimal version.seq) ∷ space ∷ []

-- The parts of a put before its value.
abbrev pub up_to_value : Key → List ℕ → Version → List Part
up_to_value key owner version = up_to_mark key owner version ++ byte 61 ∷ space ∷ []

-- Whether some change has the key, the owner and the version.
abbrev pub HasBody : Key → List ℕ → Version → Type 0
HasBody key owner version = (body : Body) × IsChange (change_of key owner version body)

-- Whether some put has the key, the owner and the version.
abbrev pub HasValue : Key → List ℕ → Version → Type 0
HasValue key owner version = (value : Value) × IsChange (change_of key owner version (Put value))

-- Whether some change has the key, the owner and the epoch.
abbrev pub HasSeq : Key → List ℕ → ℕ → Type 0
HasSeq key owner epoch = (seq : ℕ) × HasBody key owner (record { epoch = epoch; seq = seq })

-- Whether some change has the key and the owner.
abbrev pub HasVersion : Key → List ℕ → Type 0
HasVersion key owner = (version : Version) × HasBody key owner version

-- Whether some change has the key.
abbrev pub HasOwner : Key → Type 0
HasOwner key = (owner : List ℕ) × HasVersion key owner

-- Like `StopsAt`, for the members that begin with the known parts. The bytes are those of their further parts, and no
-- member has all of these at the front.
pub record StopsAfter {T : Type 0} (IsMember : T → Type 0) (parts : T → List Part) (known : List Part) (bytes rest : List ℕ) : Type 0 where
  pub count : ℕ
  pub member : T
  pub is : IsMember member
  pub further : List Part
  pub split : parts member ≡ known ++ further
  pub front : Stand count further bytes rest
  pub most : (m : T) (more : List Part) (after : List ℕ) → IsMember m → parts m ≡ known ++ more → ¬ Stand (suc count) more bytes after
  pub none : (m : T) (more : List Part) (after : List ℕ) → IsMember m → parts m ≡ known ++ more → ¬ Stand (length more) more bytes after

-- Like `StopsAfter`, for changes.
abbrev pub ChangeStops : List Part → List ℕ → List ℕ → Type 0
ChangeStops known bytes rest = StopsAfter IsChange change_parts known bytes rest

-- Whether the bytes are the further parts of the change, after the known ones, and then the rest.
pub record Completes (known : List Part) (c : ChangeRecord) (bytes rest : List ℕ) : Type 0 where
  pub change : IsChange c
  pub further : List Part
  pub split : change_parts c ≡ known ++ further
  pub text : bytes ≡ texts further ++ rest

-- Whether the bytes begin with the further parts of a put of a text or a blob that isn't empty.
pub record CompletesInRoom (known : List Part) (bytes : List ℕ) : Type 0 where
  pub put : ChangeRecord
  pub rest : List ℕ
  pub completes : Completes known put bytes rest
  pub value : BodyCopyTakesMemory put.body

-- The answer of a reader after the known parts: the change and the number of bytes after its line, or the number of bytes
-- from the first part on that can't be read, or out of memory for the value.
abbrev pub ReadsChange : List Part → List ℕ → Result (ChangeRecord × ℕ) PartFault → Type 0
ReadsChange known bytes (Ok r) = (rest : List ℕ) × Completes known r.0 bytes rest × (length rest ≡ r.1)
ReadsChange known bytes (Err (BadPart left)) = (rest : List ℕ) × ChangeStops known bytes rest × (length rest ≡ left)
ReadsChange known bytes (Err NoRoom) = CompletesInRoom known bytes

-- The answer of a body's reader, with the change of that body and these other parts in place of the body.
abbrev pub with_body : Key → List ℕ → Version → Result (Body × ℕ) PartFault → Result (ChangeRecord × ℕ) PartFault
with_body key owner version (Ok r) = Ok (change_of key owner version r.0, r.1)
with_body key owner version (Err stop) = Err stop

-- Like `ReadsChange`, for a reader that stores the change as an item and returns the number of bytes after its line.
abbrev pub ReadsInto : List Part → List ℕ → Result ℕ PartFault → Option Item → Type 0
ReadsInto known bytes (Ok left) (Some (Changed c)) = ReadsChange known bytes (Ok (c, left))
ReadsInto known bytes (Ok left) (Some (Floored f)) = ⊥
ReadsInto known bytes (Ok left) None = ⊥
ReadsInto known bytes (Err stop) placed = ReadsChange known bytes (Err stop)

-- The answer: the length of the change's line at the front, whose change is stored, or why there is none.
abbrev pub ReadsChangeLine : List ℕ → Result ℕ LineFault → Option Item → Type 0
ReadsChangeLine bytes (Ok len) (Some (Changed c)) = IsChange c × (take len bytes ≡ spelling c) × (len ≡ length (spelling c))
ReadsChangeLine bytes (Ok len) (Some (Floored f)) = ⊥
ReadsChangeLine bytes (Ok len) None = ⊥
ReadsChangeLine bytes (Err fault) placed = IsFaultIn fault bytes
