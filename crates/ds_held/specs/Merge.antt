-- The answer to a merge, and the holding after it.
use Rattle.std.specs.Prelude.{◌≡◌, ◌≢◌, ◌⊎◌, ℕ, ◌<◌, Bool, true, false, Option, Some, None, Result, Ok, Err}
use Rattle.std.specs.declared.cmp.Ordering.TheVariants.{Less, Greater}
use Rattle.std.specs.FinMap.{insert}
use Rattle.ds_names.specs.Version.{version_cmp}
use Rattle.ds_entry.specs.Change.{ChangeRecord, BodyCopyTakesMemory}
use Rattle.ds_join.specs.declared.merge.Merge.{Merge}
use Rattle.ds_join.specs.declared.merge.Merge.TheVariants.{Taken, Known, Stale}
use Rattle.ds_join.specs.declared.merge.JoinFault.{JoinFault}
use Rattle.ds_join.specs.declared.merge.JoinFault.TheVariants.{NotOwner, Clash, Full, NoRoom}
use Rattle.ds_held.specs.Held.{Holding, held_for, held_count, is_void_at}

-- The answer where nothing is held for the key or owner, and `count` of at most `most` are held.
abbrev pub AnswersNew : ℕ → ℕ → Result Merge JoinFault → Type 0
AnswersNew count most (Ok Taken) = count < most
AnswersNew count most (Ok Known) = ⊥
AnswersNew count most (Ok Stale) = ⊥
AnswersNew count most (Err NotOwner) = ⊥
AnswersNew count most (Err (Clash v)) = ⊥
AnswersNew count most (Err Full) = count ≡ most
AnswersNew count most (Err NoRoom) = count < most

-- The answer to the change `c`, where `h` of the same owner is held for its key: never NoRoom.
abbrev pub AnswersOwn : ChangeRecord → ChangeRecord → Result Merge JoinFault → Type 0
AnswersOwn h c (Ok Taken) = version_cmp h.version c.version ≡ Less
AnswersOwn h c (Ok Known) = h ≡ c
AnswersOwn h c (Ok Stale) = version_cmp h.version c.version ≡ Greater
AnswersOwn h c (Err NotOwner) = ⊥
AnswersOwn h c (Err (Clash v)) = (h.version ≡ c.version) × (h.body ≢ c.body) × (v ≡ c.version)
AnswersOwn h c (Err Full) = ⊥
AnswersOwn h c (Err NoRoom) = ⊥

-- The answer to a change that is void or isn't. A void one is Stale, whatever else applies; P describes the answer to
-- any other.
abbrev pub UnlessVoid : Bool → Type 0 → Result Merge JoinFault → Type 0
UnlessVoid true P answer = answer ≡ Ok Stale
UnlessVoid false P answer = P

-- The answer where `h` is held for the key. Another owner is judged first, then whether `c` is void.
abbrev pub AnswersHeld : ChangeRecord → Bool → ChangeRecord → Result Merge JoinFault → Type 0
AnswersHeld h void c answer =
    ((h.owner ≢ c.owner) × (answer ≡ Err NotOwner)) ⊎ ((h.owner ≡ c.owner) × UnlessVoid void (AnswersOwn h c answer) answer)

-- The answer by what is held for the key, whether the change is void, and the counts of held and allowed keys.
abbrev pub AnswersFor : Option ChangeRecord → Bool → ℕ → ℕ → ChangeRecord → Result Merge JoinFault → Type 0
AnswersFor None void count most c answer = UnlessVoid void (AnswersNew count most answer) answer
AnswersFor (Some h) void count most c answer = AnswersHeld h void c answer

-- The answer to the merge of a change.
abbrev pub MergeAnswer : Holding → ChangeRecord → Result Merge JoinFault → Type 0
MergeAnswer old c answer = AnswersFor (held_for old c.key) (is_void_at old c) (held_count old) old.limits.keys c answer

-- The holding after the answer: a change that is taken is at its key; otherwise nothing changes.
abbrev pub after_merge : Holding → ChangeRecord → Result Merge JoinFault → Holding
after_merge old c (Ok Taken) = record { floors = old.floors; changes = insert old.changes c.key c; limits = old.limits }
after_merge old c (Ok Known) = old
after_merge old c (Ok Stale) = old
after_merge old c (Err fault) = old

-- Whether taking a copy of the change takes memory: its key isn't held, or the copy of its body takes some.
abbrev pub ChangeTakesMemory : Holding → ChangeRecord → Type 0
ChangeTakesMemory held c = (held_for held c.key ≡ None) ⊎ BodyCopyTakesMemory c.body

-- Whether the borrowed change is refused by this fault: NoRoom only if it would be taken and takes memory.
abbrev pub IsMergeRefused : Holding → ChangeRecord → JoinFault → Type 0
IsMergeRefused held c NotOwner = MergeAnswer held c (Err NotOwner)
IsMergeRefused held c (Clash v) = MergeAnswer held c (Err (Clash v))
IsMergeRefused held c Full = MergeAnswer held c (Err Full)
IsMergeRefused held c NoRoom = MergeAnswer held c (Ok Taken) × ChangeTakesMemory held c
