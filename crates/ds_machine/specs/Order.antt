-- The one order in which all causes against a command are judged.
use Rattle.std.specs.Prelude.{Bool, List, [], ◌∷◌, ◌++◌, Option, Some, None, map}
use Rattle.std.specs.List.{find}
use Rattle.ds_names.specs.declared.version.Version.{Version}
use Rattle.ds_machine.specs.declared.refusal.Cause.{Cause}
use Rattle.ds_machine.specs.declared.refusal.Cause.TheVariants.{Known, Refused}
use Rattle.ds_machine.specs.declared.refusal.Refusal.{Refusal}
use Rattle.ds_machine.specs.declared.refusal.Refusal.TheVariants.{BadSub, TooMany, TooLong, BadPattern, BadKind, BadLabel}
use Rattle.ds_machine.specs.declared.refusal.Refusal.TheVariants.{BadVersion, NoCaller, NotAllowed, NotOwner, Clash, Stale}
use Rattle.ds_machine.specs.declared.refusal.Refusal.TheVariants.{Exists, NotFound, OldCursor, Ahead, Behind, Full, Worn}

-- The causes that need only the command and its caller. They come first.
abbrev pub by_command : List Refusal
by_command = BadSub ∷ TooMany ∷ TooLong ∷ BadPattern ∷ BadKind ∷ BadLabel ∷ BadVersion ∷ NoCaller ∷ NotAllowed ∷ []

-- The cause of a version clash. A floor has no version, so it can't clash.
abbrev pub clashes : Option Version → List Cause
clashes None = []
clashes (Some v) = Refused (Clash v) ∷ []

-- The causes that depend on what is held for the key or the owner; a repeat is Known. They come second, for a change or
-- a floor.
abbrev pub by_version : Option Version → List Cause
by_version v = Refused NotOwner ∷ (clashes v ++ Refused Stale ∷ Known ∷ [])

-- The causes that depend on what exists, on the journal and on the limits. They come last.
abbrev pub by_room : List Refusal
by_room = Exists ∷ NotFound ∷ OldCursor ∷ Ahead ∷ Behind ∷ Full ∷ Worn ∷ []

-- The first cause that applies to a command with a change of this version, or with a floor.
abbrev pub first_cause : Option Version → (Cause → Bool) → Option Cause
first_cause v stands = find stands (map Refused by_command ++ by_version v ++ map Refused by_room)

-- The first refusal that applies to a command that has neither.
abbrev pub first_refusal : (Refusal → Bool) → Option Refusal
first_refusal stands = find stands (by_command ++ by_room)
