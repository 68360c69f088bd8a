-- No number is drawn twice.
use Rattle.std.specs.Prelude.{◌≡◌, ◌⊎◌, ◌<◌, false, List, [], ◌∷◌, Contains}
use Rattle.ds_names.specs.declared.version.Version.{Version}
use Rattle.ds_names.specs.Kind.{is_label}
use Rattle.ds_entry.specs.Change.{ChangeRecord}

-- Whether a version comes before another: by epoch, then by number.
abbrev pub IsBefore : Version → Version → Type 0
IsBefore v w = (v.epoch < w.epoch) ⊎ ((v.epoch ≡ w.epoch) × (v.seq < w.seq))

-- Whether, of two entries of one owner, the version of the first comes before that of the second.
abbrev pub IsDrawnBefore : ChangeRecord → ChangeRecord → Type 0
IsDrawnBefore c d = is_label c.key.kind ≡ false → is_label d.key.kind ≡ false → c.owner ≡ d.owner → IsBefore c.version d.version

-- Whether, of two entries of one owner, the later one has the later version, so that no number is drawn for both.
abbrev pub NumbersAreDrawnOnce : List ChangeRecord → Type 0
NumbersAreDrawnOnce [] = Unit {0}
NumbersAreDrawnOnce (c ∷ made) = ((d : ChangeRecord) → Contains made d → IsDrawnBefore c d) × NumbersAreDrawnOnce made
