-- How a bridge judges, from two looks at a stream, whether its server lost something.
use Rattle.std.specs.Prelude.{◌≡◌, ℕ, ◌≤◌, ◌<◌, ◌==◌, nat_lt, Bool, true, false, not, ◌||◌, ◌&&◌, List, [], Contains}
use Rattle.std.specs.List.{list_any}
use Rattle.history.specs.History.{Path}
use Rattle.fleet_loss.specs.Stream.{Stream, missing, IsRepresented, Deed, stream_after, StreamDoes}
use Rattle.fleet_loss.specs.Stream.Deed.{Compacts}

-- Whether the stream has less than at the look before.
abbrev pub has_less : Stream → Stream → Bool
has_less s t =
    nat_lt t.end s.end ||
    (nat_lt (missing s) (missing t) || (nat_lt t.added s.added || (nat_lt t.bytes s.bytes && not (nat_lt s.end t.end))))

-- Whether an entry that was added or read is neither in the stream nor represented by the snapshot.
abbrev pub lacks : Stream → ℕ → Bool
lacks t w = nat_lt t.end w && not (list_any (λ id. id == w) t.entries)

-- Whether a bridge that saw the stream as `s`, and had read up to `read` then, judges that its server lost something.
abbrev pub judges_lost : Stream → ℕ → List ℕ → Stream → Bool
judges_lost s read probes t = nat_lt t.generated read || (has_less s t || list_any (lacks t) probes)

-- A law: whatever a server did that loses nothing, no bridge judges that it lost something.
abbrev pub NoFalseAlarm : Type 0
NoFalseAlarm =
    (s t : Stream) (deeds : List Deed) (read : ℕ) (probes : List ℕ) → Path StreamDoes s deeds t → read ≤ s.generated →
    ((w : ℕ) → Contains probes w → IsRepresented s w) → judges_lost s read probes t ≡ false

-- A law: a stream that lacks a probed entry is judged to have lost something, whatever it counts.
abbrev pub LacksAreSeen : Type 0
LacksAreSeen =
    (s t : Stream) (read w : ℕ) (probes : List ℕ) → Contains probes w → (Contains t.entries w → ⊥) → t.end < w →
    judges_lost s read probes t ≡ true

-- A law: so is a stream whose ids begin anew below those that were read.
abbrev pub SmallerIdsAreSeen : Type 0
SmallerIdsAreSeen = (s t : Stream) (read : ℕ) (probes : List ℕ) → t.generated < read → judges_lost s read probes t ≡ true

-- A law: a compaction to the end of the one before can be taken for a loss, though it loses nothing.
abbrev pub SameEndAlarms : Type 0
SameEndAlarms = (s : Stream) × (bytes : ℕ) × (judges_lost s 0 [] (stream_after s (Compacts s.end bytes)) ≡ true)

-- A law: a server that lost everything and got new entries can be judged to have lost nothing, if no entry is probed.
abbrev pub CountsAreNotEnough : Type 0
CountsAreNotEnough =
    (s : Stream) × (t : Stream) × (judges_lost s s.generated [] t ≡ false) × ((w : ℕ) → Contains s.entries w → Contains t.entries w → ⊥) ×
    (s.end ≡ 0) × (t.end ≡ 0) × (s.added ≡ 1)
