-- Reading the put of another kind than a label's from its value on.
use Rattle.std.proofs.Common.{◌≢◌, ℕ, suc, List, [], ◌∷◌, length, Ok, Err, refl, sym, subst}
use Rattle.ds_names.specs.declared.kind.Kind.TheVariants.{Label}
use Rattle.ds_names.specs.declared.key.Key.{Key}
use Rattle.ds_names.specs.declared.version.Version.{Version}
use Rattle.ds_entry.specs.declared.body.Value.{Value}
use Rattle.ds_entry.specs.declared.body.Body.TheVariants.{Put}
use Rattle.ds_entry.specs.Change.{change_of, IsChange}
use Rattle.ds_line.specs.Part.{Part}
use Rattle.ds_line.specs.Spelling.{newline, value_part}
use Rattle.ds_line.specs.FaultPlace.{Stand}
use Rattle.ds_line.specs.Reading.{HasValue, ChangeStops, up_to_value, Completes, ReadsChange}
use Rattle.ds_line.specs.Piece.{Found, Breaks, IsValueOf, last_value, StopsValue}
use Rattle.ds_line.specs.declared.part_fault.PartFault.{PartFault}
use Rattle.ds_line.specs.declared.part_fault.PartFault.TheVariants.{BadPart, NoRoom}
use Rattle.ds_line.proofs.LabelLemmas.{other_put}
use Rattle.ds_line.proofs.BodyLemmas.{put_known}
use Rattle.ds_line.proofs.PieceLemmas.{stand_texts}

-- a put of any value of the kind
pub other_is : (key : Key) (owner : List ℕ) (version : Version) (value : Value) → key.kind ≢ Label → HasValue key owner version →
    IsValueOf key.kind value → IsChange (change_of key owner version (Put value))
other_is key owner version value other has is = other_put key owner version value other has is.valid is.of

other_breaks : (key : Key) (owner : List ℕ) (version : Version) (bytes rest : List ℕ) → key.kind ≢ Label → HasValue key owner version →
    Breaks (last_value key.kind) bytes rest → ChangeStops (up_to_value key owner version) bytes rest
other_breaks key owner version bytes rest other has s =
    record {
      count = s.count;
      member = change_of key owner version (Put s.thing);
      is = other_is key owner version s.thing other has s.can;
      further = value_part s.thing ∷ newline ∷ [];
      split = refl;
      front = s.front;
      most = λ c more after is eq h.
          let k = put_known key owner version c more has.1.epoch has.1.seq is eq in
          s.most k.0 after (record { valid = k.1.body; of = k.1.kind })
          (subst (λ (x : List Part). Stand (suc s.count) x bytes after) (sym k.2) h);
      none = λ c more after is eq h.
          let k = put_known key owner version c more has.1.epoch has.1.seq is eq in
          s.none k.0 after (record { valid = k.1.body; of = k.1.kind })
          (subst (λ (x : List Part). Stand (length x) x bytes after) (sym k.2) h);
    }

other_completes : (key : Key) (owner : List ℕ) (version : Version) (value : Value) (bytes rest : List ℕ) → key.kind ≢ Label →
    HasValue key owner version → Found (last_value key.kind) value bytes rest
    → Completes (up_to_value key owner version) (change_of key owner version (Put value)) bytes rest
other_completes key owner version value bytes rest other has f =
    record {
      change = other_is key owner version value other has f.can;
      further = value_part value ∷ newline ∷ [];
      split = refl;
      text =
          stand_texts (value_part value ∷ newline ∷ []) bytes rest f.front;
    }

-- no value is read
pub other_stops : (key : Key) (owner : List ℕ) (version : Version) (bytes : List ℕ) (stop : PartFault) → key.kind ≢ Label →
    HasValue key owner version →
    StopsValue key.kind stop bytes → ReadsChange (up_to_value key owner version) bytes (Err stop)
other_stops key owner version bytes (BadPart left) other has s = (s.0, other_breaks key owner version bytes s.0 other has s.1, s.2)
other_stops key owner version bytes NoRoom other has s =
    record {
      put = change_of key owner version (Put s.0);
      rest = s.1;
      completes =
          other_completes key owner version s.0 bytes s.1 other has s.2;
      value = s.3;
    }

-- the value and the newline are read
pub other_whole : (key : Key) (owner : List ℕ) (version : Version) (value : Value) (bytes rest : List ℕ) → key.kind ≢ Label →
    HasValue key owner version → Found (last_value key.kind) value bytes rest
    → ReadsChange (up_to_value key owner version) bytes (Ok (change_of key owner version (Put value), length rest))
other_whole key owner version value bytes rest other has f = (rest, other_completes key owner version value bytes rest other has f, refl)
