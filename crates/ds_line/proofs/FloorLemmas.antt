-- Reading a floor: each part is missing where it is expected, or is read there.
use Rattle.std.proofs.Common.{◌≡◌, ◌≢◌, ℕ, zero, suc, ◌-◌, ◌<◌, ◌≤◌, List, [], ◌∷◌, ◌++◌, length, take, drop, Ok, Err, refl, sym, ap, subst}
use Rattle.std.proofs.Common.{◌∙◌, length-append, arith}
use Rattle.std.specs.Char.{is_ascii_digit}
use Rattle.std.specs.Fmt.{decimal}
use Rattle.std.proofs.lemmas.List.{take_at}
use Rattle.ds_names.specs.Name.{is_name_byte, IsName, rs_name}
use Rattle.ds_names.specs.Run.{Begins}
use Rattle.ds_entry.specs.Floor.{floor_of, IsFloor}
use Rattle.ds_entry.specs.declared.floor.Floor.{Floor}
use Rattle.ds_line.specs.Part.{Part, texts}
use Rattle.ds_line.specs.ItemSpelling.{floor_parts}
use Rattle.ds_line.specs.FaultPlace.{Stand}
use Rattle.ds_line.specs.Piece.{Found, Breaks}
use Rattle.ds_line.specs.FloorPiece.{a_floor, ReadsFloor}
use Rattle.ds_line.specs.declared.part_fault.PartFault.{PartFault}
use Rattle.ds_line.specs.declared.part_fault.PartFault.TheVariants.{BadPart}
use Rattle.ds_line.proofs.PartLemmas.{byte_begins}
use Rattle.ds_line.proofs.LabelLemmas.{rs_is_name}
use Rattle.ds_line.proofs.LineLemmas.{stand_length}
use Rattle.ds_line.proofs.PieceLemmas.{stand_texts}
use Rattle.ds_line.proofs.ApartLemmas.{AllTexts, Alike}
use Rattle.ds_line.proofs.PlaceLemmas.{alike_agree, same_rest, fewer}

pub floor_texts : (f : Floor) → IsFloor f → AllTexts (floor_parts f)
floor_texts f is = (refl, (refl, (is.owner.allowed, (refl, ((f.generation, omega (arith, is.generation), refl), (refl, tt))))))

pub floors_alike : (f g : Floor) → Alike (floor_parts f) (floor_parts g)
floors_alike f g = (refl, λ _. (refl, λ _. (refl, λ _. (refl, λ _. (refl, λ _. (refl, λ _. tt))))))

-- After equally many parts of two floors, the rest is the same.
pub floors_rest : (f g : Floor) (count : ℕ) (bytes r s : List ℕ) → IsFloor f → IsFloor g → Stand count (floor_parts f) bytes r →
    Stand count (floor_parts g) bytes s → r ≡ s
floors_rest f g count bytes r s is_f is_g a b =
    same_rest count (floor_parts f) (floor_parts g) bytes r s (floor_texts f is_f) (floor_texts g is_g)
    (alike_agree (floor_parts f) (floor_parts g) (floors_alike f g)) a b

-- The last of the parts that are there.
last_stands : (k : ℕ) (parts : List Part) (bytes after : List ℕ) → Stand (suc k) parts bytes after →
    (mid : List ℕ) × Stand k parts bytes mid × Stand 1 (drop k parts) mid after
last_stands zero parts bytes after h = (bytes, refl, h)
last_stands (suc k) [] bytes after h = absurd h
last_stands (suc k) (p ∷ parts) bytes after h = let m = last_stands k parts h.0 after h.2 in (m.0, (h.0, h.1, m.1), m.2)

-- After the first parts of a floor, no floor's next part is there.
breaks_after : (k : ℕ) (f : Floor) (bytes r : List ℕ) → k < 6 → IsFloor f → Stand k (floor_parts f) bytes r →
    ((g : Floor) (after : List ℕ) → IsFloor g → ¬ Stand 1 (drop k (floor_parts g)) r after) → Breaks a_floor bytes r
breaks_after k f bytes r lt is front none =
    record {
      count = k;
      thing = f;
      can = is;
      front = front;
      most = most;
      none = λ g after is_g h. let n =
          fewer (suc k) 6 (floor_parts g) bytes after (omega (arith, lt)) h in most g n.0 is_g n.1;
    }
  where
    most : (g : Floor) (after : List ℕ) → IsFloor g → ¬ Stand (suc k) (floor_parts g) bytes after
    most g after is_g h =
        let m = last_stands k (floor_parts g) bytes after h in
        none g after is_g (subst (λ (x : List ℕ). Stand 1 (drop k (floor_parts g)) x after)
        (floors_rest g f k bytes m.0 r is_g is m.1 front) m.2)

-- the reader stops there
reads_stop : (bytes rest : List ℕ) (stop : PartFault) → stop ≡ BadPart (length rest) → Breaks a_floor bytes rest →
    ReadsFloor bytes (Err stop)
reads_stop bytes rest stop at b = subst (λ (s : PartFault). ReadsFloor bytes (Err s)) (sym at) (rest, b, refl)

-- a floor with the owner
with_owner : (n : List ℕ) → IsName n → IsFloor (floor_of n 0)
with_owner n name = record { owner = name; generation = omega arith }

pub mark_missing : (bytes : List ℕ) (stop : PartFault) → stop ≡ BadPart (length bytes) → ((rest : List ℕ) → bytes ≢ 33 ∷ rest) →
    ReadsFloor bytes (Err stop)
mark_missing bytes stop at none =
    reads_stop bytes bytes stop at (breaks_after 0 (floor_of rs_name 0) bytes bytes (omega arith) (with_owner rs_name rs_is_name) refl
    (λ g after is h. none h.0 h.1.parts))

-- The parts up to the owner.
up_to_owner : (f : Floor) (bytes r s : List ℕ) → bytes ≡ 33 ∷ r → r ≡ 32 ∷ s → Stand 2 (floor_parts f) bytes s
up_to_owner f bytes r s mark gap = (r, byte_begins 33 bytes r mark, (s, byte_begins 32 r s gap, refl))

pub owner_space_missing : (bytes r : List ℕ) (stop : PartFault) → stop ≡ BadPart (length r) → bytes ≡ 33 ∷ r →
    ((rest : List ℕ) → r ≢ 32 ∷ rest) → ReadsFloor bytes (Err stop)
owner_space_missing bytes r stop at mark none =
    reads_stop bytes r stop at (breaks_after 1 (floor_of rs_name 0) bytes r (omega arith) (with_owner rs_name rs_is_name)
    (r, byte_begins 33 bytes r mark, refl) (λ g after is h. none h.0 h.1.parts))

pub owner_missing : (bytes r s : List ℕ) (stop : PartFault) → stop ≡ BadPart (length s) → bytes ≡ 33 ∷ r → r ≡ 32 ∷ s →
    ((name rest : List ℕ) → IsName name → ¬ Begins is_name_byte s name rest) → ReadsFloor bytes (Err stop)
owner_missing bytes r s stop at mark gap none =
    reads_stop bytes s stop at (breaks_after 2 (floor_of rs_name 0) bytes s (omega arith) (with_owner rs_name rs_is_name)
    (up_to_owner (floor_of rs_name 0) bytes r s mark gap) (λ g after is h. none g.owner h.0 is.owner h.1))

-- The parts up to the generation.
up_to_space : (f : Floor) (bytes r s t : List ℕ) → bytes ≡ 33 ∷ r → r ≡ 32 ∷ s → Begins is_name_byte s f.owner t →
    Stand 3 (floor_parts f) bytes t
up_to_space f bytes r s t mark gap name = (r, byte_begins 33 bytes r mark, (s, byte_begins 32 r s gap, (t, name, refl)))

up_to_generation : (f : Floor) (bytes r s t u : List ℕ) → bytes ≡ 33 ∷ r → r ≡ 32 ∷ s → Begins is_name_byte s f.owner t → t ≡ 32 ∷ u →
    Stand 4 (floor_parts f) bytes u
up_to_generation f bytes r s t u mark gap name space_is =
    (r, byte_begins 33 bytes r mark, (s, byte_begins 32 r s gap, (t, name, (u, byte_begins 32 t u space_is, refl))))

pub generation_space_missing : (n bytes r s t : List ℕ) (stop : PartFault) → stop ≡ BadPart (length t) → bytes ≡ 33 ∷ r → r ≡ 32 ∷ s →
    IsName n → Begins is_name_byte s n t → ((rest : List ℕ) → t ≢ 32 ∷ rest) → ReadsFloor bytes (Err stop)
generation_space_missing n bytes r s t stop at mark gap is name none =
    reads_stop bytes t stop at (breaks_after 3 (floor_of n 0) bytes t (omega arith) (with_owner n is)
    (up_to_space (floor_of n 0) bytes r s t mark gap name) (λ g after is_g h. none h.0 h.1.parts))

pub generation_missing : (n bytes r s t u : List ℕ) (stop : PartFault) → stop ≡ BadPart (length u) → bytes ≡ 33 ∷ r → r ≡ 32 ∷ s →
    IsName n → Begins is_name_byte s n t → t ≡ 32 ∷ u
    → ((number : ℕ) (rest : List ℕ) → number ≤ 2097151 → ¬ Begins is_ascii_digit u (decimal number) rest) → ReadsFloor bytes (Err stop)
generation_missing n bytes r s t u stop at mark gap is name space_is none =
    reads_stop bytes u stop at (breaks_after 4 (floor_of n 0) bytes u (omega arith) (with_owner n is)
    (up_to_generation (floor_of n 0) bytes r s t u mark gap name space_is) (λ g after is_g h. none g.generation h.0 is_g.generation h.1))

-- The parts up to the newline.
up_to_newline : (f : Floor) (bytes r s t u v : List ℕ) → bytes ≡ 33 ∷ r → r ≡ 32 ∷ s → Begins is_name_byte s f.owner t → t ≡ 32 ∷ u →
    Begins is_ascii_digit u (decimal f.generation) v → Stand 5 (floor_parts f) bytes v
up_to_newline f bytes r s t u v mark gap name space_is number =
    (r, byte_begins 33 bytes r mark, (s, byte_begins 32 r s gap, (t, name, (u, byte_begins 32 t u space_is, (v, number, refl)))))

pub newline_missing : (n : List ℕ) (g : ℕ) (bytes r s t u v : List ℕ) (stop : PartFault) → stop ≡ BadPart (length v) → bytes ≡ 33 ∷ r →
    r ≡ 32 ∷ s → IsName n → Begins is_name_byte s n t → t ≡ 32 ∷ u
    → g ≤ 2097151 → Begins is_ascii_digit u (decimal g) v → ((rest : List ℕ) → v ≢ 10 ∷ rest) → ReadsFloor bytes (Err stop)
newline_missing n g bytes r s t u v stop at mark gap is name space_is most number none =
    reads_stop bytes v stop at
    (breaks_after 5 (floor_of n g) bytes v (omega arith) (record { owner = is; generation = most })
    (up_to_newline (floor_of n g) bytes r s t u v mark gap name space_is number) (λ h after is_h st. none st.0 st.1.parts))

pub floor_whole : (n : List ℕ) (g : ℕ) (bytes r s t u v w : List ℕ) → bytes ≡ 33 ∷ r → r ≡ 32 ∷ s → IsName n → Begins is_name_byte s n t →
    t ≡ 32 ∷ u
    → g ≤ 2097151 → Begins is_ascii_digit u (decimal g) v → v ≡ 10 ∷ w → ReadsFloor bytes (Ok (floor_of n g, length w))
floor_whole n g bytes r s t u v w mark gap is name space_is most number end = (
  w,
  record {
    can = record { owner = is; generation = most };
    front = (
      r,
      byte_begins 33 bytes r mark,
      (
        s,
        byte_begins 32 r s gap,
        (t, name, (u, byte_begins 32 t u space_is, (v, number, (w, byte_begins 10 v w end, refl)))),
      ),
    );
  },
  refl,
)

-- ---- what was read

pub floor_left : (f : Floor) (bytes rest : List ℕ) → Found a_floor f bytes rest → length rest ≤ length bytes
floor_left f bytes rest found = stand_length 6 (floor_parts f) bytes rest found.front

text_taken : (text rest : List ℕ) (left : ℕ) → length rest ≡ left →
    (take (length (text ++ rest) - left) (text ++ rest) ≡ text) × (length (text ++ rest) - left ≡ length text)
text_taken text rest left is =
    let long : length (text ++ rest) - left ≡ length text = omega (arith, length-append text rest, is) in
    (ap (λ (k : ℕ). take k (text ++ rest)) long ∙ take_at text rest (length text) refl, long)

-- the line of the floor is what was taken
pub floor_taken : (f : Floor) (bytes rest : List ℕ) (left : ℕ) → Found a_floor f bytes rest → length rest ≡ left →
    (take (length bytes - left) bytes ≡ texts (floor_parts f)) × (length bytes - left ≡ length (texts (floor_parts f)))
floor_taken f bytes rest left found is =
    let text : bytes ≡ texts (floor_parts f) ++ rest = stand_texts (floor_parts f) bytes rest found.front in
    subst (λ (b : List ℕ). (take (length b - left) b ≡ texts (floor_parts f)) × (length b - left ≡ length (texts (floor_parts f))))
    (sym text) (text_taken (texts (floor_parts f)) rest left is)

pub break_left : (bytes rest : List ℕ) → Breaks a_floor bytes rest → length rest ≤ length bytes
break_left bytes rest b = stand_length b.count (floor_parts b.thing) bytes rest b.front
