-- Ranges of pages: one is missing, or it is read.
use Rattle.std.proofs.Common.{◌≡◌, ◌≢◌, ℕ, suc, zero, ◌<◌, ◌≤◌, ◌^◌, List, [], ◌∷◌, ◌++◌, length, Option, None, Some, is_some, IfSome}
use Rattle.std.proofs.Common.{IfNone, IsTrue, Bool, refl, sym, ap, subst, ◌∙◌, drop, arith}
use Rattle.std.specs.Char.{is_ascii_digit, is_ascii_alphanumeric}
use Rattle.std.specs.Fmt.{decimal}
use Rattle.std.proofs.lemmas.Bool.{false≢true}
use Rattle.std.proofs.lemmas.Fmt.{decimal_nonempty, digits_decimal}
use Rattle.ds_names.specs.Name.{is_name_byte, IsName}
use Rattle.ds_names.specs.Run.{Begins}
use Rattle.ds_names.specs.declared.key.Key.{Key}
use Rattle.ds_names.specs.declared.kind.Kind.{Kind}
use Rattle.ds_names.specs.declared.kind.Kind.TheVariants.{Label, U32, Str, Mem}
use Rattle.ds_names.proofs.DecimalLemmas.{own, value_more}
use Rattle.ds_line.specs.Part.{Part, part, Word, Name, Number}
use Rattle.ds_line.specs.Spelling.{space, kind_word}
use Rattle.ds_line.specs.FaultPlace.{Stand}
use Rattle.ds_line.specs.Piece.{Piece, Found, Breaks, StopsIn}
use Rattle.ds_line.specs.declared.part_fault.PartFault.{PartFault}
use Rattle.ds_line.specs.declared.part_fault.PartFault.TheVariants.{BadPart, NoRoom}
use Rattle.ds_line.proofs.PartLemmas.{byte_begins}
use Rattle.ds_line.proofs.OpeningLemmas.{text_at, word_is_word, word_one}
use Rattle.ds_line.proofs.PieceLemmas.{One, Fixed, Views, past, one_by, view_found, view_stops, first_stops, then_stops, then_breaks}
use Rattle.ds_line.proofs.PieceLemmas.{both_found, count_fits}
use Rattle.script_commands.specs.Pieces.{a_name, a_kind, a_number}
use Rattle.script_commands.specs.Page.{no_key, IsAfter, range_parts, a_range}
use Rattle.script_commands.proofs.PieceLemmas.{name_fixed, name_one, number_one}
use Rattle.script_commands.proofs.OneLemmas.{one_after, one_view}
use Rattle.script_commands.proofs.OpenLemmas.{Apart, first_counts}
use Rattle.script_commands.proofs.WorldPieceLemmas.{first_byte}

no_key_is : IsName no_key
unfolding is_name_byte
no_key_is = record { some = omega arith; limit = omega arith; allowed = refl }

-- ---- what follows the name

abbrev MayFollow : List ℕ → Option Kind → Type 0
MayFollow name None = name ≡ no_key
MayFollow name (Some kind) = Unit {0}

abbrev follow_parts : Option Kind → ℕ → List Part
follow_parts None max = space ∷ part Number (decimal max) ∷ []
follow_parts (Some kind) max = space ∷ part Word (kind_word kind) ∷ space ∷ part Number (decimal max) ∷ []

-- a kind, if the name is a key's, and the most changes
abbrev pub a_follow : List ℕ → Piece
a_follow name = record {
  Of = Option Kind × ℕ;
  Can = λ (x : Option Kind × ℕ). MayFollow name x.0 × (x.1 < 2 ^ 32);
  parts = λ (x : Option Kind × ℕ). follow_parts x.0 x.1;
}

abbrev after_of : List ℕ → Option Kind → Option Key
after_of name None = None
after_of name (Some kind) = Some (record { name = name; kind = kind })

after_can : (name : List ℕ) (kind : Option Kind) → IsName name → IsAfter (after_of name kind)
after_can name None is = tt
after_can name (Some kind) is = is

same_parts : (name : List ℕ) (kind : Option Kind) (max : ℕ) → MayFollow name kind →
    space ∷ range_parts (after_of name kind) max ≡ space ∷ part Name name ∷ follow_parts kind max
same_parts name None max is = ap (λ (t : List ℕ). space ∷ part Name t ∷ follow_parts None max) (sym is)
same_parts name (Some kind) max is = refl

abbrev named : Piece
named = past a_name a_follow

range_from : (b : Option Key × ℕ) → a_range.Can b → (a : named.Of) × named.Can a × (named.parts a ≡ a_range.parts b)
range_from (None, max) can = ((no_key, (None, max)), (no_key_is, (refl, can.1)), refl)
range_from (Some key, max) can = ((key.name, (Some key.kind, max)), (can.0, (tt, can.1)), refl)

abbrev range_view : Views named a_range
range_view = record {
  to = λ x. (after_of x.0 x.1.0, x.1.1);
  can = λ x can. (after_can x.0 x.1.0 can.0, can.1.1);
  parts = λ x can. same_parts x.0 x.1.0 x.1.1 can.1.0;
  from = range_from;
}

-- ---- no number begins where a kind's word does

high_first : (kind : Kind) → 57 < first_byte (kind_word kind)
high_first Label = omega arith
high_first U32 = omega arith
high_first Str = omega arith
high_first Mem = omega arith

long_word : (kind : Kind) → 0 < length (kind_word kind)
long_word Label = omega arith
long_word U32 = omega arith
long_word Str = omega arith
long_word Mem = omega arith

first_of : (t s r : List ℕ) → t ≡ s ++ r → 0 < length s → first_byte t ≡ first_byte s
first_of t [] r is some = absurd (omega (arith, some))
first_of t (c ∷ s) r is some = ap first_byte is

no_both : (bytes r s : List ℕ) (kind : Kind) (max : ℕ) → max < 2 ^ 32 → Begins is_ascii_alphanumeric bytes (kind_word kind) r →
    ¬ Begins is_ascii_digit bytes (decimal max) s
no_both bytes r s kind max most word number =
    let fits : max < 2 ^ 64 = omega (arith, most) in
    let some = decimal_nonempty max fits in
    let one = first_of bytes (kind_word kind) r word.parts (long_word kind) in
    let two = first_of bytes (decimal max) s number.parts some in
    omega (arith, one, two, high_first kind, (value_more (decimal max) 0 some (digits_decimal own max fits)).1)

-- the rest after one byte is unique
byte_same : (b : ℕ) (bytes r s : List ℕ) → bytes ≡ b ∷ r → bytes ≡ b ∷ s → r ≡ s
byte_same b bytes r s x y = ap (drop 1) (sym x ∙ y)

-- a kind and a number are never at one place
not_both : (kind : Kind) (max : ℕ) (bytes r s : List ℕ) → Found a_kind kind bytes r → Found a_number max bytes s → ⊥
not_both kind max bytes r s word number =
    let same : word.front.0 ≡ number.front.0 = byte_same 32 bytes word.front.0 number.front.0 word.front.1.parts number.front.1.parts in
    no_both number.front.0 word.front.2.0 number.front.2.0 kind max number.can
    (subst (λ (t : List ℕ). Begins is_ascii_alphanumeric t (kind_word kind) word.front.2.0) same word.front.2.1) number.front.2.1

-- a space and the kind's word come next if more parts do
kind_of_more : (k : ℕ) (kind : Kind) (max : ℕ) (bytes rest : List ℕ) → Stand (suc (suc k)) (follow_parts (Some kind) max) bytes rest →
    (r : List ℕ) × Found a_kind kind bytes r
kind_of_more k kind max bytes rest h = (h.2.0, record { can = tt; front = (h.0, h.1, (h.2.0, h.2.1, refl)) })

-- ---- after `-`, without a kind

abbrev pub NoKind : List ℕ → Type 0
NoKind bytes = (kind : Kind) (rest : List ℕ) → ¬ Found a_kind kind bytes rest

max_most : (name bytes after : List ℕ) (s_count : ℕ) → NoKind bytes →
    ((max : ℕ) (end : List ℕ) → a_number.Can max → ¬ Stand (suc s_count) (a_number.parts max) bytes end)
    → (x : Option Kind × ℕ) → (a_follow name).Can x → Stand (suc s_count) ((a_follow name).parts x) bytes after → ⊥
max_most name bytes after s_count none most (None, max) can h = most max after can.1 h
max_most name bytes after zero none most (Some kind, max) can h = most max after can.1 h
max_most name bytes after (suc k) none most (Some kind, max) can h = let there = kind_of_more k kind max bytes after h in
    none kind there.0 there.1

max_none : (name bytes after : List ℕ) → NoKind bytes →
    ((max : ℕ) (end : List ℕ) → a_number.Can max → ¬ Stand (length (a_number.parts max)) (a_number.parts max) bytes end)
    → (x : Option Kind × ℕ) → (a_follow name).Can x → Stand (length ((a_follow name).parts x)) ((a_follow name).parts x) bytes after → ⊥
max_none name bytes after none number (None, max) can h = number max after can.1 h
max_none name bytes after none number (Some kind, max) can h = let there = kind_of_more 2 kind max bytes after h in
    none kind there.0 there.1

max_breaks : (name bytes rest : List ℕ) → name ≡ no_key → NoKind bytes → Breaks a_number bytes rest → Breaks (a_follow name) bytes rest
max_breaks name bytes rest is none s =
    record {
      count = s.count;
      thing = (None, s.thing);
      can = (is, s.can);
      front = s.front;
      most = λ x after can h. max_most name bytes after s.count none s.most x can h;
      none = λ x after can h. max_none name bytes after none s.none x can h;
    }

-- the number after `-` is missing
pub follow_max_stops : (name : List ℕ) (stop : PartFault) (bytes : List ℕ) → name ≡ no_key → NoKind bytes → stop ≢ NoRoom →
    StopsIn a_number stop bytes → StopsIn (a_follow name) stop bytes
follow_max_stops name (BadPart left) bytes is none room s = (s.0, max_breaks name bytes s.0 is none s.1, s.2)
follow_max_stops name NoRoom bytes is none room s = absurd (room refl)

-- ---- a kind is needed

abbrev with_kind : Piece
with_kind = past a_kind (λ (_ : Kind). a_number)

kind_fixed : Fixed a_kind 2
kind_fixed kind = refl

kind_one : One a_kind
kind_one = one_by a_kind (λ a b is_a is_b. (refl, λ _. (refl, λ _. tt))) (λ a is. (refl, (word_is_word a, tt)))
    (λ a b is_a is_b same. word_one a b (ap (text_at 1) same))

kind_from : (name : List ℕ) → name ≢ no_key → (b : Option Kind × ℕ) → (a_follow name).Can b →
    (a : with_kind.Of) × with_kind.Can a × (with_kind.parts a ≡ (a_follow name).parts b)
kind_from name other (None, max) can = absurd (other can.0)
kind_from name other (Some kind, max) can = ((kind, max), (tt, can.1), refl)

kind_missing : (name : List ℕ) (stop : PartFault) (bytes : List ℕ) → name ≢ no_key → stop ≢ NoRoom → StopsIn a_kind stop bytes →
    StopsIn (a_follow name) stop bytes
kind_missing name stop bytes other room s =
    view_stops with_kind (a_follow name) (record
    { to = λ x. (Some x.0, x.1); can = λ x can. (tt, can.1); parts = λ x can. refl; from = kind_from name other }) stop bytes
    (first_stops a_kind (λ _. a_number) 2 stop bytes kind_fixed (λ kind can. (0, omega arith)) room s)

missing_kind : (stop : PartFault) (bytes : List ℕ) → stop ≢ NoRoom → StopsIn a_kind stop bytes → NoKind bytes
missing_kind (BadPart left) bytes room s = λ kind rest found. s.1.none kind rest tt found.front
missing_kind NoRoom bytes room s = absurd (room refl)

-- the kind is missing, after a name that isn't `-` or has a kind after it
pub follow_kind_stops : (name : List ℕ) (stop : PartFault) (bytes : List ℕ) → (name ≡ no_key → NoKind bytes → ⊥) → stop ≢ NoRoom →
    StopsIn a_kind stop bytes → StopsIn (a_follow name) stop bytes
follow_kind_stops name stop bytes other room s = kind_missing name stop bytes (λ is. other is (missing_kind stop bytes room s)) room s

-- ---- a kind is there, and the number after it is missing

after_most : (name bytes after : List ℕ) (k : ℕ) → 2 ≤ k →
    ((x : with_kind.Of) (end : List ℕ) → with_kind.Can x → ¬ Stand (suc k) (with_kind.parts x) bytes end)
    → (x : Option Kind × ℕ) → (a_follow name).Can x → Stand (suc k) ((a_follow name).parts x) bytes after → ⊥
after_most name bytes after k two most (None, max) can h = omega (arith, two, count_fits (suc k) (follow_parts None max) bytes after h)
after_most name bytes after k two most (Some kind, max) can h = most (kind, max) after (tt, can.1) h

after_none : (name bytes r after : List ℕ) (there : Kind) → Found a_kind there bytes r →
    ((x : with_kind.Of) (end : List ℕ) → with_kind.Can x → ¬ Stand (length (with_kind.parts x)) (with_kind.parts x) bytes end)
    → (x : Option Kind × ℕ) → (a_follow name).Can x → Stand (length ((a_follow name).parts x)) ((a_follow name).parts x) bytes after → ⊥
after_none name bytes r after there found none (None, max) can h =
    not_both there max bytes r after found (record { can = can.1; front = h })
after_none name bytes r after there found none (Some kind, max) can h = none (kind, max) after (tt, can.1) h

after_breaks : (name bytes r rest : List ℕ) (kind : Kind) → Found a_kind kind bytes r → Breaks a_number r rest →
    Breaks (a_follow name) bytes rest
after_breaks name bytes r rest kind found s =
    let t = then_breaks a_kind (λ _. a_number) 2 kind bytes r rest kind_fixed kind_one found s in
    record {
      count = t.count;
      thing = (Some t.thing.0, t.thing.1);
      can = (tt, t.can.1);
      front = t.front;
      most = λ x after can h. after_most name bytes after t.count
          (first_counts a_kind (λ _. a_number) kind 0 bytes r rest found (omega arith) t) t.most x can h;
      none = λ x after can h. after_none name bytes r after kind found t.none x can h;
    }

pub follow_after_stops : (name : List ℕ) (kind : Kind) (stop : PartFault) (bytes r : List ℕ) → Found a_kind kind bytes r → stop ≢ NoRoom →
    StopsIn a_number stop r → StopsIn (a_follow name) stop bytes
follow_after_stops name kind (BadPart left) bytes r found room s = (s.0, after_breaks name bytes r s.0 kind found s.1, s.2)
follow_after_stops name kind NoRoom bytes r found room s = absurd (room refl)

-- ---- the reader of a range

-- the name is missing
pub range_name_stops : (stop : PartFault) (bytes : List ℕ) → stop ≢ NoRoom → StopsIn a_name stop bytes → StopsIn a_range stop bytes
range_name_stops stop bytes room s = view_stops named a_range range_view stop bytes
    (first_stops a_name a_follow 2 stop bytes name_fixed (λ name can. ((Some U32, 0), (tt, omega arith))) room s)

-- what follows it is missing
pub range_follow_stops : (name : List ℕ) (stop : PartFault) (bytes r : List ℕ) → Found a_name name bytes r →
    StopsIn (a_follow name) stop r → StopsIn a_range stop bytes
range_follow_stops name stop bytes r found s =
    view_stops named a_range range_view stop bytes (then_stops a_name a_follow 2 stop name bytes r name_fixed name_one found s)

pub key_found : (name : List ℕ) (kind : Kind) (max : ℕ) (bytes r1 r2 rest : List ℕ) → Found a_name name bytes r1 →
    Found a_kind kind r1 r2 → Found a_number max r2 rest →
    Found a_range (Some (record { name = name; kind = kind }), max) bytes rest
key_found name kind max bytes r1 r2 rest f1 f2 f3 =
    let both = both_found a_kind (λ _. a_number) kind max r1 r2 rest f2 f3 in
    view_found named a_range range_view (name, (Some kind, max)) bytes rest
    (both_found a_name a_follow name (Some kind, max) bytes r1 rest f1 (record { can = (tt, f3.can); front = both.front }))

-- ---- two ranges at one place are the same

follows_one : (name : List ℕ) (a b : Option Kind × ℕ) (bytes r s : List ℕ) → Found (a_follow name) a bytes r →
    Found (a_follow name) b bytes s → (b ≡ a) × (s ≡ r)
follows_one name (None, m) (None, n) bytes r s fa fb =
    let one = number_one m n bytes r s (record { can = fa.can.1; front = fa.front }) (record { can = fb.can.1; front = fb.front }) in
    (ap (λ (k : ℕ). (None, k)) one.0, one.1)
follows_one name (None, m) (Some kind, n) bytes r s fa fb = let there = kind_of_more 2 kind n bytes s fb.front in
    absurd (not_both kind m bytes there.0 r there.1 (record { can = fa.can.1; front = fa.front }))
follows_one name (Some kind, m) (None, n) bytes r s fa fb = let there = kind_of_more 2 kind m bytes r fa.front in
    absurd (not_both kind n bytes there.0 s there.1 (record { can = fb.can.1; front = fb.front }))
follows_one name (Some k, m) (Some l, n) bytes r s fa fb =
    let one = one_after a_kind (λ _. a_number) kind_one (λ _. number_one) (k, m) (l, n) bytes r s
    (record { can = (tt, fa.can.1); front = fa.front }) (record { can = (tt, fb.can.1); front = fb.front }) in
    (ap (λ (x : with_kind.Of). (Some x.0, x.1)) one.0, one.1)

range_back : (b : Option Key × ℕ) (can : a_range.Can b) → range_view.to (range_from b can).0 ≡ b
unfolding range_from
range_back (None, max) can = refl
range_back (Some key, max) can = refl

pub range_one : One a_range
range_one = one_view named a_range range_view (one_after a_name a_follow name_one follows_one) range_back

ranges_apart : (a b : Option Key × ℕ) (bytes r after : List ℕ) → Found a_range a bytes r → a_range.Can b →
    length (a_range.parts a) < length (a_range.parts b) → Stand (suc (length (a_range.parts a))) (a_range.parts b) bytes after → ⊥
ranges_apart (None, m) (None, n) bytes r after f can lt h = omega (arith, lt)
ranges_apart (None, m) (Some key, n) bytes r after f can lt h =
    let start : Found a_name no_key bytes f.front.2.0 =
    record { can = no_key_is; front = (f.front.0, f.front.1, (f.front.2.0, f.front.2.1, refl)) } in
    let name : Found a_name key.name bytes h.2.0 = record { can = can.0; front = (h.0, h.1, (h.2.0, h.2.1, refl)) } in
    let same = name_one no_key key.name bytes f.front.2.0 h.2.0 start name in
    let word : Found a_kind key.kind h.2.0 h.2.2.2.0 = record { can = tt; front = (h.2.2.0, h.2.2.1, (h.2.2.2.0, h.2.2.2.1, refl)) } in
    let number : Found a_number m f.front.2.0 r = record { can = f.can.1; front = f.front.2.2 } in
    not_both key.kind m f.front.2.0 h.2.2.2.0 r (subst (λ (t : List ℕ). Found a_kind key.kind t h.2.2.2.0) same.1 word) number
ranges_apart (Some key, m) (None, n) bytes r after f can lt h = omega (arith, lt)
ranges_apart (Some key, m) (Some other, n) bytes r after f can lt h = omega (arith, lt)

-- no range extends another at the same front
pub range_apart : Apart a_range
range_apart = ranges_apart

-- ---- whether a kind's word comes next

pub kind_next : {B : Type 0} (r : Option (Kind × B)) (now : B → List ℕ) (test : Bool) (bytes rest : List ℕ) → bytes ≡ 32 ∷ rest →
    test ≡ is_some r → IfSome r (λ x. Begins is_ascii_alphanumeric rest (kind_word x.0) (now x.1))
    → IfNone r ((kind : Kind) (after : List ℕ) → ¬ Begins is_ascii_alphanumeric rest (kind_word kind) after)
    → (IsTrue test → (kind : Kind) × (after : List ℕ) × Found a_kind kind bytes after) ×
    (((kind : Kind) × (after : List ℕ) × Found a_kind kind bytes after) → IsTrue test)
kind_next None now test bytes rest space test_is there none = (
  λ is. absurd (false≢true (sym test_is ∙ is)),
  λ found. absurd (none found.0 found.2.front.2.0
      (subst (λ (t : List ℕ). Begins is_ascii_alphanumeric t (kind_word found.0) found.2.front.2.0)
      (byte_same 32 bytes found.2.front.0 rest found.2.front.1.parts space) found.2.front.2.1)),
)
kind_next (Some (kind, after)) now test bytes rest space test_is there none = (
  λ is. (kind, now after, record { can = tt; front = (rest, byte_begins 32 bytes rest space, (now after, there, refl)) }),
  λ found.
      test_is,
)
