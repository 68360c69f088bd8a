-- Reading things of several parts, in order.
use Rattle.std.proofs.Common.{◌≡◌, ◌≢◌, ℕ, zero, suc, ◌+◌, ◌<◌, ◌≤◌, inl, inr, List, [], ◌∷◌, ◌++◌, length, drop, refl, sym, ap, subst, ◌∙◌}
use Rattle.std.proofs.Common.{append_assoc, length-append, arith}
use Rattle.std.proofs.lemmas.Bool.{cases_lt}
use Rattle.ds_names.specs.Run.{Begins}
use Rattle.ds_line.specs.Part.{run_of, Part, byte, texts}
use Rattle.ds_line.specs.FaultPlace.{Stand}
use Rattle.ds_line.specs.Piece.{Piece, Found, Breaks, StopsIn}
use Rattle.ds_line.specs.declared.part_fault.PartFault.{PartFault}
use Rattle.ds_line.specs.declared.part_fault.PartFault.TheVariants.{BadPart, NoRoom}
use Rattle.ds_line.proofs.PartLemmas.{byte_begins}
use Rattle.ds_line.proofs.ApartLemmas.{AllTexts, Alike, same_parts}

-- ---- consecutive parts

pub stand_wider : (k : ℕ) (xs ys : List Part) (bytes rest : List ℕ) → Stand k xs bytes rest → Stand k (xs ++ ys) bytes rest
stand_wider zero xs ys bytes rest h = h
stand_wider (suc k) [] ys bytes rest h = absurd h
stand_wider (suc k) (x ∷ xs) ys bytes rest h = (h.0, h.1, stand_wider k xs ys h.0 rest h.2)

pub stand_cut : (k : ℕ) (xs ys : List Part) (bytes rest : List ℕ) → k ≤ length xs → Stand k (xs ++ ys) bytes rest → Stand k xs bytes rest
stand_cut zero xs ys bytes rest le h = h
stand_cut (suc k) [] ys bytes rest le h = absurd (omega (arith, le))
stand_cut (suc k) (x ∷ xs) ys bytes rest le h = (h.0, h.1, stand_cut k xs ys h.0 rest (omega (arith, le)) h.2)

pub stand_join : (n k : ℕ) (xs ys : List Part) (bytes mid rest : List ℕ) → n ≡ length xs + k → Stand (length xs) xs bytes mid →
    Stand k ys mid rest → Stand n (xs ++ ys) bytes rest
stand_join n k [] ys bytes mid rest eq first second =
    let same : k ≡ n = omega (arith, eq) in
    subst (λ (b : List ℕ). Stand n ys b rest) (sym first) (subst (λ (c : ℕ). Stand c ys mid rest) same second)
stand_join zero k (x ∷ xs) ys bytes mid rest eq first second = absurd (omega (arith, eq))
stand_join (suc n) k (x ∷ xs) ys bytes mid rest eq first second =
    (first.0, first.1, stand_join n k xs ys first.0 mid rest (omega (arith, eq)) first.2 second)

pub stand_split : (n k : ℕ) (xs ys : List Part) (bytes rest : List ℕ) → n ≡ length xs + k → Stand n (xs ++ ys) bytes rest →
    (mid : List ℕ) × Stand (length xs) xs bytes mid × Stand k ys mid rest
stand_split n k [] ys bytes rest eq h =
    let same : n ≡ k = omega (arith, eq) in
    (bytes, refl, subst (λ (c : ℕ). Stand c ys bytes rest) same h)
stand_split zero k (x ∷ xs) ys bytes rest eq h = absurd (omega (arith, eq))
stand_split (suc n) k (x ∷ xs) ys bytes rest eq h =
    let more = stand_split n k xs ys h.0 rest (omega (arith, eq)) h.2 in
    (more.0, (h.0, h.1, more.1), more.2)

pub count_fits : (k : ℕ) (xs : List Part) (bytes rest : List ℕ) → Stand k xs bytes rest → k ≤ length xs
count_fits zero xs bytes rest h = omega arith
count_fits (suc k) [] bytes rest h = absurd h
count_fits (suc k) (x ∷ xs) bytes rest h = omega (arith, count_fits k xs h.0 rest h.2)

-- What is there is spelled.
pub stand_texts : (xs : List Part) (bytes rest : List ℕ) → Stand (length xs) xs bytes rest → bytes ≡ texts xs ++ rest
stand_texts [] bytes rest h = h
stand_texts (x ∷ xs) bytes rest h = h.1.parts ∙ ap (λ (t : List ℕ). x.text ++ t) (stand_texts xs h.0 rest h.2) ∙
    sym (append_assoc x.text (texts xs) rest)

-- ---- pieces

-- A piece, and after it another, which may depend on the first.
abbrev pub past : (p : Piece) → (p.Of → Piece) → Piece
past p q = record {
  Of = (a : p.Of) × (q a).Of;
  Can = λ x. p.Can x.0 × (q x.0).Can x.1;
  parts = λ x. p.parts x.0 ++ (q x.0).parts x.1;
}

-- The piece always has `n` parts.
abbrev pub Fixed : Piece → ℕ → Type 0
Fixed p n = (a : p.Of) → length (p.parts a) ≡ n

-- Two things of the piece at one front are equal.
abbrev pub One : Piece → Type 0
One p = (a b : p.Of) (bytes r s : List ℕ) → Found p a bytes r → Found p b bytes s → (b ≡ a) × (s ≡ r)

-- After each thing of the piece, something can come.
abbrev pub Goes : (p : Piece) → (p.Of → Piece) → Type 0
Goes p q = (a : p.Of) → p.Can a → (b : (q a).Of) × (q a).Can b

pub one_by : (p : Piece) → ((a b : p.Of) → p.Can a → p.Can b → Alike (p.parts a) (p.parts b)) →
    ((a : p.Of) → p.Can a → AllTexts (p.parts a)) → ((a b : p.Of) → p.Can a → p.Can b → p.parts a ≡ p.parts b → a ≡ b) → One p
one_by p alike text same a b bytes r s fa fb =
    let e = same_parts (p.parts b) (p.parts a) bytes s r (text b fb.can) (text a fa.can) (alike b a fb.can fa.can) fb.front fa.front in
    (same b a fb.can fa.can e.0, e.1)

breaks_below : (p : Piece) (bytes rest : List ℕ) (s : Breaks p bytes rest) → s.count < length (p.parts s.thing)
breaks_below p bytes rest s =
    elim (cases_lt s.count (length (p.parts s.thing))) [
      | inl lt ↦ lt
      | inr le ↦
          (let same : s.count ≡ length (p.parts s.thing) = omega (arith, le, count_fits s.count (p.parts s.thing) bytes rest s.front) in
          absurd (s.none s.thing rest s.can (subst (λ (k : ℕ). Stand k (p.parts s.thing) bytes rest) same s.front)))
    ]

-- What can be read ends within the first of two pieces.
pub first_breaks : (p : Piece) (q : p.Of → Piece) (n : ℕ) (bytes rest : List ℕ) → Fixed p n → Goes p q → Breaks p bytes rest →
    Breaks (past p q) bytes rest
first_breaks p q n bytes rest fixed goes s =
    let next = goes s.thing s.can in
    record {
      count = s.count;
      thing = (s.thing, next.0);
      can = (s.can, next.1);
      front = stand_wider s.count (p.parts s.thing) ((q s.thing).parts next.0) bytes rest s.front;
      most = λ x after can h. s.most x.0 after can.0
          (stand_cut (suc s.count) (p.parts x.0) ((q x.0).parts x.1) bytes after
          (omega (arith, breaks_below p bytes rest s, fixed s.thing, fixed x.0)) h);
      none = λ x after can h.
          let two = stand_split (length (p.parts x.0 ++ (q x.0).parts x.1)) (length ((q x.0).parts x.1)) (p.parts x.0) ((q x.0).parts x.1)
          bytes after (length-append (p.parts x.0) ((q x.0).parts x.1)) h in
          s.none x.0 two.0 can.0 two.1;
    }

-- A part of the second piece after some first one is a part after the one that is there.
second_stands : (p : Piece) (q : p.Of → Piece) (n k m : ℕ) (a : p.Of) (bytes r after : List ℕ) → Fixed p n → One p → Found p a bytes r →
    (x : (b : p.Of) × (q b).Of) → p.Can x.0 →
    m ≡ length (p.parts x.0) + k → Stand m (p.parts x.0 ++ (q x.0).parts x.1) bytes after
    → (x.0 ≡ a) × Stand k ((q x.0).parts x.1) r after
second_stands p q n k m a bytes r after fixed one found x can eq h =
    let two = stand_split m k (p.parts x.0) ((q x.0).parts x.1) bytes after eq h in
    let same = one a x.0 bytes r two.0 found (record { can = can; front = two.1 }) in
    (same.0, subst (λ (b : List ℕ). Stand k ((q x.0).parts x.1) b after) same.1 two.2)

-- What can be read ends within the second piece, after a first one that is there.
pub then_breaks : (p : Piece) (q : p.Of → Piece) (n : ℕ) (a : p.Of) (bytes r rest : List ℕ) → Fixed p n → One p → Found p a bytes r →
    Breaks (q a) r rest → Breaks (past p q) bytes rest
then_breaks p q n a bytes r rest fixed one found s =
    record {
      count = length (p.parts a) + s.count;
      thing = (a, s.thing);
      can = (found.can, s.can);
      front = stand_join (length (p.parts a) + s.count) s.count (p.parts a) ((q a).parts s.thing) bytes r rest refl found.front s.front;
      most = λ x after can h.
          let second = second_stands p q n (suc s.count) (suc (length (p.parts a) + s.count)) a bytes r after fixed one found x can.0
          (omega (arith, fixed a, fixed x.0)) h in
          subst (λ (b : p.Of). (y : (q b).Of) → (q b).Can y → Stand (suc s.count) ((q b).parts y) r after → ⊥) (sym second.0)
          (λ y is st. s.most y after is st) x.1 can.1 second.1;
      none = λ x after can h.
          let second = second_stands p q n (length ((q x.0).parts x.1)) (length (p.parts x.0 ++ (q x.0).parts x.1)) a bytes r after fixed
          one found x can.0 (length-append (p.parts x.0) ((q x.0).parts x.1)) h in
          subst (λ (b : p.Of). (y : (q b).Of) → (q b).Can y → Stand (length ((q b).parts y)) ((q b).parts y) r after → ⊥) (sym second.0)
          (λ y is st. s.none y after is st) x.1 can.1 second.1;
    }

-- Both pieces are there.
pub both_found : (p : Piece) (q : p.Of → Piece) (a : p.Of) (b : (q a).Of) (bytes r rest : List ℕ) → Found p a bytes r →
    Found (q a) b r rest → Found (past p q) (a, b) bytes rest
both_found p q a b bytes r rest first second =
    record {
      can = (first.can, second.can);
      front = stand_join (length (p.parts a ++ (q a).parts b)) (length ((q a).parts b)) (p.parts a) ((q a).parts b) bytes r rest
          (length-append (p.parts a) ((q a).parts b)) first.front second.front;
    }

-- ---- what readers say, of one piece and of two

pub first_stops : (p : Piece) (q : p.Of → Piece) (n : ℕ) (stop : PartFault) (bytes : List ℕ) → Fixed p n → Goes p q → (stop ≢ NoRoom) →
    StopsIn p stop bytes → StopsIn (past p q) stop bytes
first_stops p q n (BadPart left) bytes fixed goes room s = (s.0, first_breaks p q n bytes s.0 fixed goes s.1, s.2)
first_stops p q n NoRoom bytes fixed goes room s = absurd (room refl)

pub then_stops : (p : Piece) (q : p.Of → Piece) (n : ℕ) (stop : PartFault) (a : p.Of) (bytes r : List ℕ) → Fixed p n → One p →
    Found p a bytes r → StopsIn (q a) stop r → StopsIn (past p q) stop bytes
then_stops p q n (BadPart left) a bytes r fixed one found s = (s.0, then_breaks p q n a bytes r s.0 fixed one found s.1, s.2)
then_stops p q n NoRoom a bytes r fixed one found s = ((a, s.0), s.1, both_found p q a s.0 bytes r s.1 found s.2)

-- ---- one thing under two views

-- the things of one piece are those of another, spelled alike
pub record Views (p q : Piece) : Type 0 where
  pub to : p.Of → q.Of
  pub can : (a : p.Of) → p.Can a → q.Can (to a)
  pub parts : (a : p.Of) → p.Can a → q.parts (to a) ≡ p.parts a
  pub from : (b : q.Of) → q.Can b → (a : p.Of) × p.Can a × (p.parts a ≡ q.parts b)

pub view_found : (p q : Piece) (v : Views p q) (a : p.Of) (bytes rest : List ℕ) → Found p a bytes rest → Found q (v.to a) bytes rest
view_found p q v a bytes rest f =
    record { can = v.can a f.can; front = subst (λ (x : List Part). Stand (length x) x bytes rest) (sym (v.parts a f.can)) f.front }

view_breaks : (p q : Piece) (v : Views p q) (bytes rest : List ℕ) → Breaks p bytes rest → Breaks q bytes rest
view_breaks p q v bytes rest s =
    record {
      count = s.count;
      thing = v.to s.thing;
      can = v.can s.thing s.can;
      front = subst (λ (x : List Part). Stand s.count x bytes rest) (sym (v.parts s.thing s.can)) s.front;
      most = λ b after can h. let a = v.from b can in
          s.most a.0 after a.1 (subst (λ (x : List Part). Stand (suc s.count) x bytes after) (sym a.2) h);
      none = λ b after can h. let a = v.from b can in
          s.none a.0 after a.1 (subst (λ (x : List Part). Stand (length x) x bytes after) (sym a.2) h);
    }

pub view_stops : (p q : Piece) (v : Views p q) (stop : PartFault) (bytes : List ℕ) → StopsIn p stop bytes → StopsIn q stop bytes
view_stops p q v (BadPart left) bytes s = (s.0, view_breaks p q v bytes s.0 s.1, s.2)
view_stops p q v NoRoom bytes s = (v.to s.0, s.1, view_found p q v s.0 bytes s.1 s.2)

-- ---- the first part

-- No such first part is here.
pub part_missing : (p : Piece) (first : p.Of → Part) (more : p.Of → List Part) (a : p.Of) (bytes : List ℕ) →
    ((b : p.Of) → p.parts b ≡ first b ∷ more b) → p.Can a
    → ((b : p.Of) (rest : List ℕ) → p.Can b → ¬ Begins (run_of (first b).class) bytes (first b).text rest) → Breaks p bytes bytes
part_missing p first more a bytes starts can none =
    record {
      count = 0;
      thing = a;
      can = can;
      front = refl;
      most = λ b after is h. let s = subst (λ (x : List Part). Stand 1 x bytes after) (starts b) h in none b s.0 is s.1;
      none = λ b after is h. let s = subst (λ (x : List Part). Stand (length x) x bytes after) (starts b) h in none b s.0 is s.1;
    }

-- A byte, and after it the piece.
abbrev pub after_byte : ℕ → Piece → Piece
after_byte b p = record { Of = p.Of; Can = p.Can; parts = λ a. byte b ∷ p.parts a }

pub byte_missing : (b : ℕ) (p : Piece) (a : p.Of) (bytes : List ℕ) → p.Can a → ((rest : List ℕ) → bytes ≢ b ∷ rest) →
    Breaks (after_byte b p) bytes bytes
byte_missing b p a bytes can none = part_missing (after_byte b p) (λ x. byte b) p.parts a bytes (λ x. refl) can
    (λ x rest is begins. none rest begins.parts)

byte_after : (b : ℕ) (bytes r s : List ℕ) → bytes ≡ b ∷ r → Begins (run_of (byte b).class) bytes (b ∷ []) s → s ≡ r
byte_after b bytes r s is begins = ap (drop 1) (sym begins.parts ∙ is)

pub byte_breaks : (b : ℕ) (p : Piece) (bytes r rest : List ℕ) → bytes ≡ b ∷ r → Breaks p r rest → Breaks (after_byte b p) bytes rest
byte_breaks b p bytes r rest is s =
    record {
      count = suc s.count;
      thing = s.thing;
      can = s.can;
      front = (r, byte_begins b bytes r is, s.front);
      most = λ x after can h. s.most x after can
          (subst (λ (t : List ℕ). Stand (suc s.count) (p.parts x) t after) (byte_after b bytes r h.0 is h.1) h.2);
      none = λ x after can h. s.none x after can
          (subst (λ (t : List ℕ). Stand (length (p.parts x)) (p.parts x) t after) (byte_after b bytes r h.0 is h.1) h.2);
    }

pub byte_found : (b : ℕ) (p : Piece) (a : p.Of) (bytes r rest : List ℕ) → bytes ≡ b ∷ r → Found p a r rest →
    Found (after_byte b p) a bytes rest
byte_found b p a bytes r rest is f = record { can = f.can; front = (r, byte_begins b bytes r is, f.front) }

pub byte_stops : (b : ℕ) (p : Piece) (stop : PartFault) (bytes r : List ℕ) → bytes ≡ b ∷ r → StopsIn p stop r →
    StopsIn (after_byte b p) stop bytes
byte_stops b p (BadPart left) bytes r is s = (s.0, byte_breaks b p bytes r s.0 is s.1, s.2)
byte_stops b p NoRoom bytes r is s = (s.0, s.1, byte_found b p s.0 bytes r s.1 is s.2)

-- ---- a reader that stops

-- The reader stops where it began.
pub stops_from : (p : Piece) (stop : PartFault) (bytes rest : List ℕ) → stop ≡ BadPart (length rest) → Breaks p bytes rest →
    StopsIn p stop bytes
stops_from p stop bytes rest is s = subst (λ (x : PartFault). StopsIn p x bytes) (sym is) (rest, s, refl)
