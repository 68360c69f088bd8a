-- Two changes with one line are equal, and no line begins another.
use Rattle.std.proofs.Common.{◌≡◌, ◌≢◌, ℕ, List, [], ◌∷◌, ◌++◌, length, get_or, drop, refl, sym, ap, subst, ◌∙◌, arith}
use Rattle.std.proofs.lemmas.Fmt.{decimal_injective}
use Rattle.ds_names.specs.Kind.{kind_place}
use Rattle.ds_names.specs.Run.{Begins}
use Rattle.ds_names.specs.declared.kind.Kind.{Kind}
use Rattle.ds_names.specs.declared.key.Key.{Key}
use Rattle.ds_names.specs.declared.version.Version.{Version}
use Rattle.ds_names.proofs.DecimalLemmas.{endpoint_text_one}
use Rattle.ds_entry.specs.declared.body.Value.{Value}
use Rattle.ds_entry.specs.declared.body.Value.TheVariants as values
use Rattle.ds_entry.specs.declared.body.Body.{Body}
use Rattle.ds_entry.specs.declared.body.Body.TheVariants.{Put, Gone}
use Rattle.ds_entry.specs.Change.{ChangeRecord, change_of, kind_of, IsOfKind, IsValue, IsBody, IsChange}
use Rattle.ds_line.specs.Part.{Class, run_of, Part, part}
use Rattle.ds_line.specs.Spelling.{quoted, value_part, body_parts, change_parts, spelling}
use Rattle.ds_line.specs.FaultPlace.{Stand}
use Rattle.ds_line.proofs.PartLemmas.{IsText, part_one}
use Rattle.ds_line.proofs.QuoteLemmas.{quoted_one}
use Rattle.ds_line.proofs.DigitLemmas.{hex_one}
use Rattle.ds_line.proofs.OpeningLemmas.{text_at, word_is_word, word_one, key_is, version_is}
use Rattle.ds_line.proofs.BodyLemmas.{class_one, value_text}
use Rattle.ds_line.proofs.LineLemmas.{line_stands}

-- Each text is one of its part's class.
abbrev pub AllTexts : List Part → Type 0
AllTexts [] = Unit {0}
AllTexts (p ∷ parts) = IsText p.class p.text × AllTexts parts

-- The classes are equal as long as the texts are, and both lists end together.
abbrev pub Alike : List Part → List Part → Type 0
Alike [] [] = Unit {0}
Alike [] (q ∷ qs) = ⊥
Alike (p ∷ ps) [] = ⊥
Alike (p ∷ ps) (q ∷ qs) = (p.class ≡ q.class) × (p.text ≡ q.text → Alike ps qs)

-- Parts that are all at one front are equal.
pub same_parts : (ps qs : List Part) (bytes r s : List ℕ) → AllTexts ps → AllTexts qs → Alike ps qs → Stand (length ps) ps bytes r →
    Stand (length qs) qs bytes s → (ps ≡ qs) × (r ≡ s)
same_parts [] [] bytes r s texts_p texts_q alike stand_p stand_q = (refl, sym stand_p ∙ stand_q)
same_parts [] (q ∷ qs) bytes r s texts_p texts_q alike stand_p stand_q = absurd alike
same_parts (p ∷ ps) [] bytes r s texts_p texts_q alike stand_p stand_q = absurd alike
same_parts (p ∷ ps) (q ∷ qs) bytes r s texts_p texts_q alike stand_p stand_q =
    let one = part_one q.class bytes p.text q.text stand_p.0 stand_q.0 (subst (λ (c : Class). IsText c p.text) alike.0 texts_p.0) texts_q.0
    (subst (λ (c : Class). Begins (run_of c) bytes p.text stand_p.0) alike.0 stand_p.1) stand_q.1 in
    let more = same_parts ps qs stand_q.0 r s texts_p.1 texts_q.1 (alike.1 one.0)
    (subst (λ (x : List ℕ). Stand (length ps) ps x r) one.1 stand_p.2) stand_q.2 in
    let first : p ≡ q = ap (λ (c : Class). part c p.text) alike.0 ∙ ap (λ (t : List ℕ). part q.class t) one.0 in
    (ap (λ (x : Part). x ∷ ps) first ∙ ap (λ (xs : List Part). q ∷ xs) more.0, more.1)

other_byte : (x y : ℕ) → x ≢ y → (x ∷ []) ≡ (y ∷ []) → ⊥
other_byte x y h e = h (ap (λ (l : List ℕ). get_or l 0 0) e)

puts_alike : (v w : Value) → kind_of v ≡ kind_of w → Alike (body_parts (Put v)) (body_parts (Put w))
puts_alike v w kind = (refl, λ _. (refl, λ _. (class_one v w kind, λ _. (refl, λ _. tt))))

-- the bodies of two changes of one kind
bodies_alike : (k : Kind) (a b : Body) → IsOfKind k a → IsOfKind k b → Alike (body_parts a) (body_parts b)
bodies_alike k (Put v) (Put w) is_a is_b = puts_alike v w (is_a ∙ sym is_b)
bodies_alike k (Put v) Gone is_a is_b = (refl, λ e. absurd (other_byte 61 45 (λ h. omega arith) e))
bodies_alike k Gone (Put w) is_a is_b = (refl, λ e. absurd (other_byte 45 61 (λ h. omega arith) e))
bodies_alike k Gone Gone is_a is_b = (refl, λ _. (refl, λ _. tt))

pub changes_alike : (c d : ChangeRecord) → IsChange c → IsChange d → Alike (change_parts c) (change_parts d)
changes_alike c d is_c is_d = (
  refl,
  λ _. (
    refl,
    λ _. (
      refl,
      λ word. (
        refl,
        λ _. (
          refl,
          λ _. (
            refl,
            λ _. (
              refl,
              λ _. (
                refl,
                λ _. (
                  refl,
                  λ _. (
                    refl,
                    λ _.
                        bodies_alike d.key.kind c.body d.body
                        (subst (λ (k : Kind). IsOfKind k c.body) (word_one c.key.kind d.key.kind word) is_c.kind) is_d.kind,
                  ),
                ),
              ),
            ),
          ),
        ),
      ),
    ),
  ),
)

body_texts : (b : Body) → IsBody b → AllTexts (body_parts b)
body_texts (Put v) is = (refl, (refl, (value_text v is, (refl, tt))))
body_texts Gone is = (refl, (refl, tt))

pub change_texts : (c : ChangeRecord) → IsChange c → AllTexts (change_parts c)
change_texts c is = (
  is.name.allowed,
  (
    refl,
    (
      word_is_word c.key.kind,
      (
        refl,
        (
          is.owner.allowed,
          (
            refl,
            (
              (c.version.epoch, omega (arith, is.epoch), refl),
              (refl, ((c.version.seq, omega (arith, is.seq), refl), (refl, body_texts c.body is.body))),
            ),
          ),
        ),
      ),
    ),
  ),
)

-- ---- the parts determine the change

texts_one : (a b : List ℕ) → quoted a ≡ quoted b → a ≡ b
texts_one a b text = (quoted_one a b [] [] (ap (λ (x : List ℕ). x ++ []) text)).0

pub value_one : (v w : Value) → IsValue v → IsValue w → kind_of v ≡ kind_of w → (value_part v).text ≡ (value_part w).text → v ≡ w
value_one (values.Label a) (values.Label b) is_v is_w kind text = ap values.Label (endpoint_text_one a b is_v is_w text)
value_one (values.U32 a) (values.U32 b) is_v is_w kind text =
    ap values.U32 (decimal_injective a b (omega (arith, is_v)) (omega (arith, is_w)) text)
value_one (values.Str a) (values.Str b) is_v is_w kind text = ap values.Str (texts_one a b text)
value_one (values.Mem a) (values.Mem b) is_v is_w kind text = ap values.Mem (hex_one a b is_v.each is_w.each text)
value_one (values.Label a) (values.U32 b) is_v is_w kind text = absurd (omega (arith, ap kind_place kind))
value_one (values.Label a) (values.Str b) is_v is_w kind text = absurd (omega (arith, ap kind_place kind))
value_one (values.Label a) (values.Mem b) is_v is_w kind text = absurd (omega (arith, ap kind_place kind))
value_one (values.U32 a) (values.Label b) is_v is_w kind text = absurd (omega (arith, ap kind_place kind))
value_one (values.U32 a) (values.Str b) is_v is_w kind text = absurd (omega (arith, ap kind_place kind))
value_one (values.U32 a) (values.Mem b) is_v is_w kind text = absurd (omega (arith, ap kind_place kind))
value_one (values.Str a) (values.Label b) is_v is_w kind text = absurd (omega (arith, ap kind_place kind))
value_one (values.Str a) (values.U32 b) is_v is_w kind text = absurd (omega (arith, ap kind_place kind))
value_one (values.Str a) (values.Mem b) is_v is_w kind text = absurd (omega (arith, ap kind_place kind))
value_one (values.Mem a) (values.Label b) is_v is_w kind text = absurd (omega (arith, ap kind_place kind))
value_one (values.Mem a) (values.U32 b) is_v is_w kind text = absurd (omega (arith, ap kind_place kind))
value_one (values.Mem a) (values.Str b) is_v is_w kind text = absurd (omega (arith, ap kind_place kind))

body_one : (k : Kind) (a b : Body) → IsBody a → IsBody b → IsOfKind k a → IsOfKind k b → body_parts a ≡ body_parts b → a ≡ b
body_one k (Put v) (Put w) is_a is_b kind_a kind_b eq = ap Put (value_one v w is_a is_b (kind_a ∙ sym kind_b) (ap (text_at 2) eq))
body_one k (Put v) Gone is_a is_b kind_a kind_b eq = absurd (other_byte 61 45 (λ h. omega arith) (ap (text_at 0) eq))
body_one k Gone (Put w) is_a is_b kind_a kind_b eq = absurd (other_byte 45 61 (λ h. omega arith) (ap (text_at 0) eq))
body_one k Gone Gone is_a is_b kind_a kind_b eq = refl

pub change_one : (c d : ChangeRecord) → IsChange c → IsChange d → change_parts c ≡ change_parts d → c ≡ d
change_one c d is_c is_d eq =
    let kind : c.key.kind ≡ d.key.kind = word_one c.key.kind d.key.kind (ap (text_at 2) eq) in
    let key : c.key ≡ d.key = key_is c.key d.key (ap (text_at 0) eq) kind in
    let owner : c.owner ≡ d.owner = ap (text_at 4) eq in
    let epoch : c.version.epoch ≡ d.version.epoch =
    decimal_injective _ _ (omega (arith, is_c.epoch)) (omega (arith, is_d.epoch)) (ap (text_at 6) eq) in
    let seq : c.version.seq ≡ d.version.seq =
    decimal_injective _ _ (omega (arith, is_c.seq)) (omega (arith, is_d.seq)) (ap (text_at 8) eq) in
    let version : c.version ≡ d.version = version_is c.version d.version epoch seq in
    let body : c.body ≡ d.body = body_one d.key.kind c.body d.body is_c.body is_d.body
    (subst (λ (k : Kind). IsOfKind k c.body) kind is_c.kind) is_d.kind (ap (drop 10) eq) in
    ap (λ (k : Key). change_of k c.owner c.version c.body) key
    ∙ ap (λ (o : List ℕ). change_of d.key o c.version c.body) owner
    ∙ ap (λ (v : Version). change_of d.key d.owner v c.body) version
    ∙ ap (λ (b : Body). change_of d.key d.owner d.version b) body

pub apart : (c d : ChangeRecord) (r s : List ℕ) → IsChange c → IsChange d → spelling c ++ r ≡ spelling d ++ s → (c ≡ d) × (r ≡ s)
apart c d r s is_c is_d eq =
    let same = same_parts (change_parts c) (change_parts d) (spelling c ++ r) r s (change_texts c is_c) (change_texts d is_d)
    (changes_alike c d is_c is_d) (line_stands c (spelling c ++ r) r refl) (line_stands d (spelling c ++ r) s eq) in
    (change_one c d is_c is_d same.0, same.1)

pub one_change : (c d : ChangeRecord) → IsChange c → IsChange d → spelling c ≡ spelling d → c ≡ d
one_change c d is_c is_d eq = (apart c d [] [] is_c is_d (ap (λ (x : List ℕ). x ++ []) eq)).0
