-- The numbers of a header have one reading.
use Rattle.std.proofs.Common.{◌≡◌, ◌≢◌, ℕ, ◌<◌, ◌≤◌, ◌^◌, inl, inr, List, [], ◌∷◌, ◌++◌, None, Some, get_or, drop, refl, sym, ap, subst}
use Rattle.std.proofs.Common.{◌∙◌, arith}
use Rattle.std.specs.Fmt.{decimal}
use Rattle.ds_machine.proofs.OneStepLemmas.{none_some}
use Rattle.ds_held.specs.Limits.{LimitsRecord, IsLimits, limits_for, limits_of}
use Rattle.trace_walk.specs.declared.header.Format.{Format}
use Rattle.trace_walk.specs.declared.header.Format.TheVariants.{One, Two}
use Rattle.trace_walk.specs.declared.header.Header.{Header}
use Rattle.trace_walk.specs.Text.{IsHeader, FormatHas, numbers_text, limits_text, format_text, header_text}
use Rattle.trace_walk.proofs.NumberLemmas.{number_one}

-- no header of the format has these numbers
abbrev pub NoneOf : Format → List ℕ → Type 0
NoneOf format bytes = (h : Header) → h.format ≡ format → IsHeader h → bytes ≢ numbers_text h

-- what follows the incarnation, and the first position, of a header
abbrev pub after_first : Header → List ℕ
after_first h = decimal h.ring ++ limits_text h.format h.limits

abbrev pub after_incarnation : Header → List ℕ
after_incarnation h = decimal h.first ++ 32 ∷ after_first h

-- no number is in the incarnation's place
pub no_incarnation : (format : Format) (bytes : List ℕ) →
    ((n : ℕ) (rest : List ℕ) → n ≤ 18446744073709551615 → bytes ≢ decimal n ++ 32 ∷ rest) → NoneOf format bytes
no_incarnation format bytes none h same is e = none h.incarnation (after_incarnation h) (omega (arith, is.incarnation)) e

-- after the incarnation, the rest of the header follows
pub after_it : (bytes rest : List ℕ) (n : ℕ) (h : Header) → n < 2 ^ 64 → IsHeader h → bytes ≡ decimal n ++ 32 ∷ rest →
    bytes ≡ numbers_text h → (n ≡ h.incarnation) × (rest ≡ after_incarnation h)
after_it bytes rest n h few is there e = number_one n h.incarnation 32 rest (after_incarnation h) few is.incarnation refl (sym there ∙ e)

pub no_first : (format : Format) (bytes rest : List ℕ) (n : ℕ) → n < 2 ^ 64 → bytes ≡ decimal n ++ 32 ∷ rest →
    ((k : ℕ) (s : List ℕ) → k ≤ 4611686018427387904 → rest ≢ decimal k ++ 32 ∷ s) → NoneOf format bytes
no_first format bytes rest n few there none h same is e =
    none h.first (after_first h) (omega (arith, is.first)) (after_it bytes rest n h few is there e).1

-- after the first position
pub after_both : (bytes rest more : List ℕ) (n k : ℕ) (h : Header) → n < 2 ^ 64 → k < 2 ^ 64 → IsHeader h →
    bytes ≡ decimal n ++ 32 ∷ rest → rest ≡ decimal k ++ 32 ∷ more → bytes ≡ numbers_text h → more ≡ after_first h
after_both bytes rest more n k h few less is there then e =
    (number_one k h.first 32 more (after_first h) less (omega (arith, is.first)) refl
    (sym then ∙ (after_it bytes rest n h few is there e).1)).1

-- ---- format 1

-- after the first position, the ring and the newline follow
one_ring : (h : Header) → h.format ≡ One → after_first h ≡ decimal h.ring ++ 10 ∷ []
one_ring h same = ap (λ (f : Format). decimal h.ring ++ limits_text f h.limits) same

pub no_ring : (bytes rest more : List ℕ) (n k : ℕ) → n < 2 ^ 64 → k < 2 ^ 64 → bytes ≡ decimal n ++ 32 ∷ rest →
    rest ≡ decimal k ++ 32 ∷ more → ((m : ℕ) (s : List ℕ) → m ≤ 4096 → more ≢ decimal m ++ 10 ∷ s) → NoneOf One bytes
no_ring bytes rest more n k few less there then none h same is e =
    none h.ring [] (omega (arith, is.ring.limit)) (after_both bytes rest more n k h few less is there then e ∙ one_ring h same)

-- the ring is the header's, and nothing follows its newline
one_end : (bytes rest more last : List ℕ) (n k m : ℕ) (h : Header)
    → n < 2 ^ 64 → k < 2 ^ 64 → m < 2 ^ 64 → h.format ≡ One → IsHeader h → bytes ≡ decimal n ++ 32 ∷ rest → rest ≡ decimal k ++ 32 ∷ more
    → more ≡ decimal m ++ 10 ∷ last → bytes ≡ numbers_text h
    → (m ≡ h.ring) × (last ≡ [])
one_end bytes rest more last n k m h few less lm same is there then ring e =
    number_one m h.ring 10 last [] lm (omega (arith, is.ring.limit)) refl
    (sym ring ∙ after_both bytes rest more n k h few less is there then e ∙ one_ring h same)

pub empty_ring : (bytes rest more last : List ℕ) (n k m : ℕ) → n < 2 ^ 64 → k < 2 ^ 64 → m ≡ 0 → bytes ≡ decimal n ++ 32 ∷ rest →
    rest ≡ decimal k ++ 32 ∷ more → more ≡ decimal m ++ 10 ∷ last → NoneOf One bytes
empty_ring bytes rest more last n k m few less empty there then ring h same is e =
    omega (arith, empty, is.ring.some, (one_end bytes rest more last n k m h few less (omega (arith, empty)) same is there then ring e).0)

pub more_after : (bytes rest more last : List ℕ) (n k m : ℕ) → n < 2 ^ 64 → k < 2 ^ 64 → m < 2 ^ 64 → last ≢ [] →
    bytes ≡ decimal n ++ 32 ∷ rest → rest ≡ decimal k ++ 32 ∷ more → more ≡ decimal m ++ 10 ∷ last → NoneOf One bytes
more_after bytes rest more last n k m few less lm some there then ring h same is e =
    some (one_end bytes rest more last n k m h few less lm same is there then ring e).1

-- ---- format 2

-- the limits, and the newline
abbrev limits_after : Header → List ℕ
limits_after h = decimal h.limits.subs ++ 32 ∷ (decimal h.limits.keys ++ 10 ∷ [])

two_ring : (h : Header) → h.format ≡ Two → after_first h ≡ decimal h.ring ++ 32 ∷ limits_after h
two_ring h same = ap (λ (f : Format). decimal h.ring ++ limits_text f h.limits) same

are_limits : (h : Header) → h.format ≡ Two → IsHeader h → IsLimits h.limits
are_limits h same is = subst (λ (f : Format). FormatHas f h.limits) same is.limits

-- their numbers are small
pub few_limits : (l : LimitsRecord) → IsLimits l → (l.subs ≤ 4096) × (l.keys ≤ 4096)
few_limits l is =
    elim is [
      | inl e ↦ (omega (arith, ap (λ (x : LimitsRecord). x.subs) e), omega (arith, ap (λ (x : LimitsRecord). x.keys) e))
      | inr e ↦ (omega (arith, ap (λ (x : LimitsRecord). x.subs) e), omega (arith, ap (λ (x : LimitsRecord). x.keys) e))
    ]

-- and make limits
limits_there : (l : LimitsRecord) → IsLimits l → limits_for l.subs l.keys ≡ Some l
limits_there l is =
    elim is [
      | inl e ↦ subst (λ (x : LimitsRecord). limits_for x.subs x.keys ≡ Some x) (sym e) refl
      | inr e ↦ subst (λ (x : LimitsRecord). limits_for x.subs x.keys ≡ Some x) (sym e) refl
    ]

-- three numbers, and what follows them
pub record Three (bytes : List ℕ) (n k m : ℕ) (last : List ℕ) : Type 0 where
  pub rest : List ℕ
  pub more : List ℕ
  pub first_few : n < 2 ^ 64
  pub second_few : k < 2 ^ 64
  pub first : bytes ≡ decimal n ++ 32 ∷ rest
  pub second : rest ≡ decimal k ++ 32 ∷ more
  pub third : more ≡ decimal m ++ 32 ∷ last

pub no_second_ring : (bytes rest more : List ℕ) (n k : ℕ) → n < 2 ^ 64 → k < 2 ^ 64 → bytes ≡ decimal n ++ 32 ∷ rest →
    rest ≡ decimal k ++ 32 ∷ more → ((m : ℕ) (s : List ℕ) → m ≤ 4096 → more ≢ decimal m ++ 32 ∷ s) → NoneOf Two bytes
no_second_ring bytes rest more n k few less there then none h same is e =
    none h.ring (limits_after h) (omega (arith, is.ring.limit))
    (after_both bytes rest more n k h few less is there then e ∙ two_ring h same)

-- the ring is the header's, and its limits follow it
two_limits : (bytes last : List ℕ) (n k m : ℕ) (h : Header) → Three bytes n k m last → m < 2 ^ 64 → h.format ≡ Two → IsHeader h →
    bytes ≡ numbers_text h → (m ≡ h.ring) × (last ≡ limits_after h)
two_limits bytes last n k m h t lm same is e =
    number_one m h.ring 32 last (limits_after h) lm (omega (arith, is.ring.limit)) refl
    (sym t.third ∙ after_both bytes t.rest t.more n k h t.first_few t.second_few is t.first t.second e ∙ two_ring h same)

pub no_subs : (bytes last : List ℕ) (n k m : ℕ) → Three bytes n k m last → m < 2 ^ 64 →
    ((s : ℕ) (x : List ℕ) → s ≤ 4096 → last ≢ decimal s ++ 32 ∷ x) → NoneOf Two bytes
no_subs bytes last n k m t lm none h same is e =
    none h.limits.subs (decimal h.limits.keys ++ 10 ∷ []) (few_limits h.limits (are_limits h same is)).0
    (two_limits bytes last n k m h t lm same is e).1

-- both limits
after_subs : (bytes last keys : List ℕ) (n k m s : ℕ) (h : Header)
    → Three bytes n k m last → m < 2 ^ 64 → s < 2 ^ 64 → last ≡ decimal s ++ 32 ∷ keys → h.format ≡ Two → IsHeader h
    → bytes ≡ numbers_text h
    → (s ≡ h.limits.subs) × (keys ≡ decimal h.limits.keys ++ 10 ∷ [])
after_subs bytes last keys n k m s h t lm ls at same is e =
    number_one s h.limits.subs 32 keys (decimal h.limits.keys ++ 10 ∷ []) ls
    (omega (arith, (few_limits h.limits (are_limits h same is)).0)) refl (sym at ∙ (two_limits bytes last n k m h t lm same is e).1)

pub no_keys : (bytes last keys : List ℕ) (n k m s : ℕ) → Three bytes n k m last → m < 2 ^ 64 → s < 2 ^ 64 → last ≡ decimal s ++ 32 ∷ keys →
    ((y : ℕ) (x : List ℕ) → y ≤ 4096 → keys ≢ decimal y ++ 10 ∷ x) → NoneOf Two bytes
no_keys bytes last keys n k m s t lm ls at none h same is e =
    none h.limits.keys [] (few_limits h.limits (are_limits h same is)).1 (after_subs bytes last keys n k m s h t lm ls at same is e).1

pub two_end : (bytes last keys end : List ℕ) (n k m s y : ℕ) (h : Header)
    → Three bytes n k m last → m < 2 ^ 64 → s < 2 ^ 64 → y < 2 ^ 64 → last ≡ decimal s ++ 32 ∷ keys → keys ≡ decimal y ++ 10 ∷ end
    → h.format ≡ Two → IsHeader h → bytes ≡ numbers_text h
    → (m ≡ h.ring) × (s ≡ h.limits.subs) × (y ≡ h.limits.keys) × (end ≡ [])
two_end bytes last keys end n k m s y h t lm ls ly at then same is e =
    let subs = after_subs bytes last keys n k m s h t lm ls at same is e in
    let keys_one = number_one y h.limits.keys 10 end [] ly (omega (arith, (few_limits h.limits (are_limits h same is)).1)) refl
    (sym then ∙ subs.1) in
    ((two_limits bytes last n k m h t lm same is e).0, subs.0, keys_one.0, keys_one.1)

pub no_limits : (bytes last keys end : List ℕ) (n k m s y : ℕ) → Three bytes n k m last → m < 2 ^ 64 → s < 2 ^ 64 → y < 2 ^ 64 →
    last ≡ decimal s ++ 32 ∷ keys → keys ≡ decimal y ++ 10 ∷ end → limits_for s y ≡ None → NoneOf Two bytes
no_limits bytes last keys end n k m s y t lm ls ly at then none h same is e =
    let all = two_end bytes last keys end n k m s y h t lm ls ly at then same is e in
    let there : limits_for s y ≡ Some h.limits =
    subst (λ (a : ℕ). limits_for a y ≡ Some h.limits) (sym all.1)
    (subst (λ (b : ℕ). limits_for h.limits.subs b ≡ Some h.limits) (sym all.2) (limits_there h.limits (are_limits h same is))) in
    none_some h.limits (sym none ∙ there)

-- ---- a header has one text

format_one : (f g : Format) (n m : List ℕ) → format_text f ++ n ≡ format_text g ++ m → (f ≡ g) × (n ≡ m)
format_one One One n m e = (refl, ap (drop 8) e)
format_one One Two n m e = absurd (omega (arith, ap (λ (l : List ℕ). get_or l 6 0) e))
format_one Two One n m e = absurd (omega (arith, ap (λ (l : List ℕ). get_or l 6 0) e))
format_one Two Two n m e = (refl, ap (drop 8) e)

-- the ring and the limits
last_one : (f : Format) (h k : Header) → IsHeader h → IsHeader k → FormatHas f h.limits → FormatHas f k.limits →
    decimal h.ring ++ limits_text f h.limits ≡ decimal k.ring ++ limits_text f k.limits → (h.ring ≡ k.ring) × (h.limits ≡ k.limits)
last_one One h k is_h is_k lh lk e =
    ((number_one h.ring k.ring 10 [] [] (omega (arith, is_h.ring.limit)) (omega (arith, is_k.ring.limit)) refl e).0, lh ∙ sym lk)
last_one Two h k is_h is_k lh lk e =
    let few_h = few_limits h.limits lh in
    let few_k = few_limits k.limits lk in
    let ring = number_one h.ring k.ring 32 (limits_after h) (limits_after k) (omega (arith, is_h.ring.limit))
    (omega (arith, is_k.ring.limit)) refl e in
    let subs = number_one h.limits.subs k.limits.subs 32 (decimal h.limits.keys ++ 10 ∷ []) (decimal k.limits.keys ++ 10 ∷ [])
    (omega (arith, few_h.0)) (omega (arith, few_k.0)) refl ring.1 in
    let keys = number_one h.limits.keys k.limits.keys 10 [] [] (omega (arith, few_h.1)) (omega (arith, few_k.1)) refl subs.1 in
    (ring.0, ap (λ (n : ℕ). limits_of n h.limits.keys) subs.0 ∙ ap (λ (n : ℕ). limits_of k.limits.subs n) keys.0)

abbrev header_of : Format → ℕ → ℕ → ℕ → LimitsRecord → Header
header_of f i p r l = record { format = f; incarnation = i; first = p; ring = r; limits = l }

pub header_one : (h k : Header) → IsHeader h → IsHeader k → header_text h ≡ header_text k → h ≡ k
header_one h k is_h is_k e =
    let format = format_one h.format k.format (numbers_text h) (numbers_text k) e in
    let it = after_it (numbers_text h) (after_incarnation h) h.incarnation k is_h.incarnation is_k refl format.1 in
    let both = number_one h.first k.first 32 (after_first h) (after_first k) (omega (arith, is_h.first)) (omega (arith, is_k.first)) refl
    it.1 in
    let same : decimal h.ring ++ limits_text k.format h.limits ≡ decimal k.ring ++ limits_text k.format k.limits =
    ap (λ (f : Format). decimal h.ring ++ limits_text f h.limits) (sym format.0) ∙ both.1 in
    let last = last_one k.format h k is_h is_k (subst (λ (f : Format). FormatHas f h.limits) format.0 is_h.limits) is_k.limits same in
    ap (λ (f : Format). header_of f h.incarnation h.first h.ring h.limits) format.0
    ∙ ap (λ (n : ℕ). header_of k.format n h.first h.ring h.limits) it.0
    ∙ ap (λ (n : ℕ). header_of k.format k.incarnation n h.ring h.limits) both.0
    ∙ ap (λ (n : ℕ). header_of k.format k.incarnation k.first n h.limits) last.0
    ∙ ap (λ (l : LimitsRecord). header_of k.format k.incarnation k.first k.ring l) last.1
