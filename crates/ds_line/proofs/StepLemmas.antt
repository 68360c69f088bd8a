-- Reading one more part, of anything that is written part by part.
use Rattle.std.proofs.Common.{◌≡◌, ℕ, suc, ◌<◌, List, [], ◌∷◌, ◌++◌, length, refl, sym, ap, subst, ◌∙◌, append_assoc, arith}
use Rattle.ds_names.specs.Run.{Begins}
use Rattle.ds_entry.specs.Change.{ChangeRecord}
use Rattle.ds_line.specs.Part.{Class, run_of, Part, part, texts}
use Rattle.ds_line.specs.FaultPlace.{Stand, StopsAt}
use Rattle.ds_line.specs.Reading.{StopsAfter, Completes}
use Rattle.ds_line.proofs.PartLemmas.{IsText, part_one}

-- the first of the parts, if there is one, is of the class
abbrev pub Opens : Class → List Part → Type 0
Opens class [] = Unit {0}
Opens class (p ∷ parts) = (p.class ≡ class) × IsText p.class p.text

-- Two parts of one class at one front are equal.
same_part : (p q : Part) (bytes r s : List ℕ) → IsText p.class p.text → (q.class ≡ p.class) → IsText q.class q.text →
    Begins (run_of p.class) bytes p.text r → Begins (run_of q.class) bytes q.text s → (q ≡ p) × (s ≡ r)
same_part p q bytes r s text_p class text_q begins_p begins_q =
    let one = part_one p.class bytes q.text p.text s r (subst (λ (c : Class). IsText c q.text) class text_q) text_p
    (subst (λ (c : Class). Begins (run_of c) bytes q.text s) class begins_q) begins_p in
    (ap (λ (c : Class). part c q.text) class ∙ ap (λ (t : List ℕ). part p.class t) one.0, one.1)

none_first : (parts : List Part) (bytes rest : List ℕ) → 0 < length parts → ((after : List ℕ) → ¬ Stand 1 parts bytes after) →
    ¬ Stand (length parts) parts bytes rest
none_first [] bytes rest some none = λ h. absurd (omega arith)
none_first (p ∷ parts) bytes rest some none = λ h. none h.0 (h.0, h.1, refl)

-- No member's next part is here, so what can be read ends here.
pub stops_here : {T : Type 0} (IsMember : T → Type 0) (parts : T → List Part) (known : List Part) (bytes : List ℕ) (member : T)
    (further : List Part)
    → IsMember member → parts member ≡ known ++ further
    → ((m : T) (more : List Part) (after : List ℕ) → IsMember m → parts m ≡ known ++ more → ¬ Stand 1 more bytes after)
    → ((m : T) (more : List Part) → IsMember m → parts m ≡ known ++ more → 0 < length more)
    → StopsAfter IsMember parts known bytes bytes
stops_here IsMember parts known bytes member further is split none some =
    record {
      count = 0;
      member = member;
      is = is;
      further = further;
      split = split;
      front = refl;
      most = none;
      none = λ m more after whole eq.
          none_first more bytes after (some m more whole eq) (λ x. none m more x whole eq);
    }

most_after : {T : Type 0} (IsMember : T → Type 0) (parts : T → List Part) (known : List Part) (p : Part) (bytes r at : List ℕ) →
    IsText p.class p.text → Begins (run_of p.class) bytes p.text r
    → (s : StopsAfter IsMember parts (known ++ p ∷ []) r at) → (m : T) (more : List Part) (after : List ℕ) → IsMember m →
    Opens p.class more → parts m ≡ known ++ more → Stand (suc (suc s.count)) more bytes after → ⊥
most_after IsMember parts known p bytes r at text begins s m [] after is opens eq h = h
most_after IsMember parts known p bytes r at text begins s m (q ∷ more) after is opens eq h =
    let same = same_part p q bytes r h.0 text opens.0 opens.1 begins h.1 in
    let split : parts m ≡ (known ++ p ∷ []) ++ more =
    eq ∙ ap (λ (x : Part). known ++ x ∷ more) same.0 ∙ sym (append_assoc known (p ∷ []) more) in
    s.most m more after is split (subst (λ (b : List ℕ). Stand (suc s.count) more b after) same.1 h.2)

none_after : {T : Type 0} (IsMember : T → Type 0) (parts : T → List Part) (known : List Part) (p : Part) (bytes r at : List ℕ) →
    IsText p.class p.text → Begins (run_of p.class) bytes p.text r
    → (s : StopsAfter IsMember parts (known ++ p ∷ []) r at) → (m : T) (more : List Part) (after : List ℕ) → IsMember m →
    Opens p.class more → parts m ≡ known ++ more → 0 < length more → Stand (length more) more bytes after → ⊥
none_after IsMember parts known p bytes r at text begins s m [] after whole opens eq some h = omega arith
none_after IsMember parts known p bytes r at text begins s m (q ∷ more) after whole opens eq some h =
    let same = same_part p q bytes r h.0 text opens.0 opens.1 begins h.1 in
    let split : parts m ≡ (known ++ p ∷ []) ++ more =
    eq ∙ ap (λ (x : Part). known ++ x ∷ more) same.0 ∙ sym (append_assoc known (p ∷ []) more) in
    s.none m more after whole split (subst (λ (b : List ℕ). Stand (length more) more b after) same.1 h.2)

-- The next part is here, and what can be read ends somewhere after it.
pub stops_after_part : {T : Type 0} (IsMember : T → Type 0) (parts : T → List Part) (known : List Part) (p : Part) (bytes r at : List ℕ)
    → IsText p.class p.text
    → ((m : T) (more : List Part) → IsMember m → parts m ≡ known ++ more → Opens p.class more)
    → ((m : T) (more : List Part) → IsMember m → parts m ≡ known ++ more → 0 < length more)
    → Begins (run_of p.class) bytes p.text r → StopsAfter IsMember parts (known ++ p ∷ []) r at → StopsAfter IsMember parts known bytes at
stops_after_part IsMember parts known p bytes r at text opens some begins s =
    record {
      count = suc s.count;
      member = s.member;
      is = s.is;
      further = p ∷ s.further;
      split = s.split ∙ append_assoc known (p ∷ []) s.further;
      front = (r, begins, s.front);
      most = λ m more after is eq h. most_after IsMember parts known p bytes r at text begins s m more after is (opens m more is eq) eq h;
      none = λ m more after whole eq h. none_after IsMember parts known p bytes r at text begins s m more after whole
          (opens m more whole eq) eq (some m more whole eq) h;
    }

-- With no part known, that is where what can be read ends.
pub stops_at : {T : Type 0} (IsMember : T → Type 0) (parts : T → List Part) (bytes at : List ℕ) → StopsAfter IsMember parts [] bytes at →
    StopsAt IsMember parts bytes at
stops_at IsMember parts bytes at s =
    record {
      count = s.count;
      read = record { member = s.member; is = s.is; front = subst (λ (x : List Part). Stand s.count x bytes at) (sym s.split) s.front };
      most = λ after can. s.most can.member (parts can.member) after can.is refl can.front;
    }

-- A part is here, and the rest of the line after it.
pub completes_after_part : (known : List Part) (p : Part) (c : ChangeRecord) (bytes r rest : List ℕ) → bytes ≡ p.text ++ r →
    Completes (known ++ p ∷ []) c r rest → Completes known c bytes rest
completes_after_part known p c bytes r rest is k =
    record {
      change = k.change;
      further = p ∷ k.further;
      split = k.split ∙ append_assoc known (p ∷ []) k.further;
      text = is ∙ ap (λ (x : List ℕ). p.text ++ x) k.text ∙ sym (append_assoc p.text (texts k.further) rest);
    }
