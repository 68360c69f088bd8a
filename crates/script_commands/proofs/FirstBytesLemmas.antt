-- Whether a line begins with a text, byte by byte.
use Rattle.std.specs.Prelude.{◌↔◌, IsTrue}
use Rattle.std.specs.Char.{is_ascii_alphanumeric}
use Rattle.std.proofs.Common.{◌≡◌, ◌≢◌, ℕ, ◌<◌, false, List, ◌++◌, length, get_or, ap, ◌∙◌}
use Rattle.ds_names.specs.Run.{Begins}
use lib.ListN.{get_or-append}

-- it doesn't, if another byte is at one place
pub other_byte : (text line : List ℕ) (i : ℕ) → i < length text → get_or line i 0 ≢ get_or text i 0 →
    IsTrue false ↔ ((rest : List ℕ) × (line ≡ text ++ rest))
other_byte text line i l other = (
  λ t. absurd (cc),
  λ h. absurd (other (ap (λ (bytes : List ℕ). get_or bytes i 0) h.1 ∙ get_or-append text h.0 0 i l)),
)

-- nor is the text its word
pub other_word : (text line : List ℕ) (i : ℕ) → i < length text → get_or line i 0 ≢ get_or text i 0
    → IsTrue false ↔ ((rest : List ℕ) × Begins is_ascii_alphanumeric line text rest)
other_word text line i l other = (λ t. absurd (cc), λ h. (other_byte text line i l other).1 (h.0, h.1.parts))
