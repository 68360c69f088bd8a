-- Lists copied element by element.
use Rattle.std.proofs.Common.{◌≡◌, ℕ, ◌+◌, ◌<◌, ◌∷◌, ◌++◌, List, [], get_or, length, take, ap, sym, ◌∙◌}
use Rattle.std.proofs.lemmas.List.{take_more}

pub copied_more : {X : Type 0} (xs before after : List X) (i : ℕ) (x y : X) → i < length xs → before ≡ take i xs →
    after ≡ before ++ y ∷ [] → y ≡ x → x ≡ get_or xs i x → after ≡ take (i + 1) xs
copied_more {X} xs before after i x y within was is same at =
    is ∙ (ap (λ (l : List X). l ++ y ∷ []) was ∙ (ap (λ (z : X). take i xs ++ z ∷ []) (same ∙ at) ∙ sym (take_more xs i x within)))
