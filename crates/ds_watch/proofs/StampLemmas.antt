-- Stamps among the first places.
use Rattle.std.proofs.Common.{◌≡◌, ℕ, ◌<◌, List, Option, None, set, take, length, get_or, ap, sym, ◌∙◌}
use Rattle.std.proofs.lemmas.List.{get_or-take, get_or_default}
use Rattle.std.proofs.Math.Seq.{take-set-lt}
use Rattle.std.specs.Option.{option_map}
use Rattle.ds_watch.specs.Watching.{Watching, stamped}

pub stamped_at : (n sub stamp : ℕ) (ps : List (Option Watching)) (d found made : Option Watching) → sub < n → sub < length ps →
    get_or ps sub d ≡ found → made ≡ option_map (stamped stamp) found
    → take n (set ps sub made) ≡ set (take n ps) sub (option_map (stamped stamp) (get_or (take n ps) sub None))
stamped_at n sub stamp ps d found made first within there is =
    take-set-lt n ps sub made first
    ∙ ap (λ (o : Option Watching). set (take n ps) sub o)
    (is ∙ sym (ap (option_map (stamped stamp)) (get_or-take n ps sub None first ∙ get_or_default ps sub None d within ∙ there)))
