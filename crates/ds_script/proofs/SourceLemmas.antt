-- What a source without comments has left.
use Rattle.std.proofs.Common.{◌≡◌, ℕ, ◌≤◌, List, [], ◌++◌, length, take, drop, sym, ap, ◌∙◌, subst, arith, length-append, length-drop}
use Rattle.std.proofs.lemmas.List.{take-append-le, length-take-le}
use Rattle.std.specs.Prelude.{Option, None, Some}
use Rattle.std.specs.Option.{option_map}
use Rattle.std.specs.Io.KnownBytes.{Consumes}
use Rattle.ds_script.specs.declared.place.Place.{Place}
use Rattle.ds_script.specs.Left.{text_left, after}
use Rattle.ds_script.proofs.LeftLemmas.{left_append}

-- A read of the other source, after reads of which nothing was left.
pub read_on : (p q : Place) (first old new : Option (List ℕ)) (bytes : List ℕ) →
    Consumes (option_map (text_left p) first) (option_map (text_left q) old) [] → Consumes old new bytes →
    Consumes (option_map (text_left p) first) (option_map (text_left (after q bytes)) new) (text_left q bytes)
read_on p q None old new bytes passed read = tt
read_on p q (Some xs) None new bytes passed read = absurd passed
read_on p q (Some xs) (Some ys) None bytes passed read = absurd read
read_on p q (Some xs) (Some ys) (Some zs) bytes passed read = passed ∙ ap (text_left q) read ∙ left_append q bytes zs

-- A read of which something was left, at the front of the buffer.
pub given_on : (p q r : Place) (first old new : Option (List ℕ)) (bytes kept more : List ℕ) (n : ℕ) →
    Consumes (option_map (text_left p) first) (option_map (text_left q) old) [] → Consumes old new bytes →
    r ≡ after q bytes → take n kept ≡ text_left q bytes → n ≤ length kept →
    Consumes (option_map (text_left p) first) (option_map (text_left r) new) (take n (kept ++ more))
given_on p q r first old new bytes kept more n passed read place there few =
    subst (λ l. Consumes (option_map (text_left p) first) (option_map (text_left r) new) l) (sym (take-append-le n kept more few ∙ there))
    (subst (λ it. Consumes (option_map (text_left p) first) (option_map (text_left it) new) (text_left q bytes)) (sym place)
    (read_on p q first old new bytes passed read))

-- A read of which nothing was left.
pub passed_on : (p q r : Place) (first old new : Option (List ℕ)) (bytes kept : List ℕ) (n : ℕ) →
    Consumes (option_map (text_left p) first) (option_map (text_left q) old) [] → Consumes old new bytes →
    r ≡ after q bytes → take n kept ≡ text_left q bytes → n ≡ 0 →
    Consumes (option_map (text_left p) first) (option_map (text_left r) new) []
passed_on p q r first old new bytes kept n passed read place there none =
    subst (λ l. Consumes (option_map (text_left p) first) (option_map (text_left r) new) l) (sym there ∙ ap (λ k. take k kept) none)
    (subst (λ it. Consumes (option_map (text_left p) first) (option_map (text_left it) new) (text_left q bytes)) (sym place)
    (read_on p q first old new bytes passed read))

-- A buffer whose front was changed is as long as before.
pub long_as_before : (kept buf : List ℕ) (count had : ℕ) → length kept ≡ length (take count buf) → count ≤ length buf → length buf ≡ had →
    length (kept ++ drop count buf) ≡ had
long_as_before kept buf count had same few long =
    omega (arith, length-append kept (drop count buf), same, length-take-le count buf few, length-drop count buf, few, long)
