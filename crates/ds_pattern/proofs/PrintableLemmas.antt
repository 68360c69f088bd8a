-- Printable bytes are ASCII, so they are a text of as many characters; and the bytes of a name are printable.
use Rattle.std.proofs.Common.{◌≡◌, ℕ, zero, suc, ◌<◌, true, List, [], ◌∷◌, IsUtf8, refl, arith}
use Rattle.std.specs.Str.{IsAscii, chars}
use Rattle.std.specs.List.{list_all}
use Rattle.std.proofs.lemmas.Str.{IsUtf8-from_ascii, chars-IsAscii}
use Rattle.std.proofs.lemmas.List.Folds.{list_all-append}
use Rattle.std.proofs.lemmas.Bool.Decides.{nat_tests}
use Rattle.ds_names.specs.Name.{is_name_byte, IsName}
use Rattle.ds_pattern.specs.Under.{anchored, is_printable, is_printable_byte}
use Rattle.std.proofs.lemmas.Bool.{and_parts}

pub ascii_byte : (b : ℕ) → is_printable_byte b ≡ true → b < 128
ascii_byte b h = grind (arith, nat_tests)

printable_byte : (b : ℕ) → is_name_byte b ≡ true → is_printable_byte b ≡ true
unfolding is_name_byte
printable_byte b h = grind (arith, nat_tests)

pub ascii_of_printable : (bytes : List ℕ) → is_printable bytes ≡ true → IsAscii bytes
ascii_of_printable [] h i = omega arith
ascii_of_printable (b ∷ bytes) h zero = ascii_byte b (and_parts _ _ h).0
ascii_of_printable (b ∷ bytes) h (suc i) = ascii_of_printable bytes (and_parts _ _ h).1 i

pub utf8_of_printable : (bytes : List ℕ) → is_printable bytes ≡ true → IsUtf8 bytes
utf8_of_printable bytes h = IsUtf8-from_ascii bytes (ascii_of_printable bytes h)

pub chars_of_printable : (bytes : List ℕ) → is_printable bytes ≡ true → chars bytes ≡ bytes
chars_of_printable bytes h = chars-IsAscii bytes (ascii_of_printable bytes h)

pub printable_anchored : (p : List ℕ) → is_printable p ≡ true → is_printable (anchored p) ≡ true
printable_anchored p h = rw (list_all-append, h) refl

printable_all : (bytes : List ℕ) → list_all is_name_byte bytes ≡ true → is_printable bytes ≡ true
printable_all [] h = refl
printable_all (b ∷ bytes) h =
    let split = and_parts (is_name_byte b) (list_all is_name_byte bytes) h in
    rw (printable_byte b split.0, printable_all bytes split.1) refl

pub printable_of_name : (name : List ℕ) → IsName name → is_printable name ≡ true
printable_of_name name h = printable_all name h.allowed
