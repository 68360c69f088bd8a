-- The words of commands, each at its place among all of them.
use Rattle.std.specs.Prelude.{◌==◌}
use Rattle.std.proofs.Common.{◌≡◌, ◌≢◌, ℕ, ◌+◌, ◌<◌, ◌≤◌, Bool, true, false, List, length, take, get_or, refl, sym, subst, ◌∙◌, arith}
use Rattle.std.specs.List.{All}
use Rattle.std.specs.Cmp.Lexicographic.{pointwise}
use Rattle.std.proofs.lemmas.Bool.{false≢true}
use Rattle.std.proofs.lemmas.List.{take_all}
use Rattle.std.proofs.lemmas.List.Elements.{All-get_or, All-more}
use Rattle.ds_replica.proofs.BringLemmas.{text_is}
use Rattle.script_commands.specs.declared.word.Word.{Word}
use Rattle.script_commands.specs.declared.word.Word.TheVariants as words
use Rattle.script_commands.specs.Words.{all_words, text_of}

-- the place of a word
abbrev place : Word → ℕ
place words.Offer = 0
place words.Publish = 1
place words.Retrieve = 2
place words.Check = 3
place words.NameOf = 4
place words.Deliver = 5
place words.Since = 6
place words.Page = 7
place words.Show = 8
place words.All = 9
place words.Delete = 10
place words.Sweep = 11
place words.Subscribe = 12
place words.Map = 13
place words.Entries = 14
place words.Ring = 15
place words.Side = 16
place words.Clear = 17
place words.Restart = 18
place words.Snapshot = 19
place words.Settings = 20
place words.Service = 21
place words.Death = 22
place words.Beat = 23
place words.Tick = 24
place words.Assign = 25
place words.Follow = 26
place words.Submit = 27
place words.Reply = 28

place_below : (w : Word) → place w < length all_words
place_below words.Offer = omega arith
place_below w = omega arith

at_place : (w : Word) → get_or all_words (place w) words.Show ≡ w
at_place words.Offer = refl
at_place w = refl

-- a text that isn't the word's
abbrev pub IsOther : List ℕ → Word → Type 0
IsOther text w = text ≢ text_of w

-- a text that is none of the words before one, and isn't that one
pub other_too : (text spelled : List ℕ) (ws : List Word) (same : Bool) (i : ℕ) (d : Word) → ws ≡ all_words → i < length ws
    → All (IsOther text) (take i all_words) → spelled ≡ text_of (get_or ws i d) → same ≡ pointwise ◌==◌ text spelled → same ≡ false
    → All (IsOther text) (take (i + 1) all_words)
other_too text spelled ws same i d is lt others spells tells differs =
    let other : IsOther text (get_or ws i d) = λ one. false≢true (sym differs ∙ tells
    ∙ subst (λ (t : List ℕ). pointwise ◌==◌ text t ≡ true) (one ∙ sym spells) (text_is text)) in
    subst (λ (l : List Word). All (IsOther text) (take (i + 1) l)) is (All-more (IsOther text) ws i d lt
    (subst (λ (l : List Word). All (IsOther text) (take i l)) (sym is) others) other)

-- a text that isn't one of the words isn't any word's
pub none_is : (text : List ℕ) (ws : List Word) (n : ℕ) → ws ≡ all_words → length ws ≤ n → All (IsOther text) (take n all_words)
    → (w : Word) → text ≢ text_of w
none_is text ws n is le others w =
    let all : All (IsOther text) all_words = subst (All (IsOther text))
    (take_all n all_words (subst (λ (l : List Word). length l ≤ n) is le)) others in
    subst (IsOther text) (at_place w) (All-get_or (IsOther text) all_words (place w) words.Show (place_below w) all)
