-- What the calls on the handle of a map return, and what they leave in it.
use Rattle.std.specs.Prelude.{◌≡◌, ℕ, List, Option, None, Some}
use Rattle.ds_machine.specs.declared.refusal.Refusal.{Refusal}
use Rattle.ds_submap.specs.Map.{SubMapRecord}
use Rattle.c_values.specs.declared.answer.Answer.{Answer}
use Rattle.c_values.specs.Answer.{refusal_number}
use Rattle.c_store.specs.Map.{IsMapOf, IsMapRefusal, GivesItems, told_label}
use Rattle.ds_c.specs.Calls.{done, is_closed, is_open}

-- Whether the word is the number of a refusal for which no map of these kinds and this pattern is made.
pub record IsNewMapWord (kinds : ℕ) (pattern : List ℕ) (word : ℕ) : Type 0 where
  pub refusal : Refusal
  pub why : IsMapRefusal refusal kinds pattern
  pub word_is : word ≡ refusal_number refusal

-- Whether an empty map is made, or none, for the first cause that applies.
abbrev pub OpenedMap : ℕ → List ℕ → ℕ → Option SubMapRecord → Type 0
OpenedMap kinds pattern word None = IsNewMapWord kinds pattern word
OpenedMap kinds pattern word (Some m) = (word ≡ done) × IsMapOf kinds pattern m

-- The effect of a call that makes a map. An open handle is unchanged.
abbrev pub OpensMap : ℕ → List ℕ → Option SubMapRecord → ℕ → Option SubMapRecord → Type 0
OpensMap kinds pattern None word new = OpenedMap kinds pattern word new
OpensMap kinds pattern (Some old) word new = (word ≡ is_open) × (new ≡ Some old)

-- Whether the map of an open handle takes the items.
abbrev pub TakenIn : SubMapRecord → List ℕ → ℕ → Answer → Option SubMapRecord → Type 0
TakenIn old lines word answer None = ⊥
TakenIn old lines word answer (Some new) = (word ≡ done) × GivesItems old lines answer new

-- The effect of a call with items. If the handle is closed, it and the answer's place are unchanged.
abbrev pub TakesInMap : Option SubMapRecord → List ℕ → Answer → ℕ → Answer → Option SubMapRecord → Type 0
TakesInMap None lines before word answer new = (word ≡ is_closed) × (answer ≡ before) × (new ≡ None)
TakesInMap (Some old) lines before word answer new = TakenIn old lines word answer new

-- The effect of a call that finds where a label is.
abbrev pub FindsInMap : Option SubMapRecord → List ℕ → Answer → ℕ → Answer → Type 0
FindsInMap None name before word answer = (word ≡ is_closed) × (answer ≡ before)
FindsInMap (Some m) name before word answer = (word ≡ done) × (answer ≡ told_label m.held name)
