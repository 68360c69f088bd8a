-- Rows: readers don't agree without one of their premises, and all hold of two stores.
use Rattle.std.specs.Prelude.{◌≡◌, true, List, [], ◌∷◌, Contains}
use Rattle.ds_entry.specs.Under.{under}
use Rattle.ds_join.specs.ItemTop.{IsPartOf}
use Rattle.ds_machine.specs.Reached.{AreExact}
use Rattle.ds_pattern.specs.declared.query.Query.{Query}
use Rattle.ds_pattern.specs.Under.{is_under}
use Rattle.ds_replica.specs.Rows.{ended, irq, one}
use Rattle.holders.specs.Holding.{all_held}
use Rattle.holders.specs.Readers.{HasRead, HaveReadEachOther, Reader, all_before}

-- Whether each two of the readers hold the same under the query.
abbrev pub HoldAlike : Query → List Reader → Type 0
HoldAlike query readers =
    (r s : Reader) → Contains readers r → Contains readers s →
    under (is_under query) (all_held r.holder) ≡ under (is_under query) (all_held s.holder)

-- A law: if a store hasn't read another, they can hold different items.
abbrev pub ReadingIsNeeded : Type 0
ReadingIsNeeded = (query : Query) → is_under query irq ≡ true → ¬
    ((readers : List Reader) → AreExact (under (is_under query) (all_before readers)) →
    ((r : Reader) → Contains readers r → IsPartOf (under (is_under query) r.known) (under (is_under query) (all_before readers))) →
    HoldAlike query readers)

-- A law: so can they if one was brought something else meanwhile.
abbrev pub NothingElseIsNeeded : Type 0
NothingElseIsNeeded = (query : Query) → is_under query irq ≡ true → ¬
    ((readers : List Reader) → AreExact (under (is_under query) (all_before readers)) →
    ((from to : Reader) → Contains readers from → Contains readers to → HasRead query from to) → HoldAlike query readers)

-- The row in which a store was brought an entry and a floor that voids this, and an empty store reads it.
pub record ReadersMeet (query : Query) : Type 0 where
  pub first : Reader
  pub second : Reader
  pub have : HaveReadEachOther query (first ∷ second ∷ [])
  pub exact : AreExact (under (is_under query) (all_before (first ∷ second ∷ [])))
  pub before : (first.before ≡ one ∷ ended ∷ []) × (second.before ≡ [])
  pub known : second.known ≡ ended ∷ []
  pub held : all_held second.holder ≡ ended ∷ []

-- A law: the row holds for every query.
abbrev pub ReaderPremisesHold : Type 0
ReaderPremisesHold = (query : Query) → ReadersMeet query
