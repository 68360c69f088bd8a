-- What a map of C knows after calls from C.
use Rattle.std.specs.Prelude.{◌≡◌, ◌⊎◌, ℕ, List, [], ◌∷◌, Result}
use Rattle.history.specs.History.{Path}
use Rattle.ds_entry.specs.declared.item.Item.{Item}
use Rattle.ds_join.specs.declared.count.Count.{Count}
use Rattle.ds_join.specs.declared.merge.Stop.{Stop}
use Rattle.ds_submap.specs.Map.{SubMapRecord}
use Rattle.ds_submap.specs.Take.{done_items}
use Rattle.c_values.specs.Answer.{answer_of, no_request, told_no_room}
use Rattle.c_values.specs.Lines.{AreLines}
use Rattle.c_values.specs.declared.answer.Answer.{Answer}
use Rattle.c_store.specs.Map.{GivesItems, IsMapOf, reply_of_take}
use Rattle.holders.specs.Holding.{MapKnows, taken_under}

-- A call of `ds_map_take`: its text and its answer.
pub record Offered : Type 0 where
  pub text : List ℕ
  pub answer : Answer

abbrev pub LeadsByOffer : SubMapRecord → Offered → SubMapRecord → Type 0
LeadsByOffer old o new = GivesItems old o.text o.answer new

-- Whether the text is the lines of items, and the map did these of them, as the answer counts them.
pub record DidItems (o : Offered) (done : List Item) : Type 0 where
  pub items : List Item
  pub lines : AreLines items o.text
  pub taken : Result Count Stop
  pub answer_is : o.answer ≡ answer_of (reply_of_take taken)
  pub done_is : done ≡ done_items taken items

-- Whether each call did these items, in order, unless its answer says that it had none or that memory ran out for them.
abbrev pub AreTakes : List Offered → List (List Item) → Type 0
AreTakes [] takes = takes ≡ []
AreTakes (o ∷ os) takes =
    (((o.answer ≡ no_request) ⊎ (o.answer ≡ told_no_room)) × AreTakes os takes)
    ⊎ ((done : List Item) × (rest : List (List Item)) × (takes ≡ done ∷ rest) × DidItems o done × AreTakes os rest)

-- A law: from a new map on, it was brought just the items under its query that its takes did.
abbrev pub HandlesAreMaps : Type 0
HandlesAreMaps =
    (kinds : ℕ) (pattern : List ℕ) (first now : SubMapRecord) (calls : List Offered) → IsMapOf kinds pattern first →
    Path LeadsByOffer first calls now →
    (takes : List (List Item)) × AreTakes calls takes × MapKnows now (taken_under now.query takes)
