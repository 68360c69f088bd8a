-- The effects of the calls on a subscriber's map, and their answers.
use Rattle.std.specs.Prelude.{◌≡◌, ◌⊎◌, ℕ, ◌<◌, ◌≤◌, ◌++◌, cond, IsFalse, List, length, Option, Some, None, Result, Ok, Err, IfOk, IfErr}
use Rattle.ds_names.specs.Endpoint.{EndpointRecord}
use Rattle.ds_entry.specs.declared.body.Value.TheVariants.{Label}
use Rattle.ds_entry.specs.declared.item.Item.{Item}
use Rattle.ds_held.specs.Held.{Holding, held_items}
use Rattle.ds_join.specs.declared.merge.Stop.{Stop}
use Rattle.ds_machine.specs.Stopped.{refusal_of_join}
use Rattle.ds_machine.specs.declared.refusal.Refusal.{Refusal}
use Rattle.ds_machine.specs.declared.refusal.Refusal.TheVariants as refusals
use Rattle.ds_machine.specs.declared.reply.Reply.{Reply}
use Rattle.ds_machine.specs.declared.reply.Reply.TheVariants.{Found, Merged, MergeStopped, Refused}
use Rattle.ds_pattern.specs.Patterns.{IsPattern, is_pattern}
use Rattle.ds_pattern.specs.Under.{query_of}
use Rattle.ds_join.specs.declared.count.Count.{Count}
use Rattle.ds_submap.specs.Map.{SubMapRecord, empty_map, endpoint_of_label}
use Rattle.ds_submap.specs.Take.{AreCounted, IsTakeStopped, JoinsUnder, done_items}
use Rattle.ds_submap.specs.Floors.{EachFloorStands}
use Rattle.c_values.specs.Answer.{answer_of, no_request, told_no_room}
use Rattle.c_values.specs.Lines.{AreLines, BeginsWithItem}
use Rattle.c_values.specs.Request.{is_name}
use Rattle.c_values.specs.declared.answer.Answer.{Answer}

-- Whether the number is a sum of kinds.
abbrev pub IsKindSum : ℕ → Type 0
IsKindSum kinds = (0 < kinds) × (kinds ≤ 15)

-- Whether the map is empty, and its query has this pattern and these kinds.
pub record IsMapOf (kinds : ℕ) (text : List ℕ) (map : SubMapRecord) : Type 0 where
  pub is_sum : IsKindSum kinds
  pub pattern : IsPattern text
  pub value : map ≡ empty_map (query_of text kinds)

-- Whether the refusal is the first that applies: to the kinds, then to the length of the pattern, then to the pattern. NoRoom may come
-- in place of BadPattern, or after it.
abbrev pub IsMapRefusal : Refusal → ℕ → List ℕ → Type 0
IsMapRefusal refusals.BadKind kinds text = ¬ IsKindSum kinds
IsMapRefusal refusals.TooLong kinds text = IsKindSum kinds × (128 < length text)
IsMapRefusal refusals.BadPattern kinds text = IsKindSum kinds × (length text ≤ 128) × IsFalse (is_pattern text)
IsMapRefusal refusals.NoRoom kinds text = IsKindSum kinds × (length text ≤ 128)
IsMapRefusal _ kinds text = ⊥

-- The reply of a Merge with the same result that owes no notices.
abbrev pub reply_of_take : Result Count Stop → Reply
reply_of_take (Ok count) = Merged count.done count.taken count.stale 0
reply_of_take (Err stop) = MergeStopped stop.done (refusal_of_join stop.fault) 0

-- Whether the items are merged in order, all or those before the first refused one, and the answer has their counts.
pub record TakesItems (old : SubMapRecord) (items : List Item) (answer : Answer) (new : SubMapRecord) : Type 0 where
  pub taken : Result Count Stop
  pub joined : JoinsUnder old.query old.held (done_items taken items) new.held
  pub counted : IfOk taken (AreCounted old.query old.held items new.held)
  pub stopped : IfErr taken (IsTakeStopped old.query old.held items new.held)
  pub floors : EachFloorStands (held_items old.held ++ done_items taken items) (held_items new.held)
  pub query : new.query ≡ old.query
  pub told : answer ≡ answer_of (reply_of_take taken)

-- Whether the text is the lines of items, and these are merged.
pub record GivesItemsOf (old : SubMapRecord) (text : List ℕ) (answer : Answer) (new : SubMapRecord) : Type 0 where
  pub items : List Item
  pub lines : AreLines items text
  pub takes : TakesItems old items answer new

-- Whether the map is unchanged, and this is the answer.
pub record StaysMap (old : SubMapRecord) (told answer : Answer) (new : SubMapRecord) : Type 0 where
  pub told_is : answer ≡ told
  pub map_is : new ≡ old

-- Whether the items of the text are merged. If the text isn't the lines of items, or begins with an item's line and memory runs out for the
-- items, the map is unchanged.
abbrev pub GivesItems : SubMapRecord → List ℕ → Answer → SubMapRecord → Type 0
GivesItems old text answer new =
    GivesItemsOf old text answer new
    ⊎ ((((items : List Item) → ¬ AreLines items text) × StaysMap old no_request answer new)
    ⊎ (BeginsWithItem text × StaysMap old told_no_room answer new))

-- The reply of a Retrieve of a label with this endpoint, or NotFound without one.
abbrev pub reply_of_label : Option EndpointRecord → Reply
reply_of_label (Some endpoint) = Found (Label endpoint)
reply_of_label None = Refused refusals.NotFound

-- The answer of a Retrieve of the label, or no request if the bytes aren't a name.
abbrev pub told_label : Holding → List ℕ → Answer
told_label held name = cond (is_name name) (answer_of (reply_of_label (endpoint_of_label held name))) no_request
