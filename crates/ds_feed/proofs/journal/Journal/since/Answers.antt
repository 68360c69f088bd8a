use Rattle.std.proofs.Common.{◌≡◌, true, refl, ap, ◌∙◌, take}
use Rattle.std.proofs.lemmas.Result.{IfOk-weaker}
use Rattle.ds_entry.specs.declared.item.Item.{Item}
use Rattle.ds_entry.specs.declared.item.Item.TheVariants.{Change as Changed, Floor as Floored}
use Rattle.ds_entry.specs.Item.{passes}
use Rattle.ds_feed.specs.declared.reading.Since.{Since}
use Rattle.ds_feed.specs.Feed.{from, all_keys}
use Rattle.ds_feed.specs.Since.{IsGiven}
use Rattle.ds_feed.proofs.FeedLemmas.{prefix_of_all}
use Rattle.ds_feed.proofs.journal.Journal.since.Goals as goal

all_pass : (i : Item) → passes all_keys i ≡ true
all_pass (Changed c) = refl
all_pass (Floored f) = refl

pub returns-clause-items : goal.returns-clause-items
returns-clause-items c = λ f k.
    let at = c.args.cursor in
    let max = c.args.max in
    IfOk-weaker c.since_under.result (IsGiven f (passes all_keys) at max) (λ s. s.items ≡ take max (from f at.position))
    (λ s h. ap (λ (t : Since). t.items) h.given ∙ prefix_of_all (passes all_keys) all_pass max (from f at.position))
    (c.since_under.ensures.given f k)
