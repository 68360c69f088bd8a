use Rattle.std.proofs.Common.{None, take, inl, inr, ap, ◌∙◌, arith}
use Rattle.std.proofs.lemmas.List.{take-replicate, get_or_past}
use Rattle.ds_watch.proofs.PaddedLemmas.{split}
use Rattle.ds_watch.proofs.PlaceLemmas.{replicate_by_place}
use Rattle.ds_watch.proofs.subscriptions.Subscriptions.new.Goals as goal

pub invariant_of-result : goal.invariant_of-result
invariant_of-result c = (
  c.default.ensures.long,
  c.requires,
  omega arith,
  λ k l. elim (split 128 k) [
    | inl within ↦ c.default.ensures.at k None within
    | inr past ↦ get_or_past c.default.result k None
        (omega (arith, past, c.default.ensures.long))
  ],
)

pub returns : goal.returns
returns c =
    ap (take c.args.places) (replicate_by_place None None 128 c.default.result c.default.ensures.long
    (λ k l. c.default.ensures.at k None l))
    ∙ take-replicate c.args.places 128 None (omega arith)
