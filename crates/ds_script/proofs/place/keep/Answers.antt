use Rattle.std.proofs.Common.{◌+◌, get_or, arith, sym, ap, ◌∙◌, take, drop}
use Rattle.ds_script.specs.Left.{next}
use Rattle.ds_script.proofs.LeftLemmas.{after_more, kept_one, passed_one, rest_one, rest_there}
use Rattle.ds_script.proofs.place.keep.Goals.{then-keeps, else-keeps}
use Rattle.ds_script.proofs.place.keep.Goals as goal

pub loop-index-preserved : goal.loop-index-preserved
loop-index-preserved c =
    let i = c.loop-index.invariant in
    let old = c.args.bytes.now in
    let new = c.loop-index.bytes in
    let p = c.args.place.now in
    let h = c.loop-index-test.true in
    let at = c.loop-index.place in
    let kept = c.loop-index.kept in
    let index = c.loop-index.index in
    let place = c.next.ensures ∙ ap (λ q. next q (get_or new index 0)) i.place ∙ after_more p old new index h i.same i.rest in
    elim c.if-keeps.branch [
      | then-keeps w ↦ record {
        few = omega (arith, i.few, w.kept-is);
        same = c.if-keeps.auto.bytes ∙ i.same;
        kept = ap (λ n. take n c.if-keeps.bytes) w.kept-is ∙ ap (take (kept + 1)) w.bytes-is
            ∙ kept_one p at old new kept index h i.few i.same i.kept i.rest i.place (sym c.keeps.ensures ∙ w.if-keeps.true);
        rest = ap (drop (index + 1)) w.bytes-is ∙ rest_one old new kept index (get_or new index 0) h i.few i.same i.rest;
        place = place;
      }
      | else-keeps w ↦ record {
        few = omega (arith, i.few, w.kept-is);
        same = c.if-keeps.auto.bytes ∙ i.same;
        kept = ap (λ n. take n c.if-keeps.bytes) w.kept-is ∙ ap (take kept) w.bytes-is
            ∙ passed_one p at old new kept index h i.same i.kept i.rest i.place (sym c.keeps.ensures ∙ w.if-keeps.false);
        rest = ap (drop (index + 1)) w.bytes-is ∙ rest_there old new index h i.same i.rest;
        place = place;
      }
    ]
