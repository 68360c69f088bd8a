use Rattle.std.proofs.Common.{List, Bool, Option, None, false, map, length, get_or, refl, ap, ◌∙◌, arith}
use Rattle.std.proofs.lemmas.List.{length-replicate}
use Rattle.ds_watch.specs.Mask.{padded}
use Rattle.ds_watch.specs.Watching.{Watching, watches}
use Rattle.ds_watch.proofs.PaddedLemmas.{padded_by_used, no_flag}
use Rattle.ds_watch.proofs.subscriptions.Subscriptions.owed.Goals as goal

pub returns : goal.returns
returns c =
    let i = c.loop-i.invariant in
    padded_by_used (watches c.args.key.now) None c.self.inside.count c.self.inside.used c.self.inside.places c.loop-i.owed i.long i.places
    c.self.invariant.1 c.self.invariant.2 refl c.self.invariant.3
    (λ k l. i.done k (omega (arith, l, c.loop-i-test.false))) (λ k l. i.rest k (omega (arith, l, c.loop-i-test.false)))
    ∙ ap (λ (ws : List (Option Watching)). padded (map (watches c.args.key.now) ws)) c.self.view_is

pub loop-i-init : goal.loop-i-init
loop-i-init c = record {
  long = ap (λ (fs : List Bool). length fs) c.none-owed.ensures ∙ length-replicate {A = Bool} 128 false;
  places = c.self.invariant.0;
  done = λ k l. absurd (omega (arith, l));
  rest = λ k l. ap (λ (fs : List Bool). get_or fs k false) c.none-owed.ensures ∙ no_flag 128 k;
}
