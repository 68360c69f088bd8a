use Rattle.std.proofs.Common.{rules, arith, sym, subst, ◌<◌}
use Rattle.ds_feed.specs.Feed.{accepts}
use Rattle.ds_feed.specs.Kept.{Kept, Keeps}
use Rattle.ds_feed.specs.Sound.{kept_of}
use Rattle.ds_feed.proofs.FeedLemmas.{keeps_pushed}
use Rattle.ds_feed.proofs.journal.Journal.push.Goals as goal
use Rattle.ds_names.specs.Limits.{last_place}

pub invariant_of-self : goal.invariant_of-self
invariant_of-self c =
    let before = c.self.invariant.feed in
    let room : c.self.inside.position < last_place = subst (λ (j : Kept). j.position < last_place) (sym c.self.view_is) c.requires in
    record {
      feed = (
        accepts before.0 c.args.item,
        keeps_pushed (kept_of c.self.inside) _ before.0 c.args.item before.1 (search rules) (search rules)
            (search rules) (search rules) (search rules),
      );
      ring = let r = c.self.invariant.ring in search rules;
      limit = omega arith;
    }

pub returns : goal.returns
returns c = λ f k. keeps_pushed (kept_of c.self.inside) _ f c.args.item (subst (λ (j : Kept). Keeps j f) (sym c.self.view_is) k)
    (search rules) (search rules) (search rules) (search rules) (search rules)
