use Rattle.std.proofs.Common.{◌≡◌, ◌∙◌, Option, None, replicate, ap}
use Rattle.ds_watch.specs.Watching.{Watching}
use Rattle.ds_machine.specs.State.{opening}
use Rattle.ds_content.proofs.OpenLemmas.{places_here, none_marked, none_pending, stands_opening}
use Rattle.ds_content.proofs.content.Content.open.Goals as goal

pub invariant_of-result : goal.invariant_of-result
invariant_of-result c =
    let none : c.new-2.result ≡ replicate c.args.limits.subs None =
    c.new-2.ensures ∙ ap (λ n. replicate {A = Option Watching} n None) c.subs-subs.ensures.count in
    record {
      places = places_here c.bounded.result c.new-2.result c.args.limits c.bounded.ensures none;
      marked = none_marked c.bounded.result c.new-2.result c.args.limits c.bounded.ensures none;
      pending = none_pending c.bounded.result c.new-2.result c.args.limits c.bounded.ensures none c.none.result c.none.ensures;
      stood = (
        opening c.args.incarnation c.args.first c.args.ring c.args.limits,
        stands_opening c.bounded.result c.new-2.result c.args.limits c.bounded.ensures none c.in_ok-journal.journal c.args.incarnation
            c.args.first c.args.ring c.args.first
            c.in_ok-journal.ensures.opened (λ i. c.args.first) c.subs-subs.ensures.limits c.in_ok-journal.ensures.fits.1,
      );
    }

pub returns-clause-opened : goal.returns-clause-opened
returns-clause-opened c =
    let none : c.new-2.result ≡ replicate c.args.limits.subs None =
    c.new-2.ensures ∙ ap (λ n. replicate {A = Option Watching} n None) c.subs-subs.ensures.count in
    stands_opening c.bounded.result c.new-2.result c.args.limits c.bounded.ensures none c.in_ok-journal.journal c.args.incarnation
    c.args.first c.args.ring c.args.first
    c.in_ok-journal.ensures.opened (λ i. c.args.first) c.subs-subs.ensures.limits c.in_ok-journal.ensures.fits.1
