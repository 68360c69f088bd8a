use Rattle.std.proofs.Common.{◌<◌, refl, ap, sym, ◌∙◌, subst}
use Rattle.ds_replica.specs.declared.event.Side.{Side}
use Rattle.ds_replica.specs.declared.event.Event.TheVariants.{RestartStore}
use Rattle.ds_replica.specs.declared.outcome.Outcome.TheVariants.{Restarted}
use Rattle.ds_world.specs.World.{WorldRecord, world_of}
use Rattle.ds_world.proofs.DeliverLemmas.{carried}
use Rattle.ds_world.proofs.MapLemmas.{restarted_a, restarted_b}
use Rattle.ds_world.proofs.world.World.restart.Goals.{in-A, in-B}
use Rattle.ds_world.proofs.world.World.restart.Goals as goal

pub returns-clause-leads : goal.returns-clause-leads
returns-clause-leads c =
    let n = c.args.incarnation in
    let inside = c.self.inside in
    let value : WorldRecord = world_of inside.a inside.b inside.maps.items inside.messages.items in
    let la : value.a.journal.incarnation < n = subst (λ m. m < n) c.incarnation.ensures c.if-incarnation.false in
    let lb : value.b.journal.incarnation < n = subst (λ m. m < n) c.incarnation-else-incarnation.ensures c.if-incarnation-2.false in
    let by_event = λ (side : Side). RestartStore side n in
    elim c.match-side.branch [
      | in-A w ↦
          carried {outcome = Restarted} (ap by_event (sym w.in-A.is)) refl c.self.view_is (sym w.self-is)
          (restarted_a value n la lb w.restart.new.self w.restart.ensures)
      | in-B w ↦
          carried {outcome = Restarted} (ap by_event (sym w.in-B.is)) refl c.self.view_is (sym w.self-is)
          (restarted_b value n la lb w.restart-in-B.new.self w.restart-in-B.ensures)
    ]

pub returns-clause-told : goal.returns-clause-told
returns-clause-told c =
    let messages = λ (v : WorldRecord). v.messages in
    elim c.match-side.branch [
      | in-A w ↦ ap messages w.self-is ∙ ap messages c.self.view_is
      | in-B w ↦ ap messages w.self-is ∙
          ap messages c.self.view_is
    ]
