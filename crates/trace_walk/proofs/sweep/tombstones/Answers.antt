use Rattle.std.proofs.Common.{◌≤◌, ◌++◌, ◌∷◌, ◌∙◌, [], length, length-append, sym, ap, arith, List}
use Rattle.std.proofs.lemmas.List.{take_all}
use Rattle.ds_entry.specs.Change.{ChangeRecord}
use Rattle.ds_held.specs.Held.{held_changes}
use Rattle.ds_held.specs.Limits.{LimitsRecord}
use Rattle.ds_held.proofs.HeldLemmas.{count_is}
use Rattle.trace_walk.proofs.SweepLemmas.{gone_of, held_gone, gone_added, gone_passed, most_keys}
use Rattle.trace_walk.proofs.sweep.tombstones.Goals as goal
use Rattle.trace_walk.proofs.sweep.tombstones.Goals.{in-Some+in_ok-push, in_default}

pub loop-index-preserved : goal.loop-index-preserved
loop-index-preserved c =
    let owner = c.args.sweep.now.owner in
    let generation = c.args.sweep.now.generation in
    let all = held_changes c.args.held.now in
    let i = c.loop-index.index in
    elim c.match-tombstone_at.branch [
      | in-Some+in_ok-push w ↦ record {
        all = w.gone-is ∙ w.in_ok-push.ensures.ok ∙ ap (λ (l : List _). l ++ w.in-Some.tombstone ∷ []) c.loop-index.invariant.all ∙
            gone_added owner generation all i w.in-Some.tombstone (sym w.in-Some.is ∙ c.tombstone_at.ensures);
        few =
            omega (
              arith,
              ap length w.gone-is,
              ap length w.in_ok-push.ensures.ok,
              length-append c.loop-index.gone (w.in-Some.tombstone ∷ []),
              c.loop-index.invariant.few,
            );
      }
      | in_default w ↦ record {
        all = w.gone-is ∙ c.loop-index.invariant.all ∙
            gone_passed owner generation all i (omega
            (arith, c.loop-index-test.true, c.len-index-end.ensures.count, count_is c.args.held.now))
            (sym w.in_default.is ∙ c.tombstone_at.ensures);
        few = omega (arith, ap length w.gone-is, c.loop-index.invariant.few);
      }
    ]

pub returns-clause-all : goal.returns-clause-all
returns-clause-all c =
    let all = held_changes c.args.held.now in
    let many : length all ≤ c.loop-index.index =
    omega (arith, c.loop-index-test.false, c.len-index-end.ensures.count, count_is c.args.held.now) in
    c.loop-index.invariant.all
    ∙ ap (λ (l : List ChangeRecord). gone_of c.args.sweep.now.owner c.args.sweep.now.generation l) (take_all c.loop-index.index all many)
    ∙ held_gone c.args.sweep.now.owner c.args.sweep.now.generation c.args.held.now

-- as many as there are keys, of the smaller or of the larger limits
pub returns-clause-few : goal.returns-clause-few
returns-clause-few c =
    let keys : c.keys-most.result ≤ 4096 = most_keys c.limits.result c.keys-most.result c.keys-most.ensures.count
    c.keys-most.ensures.limits in
    omega (
      arith,
      keys,
      c.keys-most.ensures.count,
      ap (λ (l : LimitsRecord). l.keys) c.limits.ensures,
      c.len-index-end.ensures.few,
      c.loop-index.invariant.few,
      c.loop-index.auto.index-end,
    )
