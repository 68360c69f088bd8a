use Rattle.std.proofs.Common.{◌≡◌, Ok, rules, subst}
use Rattle.ds_entry.specs.Change.{ChangeRecord}
use Rattle.ds_held.specs.Merge.{MergeAnswer, after_merge}
use Rattle.ds_held.proofs.KeptLemmas.{merged_joins}
use Rattle.ds_held.proofs.held.Held.merge_copy.Goals as goal

pub returns-in-Ok-clause-joined : goal.returns-in-Ok-clause-joined
returns-in-Ok-clause-joined c =
    merged_joins c.args.self.now c.take.new.self c.args.change.now c.take.result c.in-Ok-Taken.ensures.sound
    (subst (λ (x : ChangeRecord). MergeAnswer c.args.self.now x c.take.result) c.in-Ok.ensures.same c.take.ensures.answer)
    (subst (λ (x : ChangeRecord). c.take.new.self ≡ after_merge c.args.self.now x c.take.result) c.in-Ok.ensures.same c.take.ensures.after)

pub returns-in_default : goal.returns-in_default
returns-in_default c = record {
  answer = c.in_default.ensures.answer;
  refused = tt;
  after = search rules;
  joined = merged_joins c.args.self.now c.args.self.now c.args.change.now (Ok _) c.in_default.ensures.sound c.in_default.ensures.answer
      (search rules);
  sound = c.in_default.ensures.sound;
}
