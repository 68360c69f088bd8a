use Rattle.std.proofs.Common.{◌≡◌, ◌∷◌, ◌∙◌, [], List, ℕ, refl, sym, subst, inl, arith, rules}
use Rattle.line_io.specs.Lines.{EndsLine, unended}
use Rattle.ds_script.specs.Progress.{Reached, TakesLines}
use Rattle.ds_script.specs.Taking.{reached}
use Rattle.ds_script.proofs.ProgressLemmas.{takes_none, where_both}
use Rattle.ds_script.proofs.RunLemmas.{text_none, something, last_stops}
use Rattle.line_io.proofs.CallLemmas.{no_calls}
use Rattle.ds_script.proofs.taking.Replay.take_unended.Goals as goal

pub returns-in-Ok-false-clause-takes : goal.returns-in-Ok-false-clause-takes
returns-in-Ok-false-clause-takes g c =
    let had = g.W.Sink.contents c.args.self.now.writer.now in
    let old : Reached = reached c.args.self.now in
    let none : c.args.lines.now.rest ≡ [] = (c.in-Ok-false.ensures).none (search rules) in (
      no_calls g.W.Sink.writes c.args.self.now.writer.now,
      subst (λ (bs : List ℕ). TakesLines had had old (unended bs) old) (sym none)
          (takes_none had old),
    )

pub returns-in-Err-clause-takes : goal.returns-in-Err-clause-takes
returns-in-Err-clause-takes g c =
    let had = g.W.Sink.contents c.args.self.now.writer.now in
    let old : Reached = reached c.args.self.now in
    let pending = c.args.lines.now.rest in (
      no_calls g.W.Sink.writes c.args.self.now.writer.now,
      λ to end. inl
          (old, pending, text_none had had old old pending (takes_none had old), refl),
    )

pub take_line-requires-clause-line : goal.take_line-requires-clause-line
take_line-requires-clause-line g c = subst EndsLine (sym c.line.ensures) ((c.in-Ok-true.ensures).found (search rules)).ends

pub take_line-requires-clause-few : goal.take_line-requires-clause-few
take_line-requires-clause-few g c = omega (arith, c.requires.count, ((c.in-Ok-true.ensures).found (search rules)).few)

pub returns-in-Ok-true-clause-takes : goal.returns-in-Ok-true-clause-takes
returns-in-Ok-true-clause-takes g c =
    let found = (c.in-Ok-true.ensures).found (search rules) in
    let pending = c.args.lines.now.rest in
    let one : unended pending ≡ pending ∷ [] = something pending found.some in
    let had = g.W.Sink.contents c.args.self.now.writer.now in
    let has = g.W.Sink.contents c.take_line.new.self.writer.now in
    let is = c.line.ensures ∙ found.line in
    let output = c.take_line.new.self.output.items in
    where_both c.take_line.result
    (λ _ done. (
      done.0,
      subst (λ (ls : List (List ℕ)). TakesLines had has (reached c.args.self.now) ls (reached c.take_line.new.self)) (sym one)
          (done.1 pending is),
    ))
    (λ fault stops. (
      stops.0,
      λ to end. last_stops fault to had has (reached c.args.self.now) pending output (stops.1 pending is) one c.requires.unbroken
          end,
    ))
    c.take_line.ensures.takes
