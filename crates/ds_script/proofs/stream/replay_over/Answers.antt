use Rattle.std.proofs.Common.{◌≡◌, ℕ, List, sym, subst}
use Rattle.std.specs.Io.KnownBytes.{Appends}
use Rattle.ds_script.specs.Causes.{HasCause}
use Rattle.ds_script.specs.Progress.{Settles}
use Rattle.ds_script.specs.Taking.{written}
use Rattle.ds_script.proofs.CauseLemmas.{settled_cause}
use Rattle.ds_script.proofs.EndLemmas.{Told, settled_stops}
use Rattle.ds_script.proofs.stream.replay_over.Goals as goal

pub returns-in-Ok-clause-answered : goal.returns-in-Ok-clause-answered
returns-in-Ok-clause-answered g c =
    let a = (c.in-Ok.ensures).ok in
    let had = g.W.Sink.contents c.args.writer.now in
    let back : c.run-ran.new.self.writer.now ≡ c.writer-1.given.0 = sym (c.writer-1.given.1 (sym c.run-ran.ensures.same)) in
    (a.0, a.1, a.2, a.3, subst (λ (w : g.row.W.Denot). Appends had (g.W.Sink.contents w) a.1) back a.4, a.5)

pub returns-in-Err-clause-stopped : goal.returns-in-Err-clause-stopped
returns-in-Err-clause-stopped g c =
    let from = g.R.Source.remaining c.args.reader.now in
    let to = g.R.Source.remaining c.run-ran.new.reader in
    let had = g.W.Sink.contents c.args.writer.now in
    let is = written g.W.Sink c.run-ran.new.self in
    let has = g.W.Sink.contents c.settled.new.writer in
    let policy = c.args.policy in
    let before = c.args.before in
    let first = c.args.session in
    let output = c.run-ran.new.self.output.items in
    let settles = subst (λ (out : List ℕ). Settles c.settled.result c.in-Err.fault is has out) c.deref.ensures.value
    c.settled.ensures.settles in
    let back : c.settled.new.writer ≡ c.writer-in-Err-1.given.0 = sym (c.writer-in-Err-1.given.1 (sym c.run-ran.ensures.same)) in
    subst (λ (w : g.row.W.Denot). Told policy before first c.settled.result from to had (g.W.Sink.contents w)) back
    (settled_stops policy before first c.in-Err.fault c.settled.result from to had is has output (c.in-Err.ensures).err settles)

pub returns-in-Err-clause-cause : goal.returns-in-Err-clause-cause
returns-in-Err-clause-cause g c =
    let mid = c.run-ran.new.self.writer.now in
    let last = c.settled.new.writer in
    let first = c.args.writer.now in
    let old = c.args.reader.now in
    let new = c.run-ran.new.reader in
    let back : c.settled.new.writer ≡ c.writer-in-Err-1.given.0 = sym (c.writer-in-Err-1.given.1 (sym c.run-ran.ensures.same)) in
    subst (λ (w : g.row.W.Denot). HasCause g.R.Source g.W.Sink c.settled.result old new first w) back
    (settled_cause g.R.Source g.W.Sink c.settled.result c.in-Err.fault old new first mid last (c.in-Err.ensures).cause
    c.settled.ensures.cause)
