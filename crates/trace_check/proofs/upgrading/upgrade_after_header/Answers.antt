use Rattle.std.proofs.Common.{◌++◌, ◌∙◌, [], List, ℕ, refl, sym, subst, ap}
use Rattle.std.specs.Io.KnownBytes.{Appends}
use Rattle.std.proofs.KnownBytes.{Appends-nil, Appends-trans}
use Rattle.std.proofs.lemmas.Result.{IfOk-weaker, IfErr-weaker}
use Rattle.line_io.proofs.CallLemmas.{no_calls}
use Rattle.trace_walk.specs.declared.header.Header.{Header}
use Rattle.trace_walk.specs.Text.{header_text}
use Rattle.trace_walk.specs.Upgrade.{upgraded}
use Rattle.trace_walk.specs.Steps.{first_spot}
use Rattle.trace_walk.proofs.FaultLemmas.{carried}
use Rattle.trace_check.proofs.CauseLemmas.{blames_on}
use Rattle.trace_check.proofs.UpgradingLemmas.{begins_two, header_upgrades, nothing_yet, stops_in_header}
use Rattle.trace_check.proofs.upgrading.upgrade_after_header.Goals as goal

pub returns-in-Two-clause-stopped : goal.returns-in-Two-clause-stopped
returns-in-Two-clause-stopped g c bytes walks =
    let two = sym (ap (λ (h : Header). h.format) c.header-header.ensures) ∙ c.in-Two.is in (
      [],
      Appends-nil (g.W.Sink.contents c.args.writer.now),
      (refl, begins_two bytes c.args.walk.now (g.R.Source.remaining c.args.reader.now) walks two),
    )

pub returns-in_err-append_header-clause-stopped : goal.returns-in_err-append_header-clause-stopped
returns-in_err-append_header-clause-stopped g c =
    carried c.from_residual.result _ _ c.from_residual.ensures.1
    (λ bytes walks. ([], Appends-nil (g.W.Sink.contents c.args.writer.now), nothing_yet bytes))

pub returns-in_err-write_out-clause-stopped : goal.returns-in_err-write_out-clause-stopped
returns-in_err-write_out-clause-stopped g c =
    let w = c.args.walk.now in
    let one = sym (ap (λ (h : Header). h.format) c.header-header.ensures) ∙ c.in-One.is in
    let header = c.upgraded.ensures ∙ ap (λ (h : Header). upgraded h) c.header-header.ensures in
    let text = c.as_slice.ensures.value ∙ c.in_ok-append_header.ensures ∙
    ap (λ (l : List ℕ). l ++ header_text c.upgraded.result) c.new-text.ensures.items ∙ ap (λ (h : Header). header_text h) header in
    let e = c.in_err-write_out.ensures.err in
    carried c.from_residual-in_err-write_out.result _ _ c.from_residual-in_err-write_out.ensures.1
    (λ bytes walks. (e.0, e.3, stops_in_header bytes w (g.R.Source.remaining c.args.reader.now) walks one e.0 e.1 (sym text ∙ e.2)))

pub returns-clause-upgraded : goal.returns-clause-upgraded
returns-clause-upgraded g c =
    let w = c.args.walk.now in
    let from = g.R.Source.remaining c.args.reader.now in
    let had = g.W.Sink.contents c.args.writer.now in
    let mid = g.W.Sink.contents c.write_out.new.writer in
    let has = g.W.Sink.contents c.upgrade_entries.new.writer in
    let one = sym (ap (λ (h : Header). h.format) c.header-header.ensures) ∙ c.in-One.is in
    let header = c.upgraded.ensures ∙ ap (λ (h : Header). upgraded h) c.header-header.ensures in
    let text = c.as_slice.ensures.value ∙ c.in_ok-append_header.ensures ∙
    ap (λ (l : List ℕ). l ++ header_text c.upgraded.result) c.new-text.ensures.items ∙ ap (λ (h : Header). header_text h) header in
    let sent = subst (λ (t : List ℕ). Appends had mid t) text c.in_ok-write_out.ensures.ok in
    let first = header_text (upgraded w.header) in
    IfOk-weaker c.upgrade_entries.result _ _
    (λ count all bytes walks.
    let e = all (first_spot bytes w.header) first walks (header_upgrades bytes w from walks one) in
    (e.0, first ++ e.1, e.2, Appends-trans had mid has first e.1 sent e.3, e.4))
    c.upgrade_entries.ensures.all

pub returns-clause-stopped : goal.returns-clause-stopped
returns-clause-stopped g c =
    let w = c.args.walk.now in
    let from = g.R.Source.remaining c.args.reader.now in
    let had = g.W.Sink.contents c.args.writer.now in
    let mid = g.W.Sink.contents c.write_out.new.writer in
    let has = g.W.Sink.contents c.upgrade_entries.new.writer in
    let one = sym (ap (λ (h : Header). h.format) c.header-header.ensures) ∙ c.in-One.is in
    let header = c.upgraded.ensures ∙ ap (λ (h : Header). upgraded h) c.header-header.ensures in
    let text = c.as_slice.ensures.value ∙ c.in_ok-append_header.ensures ∙
    ap (λ (l : List ℕ). l ++ header_text c.upgraded.result) c.new-text.ensures.items ∙ ap (λ (h : Header). header_text h) header in
    let sent = subst (λ (t : List ℕ). Appends had mid t) text c.in_ok-write_out.ensures.ok in
    let first = header_text (upgraded w.header) in
    IfErr-weaker c.upgrade_entries.result _ _
    (λ fault part bytes walks.
    let e = part (first_spot bytes w.header) first walks (header_upgrades bytes w from walks one) in
    (first ++ e.0, Appends-trans had mid has first e.0 sent e.1, e.2))
    c.upgrade_entries.ensures.part

pub returns-in_err-append_header-clause-cause : goal.returns-in_err-append_header-clause-cause
returns-in_err-append_header-clause-cause g c =
    carried c.from_residual.result _ _ c.from_residual.ensures.1 (λ first led. no_calls g.W.Sink.writes c.args.writer.now)

pub returns-in_err-write_out-clause-cause : goal.returns-in_err-write_out-clause-cause
returns-in_err-write_out-clause-cause g c =
    carried c.from_residual-in_err-write_out.result _ _ c.from_residual-in_err-write_out.ensures.1
    (λ first led. c.in_err-write_out.ensures.cause)

pub returns-in-Two-clause-cause : goal.returns-in-Two-clause-cause
returns-in-Two-clause-cause g c first led = no_calls g.W.Sink.writes c.args.writer.now

pub returns-clause-cause : goal.returns-clause-cause
returns-clause-cause g c =
    IfErr-weaker c.upgrade_entries.result _ _
    (λ fault caused first led.
    blames_on g.R.Source g.W.Sink fault first c.upgrade_entries.new.reader c.args.writer.now c.write_out.new.writer
    c.upgrade_entries.new.writer c.in_ok-write_out.ensures.led (caused first led))
    c.upgrade_entries.ensures.cause
