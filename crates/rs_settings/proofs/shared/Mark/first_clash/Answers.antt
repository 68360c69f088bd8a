use Rattle.std.proofs.Common.{◌≡◌, take, true, false, sym, ◌∙◌, arith}
use Rattle.std.specs.List.{list_any}
use Rattle.rs_settings.specs.Draft.{service_of_draft, share_by}
use Rattle.rs_settings.proofs.SharedLemmas.{first_clash-here, first_clash-past}
use Rattle.rs_settings.proofs.shared.Mark.first_clash.Goals as goal

pub returns-then-clashes : goal.returns-then-clashes
returns-then-clashes c =
    let h : list_any (λ e. share_by c.args.self (service_of_draft c.index-drafts-i.result) (service_of_draft e))
    (take c.loop-i.i c.args.drafts.now) ≡ true = sym c.clashes.ensures ∙ c.if-clashes.true in
    first_clash-here (share_by c.args.self) c.args.drafts.now c.loop-i.i c.index-drafts-i.result (omega arith) c.index-drafts-i.is
    c.loop-i.invariant h

pub loop-i-preserved : goal.loop-i-preserved
loop-i-preserved c =
    let h : list_any (λ e. share_by c.args.self (service_of_draft c.index-drafts-i.result) (service_of_draft e))
    (take c.loop-i.i c.args.drafts.now) ≡ false = sym c.clashes.ensures ∙ c.if-clashes.false in
    first_clash-past (share_by c.args.self) c.args.drafts.now c.loop-i.i c.index-drafts-i.result (omega arith) c.index-drafts-i.is
    c.loop-i.invariant h
