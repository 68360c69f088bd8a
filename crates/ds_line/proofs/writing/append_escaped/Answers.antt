use Rattle.std.proofs.Common.{◌≡◌, ◌-◌, ◌++◌, [], ◌∷◌, take, drop, refl, sym, ap, append_assoc, append-nil, ◌∙◌, arith}
use Rattle.std.proofs.lemmas.List.{take_at, take_all, length-drop}
use Rattle.std.proofs.lemmas.List.Sums.{prefix_len-le-length}
use Rattle.ds_line.specs.Spelling.{escaped_byte}
use Rattle.ds_line.proofs.PlainLemmas.{is_plain, run_written, run_more}
use Rattle.ds_line.proofs.writing.append_escaped.Goals as goal

pub loop-first-init : goal.loop-first-init
loop-first-init c = record { kept = ([], sym (append-nil c.args.buffer.now.items)); written = refl }

pub split_at-requires : goal.split_at-requires
split_at-requires c = rw c.plain_len.ensures (prefix_len-le-length is_plain c.in-Some.after.now)

pub returns-in-Err-clause-unchanged : goal.returns-in-Err-clause-unchanged
returns-in-Err-clause-unchanged c =
    c.truncate.ensures.items
    ∙ ap (take c.len-start.result) (c.in-Err.ensures.unchanged ∙ c.loop-first.invariant.kept.1)
    ∙ take_at c.args.buffer.now.items c.loop-first.invariant.kept.0 c.len-start.result
    (omega (arith, c.len-start.ensures, c.args.buffer.now.ok.0))

pub loop-first-preserved : goal.loop-first-preserved
loop-first-preserved c =
    let front = c.split_at.ensures.front ∙ ap (λ n. take n c.in-Some.after.now) c.plain_len.ensures in
    let back = c.split_at.ensures.back ∙ ap (λ n. drop n c.in-Some.after.now) c.plain_len.ensures in
    let plain = c.split_at.result.0.now in
    let more = c.split_at.result.1.now in
    let first = c.in-Some.first.now in
    let one = run_written c.loop-first.rest.now first c.in-Some.after.now plain more c.in-Some.ensures.cases.0 front back in
    let from = c.spelled_from.result in
    let spelled : take (2 - from) (drop from (92 ∷ first ∷ [])) ≡ escaped_byte first =
    take_all (2 - from) (drop from (92 ∷ first ∷ [])) (omega (arith, length-drop from (92 ∷ first ∷ []))) ∙
    c.spelled_from.ensures.spelled in
    let is : c.append_all.new.buffer.items ≡ c.loop-first.buffer.items ++ (escaped_byte first ++ plain) = c.in-Ok.ensures.written ∙
    ap (λ t. c.loop-first.buffer.items ++ (t ++ (plain ++ []))) spelled ∙
    ap (λ t. c.loop-first.buffer.items ++ (escaped_byte first ++ t)) (append-nil plain) in
    record {
      kept = (
        c.loop-first.invariant.kept.0 ++ (escaped_byte first ++ plain),
        is ∙ ap (λ t. t ++ (escaped_byte first ++ plain)) c.loop-first.invariant.kept.1 ∙
            append_assoc c.args.buffer.now.items c.loop-first.invariant.kept.0 (escaped_byte first ++ plain),
      );
      written = run_more c.loop-first.buffer.items c.append_all.new.buffer.items c.args.buffer.now.items c.loop-first.rest.now
          c.args.text.now more first plain c.loop-first.invariant.written one is;
    }
