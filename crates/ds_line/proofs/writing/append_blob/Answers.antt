use Rattle.std.proofs.Common.{◌≡◌, ℕ, List, ◌-◌, ◌∙◌, OnOk, length, drop, ap, subst}
use Rattle.std.proofs.lemmas.List.{length-drop}
use Rattle.hex.specs.Hex.{encode_lower}
use Rattle.ds_line.proofs.SixteenLemmas.{take_whole, out_joined}
use Rattle.ds_line.proofs.writing.append_blob.Goals as goal

pub returns-in-Ok-clause-written : goal.returns-in-Ok-clause-written
returns-in-Ok-clause-written c =
    let blob = c.args.blob.now in
    let n : ℕ = c.write_sixteens-written.result in
    let rest : c.encode_to_slice.new.output ≡ encode_lower (drop n blob) =
    c.in-Ok.ensures.written ∙ ap encode_lower (take_whole (drop n blob) (length blob - n) (length-drop n blob)) in
    subst (λ (t : List ℕ). OnOk c.append_all.result (c.append_all.new.buffer.items ≡ t))
    (out_joined c.args.buffer.now.items c.args.before.now c.args.after.now blob c.write_sixteens-written.new.block
    c.encode_to_slice.new.output n c.write_sixteens-written.ensures.written rest)
    c.append_all.ensures.written
