use Rattle.std.proofs.Common.{◌≡◌, true, ◌∙◌, get_or, sym, arith}
use Rattle.std.proofs.lemmas.List.Sums.{prefix_len-drop_yes}
use Rattle.ds_names.specs.Name.{is_name_byte}
use Rattle.ds_names.proofs.NameBlockLemmas.{fill_more}
use Rattle.ds_names.proofs.name.fill.Goals as goal

pub loop-at-preserved : goal.loop-at-preserved
loop-at-preserved c =
    let allowed : is_name_byte (get_or c.args.bytes.now c.loop-at.at 0) ≡ true = sym c.is_name_byte.ensures ∙ c.if-not-is_name_byte.false in
    let more = prefix_len-drop_yes is_name_byte c.args.bytes.now c.loop-at.at 0 c.loop-at-test.true allowed in
    record {
      block = rw c.loop-at.invariant.block (fill_more c.args.bytes.now c.loop-at.at c.loop-at-test.true
          (omega (arith, c.loop-at.invariant.fits, c.if-at-eq64.false)));
      fits = omega (arith, c.loop-at.invariant.fits, c.if-at-eq64.false);
      run = omega (arith, more, c.loop-at.invariant.run);
    }
