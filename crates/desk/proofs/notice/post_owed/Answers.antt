use Rattle.std.proofs.Common.{◌/◌, ◌*◌, ◌^◌, ap, arith, refl, ◌∙◌}
use Rattle.std.specs.Prelude.{is_some}
use Rattle.std.proofs.lemmas.Nat.{and_le_r}
use Rattle.desk.proofs.PostLemmas.{few_still, mask_fits, owes_still, posted_more, posted_skip, posting_moved, posting_none}
use Rattle.desk.proofs.notice.post_owed.Goals as goal
use Rattle.desk.proofs.notice.post_owed.Goals.{then-bits-ne0, else-bits-ne0}

pub loop-server-init : goal.loop-server-init
loop-server-init g c = posting_none c.args.seat.now c.args.owed c.args.raises.now c.requires.room c.requires.counted

pub post-found-requires-clause-owed : goal.post-found-requires-clause-owed
post-found-requires-clause-owed g c = let i = c.loop-server.invariant.posted in let m =
    and_le_r (c.args.owed / 2 ^ (8 * c.loop-server.server)) 255 in record {
      opened = ap is_some i.posts.opening ∙ c.requires.room.opened;
      owed = c.args.owed;
      last = owes_still _ _ _ _ _ c.requires.last i.posts;
      part = refl;
      eight_bits = omega arith;
      few = few_still _ _ _ _ _ _ c.requires.room i;
    }

pub overflow_add-raised : goal.overflow_add-raised
overflow_add-raised g c = let h = mask_fits _ _ c.loop-server.server c.args.owed c.post-found.result _ _ c.loop-server-test.true
    c.loop-server.invariant.posted in omega arith

pub loop-server-preserved : goal.loop-server-preserved
loop-server-preserved g c = let i = c.loop-server.invariant in
    elim c.if-bits-ne0.branch [
      | then-bits-ne0 w ↦ let n = w.post-found.ensures in
          posting_moved c.args.seat.now w.post-found.new.seat _ _ _ _ _ _ _ w.seat-is w.raises-is w.raised-is record {
            table = n.same.0 ∙ i.table;
            id = n.same.1 ∙ i.id;
            out = n.slots ∙ i.out;
            posted = posted_more c.args.seat.now.me.0 c.loop-server.seat.me.0 w.post-found.new.seat.me.0 c.loop-server.server _ c.args.owed
                w.post-found.result _ _ _ _ _
                c.loop-server-test.true refl n.word n.notice refl w.tally.ensures refl i.posted;
          }
      | else-bits-ne0 w ↦ posting_moved c.args.seat.now c.loop-server.seat _ _ _ _ _ _ _ w.seat-is w.raises-is w.raised-is record {
        table = i.table;
        id = i.id;
        out = i.out;
        posted = posted_skip _ _ c.loop-server.server _ c.args.owed _ _ refl w.if-bits-ne0.false i.posted;
      }
    ]
