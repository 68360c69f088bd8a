use Rattle.std.proofs.Common.{◌≡◌, ℕ, List, ◌+◌, ◌++◌, ◌∙◌, sym, ap, length, take, drop, map, arith, length-append}
use Rattle.std.specs.List.{concat}
use Rattle.ds_line.specs.ItemSpelling.{item_spelling}
use Rattle.c_values.proofs.GivingLemmas.{one_more, put_after, all_given}
use Rattle.c_values.proofs.giving.give_lines.Goals as goal

pub loop-count-preserved : goal.loop-count-preserved
loop-count-preserved c =
    let k = c.loop-count in let x = c.index-items-count.result in let ps : List (List ℕ) = map item_spelling c.args.items.now in
    let p : List ℕ = item_spelling x in
    let front : List ℕ = concat (take k.count ps) in
    let more : concat (take (k.count + 1) ps) ≡ front ++ p = one_more c.args.items.now k.count x (omega arith) c.index-items-count.is in
    let line : c.append_item.new.buffer.items ≡ p = c.in-Ok.ensures.written ∙ ap (λ l. l ++ p) c.clear.ensures.items in
    let bytes : c.as_slice-bytes.result.now ≡ p = c.as_slice-bytes.ensures.value ∙ line in
    let count : length c.as_slice-bytes.result.now ≡ length p = ap length bytes in
    let there = put_after front c.args.room.now k.room c.put.new.room p k.taken k.invariant.taken k.invariant.room
    (rw bytes at c.put.ensures) in
    record {
      taken = omega (arith, k.invariant.taken, count, ap length more, length-append front p);
      fits = omega (arith, count);
      room = there ∙ ap (λ l. l ++ drop (k.taken + length p) c.args.room.now) (sym more) ∙
          ap (λ n. concat (take (k.count + 1) ps) ++ drop (k.taken + n) c.args.room.now) (sym count);
    }

pub returns : goal.returns
returns c = all_given c.args.items.now c.args.room.now c.loop-count.room c.loop-count.count c.loop-count.taken (omega arith)
    c.loop-count.invariant.taken c.loop-count.invariant.room
