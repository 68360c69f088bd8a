use Rattle.std.proofs.Common.{◌≡◌, ℕ, ◌-◌, List, [], ◌∷◌, ◌++◌, length, take, drop, length-drop, sym, ap, ◌∙◌, subst, arith}
use Rattle.std.specs.List.{All, flat_map}
use Rattle.std.proofs.lemmas.List.{take_all, take-append-drop}
use Rattle.std.proofs.lemmas.Result.{err_from_is_err_and}
use Rattle.std.proofs.lemmas.List.Elements.{All-push}
use Rattle.std.proofs.lemmas.Bool.Decides.{nat_tests}
use Rattle.ds_entry.specs.Item.{IsItem}
use Rattle.ds_entry.specs.declared.item.Item.{Item}
use Rattle.ds_entry.specs.declared.item.Item.TheVariants.{Change as Changed}
use Rattle.ds_line.specs.ItemFault.{HasNoItem}
use Rattle.ds_line.specs.ItemSpelling.{item_spelling}
use Rattle.c_values.proofs.ItemsLemmas.{lines_with, none_after, begins_with}
use Rattle.c_values.proofs.lines.read_items.Goals as goal

pub returns-in-Err-BadLine : goal.returns-in-Err-BadLine
returns-in-Err-BadLine c is are =
    let none : HasNoItem c.loop-rest.rest.now = (rw c.in-Err-BadLine.field-0-is at c.in-Err-BadLine.ensures.fault).none in
    none_after c.args.text.now c.loop-rest.rest.now c.loop-rest.items is c.loop-rest.invariant.each c.loop-rest.invariant.so_far
    (grind (arith, nat_tests)) none are

-- no room for the value of the item whose line comes next
pub returns-in-Err-NoRoom : goal.returns-in-Err-NoRoom
returns-in-Err-NoRoom c =
    let takes = rw c.in-Err-NoRoom.field-0-is at c.in-Err-NoRoom.ensures.fault in
    begins_with c.args.text.now c.loop-rest.items (Changed takes.change) takes.rest c.loop-rest.invariant.each takes.line
    (c.loop-rest.invariant.so_far ∙ ap (λ (l : List ℕ). flat_map item_spelling c.loop-rest.items ++ l) takes.front)

-- no room for the item in the list
pub returns-in_err-push-in-Ok : goal.returns-in_err-push-in-Ok
returns-in_err-push-in-Ok c =
    let rest : List ℕ = c.loop-rest.rest.now in
    let n = c.in-Ok.length in
    let front : rest ≡ item_spelling c.in-Ok.item ++ drop n rest =
    sym (take-append-drop n rest) ∙ ap (λ (l : List ℕ). l ++ drop n rest) c.in-Ok.ensures.found in
    let exit = err_from_is_err_and c.from_residual.result c.from_residual.ensures.1 in
    rw exit.1
    (begins_with c.args.text.now c.loop-rest.items c.in-Ok.item (drop n rest) c.loop-rest.invariant.each c.in-Ok.ensures.line
    (c.loop-rest.invariant.so_far ∙ ap (λ (l : List ℕ). flat_map item_spelling c.loop-rest.items ++ l) front))

pub loop-rest-preserved : goal.loop-rest-preserved
loop-rest-preserved c =
    let rest : List ℕ = c.loop-rest.rest.now in
    let n = c.in-Ok.length in
    let pushed = c.in_ok-push-in-Ok.ensures.ok in
    let left : take (length rest - n) (drop n rest) ≡ drop n rest =
    take_all (length rest - n) (drop n rest) (omega (arith, length-drop n rest)) in
    let more : c.args.text.now ≡ flat_map item_spelling (c.loop-rest.items ++ c.in-Ok.item ∷ []) ++ drop n rest =
    lines_with c.args.text.now rest c.loop-rest.items c.in-Ok.item n c.loop-rest.invariant.so_far c.in-Ok.ensures.found in
    record {
      each = subst (λ (l : List Item). All IsItem l) (sym pushed)
          (All-push IsItem c.loop-rest.items c.in-Ok.item c.loop-rest.invariant.each c.in-Ok.ensures.line);
      so_far = more ∙ ap (λ (l : List Item). flat_map item_spelling l ++ drop n rest) (sym pushed) ∙
          ap (λ (l : List ℕ). flat_map item_spelling c.push.new.self ++ l) (sym left);
    }
