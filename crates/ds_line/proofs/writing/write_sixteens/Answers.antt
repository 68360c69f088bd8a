use Rattle.std.proofs.Common.{◌≡◌, ℕ, ◌+◌, ◌*◌, ◌-◌, ◌≤◌, ◌++◌, ◌∙◌, List, length, take, drop, ap, subst, arith}
use Rattle.std.proofs.lemmas.List.{length-drop}
use Rattle.ds_line.proofs.SixteenLemmas.{IsWrittenOut, take_whole, out_first, out_more}
use Rattle.ds_line.proofs.writing.write_sixteens.Goals as goal

pub loop-group-init : goal.loop-group-init
loop-group-init c = out_first c.args.blob.now c.args.block.now c.told-block

pub loop-group-preserved : goal.loop-group-preserved
loop-group-preserved c =
    let group : ℕ = c.loop-group.group in
    let n : ℕ = 16 * group in
    let blob = c.args.blob.now in
    let block = c.loop-group.block in
    let digits = c.digits_of-digits.result in
    let left : take (length blob - n) (drop n blob) ≡ drop n blob = take_whole (drop n blob) (length blob - n) (length-drop n blob) in
    let le : n + 16 ≤ length blob =
    omega (arith, c.in-Some.ensures.cases.2, ap length left, length-drop n blob, c.loop-group.invariant.within) in
    let is : c.in-Some.sixteen.now ≡ take 16 (drop n blob) = c.in-Some.ensures.cases.0 ∙ ap (λ (t : List ℕ). take 16 t) left in
    let more = out_more blob block c.in-Some.sixteen.now digits n c.loop-group.invariant le c.requires is c.digits_of-digits.ensures in
    let even : 2 * n ≡ 32 * group = omega arith in
    let end : n + 16 ≡ 16 * (group + 1) = omega arith in
    let there = subst (λ (k : ℕ). IsWrittenOut blob (take k block ++ (digits ++ drop (k + length digits) block)) (n + 16)) even more in
    rw c.put.ensures (subst (IsWrittenOut blob (take (32 * group) block ++ (digits ++ drop (32 * group + length digits) block))) end there)

pub returns-clause-written : goal.returns-clause-written
returns-clause-written c =
    let end : 16 * c.loop-group.group ≡ 1024 = omega (arith, c.loop-group-test.false, c.loop-group.auto.group-end) in
    (subst (IsWrittenOut c.args.blob.now c.loop-group.block) end c.loop-group.invariant).front
