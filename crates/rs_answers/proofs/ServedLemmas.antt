-- The lines of actions and replies, in sequence.
use Rattle.std.proofs.Common.{◌≡◌, ℕ, zero, suc, ◌+◌, List, [], ◌∷◌, ◌++◌, take, Option, Some, None, sym, ap, ◌∙◌, append_assoc, append-nil}
use Rattle.std.proofs.Common.{arith}
use Rattle.std.specs.List.{slice_get}
use Rattle.ds_machine.specs.declared.reply.Reply.{Reply}
use Rattle.rs_core.specs.declared.action.Action.{Action}
use Rattle.script_answers.specs.Actions.{action_line}
use Rattle.rs_answers.specs.Served.{acted_lines, reply_lines_if}

abbrev line_with : Action → Option (Option Reply) → List ℕ
line_with x reply = action_line x ++ reply_lines_if reply

-- the lines of one more action come after those before it
pub acted_more : (acts : List Action) (rs : List (Option Reply)) (i : ℕ) (x : Action) → slice_get acts i ≡ Some x
    → acted_lines (take (i + 1) acts) rs ≡ acted_lines (take i acts) rs ++ line_with x (slice_get rs i)
acted_more [] rs i x e = absurd (let none : None ≡ Some x = e in cc)
acted_more (y ∷ acts) [] zero x e = let same : y ≡ x = cc in ap (λ (z : Action). action_line z ++ []) same
acted_more (y ∷ acts) (r ∷ rs) zero x e =
    let same : y ≡ x = cc in ap (λ (l : List ℕ). action_line y ++ l) (append-nil (reply_lines_if (Some r))) ∙
    ap (λ (z : Action). action_line z ++ reply_lines_if (Some r)) same
acted_more (y ∷ acts) [] (suc i) x e =
    let next : suc i + 1 ≡ suc (i + 1) = omega arith in
    ap (λ (k : ℕ). acted_lines (take k (y ∷ acts)) []) next
    ∙ ap (λ (l : List ℕ). action_line y ++ l) (acted_more acts [] i x e)
    ∙ sym (append_assoc (action_line y) (acted_lines (take i acts) []) (line_with x None))
acted_more (y ∷ acts) (r ∷ rs) (suc i) x e =
    let next : suc i + 1 ≡ suc (i + 1) = omega arith in
    let more = line_with x (slice_get rs i) in
    let here = reply_lines_if (Some r) in
    ap (λ (k : ℕ). acted_lines (take k (y ∷ acts)) (r ∷ rs)) next
    ∙ ap (λ (l : List ℕ). action_line y ++ (here ++ l)) (acted_more acts rs i x e)
    ∙ ap (λ (l : List ℕ). action_line y ++ l) (sym (append_assoc here (acted_lines (take i acts) rs) more))
    ∙ sym (append_assoc (action_line y) (here ++ acted_lines (take i acts) rs) more)
