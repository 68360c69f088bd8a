use Rattle.std.proofs.Common.{◌≡◌, [], ◌∷◌, ◌++◌, ap, sym, ◌∙◌, subst}
use Rattle.std.specs.Arc.{arc_value}
use Rattle.std.specs.Option.{option_to_list}
use Rattle.desk.proofs.CloseLemmas.{all_last}
use Rattle.c_desk.specs.declared.seat.Seat.{Seat}
use Rattle.c_desk.specs.Fresh.{IsFreshPass}
use Rattle.c_desk.proofs.board.Board.seat.Goals as goal

pub returns-in-Ok-new-clause-seat : goal.returns-in-Ok-new-clause-seat
returns-in-Ok-new-clause-seat c =
    let items = c.pop.ensures.items ∙ ap (λ o. c.pop.new.self.items ++ option_to_list o) c.unwrap-pass.ensures in
    let same : c.in-Ok-new.seat.value ≡ c.new.result = c.in-Ok-new.ensures.ok in
    let pass = ap (λ (s : Seat). s.pass) same ∙ c.new.ensures.pass in
    let last = all_last (IsFreshPass (arc_value c.args.self.now.desk)) c.pop.new.self.items c.args.self.now.passes.items
    c.unwrap-pass.result items c.args.self.now.fresh in
    record {
      desk = ap (λ (s : Seat). arc_value s.desk) same ∙ (ap (λ d. arc_value d) c.new.ensures.desk ∙ c.in-Ok.ensures);
      pass = items ∙ ap (λ p. c.pop.new.self.items ++ p ∷ []) (sym pass);
      fresh = subst (λ p. IsFreshPass (arc_value c.args.self.now.desk) p) (sym pass) last.1;
      last = ap (λ (s : Seat). s.last) same ∙ c.new.ensures.last;
    }
