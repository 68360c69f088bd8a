use Rattle.std.proofs.Common.{ap, length, sym, ◌∙◌, ◌==◌}
use Rattle.std.proofs.lemmas.Bool.{false≢true}
use Rattle.script_commands.proofs.WorldPieceLemmas.{if_none, no_map_number, map_not_all}
use Rattle.script_commands.proofs.world_pieces.map_of.Goals as goal

pub returns-in_err-map-clause-none : goal.returns-in_err-map-clause-none
returns-in_err-map-clause-none c = if_none c.from_residual-in_err-map.result
    (no_map_number c.args.word.now c.in_ok-digits.digits.now c.in_ok-digits.ensures.found c.in_err-map.ensures.none)

pub returns-else-is_empty-clause-none : goal.returns-else-is_empty-clause-none
returns-else-is_empty-clause-none c =
    map_not_all c.args.word.now c.in_ok-digits.digits.now c.in_ok-map.rest.now c.in_ok-map.map c.in_ok-digits.ensures.found
    c.in_ok-map.ensures.found c.in_ok-map.ensures.limit
    (λ none. false≢true (sym c.if-is_empty.false ∙ c.is_empty.ensures ∙ ap (λ t. length t == 0) none))
