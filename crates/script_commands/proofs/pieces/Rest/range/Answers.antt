use Rattle.std.proofs.Common.{◌≡◌, sym, ◌∙◌}
use Rattle.std.proofs.lemmas.Bool.{false≢true}
use Rattle.script_commands.specs.Page.{no_key}
use Rattle.script_commands.specs.Reads.{ReadsOr}
use Rattle.script_commands.proofs.RangeLemmas.{NoKind, range_name_stops, range_follow_stops, follow_max_stops, follow_kind_stops}
use Rattle.script_commands.proofs.RangeLemmas.{follow_after_stops, key_found}
use Rattle.script_commands.proofs.ReadsLemmas.{exits, finds}
use Rattle.script_commands.proofs.pieces.Rest.range.Goals.{else-is_dash-via-then-is_dash+else-not-is_before_kind}
use Rattle.script_commands.proofs.pieces.Rest.range.Goals.{else-is_dash-via-else-is_dash}
use Rattle.script_commands.proofs.pieces.Rest.range.Goals as goal

pub returns-in_err-name : goal.returns-in_err-name
unfolding ReadsOr
returns-in_err-name c =
    exits _ _ _ _ c.from_residual.ensures.1 c.in_err-name.ensures.room
    (range_name_stops c.in_err-name.field-0.0 c.args.self.now.bytes.now c.in_err-name.ensures.room c.in_err-name.ensures.stop)

pub returns-in_err-max : goal.returns-in_err-max
unfolding ReadsOr
returns-in_err-max c =
    let none : NoKind c.name.new.self.bytes.now = λ kind rest found.
    false≢true (sym c.if-not-is_before_kind.true ∙ c.is_before_kind.ensures.1 (kind, rest, found)) in
    exits _ _ _ _ c.from_residual-in_err-max.ensures.1 c.in_err-max.ensures.room
    (range_follow_stops c.in_ok-name.name c.in_err-max.field-0.0 c.args.self.now.bytes.now c.name.new.self.bytes.now
    c.in_ok-name.ensures.found
    (follow_max_stops c.in_ok-name.name c.in_err-max.field-0.0 c.name.new.self.bytes.now (c.is_dash.ensures.0 c.if-is_dash.true) none
    c.in_err-max.ensures.room
    c.in_err-max.ensures.stop))

pub returns-in_err-kind : goal.returns-in_err-kind
unfolding ReadsOr
returns-in_err-kind c =
    let other : c.in_ok-name.name ≡ no_key → NoKind c.name.new.self.bytes.now → ⊥ =
    elim c.else-is_dash.branch [
      | else-is_dash-via-then-is_dash+else-not-is_before_kind w ↦ λ is none.
          (let there = w.is_before_kind.ensures.0 w.if-not-is_before_kind.false in none there.0 there.1 there.2)
      | else-is_dash-via-else-is_dash w ↦ λ is none. false≢true (sym w.if-is_dash.false ∙ c.is_dash.ensures.1 is)
    ] in
    exits _ _ _ _ c.from_residual-in_err-kind.ensures.1 c.in_err-kind.ensures.room
    (range_follow_stops c.in_ok-name.name c.in_err-kind.field-0.0 c.args.self.now.bytes.now c.name.new.self.bytes.now
    c.in_ok-name.ensures.found
    (follow_kind_stops c.in_ok-name.name c.in_err-kind.field-0.0 c.name.new.self.bytes.now other c.in_err-kind.ensures.room
    c.in_err-kind.ensures.stop))

pub returns-in_err-max-2 : goal.returns-in_err-max-2
unfolding ReadsOr
returns-in_err-max-2 c =
    exits _ _ _ _ c.from_residual-in_err-max-2.ensures.1 c.in_err-max-2.ensures.room
    (range_follow_stops c.in_ok-name.name c.in_err-max-2.field-0.0 c.args.self.now.bytes.now c.name.new.self.bytes.now
    c.in_ok-name.ensures.found
    (follow_after_stops c.in_ok-name.name c.in_ok-kind.kind c.in_err-max-2.field-0.0 c.name.new.self.bytes.now _ c.in_ok-kind.ensures.found
    c.in_err-max-2.ensures.room
    c.in_err-max-2.ensures.stop))

pub returns : goal.returns
unfolding ReadsOr
returns c = finds _ (key_found c.in_ok-name.name c.in_ok-kind.kind c.in_ok-max-2.max c.args.self.now.bytes.now c.name.new.self.bytes.now _
    _ c.in_ok-name.ensures.found c.in_ok-kind.ensures.found c.in_ok-max-2.ensures.found)
