-- Which question is next, and the bridge that asked it.
use Rattle.std.specs.Prelude.{◌≡◌, ℕ, ◌==◌, true, false, not, ◌||◌, ◌&&◌, min, max, if◌then◌else◌, Option, Some, None}
use Rattle.fleet_bridge.specs.declared.bridge.Bridge.{Bridge}
use Rattle.fleet_bridge.specs.declared.question.Due.{Due}
use Rattle.fleet_bridge.specs.declared.question.Question.{Question}
use Rattle.fleet_bridge.specs.declared.question.Question.TheVariants.{Nothing, Meet, Fetch, Refill, Add, Compact}

-- The next question, by the first row that applies.
abbrev pub next_question : Bridge → Due → Question
next_question b due =
    if not b.is_met then Meet
    else if b.has_gap then Fetch
    else if b.must_resend && b.is_at_end then Refill
    else if due.compaction && (b.is_at_end && not b.has_dropped) then Compact
    else if b.outbox == 0 then Nothing
    else Add (min b.outbox (max due.most 1))

abbrev pub having_asked : Bridge → Question → Bridge
having_asked b (Add n) = record b { in_flight = n }
having_asked b Compact = record b { in_flight = b.outbox }
having_asked b Nothing = b
having_asked b Meet = b
having_asked b Fetch = b
having_asked b Refill = b

-- The id after which the next reading begins, if one may.
abbrev pub may_read : Bridge → Option ℕ
may_read b = if not b.is_met || b.has_gap then None else Some b.position

-- A law: a bridge that asks nothing met its server, lacks no snapshot, has an empty outbox, and resends nothing before it read the log.
abbrev pub NothingIsLeft : Type 0
NothingIsLeft =
    (b : Bridge) (due : Due) → next_question b due ≡ Nothing →
    (b.is_met ≡ true) × (b.has_gap ≡ false) × (b.outbox ≡ 0) × ((b.must_resend && b.is_at_end) ≡ false)
