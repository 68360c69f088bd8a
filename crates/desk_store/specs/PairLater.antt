-- Passes at a desk of RS and its store that have seen more.
use Rattle.std.specs.Prelude.{ℕ}
use Rattle.desk_rule.specs.declared.view.View.{View}
use Rattle.desk.specs.declared.pass.Sight.{Ghosts}
use Rattle.desk.specs.Pass.{Pass}
use Rattle.desk.specs.Calls.{Calls, KnowsAsMuch, Sees}
use Rattle.desk_store.specs.Later.{HasSeenMore}
use Rattle.rs_store.specs.Turns.{RsTurn}
use Rattle.rs_store.specs.declared.call.RsCommand.{RsCommand}
use Rattle.rs_store.specs.declared.call.RsReply.{RsReply}
use Rattle.desk_store.specs.PairRecord.{BoxedPair, is_pair, pair_record}

module _ {Z : Type 0} {G : Ghosts (View (BoxedPair Z) RsCommand RsReply)} where
  -- A law: after a take, a look or a learnt note, a pass has seen more.
  abbrev pub PairSeesMoreByLooks : Pass (BoxedPair Z) RsCommand RsReply G → Type 0
  PairSeesMoreByLooks p =
      (q : Pass (BoxedPair Z) RsCommand RsReply G) → Sees is_pair RsTurn p q → HasSeenMore (pair_record p) (pair_record q)

  -- A law: after an event, a command or a beginning, a pass has seen more.
  abbrev pub PairSeesMoreByCalls : Pass (BoxedPair Z) RsCommand RsReply G → Type 0
  PairSeesMoreByCalls p =
      (q : Pass (BoxedPair Z) RsCommand RsReply G) (command : RsCommand) (reply : RsReply) (place : ℕ) →
      Calls is_pair RsTurn p q command reply place → HasSeenMore (pair_record p) (pair_record q)

  -- A law: after it makes a note, a pass has seen more.
  abbrev pub PairSeesMoreByNotes : Pass (BoxedPair Z) RsCommand RsReply G → Type 0
  PairSeesMoreByNotes p = (q : Pass (BoxedPair Z) RsCommand RsReply G) → KnowsAsMuch p q → HasSeenMore (pair_record p) (pair_record q)
