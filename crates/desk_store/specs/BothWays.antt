-- Two stores that sent each other all that they hold.
use Rattle.std.specs.Prelude.{◌≡◌, List, ◌++◌, None}
use Rattle.history.specs.declared.entry.Entry.{Entry}
use Rattle.ds_machine.specs.Reached.{AreExact}
use Rattle.ds_machine.specs.State.{State, held}
use Rattle.ds_machine.specs.declared.command.Command.{Command}
use Rattle.ds_machine.specs.declared.reply.Reply.{Reply}
use Rattle.desk_store.specs.Record.{AfterEach, PassRecord}
use Rattle.desk_store.specs.declared.exchange.Exchanged.{Exchanged}
use Rattle.desk_store.specs.Exchange.{Exchanges}

-- Whether all calls at the desk from p to q were the pass's.
pub record CalledAlone (p q : PassRecord) : Type 0 where
  pub own : List (Entry Command Reply)
  pub calls_are : q.calls ≡ p.calls ++ own
  pub history_is : q.history ≡ p.history ++ own

-- Whether the first store sent the second all that it holds, and then the second store the first, and no other pass called meanwhile. p
-- to q is the pass at the first desk, and r to s the pass at the second.
pub record ExchangesBothWays (p p' q r r' s : PassRecord) (x y : Exchanged) : Type 0 where
  pub there : Exchanges p p' r r' None x
  pub back : Exchanges r' s p' q None y
  pub alone_here : CalledAlone p q
  pub alone_there : CalledAlone r s

-- A law: if the items that took effect in both stores are exact, both then hold the same.
abbrev pub ExchangedAlike : Type 0
ExchangedAlike =
    (p p' q r r' s : PassRecord) (x y : Exchanged) → ExchangesBothWays p p' q r r' s x y →
    AfterEach q q.history
    (λ (t : State). AfterEach s s.history (λ (u : State). AreExact (t.feed.accepted ++ u.feed.accepted) → held t ≡ held u))
