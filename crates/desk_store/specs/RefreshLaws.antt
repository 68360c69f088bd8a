-- The laws of followers at a desk.
use Rattle.std.specs.Prelude.{◌≡◌, ℕ, None}
use Rattle.desk_rule.specs.History.{OneBegins}
use Rattle.desk_store.specs.Later.{HasSeenMore}
use Rattle.desk_store.specs.Record.{HasLegalHistory, IsInTurns, PassRecord}
use Rattle.desk_store.specs.Follower.{FollowerRecord, mapped}
use Rattle.desk_store.specs.KeepsUp.{KeepsUpWith}
use Rattle.desk_store.specs.Refresh.{IsUpTo}

-- A law: a follower that is new or lost keeps up with every pass.
abbrev pub LostKeepsUp : Type 0
LostKeepsUp = (p : PassRecord) (f : FollowerRecord) → f.stamp ≡ None → KeepsUpWith p f

-- A law: a follower that keeps up with a pass keeps up with each one that has seen the same or more.
abbrev pub KeepsUpLater : Type 0
KeepsUpLater = (p q : PassRecord) (f : FollowerRecord) → HasSeenMore p q → KeepsUpWith p f → KeepsUpWith q f

-- Whether these may be two passes of one desk: of the turns that they have seen, one list is a prefix of the other.
pub record AreAtOneDesk (p q : PassRecord) : Type 0 where
  pub opened : q.opened ≡ p.opened
  pub first : q.origin.first ≡ p.origin.first
  pub agree : OneBegins p.turns q.turns
  pub in_turns : IsInTurns q

-- A law: two followers with one query that were refreshed up to the same place have equal maps.
abbrev pub RefreshedAlike : Type 0
RefreshedAlike =
    (p q : PassRecord) (f g : FollowerRecord) (place : ℕ) → AreAtOneDesk p q → HasLegalHistory p → g.map.query ≡ f.map.query →
    IsUpTo p f place → IsUpTo q g place → mapped f ≡ mapped g
