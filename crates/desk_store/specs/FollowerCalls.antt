-- The calls of a follower, and those of them that end a refresh.
use Rattle.std.specs.Prelude.{◌≡◌, ◌≢◌, ◌⊎◌, ℕ, ◌<◌, ◌≤◌, List, [], ◌∷◌, length, Option, Some, None}
use Rattle.history.specs.declared.entry.Entry.{Entry}
use Rattle.ds_names.specs.Limits.{most_items}
use Rattle.ds_entry.specs.declared.item.Item.{Item}
use Rattle.ds_pattern.specs.declared.query.Query.{Query}
use Rattle.ds_machine.specs.declared.command.Command.{Command}
use Rattle.ds_machine.specs.declared.command.Command.TheVariants.{Check}
use Rattle.ds_machine.specs.declared.reply.Reply.{Reply}
use Rattle.ds_machine.specs.declared.reply.Reply.TheVariants.{Subscribed, Checked}
use Rattle.ds_reader.specs.Asked.{subscribe_anew}

-- Whether the command is one of a follower: a Subscribe with INITIAL and overwrite, or a Check of 256.
abbrev pub IsOfFollower : ℕ → Query → Command → Type 0
IsOfFollower sub query command = (command ≡ subscribe_anew sub query) ⊎ (command ≡ Check sub most_items)

-- The follower's next command, by its last stamp: one that is new or lost subscribes, any other one checks.
abbrev pub follower_command : ℕ → Query → Option ℕ → Command
follower_command sub query None = subscribe_anew sub query
follower_command sub query (Some stamp) = Check sub most_items

-- Whether the call is a Subscribe of the follower that returned this stamp.
pub record Subscribes (sub : ℕ) (query : Query) (e : Entry Command Reply) (stamp : ℕ) : Type 0 where
  pub owed : ℕ
  pub command : e.command ≡ subscribe_anew sub query
  pub reply : e.reply ≡ Subscribed stamp owed

-- Whether the call is a Check of the follower that returned these items and stamps.
pub record Checks (sub : ℕ) (e : Entry Command Reply) (items : List Item) (before after : ℕ) : Type 0 where
  pub command : e.command ≡ Check sub most_items
  pub reply : e.reply ≡ Checked items before after

-- Whether the call is a Check that returned the follower's own stamp, and 256 items.
pub record ChecksFull (sub : ℕ) (e : Entry Command Reply) (stamp after : ℕ) : Type 0 where
  pub items : List Item
  pub checks : Checks sub e items stamp after
  pub full : most_items ≤ length items

-- Whether the call is a Check that returned another stamp.
pub record ChecksOther (sub : ℕ) (e : Entry Command Reply) (stamp : ℕ) : Type 0 where
  pub items : List Item
  pub before : ℕ
  pub after : ℕ
  pub checks : Checks sub e items before after
  pub differs : before ≢ stamp

-- Whether the call is a Check that ends the refresh: it returned the follower's own stamp, and fewer than 256 items.
pub record ChecksLast (sub : ℕ) (e : Entry Command Reply) (stamp after : ℕ) : Type 0 where
  pub items : List Item
  pub checks : Checks sub e items stamp after
  pub few : length items < most_items

-- Whether the call doesn't end the refresh, and leads the follower from the first last stamp, or none, to the second. A lost follower
-- subscribes. A Check with another stamp makes it lost.
abbrev pub IsOpenCall : ℕ → Query → Option ℕ → Entry Command Reply → Option ℕ → Type 0
IsOpenCall sub query None e None = ⊥
IsOpenCall sub query None e (Some new) = Subscribes sub query e new
IsOpenCall sub query (Some stamp) e (Some new) = ChecksFull sub e stamp new
IsOpenCall sub query (Some stamp) e None = ChecksOther sub e stamp

-- Whether these calls in order are such calls, and lead the follower from the first last stamp, or none, to the second.
abbrev pub AreOpenCalls : ℕ → Query → Option ℕ → List (Entry Command Reply) → Option ℕ → Type 0
AreOpenCalls sub query old [] new = new ≡ old
AreOpenCalls sub query old (e ∷ es) new = (mid : Option ℕ) × IsOpenCall sub query old e mid × AreOpenCalls sub query mid es new
