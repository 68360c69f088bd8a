-- The conditions on which a reader gives up: memory ran out for the items, the store refused a command, or the allowed
-- number of commands wasn't enough.
use Rattle.std.specs.Prelude.{◌≡◌, ◌≢◌, ◌⊎◌, ℕ, ◌<◌, ◌≤◌, ◌+◌, true, List, [], ◌∷◌, ◌++◌, length, None, Some, All}
use Rattle.std.specs.Option.{unwrap_or}
use Rattle.ds_entry.specs.declared.item.Item.{Item}
use Rattle.ds_feed.specs.declared.cursor.Cursor.{Cursor}
use Rattle.ds_pattern.specs.declared.query.Query.{Query}
use Rattle.ds_pattern.specs.Under.{is_under}
use Rattle.ds_replica.specs.Checked.{CheckTurn, AreChecks}
use Rattle.ds_replica.specs.Gathered as gathered
use Rattle.ds_replica.specs.Journaled.{SinceTurn, AreSince, cursor_after}
use Rattle.ds_replica.specs.Paged.{PageTurn, IsPageTurn}
use Rattle.ds_replica.specs.OpenPages.{AreOpenPages, key_after, position_after, first_cursor}
use Rattle.ds_machine.specs.State.{State, next_position, subscription_at}
use Rattle.ds_machine.specs.Subscription.{Subscription}
use Rattle.ds_machine.specs.Effect.{GoesOn}
use Rattle.ds_machine.specs.Machine.{Step}
use Rattle.ds_machine.specs.declared.refusal.Refusal.{Refusal}
use Rattle.ds_machine.specs.declared.command.Command.{Command}
use Rattle.ds_machine.specs.declared.command.Command.TheVariants.{Check, Since, Page}
use Rattle.ds_machine.specs.declared.command.Scope.TheVariants.{Under}
use Rattle.ds_machine.specs.declared.reply.Reply.TheVariants as replies
use Rattle.ds_store.specs.Last.{IsLast}
use Rattle.ds_reader.specs.Asked.{ComesTo, Goes, subscribe_anew}
use Rattle.ds_reader.specs.Questions.{AsksSoManyChecks}
use Rattle.ds_reader.specs.declared.fault.ReadFault.{ReadFault}
use Rattle.ds_reader.specs.declared.fault.ReadFault.TheVariants.{Refused, NoRoom, Unfinished, Overtaken, Worn}
use Rattle.ds_reader.specs.declared.reading.Reading.{Reading}

-- Whether the store refuses the command in this state for this cause. Out-of-memory is reported after every other cause.
pub record IsCommandRefused (t : State) (command : Command) (refusal : Refusal) : Type 0 where
  pub step : Step t command (replies.Refused refusal) t
  pub last : IsLast t command (replies.Refused refusal)

-- ---- a reader by checks

-- Whether the place has a subscription with this query, which was shown these items.
pub record Shows (s : State) (sub : ℕ) (query : Query) (shown : List Item) : Type 0 where
  pub seer : Subscription
  pub here : subscription_at s sub ≡ Some seer
  pub query_is : seer.query ≡ query
  pub shown_is : seer.shown ≡ shown

-- Whether the Check returned `max` items, which is all that it may.
pub record IsFull (max : ℕ) (t : CheckTurn) : Type 0 where
  pub asked : t.max ≡ max
  pub full : max ≤ length t.items

-- Whether a run of the machine leads to this state from one in which the subscription had been shown exactly these items.
pub record WasLeft (t : State) (sub : ℕ) (query : Query) (shown : List Item) : Type 0 where
  pub left : State
  pub shows : Shows left sub query shown
  pub goes : Goes left t

-- Whether the Checks since the Subscribe were all full, and the subscription was shown exactly their items.
pub record AreAllFull (s t : State) (sub : ℕ) (reading : Reading) (turns : List CheckTurn) : Type 0 where
  pub are : AreChecks s.feed t.feed (is_under reading.query) [] turns
  pub full : All (IsFull reading.max) turns
  pub was_left : WasLeft t sub reading.query (gathered.checked turns)

-- Whether one more Check found another stamp than the reader's last one. The store was then in the state `found`.
pub record IsOvertaken (s t : State) (sub : ℕ) (reading : Reading) (turns : List CheckTurn) : Type 0 where
  pub found : State
  pub all : AreAllFull s found sub reading turns
  pub seer : Subscription
  pub here : subscription_at found sub ≡ Some seer
  pub differs : seer.stamp ≢ all.was_left.shows.seer.stamp
  pub goes : GoesOn found t

-- Whether the last Check that the asker sent found another stamp than the reader's last one, and all Checks before it were
-- full.
abbrev pub IsOvertakenAtLast : {A : Type 0} → (A → Command → A → Type 0) → (A → State → Type 0) → ℕ → Reading → (old new : A) → Type 0
IsOvertakenAtLast asks_once stands sub reading old new =
    (count : ℕ) × (count < reading.questions) × AsksSoManyChecks asks_once sub reading (count + 1) old new
    × ComesTo stands old new (λ s t. (turns : List CheckTurn) × IsOvertaken s t sub reading turns × (length turns ≡ count))

-- Whether one more Check returned items, for which memory may have run out. All Checks before it were full.
pub record IsCheckedMore (s t : State) (reading : Reading) (turns : List CheckTurn) : Type 0 where
  pub turn : CheckTurn
  pub are : AreChecks s.feed t.feed (is_under reading.query) [] (turns ++ turn ∷ [])
  pub full : All (IsFull reading.max) turns
  pub asked : turn.max ≡ reading.max
  pub some : turn.items ≢ []
  pub few : length turns < reading.questions

-- Whether a reader by checks stopped with this fault, with the store in state `t`. The store refused its Subscribe or its
-- next Check, the allowed Checks weren't enough, another program took the subscription over, or memory ran out for the
-- query's text, before the first command, or for the items of a Check.
abbrev pub StopsChecks : State → State → ℕ → Reading → ReadFault → Type 0
StopsChecks s t sub reading (Refused refusal) =
    IsCommandRefused t (subscribe_anew sub reading.query) refusal ⊎
    ((turns : List CheckTurn) × AreAllFull s t sub reading turns × IsCommandRefused t (Check sub reading.max) refusal)
StopsChecks s t sub reading Unfinished = (turns : List CheckTurn) × AreAllFull s t sub reading turns × (length turns ≡ reading.questions)
StopsChecks s t sub reading Overtaken = (turns : List CheckTurn) × IsOvertaken s t sub reading turns
StopsChecks s t sub reading NoRoom = ((t ≡ s) × (reading.query.text ≢ [])) ⊎ ((turns : List CheckTurn) × IsCheckedMore s t reading turns)
StopsChecks s t sub reading Worn = Unit {0}

-- ---- a reader by the journal

-- Whether the Since returned `max` items, which is all that it may.
pub record IsFullSince (max : ℕ) (t : SinceTurn) : Type 0 where
  pub asked : t.max ≡ max
  pub full : max ≤ length t.since.items

-- Whether the journal's replies from the cursor on were all full.
pub record AreFullSinces (t : State) (reading : Reading) (from : Cursor) (turns : List SinceTurn) : Type 0 where
  pub are : AreSince t.feed (is_under reading.query) from turns
  pub full : All (IsFullSince reading.max) turns

-- Whether one more reply had items. All replies before it were full.
pub record IsJournaledMore (t : State) (reading : Reading) (from : Cursor) (turns : List SinceTurn) : Type 0 where
  pub turn : SinceTurn
  pub are : AreSince t.feed (is_under reading.query) from (turns ++ turn ∷ [])
  pub full : All (IsFullSince reading.max) turns
  pub asked : turn.max ≡ reading.max
  pub some : turn.since.items ≢ []

-- Whether reading the journal stopped with this fault: the next Since was refused, the allowed number of them wasn't
-- enough, or memory ran out for the query's text in the next one or for its items. It has no subscription that another program
-- could take over.
abbrev pub StopsSinces : State → Reading → Cursor → ReadFault → Type 0
StopsSinces t reading from (Refused refusal) =
    (turns : List SinceTurn) × AreFullSinces t reading from turns ×
    IsCommandRefused t (Since (Under reading.query) (cursor_after from turns) reading.max) refusal
StopsSinces t reading from Unfinished = (turns : List SinceTurn) × AreFullSinces t reading from turns × (length turns ≡ reading.questions)
StopsSinces t reading from NoRoom =
    (turns : List SinceTurn) × (length turns < reading.questions) ×
    ((AreFullSinces t reading from turns × (reading.query.text ≢ [])) ⊎ IsJournaledMore t reading from turns)
StopsSinces t reading from Overtaken = ⊥
StopsSinces t reading from Worn = Unit {0}

-- ---- a reader by pages

-- Whether these are the pages since the reader began, none of which was the last.
pub record AreAllOpen (s t : State) (reading : Reading) (pages : List PageTurn) : Type 0 where
  pub are : AreOpenPages t.feed (is_under reading.query) None (next_position s) pages
  pub asked : All (λ page. page.max ≡ reading.max) pages

-- Whether all pages were read, and this is the cursor of the first one.
pub record ArePaged (s t : State) (reading : Reading) (from : Cursor) : Type 0 where
  pub pages : List PageTurn
  pub open_ones : AreAllOpen s t reading pages
  pub last : PageTurn
  pub is : IsPageTurn t.feed (is_under reading.query) (key_after None pages) last
  pub asked : last.max ≡ reading.max
  pub no_earlier : position_after (next_position s) pages ≤ last.page.cursor.position
  pub ends : last.page.last ≡ true
  pub from_is : from ≡ unwrap_or (first_cursor pages) last.page.cursor

-- Whether one more page had items. No page before it was the last.
pub record IsPagedMore (s t : State) (reading : Reading) (pages : List PageTurn) : Type 0 where
  pub open_ones : AreAllOpen s t reading pages
  pub turn : PageTurn
  pub is : IsPageTurn t.feed (is_under reading.query) (key_after None pages) turn
  pub asked : turn.max ≡ reading.max
  pub some : turn.page.items ≢ []

-- Whether reading pages stopped with this fault: the next Page was refused, the allowed number of them wasn't enough, or
-- memory ran out for the query's text in the next one or for its items. It has no subscription that another program
-- could take over.
abbrev pub StopsOpen : State → State → Reading → ReadFault → Type 0
StopsOpen s t reading (Refused refusal) =
    (pages : List PageTurn) × AreAllOpen s t reading pages ×
    IsCommandRefused t (Page (Under reading.query) (key_after None pages) reading.max) refusal
StopsOpen s t reading Unfinished = (pages : List PageTurn) × AreAllOpen s t reading pages × (length pages ≡ reading.questions)
StopsOpen s t reading NoRoom =
    (pages : List PageTurn) × (length pages < reading.questions) ×
    ((AreAllOpen s t reading pages × (reading.query.text ≢ [])) ⊎ IsPagedMore s t reading pages)
StopsOpen s t reading Overtaken = ⊥
StopsOpen s t reading Worn = Unit {0}

-- Whether a reader by pages stopped with this fault, before the last page, or in the journal after it.
abbrev pub StopsPages : State → State → Reading → ReadFault → Type 0
StopsPages s t reading fault =
    StopsOpen s t reading fault ⊎ ((from : Cursor) × ArePaged s t reading from × StopsSinces t reading from fault)
