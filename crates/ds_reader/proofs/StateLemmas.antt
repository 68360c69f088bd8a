-- How a store grows under a reader.
use Rattle.std.proofs.Common.{◌≡◌, ℕ, ◌+◌, ◌≤◌, List, length, length-append, Option, ap, sym, ◌∙◌, subst, arith}
use Rattle.ds_names.specs.declared.key.Key.{Key}
use Rattle.ds_entry.specs.declared.item.Item.{Item}
use Rattle.ds_feed.specs.declared.cursor.Cursor.{Cursor}
use Rattle.ds_feed.specs.declared.reading.Page.{Page}
use Rattle.ds_feed.specs.declared.reading.Since as readings
use Rattle.ds_feed.specs.Page.{page_of}
use Rattle.ds_feed.specs.Since.{IsGiven}
use Rattle.ds_machine.specs.Scope.{is_kept}
use Rattle.ds_machine.specs.State.{State, held, cursor, next_position}
use Rattle.ds_machine.specs.Machine.{Step}
use Rattle.ds_machine.specs.Reached.{IsReached}
use Rattle.ds_machine.specs.Effect.{GoesOn}
use Rattle.ds_machine.specs.declared.refusal.Refusal.{Refusal}
use Rattle.ds_machine.specs.declared.command.Command.{Command}
use Rattle.ds_machine.specs.declared.command.Command.TheVariants as commands
use Rattle.ds_machine.specs.declared.command.Scope.{Scope}
use Rattle.ds_machine.specs.declared.reply.Reply.{Reply}
use Rattle.ds_machine.specs.declared.reply.Reply.TheVariants.{Journaled, Paged, Refused}
use Rattle.ds_store.specs.Last.{IsLast}
use Rattle.ds_reader.specs.Asked.{Asked, Went}
use Rattle.ds_reader.specs.GivesUp.{IsCommandRefused}
use Rattle.ds_reader.specs.Laws.{ReaderLaws}

pub no_earlier : (s t : State) → GoesOn s t → next_position s ≤ next_position t
no_earlier s t g =
    let long : length t.feed.accepted ≡ length s.feed.accepted + length g.grown.0 = ap (λ (l : List Item). length l) g.grown.2 ∙
    length-append s.feed.accepted g.grown.0 in
    let first : t.feed.first ≡ s.feed.first = g.first in
    omega arith

module _ (laws : ReaderLaws) where
  -- others may have used the store
  module _ (s t : State) (w : Went s t) where
    pub went_on : GoesOn s t
    went_on = laws.run s t w.goes.commands w.goes.replies w.reached w.goes.run

    pub went_reached : IsReached t
    went_reached = laws.stay s t w.goes.commands w.goes.replies w.reached w.goes.run

  -- the command was answered
  pub asked_on : (s t : State) (command : Command) (reply : Reply) → Asked s command reply t → GoesOn s t
  asked_on s t command reply a = laws.later s a.mid t (went_on s a.mid a.went)
      (laws.step a.mid t command reply (went_reached s a.mid a.went) a.answered.step)

  -- if the answer left the store unchanged, only others used it
  pub only_went : (s t : State) (command : Command) (reply : Reply) (a : Asked s command reply t) → t ≡ a.mid → Went s t
  only_went s t command reply a same = subst (Went s) (sym same) a.went

  -- a refused question left it so
  pub refused_there : (s t : State) (command : Command) (refusal : Refusal) → Asked s command (Refused refusal) t →
      IsCommandRefused t command refusal × Went s t
  refused_there s t command refusal a =
      let same : t ≡ a.mid = laws.refused a.mid t command refusal a.answered.step in (
        record {
          step = subst (λ (x : State). Step x command (Refused refusal) t) (sym same) a.answered.step;
          last = subst (λ (x : State). IsLast x command (Refused refusal)) (sym same) a.answered.last;
        },
        only_went s t command (Refused refusal) a same,
      )

  -- and so did a page, and a reply of the journal
  pub paged_there : (s t : State) (scope : Scope) (after : Option Key) (max : ℕ) (page : Page) →
      Asked s (commands.Page scope after max) (Paged page) t → (page ≡ page_of (is_kept scope) after max (held t) (cursor t)) × Went s t
  paged_there s t scope after max page a =
      let said = laws.paged a.mid t scope after max page a.answered.step in (
        subst (λ (x : State). page ≡ page_of (is_kept scope) after max (held x) (cursor x)) (sym said.1) said.0,
        only_went s t (commands.Page scope after max) (Paged page) a said.1,
      )

  pub journaled_there : (s t : State) (scope : Scope) (at : Cursor) (max : ℕ) (since : readings.Since) →
      Asked s (commands.Since scope at max) (Journaled since) t → IsGiven t.feed (is_kept scope) at max since × Went s t
  journaled_there s t scope at max since a =
      let said = laws.journaled a.mid t scope at max since a.answered.step in (
        subst (λ (x : State). IsGiven x.feed (is_kept scope) at max since) (sym said.1) said.0,
        only_went s t (commands.Since scope at max)
            (Journaled since) a said.1,
      )
