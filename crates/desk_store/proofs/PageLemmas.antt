-- The questions to a store, by one call or page by page, and the merging of their items.
use Rattle.std.proofs.Common.{◌≡◌, ℕ, ◌+◌, ◌^◌, ◌<◌, ◌≤◌, true, false, List, [], ◌∷◌, ◌++◌, length, nat_le, Option, Some, None, refl, ap}
use Rattle.std.proofs.Common.{sym, ◌∙◌, subst, inl, inr, arith, append-nil, append_assoc, length-append}
use Rattle.std.specs.Option.{unwrap_or}
use Rattle.std.proofs.lemmas.List.Concat.{flat_map-append}
use Rattle.history.specs.declared.entry.Entry.{Entry}
use Rattle.history.specs.History.{entry}
use Rattle.ds_names.specs.Limits.{most_items}
use Rattle.ds_names.specs.declared.key.Key.{Key}
use Rattle.ds_entry.specs.declared.item.Item.{Item}
use Rattle.ds_feed.specs.declared.cursor.Cursor.{Cursor}
use Rattle.ds_feed.specs.declared.reading.Since as readings
use Rattle.ds_feed.specs.declared.reading.Page.{Page as Leaf}
use Rattle.ds_replica.specs.Paged.{last_key}
use Rattle.ds_machine.specs.declared.command.Command.{Command}
use Rattle.ds_machine.specs.declared.reply.Reply.{Reply}
use Rattle.ds_machine.specs.declared.reply.Reply.TheVariants.{Journaled, Paged}
use Rattle.ds_machine.specs.declared.reply.Reply.TheVariants as replies
use Rattle.ds_machine.specs.declared.refusal.Refusal.{Refusal}
use Rattle.desk_store.specs.Called.{Made, MadeCall}
use Rattle.desk_store.specs.CallFaults.{FailsAsking}
use Rattle.desk_store.specs.Record.{PassRecord, place_after}
use Rattle.desk_store.specs.declared.call_fault.CallFault.{CallFault}
use Rattle.desk_store.specs.declared.call_fault.CallFault.TheVariants as calls
use Rattle.desk_store.proofs.FaultLemmas.{fails_by, fails_later}
use Rattle.desk_store.proofs.RecordLemmas.{made_above, made_more, made_none}
use Rattle.desk_store.specs.Asking.{AsksOpenPages, GoesByPages}
use Rattle.desk_store.specs.Exchange.{Exchanges, ExchangesOnly}
use Rattle.desk_store.specs.ExchangeFaults.{IsExchangeFault, IsGivingFault, LeavesSome}
use Rattle.desk_store.specs.declared.exchange_fault.ExchangeFault.{ExchangeFault}
use Rattle.desk_store.specs.declared.exchange_fault.ExchangeFault.TheVariants.{Call, Stopped}
use Rattle.desk_store.specs.Giving.{GivesAll, GivesOnly}
use Rattle.desk_store.specs.Telling.{AsksInTurn, AsksPages, IsOpenPage, all_told, cursor_told, first_told, items_told, page_asked}
use Rattle.desk_store.specs.Telling.{since_asked}
use Rattle.desk_store.proofs.GivingLemmas.{gives_both, gives_none, leaves_after, only_all, only_after, only_none}

-- ---- the items of replies
pub told_both : (own more : List (Entry Command Reply)) → all_told (own ++ more) ≡ all_told own ++ all_told more
told_both own more = flat_map-append (λ (e : Entry Command Reply). items_told e.reply) own more

pub told_once : (e : Entry Command Reply) (told : Reply) → e.reply ≡ told → all_told (e ∷ []) ≡ items_told told
told_once e told is = append-nil (items_told e.reply) ∙ ap items_told is

-- ---- a question that failed
abbrev IsAtMostOne : List (Entry Command Reply) → Command → Type 0
IsAtMostOne [] command = Unit {0}
IsAtMostOne (e ∷ es) command = (e.command ≡ command) × (es ≡ [])

-- the command was sent, or nothing was
record AsksOnce (p q : PassRecord) (command : Command) : Type 0 where
  own : List (Entry Command Reply)
  made : Made p q own
  once : IsAtMostOne own command

asked_once : (p q : PassRecord) (command : Command) (fault : CallFault) → FailsAsking p q command fault → AsksOnce p q command
asked_once p q command fault (inl t) = record { own = []; made = t.1.made; once = tt }
asked_once p q command fault (inr t) = record
    { own = entry p.origin.number command (replies.Refused t.0) ∷ []; made = t.2.made; once = (refl, refl) }

-- after the items of the replies were merged
module _ (p q next r s : PassRecord) (own : List (Entry Command Reply)) (taken : ℕ) (made : Made p q own)
    (gives : GivesAll r s (all_told own) taken) where
  pub asking_fails : (command : Command) (fault : CallFault) → FailsAsking q next command fault → IsExchangeFault p next r s (Call fault)
  asking_fails command fault (inl t) =
      subst (λ (f : CallFault). IsExchangeFault p next r s (Call f)) (sym t.2)
      (inl (fails_later p q next own (calls.Desk t.0) made (fails_by q next command (calls.Desk t.0) (inl (t.0, t.1, refl)))))
  asking_fails command fault (inr t) = elim t.3 [
    | inl wants ↦
        (let last : Entry Command Reply = entry q.origin.number command (replies.Refused t.0) in
        subst (λ (f : CallFault). IsExchangeFault p next r s (Call f)) (sym wants.1) (inl (record {
          before = own;
          last = last;
          made = made_more p q next own (last ∷ []) made t.2.made;
          refused = ap (λ (x : Refusal). replies.Refused x) wants.0;
          taken = taken;
          gives = gives;
        })))
    | inr other ↦
        subst (λ (f : CallFault). IsExchangeFault p next r s (Call f)) (sym other.1)
        (fails_later p q next own (calls.Refused t.0) made
        (fails_by q next command (calls.Refused t.0) (inr (t.0, t.1, t.2, inr (other.0, refl)))))
  ]

-- ---- the items of the replies couldn't be merged
module _ (p next r s new : PassRecord) (own : List (Entry Command Reply)) (made : Made p next own) (before items : List Item) (taken : ℕ)
    (gives : GivesAll r s before taken) (told : all_told own ≡ before ++ items) where
  pub giving_fails : (fault : ExchangeFault) → IsGivingFault s new items fault → IsExchangeFault p next r new fault
  giving_fails (Call (calls.Desk fault)) by = inr (fails_later r s new gives.own (calls.Desk fault) gives.made by)
  giving_fails (Call (calls.Refused refusal)) by = absurd by
  giving_fails (Call calls.NoRoom) some = inr (record {
    own = own;
    made = made;
    leaves = subst (λ (l : List Item). LeavesSome r new l) (sym told) (leaves_after r s new before items taken gives some);
  })
  giving_fails (Stopped done cause) w = record {
    front = gives.own ++ w.front;
    last = w.last;
    made = subst (λ (l : List (Entry Command Reply)). Made r new l) (sym (append_assoc gives.own w.front (w.last ∷ [])))
        (made_more r s new gives.own (w.front ++ w.last ∷ []) gives.made w.made);
    stopped = w.stopped;
  }

-- ---- one question to the journal
module _ (p q : PassRecord) (from : Cursor) where
  since_asks : (own : List (Entry Command Reply)) → IsAtMostOne own (since_asked from) → AsksInTurn (Some from) own
  since_asks [] once = tt
  since_asks (e ∷ es) once = once

  pub since_fails : (r : PassRecord) (fault : CallFault) → FailsAsking p q (since_asked from) fault → ExchangesOnly p q r r (Some from)
  since_fails r fault by = let o = asked_once p q (since_asked from) fault by in
      record { own = o.own; made = o.made; asks = since_asks o.own o.once; gives = only_none r (all_told o.own) }

  pub since_fault : (r : PassRecord) (fault : CallFault) → FailsAsking p q (since_asked from) fault → IsExchangeFault p q r r (Call fault)
  since_fault r fault by = asking_fails p p q r r [] 0 (made_none p) (gives_none r) (since_asked from) fault by

  module _ (r s : PassRecord) (since : readings.Since) (t : (place : ℕ) × MadeCall p q (since_asked from) (Journaled since) place) where
    asked : List (Entry Command Reply)
    asked = entry p.origin.number (since_asked from) (Journaled since) ∷ []

    journal_told : all_told asked ≡ since.items
    unfolding asked
    journal_told = append-nil since.items

    pub since_only : GivesOnly r s since.items → ExchangesOnly p q r s (Some from)
    unfolding asked
    since_only o = record {
      own = asked;
      made = t.1.made;
      asks = (refl, refl);
      gives = subst (λ (l : List Item). GivesOnly r s l) (sym journal_told) o;
    }

    pub since_stops : (fault : ExchangeFault) → IsGivingFault r s since.items fault → IsExchangeFault p q r s fault
    unfolding asked
    since_stops fault by = giving_fails p q r r s asked t.1.made [] since.items 0 (gives_none r) journal_told fault by

    pub since_ends : (taken : ℕ) → GivesAll r s since.items taken →
        Exchanges p q r s (Some from)
        (record { cursor = since.cursor; done = length since.items; taken = taken; more = nat_le most_items (length since.items) })
    unfolding asked
    since_ends taken g = record {
      own = asked;
      made = t.1.made;
      legal = t.1.legal;
      asks = (refl, refl);
      ends = record {
        front = [];
        last = entry p.origin.number (since_asked from) (Journaled since);
        parts = refl;
        tells = (since, refl, refl);
        cursor_is = refl;
      };
      gives = subst (λ (l : List Item). GivesAll r s l taken) (sym journal_told) g;
      done = sym (ap (λ (l : List Item). length l) journal_told);
    }

-- ---- pages
asks_more : (after next : Option Key) (own more : List (Entry Command Reply)) → AsksOpenPages after own next →
    IsAtMostOne more (page_asked next) → AsksPages after (own ++ more)
asks_more after next [] [] a once = tt
asks_more after next [] (e ∷ es) a once = (once.0 ∙ ap page_asked a, inl once.1)
asks_more after next (x ∷ own) more a once = (a.0, inr (a.1.0, a.1.1, asks_more (last_key after a.1.0.items) next own more a.1.2 once))

open_more : (after next : Option Key) (own : List (Entry Command Reply)) (e : Entry Command Reply) (page : Leaf) →
    AsksOpenPages after own next → e.command ≡ page_asked next → IsOpenPage e page →
    AsksOpenPages after (own ++ e ∷ []) (last_key next page.items)
open_more after next [] e page a asked is = (asked ∙ ap page_asked a, (page, is, ap (λ (k : Option Key). last_key k page.items) a))
open_more after next (x ∷ own) e page a asked is =
    (a.0, (a.1.0, a.1.1, open_more (last_key after a.1.0.items) next own e page a.1.2 asked is))

first_more : (after next : Option Key) (own : List (Entry Command Reply)) (e : Entry Command Reply) (page : Leaf) →
    AsksOpenPages after own next → e.reply ≡ Paged page →
    first_told (own ++ e ∷ []) ≡ Some (unwrap_or (first_told own) page.cursor)
first_more after next [] e page a is = ap cursor_told is
first_more after next (x ∷ own) e page a is =
    subst (λ (z : Reply). cursor_told z ≡ Some (unwrap_or (cursor_told z) page.cursor)) (sym a.1.1.reply) refl

pub pages_none : (p r : PassRecord) → GoesByPages p p r r None None 0 0
pages_none p r =
    record { own = []; made = made_none p; asks = refl; gives = gives_none r; done_is = refl; bound = omega arith; first_is = refl }

module _ (p q r s next : PassRecord) (after : Option Key) (first : Option Cursor) (done taken : ℕ)
    (k : GoesByPages p q r s after first done taken) where
  -- the next page wasn't told
  pub page_fails : (fault : CallFault) → FailsAsking q next (page_asked after) fault → ExchangesOnly p next r s None
  page_fails fault by = let o = asked_once q next (page_asked after) fault by in record {
    own = k.own ++ o.own;
    made = made_more p q next k.own o.own k.made o.made;
    asks = asks_more None after k.own o.own k.asks o.once;
    gives = subst (λ (l : List Item). GivesOnly r s l) (sym (told_both k.own o.own))
        (only_all r s (all_told k.own) (all_told o.own) taken k.gives);
  }

  pub page_fault : (fault : CallFault) → FailsAsking q next (page_asked after) fault → IsExchangeFault p next r s (Call fault)
  page_fault fault by = asking_fails p q next r s k.own taken k.made k.gives (page_asked after) fault by

  -- it was, and so much of it was given
  module _ (new : PassRecord) (page : Leaf) (t : (place : ℕ) × MadeCall q next (page_asked after) (Paged page) place) where
    asked_page : Entry Command Reply
    asked_page = entry q.origin.number (page_asked after) (Paged page)

    made_page : Made p next (k.own ++ asked_page ∷ [])
    unfolding asked_page
    made_page = made_more p q next k.own (asked_page ∷ []) k.made t.1.made

    page_told : all_told (k.own ++ asked_page ∷ []) ≡ all_told k.own ++ page.items
    unfolding asked_page
    page_told = told_both k.own (asked_page ∷ []) ∙ ap (λ (l : List Item). all_told k.own ++ l) (told_once asked_page (Paged page) refl)

    asks_page : AsksPages None (k.own ++ asked_page ∷ [])
    unfolding asked_page
    asks_page = asks_more None after k.own (asked_page ∷ []) k.asks (refl, refl)

    pub page_only : GivesOnly s new page.items → ExchangesOnly p next r new None
    page_only o = record {
      own = k.own ++ asked_page ∷ [];
      made = made_page;
      asks = asks_page;
      gives = subst (λ (l : List Item). GivesOnly r new l) (sym page_told) (only_after r s new (all_told k.own) page.items taken k.gives o);
    }

    pub page_stops : (fault : ExchangeFault) → IsGivingFault s new page.items fault → IsExchangeFault p next r new fault
    page_stops fault by = giving_fails p next r s new (k.own ++ asked_page ∷ []) made_page (all_told k.own) page.items taken k.gives
        page_told fault by

    -- a desk has places for so few pages that they have fewer items than 2^127
    pub told_few : place_after next ≤ 2 ^ 62 → length page.items < 2 ^ 64 → done + length page.items < 2 ^ 127
    told_few at few =
        omega (arith, k.bound, at, few, made_above p next (k.own ++ asked_page ∷ []) made_page, length-append k.own (asked_page ∷ []))

    module _ (n : ℕ) (g : GivesAll s new page.items n) where
      pub taken_few : place_after next ≤ 2 ^ 62 → length page.items < 2 ^ 64 → taken + n < 2 ^ 127
      taken_few at few = omega (arith, told_few at few, k.done_is, k.gives.within, g.within)

      gives_page : GivesAll r new (all_told (k.own ++ asked_page ∷ [])) (taken + n)
      gives_page = subst (λ (l : List Item). GivesAll r new l (taken + n)) (sym page_told)
          (gives_both r s new (all_told k.own) page.items taken n k.gives g)

      page_done : done + length page.items ≡ length (all_told (k.own ++ asked_page ∷ []))
      page_done = omega (arith, k.done_is, ap (λ (l : List Item). length l) page_told, length-append (all_told k.own) page.items)

      page_first : first_told (k.own ++ asked_page ∷ []) ≡ Some (unwrap_or first page.cursor)
      unfolding asked_page
      page_first =
          first_more None after k.own asked_page page k.asks refl ∙
          ap (λ (o : Option Cursor). Some (unwrap_or o page.cursor)) (sym k.first_is)

      pub pages_more : page.last ≡ false → length page.items < 2 ^ 64 →
          GoesByPages p next r new (last_key after page.items) (Some (unwrap_or first page.cursor)) (done + length page.items) (taken + n)
      unfolding asked_page
      pages_more more few = record {
        own = k.own ++ asked_page ∷ [];
        made = made_page;
        asks = open_more None after k.own asked_page page k.asks refl (record { reply = refl; more = more });
        gives = gives_page;
        done_is = page_done;
        bound = omega (arith, k.bound, few, length-append k.own (asked_page ∷ []));
        first_is = sym page_first;
      }

      pub pages_end : page.last ≡ true →
          Exchanges p next r new None
          (record { cursor = unwrap_or first page.cursor; done = done + length page.items; taken = taken + n; more = false })
      unfolding asked_page
      pages_end last = record {
        own = k.own ++ asked_page ∷ [];
        made = made_page;
        legal = t.1.legal;
        asks = asks_page;
        ends = record {
          front = k.own;
          last = asked_page;
          parts = refl;
          tells = (page, refl, last, refl);
          cursor_is = page_first;
        };
        gives = gives_page;
        done = page_done;
      }
