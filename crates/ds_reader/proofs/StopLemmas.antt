-- If a command isn't answered, the reader gives up.
use Rattle.std.proofs.Common.{◌≡◌, ℕ, true, List, Option, Result, Ok, Err, IfOk, IsErrAnd, sym, subst, inl, inr}
use Rattle.ds_names.specs.declared.key.Key.{Key}
use Rattle.ds_entry.specs.declared.item.Item.{Item}
use Rattle.ds_feed.specs.declared.cursor.Cursor.{Cursor}
use Rattle.ds_pattern.specs.declared.query.Query.{Query}
use Rattle.ds_machine.specs.State.{State}
use Rattle.ds_machine.specs.Effect.{GoesOn}
use Rattle.ds_machine.specs.declared.command.Command.{Command}
use Rattle.ds_machine.specs.declared.command.Command.TheVariants.{Subscribe, Check, Since, Page}
use Rattle.ds_machine.specs.declared.command.Scope.{Scope}
use Rattle.ds_machine.specs.declared.command.Scope.TheVariants.{Under}
use Rattle.ds_reader.specs.GivesUp.{IsCommandRefused, StopsChecks, StopsPages, StopsSinces}
use Rattle.ds_reader.specs.Laws.{ReaderLaws}
use Rattle.ds_reader.specs.Stops.{StopsThere}
use Rattle.ds_reader.specs.declared.fault.ReadFault.{ReadFault}
use Rattle.ds_reader.specs.declared.fault.ReadFault.TheVariants.{Refused, NoRoom, Unfinished, Overtaken, Worn}
use Rattle.ds_reader.specs.declared.reading.Reading.{Reading}
use Rattle.ds_reader.proofs.StateLemmas.{refused_there, went_on}
use Rattle.ds_reader.proofs.CheckLemmas as checks
use Rattle.ds_reader.proofs.CheckLemmas.{Checking}
use Rattle.ds_reader.proofs.SinceLemmas as sinces
use Rattle.ds_reader.proofs.SinceLemmas.{Catching}
use Rattle.ds_reader.proofs.PageLemmas as pages
use Rattle.ds_reader.proofs.PageLemmas.{Paging}

module _ {A : Type 0} (laws : ReaderLaws) (stands : A → State → Type 0) (worn : A → Type 0) (old new : A) where
  -- only a reader that can ask no more says that it can't
  pub stops_worn : (command : Command) (fault : ReadFault) → StopsThere stands worn old command fault new → fault ≡ Worn → worn new
  stops_worn command Worn h e = h.0
  stops_worn command (Refused r) h e = absurd (cc)
  stops_worn command NoRoom h e = absurd (cc)
  stops_worn command Unfinished h e = absurd (cc)
  stops_worn command Overtaken h e = absurd (cc)

  -- the Subscribe of a reader by checks
  pub stops_subscribe : (s : State) (sub : ℕ) (reading : Reading) (query : Query) (fault : ReadFault) → query ≡ reading.query →
      StopsThere stands worn old (Subscribe sub query true true) fault new → stands old s
      → (t : State) × GoesOn s t × stands new t × StopsChecks s t sub reading fault
  stops_subscribe s sub reading query (Refused r) same h at =
      let x = h s at in
      let there = refused_there laws s x.0 (Subscribe sub query true true) r x.1 in
      (x.0, went_on laws s x.0 there.1, x.2, inl (subst (λ (q : Query). IsCommandRefused x.0 (Subscribe sub q true true) r) same there.0))
  stops_subscribe s sub reading query Worn same h at = let x = h.1 s at in (x.0, went_on laws s x.0 x.1, x.2, tt)
  stops_subscribe s sub reading query NoRoom same h at = absurd h
  stops_subscribe s sub reading query Unfinished same h at = absurd h
  stops_subscribe s sub reading query Overtaken same h at = absurd h

  -- and its next Check
  pub stops_check : (s : State) (sub stamp count : ℕ) (reading : Reading) (items : List Item) (fault : ReadFault) →
      StopsThere stands worn old (Check sub reading.max) fault new → Checking (stands old) s sub reading.max reading.query items stamp count
      → (t : State) × GoesOn s t × stands new t × StopsChecks s t sub reading fault
  stops_check s sub stamp count reading items (Refused r) h k =
      let x = h k.now k.stands in
      let there = refused_there laws k.now x.0 (Check sub reading.max) r x.1 in (
        x.0,
        laws.later s k.now x.0 k.goes (went_on laws k.now x.0 there.1),
        x.2,
        inr (k.turns, checks.still_full laws (stands old) s sub stamp count reading items k x.0 there.1, there.0),
      )
  stops_check s sub stamp count reading items Worn h k = let x = h.1 k.now k.stands in
      (x.0, laws.later s k.now x.0 k.goes (went_on laws k.now x.0 x.1), x.2, tt)
  stops_check s sub stamp count reading items NoRoom h k = absurd h
  stops_check s sub stamp count reading items Unfinished h k = absurd h
  stops_check s sub stamp count reading items Overtaken h k = absurd h

  -- the next question to the journal
  pub stops_since : (s : State) (reading : Reading) (scope : Scope) (from at : Cursor) (items more : List Item) (count : ℕ)
      (fault : ReadFault) → scope ≡ Under reading.query → StopsThere stands worn old (Since scope at reading.max) fault new
      → Catching (stands old) s reading from at items more count → (t : State) × GoesOn s t × stands new t ×
      StopsSinces t reading from fault
  stops_since s reading scope from at items more count (Refused r) same h k =
      let x = h k.now k.stands in
      let there = refused_there laws k.now x.0 (Since scope at reading.max) r x.1 in
      let refused = subst (λ (c : Scope). IsCommandRefused x.0 (Since c at reading.max) r) same there.0 in (
        x.0,
        sinces.gone laws (stands old) s reading from at items more count k x.0 there.1,
        x.2,
        (
          k.turns,
          sinces.still_full laws (stands old) s reading from at items more count k x.0 there.1,
          subst (λ (c : Cursor). IsCommandRefused x.0 (Since (Under reading.query) c reading.max) r) (sym k.at_is) refused,
        ),
      )
  stops_since s reading scope from at items more count Worn same h k = let x = h.1 k.now k.stands in
      (x.0, sinces.gone laws (stands old) s reading from at items more count k x.0 x.1, x.2, tt)
  stops_since s reading scope from at items more count NoRoom same h k = absurd h
  stops_since s reading scope from at items more count Unfinished same h k = absurd h
  stops_since s reading scope from at items more count Overtaken same h k = absurd h

  -- the next page
  pub stops_page : (s : State) (reading : Reading) (scope : Scope) (items : List Item) (after : Option Key) (from : Option Cursor)
      (count : ℕ) (fault : ReadFault) → scope ≡ Under reading.query → StopsThere stands worn old (Page scope after reading.max) fault new
      → Paging (stands old) s reading items after from count → (t : State) × GoesOn s t × stands new t × StopsPages s t reading fault
  stops_page s reading scope items after from count (Refused r) same h k =
      let x = h k.now k.stands in
      let there = refused_there laws k.now x.0 (Page scope after reading.max) r x.1 in
      let refused = subst (λ (c : Scope). IsCommandRefused x.0 (Page c after reading.max) r) same there.0 in (
        x.0,
        pages.gone laws (stands old) s reading items after from count k x.0 there.1,
        x.2,
        inl (
          k.turns,
          pages.still_open laws (stands old) s reading items after from count k x.0 there.1,
          subst (λ (o : Option Key). IsCommandRefused x.0 (Page (Under reading.query) o reading.max) r) (sym k.after_is) refused,
        ),
      )
  stops_page s reading scope items after from count Worn same h k = let x = h.1 k.now k.stands in
      (x.0, pages.gone laws (stands old) s reading items after from count k x.0 x.1, x.2, inl tt)
  stops_page s reading scope items after from count NoRoom same h k = absurd h
  stops_page s reading scope items after from count Unfinished same h k = absurd h
  stops_page s reading scope items after from count Overtaken same h k = absurd h

-- ---- what a reader that gives up says
-- it has read nothing
pub nothing_read : {T E : Type 0} (r : Result T E) (P : T → Type 0) (Q : E → Type 0) → IsErrAnd r Q → IfOk r P
nothing_read (Ok x) P Q h = absurd h
nothing_read (Err y) P Q h = tt

-- out of memory doesn't mean that it can send no more commands
pub has_room : {T X : Type 0} (r : Result T ReadFault) → IsErrAnd r (λ y. y ≡ NoRoom) → r ≡ Err Worn → X
has_room (Ok x) h e = absurd h
has_room (Err y) h e = absurd (cc)

-- it says so only where the fault does that it passes on
pub by_fault : {T X : Type 0} (r : Result T ReadFault) (fault : ReadFault) → IsErrAnd r (λ y. y ≡ fault) → (fault ≡ Worn → X) →
    r ≡ Err Worn → X
by_fault (Ok x) fault h says e = absurd h
by_fault (Err y) fault h says e = says (cc)

-- nor that the subscription was taken over
pub has_room_still : {T X : Type 0} (r : Result T ReadFault) → IsErrAnd r (λ y. y ≡ NoRoom) → r ≡ Err Overtaken → X
has_room_still (Ok x) h e = absurd h
has_room_still (Err y) h e = absurd (cc)

pub by_overtaken : {T X : Type 0} (r : Result T ReadFault) (fault : ReadFault) → IsErrAnd r (λ y. y ≡ fault) → (fault ≡ Overtaken → X) →
    r ≡ Err Overtaken → X
by_overtaken (Ok x) fault h says e = absurd h
by_overtaken (Err y) fault h says e = says (cc)

-- a command that isn't answered doesn't say so
pub stops_otherwise : {A X : Type 0} (stands : A → State → Type 0) (worn : A → Type 0) (old new : A) (command : Command)
    (fault : ReadFault) → StopsThere stands worn old command fault new → fault ≡ Overtaken → X
stops_otherwise stands worn old new command Overtaken h e = absurd h
stops_otherwise stands worn old new command (Refused r) h e = absurd (cc)
stops_otherwise stands worn old new command NoRoom h e = absurd (cc)
stops_otherwise stands worn old new command Unfinished h e = absurd (cc)
stops_otherwise stands worn old new command Worn h e = absurd (cc)
