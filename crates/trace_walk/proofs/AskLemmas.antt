-- What follows from the reply of an entry.
use Rattle.std.proofs.Common.{◌≡◌, ◌≢◌, ℕ, ◌<◌, true, false, List, [], ◌∷◌, ◌++◌, length, Option, Some, is_some, refl, sym, ap, subst, ◌∙◌}
use Rattle.std.proofs.Common.{arith, append_assoc}
use Rattle.ds_content.specs.Content.{ContentRecord}
use Rattle.ds_content.specs.Stands.{ContentStands}
use Rattle.ds_entry.specs.declared.item.Item.{Item}
use Rattle.line_io.specs.Lines.{EndsLine as EndsALine, with_newline}
use Rattle.line_io.specs.Reading.{LinesContent}
use Rattle.ds_machine.specs.Machine.{Step, StopsForRoom}
use Rattle.ds_machine.specs.State.{State}
use Rattle.ds_machine.specs.declared.command.Command.{Command}
use Rattle.ds_machine.specs.declared.command.Command.TheVariants as machine
use Rattle.ds_machine.specs.declared.refusal.Refusal.TheVariants as refusals
use Rattle.ds_machine.specs.declared.reply.Reply.{Reply as AReply}
use Rattle.ds_machine.specs.declared.reply.Reply.TheVariants.{Refused}
use Rattle.ds_names.specs.Endpoint.{EndpointRecord}
use Rattle.script_answers.specs.Reply.{reply_lines, refused_noroom}
use Rattle.script_commands.specs.declared.command.ScriptCommand.TheVariants as commands
use Rattle.script_answers.specs.declared.wording.Wording.{Wording}
use Rattle.script_answers.specs.declared.wording.Wording.TheVariants.{AsMerge}
use Rattle.ds_machine.specs.OneStep.{room_wanted}
use Rattle.trace_walk.specs.declared.asked.Asked.{Asked}
use Rattle.trace_walk.specs.declared.asked.Asked.TheVariants as askeds
use Rattle.trace_walk.specs.declared.header.Format.TheVariants.{One}
use Rattle.trace_walk.specs.declared.header.Header.{Header}
use Rattle.trace_walk.specs.Legal.{StepOf, EntryLeads}
use Rattle.trace_walk.specs.Noroom.{noroom_line, stopped_line}
use Rattle.trace_walk.specs.Sweep.{older_sweep}
use Rattle.trace_walk.specs.Text.{TraceEntry, IsEntry, asked_text, command_asked, marked, marked_from, worded_as}
use Rattle.trace_walk.specs.Walk.{IsPlaceInEntry, MayReply}
use Rattle.trace_walk.proofs.EntryLemmas.{entries_lead}
use Rattle.trace_walk.proofs.OneReplyLemmas.{none_of, older_plain}
use Rattle.trace_walk.proofs.PlaceLemmas.{reply_places, within_replies, wants_step, asks_some}
use Rattle.trace_walk.specs.declared.fault.WalkFault.{WalkFault}
use Rattle.trace_walk.specs.declared.fault.WalkFault.TheVariants.{IllegalAt, BadLineAt, ReadFault, NoRoom}
use Rattle.trace_walk.specs.declared.passed.Passed.{Passed}
use Rattle.trace_walk.specs.declared.walk.Walk.{Walk}
use Rattle.trace_walk.specs.Passing.{BecomesBy, HasPassed}
use Rattle.trace_walk.specs.Steps.{HasSaid, SaysAll}
use Rattle.trace_walk.specs.Walking.{Spot, IsAt, HasLine, IsFault, IsShort, Walks, spot_after, HasAsked, Hears, IsEnded, IsThere}
use Rattle.trace_walk.specs.Walking.{IsToBeSaid, IsStopFault, IsForStore}
use Rattle.trace_walk.proofs.FaultLemmas.{wrong_there, place_of}
use Rattle.trace_walk.proofs.ShortLemmas.{reply_short, may_short, reply_ended, reply_some}
use Rattle.trace_walk.proofs.ToldLemmas.{told, stop_first, stop_told, sweep_step}

-- ---- after a command

-- the first line of a reply must follow
pub reply_wanted : (b : Spot) (l : LinesContent) (store : ContentRecord) (h : Header) (from : Option (List ℕ)) (pass : ℕ)
    (asked : Asked) (kept : List ℕ) (x : HasAsked b l store h from pass asked kept)
    → IsPlaceInEntry b.front (b.front ++ asked_text pass asked) true IsShort
reply_wanted b l store h from pass asked kept x =
    place_of b.front _ true (MayReply h.format h.limits b.state asked) IsShort
    (λ line m. may_short h pass b.state asked line x.past.trace.header x.past.traced x.may m)
    (reply_places b.front h b.state b.count pass asked x.past x.pass_few x.may)

-- and does
pub hears : (b : Spot) (old l : LinesContent) (store : ContentRecord) (h : Header) (from to : Option (List ℕ)) (pass : ℕ)
    (asked : Asked) (kept : List ℕ) (x : HasAsked b old store h from pass asked kept) (line : List ℕ)
    → l.line ≡ with_newline line → HasLine b.bytes (b.front ++ asked_text pass asked) line l to → Hears b l store h to pass asked kept
hears b old l store h from to pass asked kept x line is here =
    record
    { line = line; here = here; line_is = is; stands = x.stands; past = x.past; pass_few = x.pass_few; may = x.may; kept_is = x.kept_is }

-- ---- the reply

module _ (b : Spot) (old : LinesContent) (store : ContentRecord) (h : Header) (from : Option (List ℕ)) (pass : ℕ) (asked : Asked)
    (kept : List ℕ) (x : Hears b old store h from pass asked kept) where
  abbrev base : List ℕ
  base = b.front ++ asked_text pass asked

  abbrev place : IsPlaceInEntry b.front base true (MayReply h.format h.limits b.state asked)
  place = reply_places b.front h b.state b.count pass asked x.past x.pass_few x.may

  module _ (command : Command) (asks : command_asked asked ≡ Some command) (reply : AReply) (t : State)
      (step : StepOf h.format b.state command reply t) where
    abbrev entry : TraceEntry
    entry = record { pass = pass; asked = asked; reply = reply }

    abbrev is_entry : IsEntry h.format entry
    is_entry = record { pass = x.pass_few; asked = x.may }

    abbrev leads : EntryLeads h.format b.state entry t
    leads = (command, asks, step)

    abbrev text : List ℕ
    text = reply_lines (worded_as asked) reply h.limits

    -- the store's reply is read against the lines
    pub is_given : (MayReply h.format h.limits b.state asked (with_newline x.line) → (next left : List ℕ) → text ≡ next ++ left →
        EndsALine next → with_newline x.line ≡ 60 ∷ 32 ∷ next) → IsToBeSaid b.front base x.line text
    is_given known =
        record {
          first = λ next left is ends. place_of b.front base true (MayReply h.format h.limits b.state asked) (IsThere x.line next)
              (λ line m same. same ∙ known (subst (MayReply h.format h.limits b.state asked) same m) next left is
              (record { front = ends.front; parts = ends.parts; none = ends.none })) place;
          further = λ given next left is ends.
              let last : EndsALine next = record { front = ends.front; parts = ends.parts; none = ends.none } in (
                subst (λ (f : List ℕ). IsPlaceInEntry b.front f true (λ (line : List ℕ). line ≡ 60 ∷ 32 ∷ next))
                    (sym (append_assoc b.front (asked_text pass asked) (marked (given ++ 10 ∷ []))))
                    (within_replies b.front h b.state t b.count entry given next left x.past is_entry leads is last),
                reply_short h pass b.state t asked command reply x.past.trace.header x.past.traced x.may asks step (given ++ 10 ∷ []) next
                    left is last,
              );
        }

    -- all its lines are there
    pub walks_on : (l : LinesContent) (to : Option (List ℕ)) (new : ContentRecord) → IsAt b.bytes (base ++ marked text) l to →
        ContentStands new t → Walks (spot_after b h.limits entry t) l new h to
    walks_on l to new at stands =
        record {
          at = subst (λ (f : List ℕ). IsAt b.bytes f l to) (append_assoc b.front (asked_text pass asked) (marked text)) at;
          stands = stands;
          past = entries_lead b.front h b.state t b.count entry x.past is_entry leads;
        }

    -- and that is one more entry
    pub passes : (w : Walk) (to : Option (List ℕ)) (passed : Passed) → Walks (spot_after b h.limits entry t) w.entry.lines w.store h to →
        w.header ≡ h → w.entry.text.items ≡ kept → w.reply.items ≡ text →
        (h.format ≡ One → BecomesBy b.state h.limits entry passed) → HasPassed b h w to passed
    passes w to passed walks header asked_is reply_is becomes =
        record {
          entry = entry;
          state = t;
          is = is_entry;
          leads = leads;
          walks = walks;
          header = header;
          asked = asked_is ∙ x.kept_is;
          reply =
              reply_is;
          becomes = becomes;
        }

    -- a comparison with the text passes it, or finds the wrong line
    pub answered_goes : (said : List ℕ) → said ≡ text → (l : LinesContent) (to : Option (List ℕ)) (new : ContentRecord) →
        ((bytes base here : List ℕ) → HasLine bytes base here old from → old.line ≡ with_newline here → IsEnded said → 0 < length said →
        IsAt bytes (base ++ marked said) l to) →
        ContentStands new t →
        Walks (spot_after b h.limits entry t) l new h to
    answered_goes said is l to new goes stands =
        let whole : IsEnded said = subst IsEnded (sym is) (reply_ended (worded_as asked) reply h.limits) in
        let some : 0 < length said = subst (λ (f : List ℕ). 0 < length f) (sym is) (reply_some (worded_as asked) reply h.limits) in
        walks_on l to new (subst (λ (f : List ℕ). IsAt b.bytes (base ++ marked f) l to) is
        (goes b.bytes base x.line x.here x.line_is whole some)) stands

    -- and is after one more entry
    pub passes_said : (before w : Walk) (to : Option (List ℕ)) (passed : Passed) (said : List ℕ)
        → said ≡ text → HasSaid before from said w to → before.entry.lines ≡ old → before.header ≡ h → before.entry.text.items ≡ kept
        → ContentStands before.store t →
        (h.format ≡ One → BecomesBy b.state h.limits entry passed) → HasPassed b h w to passed
    passes_said before w to passed said is s lines header asked_is stands becomes =
        let goes = subst (λ (l : LinesContent). SaysAll l from w.entry.lines to said) lines s.says in
        let walks = answered_goes said is w.entry.lines to w.store goes
        (subst (λ (k : ContentRecord). ContentStands k t) (sym s.store) stands) in
        passes w to passed walks (s.header ∙ header) (s.asked ∙ asked_is) (s.reply ∙ is) becomes

    pub answered_fails : (said : List ℕ) → said ≡ text → (fault : WalkFault) →
        ((start bytes base here : List ℕ) → HasLine bytes base here old from → old.line ≡ with_newline here →
        IsToBeSaid start base here said → IsFault start bytes fault) →
        (MayReply h.format h.limits b.state asked (with_newline x.line) → (next left : List ℕ) → text ≡ next ++ left → EndsALine next →
        with_newline x.line ≡ 60 ∷ 32 ∷ next) → IsFault b.front b.bytes fault
    answered_fails said is fault fails known =
        fails b.front b.bytes base x.line x.here x.line_is (subst (IsToBeSaid b.front base x.line) (sym is) (is_given known))

  -- a reply for out of memory
  pub noroom_text : reply_lines (worded_as asked) (Refused refusals.NoRoom) h.limits ≡ refused_noroom
  noroom_text = refl

  noroom_marked : marked (reply_lines (worded_as asked) (Refused refusals.NoRoom) h.limits) ≡ noroom_line
  unfolding marked_from
  noroom_marked = refl

  pub passed_over : old.line ≡ noroom_line → (w : Walk) (passed : Passed)
      → w.entry.lines ≡ old → w.store ≡ store → w.header ≡ h → w.entry.text.items ≡ kept →
      w.reply.items ≡ reply_lines (worded_as asked) (Refused refusals.NoRoom) h.limits →
      (h.format ≡ One → BecomesBy b.state h.limits (record { pass = pass; asked = asked; reply = Refused refusals.NoRoom }) passed) →
      HasPassed b h w from passed
  passed_over is w passed lines_is store_is header asked_is reply_is becomes =
      let c = asks_some h.format pass asked x.may in
      let step = wants_step h.format b.state c.0 in
      let walks = walks_on c.0 c.1 (Refused refusals.NoRoom) b.state step old from store
      (subst (λ (l : List ℕ). IsAt b.bytes (base ++ l) old from) (sym x.line_is ∙ is ∙ sym noroom_marked) x.here.then) x.stands in
      let next : Spot = spot_after b h.limits (record { pass = pass; asked = asked; reply = Refused refusals.NoRoom }) b.state in
      let there : Walks next w.entry.lines w.store h from =
      subst (λ (k : ContentRecord). Walks next w.entry.lines k h from) (sym store_is)
      (subst (λ (k : LinesContent). Walks next k store h from) (sym lines_is) walks) in
      passes c.0 c.1 (Refused refusals.NoRoom) b.state step w from passed there header asked_is reply_is becomes

  -- the store's own reply
  pub known_by : (said : Wording) (command : Command) (reply : AReply) (t : State)
      (f : IsForStore h.format asked said command old.line)
      → is_some (room_wanted reply) ≡ false → Step b.state command reply t
      → MayReply h.format h.limits b.state asked (with_newline x.line) →
      (next left : List ℕ) → reply_lines (worded_as asked) reply h.limits ≡ next ++ left → EndsALine next →
      with_newline x.line ≡ 60 ∷ 32 ∷ next
  known_by said command reply t f room step m next left is ends =
      told h.format h.limits pass b.state command (with_newline x.line) asked t reply x.may f.asks (f.steps b.state t reply step)
      (none_of (room_wanted reply) room) (λ e. f.room (x.line_is ∙ e))
      (λ items done e less q. f.stops items done e less (x.line_is ∙ q)) m next left is ends

-- ---- a Merge that was stopped

module _ (b : Spot) (old : LinesContent) (store : ContentRecord) (h : Header) (from : Option (List ℕ)) (pass : ℕ) (items : List Item)
    (kept : List ℕ) (x : Hears b old store h from pass (askeds.Merge items) kept) (done : ℕ) (less : done < length items)
    (is : old.line ≡ stopped_line done) where
  pub stop_known : (reply : AReply) (t : State) → StopsForRoom b.state items reply t done → (next left : List ℕ) →
      reply_lines AsMerge reply h.limits ≡ next ++ left → EndsALine next → with_newline x.line ≡ 60 ∷ 32 ∷ next
  stop_known reply t stops next left text ends =
      sym x.line_is ∙ is ∙ ap (λ (l : List ℕ). 60 ∷ 32 ∷ l)
      (sym (stop_first done _ h.limits next left (omega (arith, less, x.may.0))
      (ap (λ (r : AReply). reply_lines AsMerge r h.limits) (sym stops.reply_is) ∙ text) ends))

  pub stop_fails : (fault : WalkFault) (number : ℕ) → IsStopFault b.state items done number fault → number ≡ old.count →
      IsFault b.front b.bytes fault
  stop_fails (IllegalAt n) number k e =
      wrong_there b.front b.bytes (b.front ++ asked_text pass (askeds.Merge items)) x.line old from n
      (MayReply h.format h.limits b.state (askeds.Merge items)) x.here (place b old store h from pass (askeds.Merge items) kept x)
      (λ m. k.1 (stop_told h.format h.limits pass b.state items done (with_newline x.line) x.past.traced x.may less (sym x.line_is ∙ is)
      m)) (k.0 ∙ e)
  stop_fails (BadLineAt n) number k e = absurd k
  stop_fails ReadFault number k e = tt
  stop_fails NoRoom number k e = tt

-- ---- a sweep of format 1

pub sweep_known : (b : Spot) (old : LinesContent) (store : ContentRecord) (h : Header) (from : Option (List ℕ)) (pass : ℕ)
    (caller : EndpointRecord) (owner : List ℕ) (generation : ℕ) (kept : List ℕ)
    (x : Hears b old store h from pass (askeds.Line (commands.Store (machine.Sweep caller owner generation))) kept) →
    old.line ≢ noroom_line → (reply : AReply) → h.format ≡ One → reply ≡ (older_sweep b.state caller owner generation).0 →
    MayReply h.format h.limits b.state (askeds.Line (commands.Store (machine.Sweep caller owner generation))) (with_newline x.line) →
    (next left : List ℕ) → reply_lines AsMerge reply h.limits ≡ next ++ left → EndsALine next → with_newline x.line ≡ 60 ∷ 32 ∷ next
sweep_known b old store h from pass caller owner generation kept x room reply one is m next left text ends =
    told h.format h.limits pass b.state (machine.Sweep caller owner generation) (with_newline x.line)
    (askeds.Line (commands.Store (machine.Sweep caller owner generation))) (older_sweep b.state caller owner generation).1 reply x.may refl
    (sweep_step h.format b.state caller owner generation reply one is)
    (ap room_wanted is ∙ (older_plain b.state caller owner generation).0) (λ e. room (x.line_is ∙ e))
    (λ items done e less q. not_merge items e) m next left text ends
  where
    not_merge : (items : List Item) → askeds.Line (commands.Store (machine.Sweep caller owner generation)) ≡ askeds.Merge items → ⊥
    not_merge items e = cc
