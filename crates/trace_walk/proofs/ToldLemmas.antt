-- What a reply line determines about the store.
use Rattle.std.proofs.Common.{◌≡◌, ◌≢◌, ℕ, ◌<◌, ◌≤◌, ◌^◌, Bool, true, false, cond, nat_lt, List, [], ◌∷◌, ◌++◌, length, take, drop, codes}
use Rattle.std.proofs.Common.{Option, Some, None, is_some, inl, inr, refl, sym, ap, subst, ◌∙◌, arith, append_assoc}
use Rattle.std.specs.Fmt.{decimal}
use Rattle.std.proofs.lemmas.Option.{same_Some}
use Rattle.ds_names.specs.Endpoint.{EndpointRecord}
use Rattle.ds_entry.specs.declared.item.Item.{Item}
use Rattle.ds_entry.proofs.Members.{Contains-nil}
use Rattle.ds_held.specs.Limits.{LimitsRecord}
use Rattle.line_io.specs.Lines.{EndsLine}
use Rattle.ds_line.proofs.NewlineLemmas.{unbroken_decimal}
use Rattle.ds_names.specs.Limits.{most_items}
use Rattle.ds_machine.specs.Machine.{Step, StopsForRoom, MergeWantsRoom}
use Rattle.ds_machine.specs.Merging.{course}
use Rattle.ds_machine.specs.State.{State, owed}
use Rattle.ds_machine.specs.declared.command.Command.{Command}
use Rattle.ds_machine.specs.declared.command.Command.TheVariants as commands
use Rattle.ds_machine.specs.declared.refusal.Refusal.TheVariants as refusals
use Rattle.ds_machine.specs.declared.reply.Reply.{Reply}
use Rattle.ds_machine.specs.declared.reply.Reply.TheVariants.{MergeStopped, Refused}
use Rattle.script_commands.specs.Command.{IsCommand, store_command}
use Rattle.script_answers.specs.Reply.{reply_lines, owed_line}
use Rattle.script_commands.specs.declared.command.ScriptCommand.{ScriptCommand}
use Rattle.script_commands.specs.declared.command.ScriptCommand.TheVariants as lines
use Rattle.script_answers.specs.declared.wording.Wording.{Wording}
use Rattle.script_answers.specs.declared.wording.Wording.TheVariants.{AsOffer, AsMerge}
use Rattle.ds_machine.specs.OneStep.{is_noroom, room_wanted}
use Rattle.ds_machine.proofs.OneStepLemmas.{done_same, none_done, none_some, outcomes_take_none, whole_command}
use Rattle.trace_walk.specs.declared.asked.Asked.{Asked}
use Rattle.trace_walk.specs.declared.asked.Asked.TheVariants as askeds
use Rattle.trace_walk.specs.declared.header.Format.{Format}
use Rattle.trace_walk.specs.declared.header.Format.TheVariants.{One, Two}
use Rattle.trace_walk.specs.Legal.{StepOf}
use Rattle.trace_walk.specs.Noroom.{noroom_line, stopped_line}
use Rattle.trace_walk.specs.Sweep.{older_sweep}
use Rattle.trace_walk.specs.OneReply.{HaveOneFirst, IsSpelt, IsTraced}
use Rattle.trace_walk.specs.Text.{TraceEntry, MayAsk, command_asked, worded_as}
use Rattle.trace_walk.specs.Upgrade.{BecomesAs}
use Rattle.trace_walk.specs.Walk.{MayReply}
use Rattle.trace_walk.proofs.OneReplyLemmas.{older_plain, steps_told, offer_wants, is_merge, asked_small, reply_spelt}
use Rattle.trace_walk.proofs.SplitLemmas.{lines_one, without, ends_after}
use Rattle.trace_walk.proofs.TellLemmas.{first_lines_tell, noroom_is}
use Rattle.trace_walk.specs.declared.merges.Merges.{Merges}
use Rattle.trace_walk.specs.declared.passed.Passed.TheVariants.{AsItStands, Swept}
use Rattle.trace_walk.specs.declared.sweep.Sweep.{Sweep}
use Rattle.trace_walk.specs.Merging.{IsEmpty}
use Rattle.trace_walk.specs.Passing.{BecomesBy, IsRefusedAs}
use Rattle.trace_walk.specs.Sweeping.{older_of}
use Rattle.trace_walk.specs.Walking.{IsForStore, StaysUpgraded}

-- ---- where memory ran out, by the reply

refused_by : (b : Bool) → cond b (Some whole_command) None ≡ Some whole_command → b ≡ true
refused_by true e = refl
refused_by false e = absurd (none_some whole_command e)

stopped_by : (b : Bool) (done : ℕ) → cond b (Some (Some done)) None ≡ Some whole_command → ⊥
stopped_by true done e = none_done done (sym e)
stopped_by false done e = none_some whole_command e

-- the whole command was refused for it
refused_is : (reply : Reply) → room_wanted reply ≡ Some whole_command → reply ≡ Refused refusals.NoRoom
refused_is (Refused fault) e = ap Refused (noroom_is fault (refused_by (is_noroom fault) e))
refused_is (MergeStopped done fault mask) e = absurd (stopped_by (is_noroom fault) done e)
refused_is _ e = absurd (none_some whole_command e)

-- ---- a merge was stopped for it

pub record IsStop (s : State) (command : Command) (reply : Reply) (t : State) (done : ℕ) : Type 0 where
  pub items : List Item
  pub merge : command ≡ commands.Merge items
  pub stops : StopsForRoom s items reply t done

by_merge : (s t : State) (command : Command) (reply : Reply) (done : ℕ) → MergeWantsRoom s command reply t →
    room_wanted reply ≡ Some (Some done) → IsStop s command reply t done
by_merge s t (commands.Merge items) reply done w e =
    record {
      items = items;
      merge = refl;
      stops = subst (StopsForRoom s items reply t)
          (done_same w.0 done (sym (ap room_wanted w.1.reply_is) ∙ e)) w.1;
    }
by_merge s t _ reply done w e = absurd w

by_step : (s t : State) (command : Command) (reply : Reply) (done : ℕ) → Step s command reply t → room_wanted reply ≡ Some (Some done) →
    IsStop s command reply t done
by_step s t command reply done (inl (inl a)) e =
    absurd (none_some (Some done) (sym (outcomes_take_none s command) ∙ sym (ap room_wanted a.reply_is) ∙ e))
by_step s t command reply done (inl (inr w)) e = absurd (none_done done (sym (ap room_wanted w.reply_is) ∙ e))
by_step s t command reply done (inr w) e = by_merge s t command reply done w e

stop_is : (format : Format) (s t : State) (command : Command) (reply : Reply) (done : ℕ) → StepOf format s command reply t →
    room_wanted reply ≡ Some (Some done) → IsStop s command reply t done
stop_is Two s t command reply done x e = by_step s t command reply done x e
stop_is One s t (commands.Sweep caller owner generation) reply done (inl a) e =
    absurd (none_some (Some done) (sym (older_plain s caller owner generation).0 ∙ sym (ap room_wanted a.reply_is) ∙ e))
stop_is One s t (commands.Sweep caller owner generation) reply done (inr w) e =
    absurd (none_done done (sym (ap room_wanted w.reply_is) ∙ e))
stop_is One s t (commands.Publish caller key version value overwrite) reply done x e = by_step s t _ reply done x e
stop_is One s t (commands.Delete caller key version) reply done x e = by_step s t _ reply done x e
stop_is One s t (commands.Retrieve key) reply done x e = by_step s t _ reply done x e
stop_is One s t (commands.NameOf endpoint) reply done x e = by_step s t _ reply done x e
stop_is One s t (commands.Subscribe sub query initial overwrite) reply done x e = by_step s t _ reply done x e
stop_is One s t (commands.Check sub max) reply done x e = by_step s t _ reply done x e
stop_is One s t (commands.Since scope at max) reply done x e = by_step s t _ reply done x e
stop_is One s t (commands.Snapshot scope) reply done x e = by_step s t _ reply done x e
stop_is One s t (commands.Page scope after max) reply done x e = by_step s t _ reply done x e
stop_is One s t (commands.Merge items) reply done x e = by_step s t _ reply done x e

-- an offer is the only command of one line that asks for a Merge
offer_is : (c : ScriptCommand) (items : List Item) → IsCommand c → store_command c ≡ Some (commands.Merge items) →
    (i : Item) × (c ≡ lines.Offer i) × (items ≡ i ∷ [])
offer_is (lines.Offer i) items is e = (i, refl, cc)
offer_is (lines.Store (commands.Merge others)) items is e = absurd is
offer_is c items is e = absurd (cc)

-- ---- the lines for out of memory

abbrev noroom_said : List ℕ
noroom_said = codes "refused noroom\n"

noroom_ends : EndsLine noroom_said
noroom_ends =
    record { front = codes "refused noroom"; parts = refl; none = without 10 (λ (x : ℕ). nat_lt 10 x) refl (codes "refused noroom") refl }

-- a text that begins with a line, whose first line is this one
first_is : (text first rest next left : List ℕ) → EndsLine first → EndsLine next → text ≡ first ++ rest → text ≡ next ++ left → first ≡ next
first_is text first rest next left e f a b = (lines_one first next rest left e f (sym a ∙ b)).0

noroom_text : (said : Wording) (limits : LimitsRecord) → reply_lines said (Refused refusals.NoRoom) limits ≡ noroom_said ++ []
noroom_text said limits = refl

-- the reply is the refusal for lack of memory: its first line says so
noroom_first : (said : Wording) (limits : LimitsRecord) (line first rest : List ℕ) →
    reply_lines said (Refused refusals.NoRoom) limits ≡ first ++ rest → EndsLine first → line ≡ 60 ∷ 32 ∷ first → line ≡ noroom_line
noroom_first said limits line first rest text ends is =
    is ∙ ap (λ (l : List ℕ). 60 ∷ 32 ∷ l) (first_is (reply_lines said (Refused refusals.NoRoom) limits) first rest noroom_said [] ends
    noroom_ends text (noroom_text said limits))

-- so is that of a Merge that was stopped
abbrev stop_said : ℕ → List ℕ
stop_said done = codes "stopped " ++ (decimal done ++ 32 ∷ codes "noroom\n")

stop_ends : (done : ℕ) → done < 2 ^ 64 → EndsLine (stop_said done)
stop_ends done few =
    ends_after (codes "stopped ") (decimal done ++ 32 ∷ codes "noroom\n") (without 10 (λ (x : ℕ). nat_lt 10 x) refl (codes "stopped ") refl)
    (ends_after (decimal done) (32 ∷ codes "noroom\n") (unbroken_decimal done few)
    (record { front = codes " noroom"; parts = refl; none = without 10 (λ (x : ℕ). nat_lt 10 x) refl (codes " noroom") refl }))

stop_text : (done mask : ℕ) (limits : LimitsRecord) →
    reply_lines AsMerge (MergeStopped done refusals.NoRoom mask) limits ≡ stop_said done ++ owed_line limits mask
stop_text done mask limits =
    ap (λ (l : List ℕ). l ++ owed_line limits mask)
    (ap (λ (l : List ℕ). codes "stopped " ++ l) (append_assoc (decimal done) (codes " noroom") (10 ∷ [])))

pub stop_first : (done mask : ℕ) (limits : LimitsRecord) (next left : List ℕ) → done < 2 ^ 64 →
    reply_lines AsMerge (MergeStopped done refusals.NoRoom mask) limits ≡ next ++ left → EndsLine next → next ≡ stop_said done
stop_first done mask limits next left few text ends =
    first_is (reply_lines AsMerge (MergeStopped done refusals.NoRoom mask) limits) next left (stop_said done) (owed_line limits mask) ends
    (stop_ends done few) text (stop_text done mask limits)

-- ---- the line is the first one of the store's own reply

few_stop : (s t : State) (items : List Item) (reply : Reply) (done : ℕ) → StopsForRoom s items reply t done → done < 2 ^ 64
few_stop s t items reply done x = omega (arith, x.few, x.some_left)

module _ (format : Format) (limits : LimitsRecord) (pass : ℕ) (s : State) (command : Command) (line : List ℕ) where
  -- if a Merge was stopped, an offer is answered as if it were refused, and any other Merge by a line of its own
  stopped_line_is : (asked : Asked) (t : State) (reply : Reply) (done : ℕ) (first rest : List ℕ) → command_asked asked ≡ Some command →
      StepOf format s command reply t → IsStop s command reply t done → room_wanted reply ≡ Some (Some done) →
      reply_lines (worded_as asked) reply limits ≡ first ++ rest → EndsLine first → line ≡ 60 ∷ 32 ∷ first → line ≢ noroom_line →
      ((items : List Item) (done : ℕ) → asked ≡ askeds.Merge items → done < length items → line ≢ stopped_line done) →
      MayAsk format pass asked →
      ⊥
  stopped_line_is (askeds.Merge js) t reply done first rest asks step x e text ends is room stops may =
      let same : js ≡ x.items = items_same js x.items (same_Some (commands.Merge js) command asks ∙ x.merge) in
      let said : first ≡ stop_said done =
      stop_first done (owed s (course s (take done x.items)).taken) limits first rest (few_stop s t x.items reply done x.stops)
      (ap (λ (r : Reply). reply_lines AsMerge r limits) (sym x.stops.reply_is) ∙ text) ends in
      stops js done refl (subst (λ (l : List Item). done < length l) (sym same) x.stops.some_left)
      (is ∙ ap (λ (l : List ℕ). 60 ∷ 32 ∷ l) said)
    where
      items_same : (a b : List Item) → commands.Merge a ≡ commands.Merge b → a ≡ b
      items_same a b q = cc
  stopped_line_is (askeds.Line c) t reply done first rest asks step x e text ends is room stops may =
      let o = offer_is c x.items may.0 (asks ∙ ap (λ (k : Command). Some k) x.merge) in
      let merge : command ≡ commands.Merge (o.0 ∷ []) = x.merge ∙ ap (λ (l : List Item). commands.Merge l) o.2 in
      let one : Step s (commands.Merge (o.0 ∷ [])) reply t =
      is_merge format s t (o.0 ∷ []) reply (subst (λ (k : Command). StepOf format s k reply t) merge step) in
      let wants : is_some (room_wanted reply) ≡ true = ap (λ (p : Option (Option ℕ)). is_some p) e in
      let said : reply_lines AsOffer reply limits ≡ first ++ rest =
      subst (λ (d : ScriptCommand). reply_lines (worded_as (askeds.Line d)) reply limits ≡ first ++ rest) o.1 text in
      room (noroom_first AsOffer limits line first rest (sym (offer_wants limits s t o.0 reply one wants).0 ∙ said) ends is)

  pub told : (asked : Asked) (t : State) (reply : Reply) → MayAsk format pass asked → command_asked asked ≡ Some command →
      StepOf format s command reply t → room_wanted reply ≡ None → line ≢ noroom_line →
      ((items : List Item) (done : ℕ) → asked ≡ askeds.Merge items → done < length items → line ≢ stopped_line done) →
      MayReply format limits s asked line →
      (next left : List ℕ) → reply_lines (worded_as asked) reply limits ≡ next ++ left → EndsLine next → line ≡ 60 ∷ 32 ∷ next
  told asked t reply may asks step none room stops m next left text ends = by_room (room_wanted m.reply) refl
    where
      other : StepOf format s command m.reply m.new
      other = subst (λ (k : Command). StepOf format s k m.reply m.new) (same_Some m.command command (sym m.asks ∙ asks)) m.step

      by_room : (o : Option (Option ℕ)) → room_wanted m.reply ≡ o → line ≡ 60 ∷ 32 ∷ next
      by_room None e =
          let same : reply ≡ m.reply = (steps_told format s t m.new command reply m.reply step other (none ∙ sym e)).0 in
          let said : next ≡ m.first = first_is (reply_lines (worded_as asked) reply limits) next left m.first m.rest ends m.ends text
          (ap (λ (r : Reply). reply_lines (worded_as asked) r limits) same ∙ m.text) in
          m.line_is ∙ ap (λ (l : List ℕ). 60 ∷ 32 ∷ l) (sym said)
      by_room (Some None) e =
          absurd (room (noroom_first (worded_as asked) limits line m.first m.rest
          (ap (λ (r : Reply). reply_lines (worded_as asked) r limits) (sym (refused_is m.reply e)) ∙ m.text) m.ends m.line_is))
      by_room (Some (Some done)) e =
          absurd (stopped_line_is asked m.new m.reply done m.first m.rest asks other (stop_is format s m.new command m.reply done other e)
          e m.text m.ends m.line_is room stops may)

-- ---- a Merge that was stopped

merge_step : (format : Format) (s t : State) (items : List Item) (reply : Reply) → Step s (commands.Merge items) reply t →
    StepOf format s (commands.Merge items) reply t
merge_step One s t items reply x = x
merge_step Two s t items reply x = x

pub stop_step : (format : Format) (s t : State) (items : List Item) (reply : Reply) (done : ℕ) → StopsForRoom s items reply t done →
    StepOf format s (commands.Merge items) reply t
stop_step format s t items reply done x = merge_step format s t items reply (inr (done, x))

-- if the line says so, some step of the store is such a stop
pub stop_told : (format : Format) (limits : LimitsRecord) (pass : ℕ) (s : State) (items : List Item) (done : ℕ) (line : List ℕ)
    → IsTraced format s → MayAsk format pass (askeds.Merge items) → done < length items → line ≡ stopped_line done
    → MayReply format limits s (askeds.Merge items) line
    → (course s (take done items)).stop ≡ None
stop_told format limits pass s items done line traced may less is m =
    let few : done < 2 ^ 64 = omega (arith, less, may.0) in
    let command : m.command ≡ commands.Merge items = same_Some m.command (commands.Merge items) (sym m.asks) in
    let step : StepOf format s (commands.Merge items) m.reply m.new =
    subst (λ (k : Command). StepOf format s k m.reply m.new) command m.step in
    let said : m.first ≡ stop_said done = ap (drop 2) (sym m.line_is ∙ is) in
    let none : IsSpelt (MergeStopped done refusals.NoRoom 0) = record { items = λ i h. absurd (Contains-nil i h); few = few } in
    let both : HaveOneFirst (reply_lines AsMerge m.reply limits) (reply_lines AsMerge (MergeStopped done refusals.NoRoom 0) limits) =
    record {
      line = m.first;
      ends = m.ends;
      left = m.rest;
      right = owed_line limits 0;
      a_is = m.text;
      b_is =
          stop_text done 0 limits ∙ ap (λ (l : List ℕ). l ++ owed_line limits 0) (sym said);
    } in
    let wants : room_wanted m.reply ≡ Some (Some done) =
    first_lines_tell limits m.reply (MergeStopped done refusals.NoRoom 0)
    (reply_spelt format s m.new (commands.Merge items) m.reply traced
    (asked_small format pass (askeds.Merge items) (commands.Merge items) may refl) step)
    none both in
    let x = stop_is format s m.new (commands.Merge items) m.reply done step wants in
    subst (λ (l : List Item). (course s (take done l)).stop ≡ None) (items_same x.items items (sym x.merge)) x.stops.not_refused
  where
    items_same : (a b : List Item) → commands.Merge a ≡ commands.Merge b → a ≡ b
    items_same a b q = cc

-- ---- sweeps of format 1

pub merge_steps : (format : Format) (items : List Item) (s t : State) (reply : Reply) → Step s (commands.Merge items) reply t →
    StepOf format s (commands.Merge items) reply t
merge_steps format items s t reply x = merge_step format s t items reply x

pub sweep_step : (format : Format) (s : State) (caller : EndpointRecord) (owner : List ℕ) (generation : ℕ) (reply : Reply)
    → format ≡ One → reply ≡ (older_sweep s caller owner generation).0
    → StepOf format s (commands.Sweep caller owner generation) reply (older_sweep s caller owner generation).1
sweep_step format s caller owner generation reply e is =
    subst (λ (f : Format). StepOf f s (commands.Sweep caller owner generation) reply (older_sweep s caller owner generation).1) (sym e)
    (inl (record { reply_is = is; state_is = refl }))

pub older_is : (format : Format) (command : ScriptCommand) (swept : Sweep) → older_of format command ≡ Some swept →
    (format ≡ One) × (command ≡ lines.Store (commands.Sweep swept.caller swept.owner swept.generation))
older_is One (lines.Store (commands.Sweep caller owner generation)) swept e =
    let is : record { caller = caller; owner = owner; generation = generation } ≡ swept = same_Some _ swept e in
    (refl, ap (λ (w : Sweep). lines.Store (commands.Sweep w.caller w.owner w.generation)) is)
older_is One command swept e = absurd (none_some swept e)
older_is Two command swept e = absurd (none_some swept e)

-- every other command steps as the machine does
pub sweep_line : (c : ScriptCommand) (caller : EndpointRecord) (owner : List ℕ) (generation : ℕ) → older_of One c ≡ None →
    store_command c ≡ Some (commands.Sweep caller owner generation) → ⊥
sweep_line (lines.Store (commands.Sweep k o n)) caller owner generation e asks = none_some _ (sym e)
sweep_line c caller owner generation e asks = absurd (cc)

pub plain_steps : (format : Format) (c : ScriptCommand) (command : Command) → older_of format c ≡ None → store_command c ≡ Some command →
    (s t : State) (reply : Reply) → Step s command reply t → StepOf format s command reply t
plain_steps Two c command e asks s t reply x = x
plain_steps One c (commands.Sweep caller owner generation) e asks s t reply x = absurd (sweep_line c caller owner generation e asks)
plain_steps One c _ e asks s t reply x = x

-- it is the same in format 2
plain_stays : (c : ScriptCommand) (s : State) (e : TraceEntry) → older_of One c ≡ None → BecomesAs s e (askeds.Line c) (e ∷ [])
plain_stays (lines.Store (commands.Sweep caller owner generation)) s e older = absurd (none_some _ (sym older))
plain_stays c s e older = refl

line_stays : (format : Format) (c : ScriptCommand) → older_of format c ≡ None → StaysUpgraded format (askeds.Line c)
line_stays format c older one s e = plain_stays c s e (subst (λ (f : Format). older_of f c ≡ None) one older)

-- what was refused for lack of memory
pub sweep_refused : (format : Format) (c : ScriptCommand) (swept : Sweep) (merges : Merges) → older_of format c ≡ Some swept →
    IsEmpty merges → IsRefusedAs format (askeds.Line c) (Swept merges)
sweep_refused format c swept merges older none one s limits pass =
    subst (λ (k : ScriptCommand). BecomesBy s limits (record { pass = pass; asked = askeds.Line k; reply = Refused refusals.NoRoom })
    (Swept merges)) (sym (older_is format c swept older).1)
    ([], refl, record { text = none.text; counted = none.count })

pub line_refused : (format : Format) (c : ScriptCommand) → older_of format c ≡ None → IsRefusedAs format (askeds.Line c) AsItStands
line_refused format c older one s limits pass =
    line_stays format c older one s (record { pass = pass; asked = askeds.Line c; reply = Refused refusals.NoRoom })

pub merge_refused : (format : Format) (items : List Item) → IsRefusedAs format (askeds.Merge items) AsItStands
merge_refused format items one s limits pass = refl

-- ---- the store itself answers

no_merge : (c : ScriptCommand) (items : List Item) → askeds.Line c ≡ askeds.Merge items → ⊥
no_merge c items e = cc

pub line_for_store : (format : Format) (c : ScriptCommand) (command : Command) (said : Wording) (line : List ℕ)
    → older_of format c ≡ None → store_command c ≡ Some command → said ≡ worded_as (askeds.Line c) → line ≢ noroom_line
    → IsForStore format (askeds.Line c) said command line
line_for_store format c command said line older asks words room =
    record {
      asks = asks;
      words = words;
      steps = plain_steps format c command older asks;
      stays = line_stays format c older;
      room = room;
      stops =
          λ items done e less. absurd (no_merge c items e);
    }

merge_same : (a b : List Item) → askeds.Merge a ≡ askeds.Merge b → a ≡ b
merge_same a b e = cc

pub merge_for_store : (format : Format) (items : List Item) (line here : List ℕ) (count : ℕ)
    → count ≡ length items → here ≡ line → ((done : ℕ) → done < count → count ≤ most_items → here ≢ stopped_line done)
    → length items ≤ most_items
    → line ≢ noroom_line →
    IsForStore format (askeds.Merge items) AsMerge (commands.Merge items) line
merge_for_store format items line here count is same none few room =
    record {
      asks = refl;
      words = refl;
      steps = merge_steps format items;
      stays = λ one s e. refl;
      room = room;
      stops = λ js done e less q. none done (omega (arith, less, is, ap length (merge_same items js e))) (omega (arith, is, few))
          (same ∙ q);
    }
