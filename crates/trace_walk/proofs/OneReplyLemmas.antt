-- A reply has one text: replies of steps to different states differ in their first line.
use Rattle.std.proofs.Common.{◌≡◌, ℕ, ◌+◌, ◌≤◌, Bool, true, false, cond, nat_le, List, [], ◌∷◌, length, Option, None, Some, is_some}
use Rattle.std.proofs.Common.{Contains, inl, inr, refl, sym, ap, subst, ◌∙◌, arith}
use Rattle.std.proofs.lemmas.Bool.{false≢true}
use Rattle.std.proofs.lemmas.Option.{same_Some}
use Rattle.ds_names.specs.Endpoint.{EndpointRecord, is_rs}
use Rattle.ds_entry.specs.declared.item.Item.{Item}
use Rattle.ds_entry.proofs.Members.{Contains-nil}
use Rattle.ds_held.specs.Limits.{LimitsRecord}
use Rattle.ds_names.specs.Limits.{last_place, most_items}
use Rattle.ds_machine.specs.Machine.{Step, Answers}
use Rattle.ds_machine.specs.Owed.{owed_by}
use Rattle.ds_machine.specs.State.{State, held, next_position, takes_effect, owed}
use Rattle.ds_machine.specs.declared.command.Command.{Command}
use Rattle.ds_machine.specs.declared.command.Command.TheVariants as commands
use Rattle.ds_machine.specs.declared.command.Command.TheVariants.{Publish, Delete, Sweep, Retrieve, NameOf, Subscribe, Check, Since}
use Rattle.ds_machine.specs.declared.command.Command.TheVariants.{Snapshot, Page, Merge}
use Rattle.ds_machine.specs.declared.refusal.Refusal.{Refusal}
use Rattle.ds_machine.specs.declared.refusal.Refusal.TheVariants as refusals
use Rattle.ds_machine.specs.declared.reply.Reply.{Reply}
use Rattle.ds_machine.specs.declared.reply.Reply.TheVariants.{Changed, Known, Swept, Found, Named, Subscribed, Checked, Journaled, Snapped}
use Rattle.ds_machine.specs.declared.reply.Reply.TheVariants.{Paged, Merged, MergeStopped, Refused}
use Rattle.script_commands.specs.Command.{IsCommand, store_command}
use Rattle.script_answers.specs.Reply.{reply_lines}
use Rattle.ds_machine.specs.Given.{shown_by, done_by, IsSmall}
use Rattle.script_commands.specs.declared.command.ScriptCommand.{ScriptCommand}
use Rattle.script_commands.specs.declared.command.ScriptCommand.TheVariants as lines
use Rattle.script_answers.specs.declared.wording.Wording.TheVariants.{AsOffer, AsMerge}
use Rattle.ds_machine.specs.OneStep.{is_noroom, room_wanted}
use Rattle.ds_machine.proofs.GivenLemmas.{given_was_accepted, few_are_done}
use Rattle.ds_machine.proofs.OneStepLemmas.{none_some, steps_one, one_item}
use Rattle.trace_walk.specs.declared.asked.Asked.{Asked}
use Rattle.trace_walk.specs.declared.asked.Asked.TheVariants as askeds
use Rattle.trace_walk.specs.declared.header.Format.{Format}
use Rattle.trace_walk.specs.declared.header.Format.TheVariants.{One, Two}
use Rattle.trace_walk.specs.Legal.{StepOf}
use Rattle.trace_walk.specs.OneReply.{HaveOneFirst, IsSpelt, IsTraced, ReplyIsOne}
use Rattle.trace_walk.specs.Sweep.{older_sweep, tombstones}
use Rattle.trace_walk.specs.Text.{MayAsk, command_asked}
use Rattle.trace_walk.proofs.TellLemmas.{first_lines_tell, offer_lines_tell}

-- ---- a sweep of format 1

-- it isn't out of memory, shows nothing, and isn't a merge that was stopped
abbrev pub IsPlain : Reply → Type 0
IsPlain reply = (room_wanted reply ≡ None) × (shown_by reply ≡ []) × (done_by reply ≡ 0)

pub older_plain : (s : State) (caller : EndpointRecord) (owner : List ℕ) (generation : ℕ) →
    IsPlain (older_sweep s caller owner generation).0
older_plain s caller owner generation = by_tests (is_rs caller)
    (nat_le (next_position s + length (tombstones (held s) owner generation)) last_place)
  where
    by_tests : (a b : Bool)
        → IsPlain
        (cond {A = Reply × State} a
        (cond b (
          Swept (length (tombstones (held s) owner generation)) (owed s (tombstones (held s) owner generation)),
          takes_effect s (tombstones (held s) owner generation),
        )
        (Refused refusals.Worn, s))
        (Refused refusals.NotAllowed, s)).0
    by_tests true true = (refl, refl, refl)
    by_tests true false = (refl, refl, refl)
    by_tests false b = (refl, refl, refl)

answers_one : (s t u : State) (out : Reply × State) (reply other : Reply) → room_wanted out.0 ≡ None → Answers s out reply t →
    Answers s out other u → room_wanted reply ≡ room_wanted other → (reply ≡ other) × (t ≡ u)
answers_one s t u out reply other none (inl a) (inl b) e = (a.reply_is ∙ sym b.reply_is, a.state_is ∙ sym b.state_is)
answers_one s t u out reply other none (inl a) (inr w) e =
    absurd (none_some None (sym (ap room_wanted a.reply_is ∙ none) ∙ e ∙ ap room_wanted w.reply_is))
answers_one s t u out reply other none (inr v) (inl b) e =
    absurd (none_some None (sym (ap room_wanted b.reply_is ∙ none) ∙ sym e ∙ ap room_wanted v.reply_is))
answers_one s t u out reply other none (inr v) (inr w) e = (v.reply_is ∙ sym w.reply_is, v.state_is ∙ sym w.state_is)

-- ---- the steps of a trace

pub steps_told : (format : Format) (s t u : State) (command : Command) (reply other : Reply) → StepOf format s command reply t →
    StepOf format s command other u → room_wanted reply ≡ room_wanted other → (reply ≡ other) × (t ≡ u)
steps_told Two s t u command reply other x y e = steps_one s t u command reply other x y e
steps_told One s t u (Sweep caller owner generation) reply other x y e =
    answers_one s t u (older_sweep s caller owner generation) reply other (older_plain s caller owner generation).0 x y e
steps_told One s t u (Publish caller key version value overwrite) reply other x y e =
    steps_one s t u (Publish caller key version value overwrite) reply other x y e
steps_told One s t u (Delete caller key version) reply other x y e = steps_one s t u (Delete caller key version) reply other x y e
steps_told One s t u (Retrieve key) reply other x y e = steps_one s t u (Retrieve key) reply other x y e
steps_told One s t u (NameOf endpoint) reply other x y e = steps_one s t u (NameOf endpoint) reply other x y e
steps_told One s t u (Subscribe sub query initial overwrite) reply other x y e =
    steps_one s t u (Subscribe sub query initial overwrite) reply other x y e
steps_told One s t u (Check sub max) reply other x y e = steps_one s t u (Check sub max) reply other x y e
steps_told One s t u (Since scope at max) reply other x y e = steps_one s t u (Since scope at max) reply other x y e
steps_told One s t u (Snapshot scope) reply other x y e = steps_one s t u (Snapshot scope) reply other x y e
steps_told One s t u (Page scope after max) reply other x y e = steps_one s t u (Page scope after max) reply other x y e
steps_told One s t u (Merge items) reply other x y e = steps_one s t u (Merge items) reply other x y e

-- ---- replies are spelt of items

shown_is_given : (reply : Reply) → shown_by reply ≡ shown_by reply
shown_is_given (Changed owed) = refl
shown_is_given Known = refl
shown_is_given (Swept count owed) = refl
shown_is_given (Found value) = refl
shown_is_given (Named name) = refl
shown_is_given (Subscribed stamp owed) = refl
shown_is_given (Checked items before after) = refl
shown_is_given (Journaled since) = refl
shown_is_given (Snapped snapshot) = refl
shown_is_given (Paged page) = refl
shown_is_given (Merged done taken stale owed) = refl
shown_is_given (MergeStopped done fault owed) = refl
shown_is_given (Refused fault) = refl

step_spelt : (format : Format) (s t : State) (command : Command) (reply : Reply) → IsTraced format s → IsSmall command →
    Step s command reply t → IsSpelt reply
step_spelt format s t command reply traced small step =
    let few : done_by reply ≤ most_items = few_are_done s t command reply traced.reached small step in
    record {
      items = λ i h. traced.items i (given_was_accepted s t command reply traced.reached step i
          (subst (λ (l : List Item). Contains l i) (shown_is_given reply) h));
      few = omega (arith, few);
    }

plain_spelt : (reply : Reply) → IsPlain reply → IsSpelt reply
plain_spelt reply plain =
    record {
      items = λ i h. absurd (Contains-nil i (subst (λ (l : List Item). Contains l i) plain.1 h));
      few = omega (arith, plain.2);
    }

older_spelt : (s t : State) (caller : EndpointRecord) (owner : List ℕ) (generation : ℕ) (reply : Reply) →
    Answers s (older_sweep s caller owner generation) reply t → IsSpelt reply
older_spelt s t caller owner generation reply (inl a) =
    subst IsSpelt (sym a.reply_is) (plain_spelt (older_sweep s caller owner generation).0 (older_plain s caller owner generation))
older_spelt s t caller owner generation reply (inr w) =
    subst IsSpelt (sym w.reply_is) (record { items = λ i h. absurd (Contains-nil i h); few = omega arith })

pub reply_spelt : (format : Format) (s t : State) (command : Command) (reply : Reply) → IsTraced format s → IsSmall command →
    StepOf format s command reply t → IsSpelt reply
reply_spelt Two s t command reply traced small x = step_spelt Two s t command reply traced small x
reply_spelt One s t (Sweep caller owner generation) reply traced small x = older_spelt s t caller owner generation reply x
reply_spelt One s t (Publish caller key version value overwrite) reply traced small x =
    step_spelt One s t (Publish caller key version value overwrite) reply traced small x
reply_spelt One s t (Delete caller key version) reply traced small x = step_spelt One s t (Delete caller key version) reply traced small x
reply_spelt One s t (Retrieve key) reply traced small x = step_spelt One s t (Retrieve key) reply traced small x
reply_spelt One s t (NameOf endpoint) reply traced small x = step_spelt One s t (NameOf endpoint) reply traced small x
reply_spelt One s t (Subscribe sub query initial overwrite) reply traced small x =
    step_spelt One s t (Subscribe sub query initial overwrite) reply traced small x
reply_spelt One s t (Check sub max) reply traced small x = step_spelt One s t (Check sub max) reply traced small x
reply_spelt One s t (Since scope at max) reply traced small x = step_spelt One s t (Since scope at max) reply traced small x
reply_spelt One s t (Snapshot scope) reply traced small x = step_spelt One s t (Snapshot scope) reply traced small x
reply_spelt One s t (Page scope after max) reply traced small x = step_spelt One s t (Page scope after max) reply traced small x
reply_spelt One s t (Merge items) reply traced small x = step_spelt One s t (Merge items) reply traced small x

-- ---- commands

line_small : (c : ScriptCommand) (command : Command) → IsCommand c → store_command c ≡ Some command → IsSmall command
line_small (lines.Offer i) command is e = subst IsSmall (same_Some (commands.Merge (i ∷ [])) command e) (omega arith)
line_small (lines.Store (Merge items)) command is e = absurd is
line_small (lines.Store asked) command is e = subst IsSmall (same_Some asked command e) tt
line_small _ command is e = absurd (none_some command e)

pub asked_small : (format : Format) (pass : ℕ) (asked : Asked) (command : Command) → MayAsk format pass asked →
    command_asked asked ≡ Some command → IsSmall command
asked_small format pass (askeds.Line c) command may e = line_small c command may.0 e
asked_small format pass (askeds.Merge items) command may e = subst IsSmall (same_Some (commands.Merge items) command e) may.0

-- ---- one reply

module _ (format : Format) (limits : LimitsRecord) (command : Command) (s t u : State) (reply other : Reply) (traced : IsTraced format s)
    (small : IsSmall command) (x : StepOf format s command reply t) (y : StepOf format s command other u) where
  merge_one : HaveOneFirst (reply_lines AsMerge reply limits) (reply_lines AsMerge other limits) →
      (reply_lines AsMerge reply limits ≡ reply_lines AsMerge other limits) × (t ≡ u)
  merge_one h =
      let one = steps_told format s t u command reply other x y
      (first_lines_tell limits reply other (reply_spelt format s t command reply traced small x)
      (reply_spelt format s u command other traced small y) h) in
      (ap (λ (r : Reply). reply_lines AsMerge r limits) one.0, one.1)

-- if memory runs out for an offer, however its reply says so, its text is one, and nothing changed
pub offer_wants : (limits : LimitsRecord) (s t : State) (i : Item) (reply : Reply)
    → Step s (Merge (i ∷ [])) reply t → is_some (room_wanted reply) ≡ true
    → (reply_lines AsOffer reply limits ≡ reply_lines AsOffer (Refused refusals.NoRoom) limits) × (t ≡ s)
offer_wants limits s t i reply step e = let one = one_item s t i reply step e in (by_reply reply e one.1, one.0)
  where
    noroom_is : (fault : Refusal) → is_noroom fault ≡ true → fault ≡ refusals.NoRoom
    noroom_is refusals.NoRoom q = refl
    noroom_is _ q = absurd (false≢true q)

    some_test : (b : Bool) (p : Option ℕ) → is_some (cond b (Some p) None) ≡ true → b ≡ true
    some_test true p q = refl
    some_test false p q = absurd (false≢true q)

    by_reply : (r : Reply) → is_some (room_wanted r) ≡ true → owed_by r ≡ 0 →
        reply_lines AsOffer r limits ≡ reply_lines AsOffer (Refused refusals.NoRoom) limits
    by_reply (Refused fault) q z = let whole : Option ℕ = None in
        ap (λ (f : Refusal). reply_lines AsOffer (Refused f) limits) (noroom_is fault (some_test (is_noroom fault) whole q))
    by_reply (MergeStopped done fault mask) q z =
        ap (λ (f : Refusal). reply_lines AsOffer (MergeStopped done f mask) limits)
        (noroom_is fault (some_test (is_noroom fault) (Some done) q)) ∙
        ap (λ (n : ℕ). reply_lines AsOffer (MergeStopped done refusals.NoRoom n) limits) z
    by_reply _ q z = absurd (false≢true q)

pub none_of : (o : Option (Option ℕ)) → is_some o ≡ false → o ≡ None
none_of None e = refl
none_of (Some p) e = absurd (false≢true (sym e))

offer_one : (format : Format) (limits : LimitsRecord) (s t u : State) (i : Item) (reply other : Reply) → IsTraced format s →
    Step s (Merge (i ∷ [])) reply t → Step s (Merge (i ∷ [])) other u →
    HaveOneFirst (reply_lines AsOffer reply limits) (reply_lines AsOffer other limits) →
    (reply_lines AsOffer reply limits ≡ reply_lines AsOffer other limits) × (t ≡ u)
offer_one format limits s t u i reply other traced x y h = by_test (is_some (room_wanted reply)) refl
  where
    small : IsSmall (Merge (i ∷ []))
    small = omega arith

    told : is_some (room_wanted reply) ≡ is_some (room_wanted other)
    told = offer_lines_tell limits reply other (step_spelt format s t (Merge (i ∷ [])) reply traced small x)
        (step_spelt format s u (Merge (i ∷ [])) other traced small y) h

    by_test : (b : Bool) → is_some (room_wanted reply) ≡ b → (reply_lines AsOffer reply limits ≡ reply_lines AsOffer other limits) × (t ≡ u)
    by_test true e =
        let a = offer_wants limits s t i reply x e in
        let b = offer_wants limits s u i other y (sym told ∙ e) in
        (a.0 ∙ sym b.0, a.1 ∙ sym b.1)
    by_test false e =
        let one = steps_one s t u (Merge (i ∷ [])) reply other x y
        (none_of (room_wanted reply) e ∙ sym (none_of (room_wanted other) (sym told ∙ e))) in
        (ap (λ (r : Reply). reply_lines AsOffer r limits) one.0, one.1)

pub is_merge : (format : Format) (s t : State) (items : List Item) (reply : Reply) → StepOf format s (Merge items) reply t →
    Step s (Merge items) reply t
is_merge One s t items reply x = x
is_merge Two s t items reply x = x

pub reply_is_one : ReplyIsOne
reply_is_one format limits pass (askeds.Merge items) command s t u reply other traced may e x y h =
    merge_one format limits command s t u reply other traced (asked_small format pass (askeds.Merge items) command may e) x y h
reply_is_one format limits pass (askeds.Line (lines.Offer i)) command s t u reply other traced may e x y h =
    let same : command ≡ Merge (i ∷ []) = sym (same_Some (Merge (i ∷ [])) command e) in
    offer_one format limits s t u i reply other traced
    (is_merge format s t (i ∷ []) reply (subst (λ (c : Command). StepOf format s c reply t) same x))
    (is_merge format s u (i ∷ []) other (subst (λ (c : Command). StepOf format s c other u) same y)) h
reply_is_one format limits pass (askeds.Line c) command s t u reply other traced may e x y h =
    merge_one format limits command s t u reply other traced (line_small c command may.0 e) x y h
