-- What commands are answered, in the words of a store's content.
use Rattle.std.proofs.Common.{◌≡◌, ℕ, Bool, List, [], ◌∷◌, map, length, Option, Some, None, Err, ap, ap₂, sym, ◌∙◌, subst, inl, inr, ◌⊎◌}
use Rattle.std.specs.Option.{option_map_or}
use Rattle.ds_names.specs.declared.key.Key.{Key}
use Rattle.ds_names.specs.declared.kind.Kind.{Kind}
use Rattle.ds_names.specs.Endpoint.{EndpointRecord}
use Rattle.ds_entry.specs.Change.{ChangeRecord, kind_of, IsInPlace, BodyCopyTakesMemory, IsOfKind, IsChange}
use Rattle.ds_entry.specs.declared.body.Body.{Body}
use Rattle.ds_entry.specs.declared.body.Body.TheVariants.{Put}
use Rattle.ds_entry.specs.declared.body.Value.{Value}
use Rattle.ds_entry.specs.declared.body.Value.TheVariants as values
use Rattle.ds_entry.specs.declared.floor.Floor.{Floor}
use Rattle.ds_entry.specs.declared.item.Item.{Item}
use Rattle.ds_entry.specs.declared.item.Item.TheVariants.{Change as Changed, Floor as Floored}
use Rattle.ds_watch.specs.Mask.{mask, padded}
use Rattle.ds_watch.proofs.PaddedLemmas.{padded_number}
use Rattle.ds_held.specs.Kept.{puts_void_by}
use Rattle.ds_machine.specs.Parts.{changes_in, held_at}
use Rattle.ds_machine.specs.State.{State, held, takes_effect, owed}
use Rattle.ds_machine.specs.Subscription.{is_owed}
use Rattle.ds_machine.specs.Asking.{AskedChange, change_asked, asked_in, name_of, cause_against, sweep_cause}
use Rattle.ds_machine.specs.Machine.{Answers, IsOutcome, outcome, asking, answer_for, sweeping, sweep_answer}
use Rattle.ds_machine.specs.declared.refusal.Cause.{Cause}
use Rattle.ds_machine.specs.declared.refusal.Cause.TheVariants as causes
use Rattle.ds_machine.specs.declared.refusal.Refusal.{Refusal}
use Rattle.ds_machine.specs.declared.refusal.Refusal.TheVariants as refusals
use Rattle.ds_machine.specs.declared.command.Command.{Command}
use Rattle.ds_machine.specs.declared.reply.Reply.{Reply}
use Rattle.ds_machine.specs.declared.reply.Reply.TheVariants as replies
use Rattle.ds_machine.proofs.PartLemmas.{key_found}
use Rattle.ds_machine.specs.Says.{IsAskedReply}
use Rattle.ds_store.specs.Last.{IsKindInPlace, IsLast, MayLackAsked, MayLackRoom}
use Rattle.ds_store.specs.Passed.{passed_as}
use Rattle.ds_store.proofs.LastLemmas.{last}
use Rattle.ds_content.specs.Content.{ContentRecord}
use Rattle.ds_content.specs.Stands.{ContentStands}
use Rattle.ds_store.proofs.ReadingLemmas.{refused_last}

-- the machine's own answer reports lack of memory only where it may
pub last_of : (s : State) (command : Command) (reply : Reply) (t : State) → IsOutcome (outcome s command) reply t → IsLast s command reply
last_of s command reply t is = subst (λ (r : Reply). IsLast s command r) (sym is.reply_is) (last s command)

-- ---- lack of memory isn't a cause
pub answered_no_room : (cause : Cause) → answer_for cause ≡ replies.Refused refusals.NoRoom → cause ≡ causes.Refused refusals.NoRoom
answered_no_room causes.Known e = absurd (cc)
answered_no_room (causes.Refused r) e = cc

pub passed_no_room : (cause : Cause) → passed_as cause ≡ Err refusals.NoRoom → cause ≡ causes.Refused refusals.NoRoom
passed_no_room causes.Known e = absurd (cc)
passed_no_room (causes.Refused r) e = by_refusal r e
  where
    by_refusal : (r : Refusal) → passed_as (causes.Refused r) ≡ Err refusals.NoRoom → causes.Refused r ≡ causes.Refused refusals.NoRoom
    by_refusal refusals.Stale e = absurd (cc)
    by_refusal _ e = cc

-- ---- the number of a mask
pub owed_number : (s : State) (i : Item) (flags : List Bool) (n : ℕ) → n ≡ mask flags →
    flags ≡ padded (map (is_owed (i ∷ [])) s.subscriptions) → n ≡ owed s (i ∷ [])
owed_number s i flags n e f = e ∙ ap mask f ∙ padded_number (map (is_owed (i ∷ [])) s.subscriptions)

-- ---- what a caller asks for
pub asked_refused : (s : State) (a : AskedChange) (body : Body) (cause : Cause) → cause_against s a body ≡ Some cause →
    IsOutcome (asking s a body) (answer_for cause) s
asked_refused s a body cause e =
    let result : Option Cause → Reply × State = λ o.
    option_map_or (λ x. (answer_for x, s)) o
    (replies.Changed (owed s (Changed (asked_in s a body) ∷ [])), takes_effect s (Changed (asked_in s a body) ∷ [])) in
    record { reply_is = sym (ap (λ o. (result o).0) e); state_is = sym (ap (λ o. (result o).1) e) }

pub asked_taken : (v : ContentRecord) (s : State) (a : AskedChange) (body : Body) (c : ChangeRecord) (bits : ℕ) → ContentStands v s →
    cause_against s a body ≡ None →
    c ≡ change_asked (name_of v.held a.caller) a body → bits ≡ owed s (Changed c ∷ [])
    → Answers s (asking s a body) (replies.Changed bits) (takes_effect s (Changed c ∷ []))
asked_taken v s a body c bits stands e made owes =
    let result : Option Cause → Reply × State = λ o.
    option_map_or (λ x. (answer_for x, s)) o
    (replies.Changed (owed s (Changed (asked_in s a body) ∷ [])), takes_effect s (Changed (asked_in s a body) ∷ [])) in
    let change : c ≡ asked_in s a body = made ∙ ap (λ (hs : List Item). change_asked (name_of hs a.caller) a body) stands.held in
    inl (record {
      reply_is = ap (λ n. replies.Changed n) (owes ∙ ap (λ (x : ChangeRecord). owed s (Changed x ∷ [])) change) ∙
          sym (ap (λ o. (result o).0) e);
      state_is = ap (λ (x : ChangeRecord). takes_effect s (Changed x ∷ [])) change ∙ sym (ap (λ o. (result o).1) e);
    })

-- memory may run out for a change that would take effect, if its key isn't held or its copy takes memory
pub asked_lacks : (v : ContentRecord) (s : State) (a : AskedChange) (body : Body) → ContentStands v s → cause_against s a body ≡ None →
    (held_at v.held a.key ≡ None) ⊎ BodyCopyTakesMemory body → MayLackAsked s a body
asked_lacks v s a body stands e takes =
    (e, elim takes [ inl none ↦ inl (sym (ap (λ (hs : List Item). held_at hs a.key) stands.held) ∙ none) | inr copies ↦ inr copies ])

-- ---- a sweep
pub sweep_refused : (s : State) (caller : EndpointRecord) (f : Floor) (cause : Cause) → sweep_cause s caller f ≡ Some cause →
    IsOutcome (sweeping s caller f) (sweep_answer cause) s
sweep_refused s caller f cause e =
    let result : Option Cause → Reply × State = λ o.
    option_map_or (λ x. (sweep_answer x, s)) o
    (replies.Swept (length (puts_void_by f (changes_in (held s)))) (owed s (Floored f ∷ [])), takes_effect s (Floored f ∷ [])) in
    record { reply_is = sym (ap (λ o. (result o).0) e); state_is = sym (ap (λ o. (result o).1) e) }

pub sweep_taken : (v : ContentRecord) (s : State) (caller : EndpointRecord) (f : Floor) (count bits : ℕ) → ContentStands v s →
    sweep_cause s caller f ≡ None →
    count ≡ length (puts_void_by f (changes_in v.held)) → bits ≡ owed s (Floored f ∷ [])
    → IsOutcome (sweeping s caller f) (replies.Swept count bits) (takes_effect s (Floored f ∷ []))
sweep_taken v s caller f count bits stands e counted owes =
    let result : Option Cause → Reply × State = λ o.
    option_map_or (λ x. (sweep_answer x, s)) o
    (replies.Swept (length (puts_void_by f (changes_in (held s)))) (owed s (Floored f ∷ [])), takes_effect s (Floored f ∷ [])) in
    record {
      reply_is = ap₂ (λ m n. replies.Swept m n) (counted ∙ ap (λ (hs : List Item). length (puts_void_by f (changes_in hs))) stands.held)
          owes ∙ sym (ap (λ o. (result o).0) e);
      state_is = sym (ap (λ o. (result o).1) e);
    }

-- ---- a value
pub kind_in_place : (kind : Kind) (value : Value) → kind_of value ≡ kind → IsKindInPlace kind → IsInPlace value
kind_in_place kind (values.Label e) k p = tt
kind_in_place kind (values.U32 n) k p = tt
kind_in_place kind (values.Str t) k p = absurd (subst IsKindInPlace (sym k) p)
kind_in_place kind (values.Mem b) k p = absurd (subst IsKindInPlace (sym k) p)

-- the value that is held for a key is of the key's kind
pub found_kind : (hs : List Item) (key : Key) (c : ChangeRecord) (value : Value) → held_at hs key ≡ Some c → IsChange c →
    c.body ≡ Put value → kind_of value ≡ key.kind
found_kind hs key c value e change put =
    let of : IsOfKind c.key.kind (Put value) = subst (λ (b : Body). IsOfKind c.key.kind b) put change.kind in
    subst (λ (k : Key). kind_of value ≡ k.kind) (sym (key_found hs key c e).1) of

-- ---- where lack of memory is reported
-- for a Publish or a Delete
pub asked_last : (s : State) (command : Command) (reply : Reply) → IsAskedReply reply →
    (reply ≡ replies.Refused refusals.NoRoom → MayLackRoom s command) → IsLast s command reply
asked_last s command (replies.Changed owed) fit may = tt
asked_last s command replies.Known fit may = tt
asked_last s command (replies.Refused r) fit may = refused_last s command r (λ e. may (ap (λ (x : Refusal). replies.Refused x) e))
asked_last s command (replies.Swept count owed) fit may = absurd fit
asked_last s command (replies.Found value) fit may = absurd fit
asked_last s command (replies.Named name) fit may = absurd fit
asked_last s command (replies.Subscribed stamp owed) fit may = absurd fit
asked_last s command (replies.Checked items before after) fit may = absurd fit
asked_last s command (replies.Journaled since) fit may = absurd fit
asked_last s command (replies.Snapped snapshot) fit may = absurd fit
asked_last s command (replies.Paged page) fit may = absurd fit
asked_last s command (replies.Merged done taken stale owed) fit may = absurd fit
asked_last s command (replies.MergeStopped done fault owed) fit may = absurd fit
