-- What Asks bring in.
use Rattle.std.proofs.Common.{◌≡◌, ◌==◌, ℕ, ◌<◌, nat_le, Bool, true, false, not, ◌&&◌, cond, List, [], ◌∷◌, ◌++◌, map, Option, Some, None}
use Rattle.std.proofs.Common.{refl, ap, sym, ◌∙◌, subst, inl, inr, arith, Contains, zero, suc}
use Rattle.std.specs.List.{find}
use Rattle.std.specs.Option.{option_map, option_map_or, unwrap_or}
use Rattle.std.specs.Cmp.Lexicographic.{pointwise}
use Rattle.std.proofs.lemmas.Bool.Decides.{eqb_tells, nat_tests}
use Rattle.std.proofs.lemmas.List.Elements.{Contains-append_left, Contains-append_cases}
use Rattle.ds_names.specs.Name.{IsName, is_name_byte, is_same_name, rs_name}
use Rattle.ds_names.specs.Kind.{kind_place, is_label}
use Rattle.ds_names.specs.declared.kind.Kind.{Kind}
use Rattle.ds_names.specs.declared.kind.Kind.TheVariants as kinds
use Rattle.ds_names.specs.declared.version.Version.{Version}
use Rattle.ds_entry.specs.Change.{ChangeRecord, kind_of, IsOfKind, IsChange, IsLabelChange, IsLabelBody, IsBelowSweeps, KeepsRule}
use Rattle.ds_entry.specs.Change.{is_of_kind, is_label_body}
use Rattle.ds_entry.specs.Floor.{floor_of, IsFloor}
use Rattle.ds_entry.specs.declared.floor.Floor.{Floor}
use Rattle.ds_entry.specs.Item.{IsItem}
use Rattle.ds_entry.specs.declared.body.Value.TheVariants as values
use Rattle.ds_entry.specs.declared.body.Body.{Body}
use Rattle.ds_entry.specs.declared.body.Body.TheVariants.{Put, Gone}
use Rattle.ds_entry.specs.declared.item.Item.{Item}
use Rattle.ds_entry.specs.declared.item.Item.TheVariants.{Change as Changed, Floor as Floored}
use Rattle.ds_entry.proofs.Members.{Contains-nil, Contains-head, Contains-tail, Contains-single, Contains-map, Contains-from_take}
use Rattle.ds_join.specs.Label.{names_endpoint}
use Rattle.ds_replica.specs.Sent.{Sent}
use Rattle.ds_machine.specs.Parts.{changes_in, floor_at}
use Rattle.ds_machine.specs.State.{State, held, takes_effect, owed}
use Rattle.ds_machine.specs.Order.{by_command, by_version, by_room}
use Rattle.ds_machine.specs.Standing.{standing_of, on_floor}
use Rattle.ds_machine.specs.Asking.{AskedChange, published, deleted, name_of, is_label_change, is_callers_version, against_asked, asked_in}
use Rattle.ds_machine.specs.Asking.{cause_against}
use Rattle.ds_machine.specs.Machine.{answer_for, Step}
use Rattle.ds_machine.specs.Effect.{known_after, learnt_by, raised_by}
use Rattle.ds_machine.specs.declared.refusal.Cause.{Cause}
use Rattle.ds_machine.specs.declared.refusal.Cause.TheVariants as causes
use Rattle.ds_machine.specs.declared.refusal.Refusal.{Refusal}
use Rattle.ds_machine.specs.declared.refusal.Refusal.TheVariants as refusals
use Rattle.ds_machine.specs.declared.command.Command.{Command}
use Rattle.ds_machine.specs.declared.command.Command.TheVariants.{Publish, Delete, Sweep, Merge}
use Rattle.ds_machine.specs.declared.reply.Reply.{Reply}
use Rattle.ds_machine.specs.declared.reply.Reply.TheVariants.{Changed as Accepted, Known, Swept, Merged, MergeStopped, Refused}
use Rattle.ds_machine.proofs.PartLemmas.{found, missing, passed, changes_in-from}
use Rattle.ds_replica.specs.declared.event.Side.{Side}
use Rattle.ds_replica.specs.declared.event.Side.TheVariants.{A, B}
use Rattle.ds_replica.specs.declared.event.Holder.{Holder}
use Rattle.ds_replica.specs.declared.event.Holder.TheVariants.{Store, Map}
use Rattle.ds_replica.specs.declared.event.Event.{Event}
use Rattle.ds_replica.specs.declared.event.Event.TheVariants.{Ask, NewMap, Deliver, ClearMap, RestartStore}
use Rattle.ds_replica.specs.declared.outcome.Outcome.{Outcome}
use Rattle.ds_replica.specs.declared.outcome.Outcome.TheVariants.{MapMade, Merged as AllMerged, Stopped, Cleared, Restarted}
use Rattle.ds_replica.specs.declared.outcome.Outcome.TheVariants.{Refused as Refusing}
use Rattle.ds_replica.specs.World.{World}
use Rattle.ds_replica.specs.Happens.{items_given, ask_outcome, Asks, Happens}
use Rattle.ds_replica.specs.Known.{StoreAccount, Account, store_of, with_account, with_reply, delivered, sent_first, extended}
use Rattle.ds_replica.specs.Fits.{Fits}
use Rattle.ds_replica.specs.CaughtUp.{AreItems}
use Rattle.ds_replica.specs.Bringing.{AreParts, IsProper, IsProperEvent, EventsBringItems}
use Rattle.ds_replica.proofs.FitLemmas.{store_fits, own_fits}
use Rattle.ds_replica.proofs.GivenLemmas.{given_reply}
use Rattle.ds_replica.proofs.EventLemmas.{event_fits}
use Rattle.ds_names.specs.Limits.{last_seq}
use Rattle.ds_names.specs.Endpoint.{is_rs}
use Rattle.std.proofs.lemmas.Bool.{not-false}
use Rattle.ds_machine.proofs.CauseLemmas.{left_of}

-- ---- tests

right_true : (a b : Bool) → a && b ≡ true → b ≡ true
right_true true b e = e
right_true false b e = absurd (let n : false ≡ true = e in cc)

-- what a label's test says, where it is a label's, and where it isn't
where_label : (b : Bool) → true && not b ≡ false → b ≡ true
where_label b e = not-false b e

equal_numbers : (m n : ℕ) → (m == n) ≡ true → m ≡ n
equal_numbers m n e = elim (eqb_tells m n) [ inl y ↦ y.1 | inr d ↦ absurd (let q : true ≡ false = sym e ∙ d.0 in cc) ]

not_equal : (m n : ℕ) → not (m == n) ≡ true → m ≡ n → ⊥
not_equal m n e same = elim (eqb_tells m n) [ inl y ↦ (let q : false ≡ true = sym (ap not y.0) ∙ e in cc) | inr d ↦ d.1 same ]

below_last : (m : ℕ) → not (nat_le last_seq m) ≡ true → m < last_seq
below_last m e = by_test (nat_le last_seq m) refl e
  where
    by_test : (b : Bool) → nat_le last_seq m ≡ b → not b ≡ true → m < last_seq
    by_test true q f = absurd (let n : false ≡ true = f in cc)
    by_test false q f = grind (arith, nat_tests)

kind_is : (k l : Kind) → (kind_place k == kind_place l) ≡ true → k ≡ l
kind_is kinds.Label kinds.Label e = refl
kind_is kinds.U32 kinds.U32 e = refl
kind_is kinds.Str kinds.Str e = refl
kind_is kinds.Mem kinds.Mem e = refl
kind_is kinds.Label _ e = absurd (let n : false ≡ true = e in cc)
kind_is kinds.U32 _ e = absurd (let n : false ≡ true = e in cc)
kind_is kinds.Str _ e = absurd (let n : false ≡ true = e in cc)
kind_is kinds.Mem _ e = absurd (let n : false ≡ true = e in cc)

pub text_is : (xs : List ℕ) → pointwise ◌==◌ xs xs ≡ true
text_is [] = refl
text_is (x ∷ xs) = both (x == x) (pointwise ◌==◌ xs xs) (elim (eqb_tells x x) [ inl y ↦ y.0 | inr d ↦ absurd (d.1 refl) ]) (text_is xs)
  where
    both : (a b : Bool) → a ≡ true → b ≡ true → a && b ≡ true
    both true b e f = f
    both false b e f = e

rs_is_name : IsName rs_name
unfolding is_name_byte
rs_is_name = record { some = omega arith; limit = omega arith; allowed = refl }

-- ---- a change that a caller asks for
-- the causes that need only the command and its caller don't apply
abbrev pub IsJudged : State → AskedChange → Body → Type 0
IsJudged s a body = (r : Refusal) → Contains by_command r →
    against_asked (standing_of s (asked_in s a body)) (name_of (held s) a.caller) a body (causes.Refused r) ≡ false

module _ (s : State) (a : AskedChange) (body : Body) (items : AreItems (held s)) (parts : AreParts a.key a.version body)
    (free : IsJudged s a body) where
  right_kind : is_of_kind a.key.kind body ≡ true
  right_kind = not-false (is_of_kind a.key.kind body) (free refusals.BadKind (4, omega arith, refl))

  of_kind : (b : Body) → is_of_kind a.key.kind b ≡ true → IsOfKind a.key.kind b
  of_kind (Put value) e = kind_is (kind_of value) a.key.kind e
  of_kind Gone e = tt

  caller_named : (o : Option ChangeRecord) → find (names_endpoint a.caller) (changes_in (held s)) ≡ o →
      IsName (unwrap_or (option_map (λ (c : ChangeRecord). c.key.name) o) rs_name)
  caller_named None e = rs_is_name
  caller_named (Some c) e = (items (Changed c)
      (changes_in-from (held s) c (found (names_endpoint a.caller) (changes_in (held s)) c e).0)).name

  owner_named : (b : Bool) → IsName (unwrap_or
      (cond b (Some rs_name) (option_map (λ (c : ChangeRecord). c.key.name) (find (names_endpoint a.caller) (changes_in (held s)))))
      rs_name)
  owner_named true = rs_is_name
  owner_named false = caller_named (find (names_endpoint a.caller) (changes_in (held s))) refl

  owner_of_rs : is_rs a.caller ≡ true → unwrap_or (name_of (held s) a.caller) rs_name ≡ rs_name
  owner_of_rs e = ap (λ (b : Bool). unwrap_or
      (cond b (Some rs_name) (option_map (λ (c : ChangeRecord). c.key.name) (find (names_endpoint a.caller) (changes_in (held s)))))
      rs_name) e

  label_body : (version : Version) (b : Body) → is_label_body version b ≡ true → IsLabelBody version b
  label_body version (Put (values.Label e)) t = (
    equal_numbers version.seq 0 (left_of (version.seq == 0) (version.epoch == e.generation) t),
    equal_numbers version.epoch e.generation
        (right_true (version.seq == 0) (version.epoch == e.generation) t),
  )
  label_body version (Put (values.U32 n)) t = let n : false ≡ true = t in cc
  label_body version (Put (values.Str n)) t = let n : false ≡ true = t in cc
  label_body version (Put (values.Mem n)) t = let n : false ≡ true = t in cc
  label_body version Gone t = equal_numbers version.seq 1 t

  label_rule : a.key.kind ≡ kinds.Label → IsLabelChange (asked_in s a body)
  label_rule k =
      let bad = free refusals.BadLabel (5, omega arith, refl) in
      let allowed = free refusals.NotAllowed (8, omega arith, refl) in
      let test = where_label (is_label_change a body) (subst (λ (x : Kind). is_label x && not (is_label_change a body) ≡ false) k bad) in
      let rest = right_true (not (is_same_name a.key.name rs_name)) (not (a.version.epoch == 0) && is_label_body a.version body) test in
      let epoch = not_equal a.version.epoch 0 (left_of (not (a.version.epoch == 0)) (is_label_body a.version body) rest) in
      record {
        owner = owner_of_rs (where_label (is_rs a.caller) (subst (λ (x : Kind). is_label x && not (is_rs a.caller) ≡ false) k allowed));
        name = λ e. (let q : false ≡ true = sym (ap not (subst (λ (x : List ℕ). is_same_name a.key.name x ≡ true) e (text_is a.key.name))) ∙
            left_of (not (is_same_name a.key.name rs_name)) (not (a.version.epoch == 0) && is_label_body a.version body) test in cc);
        epoch = positive a.version.epoch epoch;
        body = label_body a.version body (right_true (not (a.version.epoch == 0)) (is_label_body a.version body) rest);
      }
    where
      positive : (m : ℕ) → (m ≡ 0 → ⊥) → 0 < m
      positive zero e = absurd (e refl)
      positive (suc m) e = omega arith

  below_sweeps : is_label a.key.kind ≡ false → IsBelowSweeps a.version body
  below_sweeps k =
      let bad = free refusals.BadVersion (6, omega arith, refl) in
      let test = where_label (is_callers_version a) (subst (λ (b : Bool). not b && not (is_callers_version a) ≡ false) k bad) in
      let l = below_last a.version.seq (right_true (a.version.epoch == a.caller.generation) (not (nat_le last_seq a.version.seq)) test) in
      of_body body l
    where
      of_body : (b : Body) → a.version.seq < last_seq → IsBelowSweeps a.version b
      of_body (Put value) l = l
      of_body Gone l = tt

  keeps_rule : (k : Kind) → a.key.kind ≡ k → KeepsRule k (asked_in s a body)
  keeps_rule kinds.Label e = label_rule e
  keeps_rule kinds.U32 e = below_sweeps (ap is_label e)
  keeps_rule kinds.Str e = below_sweeps (ap is_label e)
  keeps_rule kinds.Mem e = below_sweeps (ap is_label e)

  pub asked_change : IsChange (asked_in s a body)
  asked_change = record {
    name = parts.name;
    owner = owner_named (is_rs a.caller);
    epoch = parts.epoch;
    seq = parts.seq;
    body = parts.body;
    kind = of_kind body right_kind;
    rule = keeps_rule a.key.kind refl;
  }

-- ---- what is learnt
is_known : Cause → Bool
is_known causes.Known = true
is_known (causes.Refused r) = false

judged_free : (s : State) (a : AskedChange) (body : Body) → cause_against s a body ≡ None → IsJudged s a body
judged_free s a body e r h =
    missing (against_asked (standing_of s (asked_in s a body)) (name_of (held s) a.caller) a body)
    (map causes.Refused by_command ++ by_version (Some a.version) ++ map causes.Refused by_room) (causes.Refused r) e
    (Contains-append_left (map causes.Refused by_command) (by_version (Some a.version) ++ map causes.Refused by_room) (causes.Refused r)
    (Contains-map causes.Refused by_command r h))

judged_known : (s : State) (a : AskedChange) (body : Body) → cause_against s a body ≡ Some causes.Known → IsJudged s a body
unfolding is_known
judged_known s a body e r h =
    passed (against_asked (standing_of s (asked_in s a body)) (name_of (held s) a.caller) a body) is_known (map causes.Refused by_command)
    (by_version (Some a.version) ++ map causes.Refused by_room) (causes.Refused r) causes.Known e refl refl
    (Contains-map causes.Refused by_command r h)

pub one_item : (i : Item) → IsItem i → AreItems (i ∷ [])
one_item i f j h = subst IsItem (sym (Contains-single i j h)) f

no_items : AreItems []
no_items i h = absurd (Contains-nil i h)

asking_items : (s : State) (a : AskedChange) (body : Body) (reply : Reply) → AreItems (held s) → AreParts a.key a.version body →
    (o : Option Cause) → cause_against s a body ≡ o
    → reply ≡ (option_map_or {U = Reply × State} (λ (cause : Cause). (answer_for cause, s)) o
    (Accepted (owed s (Changed (asked_in s a body) ∷ [])), takes_effect s (Changed (asked_in s a body) ∷ []))).0 →
    AreItems (known_after reply
    (Changed (asked_in s a body) ∷ []))
asking_items s a body reply items parts None q e =
    subst (λ (x : Reply). AreItems (known_after x (Changed (asked_in s a body) ∷ []))) (sym e)
    (one_item (Changed (asked_in s a body)) (asked_change s a body items parts (judged_free s a body q)))
asking_items s a body reply items parts (Some causes.Known) q e =
    subst (λ (x : Reply). AreItems (known_after x (Changed (asked_in s a body) ∷ []))) (sym e)
    (one_item (Changed (asked_in s a body)) (asked_change s a body items parts (judged_known s a body q)))
asking_items s a body reply items parts (Some (causes.Refused r)) q e =
    subst (λ (x : Reply). AreItems (known_after x (Changed (asked_in s a body) ∷ []))) (sym e) no_items

-- whatever the reply, no more is known than was brought
known_part : (reply : Reply) (items : List Item) → AreItems items → AreItems (known_after reply items)
known_part (Accepted owed) items f = f
known_part Known items f = f
known_part (Swept count owed) items f = f
known_part (Merged done taken stale owed) items f = f
known_part (MergeStopped done fault owed) items f = λ i h. f i (Contains-from_take done items i h)
known_part _ items f = no_items

refused_items : (reply : Reply) (refusal : Refusal) (items : List Item) → reply ≡ Refused refusal → AreItems (known_after reply items)
refused_items reply refusal items e = subst (λ (x : Reply). AreItems (known_after x items)) (sym e) no_items

-- a Sweep's floor, or nothing
raised_items : (s : State) (f : Floor) → IsFloor f → AreItems (raised_by s f)
raised_items s f p = by (on_floor (floor_at (held s) f.owner) (nat_le f.generation))
  where
    by : (b : Bool) → AreItems (cond b [] (Floored f ∷ []))
    by true = no_items
    by false = one_item (Floored f) p

pub learnt_items : (s t : State) (command : Command) (reply : Reply) → AreItems (held s) → IsProper command → Step s command reply t →
    AreItems (learnt_by s command reply)
learnt_items s t (Publish caller key version value overwrite) reply items p (inl (inl is)) = let a : AskedChange =
    published caller key version overwrite in
    asking_items s a (Put value) reply items p (cause_against s a (Put value)) refl is.reply_is
learnt_items s t (Publish caller key version value overwrite) reply items p (inl (inr w)) = refused_items reply refusals.NoRoom _ w.reply_is
learnt_items s t (Publish caller key version value overwrite) reply items p (inr w) = absurd w
learnt_items s t (Delete caller key version) reply items p (inl (inl is)) = let a : AskedChange = deleted caller key version in
    asking_items s a Gone reply items p (cause_against s a Gone) refl is.reply_is
learnt_items s t (Delete caller key version) reply items p (inl (inr w)) = refused_items reply refusals.NoRoom _ w.reply_is
learnt_items s t (Delete caller key version) reply items p (inr w) = absurd w
learnt_items s t (Sweep caller owner generation) reply items p step =
    known_part reply (raised_by s (floor_of owner generation)) (raised_items s (floor_of owner generation) p)
learnt_items s t (Merge group) reply items p step = known_part reply group p
learnt_items s t command reply items p step = known_part reply [] no_items

-- ---- events
module _ (account : Account) (w new : World) (f : Fits account w) (all : AreItems account.brought) where
  ask_items : (side : Side) (command : Command) (out : Outcome) → IsProper command → Asks w side command out new →
      AreItems (extended account (Ask side command) out).brought
  ask_items side command out p h = subst (λ (x : Account). AreItems x.brought) (sym (account_is (items_given h.reply) refl h.outcome_is))
      more
    where
      step : Step (store_of account side).state command h.reply h.after
      step = subst (λ (s : State). Step s command h.reply h.after) (sym (store_fits account w side f).state_is) h.step

      held_items : AreItems (held (store_of account side).state)
      held_items i k = let own = own_fits account w side f in all i (own.within i (own.top.among i k))

      more : AreItems (with_reply account side command h.reply).brought
      more i k = elim (Contains-append_cases account.brought (learnt_by (store_of account side).state command h.reply) i k) [
        | inl l ↦ all i l
        | inr l ↦ learnt_items (store_of account side).state h.after command h.reply held_items p step i l
      ]

      account_is : (o : Option (List Item)) → items_given h.reply ≡ o → out ≡ ask_outcome w h.reply o →
          extended account (Ask side command) out ≡ with_reply account side command h.reply
      account_is None e q = ap (extended account (Ask side command)) q
      account_is (Some items) e q = ap (extended account (Ask side command)) q ∙
          ap (with_reply account side command) (sym (given_reply (store_of account side).state h.after command h.reply items step e))

  put_items : (side : Side) (x : StoreAccount) → AreItems (with_account account side x).brought
  put_items A x = all
  put_items B x = all

  delivered_items : (holder : Holder) (items : List Sent) → AreItems (delivered account holder items).brought
  delivered_items (Store side) items = put_items side _
  delivered_items (Map j) items = all

  event_items : (event : Event) (out : Outcome) → IsProperEvent event → Happens w event out new →
      AreItems (extended account event out).brought
  event_items (Ask side command) (Refusing fault) p h = all
  event_items (Ask side command) out p h = ask_items side command out p h.1
  event_items (NewMap query) (MapMade j) p h = all
  event_items (NewMap query) _ p h = all
  event_items (Deliver k holder count) (AllMerged counted owed) p h = delivered_items holder (sent_first account k counted.done)
  event_items (Deliver k holder count) (Stopped done fault owed) p h = delivered_items holder (sent_first account k done)
  event_items (Deliver k holder count) _ p h = all
  event_items (ClearMap j) Cleared p h = all
  event_items (ClearMap j) _ p h = all
  event_items (RestartStore side incarnation) Restarted p h = put_items side _
  event_items (RestartStore side incarnation) _ p h = all

pub events_bring_items : EventsBringItems
events_bring_items account old new [] f h p all = all
events_bring_items account old new (e ∷ es) f h p all =
    events_bring_items (extended account e.0 e.1) h.0 new es (event_fits account old h.0 e.0 e.1 f h.1) h.2
    (λ x k. p x (Contains-tail e es x k))
    (event_items account old h.0 f all e.0 e.1 (p e (Contains-head e es)) h.1)
