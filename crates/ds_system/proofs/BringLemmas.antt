-- What Asks bring in.
use Rattle.std.proofs.Common.{◌≡◌, ℕ, nat_le, Bool, true, false, cond, List, [], ◌∷◌, ◌++◌, map, Option, Some, None, is_none, refl, ap, sym}
use Rattle.std.proofs.Common.{◌∙◌, subst, inl, inr, ◌⊎◌, arith, Contains}
use Rattle.std.specs.List.{find}
use Rattle.std.specs.Option.{option_map_or, unwrap_or}
use Rattle.ds_names.specs.Endpoint.{EndpointRecord, endpoint_of}
use Rattle.ds_names.specs.Name.{rs_name}
use Rattle.ds_names.specs.declared.key.Key.{Key}
use Rattle.ds_names.specs.declared.version.Version.{Version}
use Rattle.ds_entry.specs.Change.{ChangeRecord, change_of}
use Rattle.ds_entry.specs.Floor.{floor_of}
use Rattle.ds_entry.specs.declared.floor.Floor.{Floor}
use Rattle.ds_entry.specs.declared.body.Body.{Body}
use Rattle.ds_entry.specs.declared.body.Body.TheVariants.{Put, Gone}
use Rattle.ds_entry.specs.declared.item.Item.{Item}
use Rattle.ds_entry.specs.declared.item.Item.TheVariants.{Change as Changed, Floor as Floored}
use Rattle.ds_entry.proofs.Members.{In, Contains-nil, Contains-head, Contains-tail, Contains-cons, Contains-single, Contains-map}
use Rattle.ds_entry.proofs.Members.{Contains-from_map, Contains-from_take}
use Rattle.ds_machine.specs.State.{State, held, takes_effect, owed}
use Rattle.ds_machine.specs.Order.{by_command, by_version, by_room}
use Rattle.ds_machine.specs.Standing.{standing_of, on_floor}
use Rattle.ds_machine.specs.Parts.{floor_at}
use Rattle.ds_machine.specs.Asking.{AskedChange, published, deleted, name_of, against_asked, asked_in, cause_against}
use Rattle.ds_machine.specs.Machine.{answer_for, Step}
use Rattle.ds_machine.specs.Effect.{known_after, learnt_by, raised_by}
use Rattle.ds_machine.specs.declared.refusal.Cause.{Cause}
use Rattle.ds_machine.specs.declared.refusal.Cause.TheVariants as causes
use Rattle.ds_machine.specs.declared.refusal.Refusal.{Refusal}
use Rattle.ds_machine.specs.declared.refusal.Refusal.TheVariants as refusals
use Rattle.ds_machine.specs.declared.command.Command.{Command}
use Rattle.ds_machine.specs.declared.command.Command.TheVariants.{Publish, Delete, Sweep, Merge}
use Rattle.ds_machine.specs.declared.reply.Reply.{Reply}
use Rattle.ds_machine.specs.declared.reply.Reply.TheVariants.{Changed as Accepted, Known, Swept, Merged, MergeStopped, Refused}
use Rattle.ds_machine.proofs.PartLemmas.{changed_same}
use Rattle.rs_core.specs.declared.action.Action.{Action}
use Rattle.rs_core.specs.declared.action.Action.TheVariants as actions
use Rattle.rs_core.specs.Run.{offers}
use Rattle.rs_to_store.specs.Asked.{asking_for, commands}
use Rattle.ds_system.specs.Steps.{is_bringing}

-- ---- what is known of what was brought
pub known_within : (reply : Reply) (items : List Item) (i : Item) → Contains (known_after reply items) i → Contains items i
known_within (Accepted owed) items i h = h
known_within Known items i h = h
known_within (Swept count owed) items i h = h
known_within (Merged done taken stale owed) items i h = h
known_within (MergeStopped done fault owed) items i h = Contains-from_take done items i h
known_within _ items i h = absurd (Contains-nil i h)

refused_learns : {A : Type 0} (reply : Reply) (refusal : Refusal) (items : List Item) (i : Item) → reply ≡ Refused refusal →
    Contains (known_after reply items) i → A
refused_learns reply refusal items i e h = absurd (Contains-nil i (subst (λ (x : Reply). Contains (known_after x items) i) e h))

-- ---- a caller that the store doesn't know is refused
-- an element in the front of a list passes, and so is found there
abbrev IsFoundIn : {X : Type 0} → (X → Bool) → List X → List X → Type 0
IsFoundIn {X} p front all = (y : X) × (find p all ≡ Some y) × Contains front y

found_in_front : {X : Type 0} (p : X → Bool) (front back : List X) (x : X) → Contains front x → p x ≡ true →
    IsFoundIn p front (front ++ back)
found_in_front p [] back x h t = absurd (Contains-nil x h)
found_in_front {X} p (z ∷ front) back x h t = by (p z) refl (Contains-cons z front x h) (λ k. found_in_front p front back x k t)
  where
    by : (b : Bool) → p z ≡ b → (x ≡ z) ⊎ Contains front x → (Contains front x → IsFoundIn p front (front ++ back)) →
        IsFoundIn p (z ∷ front) (z ∷ front ++ back)
    by true q k rest = (z, ap (λ (b : Bool). cond b (Some z) (find p (front ++ back))) q, Contains-head z front)
    by false q (inl e) rest = let n : true ≡ false = sym t ∙ (ap p e ∙ q) in cc
    by false q (inr k) rest = let r = rest k in
        (r.0, ap (λ (b : Bool). cond b (Some z) (find p (front ++ back))) q ∙ r.1, Contains-tail z front r.0 r.2)

unknown_refused : (s : State) (a : AskedChange) (body : Body) → name_of (held s) a.caller ≡ None →
    (r : Refusal) × (cause_against s a body ≡ Some (causes.Refused r))
unknown_refused s a body e =
    let no_caller : against_asked (standing_of s (asked_in s a body)) (name_of (held s) a.caller) a body (causes.Refused refusals.NoCaller)
    ≡ true = ap (λ (o : Option (List ℕ)). is_none o) e in
    let f = found_in_front (against_asked (standing_of s (asked_in s a body)) (name_of (held s) a.caller) a body)
    (map causes.Refused by_command) (by_version (Some a.version) ++ map causes.Refused by_room) (causes.Refused refusals.NoCaller)
    (Contains-map causes.Refused by_command refusals.NoCaller (7, omega arith, refl)) no_caller in
    let r = Contains-from_map causes.Refused by_command f.0 f.2 in
    (r.0, f.1 ∙ ap Some (sym r.2))

-- ---- a caller's change, in the name that a store may know the caller by
-- the reply, by the first cause against the change
abbrev reply_by : State → AskedChange → Body → Option Cause → Reply
reply_by s a body cause = (option_map_or {U = Reply × State} (λ (cause : Cause). (answer_for cause, s)) cause
    (Accepted (owed s (Changed (asked_in s a body) ∷ [])), takes_effect s (Changed (asked_in s a body) ∷ []))).0

module _ (s : State) (a : AskedChange) (body : Body) (owner : List ℕ)
    (named : (n : List ℕ) → name_of (held s) a.caller ≡ Some n → n ≡ owner) where
  asked_learns : (reply : Reply) → reply ≡ reply_by s a body (cause_against s a body) → (c : ChangeRecord) →
      Contains (known_after reply (Changed (asked_in s a body) ∷ [])) (Changed c) → c ≡ change_of a.key owner a.version body
  asked_learns reply e c h = by (name_of (held s) a.caller) refl
    where
      by : (o : Option (List ℕ)) → name_of (held s) a.caller ≡ o → c ≡ change_of a.key owner a.version body
      by None q =
          let r = unknown_refused s a body q in
          refused_learns reply r.0 (Changed (asked_in s a body) ∷ []) (Changed c)
          (e ∙ ap (reply_by s a body) r.1) h
      by (Some n) q =
          changed_same c (asked_in s a body) (Contains-single (Changed (asked_in s a body)) (Changed c)
          (known_within reply (Changed (asked_in s a body) ∷ []) (Changed c) h))
          ∙ ap (λ (o : Option (List ℕ)). change_of a.key (unwrap_or o rs_name) a.version body) q ∙
          ap (λ (z : List ℕ). change_of a.key z a.version body) (named n q)

pub asking_learns : (s t : State) (caller : EndpointRecord) (key : Key) (number : Version) (body : Body) (owner : List ℕ) (reply : Reply) →
    ((n : List ℕ) → name_of (held s) caller ≡ Some n → n ≡ owner)
    → Step s (asking_for caller key number body) reply t → (c : ChangeRecord) →
    Contains (learnt_by s (asking_for caller key number body) reply) (Changed c) → c ≡ change_of key owner number body
asking_learns s t caller key number (Put value) owner reply named (inl (inl is)) c h =
    asked_learns s (published caller key number true) (Put value) owner named reply is.reply_is c h
asking_learns s t caller key number (Put value) owner reply named (inl (inr w)) c h =
    refused_learns reply refusals.NoRoom _ (Changed c) w.reply_is h
asking_learns s t caller key number (Put value) owner reply named (inr w) c h = absurd w
asking_learns s t caller key number Gone owner reply named (inl (inl is)) c h =
    asked_learns s (deleted caller key number) Gone owner named reply is.reply_is c h
asking_learns s t caller key number Gone owner reply named (inl (inr w)) c h =
    refused_learns reply refusals.NoRoom _ (Changed c) w.reply_is h
asking_learns s t caller key number Gone owner reply named (inr w) c h = absurd w

-- ---- commands that bring in only what was made
abbrev pub BringsMade : List ChangeRecord → State → Command → Type 0
BringsMade made s command = (t : State) (reply : Reply) → Step s command reply t → (c : ChangeRecord) →
    Contains (learnt_by s command reply) (Changed c) → Contains made c

rs_named : (s : State) (n : List ℕ) → name_of (held s) (endpoint_of 0 2) ≡ Some n → n ≡ rs_name
rs_named s n e = some n e
  where
    some : (n : List ℕ) → Some rs_name ≡ Some n → n ≡ rs_name
    some n q = cc

offer_brings : (made : List ChangeRecord) (x : ChangeRecord) → x.owner ≡ rs_name → Contains made x → (s : State) →
    BringsMade made s (asking_for (endpoint_of 0 2) x.key x.version x.body)
offer_brings made x own there s t reply step c h =
    let is : c ≡ change_of x.key rs_name x.version x.body =
    asking_learns s t (endpoint_of 0 2) x.key x.version x.body rs_name reply (rs_named s) step c h in
    let same : change_of x.key rs_name x.version x.body ≡ x = ap (λ (n : List ℕ). change_of x.key n x.version x.body) (sym own) in
    subst (Contains made) (sym (is ∙ same)) there

sweep_brings : (made : List ChangeRecord) (f : Floor) (s : State) → BringsMade made s (Sweep (endpoint_of 0 2) f.owner f.generation)
sweep_brings made f s t reply step c h = by (on_floor (floor_at (held s) f.owner) (nat_le f.generation))
    (known_within reply (raised_by s (floor_of f.owner f.generation)) (Changed c) h)
  where
    by : (b : Bool) → Contains (cond b [] (Floored (floor_of f.owner f.generation) ∷ [])) (Changed c) → Contains made c
    by true k = absurd (Contains-nil (Changed c) k)
    by false k = let e = Contains-single (Floored (floor_of f.owner f.generation)) (Changed c) k in cc

pub merge_brings : (made : List ChangeRecord) (x : ChangeRecord) → Contains made x → (s : State) →
    BringsMade made s (Merge (Changed x ∷ []))
merge_brings made x there s t reply step c h =
    subst (Contains made) (sym (changed_same c x
    (Contains-single (Changed x) (Changed c) (known_within reply (Changed x ∷ []) (Changed c) h)))) there

pub reading_brings : (made : List ChangeRecord) (command : Command) → is_bringing command ≡ false → (s : State) → BringsMade made s command
reading_brings made (Publish caller key version value overwrite) e s t reply step c h = cc
reading_brings made (Delete caller key version) e s t reply step c h = cc
reading_brings made (Sweep caller owner generation) e s t reply step c h = cc
reading_brings made (Merge items) e s t reply step c h = cc
reading_brings made command e s t reply step c h = absurd (Contains-nil (Changed c) (known_within reply [] (Changed c) h))

-- the commands of RS's actions bring in only what the actions offer
pub actions_bring : (made : List ChangeRecord) (acts : List Action) →
    ((c : ChangeRecord) → In c (offers acts) → (c.owner ≡ rs_name) × Contains made c)
    → (command : Command) → In command (commands acts) → (s : State) → BringsMade made s command
actions_bring made [] all command i s = absurd i
actions_bring made (actions.Offer x ∷ acts) all command (inl e) s =
    subst (BringsMade made s) (sym e) (offer_brings made x (all x (inl refl)).0 (all x (inl refl)).1 s)
actions_bring made (actions.Offer x ∷ acts) all command (inr i) s = actions_bring made acts (λ c h. all c (inr h)) command i s
actions_bring made (actions.Sweep f ∷ acts) all command (inl e) s = subst (BringsMade made s) (sym e) (sweep_brings made f s)
actions_bring made (actions.Sweep f ∷ acts) all command (inr i) s = actions_bring made acts all command i s
actions_bring made (actions.Kill x ∷ acts) all command i s = actions_bring made acts all command i s
actions_bring made (actions.Start l x ∷ acts) all command i s = actions_bring made acts all command i s
actions_bring made (actions.Ping x ∷ acts) all command i s = actions_bring made acts all command i s
