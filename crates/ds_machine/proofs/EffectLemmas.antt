-- What one step does to its state, and what a run of them does.
use Rattle.std.proofs.Common.{◌≡◌, ℕ, zero, suc, ◌+◌, ◌<◌, Bool, true, false, List, [], ◌∷◌, ◌++◌, length, take, Option, Some, None, refl}
use Rattle.std.proofs.Common.{ap, sym, ◌∙◌, subst, inl, inr, ◌⊎◌, arith, Contains, eq-eqb, append-nil, nat_le, cond}
use Rattle.std.proofs.lemmas.Bool.{leb-false}
use Rattle.std.proofs.lemmas.List.Elements.{Contains-push, Contains-append_cases}
use Rattle.std.specs.Option.{option_map_or}
use Rattle.ds_names.specs.Endpoint.{EndpointRecord}
use Rattle.ds_entry.specs.declared.body.Body.{Body}
use Rattle.ds_entry.specs.declared.body.Body.TheVariants.{Put, Gone}
use Rattle.ds_entry.specs.declared.floor.Floor.{Floor}
use Rattle.ds_entry.specs.declared.item.Item.{Item}
use Rattle.ds_entry.specs.declared.item.Item.TheVariants.{Change as Changed, Floor as Floored}
use Rattle.ds_entry.specs.Floor.{floor_of}
use Rattle.ds_entry.proofs.Members.{Contains-nil, Contains-head, Contains-from_filter, Contains-from_take}
use Rattle.ds_join.specs.ItemTop.{IsPartOf, CoversAll}
use Rattle.ds_pattern.specs.declared.query.Query.{Query}
use Rattle.ds_held.specs.Kept.{puts_void_by}
use Rattle.ds_machine.specs.Parts.{changes_in, floor_at, floors_in}
use Rattle.ds_machine.specs.Subscription.{Subscription, is_unseen}
use Rattle.ds_machine.specs.State.{State, held, takes_effect, owed, unseen, subscribes, subscription_at}
use Rattle.ds_machine.specs.Order.{first_refusal, by_command, by_room}
use Rattle.ds_machine.specs.Standing.{standing_of, floor_standing_of, on_floor}
use Rattle.ds_machine.specs.Asking.{AskedChange, published, deleted, name_of, asked_in, cause_against, sweep_cause}
use Rattle.ds_machine.specs.Calling.{SubscribeCase, against_subscribe, against_check, against_merge}
use Rattle.ds_machine.specs.Merging.{Course, begun, course, merging}
use Rattle.ds_machine.specs.Watching.{subscribing, subscribe_case, owed_at_first, shown_at_first, shows, check_case, checking, checking_at}
use Rattle.ds_machine.specs.Machine.{Step, MergeWantsRoom, IsOutcome, outcome, asking, answer_for, sweeping, sweep_answer}
use Rattle.ds_machine.specs.Reached.{IsReached}
use Rattle.ds_machine.specs.Effect.{IsNews, Grows, Serves, Effect, known_after, learnt_by, brought_by, raised_by, StepHasEffect}
use Rattle.ds_machine.specs.Effect.{SweepLearnsEffect}
use Rattle.ds_machine.specs.declared.refusal.Cause.{Cause}
use Rattle.ds_machine.specs.declared.refusal.Cause.TheVariants as causes
use Rattle.ds_machine.specs.declared.refusal.Refusal.{Refusal}
use Rattle.ds_machine.specs.declared.refusal.Refusal.TheVariants as refusals
use Rattle.ds_machine.specs.declared.command.Command.{Command}
use Rattle.ds_machine.specs.declared.command.Command.TheVariants.{Publish, Delete, Sweep, Retrieve, NameOf, Subscribe, Check, Since}
use Rattle.ds_machine.specs.declared.command.Command.TheVariants.{Snapshot, Page, Merge}
use Rattle.ds_machine.specs.declared.reply.Reply.{Reply}
use Rattle.ds_machine.specs.declared.reply.Reply.TheVariants.{Changed as Accepted, Known, Swept, Subscribed, Merged, MergeStopped, Refused}
use Rattle.ds_machine.proofs.PartLemmas.{missing, take_whole}
use Rattle.ds_machine.proofs.NewsLemmas.{news_change, news_floor}
use Rattle.ds_machine.proofs.CauseLemmas.{IsCoveredIn, asked_free, asked_covered, sweep_is_free, sweep_as_high, not_as_high, room_above}
use Rattle.ds_machine.proofs.ReachedLemmas.{held_is_top}
use Rattle.ds_machine.proofs.CourseLemmas.{Went, went, grows_none, grows_one, reached_grown, covered_accepted, covers_first, covers_nothing}

-- some of what was learnt took effect, and all of it is held, or what covers it
pub record Learns (s : State) (learnt : List Item) (t : State) : Type 0 where
  pub grows : Grows s learnt t
  pub holds : CoversAll (held t) learnt

pub learns_none : (s t : State) → t ≡ s → Learns s [] t
learns_none s t e = record { grows = grows_none s t [] e; holds = covers_nothing (held t) }

-- it is held already
learns_known : (s t : State) (i : Item) → t ≡ s → IsCoveredIn (held s) i → Learns s (i ∷ []) t
learns_known s t i e over =
    record {
      grows = grows_none s t (i ∷ []) e;
      holds =
          subst (λ (x : State). CoversAll (held x) (i ∷ [])) (sym e) (covers_first i [] (held s) over (covers_nothing (held s)));
    }

-- it took effect
learns_news : (s t : State) (i : Item) → IsReached s → IsNews s.feed.accepted i → t ≡ takes_effect s (i ∷ []) → Learns s (i ∷ []) t
learns_news s t i r n e =
    let grows : Grows s (i ∷ []) t = grows_one s t i (i ∷ []) n (Contains-head i []) (grows_none (takes_effect s (i ∷ [])) t (i ∷ []) e) in
    let here : Contains t.feed.accepted i = subst (λ (x : State). Contains x.feed.accepted i) (sym e) (Contains-push s.feed.accepted i) in
    record {
      grows = grows;
      holds = covers_first i [] (held t) (covered_accepted t (reached_grown s t (i ∷ []) r grows) i here)
          (covers_nothing (held t));
    }

-- ---- a Publish, a Delete and a Sweep
effect_of_none : (s : State) → takes_effect s [] ≡ s
effect_of_none s = ap (λ (l : List Item). record s { feed = record s.feed { accepted = l } }) (append-nil s.feed.accepted)

module _ (s t : State) (r : IsReached s) (reply : Reply) where
  asked_learns : (a : AskedChange) (body : Body) → reply ≡ (asking s a body).0 → t ≡ (asking s a body).1 →
      Learns s (known_after reply (Changed (asked_in s a body) ∷ [])) t
  asked_learns a body e f = by_cause (cause_against s a body) refl e f
    where
      i : Item
      i = Changed (asked_in s a body)

      out : Option Cause → Reply × State
      out o = option_map_or {U = Reply × State} (λ cause. (answer_for cause, s)) o (Accepted (owed s (i ∷ [])), takes_effect s (i ∷ []))

      told : (other : Reply) → reply ≡ other → Learns s (known_after other (i ∷ [])) t → Learns s (known_after reply (i ∷ [])) t
      told other q l = subst (λ (x : Reply). Learns s (known_after x (i ∷ [])) t) (sym q) l

      by_cause : (o : Option Cause) → cause_against s a body ≡ o → reply ≡ (out o).0 → t ≡ (out o).1 →
          Learns s (known_after reply (i ∷ [])) t
      by_cause (Some causes.Known) q g h = told Known g
          (learns_known s t i h (asked_covered s (name_of (held s) a.caller) a body causes.Known q (inl refl)))
      by_cause (Some (causes.Refused refusal)) q g h = told (Refused refusal) g (learns_none s t h)
      by_cause None q g h =
          let free = asked_free (standing_of s (asked_in s a body)) (name_of (held s) a.caller) a body q in
          let n = news_change s.feed.accepted r.owners (asked_in s a body) free.valid (length (changes_in (held s))) s.limits.keys
          free.room in
          told (Accepted (owed s (i ∷ []))) g (learns_news s t i r n h)

  -- the floor takes effect, or as high a one is held
  swept_by : (caller : EndpointRecord) (f : Floor) → reply ≡ (sweeping s caller f).0 → t ≡ (sweeping s caller f).1 →
      Learns s (known_after reply (raised_by s f)) t × (t ≡ takes_effect s (known_after reply (raised_by s f)))
  swept_by caller f e g = by_cause (sweep_cause s caller f) refl e g
    where
      i : Item
      i = Floored f

      LearnsEffect : List Item → Type 0
      LearnsEffect items = Learns s items t × (t ≡ takes_effect s items)

      out : Option Cause → Reply × State
      out o = option_map_or {U = Reply × State} (λ cause. (sweep_answer cause, s)) o
          (Swept (length (puts_void_by f (changes_in (held s)))) (owed s (i ∷ [])), takes_effect s (i ∷ []))

      told : (other : Reply) → reply ≡ other → LearnsEffect (known_after other (raised_by s f)) →
          LearnsEffect (known_after reply (raised_by s f))
      told other q l = subst (λ (x : Reply). LearnsEffect (known_after x (raised_by s f))) (sym q) l

      raises : (b : Bool) → on_floor (floor_at (held s) f.owner) (nat_le f.generation) ≡ b → LearnsEffect (cond b [] (i ∷ [])) →
          LearnsEffect (raised_by s f)
      raises b q l = subst (λ (x : Bool). LearnsEffect (cond x [] (i ∷ []))) (sym q) l

      nothing : t ≡ s → LearnsEffect []
      nothing h = (learns_none s t h, h ∙ sym (effect_of_none s))

      by_cause : (o : Option Cause) → sweep_cause s caller f ≡ o → reply ≡ (out o).0 → t ≡ (out o).1 →
          LearnsEffect (known_after reply (raised_by s f))
      by_cause (Some causes.Known) q g h = told (Swept 0 0) g (raises true (sweep_as_high s f caller causes.Known q (inl refl)) (nothing h))
      by_cause (Some (causes.Refused refusals.Stale)) q g h =
          told (Swept 0 0) g (raises true (sweep_as_high s f caller (causes.Refused refusals.Stale) q (inr refl)) (nothing h))
      by_cause (Some (causes.Refused refusal)) q g h = told (Refused refusal) g (nothing h)
      by_cause None q g h =
          let room = (sweep_is_free (floor_standing_of s f) caller f q).room in
          let n = news_floor s.feed.accepted r.owners f (room_above (floor_at (held s) f.owner) (length (floors_in (held s))) f room) in
          told (Swept (length (puts_void_by f (changes_in (held s)))) (owed s (i ∷ []))) g
          (raises false (not_as_high (floor_at (held s) f.owner) (length (floors_in (held s))) f room) (learns_news s t i r n h, h))

-- ---- a Merge
pub begun_went : (s : State) (items : List Item) → IsReached s → Went (begun s) items (course s items)
begun_went s items r = went items (begun s) r refl

-- what a merge has done, it has learnt
course_learns : (s : State) (items : List Item) (n : ℕ) → IsReached s → (course s items).done ≡ n →
    Learns s (take n items) (course s items).state
course_learns s items n r e =
    let w = begun_went s items r in
    let same : w.count ≡ n = omega (arith, w.done, e) in
    record {
      grows = subst (λ k. Grows s (take k items) (course s items).state) same w.grows;
      holds = subst (λ k. CoversAll (held (course s items).state) (take k items)) same w.holds;
    }

all_learnt : (s : State) (items : List Item) → IsReached s → (course s items).stop ≡ None → Learns s items (course s items).state
all_learnt s items r e =
    let w = begun_went s items r in
    let all : (course s items).done ≡ length items = omega (arith, w.done, w.whole e) in
    subst (λ l. Learns s l (course s items).state) (take_whole items) (course_learns s items (length items) r all)

merged_learns : (s t : State) (items : List Item) (reply : Reply) (o : Option Refusal) → IsReached s → reply ≡ (merging s items o).0 →
    t ≡ (merging s items o).1 → Learns s (known_after reply items) t
merged_learns s t items reply (Some refusal) r e f = subst (λ (x : Reply). Learns s (known_after x items) t) (sym e) (learns_none s t f)
merged_learns s t items reply None r e f = by_stop (course s items).stop refl e
  where
    k : Course
    k = course s items

    told : (other : Reply) → reply ≡ other → Learns s (known_after other items) k.state → Learns s (known_after reply items) t
    told other q l = subst (λ (x : Reply). Learns s (known_after x items) t) (sym q)
        (subst (λ (x : State). Learns s (known_after other items) x) (sym f) l)

    by_stop : (o : Option Refusal) → k.stop ≡ o →
        reply ≡ option_map_or {U = Reply} (λ fault. MergeStopped k.done fault (owed s k.taken)) o
        (Merged k.done (length k.taken) k.stale (owed s k.taken)) → Learns s (known_after reply items) t
    by_stop (Some fault) q g = told (MergeStopped k.done fault (owed s k.taken)) g (course_learns s items k.done r refl)
    by_stop None q g = told (Merged k.done (length k.taken) k.stale (owed s k.taken)) g (all_learnt s items r q)

wanting_learns : (s t : State) (items : List Item) (reply : Reply) → IsReached s → MergeWantsRoom s (Merge items) reply t →
    Learns s (known_after reply items) t
wanting_learns s t items reply r w =
    let l = all_learnt s (take w.0 items) r w.1.not_refused in
    subst (λ (x : Reply). Learns s (known_after x items) t) (sym w.1.reply_is)
    (subst (λ (x : State). Learns s (take w.0 items) x) (sym w.1.state_is) l)

-- ---- a Subscribe and a Check

module _ (s t : State) (r : IsReached s) where
  subscribe_effect : (sub : ℕ) (query : Query) (initial overwrite : Bool) (learnt : List Item) →
      t ≡ (subscribing s sub query initial overwrite).1 → Grows s learnt t ⊎ Serves s (Subscribe sub query initial overwrite) t
  subscribe_effect sub query initial overwrite learnt e = by_cause (first_refusal (against_subscribe x)) refl e
    where
      x : SubscribeCase
      x = subscribe_case s sub query overwrite

      part : (b : Bool) → IsPartOf (shown_at_first (held s) b) s.feed.accepted
      part true = λ c h. absurd (Contains-nil c h)
      part false = (held_is_top s r).among

      by_cause : (o : Option Refusal) → first_refusal (against_subscribe x) ≡ o
          → t ≡ (option_map_or {U = Reply × State} (λ refusal. (Refused refusal, s)) o
          (Subscribed (s.stamp + 1) (owed_at_first (held s) sub query initial), subscribes s sub query (shown_at_first (held s) initial))).1
          → Grows s learnt t ⊎ Serves s (Subscribe sub query initial overwrite) t
      by_cause (Some refusal) q f = inl (grows_none s t learnt f)
      by_cause None q f = inr (record {
        sub = sub;
        query = query;
        shown = shown_at_first (held s) initial;
        place = leb-false s.limits.subs sub (missing (against_subscribe x) (by_command ++ by_room) refusals.BadSub q
            (0, omega arith, refl));
        used = eq-eqb sub sub refl;
        part = part initial;
        state_is = f;
      })

  check_effect : (sub max : ℕ) (learnt : List Item) → t ≡ (checking s sub max).1 → Grows s learnt t ⊎ Serves s (Check sub max) t
  check_effect sub max learnt e = by_seer (subscription_at s sub) refl e
    where
      by_items : (seer : Subscription) → subscription_at s sub ≡ Some seer → sub < s.limits.subs → (items : List Item) →
          IsPartOf items (held s) → t ≡ (shows s sub seer items).1 → Grows s learnt t ⊎ Serves s (Check sub max) t
      by_items seer here place [] part f = inl (grows_none s t learnt f)
      by_items seer here place (i ∷ items) part f = inr (record {
        sub = sub;
        query = seer.query;
        shown = seer.shown ++ i ∷ items;
        place = place;
        used = eq-eqb sub sub refl;
        part = λ d h. elim (Contains-append_cases seer.shown (i ∷ items) d h) [
          | inl k ↦ (r.served sub seer here).shown d k
          | inr k ↦ (held_is_top s r).among d (part d k)
        ];
        state_is = f;
      })

      by_cause : (o : Option Subscription) → subscription_at s sub ≡ o → (p : Option Refusal) →
          first_refusal (against_check (check_case s sub max o)) ≡ p
          → t ≡ (option_map_or {U = Reply × State} (λ refusal. (Refused refusal, s)) p
          (option_map_or {U = Reply × State} (λ f. shows s sub f (take max (unseen s f))) o (Refused refusals.NotFound, s))).1 →
          Grows s learnt t ⊎ Serves s (Check sub max) t
      by_cause o here (Some refusal) q f = inl (grows_none s t learnt f)
      by_cause None here None q f = inl (grows_none s t learnt f)
      by_cause (Some seer) here None q f =
          by_items seer here (leb-false s.limits.subs sub
          (missing (against_check (check_case s sub max (Some seer))) (by_command ++ by_room) refusals.BadSub q (0, omega arith, refl)))
          (take max (unseen s seer)) (λ c h. (Contains-from_filter (is_unseen seer.query seer.shown) (held s) c
          (Contains-from_take max (unseen s seer) c h)).0) f

      by_seer : (o : Option Subscription) → subscription_at s sub ≡ o → t ≡ (checking_at s sub max o).1 →
          Grows s learnt t ⊎ Serves s (Check sub max) t
      by_seer o here f = by_cause o here (first_refusal (against_check (check_case s sub max o))) refl f

-- ---- all commands
take_nothing : (n : ℕ) → take {A = Item} n [] ≡ []
take_nothing zero = refl
take_nothing (suc n) = refl

known_none : (reply : Reply) → known_after reply [] ≡ []
known_none (MergeStopped done fault mask) = take_nothing done
known_none _ = refl

known_nothing : (items : List Item) (reply : Reply) → CoversAll items (known_after reply [])
known_nothing items reply x h = absurd (Contains-nil x (subst (λ l. Contains l x) (known_none reply) h))

-- what a step does, and that what was learnt is held
pub record Does (s : State) (command : Command) (reply : Reply) (t : State) : Type 0 where
  pub effect : Effect s command reply t
  pub holds : CoversAll (held t) (learnt_by s command reply)

module _ (s t : State) (r : IsReached s) where
  by_learning : (command : Command) (reply : Reply) → Learns s (learnt_by s command reply) t → Does s command reply t
  by_learning command reply l = record { effect = inl l.grows; holds = l.holds }

  by_reading : (command : Command) (reply : Reply) → brought_by s command ≡ [] → t ≡ s → Does s command reply t
  by_reading command reply e f =
      record {
        effect = inl (grows_none s t (learnt_by s command reply) f);
        holds =
            subst (λ l. CoversAll (held t) (known_after reply l)) (sym e) (known_nothing (held t) reply);
      }

  unread : {X : Type 0} (o : Option X) (f : X → Reply) (reply : Reply) →
      t ≡ (option_map_or {U = Reply × State} (λ x. (f x, s)) o (reply, s)).1 → t ≡ s
  unread (Some x) f reply e = e
  unread None f reply e = e

  by_outcome : (command : Command) (reply : Reply) → IsOutcome (outcome s command) reply t → Does s command reply t
  by_outcome (Publish caller key version value overwrite) reply is =
      by_learning (Publish caller key version value overwrite) reply
      (asked_learns s t r reply (published caller key version overwrite) (Put value) is.reply_is is.state_is)
  by_outcome (Delete caller key version) reply is =
      by_learning (Delete caller key version) reply (asked_learns s t r reply (deleted caller key version) Gone is.reply_is is.state_is)
  by_outcome (Sweep caller owner generation) reply is =
      by_learning (Sweep caller owner generation) reply (swept_by s t r reply caller (floor_of owner generation) is.reply_is is.state_is).0
  by_outcome (Retrieve key) reply is = by_reading (Retrieve key) reply refl is.state_is
  by_outcome (NameOf endpoint) reply is = by_reading (NameOf endpoint) reply refl is.state_is
  by_outcome (Subscribe sub query initial overwrite) reply is =
      record {
        effect = subscribe_effect s t r sub query initial overwrite (known_after reply []) is.state_is;
        holds =
            known_nothing (held t) reply;
      }
  by_outcome (Check sub max) reply is = record
      { effect = check_effect s t r sub max (known_after reply []) is.state_is; holds = known_nothing (held t) reply }
  by_outcome (Since scope at max) reply is = by_reading (Since scope at max) reply refl (unread _ _ _ is.state_is)
  by_outcome (Snapshot scope) reply is = by_reading (Snapshot scope) reply refl (unread _ _ _ is.state_is)
  by_outcome (Page scope after max) reply is = by_reading (Page scope after max) reply refl (unread _ _ _ is.state_is)
  by_outcome (Merge items) reply is = by_learning (Merge items) reply
      (merged_learns s t items reply (first_refusal (against_merge (length items))) r is.reply_is is.state_is)

  -- a refused command teaches nothing
  by_refusal : (command : Command) (refusal : Refusal) → t ≡ s → Does s command (Refused refusal) t
  by_refusal command refusal e = record { effect = inl (grows_none s t [] e); holds = covers_nothing (held t) }

  wanting : (command : Command) (reply : Reply) → MergeWantsRoom s command reply t → Does s command reply t
  wanting (Merge items) reply w = by_learning (Merge items) reply (wanting_learns s t items reply r w)
  wanting (Publish caller key version value overwrite) reply w = absurd w
  wanting (Delete caller key version) reply w = absurd w
  wanting (Sweep caller owner generation) reply w = absurd w
  wanting (Retrieve key) reply w = absurd w
  wanting (NameOf endpoint) reply w = absurd w
  wanting (Subscribe sub query initial overwrite) reply w = absurd w
  wanting (Check sub max) reply w = absurd w
  wanting (Since scope at max) reply w = absurd w
  wanting (Snapshot scope) reply w = absurd w
  wanting (Page scope after max) reply w = absurd w

pub does : (s t : State) (command : Command) (reply : Reply) → IsReached s → Step s command reply t → Does s command reply t
does s t command reply r (inl (inl is)) = by_outcome s t r command reply is
does s t command reply r (inl (inr wants)) =
    subst (λ (x : Reply). Does s command x t) (sym wants.reply_is) (by_refusal s t r command refusals.NoRoom wants.state_is)
does s t command reply r (inr wants) = wanting s t r command reply wants

pub step_has_effect : StepHasEffect
step_has_effect s t command reply r step = (does s t command reply r step).effect

pub sweep_learns_effect : SweepLearnsEffect
sweep_learns_effect s t caller owner generation reply r (inl (inl is)) =
    (swept_by s t r reply caller (floor_of owner generation) is.reply_is is.state_is).1
sweep_learns_effect s t caller owner generation reply r (inl (inr wants)) =
    subst (λ (x : Reply). t ≡ takes_effect s (learnt_by s (Sweep caller owner generation) x)) (sym wants.reply_is)
    (wants.state_is ∙ sym (effect_of_none s))
sweep_learns_effect s t caller owner generation reply r (inr wants) = absurd wants
