-- The state of a store that took items by Merges, in order.
use Rattle.std.proofs.Common.{◌≡◌, ℕ, ◌+◌, ◌<◌, ◌≤◌, List, [], ◌∷◌, ◌++◌, length, take, refl, ap, sym, ◌∙◌, subst, inl, inr, ◌⊎◌, arith}
use Rattle.std.proofs.Common.{Contains, append_assoc, length-append}
use Rattle.std.specs.List.{flat_map}
use Rattle.std.proofs.lemmas.List.{append-nil, take-append-le}
use Rattle.std.proofs.Math.Seq.{take-append-add}
use Rattle.std.proofs.lemmas.List.Elements.{Contains-append_left, Contains-append_right}
use Rattle.ds_entry.specs.declared.item.Item.{Item}
use Rattle.ds_join.specs.ItemTop.{IsTop}
use Rattle.ds_machine.specs.State.{State, held}
use Rattle.ds_machine.specs.Machine.{Step}
use Rattle.ds_machine.specs.Reached.{IsReached}
use Rattle.ds_machine.specs.Effect.{learnt_by, known_after}
use Rattle.ds_machine.specs.declared.command.Command.{Command}
use Rattle.ds_machine.specs.declared.command.Command.TheVariants.{Merge}
use Rattle.ds_machine.specs.declared.refusal.Refusal.{Refusal}
use Rattle.ds_machine.specs.declared.reply.Reply.{Reply}
use Rattle.ds_machine.specs.declared.reply.Reply.TheVariants.{Merged, MergeStopped, Refused}
use Rattle.ds_machine.proofs.EffectLemmas.{step_has_effect}
use Rattle.ds_machine.proofs.KnownLemmas.{steps_stay_reached, known_stays_held, accepted_cases}
use Rattle.ds_machine.proofs.SaysLemmas.{refused_says, merged_says, merge_stopped_says}
use Rattle.ds_replica.specs.Delivery.{Tally, OthersFollow, GroupsAreMerged, StoreTakes}
use Rattle.ds_replica.specs.Known.{took_one, took_all}
use Rattle.ds_replica.proofs.LeftLemmas.{step_left}

pub step_accepts : (s t : State) (command : Command) (reply : Reply) → IsReached s → Step s command reply t → (x : Item) →
    Contains t.feed.accepted x → Contains s.feed.accepted x ⊎ Contains (learnt_by s command reply) x
step_accepts s t command reply r step = accepted_cases s t command reply (step_has_effect s t command reply r step)

-- the store `t` is the store `s` after these items, one by one
pub record Gone (s : State) (items : List Item) (t : State) : Type 0 where
  pub reached : IsReached t
  pub state_is : t ≡ took_all s items
  pub top : (known : List Item) → IsTop (held s) known → IsTop (held t) (known ++ items)
  pub accepted : (x : Item) → Contains t.feed.accepted x → Contains s.feed.accepted x ⊎ Contains items x

gone_nothing : (s t : State) → IsReached s → t ≡ s → Gone s [] t
gone_nothing s t r e =
    record {
      reached = subst IsReached (sym e) r;
      state_is = e;
      top = λ known k. subst (λ (x : State). IsTop (held x) (known ++ [])) (sym e) (subst (IsTop (held s)) (sym (append-nil known)) k);
      accepted = λ x h. inl (subst (λ (y : State). Contains y.feed.accepted x) e h);
    }

took_append : (s : State) (xs ys : List Item) → took_all s (xs ++ ys) ≡ took_all (took_all s xs) ys
took_append s [] ys = refl
took_append s (x ∷ xs) ys = took_append (took_one s x) xs ys

gone_on : (s m t : State) (xs ys : List Item) → Gone s xs m → Gone m ys t → Gone s (xs ++ ys) t
gone_on s m t xs ys g k =
    record {
      reached = k.reached;
      state_is = k.state_is ∙ ap (λ (x : State). took_all x ys) g.state_is ∙ sym (took_append s xs ys);
      top = λ known h. subst (IsTop (held t)) (append_assoc known xs ys) (k.top (known ++ xs) (g.top known h));
      accepted = λ x h. elim (k.accepted x h) [
        | inl l ↦ (elim (g.accepted x l) [ inl a ↦ inl a | inr b ↦ inr (Contains-append_left xs ys x b) ])
        | inr l ↦ inr (Contains-append_right xs ys x l)
      ];
    }

-- a Merge that was done, or stopped
module _ (s t : State) (group : List Item) (r : IsReached s) where
  gone_by : (reply : Reply) (items : List Item) → known_after reply group ≡ items → took_all s items ≡ t → Step s (Merge group) reply t →
      Gone s items t
  gone_by reply items e f step =
      record {
        reached = steps_stay_reached s t (Merge group) reply r step;
        state_is = sym f;
        top = λ known k. subst (λ l. IsTop (held t) (known ++ l)) e (known_stays_held s t (Merge group) reply known r step k);
        accepted = λ x h. elim (step_accepts s t (Merge group) reply r step x h)
            [ inl a ↦ inl a | inr b ↦ inr (subst (λ l. Contains l x) e b) ];
      }

  gone_merged : (done taken stale owed : ℕ) → Step s (Merge group) (Merged done taken stale owed) t → Gone s group t
  gone_merged done taken stale owed step = gone_by (Merged done taken stale owed) group refl
      (sym (step_left s t (Merge group) (Merged done taken stale owed) r step)) step

  gone_stopped : (done : ℕ) (fault : Refusal) (owed : ℕ) → Step s (Merge group) (MergeStopped done fault owed) t →
      Gone s (take done group) t
  gone_stopped done fault owed step = gone_by (MergeStopped done fault owed) (take done group) refl
      (sym (step_left s t (Merge group) (MergeStopped done fault owed) r step)) step

-- ---- Merges of groups

-- the items that the tally counts as done were merged, and there are at least that many
pub record Went (s : State) (items : List Item) (tally : Tally) (new : State) : Type 0 where
  pub gone : Gone s (take tally.count.done items) new
  pub within : tally.count.done ≤ length items

module _ (s mid new : State) (group rest : List Item) (r : IsReached s) (Others : Tally → State → Type 0) where
  went_on : (reply : Reply) (tally : Tally) → ((later : Tally) → IsReached mid → Others later new → Went mid rest later new) →
      Step s (Merge group) reply mid → OthersFollow reply mid Others tally new → Went s (group ++ rest) tally new
  went_on (Merged done taken stale owed) tally others step f =
      let g = gone_merged s mid group r done taken stale owed step in
      let w = others f.0 g.reached f.1 in
      let all : done ≡ length group = (merged_says s mid group done taken stale owed r step).all in
      let count : tally.count.done ≡ length group + f.0.count.done =
      ap (λ (t : Tally). t.count.done) f.2 ∙ ap (λ n. n + f.0.count.done) all in
      record {
        gone = subst (λ l. Gone s l new) (sym (ap (λ n. take n (group ++ rest)) count ∙ take-append-add group rest f.0.count.done))
            (gone_on s mid new group (take f.0.count.done rest) g w.gone);
        within = (let l : length (group ++ rest) ≡ length group + length rest = length-append group rest in
            omega (arith, count, l, w.within));
      }
  went_on (MergeStopped done fault owed) tally others step f =
      let g = gone_stopped s mid group r done fault owed step in
      let few : done < length group = (merge_stopped_says s mid group done fault owed r step).some_left in
      let count : tally.count.done ≡ done = ap (λ (t : Tally). t.count.done) f.0 in
      let le : done ≤ length group = omega (arith, few) in
      let same : take tally.count.done (group ++ rest) ≡ take done group =
      ap (λ n. take n (group ++ rest)) count ∙ take-append-le done group rest le in
      record {
        gone = subst (Gone s (take tally.count.done (group ++ rest))) (sym f.1) (subst (λ l. Gone s l mid) (sym same) g);
        within = (let l : length (group ++ rest) ≡ length group + length rest = length-append group rest in omega (arith, count, few, l));
      }
  went_on (Refused fault) tally others step f =
      let count : tally.count.done ≡ 0 = ap (λ (t : Tally). t.count.done) f.0 in
      let g = gone_nothing s new r (f.1 ∙ refused_says s mid (Merge group) fault step) in
      record {
        gone = subst (λ n. Gone s (take n (group ++ rest)) new) (sym count) g;
        within = omega (arith, count);
      }
  went_on _ tally others step f = absurd f

pub merges_went : (groups : List (List Item)) (s new : State) (tally : Tally) → IsReached s → GroupsAreMerged s groups tally new →
    Went s (flat_map (λ group. group) groups) tally new
merges_went [] s new tally r m =
    let count : tally.count.done ≡ 0 = ap (λ (t : Tally). t.count.done) m.0 in
    record { gone = subst (λ n. Gone s (take n []) new) (sym count) (gone_nothing s new r m.1); within = omega (arith, count) }
merges_went (group ∷ groups) s new tally r m =
    went_on s m.1 new group (flat_map (λ group. group) groups) r (λ t n. GroupsAreMerged m.1 groups t n) m.0 tally
    (λ later q a. merges_went groups m.1 new later q a) m.2 m.3

pub store_went : (s new : State) (items : List Item) (tally : Tally) → IsReached s → StoreTakes s items tally new → Went s items tally new
store_went s new items tally r t = subst (λ l. Went s l tally new) t.all (merges_went t.groups s new tally r t.merged)
