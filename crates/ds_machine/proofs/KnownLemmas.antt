-- What lasts: the feed only grows, what is held is the top of what is known, and floors hold.
use Rattle.std.proofs.Common.{◌≡◌, ◌+◌, ◌≤◌, true, List, [], ◌∷◌, ◌++◌, refl, ap, sym, ◌∙◌, subst, inl, inr, ◌⊎◌, arith, Contains}
use Rattle.std.proofs.Common.{append_assoc}
use Rattle.std.proofs.lemmas.List.{append-nil}
use Rattle.std.proofs.lemmas.List.Elements.{Contains-append_left, Contains-append_right, Contains-append_cases}
use Rattle.ds_entry.specs.ItemCovers.{covers}
use Rattle.ds_entry.specs.declared.item.Item.{Item}
use Rattle.ds_entry.specs.declared.item.Item.TheVariants.{Floor as Floored}
use Rattle.ds_entry.proofs.ItemLemmas.{covers-trans}
use Rattle.ds_join.specs.ItemTop.{IsTop, IsPartOf, CoversAll}
use Rattle.ds_join.proofs.ItemTopLemmas.{held_apart, greatest_floor, void_isnt_held}
use Rattle.ds_machine.specs.State.{State, held}
use Rattle.ds_machine.specs.Reached.{IsReached}
use Rattle.ds_machine.specs.Effect.{AreNews, Effect, GoesOn, learnt_by, StepsStayReached, RunsStayReached, GoesOnSame, GoesOnLater}
use Rattle.ds_machine.specs.Effect.{StepsGoOn, RunsGoOn, LearntIsHeld, KnownStaysHeld}
use Rattle.ds_machine.specs.FloorLaws.{AcceptedFloorStands, FloorStandsOverRuns}
use Rattle.ds_machine.specs.declared.command.Command.{Command}
use Rattle.ds_machine.specs.declared.reply.Reply.{Reply}
use Rattle.ds_machine.proofs.ReachedLemmas.{held_is_top, reached_served}
use Rattle.ds_machine.proofs.CourseLemmas.{reached_grown}
use Rattle.ds_machine.proofs.EffectLemmas.{does}

-- ---- each state is reached
reached_after : (s t : State) (command : Command) (reply : Reply) → IsReached s → Effect s command reply t → IsReached t
reached_after s t command reply r (inl g) = reached_grown s t (learnt_by s command reply) r g
reached_after s t command reply r (inr w) = subst IsReached (sym w.state_is) (reached_served s w.sub w.query w.shown r w.place w.part)

pub steps_stay_reached : StepsStayReached
steps_stay_reached s t command reply r step = reached_after s t command reply r (does s t command reply r step).effect

pub runs_stay_reached : RunsStayReached
runs_stay_reached s t [] [] r run = subst IsReached (sym run) r
runs_stay_reached s t (command ∷ commands) (reply ∷ replies) r run =
    runs_stay_reached run.0 t commands replies (steps_stay_reached s run.0 command reply r run.1) run.2
runs_stay_reached s t [] (reply ∷ replies) r run = absurd run
runs_stay_reached s t (command ∷ commands) [] r run = absurd run

-- ---- the store grows
news_append : (accepted xs ys : List Item) → AreNews accepted xs → AreNews (accepted ++ xs) ys → AreNews accepted (xs ++ ys)
news_append accepted [] ys n m = subst (λ l. AreNews l ys) (append-nil accepted) m
news_append accepted (i ∷ xs) ys n m =
    (n.0, news_append (accepted ++ i ∷ []) xs ys n.1 (subst (λ l. AreNews l ys) (sym (append_assoc accepted (i ∷ []) xs)) m))

goes_after : (s t : State) (command : Command) (reply : Reply) → Effect s command reply t → GoesOn s t
goes_after s t command reply (inl g) =
    record {
      limits = ap (λ (x : State). x.limits) g.state_is;
      incarnation = ap (λ (x : State). x.feed.incarnation) g.state_is;
      first = ap (λ (x : State). x.feed.first) g.state_is;
      ring = ap (λ (x : State). x.feed.ring) g.state_is;
      grown = (g.items, g.news, ap (λ (x : State). x.feed.accepted) g.state_is);
      stamp = (let same : t.stamp ≡ s.stamp = ap (λ (x : State). x.stamp) g.state_is in omega (arith, same));
    }
goes_after s t command reply (inr w) =
    record {
      limits = ap (λ (x : State). x.limits) w.state_is;
      incarnation = ap (λ (x : State). x.feed.incarnation) w.state_is;
      first = ap (λ (x : State). x.feed.first) w.state_is;
      ring = ap (λ (x : State). x.feed.ring) w.state_is;
      grown = ([], tt, ap (λ (x : State). x.feed.accepted) w.state_is ∙ sym (append-nil s.feed.accepted));
      stamp = (let next : t.stamp ≡ s.stamp + 1 = ap (λ (x : State). x.stamp) w.state_is in omega (arith, next));
    }

goes_same : (s t : State) → t ≡ s → GoesOn s t
goes_same s t e =
    record {
      limits = ap (λ (x : State). x.limits) e;
      incarnation = ap (λ (x : State). x.feed.incarnation) e;
      first = ap (λ (x : State). x.feed.first) e;
      ring = ap (λ (x : State). x.feed.ring) e;
      grown = ([], tt, ap (λ (x : State). x.feed.accepted) e ∙ sym (append-nil s.feed.accepted));
      stamp = (let same : t.stamp ≡ s.stamp = ap (λ (x : State). x.stamp) e in omega (arith, same));
    }

pub goes_on_later : GoesOnLater
goes_on_later s m t a b =
    record {
      limits = b.limits ∙ a.limits;
      incarnation = b.incarnation ∙ a.incarnation;
      first = b.first ∙ a.first;
      ring = b.ring ∙ a.ring;
      grown = (
        a.grown.0 ++ b.grown.0,
        news_append s.feed.accepted a.grown.0 b.grown.0 a.grown.1 (subst (λ l. AreNews l b.grown.0) a.grown.2 b.grown.1),
        b.grown.2 ∙ ap (λ l. l ++ b.grown.0) a.grown.2 ∙ append_assoc s.feed.accepted a.grown.0 b.grown.0,
      );
      stamp = (let one : s.stamp ≤ m.stamp = a.stamp in let two : m.stamp ≤ t.stamp = b.stamp in omega (arith, one, two));
    }

pub goes_on_same : GoesOnSame
goes_on_same s = goes_same s s refl

pub steps_go_on : StepsGoOn
steps_go_on s t command reply r step = goes_after s t command reply (does s t command reply r step).effect

pub runs_go_on : RunsGoOn
runs_go_on s t [] [] r run = goes_same s t run
runs_go_on s t (command ∷ commands) (reply ∷ replies) r run =
    goes_on_later s run.0 t (steps_go_on s run.0 command reply r run.1)
    (runs_go_on run.0 t commands replies (steps_stay_reached s run.0 command reply r run.1) run.2)
runs_go_on s t [] (reply ∷ replies) r run = absurd run
runs_go_on s t (command ∷ commands) [] r run = absurd run

-- ---- what is known is held
pub learnt_is_held : LearntIsHeld
learnt_is_held s t command reply r step = (does s t command reply r step).holds

-- what took effect was learnt
pub accepted_cases : (s t : State) (command : Command) (reply : Reply) → Effect s command reply t → (x : Item) →
    Contains t.feed.accepted x → Contains s.feed.accepted x ⊎ Contains (learnt_by s command reply) x
accepted_cases s t command reply (inl g) x h =
    elim (Contains-append_cases s.feed.accepted g.items x (subst (λ (y : State). Contains y.feed.accepted x) g.state_is h))
    [ inl k ↦ inl k | inr k ↦ inr (g.part x k) ]
accepted_cases s t command reply (inr w) x h = inl (subst (λ (y : State). Contains y.feed.accepted x) w.state_is h)

later_part : (s t : State) → GoesOn s t → IsPartOf s.feed.accepted t.feed.accepted
later_part s t g i h = subst (λ l. Contains l i) (sym g.grown.2) (Contains-append_left s.feed.accepted g.grown.0 i h)

module _ (s t : State) (r : IsReached s) (q : IsReached t) (part : IsPartOf s.feed.accepted t.feed.accepted) where
  -- what is held now and was accepted then was held then
  held_then : (x : Item) → Contains (held t) x → Contains s.feed.accepted x → Contains (held s) x
  held_then x h a =
      let y = (held_is_top s r).greatest x a in
      let was : Contains s.feed.accepted y.0 = (held_is_top s r).among y.0 y.1 in
      let z = (held_is_top t q).greatest y.0 (part y.0 was) in
      let same : z.0 ≡ x = held_apart (held t) t.feed.accepted (held_is_top t q) x z.0 h z.1 (covers-trans z.0 y.0 x z.2 y.2) in
      let under : covers x y.0 ≡ true = subst (λ (i : Item). covers i y.0 ≡ true) same z.2 in
      subst (Contains (held s)) (sym (r.exact x y.0 a was y.2 under)) y.1

  known_stays : (known learnt : List Item) → ((x : Item) → Contains t.feed.accepted x → Contains s.feed.accepted x ⊎ Contains learnt x) →
      CoversAll (held t) learnt → IsTop (held s) known → IsTop (held t) (known ++ learnt)
  known_stays known learnt cases holds k = record
      { in_order = (held_is_top t q).in_order; among = among; greatest = greatest; none_void = (held_is_top t q).none_void }
    where
      among : IsPartOf (held t) (known ++ learnt)
      among x h = elim (cases x ((held_is_top t q).among x h)) [
        | inl a ↦ Contains-append_left known learnt x (k.among x (held_then x h a))
        | inr a ↦ Contains-append_right known learnt x a
      ]

      greatest : CoversAll (held t) (known ++ learnt)
      greatest x h = elim (Contains-append_cases known learnt x h) [
        | inl a ↦
            (let y = k.greatest x a in
            let z = (held_is_top t q).greatest y.0 (part y.0 ((held_is_top s r).among y.0 y.1)) in
            (z.0, z.1, covers-trans z.0 y.0 x z.2 y.2))
        | inr a ↦ holds x a
      ]

pub known_stays_held : KnownStaysHeld
known_stays_held s t command reply known r step k =
    let d = does s t command reply r step in
    known_stays s t r (reached_after s t command reply r d.effect) (later_part s t (goes_after s t command reply d.effect)) known
    (learnt_by s command reply) (accepted_cases s t command reply d.effect) d.holds k

-- ---- floors
pub accepted_floor_stands : AcceptedFloorStands
accepted_floor_stands s f r h =
    record {
      kept = greatest_floor s.feed.accepted (held s) f (held_is_top s r) h;
      dropped = λ c k. void_isnt_held s.feed.accepted (held s) f c (held_is_top s r) h k;
    }

pub floor_stands_over_runs : FloorStandsOverRuns
floor_stands_over_runs s t f commands replies r h run =
    accepted_floor_stands t f (runs_stay_reached s t commands replies r run)
    (later_part s t (runs_go_on s t commands replies r run) (Floored f) ((held_is_top s r).among (Floored f) h))
