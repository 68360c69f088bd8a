-- Messages stay, and are the stores' replies.
use Rattle.std.proofs.Common.{◌≡◌, ℕ, List, [], ◌∷◌, ◌++◌, length, append-nil, append_assoc, None, Some, refl, ap, sym, ◌∙◌, subst, inl}
use Rattle.std.proofs.Common.{inr, Contains}
use Rattle.std.specs.List.{slice_get}
use Rattle.ds_entry.proofs.Members.{Contains-nil, Contains-cons}
use Rattle.ds_machine.specs.declared.command.Command.{Command}
use Rattle.ds_machine.specs.declared.reply.Reply.{Reply}
use Rattle.ds_replica.specs.declared.event.Side.{Side}
use Rattle.ds_replica.specs.declared.event.Holder.TheVariants.{Store, Map}
use Rattle.ds_replica.specs.declared.event.Event.{Event}
use Rattle.ds_replica.specs.declared.event.Event.TheVariants.{Ask, NewMap, Deliver, ClearMap, RestartStore}
use Rattle.ds_replica.specs.declared.outcome.Outcome.{Outcome}
use Rattle.ds_replica.specs.declared.outcome.Outcome.TheVariants.{Replied, Made, MapMade, Merged, Stopped, Cleared, Restarted, Refused}
use Rattle.ds_replica.specs.World.{World}
use Rattle.ds_replica.specs.Happens.{event_fault, Asks, HappenAll}
use Rattle.ds_replica.specs.Bringing.{IsProperEvent}
use Rattle.ds_world.specs.World.{WorldRecord, WorldStands}
use Rattle.ds_world.specs.Run.{EventLeads}
use Rattle.ds_world.specs.Told.{IsTold, AreTold, MessagesStay, RepliesAreKept}

-- ---- messages stay
same : (old new : WorldRecord) → new.messages ≡ old.messages → MessagesStay old new
same old new e = ([], e ∙ sym (append-nil old.messages))

over_two : (old mid new : WorldRecord) → MessagesStay old mid → MessagesStay mid new → MessagesStay old new
over_two old mid new one two = (one.0 ++ two.0, two.1 ∙ ap (λ (l : List Reply). l ++ two.0) one.1 ∙ append_assoc old.messages one.0 two.0)

pub over_one : (event : Event) (outcome : Outcome) (old new : WorldRecord) → IsTold event outcome old new → MessagesStay old new
over_one (Ask side command) (Replied reply) old new told = same old new told.1.1
over_one (Ask side command) (Made k) old new told = (told.1.reply ∷ [], told.1.kept)
over_one (Ask side command) (MapMade j) old new told = same old new told.1
over_one (Ask side command) (Merged counted owed) old new told = same old new told.1
over_one (Ask side command) (Stopped done fault owed) old new told = same old new told.1
over_one (Ask side command) Cleared old new told = same old new told.1
over_one (Ask side command) Restarted old new told = same old new told.1
over_one (Ask side command) (Refused fault) old new told = same old new told.1
over_one (NewMap query) outcome old new told = same old new told
over_one (Deliver k (Store side) count) outcome old new told = same old new told.1
over_one (Deliver k (Map j) count) outcome old new told = same old new told.1
over_one (ClearMap j) outcome old new told = same old new told
over_one (RestartStore side incarnation) outcome old new told = same old new told

pub messages_stay : (old new : WorldRecord) (events : List (Event × Outcome)) → AreTold old events new → MessagesStay old new
messages_stay old new [] told = same old new (ap (λ (v : WorldRecord). v.messages) told)
messages_stay old new (e ∷ events) told = over_two old told.0 new (over_one e.0 e.1 old told.0 told.2)
    (messages_stay told.0 new events told.3)

-- ---- what events name is in its ranges
proper : (event : Event) (outcome : Outcome) (old new : WorldRecord) → IsTold event outcome old new → IsProperEvent event
proper (Ask side command) outcome old new told = told.0
proper (NewMap query) outcome old new told = tt
proper (Deliver k holder count) outcome old new told = tt
proper (ClearMap j) outcome old new told = tt
proper (RestartStore side incarnation) outcome old new told = tt

pub all_proper : (old new : WorldRecord) (events : List (Event × Outcome)) → AreTold old events new → (e : Event × Outcome)
    → Contains events e → IsProperEvent e.0
all_proper old new [] told e h = absurd (Contains-nil e h)
all_proper old new (x ∷ events) told e h = elim (Contains-cons x events e h) [
  | inl q ↦ subst (λ (y : Event × Outcome). IsProperEvent y.0) (sym q) (proper x.0 x.1 old told.0 told.2)
  | inr k ↦ all_proper told.0 new events told.3 e k
]

-- what one event reports, a list of that one event reports
pub told_alone : (event : Event) (outcome : Outcome) (old new : WorldRecord) → EventLeads event outcome old new →
    IsTold event outcome old new → AreTold old ((event, outcome) ∷ []) new
told_alone event outcome old new leads told = (new, leads, told, refl)

-- ---- what two parts of a list report
in_two : (xs ys : List (Event × Outcome)) (old new : WorldRecord) → AreTold old (xs ++ ys) new →
    (mid : WorldRecord) × AreTold old xs mid × AreTold mid ys new
in_two [] ys old new told = (old, refl, told)
in_two (x ∷ xs) ys old new told = let rest = in_two xs ys told.0 new told.3 in (rest.0, (told.0, told.1, told.2, rest.1), rest.2)

-- and of two lists, joined
pub told_on : (xs ys : List (Event × Outcome)) (old mid new : WorldRecord) → AreTold old xs mid → AreTold mid ys new
    → AreTold old (xs ++ ys) new
told_on [] ys old mid new one two = subst (λ (v : WorldRecord). AreTold v ys new) one two
told_on (x ∷ xs) ys old mid new one two = (one.0, one.1, one.2, told_on xs ys one.0 mid new one.3 two)

-- the values stand for worlds in which the events happened
pub happened : (events : List (Event × Outcome)) (old new : WorldRecord) (w : World) → AreTold old events new → WorldStands old w
    → (late : World) × HappenAll w events late × WorldStands new late
happened [] old new w told s = (w, refl, subst (λ (v : WorldRecord). WorldStands v w) (sym told) s)
happened (e ∷ events) old new w told s =
    let one = told.1 w s in
    let rest = happened events told.0 new one.0 told.3 one.2 in
    (rest.0, (one.0, one.1, rest.1), rest.2)

-- ---- the reply that is kept
past : (front : List Reply) (reply : Reply) (rest : List Reply) → slice_get ((front ++ reply ∷ []) ++ rest) (length front) ≡ Some reply
past [] reply rest = refl
past (x ∷ front) reply rest = past front reply rest

-- the Ask whose message is there now
pub record WasAsked (before since : List (Event × Outcome)) (side : Side) (command : Command) (k : ℕ) (w : World) (new : WorldRecord) :
    Type 0 where
  pub mid : World
  pub before_happens : HappenAll w before mid
  pub after : World
  pub stands_not : event_fault mid (Ask side command) ≡ None
  pub asks : Asks mid side command (Made k) after
  pub there : slice_get new.messages k ≡ Some asks.reply
  pub late : World
  pub since_happens : HappenAll after since late
  pub stands : WorldStands new late

pub asked_for : (old new : WorldRecord) (events : List (Event × Outcome)) → AreTold old events new →
    (before since : List (Event × Outcome)) (side : Side) (command : Command) (k : ℕ) (w : World)
    → before ++ (Ask side command, Made k) ∷ since ≡ events → WorldStands old w
    → WasAsked before since side command k w new
asked_for old new events told before since side command k w all s =
    let parts = in_two before ((Ask side command, Made k) ∷ since) old new
    (subst (λ (l : List (Event × Outcome)). AreTold old l new) (sym all) told) in
    let went = happened before old parts.0 w parts.1 s in
    let mid = parts.2.0 in
    let kept = parts.2.2.1 in
    let asked = kept.answered.asks went.0 went.2 in
    let rest = happened since mid new asked.1 parts.2.3 asked.4 in
    let stay = messages_stay mid new since parts.2.3 in
    record {
      mid = went.0;
      before_happens = went.1;
      after = asked.1;
      stands_not = asked.0;
      asks = asked.2;
      there = ap (λ (l : List Reply). slice_get l k) (stay.1 ∙ ap (λ (l : List Reply). l ++ stay.0) kept.kept) ∙
          ap (λ (n : ℕ). slice_get ((parts.0.messages ++ kept.reply ∷ []) ++ stay.0) n) kept.next
          ∙ past parts.0.messages kept.reply stay.0 ∙ ap Some (sym asked.3);
      late = rest.0;
      since_happens = rest.1;
      stands = rest.2;
    }

pub replies_are_kept : (old new : WorldRecord) (events : List (Event × Outcome)) → AreTold old events new → RepliesAreKept old events new
replies_are_kept old new events told before since side command k w all s = let a =
    asked_for old new events told before since side command k w all s in
    (a.mid, a.before_happens, a.after, a.asks, a.there, a.late, a.since_happens, a.stands)
