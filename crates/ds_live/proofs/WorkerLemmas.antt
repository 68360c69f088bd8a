-- Workers that come back.
use Rattle.std.proofs.Common.{◌≡◌, ℕ, suc, ◌+◌, ◌/◌, ◌<◌, Bool, true, List, [], ◌∷◌, ◌++◌, refl, ◌∙◌, sym, subst, ap, inl, inr, arith}
use Rattle.std.proofs.Common.{add-one, length-append, Result, Ok, Err, IfErr, IsErrAnd}
use Rattle.history.specs.declared.entry.Entry.{Entry}
use Rattle.desk_rule.specs.declared.view.View.{View}
use Rattle.desk_rule.proofs.ListLemmas.{all_append}
use Rattle.desk.specs.declared.pass.Sight.{Ghosts}
use Rattle.ds_machine.specs.declared.command.Command.{Command}
use Rattle.ds_machine.specs.declared.reply.Reply.{Reply}
use Rattle.ds_pattern.specs.declared.query.Query.{Query}
use Rattle.desk.specs.Calls.{SameNotes, Sees, TakesPending}
use Rattle.desk_store.specs.Record.{Boxed, PassOrigin, PassRecord, is_content, pass_record}
use Rattle.desk_store.proofs.PassLemmas.{sees_made}
use Rattle.desk_store.proofs.RecordLemmas.{made_more, made_none, made_sees_more}
use Rattle.desk_store.specs.KeepsUp.{KeepsUpWith}
use Rattle.desk_store.proofs.LawLemmas.{keeps_up_later}
use Rattle.ds_store.specs.Turns.{Turn}
use Rattle.desk_store.specs.Follower.{FollowerRecord}
use Rattle.desk_store.specs.FollowerCalls.{IsOfFollower}
use Rattle.desk_store.specs.Refresh.{AreOfFollower, CallsOnly}
use Rattle.ds_live.specs.declared.task.Task.{Task}
use Rattle.ds_live.specs.declared.task.Task.TheVariants.{Exchange, Follow, Publish}
use Rattle.ds_live.specs.declared.worker.Worker.{Worker}
use Rattle.ds_live.specs.Commands.{each_below, publisher_label, publisher_number}
use Rattle.ds_live.specs.Homes.{Home, IsOfHome}
use Rattle.desk_store.specs.RefreshFaults.{IsRefreshFault}
use Rattle.desk_store.specs.declared.refresh_fault.RefreshFault.{RefreshFault}
use Rattle.ds_live.specs.Turns.{FailsFollowing, HasCalled, HasFollowed, HasRefreshed, WasAccepted}
use Rattle.ds_live.specs.declared.worker_fault.WorkerFault.{WorkerFault}
use Rattle.ds_live.specs.declared.worker_fault.WorkerFault.TheVariants as faults
use Rattle.ds_live.specs.Workers.{ComesBack, EndsBy, FailsToBegin, FailsTurn, IsTask, LetsThrough, StorePass, TakesTask, TurnTaken}
use Rattle.ds_live.specs.Workers.{TookTask, TookTurns, plain_task}
use Rattle.ds_live.proofs.TurnLemmas.{called_more, called_none, more_accepted, none_accepted, only_later, refreshed_later}

-- no call changes the desk of a pass, nor its notes
pub from_called : (home : Home) (p q : PassRecord) → IsOfHome home p → HasCalled p q → IsOfHome home q
from_called home p q from called = record {
  desk_is = ap (λ (o : PassOrigin). o.desk) called.1.same ∙ from.desk_is;
  content_is = called.1.same_opening ∙ from.content_is;
  first_is = ap (λ (o : PassOrigin). o.first) called.1.same ∙ from.first_is;
  none_made = ap (λ (o : PassOrigin). o.made) called.1.same ∙ from.none_made;
  none_learnt = ap (λ (o : PassOrigin). o.learnt) called.1.same ∙ from.none_learnt;
}

module _ {Z : Type 0} {G : Ghosts (View (Boxed Z) Command Reply)} where
  pub is_back : (w : Worker (StorePass Z G)) → ComesBack w w
  is_back w =
      record
      { same_index = refl; same_turns = refl; same_others = refl; called = called_none (pass_record w.pass); still = λ first second is. is }

  pub back_again : (u v w : Worker (StorePass Z G)) → ComesBack u v → ComesBack v w → ComesBack u w
  back_again u v w a b = record {
    same_index = b.same_index ∙ a.same_index;
    same_turns = b.same_turns ∙ a.same_turns;
    same_others = b.same_others ∙ a.same_others;
    called = called_more (pass_record u.pass) (pass_record v.pass) (pass_record w.pass) a.called b.called;
    still = λ first second is. b.still first second (a.still first second is);
  }

  -- before the first turn, of a worker that isn't a publisher
  pub took_none : (second : Home) (index : ℕ) (pass : StorePass Z G) (task : Task (StorePass Z G)) → ((task ≡ Publish) → ⊥) →
      IsTask second index pass task
      → TookTask index 0 (pass_record pass) (pass_record pass) (plain_task task) (plain_task task)
  took_none second index pass Publish other is = absurd (other refl)
  took_none second index pass (Follow f) other is = record {
    own = [];
    made = made_none (pass_record pass);
    many = omega arith;
    few = omega arith;
    theirs = tt;
    keeps = is;
    same = record { sub = refl; query = refl };
  }
  took_none second index pass (Exchange s cursor) other is = (refl, refl, refl)

  -- a publisher's label
  pub begun : (index : ℕ) (p q : PassRecord) (task : Task (StorePass Z G)) → task ≡ Publish → WasAccepted p q (publisher_label index) →
      TookTask index 0 p q (plain_task task) (plain_task task)
  begun index p q Publish is label = more_accepted p p q [] (publisher_label index) (none_accepted p) label
  begun index p q (Follow f) is label = absurd (cc)
  begun index p q (Exchange s cursor) is label = absurd (cc)

-- ---- a follower's turn that failed
pub follow_failed : {R : Type 0} (p m q : PassRecord) (f : FollowerRecord) (result : Result R WorkerFault) (refresh : RefreshFault) →
    IsErrAnd result (λ x. x ≡ faults.Refresh refresh)
    → IsRefreshFault 8 m q f refresh → CallsOnly p q f 8 → IfErr result (FailsFollowing p q f)
follow_failed p m q f (Ok r) refresh is fails only = absurd is
follow_failed p m q f (Err x) refresh is fails only = inr (refresh, m, is, fails, only)

-- ---- a pass that looked, or did nothing
module _ {Z : Type 0} {G : Ghosts (View (Boxed Z) Command Reply)} (p m : StorePass Z G) where
  pub same_called : m ≡ p → HasCalled (pass_record p) (pass_record m)
  same_called e = subst (λ (x : StorePass Z G). HasCalled (pass_record p) (pass_record x)) (sym e) (called_none (pass_record p))

  pub followed : (q : StorePass Z G) (f : FollowerRecord) (sub bits : ℕ) → sub ≡ f.sub → TakesPending p m (sub / 8) bits →
      HasRefreshed (pass_record m) (pass_record q) f → HasFollowed p q f
  followed q f sub bits same takes refreshed =
      record { mid = m; bits = bits; takes = subst (λ (n : ℕ). TakesPending p m (n / 8) bits) same takes; refreshed = refreshed }

  module _ (sees : Sees is_content Turn p m) (notes : SameNotes p m) where
    pub looked_keeps : (f : FollowerRecord) → KeepsUpWith (pass_record p) f → KeepsUpWith (pass_record m) f
    looked_keeps f keeps = keeps_up_later (pass_record p) (pass_record m) f
        (made_sees_more (pass_record p) (pass_record m) [] (sees_made p m sees notes)) keeps

    pub looked_called : (q : PassRecord) → HasCalled (pass_record m) q → HasCalled (pass_record p) q
    looked_called q called = called_more (pass_record p) (pass_record m) q ([], sees_made p m sees notes) called

    pub looked_only : (q : PassRecord) (f : FollowerRecord) (limit : ℕ) → CallsOnly (pass_record m) q f limit →
        CallsOnly (pass_record p) q f limit
    looked_only q f limit h = only_later (pass_record p) (pass_record m) q f limit (sees_made p m sees notes) h

    pub looked_refreshed : (q : PassRecord) (f : FollowerRecord) → HasRefreshed (pass_record m) q f → HasRefreshed (pass_record p) q f
    looked_refreshed q f h = refreshed_later (pass_record p) (pass_record m) q f (sees_made p m sees notes) h

-- the calls of a follower, after its calls
pub theirs_both : (f g : FollowerRecord) (own more : List (Entry Command Reply)) → g.sub ≡ f.sub → g.map.query ≡ f.map.query →
    AreOfFollower f.sub f.map.query own
    → AreOfFollower g.sub g.map.query more → AreOfFollower f.sub f.map.query (own ++ more)
theirs_both f g own more sub query a b = all_append (λ (e : Entry Command Reply). IsOfFollower f.sub f.map.query e.command) own more a
    (subst (λ (n : ℕ). AreOfFollower n f.map.query more) sub (subst (λ (q : Query). AreOfFollower g.sub q more) query b))

-- one turn more
pub took_more : (index count : ℕ) (p q r : PassRecord) (t u w : Task PassRecord) → TookTask index count p q t u →
    TakesTask index count q r u w → TookTask index (suc count) p r t w
took_more index count p q r Publish Publish Publish a b =
    more_accepted p q r (publisher_label index ∷ each_below (publisher_number index) count) (publisher_number index count) a b
took_more index count p q r Publish Publish (Follow h) a b = absurd b
took_more index count p q r Publish Publish (Exchange o next) a b = absurd b
took_more index count p q r Publish (Follow g) w a b = absurd a
took_more index count p q r Publish (Exchange o mid) w a b = absurd a
took_more index count p q r (Follow f) Publish w a b = absurd a
took_more index count p q r (Follow f) (Follow g) Publish a b = absurd b
took_more index count p q r (Follow f) (Follow g) (Follow h) a b = record {
  own = a.own ++ b.0.own;
  made = made_more p q r a.own b.0.own a.made b.0.made;
  many = omega (arith, a.many, b.0.some, length-append a.own b.0.own);
  few = omega (arith, a.few, b.0.few, length-append a.own b.0.own);
  theirs = theirs_both f g a.own b.0.own a.same.sub a.same.query a.theirs b.0.theirs;
  keeps = b.1;
  same = record { sub = b.2.sub ∙ a.same.sub; query = b.2.query ∙ a.same.query };
}
took_more index count p q r (Follow f) (Follow g) (Exchange o next) a b = absurd b
took_more index count p q r (Follow f) (Exchange o mid) w a b = absurd a
took_more index count p q r (Exchange o from) Publish w a b = absurd a
took_more index count p q r (Exchange o from) (Follow g) w a b = absurd a
took_more index count p q r (Exchange o from) (Exchange s mid) Publish a b = absurd b
took_more index count p q r (Exchange o from) (Exchange s mid) (Follow h) a b = absurd b
took_more index count p q r (Exchange o from) (Exchange s mid) (Exchange v next) a b = (q, s, mid, b.0, a, b.1)

pub turns_more : (v u w : Worker PassRecord) (count : ℕ) → u.index ≡ v.index → TookTurns count v u → TurnTaken count u w →
    TookTurns (count + 1) v w
turns_more v u w count same a b = subst (λ (n : ℕ). TookTurns n v w) (sym (add-one count))
    (took_more v.index count v.pass u.pass w.pass v.task u.task w.task a
    (subst (λ (i : ℕ). TakesTask i count u.pass w.pass u.task w.task) same b))

module _ (answers : ℕ → ℕ → Bool → Type 0) where
  pub through_more : (index own count : ℕ) → own ≡ index → LetsThrough answers index count → answers own count true →
      LetsThrough answers index (count + 1)
  through_more index own count same a b = subst (λ (n : ℕ). LetsThrough answers index n) (sym (add-one count))
      (a, subst (λ (i : ℕ). answers i count true) same b)

  -- ended early
  pub ended_by_turn : (v u w : Worker PassRecord) (count : ℕ) (fault : WorkerFault) → count < v.turns → TookTurns count v u →
      u.index ≡ v.index → FailsTurn count u w fault → EndsBy answers v w fault
  ended_by_turn v u w count fault few took same fails = inr (inr (inl (count, few, u, took, same, fails)))

  pub ended_by_label : (v w : Worker PassRecord) (fault : WorkerFault) → FailsToBegin v w fault → EndsBy answers v w fault
  ended_by_label v w fault fails = inr (inr (inr fails))
