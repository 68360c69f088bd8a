-- That all calls are the follower's, whatever is answered.
use Rattle.std.proofs.Common.{ℕ, ◌<◌, ◌≤◌, List, [], ◌∷◌, ◌++◌, Option, Some, None, subst, inl, inr, arith, length-append}
use Rattle.history.specs.declared.entry.Entry.{Entry}
use Rattle.ds_pattern.specs.declared.query.Query.{Query}
use Rattle.ds_machine.specs.declared.command.Command.{Command}
use Rattle.ds_machine.specs.declared.reply.Reply.{Reply}
use Rattle.desk_store.specs.Record.{PassRecord}
use Rattle.desk_store.proofs.RecordLemmas.{made_more, made_none}
use Rattle.desk_store.specs.Follower.{FollowerRecord}
use Rattle.desk_store.specs.FollowerCalls.{AreOpenCalls, IsOfFollower, IsOpenCall}
use Rattle.desk_store.specs.Refresh.{AreOfFollower, CallsOnly, HasGone}

of_open : (sub : ℕ) (query : Query) (old new : Option ℕ) (e : Entry Command Reply) → IsOpenCall sub query old e new →
    IsOfFollower sub query e.command
of_open sub query None None e t = absurd t
of_open sub query None (Some new) e t = inl t.command
of_open sub query (Some stamp) (Some new) e t = inr t.checks.command
of_open sub query (Some stamp) None e t = inr t.checks.command

pub all_open : (sub : ℕ) (query : Query) (old new : Option ℕ) (own : List (Entry Command Reply)) → AreOpenCalls sub query old own new →
    AreOfFollower sub query own
all_open sub query old new [] t = tt
all_open sub query old new (e ∷ own) t = (of_open sub query old t.0 e t.1, all_open sub query t.0 new own t.2)

pub of_both : (sub : ℕ) (query : Query) (own more : List (Entry Command Reply)) → AreOfFollower sub query own →
    AreOfFollower sub query more → AreOfFollower sub query (own ++ more)
of_both sub query [] more a b = b
of_both sub query (e ∷ own) more a b = (a.0, of_both sub query own more a.1 b)

-- ---- before any call
pub only_none : (p : PassRecord) (f : FollowerRecord) (limit : ℕ) → CallsOnly p p f limit
only_none p f limit = record { own = []; made = made_none p; few = omega arith; theirs = tt }

-- ---- after calls that were open
module _ (p q : PassRecord) (f g : FollowerRecord) (count : ℕ) (gone : HasGone p q f g count) where
  pub only_gone : (limit : ℕ) → count ≤ limit → CallsOnly p q f limit
  only_gone limit few =
      record {
        own = gone.own;
        made = gone.made;
        few = omega (arith, few, gone.all);
        theirs =
            all_open f.sub f.map.query f.stamp g.stamp gone.own gone.open_calls;
      }

  pub only_more : (r : PassRecord) (limit : ℕ) → count < limit → CallsOnly q r g 1 → CallsOnly p r f limit
  only_more r limit few t =
      let theirs : AreOfFollower f.sub f.map.query t.own =
      subst (λ (x : Query). AreOfFollower f.sub x t.own) gone.same.query
      (subst (λ (s : ℕ). AreOfFollower s g.map.query t.own) gone.same.sub t.theirs) in
      record {
        own = gone.own ++ t.own;
        made = made_more p q r gone.own t.own gone.made t.made;
        few = omega (arith, few, gone.all, t.few, length-append gone.own t.own);
        theirs = of_both f.sub f.map.query gone.own t.own (all_open f.sub f.map.query f.stamp g.stamp gone.own gone.open_calls) theirs;
      }
