-- One call of a refresh after the other.
use Rattle.std.proofs.Common.{ℕ, ◌+◌, ◌<◌, List, [], ◌∷◌, ◌++◌, Option, Some, None, refl, sym, ◌∙◌, subst, inl, inr, arith, length-append}
use Rattle.history.specs.declared.entry.Entry.{Entry}
use Rattle.ds_pattern.specs.declared.query.Query.{Query}
use Rattle.ds_machine.specs.declared.command.Command.{Command}
use Rattle.ds_machine.specs.declared.reply.Reply.{Reply}
use Rattle.desk_store.specs.Record.{PassRecord}
use Rattle.desk_store.specs.Called.{HadAccepted, IsAccepted}
use Rattle.desk_store.proofs.RecordLemmas.{accepted_first, accepted_last, made_above, made_more, made_none}
use Rattle.desk_store.specs.declared.refreshing.Fresh.TheVariants.{UpTo, More}
use Rattle.desk_store.specs.Follower.{FollowerRecord, IsSameFollower}
use Rattle.desk_store.specs.FollowerCalls.{AreOpenCalls, ChecksLast, IsOpenCall}
use Rattle.desk_store.specs.KeepsUp.{KeepsUpWith}
use Rattle.desk_store.specs.Refresh.{CallsOnly, EndsBy, GoesOnBy, HasGone, KeepsMap, Refreshes}

open_more : (sub : ℕ) (query : Query) (old mid new : Option ℕ) (own : List (Entry Command Reply)) (e : Entry Command Reply) →
    AreOpenCalls sub query old own mid →
    IsOpenCall sub query mid e new → AreOpenCalls sub query old (own ++ e ∷ []) new
open_more sub query old mid new [] e run call = (new, subst (λ (o : Option ℕ). IsOpenCall sub query o e new) run call, refl)
open_more sub query old mid new (x ∷ own) e run call = (run.0, run.1, open_more sub query run.0 mid new own e run.2 call)

pub same_later : (f g h : FollowerRecord) → IsSameFollower f g → IsSameFollower g h → IsSameFollower f h
same_later f g h a b = record { sub = b.sub ∙ a.sub; query = b.query ∙ a.query }

pub gone_none : (p : PassRecord) (f : FollowerRecord) → KeepsUpWith p f → HasGone p p f f 0
gone_none p f k = record {
  own = [];
  made = made_none p;
  legal = λ l. absurd (omega (arith, l));
  all = refl;
  open_calls = refl;
  keeps = k;
  same = record { sub = refl; query = refl };
}

module _ (p q r : PassRecord) (f g h : FollowerRecord) (count : ℕ) (gone : HasGone p q f g count) where
  pub gone_on : IsSameFollower g h → GoesOnBy q r g h → KeepsUpWith r h → HasGone p r f h (count + 1)
  gone_on same by keeps =
      let call : IsOpenCall f.sub f.map.query g.stamp by.call h.stamp =
      subst (λ (s : ℕ). IsOpenCall s f.map.query g.stamp by.call h.stamp) gone.same.sub
      (subst (λ (x : Query). IsOpenCall g.sub x g.stamp by.call h.stamp) gone.same.query by.is_open) in
      record {
        own = gone.own ++ by.call ∷ [];
        made = made_more p q r gone.own (by.call ∷ []) gone.made by.made;
        legal = λ l. by.legal;
        all = omega (arith, length-append gone.own (by.call ∷ []), gone.all);
        open_calls = open_more f.sub f.map.query f.stamp g.stamp h.stamp gone.own by.call gone.open_calls call;
        keeps = keeps;
        same = same_later f g h gone.same same;
      }

  pub gone_ends : (limit place : ℕ) → count < limit → EndsBy q r g h place → Refreshes p r f h limit (UpTo place)
  gone_ends limit place few by =
      let made = made_more p q r gone.own (by.call ∷ []) gone.made by.made in
      record {
        own = gone.own;
        last = by.call;
        stamp = by.stamp;
        after = by.after;
        made = made;
        legal = by.legal;
        few = omega (arith, gone.all, few);
        open_calls = subst (λ (o : Option ℕ). AreOpenCalls f.sub f.map.query f.stamp gone.own o) by.stamped gone.open_calls;
        ends = subst (λ (s : ℕ). ChecksLast s by.call by.stamp by.after) gone.same.sub by.ends;
        stamp_is = by.stamp_is;
        up_to = by.up_to;
        above = omega (arith, by.up_to.at, made_above p r (gone.own ++ by.call ∷ []) made, length-append gone.own (by.call ∷ []));
      }

pub gone_all : (p q : PassRecord) (f g : FollowerRecord) (limit : ℕ) → 0 < limit → HasGone p q f g limit → Refreshes p q f g limit More
gone_all p q f g limit some gone =
    record { own = gone.own; made = gone.made; legal = gone.legal some; all = gone.all; open_calls = gone.open_calls }

-- ---- what becomes of the map
open_accepted : (sub : ℕ) (query : Query) (old new : Option ℕ) (e : Entry Command Reply) → IsOpenCall sub query old e new →
    IsAccepted e.reply
open_accepted sub query None None e t = absurd t
open_accepted sub query None (Some new) e t = subst (λ (r : Reply). IsAccepted r) (sym t.reply) tt
open_accepted sub query (Some stamp) (Some new) e t = subst (λ (r : Reply). IsAccepted r) (sym t.checks.reply) tt
open_accepted sub query (Some stamp) None e t = subst (λ (r : Reply). IsAccepted r) (sym t.checks.reply) tt

pub goes_on_accepted : (p q r : PassRecord) (f g h : FollowerRecord) (count : ℕ) → HasGone p q f g count → GoesOnBy q r g h →
    HadAccepted p r
goes_on_accepted p q r f g h count gone by =
    accepted_last p q r gone.own gone.made
    (record {
      front = [];
      call = by.call;
      back = [];
      made = by.made;
      accepted =
          open_accepted g.sub g.map.query g.stamp h.stamp by.call by.is_open;
    })

pub map_kept : (p q r : PassRecord) (f g h : FollowerRecord) (count limit : ℕ) → HasGone p q f g count → KeepsMap p q f g →
    CallsOnly q r g limit → KeepsMap q r g h →
    KeepsMap p r f h
map_kept p q r f g h count limit gone (inl same) only (inl still) = inl (still ∙ same)
map_kept p q r f g h count limit gone kept only (inr had) = inr (accepted_last p q r gone.own gone.made had)
map_kept p q r f g h count limit gone (inr had) only (inl still) = inr (accepted_first p q r only.own had only.made)
