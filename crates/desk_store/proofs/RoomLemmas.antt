-- Faults of a refresh, by the call that failed.
use Rattle.std.proofs.Common.{◌≡◌, ◌≢◌, ℕ, ◌<◌, List, [], ◌∷◌, length, slice_get, Option, Some, None, refl, ap, sym, subst, inl, inr, arith}
use Rattle.history.specs.declared.entry.Entry.{Entry}
use Rattle.history.specs.History.{entry}
use Rattle.ds_names.specs.Limits.{most_items}
use Rattle.ds_entry.specs.declared.item.Item.{Item}
use Rattle.ds_pattern.specs.declared.query.Query.{Query}
use Rattle.ds_submap.specs.Map.{SubMapRecord}
use Rattle.ds_reader.specs.Asked.{subscribe_anew}
use Rattle.ds_machine.specs.declared.command.Command.{Command}
use Rattle.ds_machine.specs.declared.command.Command.TheVariants.{Check}
use Rattle.ds_machine.specs.declared.refusal.Refusal.{Refusal}
use Rattle.ds_machine.specs.declared.reply.Reply.{Reply}
use Rattle.ds_machine.specs.declared.reply.Reply.TheVariants.{Checked, Refused}
use Rattle.desk_store.specs.Called.{MadeCall}
use Rattle.desk_store.specs.CallFaults.{FailsAsking}
use Rattle.desk_store.specs.Record.{PassRecord}
use Rattle.desk_store.specs.declared.call_fault.CallFault.{CallFault}
use Rattle.desk_store.specs.declared.call_fault.CallFault.TheVariants as faults
use Rattle.desk_store.proofs.FaultLemmas.{refused_for_room}
use Rattle.desk_store.proofs.RecordLemmas.{made_more, made_none}
use Rattle.desk_store.specs.RefreshFaults.{CallLacksRoom, FailsAfterCalls, FailsOnce, FailsRefreshing}
use Rattle.desk_store.specs.Follower.{FollowerRecord, follower_of}
use Rattle.desk_store.specs.FollowerCalls.{Checks, follower_command}
use Rattle.desk_store.specs.Refresh.{HasGone}

-- ---- at one call
pub fails_unasked : (p : PassRecord) (f : FollowerRecord) → f.stamp ≡ None → f.map.query.text ≢ [] → FailsOnce p p f faults.NoRoom
fails_unasked p f lost some = record {
  own = [];
  made = made_none p;
  lacks = subst (λ (o : Option ℕ). CallLacksRoom f.sub f.map.query [] o) (sym lost) some;
}

fails_next : (p q : PassRecord) (f : FollowerRecord) (fault : CallFault) →
    FailsAsking p q (follower_command f.sub f.map.query f.stamp) fault → FailsOnce p q f fault
fails_next p q f (faults.Desk fault) asked = asked
fails_next p q f (faults.Refused refusal) asked = asked
fails_next p q f faults.NoRoom (inl t) = absurd (let no : faults.NoRoom ≡ faults.Desk t.0 = t.2 in cc)
fails_next p q f faults.NoRoom (inr t) = record {
  own = entry p.origin.number (follower_command f.sub f.map.query f.stamp) (Refused t.0) ∷ [];
  made = t.2.made;
  lacks = (refl, inl (ap (λ (r : Refusal). Refused r) (refused_for_room t.0 faults.NoRoom refl t.3)));
}

pub fails_asking : (p q : PassRecord) (f : FollowerRecord) (command : Command) (fault : CallFault) →
    command ≡ follower_command f.sub f.map.query f.stamp → FailsAsking p q command fault → FailsOnce p q f fault
fails_asking p q f command fault next asked =
    fails_next p q f fault (subst (λ (c : Command). FailsAsking p q c fault) next asked)

module _ (f : FollowerRecord) (sub : ℕ) (stamp : Option ℕ) (map : SubMapRecord) (parts : f ≡ follower_of sub stamp map) where
  pub next_subscribes : (query : Query) → stamp ≡ None → query ≡ map.query →
      subscribe_anew sub query ≡ follower_command f.sub f.map.query f.stamp
  next_subscribes query lost same =
      subst (λ (x : FollowerRecord). subscribe_anew sub query ≡ follower_command x.sub x.map.query x.stamp) (sym parts)
      (subst (λ (o : Option ℕ). subscribe_anew sub query ≡ follower_command sub map.query o) (sym lost)
      (ap (λ (q : Query). subscribe_anew sub q) same))

  pub next_checks : (last : ℕ) → stamp ≡ Some last → Check sub most_items ≡ follower_command f.sub f.map.query f.stamp
  next_checks last stamped =
      subst (λ (x : FollowerRecord). Check sub most_items ≡ follower_command x.sub x.map.query x.stamp) (sym parts)
      (subst (λ (o : Option ℕ). Check sub most_items ≡ follower_command sub map.query o) (sym stamped) refl)

pub fails_given : (p q : PassRecord) (f : FollowerRecord) (sub stamp before after place : ℕ) (items : List Item) → sub ≡ f.sub →
    f.stamp ≡ Some stamp →
    MadeCall p q (Check sub most_items) (Checked items before after) place → before ≡ stamp → 0 < length items →
    FailsOnce p q f faults.NoRoom
fails_given p q f sub stamp before after place items same stamped c own some =
    let e : Entry Command Reply = entry p.origin.number (Check sub most_items) (Checked items before after) in
    let checks : Checks f.sub e items stamp after = record {
      command = ap (λ (s : ℕ). Check s most_items) same;
      reply = ap (λ (b : ℕ). Checked items b after) own;
    } in
    record {
      own = e ∷ [];
      made = c.made;
      lacks = subst (λ (o : Option ℕ). CallLacksRoom f.sub f.map.query (e ∷ []) o) (sym stamped) (refl, inr (items, after, checks, some));
    }

pub some_there : (items : List Item) (n : ℕ) (i : Item) → slice_get items n ≡ Some i → 0 < length items
some_there [] n i is = absurd (cc)
some_there (x ∷ items) n i is = omega arith

-- ---- after calls that were open
fails_on : (p q r : PassRecord) (f g : FollowerRecord) (count : ℕ) (fault : CallFault) → HasGone p q f g count →
    FailsAsking q r (follower_command g.sub g.map.query g.stamp) fault → FailsAfterCalls p r f fault
fails_on p q r f g count fault gone asked = record {
  mid = q;
  own = gone.own;
  stamp = g.stamp;
  made = gone.made;
  open_calls = gone.open_calls;
  fails = subst (λ (x : Query). FailsAsking q r (follower_command f.sub x g.stamp) fault) gone.same.query
      (subst (λ (s : ℕ). FailsAsking q r (follower_command s g.map.query g.stamp) fault) gone.same.sub asked);
}

pub fails_refreshing : (p q r : PassRecord) (f g : FollowerRecord) (count : ℕ) (fault : CallFault) → HasGone p q f g count →
    FailsOnce q r g fault → FailsRefreshing p r f fault
fails_refreshing p q r f g count (faults.Desk fault) gone by = fails_on p q r f g count (faults.Desk fault) gone by
fails_refreshing p q r f g count (faults.Refused refusal) gone by = fails_on p q r f g count (faults.Refused refusal) gone by
fails_refreshing p q r f g count faults.NoRoom gone now = record {
  own = gone.own;
  last = now.own;
  stamp = g.stamp;
  made = made_more p q r gone.own now.own gone.made now.made;
  open_calls = gone.open_calls;
  lacks = subst (λ (x : Query). CallLacksRoom f.sub x now.own g.stamp) gone.same.query
      (subst (λ (s : ℕ). CallLacksRoom s g.map.query now.own g.stamp) gone.same.sub now.lacks);
}
