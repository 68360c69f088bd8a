-- Calls of a pass, in order.
use Rattle.std.proofs.Common.{◌≡◌, ℕ, zero, suc, ◌<◌, ◌≤◌, Bool, true, false, Option, Some, List, [], ◌∷◌, ◌++◌, length, refl, ap, sym}
use Rattle.std.proofs.Common.{subst, inl, inr, ◌∙◌, append_assoc, arith, length-append}
use Rattle.std.proofs.lemmas.List.{map-append}
use Rattle.desk_rule.proofs.ListLemmas.{all_append}
use Rattle.history.specs.History.{entry}
use Rattle.desk_store.specs.Called.{IsAccepted}
use Rattle.ds_live.specs.Turns.{HasExchangedOften, HasGoneOn, HasHandedOver, HasLeftMore, WasAccepted, WereAccepted}
use Rattle.history.specs.declared.entry.Entry.{Entry}
use Rattle.ds_machine.specs.declared.command.Command.{Command}
use Rattle.ds_machine.specs.declared.reply.Reply.{Reply}
use Rattle.desk_store.specs.Called.{Made}
use Rattle.desk_store.specs.Record.{PassRecord}
use Rattle.desk_store.proofs.RecordLemmas.{made_more, made_none}
use Rattle.desk_store.specs.declared.refreshing.Fresh.{Fresh}
use Rattle.desk_store.specs.declared.refreshing.Fresh.TheVariants.{UpTo, More}
use Rattle.desk_store.specs.Follower.{FollowerRecord, IsSameFollower}
use Rattle.desk_store.specs.FollowerCalls.{AreOpenCalls, ChecksLast}
use Rattle.desk_store.specs.Refresh.{AreOfFollower, CallsOnly, EndsMore, EndsUpTo, Refreshes}
use Rattle.desk_store.proofs.OnlyLemmas.{all_open, of_both}
use Rattle.ds_pattern.specs.declared.query.Query.{Query}
use Rattle.ds_live.specs.Workers.{HasBroughtUp}
use Rattle.ds_feed.specs.declared.cursor.Cursor.{Cursor}
use Rattle.desk_store.specs.Seat.{SeatRecord}
use Rattle.ds_live.specs.Turns.{HasExchanged, HasCalled, HasRefreshed, IsHandedOver, SeatHasCalled}

pub called_none : (p : PassRecord) → HasCalled p p
called_none p = ([], made_none p)

pub called_more : (p q r : PassRecord) → HasCalled p q → HasCalled q r → HasCalled p r
called_more p q r a b = (a.0 ++ b.0, made_more p q r a.0 b.0 a.1 b.1)

pub seat_called_none : (s : SeatRecord) → SeatHasCalled s s
seat_called_none s = (refl, called_none s.pass)

pub seat_called_more : (s t u : SeatRecord) → SeatHasCalled s t → SeatHasCalled t u → SeatHasCalled s u
seat_called_more s t u a b = (b.0 ∙ a.0, called_more s.pass t.pass u.pass a.1 b.1)

-- calls that are counted twice are as many
as_many : (p q : PassRecord) (own more : List (Entry Command Reply)) → Made p q own → Made p q more → length own ≡ length more
as_many p q own more a b =
    omega (
      arith,
      ap (λ (l : List (Entry Command Reply)). length l) a.calls_are,
      ap (λ (l : List (Entry Command Reply)). length l) b.calls_are,
      length-append p.calls own,
      length-append p.calls more,
    )

-- a refresh of at most 8 calls makes some
some_made : (p q : PassRecord) (f g : FollowerRecord) (fresh : Fresh) → Refreshes p q f g 8 fresh →
    (own : List (Entry Command Reply)) × Made p q own × (0 < length own)
some_made p q f g (UpTo place) ends =
    (ends.own ++ ends.last ∷ [], ends.made, omega (arith, length-append ends.own (ends.last ∷ [])))
some_made p q f g More ends = (ends.own, ends.made, omega (arith, ends.all))

pub refreshed : (p q : PassRecord) (f g : FollowerRecord) (fresh : Fresh) → CallsOnly p q f 8 → Refreshes p q f g 8 fresh →
    HasRefreshed p q f
refreshed p q f g fresh only ends = let some = some_made p q f g fresh ends in record {
  own = only.own;
  made = only.made;
  some = omega (arith, as_many p q only.own some.0 only.made some.1, some.2);
  few = only.few;
  theirs = only.theirs;
}

-- ---- refreshes in order, until one ends
pub open_both : (sub : ℕ) (query : Query) (old mid new : Option ℕ) (own more : List (Entry Command Reply)) →
    AreOpenCalls sub query old own mid → AreOpenCalls sub query mid more new → AreOpenCalls sub query old (own ++ more) new
open_both sub query old mid new [] more a b = subst (λ (o : Option ℕ). AreOpenCalls sub query o more new) a b
open_both sub query old mid new (e ∷ own) more a b = (a.0, a.1, open_both sub query a.0 mid new own more a.2 b)

-- the calls of a follower of the same subscription and query
open_as : (f g : FollowerRecord) (old new : Option ℕ) (own : List (Entry Command Reply)) → IsSameFollower f g →
    AreOpenCalls g.sub g.map.query old own new → AreOpenCalls f.sub f.map.query old own new
open_as f g old new own same a =
    subst (λ (n : ℕ). AreOpenCalls n f.map.query old own new) same.sub
    (subst (λ (x : Query). AreOpenCalls g.sub x old own new) same.query a)

pub gone_from : (p : PassRecord) (f : FollowerRecord) → HasGoneOn p p f f
gone_from p f = record { own = []; made = made_none p; open_calls = refl; same = record { sub = refl; query = refl } }

module _ (p q r : PassRecord) (f g h : FollowerRecord) (limit : ℕ) (gone : HasGoneOn p q f g) (same : IsSameFollower g h) where
  all_same : IsSameFollower f h
  all_same = record { sub = same.sub ∙ gone.same.sub; query = same.query ∙ gone.same.query }

  gone_further : EndsMore q r g h limit → HasGoneOn p r f h
  gone_further more = record {
    own = gone.own ++ more.own;
    made = made_more p q r gone.own more.own gone.made more.made;
    open_calls = open_both f.sub f.map.query f.stamp g.stamp h.stamp gone.own more.own gone.open_calls
        (open_as f g g.stamp h.stamp more.own gone.same more.open_calls);
    same = all_same;
  }

  pub gone_again : (fresh : Fresh) → ((place : ℕ) → fresh ≡ UpTo place → ⊥) → Refreshes q r g h limit fresh → HasGoneOn p r f h
  gone_again (UpTo place) other ends = absurd (other place refl)
  gone_again More other ends = gone_further ends

  brought_by : (place : ℕ) → EndsUpTo q r g h limit place → HasBroughtUp p r f h
  brought_by place ends = record {
    own = gone.own ++ ends.own;
    last = ends.last;
    stamp = ends.stamp;
    after = ends.after;
    made = subst (λ (l : List (Entry Command Reply)). Made p r l) (sym (append_assoc gone.own ends.own (ends.last ∷ [])))
        (made_more p q r gone.own (ends.own ++ ends.last ∷ []) gone.made ends.made);
    open_calls = open_both f.sub f.map.query f.stamp g.stamp (Some ends.stamp) gone.own ends.own gone.open_calls
        (open_as f g g.stamp (Some ends.stamp) ends.own gone.same ends.open_calls);
    ends = subst (λ (n : ℕ). ChecksLast n ends.last ends.stamp ends.after) gone.same.sub ends.ends;
    same = all_same;
    brought = (place, ends.up_to);
  }

  pub brought : (fresh : Fresh) (place : ℕ) → fresh ≡ UpTo place → Refreshes q r g h limit fresh → HasBroughtUp p r f h
  brought fresh place is ends = brought_by place (subst (λ (x : Fresh). Refreshes q r g h limit x) is ends)

-- all of these calls are the follower's
pub theirs_brought : (p q : PassRecord) (f g : FollowerRecord) (b : HasBroughtUp p q f g) →
    AreOfFollower f.sub f.map.query (b.own ++ b.last ∷ [])
theirs_brought p q f g b =
    of_both f.sub f.map.query b.own (b.last ∷ []) (all_open f.sub f.map.query f.stamp (Some b.stamp) b.own b.open_calls)
    (inr b.ends.checks.command, tt)

-- after a look that called nothing
pub refreshed_later : (p q r : PassRecord) (f : FollowerRecord) → Made p q [] → HasRefreshed q r f → HasRefreshed p r f
refreshed_later p q r f looked h =
    record { own = h.own; made = made_more p q r [] h.own looked h.made; some = h.some; few = h.few; theirs = h.theirs }

pub only_later : (p q r : PassRecord) (f : FollowerRecord) (limit : ℕ) → Made p q [] → CallsOnly q r f limit → CallsOnly p r f limit
only_later p q r f limit looked h = record { own = h.own; made = made_more p q r [] h.own looked h.made; few = h.few; theirs = h.theirs }

-- ---- calls that were accepted
pub none_accepted : (p : PassRecord) → WereAccepted p p []
none_accepted p = record { own = []; made = made_none p; accepted = record { commands_are = refl; accepted = tt } }

pub more_accepted : (p q r : PassRecord) (commands : List Command) (command : Command) → WereAccepted p q commands →
    WasAccepted q r command → WereAccepted p r (commands ++ command ∷ [])
more_accepted p q r commands command a b = let e = entry q.origin.number command b.reply in record {
  own = a.own ++ e ∷ [];
  made = made_more p q r a.own (e ∷ []) a.made b.call.made;
  accepted = record {
    commands_are = map-append (λ (x : Entry Command Reply). x.command) a.own (e ∷ []) ∙
        ap (λ (l : List Command). l ++ command ∷ []) a.accepted.commands_are;
    accepted = all_append (λ (x : Entry Command Reply). IsAccepted x.reply) a.own (e ∷ []) a.accepted.accepted (b.accepted, tt);
  };
}

-- ---- an exchange that left nothing more
pub handed_over : (p q r s : PassRecord) (from next : Option Cursor) (more : Bool) → HasExchanged p q r s from next more → more ≡ false →
    IsHandedOver q s
handed_over p q r s from next more goes none = elim goes [
  | inl x ↦ record { asked = p; given = r; from = from; told = x.0; exchanges = x.1; no_more = sym x.3 ∙ none }
  | inr y ↦ absurd (let no : true ≡ false = sym y.0 ∙ none in cc)
]

pub exchanged_as : (p q r s : PassRecord) (from next : Option Cursor) (more known : Bool) → more ≡ known →
    HasExchanged p q r s from next more → HasExchanged p q r s from next known
exchanged_as p q r s from next more known same = subst (λ (b : Bool). HasExchanged p q r s from next b) same

left_often : (count : ℕ) (p q r s : PassRecord) (from next : Option Cursor) → HasLeftMore count p q r s from next →
    HasExchangedOften count p q r s from next
left_often zero p q r s from next a = a
left_often (suc count) p q r s from next a = (a.0, a.1, a.2, true, left_often count p a.0 r a.1 from a.2 a.3, a.4)

pub handed_often : (p q r s : PassRecord) (from next : Option Cursor) → HasHandedOver p q r s from next →
    (count : ℕ) × HasExchangedOften count p q r s from next
handed_often p q r s from next a =
    (suc a.count, (a.asked, a.given, a.mid, false, left_often a.count p a.asked r a.given from a.mid a.before, a.last))

-- exchanges after exchanges
pub exchanged_on : (n m : ℕ) (p q t r s u : PassRecord) (from mid next : Option Cursor) → HasExchangedOften n p q r s from mid →
    HasExchangedOften m q t s u mid next
    → (count : ℕ) × (n ≤ count) × HasExchangedOften count p t r u from next
exchanged_on n zero p q t r s u from mid next a b = (
  n,
  omega arith,
  subst (λ (x : PassRecord). HasExchangedOften n p x r u from next) (sym b.0)
      (subst (λ (x : PassRecord). HasExchangedOften n p q r x from next) (sym b.1)
      (subst (λ (x : Option Cursor). HasExchangedOften n p q r s from x) (sym b.2) a)),
)
exchanged_on n (suc m) p q t r s u from mid next a b =
    let rest = exchanged_on n m p q b.0 r s b.1 from mid b.2 a b.4 in
    (suc rest.0, omega (arith, rest.1), (b.0, b.1, b.2, b.3, rest.2, b.5))
