-- The effects of a call and a take on views and on a pass's counts.
use Rattle.std.proofs.Common.{◌≡◌, ℕ, ◌+◌, ◌-◌, ◌/◌, ◌^◌, ◌<◌, ◌==◌, Bool, true, List, [], ◌∷◌, length, cond, refl, ap, sym, ◌∙◌, subst}
use Rattle.std.proofs.Common.{arith, eq-eqb, ne_eqb}
use Rattle.std.specs.Prelude.{is_some}
use Rattle.std.specs.Int.{bit_at}
use Rattle.std.specs.List.{AllByRecursion}
use Rattle.std.proofs.lemmas.Nat.Bits.{bit_at-zero}
use mathlib.Core.Logic.{dite}
use native.Mathlib.Decide.{ℕ_discrete}
use lib.ListN.{get_elem?}
use Rattle.desk_rule.specs.declared.notice.Act.{Act}
use Rattle.desk_rule.specs.declared.notice.Act.TheVariants.{Post, Take}
use Rattle.desk_rule.specs.declared.notice.Notice.{Notice}
use Rattle.desk_rule.specs.declared.view.PassLog.{PassLog}
use Rattle.desk_rule.specs.declared.view.View.{View}
use Rattle.history.specs.History.{entry}
use Rattle.desk_rule.specs.History.{count_calls}
use Rattle.desk_rule.specs.Kinds.{after_turn, LastOwes, Looks, take_of, TakesBits}
use Rattle.desk_rule.specs.Notices.{given_by, IsOrder, IsPostAt, OwedIn, OwnNotices, raised_at, raised_by, raised_in, set_by, taken_at}
use Rattle.desk_rule.specs.Notices.{taken_by, taken_in}
use Rattle.desk_rule.specs.Passes.{add_notice, notices_of, number_of}
use Rattle.desk_rule.proofs.OrderLemmas.{raised_elsewhere, raised_here, taken_elsewhere, taken_here}
use Rattle.desk_rule.proofs.ListLemmas.{at_prefix, only_of, some_of, total_append}
use Rattle.desk_rule.proofs.RuleLemmas.{no_notice_more, one_call_more}
use Rattle.desk_rule.specs.Steps.{TurnAt}
use Rattle.desk.specs.Tally.{CanPost, Counts, Posts, RaisesMask, row_at, Tallies}
use Rattle.desk.proofs.PassLemmas.{call_added, call_keeps_notices, call_number, notice_weighs, weigh_one_notices}

-- a post takes nothing
post_gives : (place found : ℕ) (act : Act) → IsPostAt place act → given_by found act ≡ 0
post_gives place found (Post bits at) is = refl
post_gives place found Take is = absurd is

posts_take_nothing : (place : ℕ) (ns : List Notice) (s b : ℕ) → AllByRecursion (λ (n : Notice). IsPostAt place n.act) ns →
    taken_in ns s b ≡ 0
posts_take_nothing place [] s b all = refl
posts_take_nothing place (n ∷ ns) s b all =
    let rest = posts_take_nothing place ns s b all.1 in
    dite (ℕ_discrete n.server s)
    (λ here. let t = taken_here s b n here in let none : bit_at (given_by n.found n.act) b ≡ 0 =
    ap (λ x. bit_at x b) (post_gives place n.found n.act all.0) ∙ bit_at-zero b in omega arith)
    (λ other. let t = taken_elsewhere s b n other in omega arith)

module _ {M C R : Type 0} where
  pub last_owes : (owes : R → ℕ) (v w : View M C R) (c : C) (r : R) (owed : ℕ) → w ≡ after_turn v c r → owed ≡ owes r → LastOwes owes w owed
  last_owes owes v w c r owed is e = let one = entry (number_of v.passes) c r in
      (v.seen, one, ap (λ (x : View M C R). x.seen) is, sym (ap (λ (x : View M C R). number_of x.passes) is ∙ call_number v.passes one), e)

  pub can_post : (steps : M → C → R → M → Type 0) (u : View M C R) (place : ℕ) (v w : View M C R) (c : C) (r : R) →
      TurnAt steps u place v → length u.passes ≡ 1
      → is_some u.opening ≡ true → w ≡ after_turn v c r → CanPost w
  can_post steps u place v w c r turn single opened is =
      let e = entry (number_of v.passes) c r in
      let opening : v.opening ≡ u.opening = ap (λ (x : View M C R). x.opening) turn.0.is in
      let single_v : length v.passes ≡ 1 = ap (λ (x : View M C R). length x.passes) turn.0.is ∙ single in
      let one = only_of v.passes single_v in
      let m = some_of u.opening opened in
      let at = turn.0.place m.0 m.1 in let long = turn.0.short in let below = turn.1 in
      let n : count_calls w.passes ≡ count_calls v.passes + 1 =
      ap (λ (x : View M C R). count_calls x.passes) is ∙ one_call_more v.passes one.0 e (λ _. 1) one.1 in record {
        opened = ap (λ (x : View M C R). is_some x.opening) is ∙ (ap is_some opening ∙ opened);
        one_pass = ap (λ (x : View M C R). length x.passes) is ∙ (call_added v.passes e single_v).0;
        few = λ s b. (let f = turn.0.few s b in
            let same : raised_by w.passes s b ≡ raised_by v.passes s b =
            ap (λ (x : View M C R). raised_by x.passes s b) is ∙ no_notice_more v.passes e (raised_at s b) in omega arith);
        short = omega arith;
        found = subst (λ (x : View M C R). IsOrder x.notices) (sym is) turn.0.order;
        own = subst (λ (x : View M C R). OwnNotices x.notices x.passes) (sym is)
            (call_keeps_notices v.notices v.passes e turn.0.own_notices);
      }

  -- a turn makes no notice
  pub turn_notices : (steps : M → C → R → M → Type 0) (v0 v1 v2 : View M C R) (place : ℕ) (c : C) (r : R) → TurnAt steps v0 place v1 →
      v2 ≡ after_turn v1 c r → length v0.passes ≡ 1 → notices_of v2.passes ≡ notices_of v0.passes
  turn_notices steps v0 v1 v2 place c r turn is one =
      let passes : v1.passes ≡ v0.passes = ap (λ (x : View M C R). x.passes) turn.0.is in
      let added = call_added v1.passes (entry (number_of v1.passes) c r) (ap length passes ∙ one) in
      ap (λ (x : View M C R). notices_of x.passes) is ∙ (added.3 ∙ ap notices_of passes)

  -- a call takes nothing
  pub same_taken : (steps : M → C → R → M → Type 0) (v0 v1 v2 v3 : View M C R) (place owed n : ℕ) (c : C) (r : R) →
      TurnAt steps v0 place v1 → v2 ≡ after_turn v1 c r → Posts v2 v3 n owed → length v0.passes ≡ 1
      → (s b : ℕ) → taken_by v3.passes s b ≡ taken_by v0.passes s b
  same_taken steps v0 v1 v2 v3 place owed n c r turn is p one s b =
      let old = weigh_one_notices (taken_at s b) v0.passes one in
      let new = weigh_one_notices (taken_at s b) v3.passes p.one_pass in
      let same : taken_in (notices_of v2.passes) s b ≡ taken_in (notices_of v0.passes) s b =
      ap (λ l. taken_in l s b) (turn_notices steps v0 v1 v2 place c r turn is one) in
      let grown : taken_in (notices_of v3.passes) s b ≡ taken_in (notices_of v2.passes) s b + taken_in p.new s b =
      ap (λ l. taken_in l s b) p.grown ∙ total_append (taken_at s b) (notices_of v2.passes) p.new in
      let none = posts_take_nothing ((v2.first + length v2.seen) - 1) p.new s b p.here in
      omega arith

  pub tallies_taken : (v w : View M C R) (rows : List ℕ) → ((s b : ℕ) → taken_by w.passes s b ≡ taken_by v.passes s b) →
      Tallies rows (taken_by v.passes) → Tallies rows (taken_by w.passes)
  tallies_taken v w rows e h s b hs hb = h s b hs hb ∙ sym (e s b)

  -- the mask of what a call raised, by the pass's own notices
  pub mask_raised : (steps : M → C → R → M → Type 0) (v0 v1 v2 v3 : View M C R) (place owed n mask : ℕ) (c : C) (r : R) →
      TurnAt steps v0 place v1 → v2 ≡ after_turn v1 c r → Posts v2 v3 n owed → length v0.passes ≡ 1
      → RaisesMask (raised_by v2.passes) (raised_by v3.passes) mask →
      RaisesMask (raised_in (notices_of v0.passes)) (raised_in (notices_of v3.passes)) mask
  mask_raised steps v0 v1 v2 v3 place owed n mask c r turn is p one raises s b hs hb =
      let passes : v1.passes ≡ v0.passes = ap (λ (x : View M C R). x.passes) turn.0.is in
      let one2 : length v2.passes ≡ 1 = ap (λ (x : View M C R). length x.passes) is ∙
      (call_added v1.passes (entry (number_of v1.passes) c r) (ap length passes ∙ one)).0 in
      let e = raises s b hs hb in
      let before = weigh_one_notices (raised_at s b) v2.passes one2 in
      let after = weigh_one_notices (raised_at s b) v3.passes p.one_pass in
      let same : raised_in (notices_of v2.passes) s b ≡ raised_in (notices_of v0.passes) s b =
      ap (λ l. raised_in l s b) (turn_notices steps v0 v1 v2 place c r turn is one) in
      omega arith

-- a take raises nothing
take_raises_nothing : (n : Notice) (s b : ℕ) → n.act ≡ Take → raised_at s b n ≡ 0
take_raises_nothing n s b is = dite (ℕ_discrete n.server s)
    (λ here. let r = raised_here s b n here in let none = ap (λ a. bit_at (set_by a) b) is ∙ bit_at-zero b in omega arith)
    (λ other. raised_elsewhere s b n other)

-- the number that a look found is twice the first place after the history that the seat has then seen
pub place_found : {M C R : Type 0} (steps : M → C → R → M → Type 0) (v w : View M C R) (found : ℕ) (holding : Bool) →
    Looks steps v found holding w → is_some v.opening ≡ true
    → found / 2 ≡ w.first + length w.seen
place_found {M} {C} {R} steps v w found holding l opened = let m = some_of v.opening opened in
    l.place m.0 m.1 ∙ ap (λ (x : View M C R). x.first + length w.seen) (sym l.is)

module _ {M C R : Type 0} (owes : R → ℕ) where
  take_passes : (v w : View M C R) (server n : ℕ) → TakesBits owes v server n w → w.passes ≡ add_notice v.passes (take_of v server n)
  take_passes v w server n h = ap (λ (x : View M C R). x.passes) h.notices.is

  take_grows : (v w : View M C R) (server n : ℕ) → TakesBits owes v server n w → length v.passes ≡ 1 → (s b : ℕ) →
      taken_by w.passes s b ≡ taken_by v.passes s b + taken_at s b (take_of v server n)
  take_grows v w server n h one s b = ap (λ (l : List (PassLog C R)). taken_by l s b) (take_passes v w server n h) ∙
      notice_weighs v.passes (take_of v server n) (taken_at s b) one

  -- the server's rows have room to count
  pub take_room : (v w : View M C R) (server n : ℕ) (rows : List ℕ) → server < 16 → TakesBits owes v server n w → length v.passes ≡ 1 →
      Tallies rows (taken_by v.passes) → (b : ℕ) → b < 8 → row_at rows server b < 2 ^ 63
  take_room v w server n rows small h one counted b hb = let c = counted server b small hb in let g =
      take_grows v w server n h one server b in let f = h.few b in omega arith

  pub take_counts : (steps : M → C → R → M → Type 0) (v w x : View M C R) (server n found : ℕ) (holding : Bool) (rows rows' : List ℕ) →
      TakesBits owes v server n w →
      Looks steps w found holding x → length v.passes ≡ 1 → Counts rows server n rows' → Tallies rows (taken_by v.passes) →
      Tallies rows' (taken_by x.passes)
  take_counts steps v w x server n found holding rows rows' h l one counts counted =
      tallies_taken w x rows' (λ s b. ap (λ (y : View M C R). taken_by y.passes s b) l.is)
      (λ s b hs hb. counts s b hs hb ∙ dite (ℕ_discrete s server)
      (λ e.
      let c = counted s b hs hb in let g = take_grows v w server n h one s b in
      let y : cond (s == server) (bit_at n b) 0 ≡ bit_at n b = ap (λ t. cond t (bit_at n b) 0) (eq-eqb s server e) in
      let z = taken_here s b (take_of v server n) (sym e) in omega arith)
      (λ other.
      let c = counted s b hs hb in let g = take_grows v w server n h one s b in
      let y : cond (s == server) (bit_at n b) 0 ≡ 0 = ap (λ t. cond t (bit_at n b) 0) (ne_eqb s server other) in
      let z = taken_elsewhere s b (take_of v server n) (λ e. other (sym e)) in omega arith))

  pub take_raises : (steps : M → C → R → M → Type 0) (v w x : View M C R) (server n found : ℕ) (holding : Bool) (rows : List ℕ) →
      TakesBits owes v server n w →
      Looks steps w found holding x → length v.passes ≡ 1 → Tallies rows (raised_by v.passes) → Tallies rows (raised_by x.passes)
  take_raises steps v w x server n found holding rows h l one counted s b hs hb =
      let c = counted s b hs hb in
      let looked : raised_by x.passes s b ≡ raised_by w.passes s b = ap (λ (y : View M C R). raised_by y.passes s b) l.is in
      let grown : raised_by w.passes s b ≡ raised_by v.passes s b + raised_at s b (take_of v server n) =
      ap (λ (y : List (PassLog C R)). raised_by y s b)
      (take_passes v w server n h) ∙ notice_weighs v.passes (take_of v server n) (raised_at s b) one in
      let none = take_raises_nothing (take_of v server n) s b refl in
      omega arith

  -- the call that owes a taken bit is still there
  pub owed_later : (steps : M → C → R → M → Type 0) (v w x : View M C R) (server n found b : ℕ) (holding : Bool) →
      TakesBits owes v server n w → Looks steps w found holding x → bit_at n b ≡ 1 → OwedIn owes server b x.seen
  owed_later steps v w x server n found b holding h l set_bit = let k = h.owed b set_bit in
      (k.0, k.1, at_prefix w.seen x.seen k.0 k.1 l.seen (ap (λ (y : View M C R). get_elem? y.seen k.0) h.notices.is ∙ k.2), k.3)

  pub place_taken : (steps : M → C → R → M → Type 0) (v u w : View M C R) (server n found : ℕ) (holding : Bool) →
      TakesBits owes v server n u → Looks steps u found holding w
      → is_some v.opening ≡ true → found / 2 ≡ w.first + length w.seen
  place_taken steps v u w server n found holding h l opened =
      place_found steps u w found holding l (ap (λ (x : View M C R). is_some x.opening) h.notices.is ∙ opened)
