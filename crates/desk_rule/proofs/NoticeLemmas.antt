-- A post and a take keep the rule.
use Rattle.std.proofs.Common.{◌≡◌, ◌≢◌, ℕ, ◌+◌, ◌-◌, ◌≤◌, ◌<◌, List, [], ◌∷◌, ◌++◌, length, set, get_or, bit_or, refl, ap, sym, ◌∙◌, subst}
use Rattle.std.proofs.Common.{arith, length-append, length-set, get_or-set_same, get_or-set_other, Option, Some}
use Rattle.std.specs.Int.{bit_at}
use Rattle.std.specs.List.{AllByRecursion}
use Rattle.std.proofs.lemmas.Nat.{or_lt}
use Rattle.std.proofs.lemmas.Nat.Bits.{bit_at-lt, bit_at-zero}
use mathlib.Core.Logic.{dite}
use mathlib.Core.Option.{none, some}
use native.Mathlib.Decide.{ℕ_discrete}
use lib.ListN.{get_elem?}
use Rattle.atomic_table.specs.Table.{Allows, keeps, State, step}
use Rattle.history.specs.declared.entry.Entry.{Entry}
use Rattle.desk_rule.specs.declared.notice.Act.{Act}
use Rattle.desk_rule.specs.declared.notice.Act.TheVariants.{Post, Take}
use Rattle.desk_rule.specs.declared.notice.Notice.{Notice}
use Rattle.desk_rule.specs.declared.view.PassLog.{PassLog}
use Rattle.desk_rule.specs.declared.view.View.{View}
use Rattle.desk_rule.specs.declared.table.Home.{Home}
use Rattle.desk_rule.specs.History.{count_calls, weigh_all}
use Rattle.desk_rule.specs.Notices.{bits_for, IsActOwed, IsOwed, left_of, none_pending, notices_by, OwedIn, pending_after, raised_at}
use Rattle.desk_rule.specs.Notices.{raised_by, set_by, taken_at, taken_in, weigh_notices}
use Rattle.desk_rule.specs.Kinds.{LastOwes, MakesNotice, post, post_of, AtSeat, take, take_of, TakesBits, with_notice, with_seen}
use Rattle.desk_rule.specs.Passes.{add_notice, AreDifferent, number_of}
use Rattle.desk_rule.specs.Rule.{notice_weight_of, pass_count, weight_of}
use Rattle.desk_rule.proofs.ListLemmas.{all_append, all_at, all_map, at_inside, at_prefix, at_pushed, prefix_append, prefix_nil}
use Rattle.desk_rule.proofs.ListLemmas.{prefix_refl, total_append, total_le, total_part, total_set}
use Rattle.desk_rule.proofs.OrderLemmas.{found_push, left_here, left_elsewhere, order_taken, pending_notice, raised_elsewhere, raised_here}
use Rattle.desk_rule.proofs.OrderLemmas.{words_append}
use Rattle.atomic_table.proofs.Lists.{set_here}
use Rattle.desk_rule.proofs.RuleLemmas.{all_views, count_ones, differ_noticed, holder_stays, no_call_more, notices_by_other, notices_by_own}
use Rattle.desk_rule.proofs.RuleLemmas.{one_notice_more, Own, Rule, same_length, Sits}

module _ {M C R : Type 0} (steps : M → C → R → M → Type 0) (owes : R → ℕ) (opening : M) (first passes : ℕ) where
  abbrev V : Type 0
  V = View M C R

  abbrev S : Type 0
  S = Option (Home M C R)

  abbrev Holds : State S V → Type 0
  Holds = Rule steps owes opening first passes

  abbrev Sat : (s : State S V) → Holds s → List Notice → ℕ → V → Type 0
  Sat s r order j v = Sits steps owes opening first passes r.history order r.turn r.seat_of j v

  abbrev Owns : (s : State S V) → Holds s → List Notice → ℕ → PassLog C R → Type 0
  Owns s r order j p = Own steps owes opening first passes r.history order r.seat_of j p

  -- the passes of a seat whose first pass made a notice
  own_more : (s : State S V) (r : Holds s) (id : ℕ) (at_seat : List (PassLog C R)) (n : Notice) → n.pass ≡ number_of at_seat →
      AreDifferent at_seat → AllByRecursion (Owns s r r.order id) at_seat
      → AllByRecursion (Owns s r (r.order ++ n ∷ []) id) (add_notice at_seat n)
  own_more s r id [] n by differ owns = tt
  own_more s r id (p ∷ others) n by differ owns = (
    (
      owns.0.0,
      subst (λ k. notices_by k (r.order ++ n ∷ []) ≡ p.notices ++ n ∷ []) by
          (notices_by_own r.order n ∙ ap (λ l. l ++ n ∷ []) (ap (λ k. notices_by k r.order) by ∙ owns.0.1)),
      owns.0.2,
      owns.0.3,
    ),
    go others differ.0 owns.1,
  )
    where
      go : (l : List (PassLog C R)) → AllByRecursion (λ (q : PassLog C R). q.pass ≢ p.pass) l → AllByRecursion (Owns s r r.order id) l →
          AllByRecursion (Owns s r (r.order ++ n ∷ []) id) l
      go [] apart own = tt
      go (q ∷ l) apart own =
          ((own.0.0, notices_by_other r.order n q.pass (λ e. apart.0 (sym e ∙ by)) ∙ own.0.1, own.0.2, own.0.3), go l apart.1 own.1)

  -- no pass at another seat has the number of the notice's pass
  apart : (s : State S V) (r : Holds s) (id j : ℕ) (at_seat : List (PassLog C R)) (b : PassLog C R) (n : Notice) → 0 < length at_seat →
      n.pass ≡ number_of at_seat → AllByRecursion (Owns s r r.order id) at_seat
      → j ≢ id → r.seat_of b.pass ≡ j → n.pass ≢ b.pass
  apart s r id j [] b n some_pass by owns other at same = absurd (omega arith)
  apart s r id j (p ∷ others) b n some_pass by owns other at same = other (sym at ∙ (ap r.seat_of (sym same ∙ by) ∙ owns.0.2))

  -- the rule after a seat's notice
  noticed : (s : State S V) (r : Holds s) (id : ℕ) (v w : V) (n : Notice) → n.server < 16 → n.found ≡ get_or s.words (n.server + 1) 0 →
      left_of n.found n.act < 256 → get_elem? s.views id ≡ some v
      → 0 < length v.passes → n.pass ≡ number_of v.passes → IsOwed owes first r.history n → w.passes ≡ add_notice v.passes n →
      w.holding ≡ v.holding → Sat s r (r.order ++ n ∷ []) id w
      → Holds record { words = set s.words (n.server + 1) (left_of n.found n.act); homes = s.homes; views = set s.views id w }
  noticed s r id v w n small found low at some_pass by owed more same_holding sits =
      let f = r.seated id v at in let x : ℕ = left_of n.found n.act in let order : List Notice = r.order ++ n ∷ [] in
      let long : length w.passes ≡ length v.passes = ap length more ∙ same_length v.passes n in record {
        history = r.history;
        order = order;
        machine = r.machine;
        turn = r.turn;
        seat_of = r.seat_of;
        wide = length-set s.words (n.server + 1) x ∙ r.wide;
        word = get_or-set_other s.words (n.server + 1) 0 x 0 (λ e. omega arith) ∙ r.word;
        room = r.room;
        legal = r.legal;
        home = r.home;
        holder = λ j e. holder_stays steps owes opening first passes s.views id j v w at (λ h _. (same_holding ∙ h, omega arith))
            (r.holder j e);
        all_passes = (let t = total_set pass_count s.views id v w at in let all = r.all_passes in omega arith);
        all_calls = λ weigh. (let t = total_set (weight_of weigh) s.views id v w at in
            let e : weigh_all weigh w.passes ≡ weigh_all weigh v.passes = ap (weigh_all weigh) more ∙ no_call_more v.passes n weigh in
            let all = r.all_calls weigh in omega arith);
        all_notices = λ weigh. (let t = total_set (notice_weight_of weigh) s.views id v w at in
            let e : weigh_notices weigh w.passes ≡ weigh_notices weigh v.passes + weigh n =
            ap (weigh_notices weigh) more ∙ one_notice_more v.passes n weigh some_pass in
            let all = r.all_notices weigh in let a = total_append weigh r.order (n ∷ []) in omega arith);
        found = found_push none_pending r.order n r.found (found ∙ r.pending n.server small);
        pending = λ k below. dite (ℕ_discrete n.server k)
            (λ here. ap (λ z. get_or (set s.words (n.server + 1) x) (z + 1) 0) (sym here) ∙
            (get_or-set_same s.words (n.server + 1) x 0 (let wide = r.wide in omega arith)
            ∙ (sym (left_here (pending_after r.order) n k here) ∙
            ap (λ words. words k) (sym (words_append none_pending r.order (n ∷ []))))))
            (λ other. get_or-set_other s.words (n.server + 1) (k + 1) x 0 (λ e. other (omega arith)) ∙ (r.pending k below
            ∙ (sym (left_elsewhere (pending_after r.order) n k other) ∙
            ap (λ words. words k) (sym (words_append none_pending r.order (n ∷ []))))));
        owed = all_append (IsOwed owes first r.history) r.order (n ∷ []) r.owed (owed, tt);
        eight_bits = λ k below. dite (ℕ_discrete n.server k)
            (λ here. subst (λ y. y < 256) (sym (ap (λ z. get_or (set s.words (n.server + 1) x) (z + 1) 0) (sym here) ∙
            get_or-set_same s.words (n.server + 1) x 0 (let wide = r.wide in omega arith))) low)
            (λ other. subst (λ y. y < 256) (sym (get_or-set_other s.words (n.server + 1) (k + 1) x 0 (λ e. other (omega arith))))
            (r.eight_bits k below));
        seated = all_views steps owes opening first passes (Sat s r order) s.views id w sits
            (λ j u other at_j. let g = r.seated j u at_j in record {
              opened = g.opened;
              seen = g.seen;
              told = g.told;
              holds = g.holds;
              notices = prefix_append u.notices r.order (n ∷ []) g.notices;
              told_notices = prefix_append u.told_notices r.order (n ∷ []) g.told_notices;
              own =
                  all_map _ _
                  (λ b k.
                  (k.0, notices_by_other r.order n b.pass (apart s r id j v.passes b n some_pass by f.own other k.2) ∙ k.1, k.2, k.3))
                  u.passes g.own;
              differ = g.differ;
              few = g.few;
            });
      }

  -- a pass that called exists
  some_called : (l : List (PassLog C R)) → 0 < count_calls l → 0 < length l
  some_called [] called = absurd (omega arith)
  some_called (p ∷ others) called = omega arith

  -- no bit was raised more often than the seat called, if at the notice's server it was raised less often before
  few_more : (at_seat : List (PassLog C R)) (n : Notice) (most : ℕ) → 0 < length at_seat → ((b : ℕ) → raised_by at_seat n.server b < most) →
      ((s b : ℕ) → raised_by at_seat s b ≤ most) → (s b : ℕ) → raised_by (add_notice at_seat n) s b ≤ most
  few_more at_seat n most some_pass room few s b =
      let all = one_notice_more at_seat n (raised_at s b) some_pass in
      dite (ℕ_discrete n.server s)
      (λ here. let r = raised_here s b n here in let below = bit_at-lt (set_by n.act) b in let less : raised_by at_seat s b < most =
      subst (λ t. raised_by at_seat t b < most) here (room b) in omega arith)
      (λ other. let r = raised_elsewhere s b n other in let most_of = few s b in omega arith)

  pub post_allowed : (slots id : ℕ) (me : AtSeat M C R) (server bits owed : ℕ) (m : M) → server < 16 → bits < 256 → me.0.opening ≡ Some m →
      LastOwes owes me.0 owed → bits ≡ bits_for owed server
      → ((b : ℕ) → raised_by me.0.passes server b < count_calls me.0.passes) →
      Allows Holds slots id me (server + 1) (λ n. bit_or n bits) (post (step slots (server + 1) bits 0 none) me)
  post_allowed slots id me server bits owed m small low from last is room s r _ at _ =
      let v : V = me.0 in let word : ℕ = get_or s.words (server + 1) 0 in let f = r.seated id v at in
      let some_pass = some_called v.passes (let some_room = room 0 in omega arith) in
      let n : Notice = post_of v server bits word in let w : V = with_notice v r.order n in
      let back : server ≡ (server + 1) - 1 = omega arith in
      let es : List (Entry C R) = last.0 in let e : Entry C R = last.1 in
      let long : length v.seen ≡ length es + 1 = ap length last.2 ∙ length-append es (e ∷ []) in
      let same_first : v.first ≡ first = (f.opened m from).1 in
      let there : get_elem? v.seen (length es) ≡ some e = ap (λ l. get_elem? l (length es)) last.2 ∙ at_pushed es e in
      let owed : IsOwed owes first r.history n =
      (length es, e, at_prefix v.seen r.history (length es) e f.seen there, last.3, omega arith, is ∙ ap (λ k. bits_for k server) last.4) in
      let owns : AllByRecursion (Owns s r (r.order ++ n ∷ []) id) w.passes = own_more s r id v.passes n refl f.differ f.own in
      let told : MakesNotice v n w = record {
        before = r.order;
        is = refl;
        seen = f.notices;
        told = f.told_notices;
        found = r.pending server small;
        order = found_push none_pending r.order n r.found (r.pending server small);
        own = all_map _ _ (λ b k. k.1) w.passes owns;
      } in (
        w,
        keeps,
        tt,
        noticed s r id v w n small refl (or_lt 8 word bits (r.eight_bits server small) low) at some_pass refl owed refl refl
            (record {
              opened = f.opened;
              seen = f.seen;
              told = f.told;
              holds = f.holds;
              notices = prefix_refl (r.order ++ n ∷ []);
              told_notices = prefix_nil (r.order ++ n ∷ []);
              own = owns;
              differ = differ_noticed v.passes n f.differ;
              few = λ t b. (let calls = no_call_more v.passes n (λ _. 1) in let k =
                  few_more v.passes n (count_calls v.passes) some_pass room f.few t b in omega arith);
            }),
        (subst (λ z. MakesNotice v (post_of v z bits word) w) back told, refl),
      )

  -- an entry of the history owes each pending bit
  pub pending_owed : (s : State S V) (r : Holds s) (server b : ℕ) → server < 16 → bit_at (get_or s.words (server + 1) 0) b ≡ 1 →
      OwedIn owes server b r.history
  pending_owed s r server b small is =
      let h = pending_notice r.order server b r.found (ap (λ x. bit_at x b) (sym (r.pending server small)) ∙ is) in
      owed_by h.1 (all_at (IsOwed owes first r.history) r.order h.0 h.1 h.2 r.owed) h.3 h.4
    where
      owed_act : (pass server at : ℕ) (act : Act) → IsActOwed owes first r.history pass at act → at ≡ server → bit_at (set_by act) b ≡ 1 →
          OwedIn owes server b r.history
      owed_act pass server at (Post bits place) k same set_bit =
          (k.0, k.1, k.2, sym (ap (λ n. bit_at n b) (k.5 ∙ ap (bits_for (owes k.1.reply)) same)) ∙ set_bit)
      owed_act pass server at Take k same set_bit = let z = bit_at-zero b in absurd (omega arith)

      owed_by : (n : Notice) → IsOwed owes first r.history n → n.server ≡ server → bit_at (set_by n.act) b ≡ 1 →
          OwedIn owes server b r.history
      owed_by n k same set_bit = owed_act n.pass server n.server n.act k same set_bit

  -- no bit was taken more often than there are calls
  taken_few : (s : State S V) (r : Holds s) (t b : ℕ) → taken_in r.order t b ≤ length r.history
  taken_few s r t b =
      let less = order_taken r.order t b r.found in
      let all = r.all_notices (raised_at t b) in
      let most = total_le (notice_weight_of (raised_at t b)) (weight_of (λ _. 1)) s.views (λ j u e. (r.seated j u e).few t b) in
      let calls = r.all_calls (λ _. 1) in let ones = count_ones r.history in omega arith

  pub take_allowed : (slots id : ℕ) (me : AtSeat M C R) (server : ℕ) → server < 16 → 0 < length me.0.passes →
      Allows Holds slots id me (server + 1) (λ _. 0) (take owes (step slots (server + 1) 0 0 none) me)
  unfolding noticed
  take_allowed slots id me server small some_pass s r _ at _ =
      let v : V = me.0 in let word : ℕ = get_or s.words (server + 1) 0 in let f = r.seated id v at in
      let n : Notice = take_of v server word in let w : V = with_notice (with_seen v r.history) r.order n in
      let back : server ≡ (server + 1) - 1 = omega arith in
      let owns : AllByRecursion (Owns s r (r.order ++ n ∷ []) id) w.passes = own_more s r id v.passes n refl f.differ f.own in
      let held : Holds record { words = set s.words (server + 1) 0; homes = s.homes; views = set s.views id w } =
      noticed s r id v w n small refl (omega arith) at some_pass refl tt refl refl
      (record {
        opened = f.opened;
        seen = prefix_refl r.history;
        told = prefix_nil r.history;
        holds = λ h. ((f.holds h).0, refl);
        notices = prefix_refl (r.order ++ n ∷ []);
        told_notices = prefix_nil (r.order ++ n ∷ []);
        own = owns;
        differ = differ_noticed v.passes n f.differ;
        few = λ t b. (let calls = no_call_more v.passes n (λ _. 1) in let more = one_notice_more v.passes n (raised_at t b) some_pass in
            let none = take_raises n t b refl in let k = f.few t b in omega arith);
      }) in
      let told : TakesBits owes v server word w = record {
        es = r.history;
        seen = f.seen;
        told = f.told;
        notices = record {
          before = r.order;
          is = refl;
          seen = f.notices;
          told = f.told_notices;
          found = r.pending server small;
          order = held.found;
          own = all_map _ _ (λ b k. k.1) w.passes owns;
        };
        eight_bits = r.eight_bits server small;
        few = λ b. (let few = taken_few record { words = set s.words (server + 1) 0; homes = s.homes; views = set s.views id w } held
            server b in
            let all = held.all_notices (taken_at server b) in
            let part = total_part (notice_weight_of (taken_at server b)) (set s.views id w) id w
            (set_here s.views id w (at_inside s.views v id at)) in
            let room = r.room in omega arith);
        owed = λ b set_bit. pending_owed s r server b small set_bit;
      } in (
        w,
        keeps,
        tt,
        held,
        (subst (λ z. TakesBits owes v z word w) back told, refl),
      )
    where
      take_raises : (n : Notice) (t b : ℕ) → n.act ≡ Take → raised_at t b n ≡ 0
      take_raises n t b is = dite (ℕ_discrete n.server t)
          (λ here. let r = raised_here t b n here in let none : bit_at (set_by n.act) b ≡ 0 =
          ap (λ a. bit_at (set_by a) b) is ∙ bit_at-zero b in omega arith)
          (λ other. raised_elsewhere t b n other)
