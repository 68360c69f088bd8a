-- Loads of word 0, and a turn from start to end.
use Rattle.std.proofs.Common.{◌≡◌, ℕ, ◌+◌, ◌*◌, ◌%◌, ◌^◌, ◌<◌, ◌==◌, true, true≢false, List, [], ◌∷◌, ◌++◌, length, set, get_or}
use Rattle.std.proofs.Common.{refl, ap, sym, ◌∙◌, subst, arith, eq-eqb, ne_eqb, length-append, length-set, get_or-set_same}
use Rattle.std.proofs.Common.{get_or-set_other, Option, Some}
use Rattle.std.specs.List.{AllByRecursion}
use mathlib.Core.Logic.{dite}
use mathlib.Core.Option as maybe
use mathlib.Core.Option.{none, some, some-injective, some-ne-none}
use mathlib.Core.List.{IsPrefix}
use native.Mathlib.Decide.{ℕ_discrete}
use lib.ListN.{get_elem?}
use prog.Atomic.{either}
use Rattle.std.proofs.lemmas.Bool.{false_from_ne_true}
use Rattle.atomic_table.specs.Table.{Allows, gives, keeps, put_back, rest, State, step, takes}
use Rattle.atomic_table.proofs.Lists.{set_here}
use Rattle.history.specs.declared.entry.Entry.{Entry}
use Rattle.desk_rule.specs.declared.view.PassLog.{PassLog}
use Rattle.desk_rule.specs.declared.view.View.{View}
use Rattle.desk_rule.specs.declared.table.Home.{Home}
use Rattle.desk_rule.specs.declared.table.LastCall.{LastCall}
use Rattle.desk_rule.specs.declared.notice.Notice.{Notice}
use Rattle.history.specs.History.{entry, Run}
use Rattle.desk_rule.specs.History.{OwnCalls}
use Rattle.desk_rule.specs.Notices.{raised_at}
use Rattle.desk_rule.specs.Passes.{add_call, number_of}
use Rattle.desk_rule.specs.Kinds.{after_look, after_turn, AtSeat, end_of_turn, hold, look, TellsTurn}
use Rattle.desk_rule.specs.Rule.{IsAtHome, notice_weight_of, pass_count, turn_bit, weight_of}
use Rattle.desk_rule.specs.Seat.{EndsTurn, SeatOf}
use Rattle.desk_rule.proofs.ListLemmas.{all_map, at_inside, only_of, prefix_append, prefix_nil, prefix_refl, some_of, total_append}
use Rattle.desk_rule.proofs.ListLemmas.{total_set}
use Rattle.desk_rule.proofs.RuleLemmas.{all_views, calls_by_other, calls_by_own, differ_called, looked, no_notice_more, one_call_more, Own}
use Rattle.desk_rule.proofs.RuleLemmas.{owed_still, Rule, sits_looked, Sits, stays, word_same, word_small}

-- if the low bit is 1, a seat holds the turn
turn_is_held : (turn : maybe.Option ℕ) (n word : ℕ) → word ≡ 2 * n + turn_bit turn → word % 2 ≡ 1 → (j : ℕ) × (turn ≡ some j)
turn_is_held none n word is odd = absurd (omega arith)
turn_is_held (some j) n word is odd = (j, refl)

-- the word says that the turn is free
turn_is_free : (turn : maybe.Option ℕ) (n k : ℕ) → 2 * n + turn_bit turn ≡ 2 * k → turn ≡ none
turn_is_free none n k e = refl
turn_is_free (some j) n k e = absurd (omega arith)

module _ {M C R : Type 0} (steps : M → C → R → M → Type 0) (owes : R → ℕ) (opening : M) (first passes : ℕ) where
  abbrev V : Type 0
  V = View M C R

  abbrev S : Type 0
  S = Option (Home M C R)

  abbrev Holds : State S V → Type 0
  Holds = Rule steps owes opening first passes

  -- what word 0 says of the turn
  tells_turn : (s : State S V) (r : Holds s) (id : ℕ) (v : V) → get_elem? s.views id ≡ some v → TellsTurn steps owes v (get_or s.words 0 0)
  tells_turn s r id v at = let word = r.word in record {
    opening = opening;
    first = first;
    passes = passes;
    state = s;
    rule = r;
    loaded = refl;
    seat = id;
    here = at;
    held = λ odd. (let j = turn_is_held r.turn (first + length r.history) _ r.word odd in let h = r.holder j.0 j.1 in (j.0, h.0, h.1, h.2));
    free = λ even j w at_j. false_from_ne_true w.holding
        (λ h. let one : turn_bit r.turn ≡ 1 = ap turn_bit ((r.seated j w at_j).holds h).0 in omega arith);
    own = λ h. (let one : turn_bit r.turn ≡ 1 = ap turn_bit ((r.seated id v at).holds h).0 in omega arith);
  }

  pub look_allowed : (slots id : ℕ) (me : AtSeat M C R) → Allows Holds slots id me 0 (λ n. n) (look steps owes (step slots 0 0 0 none) me)
  look_allowed slots id me s r _ at _ = let v : V = me.0 in let f = r.seated id v at in (
    after_look v v.holding r.history r.order,
    keeps,
    tt,
    stays steps owes opening first passes s r id v (after_look v v.holding r.history r.order) at
        (sits_looked steps owes opening first passes r.history r.order r.turn r.seat_of id v v.holding f (λ h. (f.holds h).0)) refl refl _
        (word_same steps owes opening first passes s),
    (
      (looked steps owes opening first passes s r id v v.holding at, refl),
      word_small steps owes opening first passes s r,
      tells_turn s r id v at,
    ),
  )

  -- the rule after a seat takes the turn
  held : (s : State S V) (r : Holds s) (id : ℕ) (v : V) → get_elem? s.views id ≡ some v → 0 < length v.passes → r.turn ≡ none →
      first + length r.history < 2 ^ 62 → (homes : List (maybe.Option S)) → homes ≡ none ∷ []
      → Holds record
      { words = set s.words 0 (get_or s.words 0 0 + 1); homes = homes; views = set s.views id (after_look v true r.history r.order) }
  held s r id v at some_pass free room homes out = let w : V = after_look v true r.history r.order in let f = r.seated id v at in
      let word : ℕ = get_or s.words 0 0 in record {
        history = r.history;
        order = r.order;
        machine = r.machine;
        turn = some id;
        seat_of = r.seat_of;
        wide = length-set s.words 0 _ ∙ r.wide;
        word = get_or-set_same s.words 0 (word + 1) 0 (let l = r.wide in omega arith) ∙
            (let n : ℕ = length r.history in let e : word ≡ 2 * (first + n) + turn_bit r.turn = r.word in let z : turn_bit r.turn ≡ 0 =
            ap turn_bit free in omega arith);
        room = (let n : ℕ = length r.history in omega arith);
        legal = r.legal;
        home = out;
        holder = λ j e. (let here : id ≡ j = some-injective id j e in
            (w, ap (λ k. get_elem? (set s.views id w) k) (sym here) ∙ set_here s.views id w (at_inside s.views v id at), refl, some_pass));
        all_passes = (let t = total_set pass_count s.views id v w at in let all = r.all_passes in omega arith);
        all_calls = λ weigh. (let t = total_set (weight_of weigh) s.views id v w at in let all = r.all_calls weigh in omega arith);
        all_notices = λ weigh. (let t = total_set (notice_weight_of weigh) s.views id v w at in let all = r.all_notices weigh in
            omega arith);
        found = r.found;
        pending = λ k small. get_or-set_other s.words 0 (k + 1) (word + 1) 0 (λ e. omega arith) ∙ r.pending k small;
        owed = r.owed;
        eight_bits = λ k small. subst (λ n. n < 256) (sym (get_or-set_other s.words 0 (k + 1) (word + 1) 0 (λ e. omega arith)))
            (r.eight_bits k small);
        seated = all_views steps owes opening first passes (Sits steps owes opening first passes r.history r.order (some id) r.seat_of)
            s.views
            id w
            (record {
              opened = f.opened;
              seen = prefix_refl r.history;
              told = prefix_nil r.history;
              holds = λ _. (refl, refl);
              notices =
                  prefix_refl r.order;
              told_notices = prefix_nil r.order;
              own = f.own;
              differ = f.differ;
              few = f.few;
            })
            (λ j u _ e. let g = r.seated j u e in record {
              opened = g.opened;
              seen = g.seen;
              told = g.told;
              holds = λ h. absurd (some-ne-none j (sym (g.holds h).0 ∙ free));
              notices = g.notices;
              told_notices = g.told_notices;
              own = g.own;
              differ = g.differ;
              few = g.few;
            });
      }

  pub hold_allowed : (slots id : ℕ) (me : AtSeat M C R) (word new k : ℕ) → word ≡ 2 * k → new ≡ word + 1 → k < 2 ^ 62 →
      0 < length me.0.passes
      → Allows Holds slots id me 0 (λ n. either (n == word) new n) (hold steps owes (step slots 0 word new none) me)
  hold_allowed slots id me word new k even next room some_pass s r _ at _ =
      let v : V = me.0 in let f = r.seated id v at in let n : ℕ = length r.history in let found : ℕ = get_or s.words 0 0 in
      dite (ℕ_discrete found word)
      (λ hit. let w : V = after_look v true r.history r.order in
      let is : found ≡ 2 * (first + n) + turn_bit r.turn = r.word in
      let free : r.turn ≡ none = turn_is_free r.turn (first + n) k (sym is ∙ (hit ∙ even)) in
      let z : turn_bit r.turn ≡ 0 = ap turn_bit free in
      let home : IsAtHome r.machine s.homes none = subst (λ t. IsAtHome r.machine s.homes t) free r.home in
      let h : Home M C R = record { machine = r.machine; last = home.0 } in (
        w,
        takes 0 (Some h),
        ap (λ l. get_elem? l 0) home.1,
        subst (λ x. Holds record { words = set s.words 0 x; homes = set s.homes 0 none; views = set s.views id w })
            (ap (λ x. x + 1) hit ∙ (sym next ∙ sym (ap (λ b. either b new found) (eq-eqb found word hit))))
            (held s r id v at some_pass free (omega arith) (set s.homes 0 none) (ap (λ l. set l 0 none) home.1)),
        (
          (λ _. (
            looked steps owes opening first passes s r id v true at,
            (h, refl, λ m e. subst (λ (y : M). Run steps y r.history r.machine) (sym (f.opened m e).0) r.legal),
          )),
          (λ miss. absurd (miss hit)),
          word_small steps owes opening first passes s r,
          tells_turn s r id v at,
        ),
      ))
      (λ miss. (
        after_look v v.holding r.history r.order,
        keeps,
        tt,
        stays steps owes opening first passes s r id v (after_look v v.holding r.history r.order) at
            (sits_looked steps owes opening first passes r.history r.order r.turn r.seat_of id v v.holding f (λ h. (f.holds h).0)) refl
            refl _
            (ap (λ b. set s.words 0 (either b new found)) (ne_eqb found word miss) ∙ word_same steps owes opening first passes s),
        (
          (λ hit. absurd (miss hit)),
          (λ _. (looked steps owes opening first passes s r id v v.holding at, refl)),
          word_small steps owes opening first passes s r,
          tells_turn s r id v at,
        ),
      ))

  ended_word : (s : State S V) (r : Holds s) (j : ℕ) → r.turn ≡ some j →
      (get_or s.words 0 0 + 1) % 2 ^ 64 ≡ 2 * (first + (length r.history + 1)) + 0
  ended_word s r j out = let n : ℕ = length r.history in let word : get_or s.words 0 0 ≡ 2 * (first + n) + turn_bit r.turn = r.word in
      let one : turn_bit r.turn ≡ 1 = ap turn_bit out in let room = r.room in
      let x : ℕ = get_or s.words 0 0 + 1 in omega arith

  abbrev Owns : List (Entry C R) → List Notice → (ℕ → ℕ) → ℕ → PassLog C R → Type 0
  Owns = Own steps owes opening first passes

  own_call : (history : List (Entry C R)) (order : List Notice) (seat_of : ℕ → ℕ) (id : ℕ) (at_seat : List (PassLog C R)) (p : PassLog C R)
      (c : C) (r : R) → at_seat ≡ p ∷ [] → AllByRecursion (Owns history order seat_of id) at_seat
      → let e = entry (number_of at_seat) c r in AllByRecursion (Owns (history ++ e ∷ []) order seat_of id) (add_call at_seat e)
  own_call history order seat_of id at_seat p c r one owns =
      let own : Owns history order seat_of id p = (subst (λ l. AllByRecursion (Owns history order seat_of id) l) one owns).0 in
      subst (λ l. AllByRecursion (Owns (history ++ entry (number_of l) c r ∷ []) order seat_of id) (add_call l (entry (number_of l) c r)))
      (sym one)
      ((calls_by_own history p.pass c r ∙ ap (λ ys. ys ++ entry p.pass c r ∷ []) own.0, own.1, own.2, own.3), tt)

  pub end_allowed : (slots id : ℕ) (me : AtSeat M C R) (h : Home M C R) (l : LastCall C R) (c : List (ℕ × S)) (p : PassLog C R) (m : M)
      → me.1 ≡ (0, Some h) ∷ c → h.last ≡ Some l → me.0.holding ≡ true → me.0.passes ≡ p ∷ [] → me.0.opening ≡ Some m
      → Run steps m (me.0.seen ++ entry (number_of me.0.passes) l.command.value l.reply.value ∷ []) h.machine
      → Allows Holds slots id me 0 (λ n. (n + 1) % 2 ^ 64) (end_of_turn (step slots 0 1 0 none) me)
  end_allowed slots id me h l c p m out last holding one from legal s r _ at _ =
      let v : V = me.0 in let f = r.seated id v at in
      let command : C = l.command.value in let reply : R = l.reply.value in
      let n : ℕ = number_of v.passes in let e : Entry C R = entry n command reply in
      let w : V = after_turn v command reply in
      let history : List (Entry C R) = r.history ++ e ∷ [] in
      let turn : r.turn ≡ some id = (f.holds holding).0 in
      let seen : v.seen ≡ r.history = (f.holds holding).1 in
      let long : length history ≡ length r.history + 1 = length-append r.history (e ∷ []) in
      let empty : s.homes ≡ none ∷ [] = subst (λ t. IsAtHome r.machine s.homes t) turn r.home in
      let owns : AllByRecursion (Owns history r.order r.seat_of id) w.passes =
      own_call r.history r.order r.seat_of id v.passes p command reply one f.own in
      let number : n ≡ p.pass = ap number_of one in
      let own : Owns r.history r.order r.seat_of id p = (subst (λ l. AllByRecursion (Owns r.history r.order r.seat_of id) l) one f.own).0 in
      let mine : OwnCalls w.seen w.passes = subst (λ l. OwnCalls (l ++ e ∷ []) w.passes) (sym seen)
      (all_map _ _ (λ a k. k.0) w.passes owns) in
      let word : ℕ = (get_or s.words 0 0 + 1) % 2 ^ 64 in (
        w,
        gives,
        tt,
        record {
          history = history;
          order = r.order;
          machine = h.machine;
          turn = none;
          seat_of = r.seat_of;
          wide = length-set s.words 0 _ ∙ r.wide;
          word = get_or-set_same s.words 0 _ 0 (let wide = r.wide in omega arith) ∙
              (ended_word s r id turn ∙ ap (λ z. 2 * (first + z) + 0) (sym long));
          room = (let z : turn_bit r.turn ≡ 1 = ap turn_bit turn in let room = r.room in omega arith);
          legal = subst (λ (y : M × List (Entry C R)). Run steps y.0 (y.1 ++ e ∷ []) h.machine) (λ i. ((f.opened m from).0 i, seen i))
              legal;
          home = (h.last, ap (put_back s.homes) out ∙ ap (λ l. set l 0 (some (Some h))) empty);
          holder = λ j never. absurd (some-ne-none j (sym never));
          all_passes = (let t = total_set pass_count s.views id v w at in let all = r.all_passes in let b : length v.passes ≡ 1 =
              ap length one in let d : length w.passes ≡ 1 = ap (λ l. length (add_call l e)) one in omega arith);
          all_calls = λ weigh. (let t = total_set (weight_of weigh) s.views id v w at in let all = r.all_calls weigh in let more =
              one_call_more v.passes p e weigh one in let k = total_append weigh r.history (e ∷ []) in omega arith);
          all_notices = λ weigh. (let t = total_set (notice_weight_of weigh) s.views id v w at in let all = r.all_notices weigh in
              let more = no_notice_more v.passes e weigh in omega arith);
          found = r.found;
          pending = λ k small. get_or-set_other s.words 0 (k + 1) word 0 (λ e. omega arith) ∙ r.pending k small;
          owed = owed_still owes first r.history (e ∷ []) r.order r.owed;
          eight_bits = λ k small. subst (λ n. n < 256) (sym (get_or-set_other s.words 0 (k + 1) word 0 (λ e. omega arith)))
              (r.eight_bits k small);
          seated = all_views steps owes opening first passes (Sits steps owes opening first passes history r.order none r.seat_of) s.views
              id w
              (record {
                opened = f.opened;
                seen = subst (λ l. IsPrefix (l ++ e ∷ []) history) (sym seen) (prefix_refl history);
                told = prefix_nil history;
                holds = λ no. absurd (true≢false (sym no));
                notices = f.notices;
                told_notices = f.told_notices;
                own = owns;
                differ = differ_called v.passes e f.differ;
                few = λ s b. (let k = f.few s b in let more = one_call_more v.passes p e (λ _. 1) one in let same =
                    no_notice_more v.passes e (raised_at s b) in omega arith);
              })
              (λ j u other at_j. let g = r.seated j u at_j in record {
                opened = g.opened;
                seen = prefix_append u.seen r.history (e ∷ []) g.seen;
                told = prefix_append u.told r.history (e ∷ []) g.told;
                holds = λ hh. absurd (other (some-injective j id (sym (g.holds hh).0 ∙ turn)));
                notices = g.notices;
                told_notices = g.told_notices;
                own =
                    all_map _ _
                    (λ b k. (
                      calls_by_other r.history n b.pass command reply (λ q. other (sym k.2 ∙ (ap r.seat_of (sym q ∙ number) ∙ own.2))) ∙
                          k.0,
                      k.1,
                      k.2,
                      k.3,
                    )) u.passes g.own;
                differ = g.differ;
                few = g.few;
              });
        },
        λ h2 l2 c2 out2 last2. let sp : let t : ℕ × S = (0, Some h) in let t2 : ℕ × S = (0, Some h2) in t ≡ t2 = cc in let so : let t : S =
            Some h in let t2 : S = Some h2 in t ≡ t2 = ap (λ (q : ℕ × S). q.1) sp in
            let sh : h ≡ h2 = cc in let sc : c ≡ c2 = cc in let sl : l ≡ l2 = cc in
            ((λ i. (after_turn v (sl i).command.value (sl i).reply.value, (ap rest out ∙ sc) i)), mine),
      )

  -- a seat that holds the turn may end it, once its machine is back
  pub end_of : (slots : ℕ) (q : SeatOf M C R) → EndsTurn steps q →
      Allows Holds slots q.id q.me 0 (λ n. (n + 1) % 2 ^ 64) (end_of_turn (step slots 0 1 0 none) q.me)
  end_of slots q e = let one = only_of q.me.0.passes e.one_pass in let from = some_of q.me.0.opening e.opened in
      end_allowed slots q.id q.me e.home e.last [] one.0 from.0 e.back e.said e.holding one.1 from.1 (e.machine from.0 from.1)
