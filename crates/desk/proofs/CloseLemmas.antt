-- Passes gathered at a seat, and what a closed desk leaves.
use Rattle.std.proofs.Common.{◌≡◌, ℕ, ◌+◌, ◌*◌, ◌/◌, ◌%◌, ◌^◌, ◌≤◌, ◌<◌, true, List, [], ◌∷◌, ◌++◌, length, refl, ap, sym, ◌∙◌, subst}
use Rattle.std.proofs.Common.{arith, length-append}
use Rattle.std.specs.Prelude.{slice_index}
use Rattle.std.specs.List.{AllByRecursion}
use Rattle.std.specs.Int.{bit_at}
use mathlib.Core.Option.{some}
use mathlib.Core.List.{IsPrefix}
use lib.ListN.{get_elem?}
use Rattle.std.proofs.lemmas.Nat.Bits.{bit_at-lt}
use Rattle.history.specs.declared.entry.Entry.{Entry}
use Rattle.desk_rule.specs.declared.view.PassLog.{PassLog}
use Rattle.desk_rule.specs.declared.view.View.{View}
use Rattle.desk_rule.specs.declared.notice.Notice.{Notice}
use Rattle.history.specs.History.{calls_by, Stepped}
use Rattle.desk_rule.specs.History.{OwnCalls, total_of, weigh_all}
use Rattle.desk_rule.specs.Kinds.{after_pass, Looks}
use Rattle.desk_rule.specs.Notices.{notices_by, OwnNotices, raised_at, raised_by, raised_in, taken_at, taken_by, taken_in, weigh_notices}
use Rattle.desk_rule.specs.Seat.{IsClosed, SeatOf}
use Rattle.desk_rule.proofs.ListLemmas.{all_append, all_map, all_split, prefix_trans, prefixes_agree, total_append}
use Rattle.desk.specs.declared.account.Row.{Row}
use Rattle.desk.specs.declared.close.Closed.{Closed}
use Rattle.desk.specs.declared.pass.Sight.{Ghosts}
use Rattle.desk.specs.Calls.{PassesAgree}
use Rattle.desk.specs.Closing.{AllAgree, gathered, HasAllNoticed, HasAllSeen, IsAccount, IsRow, LeavesHistory, pending_bit, Sums, Wraps}
use Rattle.desk.specs.Pass.{calls, history, notices, number, order, Pass}
use Rattle.desk_rule.specs.Steps.{rests_of}
use Rattle.desk.specs.Tally.{Tallies}
use Rattle.desk.proofs.RowLemmas.{wraps_more}
use Rattle.desk.proofs.PassLemmas.{own_notices_one, own_one, weigh_one, weigh_one_notices}
use Rattle.desk_rule.proofs.WaitLemmas.{rests_facts}
use Rattle.history.proofs.RunLemmas.{values_run}

-- a row's pending flag is the bit of the word
row_pending : (pending raises takes' : List ℕ) (rows : List Row) (s b : ℕ) → s < 16 → b < 8 →
    ((k : ℕ) → k < 128 → IsRow pending raises takes' rows k)
    → (r : Row) × (get_elem? rows (8 * s + b) ≡ some r) × (pending_bit r ≡ bit_at (slice_index pending s) b)
row_pending pending raises takes' rows s b hs hb row =
    let r = row (8 * s + b) (omega arith) in let server : (8 * s + b) / 8 ≡ s = omega arith in let bit : (8 * s + b) % 8 ≡ b =
    omega arith in
    (r.0, r.1, r.4 ∙ (λ i. bit_at (slice_index pending (server i)) (bit i)))

pub all_last : {A : Type 0} (P : A → Type 0) (xs ys : List A) (x : A) → ys ≡ xs ++ x ∷ [] → AllByRecursion P ys → AllByRecursion P xs × P x
all_last P xs ys x e all = let both = all_split P xs (x ∷ []) (subst (λ l. AllByRecursion P l) e all) in (both.0, both.1.0)

-- `rests` of a pass agrees with the rule's view
abbrev pub Tells : {M C R : Type 0} → Ghosts (View M C R) → Type 0
Tells {M} {C} {R} G = (v : View M C R) → G.rests v ≡ true → rests_of v ≡ true

module _ {M C R : Type 0} {G : Ghosts (View M C R)} where
  pub gathered_last : (l : List (PassLog C R)) (ps : List (Pass M C R G)) (p : Pass M C R G) →
      gathered l (ps ++ p ∷ []) ≡ gathered (l ++ p.seat.me.0.passes) ps
  gathered_last l [] p = refl
  gathered_last l (q ∷ qs) p = ap (λ m. m ++ q.seat.me.0.passes) (gathered_last l qs p)

  -- the seat q is p0 with the passes of all that aren't among ps
  pub record Gathers (p0 q : SeatOf M C R) (all ps : List (Pass M C R G)) (raises takes' : List ℕ) : Type 0 where
    pub same_table : q.table_id ≡ p0.table_id
    pub same_holding : q.me.0.holding ≡ p0.me.0.holding
    pub passes : gathered q.me.0.passes ps ≡ gathered p0.me.0.passes all
    -- a history that extends what q has seen extends what p0 and the passes that aren't among ps have seen
    pub seen : (h : List (Entry C R)) → IsPrefix q.me.0.seen h → HasAllSeen h ps → IsPrefix p0.me.0.seen h × HasAllSeen h all
    pub noticed : (ns : List Notice) → IsPrefix q.me.0.notices ns → HasAllNoticed ns ps → IsPrefix p0.me.0.notices ns × HasAllNoticed ns all
    pub rows_raised : Wraps raises (raised_by q.me.0.passes)
    pub rows_taken : Wraps takes' (taken_by q.me.0.passes)

  pub gathers_none : (p : SeatOf M C R) (all : List (Pass M C R G)) (raises takes' : List ℕ) → Wraps raises (raised_by p.me.0.passes) →
      Wraps takes' (taken_by p.me.0.passes) → Gathers p p all all raises takes'
  gathers_none p all raises takes' r t = record {
    same_table = refl;
    same_holding = refl;
    passes = refl;
    seen = λ h begins all_seen. (begins, all_seen);
    noticed =
        λ ns begins all_seen. (begins, all_seen);
    rows_raised = r;
    rows_taken = t;
  }

  pub gathers_more : (steps : M → C → R → M → Type 0) (p0 p q : SeatOf M C R) (all ps ps' : List (Pass M C R G)) (x : Pass M C R G)
      (found : ℕ) (raises raises' takes' takes'' more gone : List ℕ)
      → Gathers p0 p all ps raises takes' → ps ≡ ps' ++ x ∷ [] → q.table_id ≡ p.table_id →
      Looks steps (after_pass p.me.0 x.seat.me.0) found p.me.0.holding q.me.0
      → Tallies more (raised_by x.seat.me.0.passes) → Sums raises more raises' → Tallies gone (taken_by x.seat.me.0.passes) →
      Sums takes' gone takes'' → Gathers p0 q all ps' raises' takes''
  gathers_more steps p0 p q all ps ps' x found raises raises' takes' takes'' more gone g is same l tr sr tt' st =
      let weighs : (weigh : Notice → ℕ) → weigh_notices weigh q.me.0.passes ≡ weigh_notices weigh p.me.0.passes + weigh_notices weigh
      x.seat.me.0.passes =
      λ weigh. ap (λ (v : View M C R). weigh_notices weigh v.passes) l.is ∙
      total_append (λ (a : PassLog C R). total_of weigh a.notices) p.me.0.passes x.seat.me.0.passes in record {
        same_table = same ∙ g.same_table;
        same_holding = ap (λ (v : View M C R). v.holding) l.is ∙ g.same_holding;
        passes = ap (λ (v : View M C R). gathered v.passes ps') l.is ∙
            (sym (gathered_last p.me.0.passes ps' x) ∙ (ap (gathered p.me.0.passes) (sym is) ∙ g.passes));
        seen = λ h begins rest. g.seen h (prefix_trans _ _ _ l.seen begins)
            (subst (HasAllSeen h) (sym is)
            (all_append (λ (y : Pass M C R G). IsPrefix (history y) h) ps' (x ∷ []) rest (prefix_trans _ _ _ l.told begins, tt)));
        noticed = λ ns begins rest. g.noticed ns (prefix_trans _ _ _ l.notices begins)
            (subst (HasAllNoticed ns) (sym is)
            (all_append (λ (y : Pass M C R G). IsPrefix (order y) ns) ps' (x ∷ []) rest (prefix_trans _ _ _ l.told_notices begins, tt)));
        rows_raised = wraps_more raises more raises' _ _ _ g.rows_raised tr sr (λ s b. weighs (raised_at s b));
        rows_taken = wraps_more takes' gone takes'' _ _ _ g.rows_taken tt' st (λ s b. weighs (taken_at s b));
      }

  -- a history that extends what the last one and the others have seen
  pub all_seen : (h : List (Entry C R)) (all ps : List (Pass M C R G)) (p : Pass M C R G) (es : List (Entry C R)) → all ≡ ps ++ p ∷ [] →
      IsPrefix es h →
      IsPrefix p.seat.me.0.seen es → AllByRecursion (λ (x : Pass M C R G). IsPrefix (history x) es) ps → HasAllSeen h all
  all_seen h all ps p es is begins last others = subst (HasAllSeen h) (sym is)
      (all_append (λ (x : Pass M C R G). IsPrefix (history x) h) ps (p ∷ []) (all_map _ _ (λ x b. prefix_trans _ _ _ b begins) ps others)
      (prefix_trans _ _ _ last begins, tt))

  pub all_noticed : (ns : List Notice) (all ps : List (Pass M C R G)) (p : Pass M C R G) (seen : List Notice) → all ≡ ps ++ p ∷ [] →
      IsPrefix seen ns →
      IsPrefix p.seat.me.0.notices seen → AllByRecursion (λ (x : Pass M C R G). IsPrefix (order x) seen) ps → HasAllNoticed ns all
  all_noticed ns all ps p seen is begins last others = subst (HasAllNoticed ns) (sym is)
      (all_append (λ (x : Pass M C R G). IsPrefix (order x) ns) ps (p ∷ []) (all_map _ _ (λ x b. prefix_trans _ _ _ b begins) ps others)
      (prefix_trans _ _ _ last begins, tt))

  -- all passes sit at the last one's seat
  pub all_gathered : (all ps : List (Pass M C R G)) (p : Pass M C R G) (l : List (PassLog C R)) → all ≡ ps ++ p ∷ [] →
      l ≡ gathered p.seat.me.0.passes ps → l ≡ gathered [] all
  all_gathered all ps p l is e = e ∙ (sym (gathered_last [] ps p) ∙ ap (gathered []) (sym is))

  pub length_gathered : Tells G → (l : List (PassLog C R)) (ps : List (Pass M C R G)) → length (gathered l ps) ≡ length l + length ps
  length_gathered tells l [] = omega arith
  length_gathered tells l (p ∷ ps) = let rest = length_gathered tells l ps in let a = length-append (gathered l ps) p.seat.me.0.passes in
      let one : length p.seat.me.0.passes ≡ 1 = (rests_facts p.seat.me.0 (tells p.seat.me.0 p.resting)).1 in omega arith

  own_gathered : Tells G → (history : List (Entry C R)) (ps : List (Pass M C R G)) → OwnCalls history (gathered [] ps) →
      AllByRecursion (λ p. calls_by (number p) history ≡ calls p) ps
  own_gathered tells history [] own = tt
  own_gathered tells history (p ∷ ps) own = let s = all_split _ (gathered [] ps) p.seat.me.0.passes own in
      (own_one history p.seat.me.0.passes (rests_facts p.seat.me.0 (tells p.seat.me.0 p.resting)).1 s.1, own_gathered tells history ps s.0)

  weigh_gathered : Tells G → (weigh : Entry C R → ℕ) (ps : List (Pass M C R G)) →
      weigh_all weigh (gathered [] ps) ≡ total_of (λ p. total_of weigh (calls p)) ps
  weigh_gathered tells weigh [] = refl
  weigh_gathered tells weigh (p ∷ ps) =
      let rest = weigh_gathered tells weigh ps in let a =
      total_append (λ (x : PassLog C R). total_of weigh x.calls) (gathered [] ps) p.seat.me.0.passes in
      let one = weigh_one weigh p.seat.me.0.passes (rests_facts p.seat.me.0 (tells p.seat.me.0 p.resting)).1 in omega arith

  own_notices_gathered : Tells G → (ns : List Notice) (ps : List (Pass M C R G)) → OwnNotices ns (gathered [] ps) →
      AllByRecursion (λ p. notices_by (number p) ns ≡ notices p) ps
  own_notices_gathered tells ns [] own = tt
  own_notices_gathered tells ns (p ∷ ps) own = let s = all_split _ (gathered [] ps) p.seat.me.0.passes own in (
    own_notices_one ns p.seat.me.0.passes (rests_facts p.seat.me.0 (tells p.seat.me.0 p.resting)).1 s.1,
    own_notices_gathered tells ns
        ps s.0,
  )

  weigh_notices_gathered : Tells G → (weigh : Notice → ℕ) (ps : List (Pass M C R G)) →
      weigh_notices weigh (gathered [] ps) ≡ total_of (λ p. total_of weigh (notices p)) ps
  weigh_notices_gathered tells weigh [] = refl
  weigh_notices_gathered tells weigh (p ∷ ps) =
      let rest = weigh_notices_gathered tells weigh ps in let a =
      total_append (λ (x : PassLog C R). total_of weigh x.notices) (gathered [] ps) p.seat.me.0.passes in
      let one = weigh_one_notices weigh p.seat.me.0.passes (rests_facts p.seat.me.0 (tells p.seat.me.0 p.resting)).1 in omega arith

  -- the history of a closed table, and the order of its notices, are those of the passes
  pub left_of_passes : {S : Type 0} → Tells G →
      (stands : M → S → Type 0) (steps : S → C → R → S → Type 0) (owes : R → ℕ) (opened m : M) (first : ℕ) (ps : List (Pass M C R G))
      (v : View M C R)
      (pending raises takes' : List ℕ) (rows : List Row)
      → IsClosed (Stepped stands steps) owes opened first v m pending → v.passes ≡ gathered [] ps
      → ((h : List (Entry C R)) → IsPrefix v.seen h → HasAllSeen h ps) →
      ((ns : List Notice) → IsPrefix v.notices ns → HasAllNoticed ns ps) → ((k : ℕ) → k < 128 → IsRow pending raises takes' rows k)
      → LeavesHistory stands steps owes opened first ps record { machine = m; account = rows }
  left_of_passes tells stands steps owes opened m first ps v pending raises takes' rows closed is seen noticed row = (
    closed.history,
    closed.order,
    record {
      leads = values_run stands steps opened m closed.history closed.legal;
      begins = seen closed.history closed.seen;
      own = own_gathered tells closed.history ps (subst (λ l. OwnCalls closed.history l) is closed.own);
      no_others = λ weigh. closed.no_others weigh ∙ (ap (weigh_all weigh) is ∙ weigh_gathered tells weigh ps);
    },
    record {
      found = closed.found;
      owed = closed.owed;
      begins = noticed closed.order closed.notices;
      own = own_notices_gathered tells closed.order ps (subst (λ l. OwnNotices closed.order l) is closed.own_notices);
      no_others = λ weigh. closed.no_other_notices weigh ∙ (ap (weigh_notices weigh) is ∙ weigh_notices_gathered tells weigh ps);
      left = λ s b hs hb. let r = row_pending pending raises takes' rows s b hs hb row in
          (r.0, r.1, r.2 ∙ ap (λ x. bit_at x b) (closed.left s hs));
    },
  )

  -- prefixes of one history, and of one order, agree
  agrees_with : (log : List (Entry C R)) (ns : List Notice) (p : Pass M C R G) (qs : List (Pass M C R G))
      → IsPrefix (history p) log → IsPrefix (order p) ns → HasAllSeen log qs → HasAllNoticed ns qs → AllByRecursion (PassesAgree p) qs
  agrees_with log ns p [] here there seen noticed = tt
  agrees_with log ns p (q ∷ qs) here there seen noticed = (
    (prefixes_agree (history p) (history q) log here seen.0, prefixes_agree (order p) (order q) ns there noticed.0),
    agrees_with log ns p qs here there seen.1 noticed.1,
  )

  agree_with : (log : List (Entry C R)) (ns : List Notice) (ps qs : List (Pass M C R G))
      → HasAllSeen log ps → HasAllNoticed ns ps → HasAllSeen log qs → HasAllNoticed ns qs
      → AllByRecursion (λ p. AllByRecursion (PassesAgree p) qs) ps
  agree_with log ns [] qs here there seen noticed = tt
  agree_with log ns (p ∷ ps) qs here there seen noticed =
      (agrees_with log ns p qs here.0 there.0 seen noticed, agree_with log ns ps qs here.1 there.1 seen noticed)

  pub all_agree : {S : Type 0} (stands : M → S → Type 0) (steps : S → C → R → S → Type 0) (owes : R → ℕ) (opened : M) (first : ℕ)
      (ps : List (Pass M C R G)) (closed : Closed M) → LeavesHistory stands steps owes opened first ps closed → AllAgree ps
  all_agree stands steps owes opened first ps closed left =
      agree_with left.0 left.1 ps ps left.2.begins left.3.begins left.2.begins left.3.begins

  -- the rows are the account
  pub account_of : Tells G → (v : View M C R) (all : List (Pass M C R G)) (pending raises takes' : List ℕ) (rows : List Row) →
      v.passes ≡ gathered [] all
      → ((s b : ℕ) → s < 16 → raised_by v.passes s b ≡ taken_by v.passes s b + bit_at (slice_index pending s) b) →
      ((s b : ℕ) → s < 16 → raised_by v.passes s b ≤ 2 ^ 62)
      → Wraps raises (raised_by v.passes) → Wraps takes' (taken_by v.passes) → length rows ≡ 128 →
      ((k : ℕ) → k < 128 → IsRow pending raises takes' rows k) → IsAccount all rows
  account_of tells v all pending raises takes' rows is balance few wr wt long row = record {
    long = long;
    each = λ s b hs hb.
        let r = row (8 * s + b) (omega arith) in
        let f = balance s b hs in let most = few s b hs in let lt = bit_at-lt (slice_index pending s) b in
        let rows_raised : slice_index raises (8 * s + b) ≡ raised_by v.passes s b % 2 ^ 64 = wr s b hs hb in
        let rows_taken : slice_index takes' (8 * s + b) ≡ taken_by v.passes s b % 2 ^ 64 = wt s b hs hb in
        let server : (8 * s + b) / 8 ≡ s = omega arith in let bit : (8 * s + b) % 8 ≡ b = omega arith in
        let flag : pending_bit r.0 ≡ bit_at (slice_index pending s) b = r.4 ∙ (λ i. bit_at (slice_index pending (server i)) (bit i)) in
        let all_raised : raised_by v.passes s b ≡ total_of (λ (x : Pass M C R G). raised_in (notices x) s b) all =
        ap (λ l. raised_by l s b) is ∙ weigh_notices_gathered tells (raised_at s b) all in
        let all_taken : taken_by v.passes s b ≡ total_of (λ (x : Pass M C R G). taken_in (notices x) s b) all =
        ap (λ l. taken_by l s b) is ∙ weigh_notices_gathered tells (taken_at s b) all in
        (r.0, r.1, r.2 ∙ (rows_raised ∙ omega arith), r.3 ∙ (rows_taken ∙ omega arith), (let a = r.2 in let c = r.3 in omega arith));
  }
