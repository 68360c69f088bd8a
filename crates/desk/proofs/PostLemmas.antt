-- Posts to servers in sequence, with the rows and the mask of what they raised.
use Rattle.std.proofs.Common.{◌≡◌, ◌≢◌, ⊎_elim, ℕ, ◌+◌, ◌-◌, ◌*◌, ◌/◌, ◌%◌, ◌^◌, ◌≤◌, ◌<◌, ◌==◌, List, [], ◌∷◌, ◌++◌, length, cond, refl}
use Rattle.std.proofs.Common.{ap, sym, ◌∙◌, subst, arith, append_assoc, eq-eqb, ne_eqb, bit_and, w64}
use Rattle.std.specs.Int.{bit_at, bit_not}
use Rattle.std.proofs.lemmas.Nat.{pow-add, and_le_l, and_le_r}
use Rattle.std.proofs.Math.Nat.{eq-or-lt_of_le, lt_of_not-le, mod-eq_of_lt, mul-le-mul_right, pow-le-pow_right}
use Rattle.std.proofs.lemmas.Nat.Bits.{bit_at-zero, bit_at_above, bit_at_cat_high, bit_at_cat_low}
use Rattle.std.proofs.lemmas.List.{append-nil}
use mathlib.Core.Logic.{dite}
use native.Mathlib.Decide.{dec_le, ℕ_discrete}
use Rattle.desk_rule.specs.declared.notice.Notice.{Notice}
use Rattle.desk_rule.specs.declared.view.View.{View}
use Rattle.desk_rule.specs.History.{count_calls, total_of}
use Rattle.desk_rule.specs.Kinds.{LastOwes, MakesNotice, post_of}
use Rattle.desk_rule.specs.Notices.{bits_for, posted_at, raised_at, raised_by}
use Rattle.desk_rule.specs.Passes.{add_notice, calls_of, notices_of, number_of}
use Rattle.desk_rule.specs.Seat.{SeatOf}
use Rattle.desk_rule.proofs.OrderLemmas.{posted_elsewhere, posted_here, raised_elsewhere, raised_here}
use Rattle.desk_rule.proofs.ListLemmas.{all_append, prefix_refl, prefix_trans, total_append}
use Rattle.desk.proofs.PassLemmas.{notice_added, notice_weighs, weigh_one}
use Rattle.desk.specs.Tally.{CanPost, Counts, Posts, row_at, Tallies}
use Rattle.desk.proofs.TallyLemmas.{fresh_bit}

module _ {M C R : Type 0} where
  posts_none : (v : View M C R) (owed : ℕ) → CanPost v → Posts v v 0 owed
  posts_none v owed can = record {
    opening = refl;
    first = refl;
    holding = refl;
    seen = refl;
    one_pass = can.one_pass;
    number = refl;
    calls = refl;
    new = [];
    grown = sym (append-nil (notices_of v.passes));
    here = tt;
    done = λ s b h. absurd (omega arith);
    undone = λ s b h. refl;
    begins = prefix_refl v.notices;
    found = can.found;
    own = can.own;
  }

  -- nothing is owed to server k
  posts_skip : (v u : View M C R) (k k' owed : ℕ) → k' ≡ k + 1 → bits_for owed k ≡ 0 → Posts v u k owed → Posts v u k' owed
  posts_skip v u k k' owed next none p = record {
    opening = p.opening;
    first = p.first;
    holding = p.holding;
    seen = p.seen;
    one_pass = p.one_pass;
    number = p.number;
    calls = p.calls;
    new = p.new;
    grown = p.grown;
    here = p.here;
    done = λ s b h. dite (ℕ_discrete s k)
        (λ e. p.undone s b (omega arith) ∙ sym (ap (λ n. bit_at (bits_for owed n) b) e ∙ (ap (λ n. bit_at n b) none ∙ bit_at-zero b)))
        (λ ne. p.done s b (omega arith));
    undone = λ s b h. p.undone s b (omega arith);
    begins = p.begins;
    found = p.found;
    own = p.own;
  }

  -- what is owed to server k is posted
  posts_more : (v u w : View M C R) (k k' owed found : ℕ) → k' ≡ k + 1 → MakesNotice u (post_of u k (bits_for owed k) found) w →
      Posts v u k owed → Posts v w k' owed
  posts_more v u w k k' owed found next n p =
      let bits : ℕ = bits_for owed k in
      let x : Notice = post_of u k bits found in
      let added = notice_added u.passes x p.one_pass in
      let passes : w.passes ≡ add_notice u.passes x = ap (λ (y : View M C R). y.passes) n.is in
      let place : (u.first + length u.seen) - 1 ≡ (v.first + length v.seen) - 1 = λ i. (p.first i + length (p.seen i)) - 1 in record {
        opening = ap (λ (y : View M C R). y.opening) n.is ∙ p.opening;
        first = ap (λ (y : View M C R). y.first) n.is ∙ p.first;
        holding = ap (λ (y : View M C R). y.holding) n.is ∙ p.holding;
        seen = ap (λ (y : View M C R). y.seen) n.is ∙ p.seen;
        one_pass = ap length passes ∙ added.0;
        number = ap number_of passes ∙ (added.1 ∙ p.number);
        calls = ap calls_of passes ∙ (added.2 ∙ p.calls);
        new = p.new ++ x ∷ [];
        grown = ap notices_of passes ∙ (added.3 ∙ (ap (λ l. l ++ x ∷ []) p.grown ∙ append_assoc (notices_of v.passes) p.new (x ∷ [])));
        here = all_append _ p.new (x ∷ []) p.here (place, tt);
        done = λ s b h. total_append (posted_at s b) p.new (x ∷ []) ∙ dite (ℕ_discrete k s)
            (λ e. let z = p.undone s b (omega arith) in let y = posted_here s b x e in
            let g : bit_at (bits_for owed s) b ≡ bit_at bits b = ap (λ n. bit_at (bits_for owed n) b) (sym e) in omega arith)
            (λ ne. let z = p.done s b (omega arith) in let y = posted_elsewhere s b x ne in omega arith);
        undone = λ s b h. total_append (posted_at s b) p.new (x ∷ [])
            ∙ (let z = p.undone s b (omega arith) in let y = posted_elsewhere s b x (λ e. omega arith) in omega arith);
        begins = prefix_trans v.notices n.before w.notices (prefix_trans v.notices u.notices n.before p.begins n.seen)
            (x ∷ [], sym (ap (λ (y : View M C R). y.notices) n.is));
        found = n.order;
        own = n.own;
      }

-- w is v after posts to the servers below k, with these rows and this mask of what they raised
pub record Posted {M C R : Type 0} (v w : View M C R) (k owed : ℕ) (rows : List ℕ) (mask : ℕ) : Type 0 where
  pub posts : Posts v w k owed
  pub counted : Tallies rows (raised_by w.passes)
  pub small : mask < 2 ^ (8 * k)
  pub raised : (s b : ℕ) → s < 16 → b < 8 → raised_by w.passes s b ≡ raised_by v.passes s b + bit_at mask (8 * s + b)
  pub same : (s b : ℕ) → k ≤ s → raised_by w.passes s b ≡ raised_by v.passes s b

le_pow : (i j : ℕ) → i ≤ j → 2 ^ i ≤ 2 ^ j
le_pow i j le = let p : 0 < 2 = omega arith in pow-le-pow_right p le

above : (k s : ℕ) → k ≢ s → k ≤ s → k < s
above k s apart le = ⊎_elim (λ e. absurd (apart e)) (λ lt. lt) (eq-or-lt_of_le le)

-- the bits of server k are above the mask so far
mask_more : (mask mask' fresh k k' : ℕ) → k < 16 → k' ≡ k + 1 → fresh < 256 → mask < 2 ^ (8 * k) →
    mask' ≡ mask + fresh * 2 ^ (8 * k) % 2 ^ 128 → (mask' ≡ fresh * 2 ^ (8 * k) + mask) × (mask' < 2 ^ (8 * k'))
mask_more mask mask' fresh k k' low next small below is =
    let p : ℕ = 2 ^ (8 * k) in
    let more : 2 ^ (8 * k + 8) ≡ p * 256 = pow-add 2 (8 * k) 8 in
    let here : 2 ^ (8 * k') ≡ 2 ^ (8 * k + 8) = ap (λ n. 2 ^ n) (omega arith) in
    let top : 2 ^ (8 * k + 8) ≤ 2 ^ 128 = le_pow (8 * k + 8) 128 (omega arith) in
    let part : fresh * p ≤ 255 * p = mul-le-mul_right p (omega arith) in
    let whole : fresh * p % 2 ^ 128 ≡ fresh * p = mod-eq_of_lt (omega arith) in
    let all : mask' ≡ fresh * p + mask = (let f : ℕ = fresh * p in let q : ℕ = fresh * p % 2 ^ 128 in is ∙ omega arith) in
    (all, (let f : ℕ = fresh * p in omega arith))

pub fresh_small : (owed k found : ℕ) → bit_and (bits_for owed k) (bit_not w64 found) < 256
fresh_small owed k found = let l = and_le_l (bits_for owed k) (bit_not w64 found) in let m = and_le_r (owed / 2 ^ (8 * k)) 255 in
    omega arith

module _ {M C R : Type 0} where
  pub posted_none : (v : View M C R) (owed : ℕ) (rows : List ℕ) → CanPost v → Tallies rows (raised_by v.passes) → Posted v v 0 owed rows 0
  posted_none v owed rows can h =
      record {
        posts = posts_none v owed can;
        counted = h;
        small = omega arith;
        raised = λ s b _ _.
            (let z = bit_at-zero (8 * s + b) in omega arith);
        same = λ s b _. refl;
      }

  pub posted_skip : (v u : View M C R) (k k' owed mask : ℕ) (rows : List ℕ) → k' ≡ k + 1 → bits_for owed k ≡ 0 →
      Posted v u k owed rows mask → Posted v u k' owed rows mask
  posted_skip v u k k' owed mask rows next none p = record {
    posts = posts_skip v u k k' owed next none p.posts;
    counted = p.counted;
    small = (let le : 2 ^ (8 * k) ≤ 2 ^ (8 * k') = le_pow (8 * k) (8 * k') (omega arith) in let h = p.small in omega arith);
    raised = p.raised;
    same = λ s b h. p.same s b (omega arith);
  }

  pub posted_more : (v u w : View M C R) (k k' owed found fresh mask mask' : ℕ) (rows rows' : List ℕ) → k < 16 → k' ≡ k + 1 →
      found < 2 ^ 64 → MakesNotice u (post_of u k (bits_for owed k) found) w
      → fresh ≡ bit_and (bits_for owed k) (bit_not w64 found) → Counts rows k fresh rows' → mask' ≡ mask + fresh * 2 ^ (8 * k) % 2 ^ 128 →
      Posted v u k owed rows mask → Posted v w k' owed rows' mask'
  posted_more v u w k k' owed found fresh mask mask' rows rows' low next wide n fresh_is counts mask_is p =
      let bits : ℕ = bits_for owed k in
      let x : Notice = post_of u k bits found in
      let less : fresh < 256 = (let l = fresh_small owed k found in omega arith) in
      let m = mask_more mask mask' fresh k k' low next less p.small mask_is in
      let grows : (s b : ℕ) → raised_by w.passes s b ≡ raised_by u.passes s b + raised_at s b x = λ s b.
      ap (λ (y : View M C R). raised_by y.passes s b) n.is ∙ notice_weighs u.passes x (raised_at s b) p.posts.one_pass in
      let here : (s b : ℕ) → k ≡ s → b < 8 → raised_at s b x ≡ bit_at fresh b = λ s b e hb.
      raised_here s b x e ∙ sym (ap (λ n. bit_at n b) fresh_is ∙ fresh_bit bits found b wide hb) in
      let mask_at : (i : ℕ) → bit_at mask' i ≡ bit_at (fresh * 2 ^ (8 * k) + mask) i = λ i. ap (λ n. bit_at n i) m.0 in record {
        posts = posts_more v u w k k' owed found next n p.posts;
        counted = λ s b hs hb. counts s b hs hb ∙ dite (ℕ_discrete k s)
            (λ e.
            let c = p.counted s b hs hb in let g = grows s b in let r = here s b e hb in
            let y : cond (s == k) (bit_at fresh b) 0 ≡ bit_at fresh b = ap (λ t. cond t (bit_at fresh b) 0) (eq-eqb s k (sym e)) in
            omega arith)
            (λ other.
            let c = p.counted s b hs hb in let g = grows s b in let r = raised_elsewhere s b x other in
            let y : cond (s == k) (bit_at fresh b) 0 ≡ 0 = ap (λ t. cond t (bit_at fresh b) 0) (ne_eqb s k (λ e. other (sym e))) in
            omega arith);
        small = m.1;
        raised = λ s b hs hb. dite (ℕ_discrete k s)
            (λ e.
            let g = grows s b in let r = here s b e hb in let old = p.same s b (omega arith) in
            let high : bit_at mask' (8 * s + b) ≡ bit_at fresh b =
            mask_at (8 * s + b) ∙ (bit_at_cat_high fresh (8 * k) mask (8 * s + b) p.small (omega arith) ∙
            ap (bit_at fresh) (omega arith)) in omega arith)
            (λ other.
            let g = grows s b in let r = raised_elsewhere s b x other in let old = p.raised s b hs hb in
            let same_bit : bit_at mask' (8 * s + b) ≡ bit_at mask (8 * s + b) = mask_at (8 * s + b) ∙ dite (dec_le k s)
            (λ le. bit_at_cat_high fresh (8 * k) mask (8 * s + b) p.small (omega arith) ∙
            (let over : k < s = above k s other le in bit_at_above fresh 8 ((8 * s + b) - 8 * k) (omega arith) (omega arith) ∙
            sym (bit_at_above mask (8 * k) (8 * s + b) p.small (omega arith))))
            (λ no. let below : s < k = lt_of_not-le no in bit_at_cat_low fresh (8 * k) mask (8 * s + b) (omega arith)) in
            omega arith);
        same = λ s b le. grows s b ∙ (let r = raised_elsewhere s b x (λ e. omega arith) in let old = p.same s b (omega arith) in
            omega arith);
      }

  -- the premise of a post still holds
  pub owes_still : (owes : R → ℕ) (v w : View M C R) (k owed : ℕ) → LastOwes owes v owed → Posts v w k owed → LastOwes owes w owed
  owes_still owes v w k owed l p = (l.0, l.1, p.seen ∙ l.2, l.3 ∙ sym p.number, l.4)

  pub few_still : (v w : View M C R) (k owed : ℕ) (rows : List ℕ) (mask : ℕ) → CanPost v → Posted v w k owed rows mask → (b : ℕ) →
      raised_by w.passes k b < count_calls w.passes
  few_still v w k owed rows mask can p b =
      let a : count_calls w.passes ≡ count_calls v.passes = weigh_one (λ _. 1) w.passes p.posts.one_pass ∙
      (ap (total_of (λ _. 1)) p.posts.calls ∙ sym (weigh_one (λ _. 1) v.passes can.one_pass)) in let s = p.same k b (omega arith) in
      let f = can.few k b in omega arith

  -- the rows have room to count
  pub rows_small : (v w : View M C R) (k owed : ℕ) (rows : List ℕ) (mask : ℕ) → CanPost v → k < 16 → Posted v w k owed rows mask →
      (b : ℕ) → b < 8 → row_at rows k b < 2 ^ 63
  rows_small v w k owed rows mask can low p b hb = let c = p.counted k b low hb in let s = p.same k b (omega arith) in let f =
      can.few k b in let n = can.short in omega arith

  -- the mask has room for the sum
  pub mask_fits : (v u : View M C R) (k owed found mask : ℕ) (rows : List ℕ) → k < 16 → Posted v u k owed rows mask
      → mask + bit_and (bits_for owed k) (bit_not w64 found) * 2 ^ (8 * k) % 2 ^ 128 < 2 ^ 128
  mask_fits v u k owed found mask rows low p =
      let fresh : ℕ = bit_and (bits_for owed k) (bit_not w64 found) in
      let m = mask_more mask (mask + fresh * 2 ^ (8 * k) % 2 ^ 128) fresh k (k + 1) low refl (fresh_small owed k found) p.small refl in
      let top = le_pow (8 * (k + 1)) 128 (omega arith) in omega arith

  -- the loop's seat, rows and mask
  pub record Posting (p q : SeatOf M C R) (k owed : ℕ) (rows : List ℕ) (mask : ℕ) : Type 0 where
    pub table : q.table_id ≡ p.table_id
    pub id : q.id ≡ p.id
    pub out : q.me.1 ≡ p.me.1
    pub posted : Posted p.me.0 q.me.0 k owed rows mask

  pub posting_none : (p : SeatOf M C R) (owed : ℕ) (rows : List ℕ) → CanPost p.me.0 → Tallies rows (raised_by p.me.0.passes) →
      Posting p p 0 owed rows 0
  posting_none p owed rows can h = record { table = refl; id = refl; out = refl; posted = posted_none p.me.0 owed rows can h }

  pub posting_moved : (p q q' : SeatOf M C R) (k owed : ℕ) (rows rows' : List ℕ) (mask mask' : ℕ) → q' ≡ q → rows' ≡ rows → mask' ≡ mask →
      Posting p q k owed rows mask → Posting p q' k owed rows' mask'
  posting_moved p q q' k owed rows rows' mask mask' e e' e'' w =
      subst (λ (x : SeatOf M C R × (List ℕ × ℕ)). Posting p x.0 k owed x.1.0 x.1.1) (λ i. (sym e i, (sym e' i, sym e'' i))) w
