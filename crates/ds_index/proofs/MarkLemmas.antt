-- Marks beside changes.
use Rattle.std.proofs.Common.{◌≡◌, ℕ, zero, suc, ◌<◌, ◌≤◌, inl, inr, List, [], ◌∷◌, length, set, map, true, false, cond, Option, Some, None}
use Rattle.std.proofs.Common.{is_some, Result, Ok, Err, refl, sym, ap, ◌∙◌, subst, arith, length-set}
use Rattle.std.specs.List.{slice_get, insert, remove}
use Rattle.std.specs.Option.{option_map, IfSome}
use Rattle.std.specs.Result.{MatchResult, OnErr}
use Rattle.std.specs.Prelude.{⊤}
use Rattle.std.specs.Ordering.{eq_by_cmp, is_eq}
use Rattle.std.specs.Cmp.{tied_itself}
use Rattle.std.specs.FinMap.{FinMap, find, get, get-from_entries, get-entries, entries, entries_sorted, same_map, is_sorted}
use Rattle.std.specs.FinMap as finite
use Rattle.std.specs.FinMap.Entries.{below_all}
use lib.Dec.{T}
use Rattle.ds_names.specs.declared.key.Key.{Key}
use Rattle.ds_names.specs.Key.{key_cmp}
use Rattle.ds_names.proofs.OrderLemmas.{keys_total, exact_keys}
use Rattle.ds_entry.specs.Change.{ChangeRecord}
use Rattle.ds_entry.specs.declared.floor.Floor.{Floor}
use Rattle.ds_held.specs.Limits.{LimitsRecord, IsLimits}
use Rattle.ds_held.specs.Held.{Holding, held_changes, held_for, held_count, nothing_held, IsSound}
use Rattle.ds_held.specs.Raise.{at_kept_keys}
use Rattle.ds_held.specs.Kept.{keyed, by_key, changes_map, AreKeysRising, IsGap, IsPlace, put_at, left_by_floor, marks_left}
use Rattle.ds_held.proofs.EntryLemmas.{unlike}
use Rattle.ds_held.proofs.HeldLemmas.{count_is}
use Rattle.ds_held.proofs.KeptLemmas.{change_there, change_none, changes_are, kept_nothing}
use Rattle.ds_index.specs.Marked.{remarked}
use Rattle.ds_index.specs.Beside.{marked_keys, marks_beside, IsBeside}
use Rattle.ds_index.proofs.RowMarkLemmas.{place_from_get, find_mark, marked_too, marks_put, each_put, marks_at, marks_past}
use Rattle.ds_index.proofs.LeftMarkLemmas.{marks_are_left, each_left}
use Rattle.ds_names.proofs.Tests.{none_from, both}

-- ---- what is held, as a list
find_first : (e : Key × ChangeRecord) (es : List (Key × ChangeRecord)) → find key_cmp e.0 (e ∷ es) ≡ Some e.1
find_first e es = ap (λ r. cond (is_eq r) (Some e.1) (find key_cmp e.0 es)) (tied_itself keys_total e.0)

-- A key that is found after the first isn't the first's.
found_after : (x q : Key) (v : ChangeRecord) (es : List (Key × ChangeRecord)) → T (below_all key_cmp x es) → find key_cmp q es ≡ Some v →
    eq_by_cmp key_cmp q x ≡ false
found_after x q v [] b h = absurd (cc)
found_after x q v (e ∷ es) b h =
    elim (eq_by_cmp key_cmp q e.0) as (λ t. eq_by_cmp key_cmp q e.0 ≡ t → cond t (Some e.1) (find key_cmp q es) ≡ Some v →
    eq_by_cmp key_cmp q x ≡ false) [
      | true ↦ λ tied s. unlike key_cmp keys_total x q e.0 tied (both _ _ b).0
      | false ↦ λ _ s. found_after x q v es (both _ _ b).1 s
    ] refl h

own_pairs : (es : List (Key × ChangeRecord)) → T (is_sorted key_cmp es) →
    ((q : Key) (c : ChangeRecord) → find key_cmp q es ≡ Some c → c.key ≡ q) → by_key (map (λ (e : Key × ChangeRecord). e.1) es) ≡ es
own_pairs [] s own = refl
own_pairs (e ∷ es) s own =
    ap (λ (k : Key). (k, e.1) ∷ by_key (map (λ (e : Key × ChangeRecord). e.1) es)) (own e.0 e.1 (find_first e es))
    ∙ ap (λ l. e ∷ l) (own_pairs es (both _ _ s).1
    (λ q c h. own q c (ap (λ b. cond b (Some e.1) (find key_cmp q es)) (found_after e.0 q c es (both _ _ s).0 h) ∙ h)))

module _ (h : Holding) (sound : IsSound h) where
  pub own_entries : by_key (held_changes h) ≡ entries h.changes
  own_entries = own_pairs (entries h.changes) (entries_sorted h.changes) (λ q c e. sound.own q c (get-entries h.changes q ∙ e))

  pub rising_held : AreKeysRising (held_changes h)
  rising_held = subst (λ es. T (is_sorted key_cmp es)) (sym own_entries) (entries_sorted h.changes)

  -- what is held is what its list has
  pub changes_held : changes_map (held_changes h) ≡ h.changes
  changes_held = same_map keys_total exact_keys _ _
      (λ q. get-from_entries keys_total (by_key (held_changes h)) q ∙ ap (find key_cmp q) own_entries ∙ sym (get-entries h.changes q))

  pub held_found : (key : Key) (i : ℕ) → IsPlace (held_changes h) key (Ok i) → held_for h key ≡ slice_get (held_changes h) i
  held_found key i p = ap (λ (m : FinMap key_cmp ChangeRecord). get m key) (sym changes_held) ∙
      change_there (held_changes h) key i rising_held p

  pub held_missing : (key : Key) (i : ℕ) → IsPlace (held_changes h) key (Err i) → held_for h key ≡ None
  held_missing key i p = ap (λ (m : FinMap key_cmp ChangeRecord). get m key) (sym changes_held) ∙ change_none (held_changes h) key i p

  -- If a key's place has no element, nothing is held for the key.
  pub gap_missing : (key : Key) (place : Result ℕ ℕ) → IsPlace (held_changes h) key place → IsGap place → held_for h key ≡ None
  gap_missing key (Ok i) p gap = absurd gap
  gap_missing key (Err i) p gap = held_missing key i p

-- what holds holds of a refusal
pub of_refusal : {U E P : Type 0} (r : Result U E) → P → OnErr r P
of_refusal (Ok u) p = tt
of_refusal (Err e) p = p

-- ---- what is found beside a key
module _ {M : Type 0} where
  module _ (h : Holding) (ms : List M) (beside : IsBeside h ms) where
    mark_is : (key : Key) → get (marks_beside (held_changes h) ms) key ≡ find key_cmp key (marked_keys (held_changes h) ms)
    mark_is key = get-from_entries keys_total (marked_keys (held_changes h) ms) key

    -- just the held keys have marks
    pub marked_held : (key : Key) → is_some (get (marks_beside (held_changes h) ms) key) ≡ is_some (held_for h key)
    marked_held key =
        ap is_some (mark_is key) ∙ marked_too key_cmp keys_total exact_keys keyed (held_changes h) ms key beside.each
        ∙ ap is_some (sym (get-from_entries keys_total (by_key (held_changes h)) key)) ∙
        ap (λ (m : FinMap key_cmp ChangeRecord). is_some (get m key)) (changes_held h beside.sound)

    pub mark_found : (key : Key) (i : ℕ) → IsPlace (held_changes h) key (Ok i) → get (marks_beside (held_changes h) ms) key ≡ slice_get ms i
    mark_found key i p = mark_is key ∙ find_mark key_cmp keys_total exact_keys keyed (held_changes h) ms key i (rising_held h beside.sound)
        beside.each p

    pub mark_missing : (key : Key) (i : ℕ) → IsPlace (held_changes h) key (Err i) → get (marks_beside (held_changes h) ms) key ≡ None
    mark_missing key i p = none_from (get (marks_beside (held_changes h) ms) key)
        (marked_held key ∙ ap is_some (held_missing h beside.sound key i p))

    -- so the marks are those of the changes, one by one
    pub own_mark : (i : ℕ) (c : ChangeRecord) → slice_get (held_changes h) i ≡ Some c →
        slice_get ms i ≡ get (marks_beside (held_changes h) ms) c.key
    own_mark i c e = sym (mark_found c.key i (place_from_get key_cmp keys_total exact_keys keyed (held_changes h) i c e))

    -- And a change and a mark at one index belong together.
    mark_at : (i : ℕ) (c : ChangeRecord) (m : M) → slice_get (held_changes h) i ≡ Some c → slice_get ms i ≡ Some m →
        get (marks_beside (held_changes h) ms) c.key ≡ Some m
    mark_at i c m e f = sym (own_mark i c e) ∙ f

    pub beside_at : {P : Type 0} (r : Option P) (c : P → ChangeRecord) (m : P → M) (i : ℕ) →
        option_map c r ≡ slice_get (held_changes h) i → option_map m r ≡ slice_get ms i →
        IfSome r (λ p. get (marks_beside (held_changes h) ms) (c p).key ≡ Some (m p))
    beside_at None c m i e f = tt
    beside_at (Some p) c m i e f = mark_at i (c p) (m p) (sym e) (sym f)

    pub beside_set : (i : ℕ) (m : M) → IsBeside h (set ms i m)
    beside_set i m = record { sound = beside.sound; each = omega (arith, length-set ms i m, beside.each) }

-- ---- what a change that is put, and its mark, leave
module _ {M : Type 0} (h : Holding) (ms : List M) (beside : IsBeside h ms) (c : ChangeRecord) (place : Result ℕ ℕ)
    (at : IsPlace (held_changes h) c.key place) (m : M) (new : Holding) (ns : List M)
    (marks : ns ≡ put_at ms place m) (list : held_changes new ≡ put_at (held_changes h) place c) where
  pub beside_put : IsSound new → IsBeside new ns
  beside_put sound = record {
    sound = sound;
    each = ap length marks ∙ each_put key_cmp keys_total exact_keys keyed (held_changes h) ms c m place beside.each at ∙
        sym (ap length list);
  }

  pub marks_with : marks_beside (held_changes new) ns ≡ finite.insert (marks_beside (held_changes h) ms) c.key m
  marks_with =
      ap (λ l. marks_beside l ns) list ∙ ap (marks_beside (put_at (held_changes h) place c)) marks
      ∙ marks_put key_cmp keys_total exact_keys keyed (held_changes h) ms c m place (rising_held h beside.sound) beside.each at

-- ---- what a raised floor leaves
module _ {M : Type 0} (h : Holding) (ms : List M) (beside : IsBeside h ms) (f : Floor) (new : Holding) (ns : List M)
    (marks : ns ≡ marks_left f (held_changes h) ms) (list : held_changes new ≡ left_by_floor f (held_changes h)) where
  pub beside_raised : IsSound new → IsBeside new ns
  beside_raised sound =
      record { sound = sound; each = ap length marks ∙ each_left f (held_changes h) ms beside.each ∙ sym (ap length list) }

  pub marks_kept : marks_beside (held_changes new) ns ≡ at_kept_keys f h.changes (marks_beside (held_changes h) ms)
  marks_kept =
      ap (λ l. marks_beside l ns) list ∙ ap (marks_beside (left_by_floor f (held_changes h))) marks
      ∙ marks_are_left f (held_changes h) ms beside.each (rising_held h beside.sound)
      ∙ ap (λ (k : FinMap key_cmp ChangeRecord). at_kept_keys f k (marks_beside (held_changes h) ms)) (changes_held h beside.sound)

-- ---- another mark at an index
module _ {M : Type 0} where
  pub marks_set : (cs : List ChangeRecord) (ms : List M) (i : ℕ) (m : M) → AreKeysRising cs → length ms ≡ length cs →
      marks_beside cs (set ms i m) ≡ remarked (marks_beside cs ms) (slice_get cs i) m
  marks_set cs ms i m s e = by_found (slice_get cs i) refl
    where
      by_found : (o : Option ChangeRecord) → slice_get cs i ≡ o → marks_beside cs (set ms i m) ≡ remarked (marks_beside cs ms) o m
      by_found None q = marks_past key_cmp keys_total exact_keys keyed cs ms i m e q
      by_found (Some c) q = marks_at key_cmp keys_total exact_keys keyed cs ms i c m s e q

  -- ---- nothing
  pub beside_nothing : (lim : LimitsRecord) (h : Holding) (ms : List M) → h ≡ nothing_held lim → ms ≡ [] → IsBeside h ms
  beside_nothing lim h ms e f = subst (λ (g : Holding). IsBeside g ms) (sym e) (subst (λ l. IsBeside (nothing_held lim) l) (sym f) (record {
    sound = (kept_nothing lim).sound;
    each = ap length (sym (changes_are [] [] lim tt));
  }))

  pub marks_nothing : (lim : LimitsRecord) (h : Holding) (ms : List M) → h ≡ nothing_held lim → ms ≡ [] →
      marks_beside (held_changes h) ms ≡ finite.empty
  marks_nothing lim h ms e f = ap (λ (g : Holding). marks_beside (held_changes g) ms) e ∙
      ap (marks_beside (held_changes (nothing_held lim))) f ∙ ap (λ l. marks_beside {M = M} l []) (changes_are [] [] lim tt)

-- ---- room for a mark
pub few_keys : (l : LimitsRecord) → IsLimits l → l.keys ≤ 4096
few_keys l (inl e) = subst (λ (x : LimitsRecord). x.keys ≤ 4096) (sym e) (omega arith)
few_keys l (inr e) = subst (λ (x : LimitsRecord). x.keys ≤ 4096) (sym e) (omega arith)

pub few_marks : {M : Type 0} (h : Holding) (ms : List M) → IsBeside h ms → held_count h ≤ h.limits.keys → (l : LimitsRecord) →
    l ≡ h.limits → IsLimits l → length ms < 65536
few_marks h ms beside few l is known =
    let limit = few_keys h.limits (subst IsLimits is known) in let count = count_is h in let each = beside.each in
    omega (arith, limit, few, count, each)

-- A mark that is inserted and removed again leaves the marks.
pub undone : {X : Type 0} (xs : List X) (i : ℕ) (x : X) → i ≤ length xs → remove (insert xs i x) i ≡ xs
undone xs zero x w = refl
undone [] (suc i) x w = absurd (omega (arith, w))
undone (y ∷ xs) (suc i) x w = ap (λ l. y ∷ l) (undone xs i x (omega (arith, w)))

pub room_there : (xs : List ChangeRecord) (key : Key) (n cap : ℕ) (p : Result ℕ ℕ) → IsPlace xs key p → n ≡ length xs →
    MatchResult p (λ i. ⊤) (λ i. n < cap) → MatchResult p (λ i. i < n) (λ i. (i ≤ n) × (n < cap))
room_there xs key n cap (Ok i) at e w = omega (arith, at.0, e)
room_there xs key n cap (Err i) at e w = (omega (arith, at.0, e), w)
