-- The tombstones of a sweep of format 1 all take effect.
use Rattle.std.proofs.Common.{◌≡◌, ◌≢◌, ℕ, ◌<◌, ◌≤◌, ◌==◌, Bool, true, false, not, ◌&&◌, cond, nat_le, List, [], ◌∷◌, length, map, filter}
use Rattle.std.proofs.Common.{is_some, Contains, inl, inr, ◌⊎◌, refl, sym, ap, subst, ◌∙◌, arith}
use Rattle.std.specs.List.Sorted.{IsStrictlySortedBy}
use Rattle.std.specs.Cmp.{nat_cmp_is}
use Rattle.std.specs.Cmp.Lexicographic.{same_text}
use Rattle.std.specs.Ordering.{nat_cmp, ordering_then}
use Rattle.std.specs.declared.cmp.Ordering.{Ordering}
use Rattle.std.specs.declared.cmp.Ordering.TheVariants.{Less, Equal}
use Rattle.std.proofs.lemmas.Bool.{false≢true, and_parts, leb-true, eqb-true, eqb-false}
use Rattle.std.proofs.lemmas.Cmp.{tied_itself}
use Rattle.std.proofs.lemmas.List.{length-map}
use Rattle.ds_names.specs.Key.{key_cmp}
use Rattle.ds_names.specs.Name.{IsName, is_same_name}
use Rattle.ds_names.specs.Version.{version_cmp}
use Rattle.ds_names.specs.declared.key.Key.{Key}
use Rattle.ds_names.specs.declared.kind.Kind.{Kind}
use Rattle.ds_names.specs.declared.kind.Kind.TheVariants as kinds
use Rattle.ds_names.specs.declared.version.Version.{Version}
use Rattle.ds_names.proofs.OrderLemmas.{keys_total}
use Rattle.ds_entry.specs.Change.{ChangeRecord, change_of, IsChange, KeepsRule, IsBelowSweeps}
use Rattle.ds_entry.specs.Item.{IsItem, item_cmp}
use Rattle.ds_names.specs.Kind.{is_label}
use Rattle.ds_entry.specs.declared.body.Body.{Body}
use Rattle.ds_entry.specs.declared.body.Body.TheVariants.{Put, Gone}
use Rattle.ds_entry.specs.declared.floor.Floor.{Floor}
use Rattle.ds_entry.specs.declared.item.Item.{Item}
use Rattle.ds_entry.specs.declared.item.Item.TheVariants.{Change as Changed, Floor as Floored}
use Rattle.ds_entry.proofs.Members.{Contains-from_map, Contains-from_filter, In-from_Contains}
use Rattle.ds_entry.specs.Left.{value_of}
use Rattle.ds_entry.proofs.OrderedLemmas.{from_along}
use Rattle.ds_names.specs.Limits.{last_seq}
use Rattle.ds_machine.specs.Parts.{changes_in}
use Rattle.ds_machine.specs.Reached.{IsReached}
use Rattle.ds_machine.specs.State.{State, held}
use Rattle.ds_machine.proofs.PartLemmas.{changes_in-from}
use Rattle.ds_machine.proofs.ReachedLemmas.{held_is_top}
use Rattle.ds_replica.specs.CaughtUp.{AreItems}
use Rattle.ds_machine.specs.Batches.{AreFree}
use Rattle.ds_machine.specs.Taken.{TakesHeld, KeysApart}
use Rattle.ds_machine.proofs.TakenLemmas.{places_are_free, free_are_taken}
use Rattle.trace_walk.specs.Sweep.{is_swept, tombstone, tombstones, TombstonesAreFree, TombstonesAreTaken}

-- ---- keys apart

changes_apart : (items : List Item) → IsStrictlySortedBy item_cmp items → KeysApart (changes_in items)
unfolding IsStrictlySortedBy
changes_apart [] sorted = tt
changes_apart (Floored f ∷ items) sorted = changes_apart items sorted.1
changes_apart (Changed c ∷ items) sorted = (other, changes_apart items sorted.1)
  where
    other : (d : ChangeRecord) → Contains (changes_in items) d → c.key ≡ d.key → ⊥
    other d h e =
        let less : key_cmp c.key d.key ≡ Less = from_along (λ (y : Item). item_cmp (Changed c) y ≡ Less) items (Changed d) sorted.0
        (In-from_Contains (Changed d) items (changes_in-from items d h)) in
        let tied : key_cmp c.key d.key ≡ Equal = subst (λ (k : Key). key_cmp c.key k ≡ Equal) e (tied_itself keys_total c.key) in
        let no : Less ≡ Equal = sym less ∙ tied in
        cc

filter_apart : (p : ChangeRecord → Bool) (cs : List ChangeRecord) → KeysApart cs → KeysApart (filter p cs)
filter_apart p [] apart = tt
filter_apart p (c ∷ cs) apart = by_test (p c) (filter_apart p cs apart.1)
  where
    by_test : (b : Bool) → KeysApart (filter p cs) → KeysApart (cond b (c ∷ filter p cs) (filter p cs))
    by_test true rest = ((λ d h e. apart.0 d (Contains-from_filter p cs d h).0 e), rest)
    by_test false rest = rest

-- the tombstone over a change
abbrev pub gone_of : List ℕ → ℕ → ChangeRecord → ChangeRecord
gone_of owner generation c = change_of c.key owner (record { epoch = generation; seq = last_seq }) Gone

map_apart : (owner : List ℕ) (generation : ℕ) (cs : List ChangeRecord) → KeysApart cs → KeysApart (map (gone_of owner generation) cs)
map_apart owner generation [] apart = tt
map_apart owner generation (c ∷ cs) apart = (other, map_apart owner generation cs apart.1)
  where
    other : (d : ChangeRecord) → Contains (map (gone_of owner generation) cs) d → c.key ≡ d.key → ⊥
    other d h e = let from = Contains-from_map (gone_of owner generation) cs d h in
        apart.0 from.0 from.1 (e ∙ ap (λ (x : ChangeRecord). x.key) (sym from.2))

-- ---- what is swept

-- the changes that are swept
abbrev pub swept_in : State → List ℕ → ℕ → List ChangeRecord
swept_in s owner generation = filter (is_swept owner generation) (changes_in (held s))

abbrev gone_in : State → List ℕ → ℕ → List ChangeRecord
gone_in s owner generation = map (gone_of owner generation) (swept_in s owner generation)

tombstones_are : (owner : List ℕ) (generation : ℕ) (cs : List ChangeRecord) →
    map Changed (map (gone_of owner generation) cs) ≡ map (tombstone owner generation) cs
tombstones_are owner generation [] = refl
tombstones_are owner generation (c ∷ cs) = ap (λ (l : List Item). tombstone owner generation c ∷ l) (tombstones_are owner generation cs)

-- what the test means
pub record IsSweptOf (owner : List ℕ) (generation : ℕ) (c : ChangeRecord) : Type 0 where
  pub kind : is_label c.key.kind ≡ false
  pub put : is_some (value_of c) ≡ true
  pub owner_is : c.owner ≡ owner
  pub epoch : c.version.epoch ≤ generation

not_true : (b : Bool) → not b ≡ true → b ≡ false
not_true true e = absurd (false≢true e)
not_true false e = refl

pub swept_is : (owner : List ℕ) (generation : ℕ) (c : ChangeRecord) → is_swept owner generation c ≡ true → IsSweptOf owner generation c
swept_is owner generation c e =
    let one : Bool = not (is_label c.key.kind) in
    let two : Bool = is_some (value_of c) in
    let three : Bool = is_same_name c.owner owner in
    let four : Bool = nat_le c.version.epoch generation in
    let a = and_parts (one && two && three) four e in
    let b = and_parts (one && two) three a.0 in
    let d = and_parts one two b.0 in
    record {
      kind = not_true (is_label c.key.kind) d.0;
      put = d.1;
      owner_is = same_text c.owner owner (sym b.1);
      epoch =
          leb-true c.version.epoch generation a.1;
    }

-- a put of no label has a number below the last one
below_last : (c : ChangeRecord) (kind : Kind) (body : Body) → is_label kind ≡ false → c.key.kind ≡ kind → c.body ≡ body →
    is_some (value_of c) ≡ true → KeepsRule kind c → c.version.seq < last_seq
below_last c kinds.Label body other same is put rule = absurd (false≢true (sym other))
below_last c kinds.U32 (Put v) other same is put rule = subst (λ (b : Body). IsBelowSweeps c.version b) is rule
below_last c kinds.Str (Put v) other same is put rule = subst (λ (b : Body). IsBelowSweeps c.version b) is rule
below_last c kinds.Mem (Put v) other same is put rule = subst (λ (b : Body). IsBelowSweeps c.version b) is rule
below_last c kinds.U32 Gone other same is put rule =
    absurd (false≢true (sym (ap (λ (b : Body). is_some (value_of (record c { body = b }))) is) ∙ put))
below_last c kinds.Str Gone other same is put rule =
    absurd (false≢true (sym (ap (λ (b : Body). is_some (value_of (record c { body = b }))) is) ∙ put))
below_last c kinds.Mem Gone other same is put rule =
    absurd (false≢true (sym (ap (λ (b : Body). is_some (value_of (record c { body = b }))) is) ∙ put))

equal_is : (m n : ℕ) → m ≡ n → nat_cmp m n ≡ Equal
equal_is m n e = sym (nat_cmp_is m n Equal e)

older_version : (v w : Version) → v.epoch ≤ w.epoch → v.seq < w.seq → version_cmp v w ≡ Less
older_version v w le lt = elim (split v.epoch w.epoch le) [
  | inl less ↦ ap (λ (o : Ordering). ordering_then o (nat_cmp v.seq w.seq)) (sym (nat_cmp_is v.epoch w.epoch Less less))
  | inr same ↦ ap (λ (o : Ordering). ordering_then o (nat_cmp v.seq w.seq)) (equal_is v.epoch w.epoch same) ∙
      sym (nat_cmp_is v.seq w.seq Less lt)
]
  where
    split : (m n : ℕ) → m ≤ n → (m < n) ⊎ (m ≡ n)
    split m n l = by_test (m == n) refl
      where
        by_test : (b : Bool) → (m == n) ≡ b → (m < n) ⊎ (m ≡ n)
        by_test true e = inr (eqb-true m n e)
        by_test false e = let other : m ≢ n = eqb-false m n e in inl (omega (arith, l, other))

-- each tombstone replaces the entry that it ends
takes : (s : State) (owner : List ℕ) (generation : ℕ) → IsReached s → AreItems s.feed.accepted → (c : ChangeRecord) →
    Contains (gone_in s owner generation) c → TakesHeld s c
takes s owner generation r items c h =
    let from = Contains-from_map (gone_of owner generation) (swept_in s owner generation) c h in
    let d : ChangeRecord = from.0 in
    let in_held = Contains-from_filter (is_swept owner generation) (changes_in (held s)) d from.1 in
    let here : Contains (held s) (Changed d) = changes_in-from (held s) d in_held.0 in
    let is = swept_is owner generation d in_held.1 in
    let change : IsChange d = items (Changed d) ((held_is_top s r).among (Changed d) here) in
    let low : d.version.seq < last_seq = below_last d d.key.kind d.body is.kind refl refl is.put change.rule in
    subst (λ (x : ChangeRecord). TakesHeld s x) from.2
    (record {
      over = d;
      here = here;
      key = refl;
      place =
          (is.owner_is, older_version d.version (record { epoch = generation; seq = last_seq }) is.epoch low);
    })

pub tombstones_are_free : TombstonesAreFree
tombstones_are_free s owner generation r items floors left =
    let cs : List ChangeRecord = gone_in s owner generation in
    let same : map Changed cs ≡ tombstones (held s) owner generation = tombstones_are owner generation (swept_in s owner generation) in
    let apart : KeysApart cs = map_apart owner generation (swept_in s owner generation)
    (filter_apart (is_swept owner generation) (changes_in (held s)) (changes_apart (held s) (held_is_top s r).in_order)) in
    let count : length cs ≡ length (tombstones (held s) owner generation) = sym (length-map cs Changed) ∙ ap length same in
    subst (AreFree s) same (places_are_free s cs r floors (takes s owner generation r items) apart (omega (arith, left, count)))

pub tombstones_are_taken : TombstonesAreTaken
tombstones_are_taken s owner generation r items floors left =
    free_are_taken s (tombstones (held s) owner generation) (tombstones_are_free s owner generation r items floors left)

-- ---- each is an item

gone_rule : (kind : Kind) (c : ChangeRecord) → is_label kind ≡ false → c.body ≡ Gone → KeepsRule kind c
gone_rule kinds.Label c other e = absurd (false≢true (sym other))
gone_rule kinds.U32 c other e = subst (λ (b : Body). IsBelowSweeps c.version b) (sym e) tt
gone_rule kinds.Str c other e = subst (λ (b : Body). IsBelowSweeps c.version b) (sym e) tt
gone_rule kinds.Mem c other e = subst (λ (b : Body). IsBelowSweeps c.version b) (sym e) tt

pub tombstones_are_items : (s : State) (owner : List ℕ) (generation : ℕ) → IsReached s → AreItems s.feed.accepted → IsName owner →
    generation ≤ 2097151 → AreItems (tombstones (held s) owner generation)
tombstones_are_items s owner generation r items name few i h =
    let from = Contains-from_map (tombstone owner generation) (swept_in s owner generation) i h in
    let d : ChangeRecord = from.0 in
    let in_held = Contains-from_filter (is_swept owner generation) (changes_in (held s)) d from.1 in
    let here : Contains (held s) (Changed d) = changes_in-from (held s) d in_held.0 in
    let is = swept_is owner generation d in_held.1 in
    let change : IsChange d = items (Changed d) ((held_is_top s r).among (Changed d) here) in
    let gone : IsChange (gone_of owner generation d) = record {
      name = change.name;
      owner = name;
      epoch = few;
      seq = omega arith;
      body = tt;
      kind = tt;
      rule = gone_rule d.key.kind (gone_of owner generation d) is.kind refl;
    } in
    subst IsItem from.2 gone

-- and none is a floor
pub no_floor_tombstone : (s : State) (owner : List ℕ) (generation : ℕ) (f : Floor) →
    Contains (tombstones (held s) owner generation) (Floored f) → ⊥
no_floor_tombstone s owner generation f h =
    let from = Contains-from_map (tombstone owner generation) (swept_in s owner generation) (Floored f) h in
    let e : Changed (gone_of owner generation from.0) ≡ Floored f = from.2 in
    cc
