-- Holders that read each other's stores whole hold the same.
use Rattle.std.proofs.Common.{◌≡◌, ℕ, ◌+◌, ◌-◌, Bool, true, List, [], ◌++◌, length, map, sym, subst}
use Rattle.std.proofs.Common.{inl, inr, arith, Contains}
use Rattle.std.proofs.lemmas.List.{take_all}
use Rattle.std.proofs.lemmas.List.Elements.{Contains-append_cases}
use Rattle.ds_names.specs.declared.key.Key.{Key}
use Rattle.ds_entry.specs.Item.{passes}
use Rattle.ds_entry.specs.Under.{under}
use Rattle.ds_entry.specs.declared.item.Item.{Item}
use Rattle.ds_entry.proofs.Members.{Contains-nil, Contains-from_flat_map}
use Rattle.ds_entry.proofs.ItemLemmas.{covers-query, covers-refl, covers-trans}
use Rattle.ds_feed.specs.Feed.{Feed}
use Rattle.ds_feed.specs.declared.cursor.Cursor.{Cursor}
use Rattle.ds_join.specs.ItemTop.{CoversAll, IsPartOf}
use Rattle.ds_machine.specs.Reached.{AreExact}
use Rattle.ds_machine.specs.State.{State, held, next_position}
use Rattle.ds_machine.proofs.ReachedLemmas as reached
use Rattle.ds_pattern.specs.declared.query.Query.{Query}
use Rattle.ds_pattern.specs.Under.{is_under}
use Rattle.ds_replica.specs.Gathered.{journaled}
use Rattle.ds_replica.specs.Journaled.{AreSince, cursor_after, since_items}
use Rattle.ds_replica.specs.Sent.{Sent, given}
use Rattle.ds_replica.specs.TurnLaws.{since_knowing}
use Rattle.ds_replica.specs.Whole.{IsWhole, before}
use Rattle.ds_replica.proofs.JournalLemmas.{sinces_extend}
use Rattle.ds_replica.proofs.SentLemmas.{Contains-under, Contains-from_under, from_given}
use Rattle.ds_replica.proofs.TakenLemmas.{sinces_grow}
use Rattle.ds_replica.proofs.WholeLemmas.{nothing_is_whole}
use Rattle.ds_reader.specs.ReadWhole.{IsReadWhole}
use Rattle.ds_reader.proofs.UnderLemmas.{part_under, sinces_passed}
use Rattle.holders.specs.Readers.{AreReadFrom, HasRead, HaveReadEachOther, JournalIsWhole, Reader, ReadersAgree, all_before}
use Rattle.holders.proofs.AgreeLemmas.{two_agree}
use Rattle.holders.proofs.KnownLemmas.{held_is_top_of_known}

-- ---- what is read

-- Everything that took effect took effect before the next position.
all_taken : (f : Feed) → before f (f.first + length f.accepted) ≡ f.accepted
all_taken f = take_all (f.first + length f.accepted - f.first) f.accepted (omega arith)

module _ (query : Query) where
  abbrev asked : Key → Bool
  asked = is_under query

  -- Items that were read whole cover all that took effect.
  accepted_covered : (t : State) (items : List Item) → IsReadWhole t query items → CoversAll items (under asked t.feed.accepted)
  accepted_covered t items read i h =
      from_given t.feed.accepted items i
      (read.whole i (subst (λ (l : List Item). Contains (under asked l) i) (sym (all_taken t.feed)) h))

  -- And all that the store was brought.
  known_covered : (before items : List Item) (from : AreReadFrom query before items) → CoversAll items (under asked from.known)
  known_covered before items from i h =
      let in_known = Contains-from_under asked from.known i h in
      let t = from.state in
      let j = (held_is_top_of_known from.holder from.known from.knows).greatest i in_known.0 in
      let there : Contains (held t) j.0 = subst (λ (l : List Item). Contains l j.0) (sym from.held_is) j.1 in
      let passed : passes asked j.0 ≡ true = covers-query asked j.0 i j.2 in_known.1 in
      let d =
      accepted_covered t items from.read j.0
      (Contains-under asked t.feed.accepted j.0 ((reached.held_is_top t from.reached).among j.0 there) passed) in
      (d.0, d.1, covers-trans d.0 j.0 i d.2 j.2)

  before_covered : (before items : List Item) → AreReadFrom query before items → CoversAll items (under asked before)
  before_covered before items from i h =
      let in_before = Contains-from_under asked before i h in
      known_covered before items from i (Contains-under asked from.known i (from.has i in_before.0) in_before.1)

  -- ---- readers

  -- The second was brought what covers all that the first was brought before.
  read_covers : (from to : Reader) → HasRead query from to → CoversAll (under asked to.known) (under asked from.before)
  read_covers from to (inl same) i h =
      let k = Contains-from_under asked from.before i h in
      let there : Contains to.known i = to.kept i (subst (λ (r : Reader). Contains r.before i) same k.0) in
      (i, Contains-under asked to.known i there k.1, covers-refl i)
  read_covers from to (inr (inl none)) i h = absurd (Contains-nil i (subst (λ (l : List Item). Contains l i) none h))
  read_covers from to (inr (inr read)) i h =
      let k = Contains-from_under asked from.before i h in
      let j = before_covered from.before read.0 read.1 i h in
      (j.0, Contains-under asked to.known j.0 (read.2 j.0 j.1) (covers-query asked j.0 i j.2 k.1), j.2)

  module _ (readers : List Reader) (have : HaveReadEachOther query readers) where
    -- What any of them was brought by now, each of them was brought, or what covers it.
    each_covers : (r s : Reader) → Contains readers r → Contains readers s → CoversAll (under asked s.known) (under asked r.known)
    each_covers r s h k i there =
        let in_all = Contains-from_under asked (all_before readers) i (have.nothing_else r h i there) in
        let from = Contains-from_flat_map (λ (x : Reader). x.before) readers i in_all.0 in
        read_covers from.0 s (have.each from.0 s from.1 k) i (Contains-under asked from.0.before i from.2 in_all.1)

    two_exact : (r s : Reader) → Contains readers r → Contains readers s → AreExact (under asked (all_before readers)) →
        AreExact (under asked r.known ++ under asked s.known)
    two_exact r s h k exact i j p q = exact i j (both i p) (both j q)
      where
        both : (x : Item) → Contains (under asked r.known ++ under asked s.known) x → Contains (under asked (all_before readers)) x
        both x p = elim (Contains-append_cases (under asked r.known) (under asked s.known) x p)
            [ inl l ↦ have.nothing_else r h x l | inr l ↦ have.nothing_else s k x l ]

pub readers_agree : ReadersAgree
readers_agree query readers have exact r s h k =
    two_agree (is_under query) r.holder s.holder r.known s.known r.knows s.knows (two_exact query readers have r s h k exact)
    (record { there = each_covers query readers have r s h k; here = each_covers query readers have s r k h })

-- ---- the journal from its first position on

pub journal_is_whole : JournalIsWhole
journal_is_whole t query from items caught low =
    let scope = is_under query in
    let known = t.feed.accepted in
    let turns = map (since_knowing known) caught.turns in
    let are : AreSince t.feed scope from turns = sinces_grow.knowing t.feed scope from known caught.turns (λ i h. h) caught.are in
    let law : IsWhole t.feed scope (since_items turns) (cursor_after from turns).position =
    sinces_extend t.feed scope scope [] from turns (λ key e. e) are (nothing_is_whole t.feed scope [] from.position low) in
    let ends : IsWhole t.feed scope (since_items turns) (cursor_after from caught.turns).position =
    subst (λ (c : Cursor). IsWhole t.feed scope (since_items turns) c.position) (sinces_grow.cursor_known from known caught.turns) law in
    let all : IsWhole t.feed scope (given known (journaled caught.turns)) (cursor_after from caught.turns).position =
    subst (λ (l : List Sent). IsWhole t.feed scope l (cursor_after from caught.turns).position)
    (sinces_grow.items_known known caught.turns) ends in
    record {
      among = subst (λ (l : List Item). IsPartOf l (under scope known)) (sym caught.items_are)
          (part_under scope (journaled caught.turns) known (sinces_grow.among t.feed scope from caught.turns caught.are)
          (sinces_passed t.feed scope from caught.turns caught.are));
      whole = subst (λ (l : List Item). IsWhole t.feed scope (given known l) (next_position t)) (sym caught.items_are)
          (subst (λ (p : ℕ). IsWhole t.feed scope (given known (journaled caught.turns)) p) caught.to_end all);
    }
