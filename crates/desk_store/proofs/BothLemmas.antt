-- That two stores which gave each other all that they hold, hold the same.
use Rattle.std.proofs.Common.{◌≡◌, true, List, [], ◌∷◌, ◌++◌, length, take, Contains, None, refl, ap, sym, ◌∙◌, subst, inl, inr, arith}
use Rattle.std.proofs.Common.{append_assoc, length-append}
use Rattle.std.proofs.lemmas.List.{append_cancel_left, take_at}
use Rattle.std.proofs.lemmas.List.Elements.{Contains-append_cases, Contains-append_left, Contains-append_right}
use Rattle.history.specs.declared.entry.Entry.{Entry}
use Rattle.history.specs.History.{Run}
use Rattle.history.proofs.RunLemmas.{run_cut}
use Rattle.ds_entry.specs.Item.{item_cmp}
use Rattle.ds_entry.specs.ItemCovers.{covers}
use Rattle.ds_entry.specs.declared.item.Item.{Item}
use Rattle.ds_entry.proofs.ItemLemmas.{covers-trans, items_total}
use Rattle.ds_entry.proofs.OrderedLemmas.{same_members}
use Rattle.ds_join.specs.ItemTop.{CoversAll, IsPartOf, IsTop}
use Rattle.ds_join.proofs.ItemTopLemmas.{held_apart}
use Rattle.ds_machine.specs.Reached.{AreExact, IsReached}
use Rattle.ds_machine.specs.Says.{PagedSays}
use Rattle.ds_machine.specs.State.{State, held}
use Rattle.ds_machine.specs.declared.command.Command.{Command}
use Rattle.ds_machine.specs.declared.reply.Reply.{Reply}
use Rattle.ds_machine.proofs.ReachedLemmas.{held_is_top}
use Rattle.ds_store.specs.Turns.{Answered}
use Rattle.desk_store.proofs.FollowLemmas.{stays_reached}
use Rattle.desk_store.specs.Called.{Made}
use Rattle.desk_store.specs.Record.{PassRecord}
use Rattle.desk_store.specs.BothWays.{CalledAlone, ExchangedAlike}
use Rattle.desk_store.specs.Giving.{all_given}
use Rattle.desk_store.specs.Telling.{AsksInTurn, AsksPages, EndsTelling}
use Rattle.desk_store.specs.declared.exchange.Exchanged.{Exchanged}
use Rattle.desk_store.proofs.WholeLemmas.{TellsStore, merges_add, pages_tell}

-- ---- two tops, each of which covers what the other is the top of
in_other : (set other held too : List Item) → AreExact (set ++ other) → IsTop held set → IsTop too other → CoversAll too set →
    CoversAll held other → IsPartOf held too
in_other set other held too exact t u there here i h =
    let j = there i (t.among i h) in
    let known = u.among j.0 j.1 in
    let k = here j.0 known in
    let same : k.0 ≡ i = held_apart held set t i k.0 h k.1 (covers-trans k.0 j.0 i k.2 j.2) in
    let back : covers i j.0 ≡ true = subst (λ (x : Item). covers x j.0 ≡ true) same k.2 in
    let e : i ≡ j.0 = exact i j.0 (Contains-append_left set other i (t.among i h)) (Contains-append_right set other j.0 known) j.2 back in
    subst (λ (x : Item). Contains too x) (sym e) j.1

exact_swapped : (set other : List Item) → AreExact (set ++ other) → AreExact (other ++ set)
exact_swapped set other exact i j h k = exact i j (swapped i h) (swapped j k)
  where
    swapped : (x : Item) → Contains (other ++ set) x → Contains (set ++ other) x
    swapped x m = elim (Contains-append_cases other set x m)
        [ inl a ↦ Contains-append_right set other x a | inr b ↦ Contains-append_left set other x b ]

tops_are_one : (set other held too : List Item) → AreExact (set ++ other) → IsTop held set → IsTop too other → CoversAll too set →
    CoversAll held other → held ≡ too
tops_are_one set other held too exact t u there here =
    same_members item_cmp items_total held too t.in_order u.in_order (in_other set other held too exact t u there here)
    (in_other other set too held (exact_swapped set other exact) u t here there)

-- ---- nobody else called, so each half of the history is the pass's
module _ (p m q : PassRecord) (own more : List (Entry Command Reply)) (a : Made p m own) (b : Made m q more) (alone : CalledAlone p q) where
  calls_are : alone.own ≡ own ++ more
  calls_are = append_cancel_left p.calls alone.own (own ++ more)
      (sym alone.calls_are ∙ b.calls_are ∙ ap (λ (l : List (Entry Command Reply)). l ++ more) a.calls_are ∙ append_assoc p.calls own more)

  between_is : a.between ++ b.between ≡ own ++ more
  between_is = append_cancel_left p.history (a.between ++ b.between) (own ++ more)
      (sym (append_assoc p.history a.between b.between) ∙ ap (λ (l : List (Entry Command Reply)). l ++ b.between) (sym a.seen) ∙ sym b.seen
      ∙ alone.history_is ∙ ap (λ (l : List (Entry Command Reply)). p.history ++ l) calls_are)

  count : length a.between ≡ length own
  count =
      omega (
        arith,
        a.longer,
        b.longer,
        ap (λ (l : List (Entry Command Reply)). length l) between_is,
        length-append a.between b.between,
        length-append own more,
      )

  first_is : a.between ≡ own
  first_is = sym (take_at a.between b.between (length own) count) ∙
      ap (λ (l : List (Entry Command Reply)). take (length own) l) between_is ∙ take_at own more (length own) refl

  pub first_half : m.history ≡ p.history ++ own
  first_half = a.seen ∙ ap (λ (l : List (Entry Command Reply)). p.history ++ l) first_is

  pub second_half : q.history ≡ m.history ++ more
  second_half =
      b.seen ∙ ap (λ (l : List (Entry Command Reply)). m.history ++ l)
      (append_cancel_left own b.between more (ap (λ (l : List (Entry Command Reply)). l ++ b.between) (sym first_is) ∙ between_is))

-- ---- all items were read by pages
told_by_pages : PagedSays → (own : List (Entry Command Reply)) (x : Exchanged) (s t : State) → IsReached s → AsksInTurn None own →
    EndsTelling None own x.cursor x.more → Run Answered s own t → TellsStore s own t
told_by_pages says own x s t r asks ends run =
    let all = ends.front ++ ends.last ∷ [] in
    subst (λ (l : List (Entry Command Reply)). TellsStore s l t) (sym ends.parts)
    (pages_tell says s r ends.front ends.last ends.tells.0 t (subst (λ (l : List (Entry Command Reply)). AsksPages None l) ends.parts asks)
    ends.tells.1 ends.tells.2
    (subst (λ (l : List (Entry Command Reply)). Run Answered s l t) ends.parts run))

pub exchanged_both : PagedSays → ExchangedAlike
exchanged_both says p p' q r r' s x y both here opened_here sa t at_here run_here other opened_there sb u at_there run_there exact =
    let there = both.there in
    let back = both.back in
    -- the first store: it told by pages, and was given the other's items
    let late_a = run_cut Answered sa t p'.history back.gives.own
    (subst (λ (l : List (Entry Command Reply)). Run Answered sa l t)
    (second_half p p' q there.own back.gives.own there.made back.gives.made both.alone_here) run_here) in
    let early_a = run_cut Answered sa late_a.0 p.history there.own
    (subst (λ (l : List (Entry Command Reply)). Run Answered sa l late_a.0)
    (first_half p p' q there.own back.gives.own there.made back.gives.made both.alone_here) late_a.1) in
    let tells_a = told_by_pages says there.own x early_a.0 late_a.0 (stays_reached p.history sa early_a.0 at_here.reached early_a.1)
    there.asks there.ends early_a.2 in
    let adds = merges_add back.gives.own late_a.0 t (stays_reached p'.history sa late_a.0 at_here.reached late_a.1) back.gives.merges
    late_a.2 in
    let holds_a = back.gives.held here opened_here sa t at_here run_here in
    -- the second store: it was given the first one's, and told by pages
    let late_b = run_cut Answered sb u r'.history back.own
    (subst (λ (l : List (Entry Command Reply)). Run Answered sb l u)
    (second_half r r' s there.gives.own back.own there.gives.made back.made both.alone_there) run_there) in
    let reached_b = stays_reached r'.history sb late_b.0 at_there.reached late_b.1 in
    let tells_b = told_by_pages says back.own y late_b.0 u reached_b back.asks back.ends late_b.2 in
    let holds_b = there.gives.held other (sym back.made.same_opening ∙ opened_there) sb late_b.0 at_there late_b.1 in
    let there_covers : CoversAll (held late_b.0) t.feed.accepted =
    (λ i h. elim (Contains-append_cases late_a.0.feed.accepted (all_given back.gives.own) i (adds i h)) [
      | inl old ↦
          (let j = tells_a.covers_all i (subst (λ (z : State). Contains z.feed.accepted i) tells_a.same old) in
          let k = holds_b j.0 j.1 in
          (k.0, k.1, covers-trans k.0 j.0 i k.2 j.2))
      | inr new ↦ (held_is_top late_b.0 reached_b).greatest i
          (tells_b.part i (subst (λ (l : List Item). Contains l i) back.gives.items_are new))
    ]) in
    let here_covers : CoversAll (held t) u.feed.accepted =
    (λ i h. let j = tells_b.covers_all i (subst (λ (z : State). Contains z.feed.accepted i) tells_b.same h) in
    let k = holds_a j.0 j.1 in
    (k.0, k.1, covers-trans k.0 j.0 i k.2 j.2)) in
    tops_are_one t.feed.accepted u.feed.accepted (held t) (held u) exact
    (held_is_top t (stays_reached q.history sa t at_here.reached run_here))
    (held_is_top u (stays_reached s.history sb u at_there.reached run_there))
    (subst (λ (z : State). CoversAll (held z) t.feed.accepted) (sym tells_b.same) there_covers) here_covers
