-- That all pages of a store that nobody changes tell all that it holds, and what Merges add to a store.
use Rattle.std.proofs.Common.{◌≡◌, ℕ, ◌-◌, ◌≤◌, true, false, List, [], ◌∷◌, ◌++◌, length, take, Contains, Option, None, refl, ap, sym, ◌∙◌}
use Rattle.std.proofs.Common.{subst, inl, inr, arith, append-nil}
use Rattle.std.specs.List.{AllByRecursion}
use Rattle.std.specs.Option.{unwrap_or}
use Rattle.std.proofs.lemmas.List.{take_all}
use Rattle.std.proofs.lemmas.List.Elements.{Contains-append_cases, Contains-append_left, Contains-append_right}
use Rattle.history.specs.declared.entry.Entry.{Entry}
use Rattle.history.specs.History.{Run}
use Rattle.history.proofs.RunLemmas.{run_end}
use Rattle.ds_names.specs.Limits.{most_items}
use Rattle.ds_names.specs.declared.key.Key.{Key}
use Rattle.ds_entry.specs.Item.{passes}
use Rattle.ds_entry.specs.ItemCovers.{covers}
use Rattle.ds_entry.specs.Under.{under}
use Rattle.ds_entry.specs.declared.item.Item.{Item}
use Rattle.ds_entry.specs.declared.item.Item.TheVariants.{Change as Changed, Floor as Floored}
use Rattle.ds_entry.proofs.Members.{Contains-from_filter, Contains-from_map}
use Rattle.ds_join.specs.ItemTop.{CoversAll, IsPartOf}
use Rattle.ds_join.proofs.ItemTopLemmas.{part_union}
use Rattle.ds_feed.specs.Feed.{all_keys, position}
use Rattle.ds_feed.specs.Page.{page_of}
use Rattle.ds_feed.specs.declared.cursor.Cursor.{Cursor}
use Rattle.ds_feed.specs.declared.reading.Page.{Page as Leaf}
use Rattle.ds_replica.specs.Gathered.{paged}
use Rattle.ds_replica.specs.OpenPages.{AreOpenPages, first_cursor, key_after, position_after}
use Rattle.ds_replica.specs.Paged.{IsPageTurn, PageTurn, last_key}
use Rattle.ds_replica.specs.Sent.{Sent, given, sent_by}
use Rattle.ds_replica.specs.Whole.{IsWhole, before}
use Rattle.ds_replica.proofs.OpenPageLemmas.{paged_is_whole, pages_grow}
use Rattle.ds_replica.proofs.SentLemmas.{from_stood, under-all}
use Rattle.ds_replica.proofs.WholeLemmas.{front_same}
use Rattle.ds_machine.specs.Effect.{Effect}
use Rattle.ds_machine.specs.Machine.{Step}
use Rattle.ds_machine.specs.Reached.{IsReached}
use Rattle.ds_machine.specs.Says.{PagedSays}
use Rattle.ds_machine.specs.Scope.{is_kept}
use Rattle.ds_machine.specs.State.{State, cursor, held, next_position}
use Rattle.ds_machine.specs.declared.command.Command.{Command}
use Rattle.ds_machine.specs.declared.command.Command.TheVariants.{Merge}
use Rattle.ds_machine.specs.declared.command.Scope.TheVariants.{All}
use Rattle.ds_machine.specs.declared.reply.Reply.{Reply}
use Rattle.ds_machine.specs.declared.reply.Reply.TheVariants.{Merged, Paged}
use Rattle.ds_machine.proofs.EffectLemmas.{step_has_effect}
use Rattle.ds_machine.proofs.ReachedLemmas.{held_is_top}
use Rattle.ds_store.specs.Turns.{Answered}
use Rattle.desk_store.proofs.FollowLemmas.{stays_reached}
use Rattle.desk_store.specs.Asking.{AsksOpenPages}
use Rattle.desk_store.specs.Giving.{IsWholeMerge, all_given}
use Rattle.desk_store.specs.Telling.{AsksPages, all_told, items_told, page_asked}
use Rattle.desk_store.proofs.GivingLemmas.{given_both}
use Rattle.desk_store.proofs.PageLemmas.{told_both, told_once}

-- ---- pages up to the last
split_pages : (after : Option Key) (front : List (Entry Command Reply)) (last : Entry Command Reply) →
    AsksPages after (front ++ last ∷ []) →
    (next : Option Key) × AsksOpenPages after front next × (last.command ≡ page_asked next)
split_pages after [] last a = (after, refl, a.0)
split_pages after (x ∷ front) last a = elim a.1 [
  | inl none ↦ absurd (no_rest front none)
  | inr more ↦
      (let rest = split_pages (last_key after more.0.items) front last more.2 in
      (rest.0, (a.0, (more.0, more.1, rest.1)), rest.2))
]
  where
    no_rest : (es : List (Entry Command Reply)) → es ++ last ∷ [] ≡ [] → ⊥
    no_rest [] e = cc
    no_rest (y ∷ es) e = cc

-- they return all that the store knows, and nothing else, and leave it unchanged
pub record TellsStore (s : State) (own : List (Entry Command Reply)) (t : State) : Type 0 where
  pub same : t ≡ s
  pub covers_all : CoversAll (all_told own) s.feed.accepted
  pub part : IsPartOf (all_told own) s.feed.accepted

-- ---- of a store that nobody changes
module _ (paged_says : PagedSays) (s : State) (r : IsReached s) where
  -- one page
  module _ (after : Option Key) (page : Leaf) (u : State) (step : Step s (page_asked after) (Paged page) u) where
    turn : PageTurn
    turn = record { feed = s.feed; known = s.feed.accepted; held = held s; max = most_items; page = page }

    page_is : page ≡ page_of (is_kept All) after most_items (held s) (cursor s)
    page_is = (paged_says s u All after most_items page step).0

    unchanged : u ≡ s
    unchanged = (paged_says s u All after most_items page step).1

    is_turn : IsPageTurn s.feed all_keys after turn
    unfolding turn
    is_turn = record { front = front_same s.feed; knows = λ i h. h; top = held_is_top s r; given = page_is }

    cursor_is : page.cursor ≡ cursor s
    cursor_is = ap (λ (x : Leaf). x.cursor) page_is

  -- pages of it, none of which is the last
  record OpenTurns (after : Option Key) (own : List (Entry Command Reply)) (next : Option Key) (p : ℕ) (t : State) : Type 0 where
    turns : List PageTurn
    same : t ≡ s
    are : AreOpenPages s.feed all_keys after p turns
    key : key_after after turns ≡ next
    items : paged turns ≡ all_told own
    at_most : position_after p turns ≤ next_position s
    first : (c : Cursor) → c ≡ cursor s → unwrap_or (first_cursor turns) c ≡ cursor s

  open_turns : (own : List (Entry Command Reply)) (t : State) (after next : Option Key) (p : ℕ) → Run Answered s own t →
      AsksOpenPages after own next → p ≤ next_position s → OpenTurns after own next p t
  unfolding turn is_turn
  open_turns [] t after next p run a few = record
      { turns = []; same = sym run; are = tt; key = sym a; items = refl; at_most = few; first = λ c e. e }
  open_turns (e ∷ own) t after next p run a few =
      let page = a.1.0 in
      let u = run.0 in
      let step : Step s (page_asked after) (Paged page) u =
      subst (λ (c : Command). Step s c (Paged page) u) a.0 (subst (λ (x : Reply). Step s e.command x u) a.1.1.reply run.1.step) in
      let rest : Run Answered s own t = subst (λ (x : State). Run Answered x own t) (unchanged after page u step) run.2 in
      let at : page.cursor.position ≡ next_position s = ap (λ (c : Cursor). c.position) (cursor_is after page u step) in
      let more = open_turns own t (last_key after page.items) next page.cursor.position rest a.1.2 (omega (arith, at)) in
      record {
        turns = turn after page u step ∷ more.turns;
        same = more.same;
        are = (is_turn after page u step, omega (arith, few, at), a.1.1.more, more.are);
        key = more.key;
        items = ap (λ (l : List Item). page.items ++ l) more.items ∙ ap (λ (x : Reply). items_told x ++ all_told own) (sym a.1.1.reply);
        at_most = more.at_most;
        first = λ c same. cursor_is after page u step;
      }

  -- what the store knows is covered by whole items
  whole_covers : (items : List Item) (at : ℕ) → at ≡ position s.feed → IsWhole s.feed all_keys (given s.feed.accepted items) at →
      CoversAll items s.feed.accepted
  whole_covers items at is whole i h =
      let known = s.feed.accepted in
      let count : at - s.feed.first ≡ length known = omega (arith, is) in
      let all : before s.feed at ≡ known = ap (λ (n : ℕ). take n known) count ∙ take_all (length known) known (omega arith) in
      let every : under all_keys (before s.feed at) ≡ known =
      ap (λ (l : List Item). under all_keys l) all ∙ under-all all_keys known (λ j k. kept_all j) in
      let sent = from_stood (given known items) i (whole i (subst (λ (l : List Item). Contains l i) (sym every) h)) in
      let j = Contains-from_map (sent_by known) items sent.0 sent.1 in
      let from = Contains-from_filter (covers j.0) known i (subst (λ (x : Sent). Contains x.stands_for i) (sym j.2) sent.2) in
      (j.0, j.1, from.1)
    where
      kept_all : (j : Item) → passes all_keys j ≡ true
      kept_all (Changed c) = refl
      kept_all (Floored f) = refl

  pub pages_tell : (front : List (Entry Command Reply)) (last : Entry Command Reply) (page : Leaf) (t : State) →
      AsksPages None (front ++ last ∷ []) → last.reply ≡ Paged page → page.last ≡ true →
      Run Answered s (front ++ last ∷ []) t → TellsStore s (front ++ last ∷ []) t
  unfolding turn is_turn
  pages_tell front last page t asks reply ends run =
      let parts = split_pages None front last asks in
      let cut = run_end Answered s t front last run in
      let o = open_turns front cut.0 None parts.0 0 cut.1 parts.1 (omega arith) in
      let f = s.feed in
      let known = f.accepted in
      let step : Step s (page_asked parts.0) (Paged page) t =
      subst (λ (c : Command). Step s c (Paged page) t) parts.2
      (subst (λ (x : Reply). Step s last.command x t) reply (subst (λ (x : State). Step x last.command last.reply t) o.same cut.2.step)) in
      let one = turn parts.0 page t step in
      let is : IsPageTurn f all_keys (key_after None o.turns) one =
      subst (λ (k : Option Key). IsPageTurn f all_keys k one) (sym o.key) (is_turn parts.0 page t step) in
      let at : page.cursor ≡ cursor s = cursor_is parts.0 page t step in
      let place : page.cursor.position ≡ position f = ap (λ (c : Cursor). c.position) at in
      let from = unwrap_or (first_cursor o.turns) page.cursor in
      let end : from.position ≡ position f = ap (λ (c : Cursor). c.position) (o.first page.cursor at) in
      let whole = paged_is_whole f all_keys all_keys all_keys o.turns one [] (λ key e. e) (λ key e. e) o.are is
      (omega (arith, o.at_most, place)) ends tt (omega (arith, place, end)) in
      let told : paged o.turns ++ (page.items ++ []) ≡ all_told (front ++ last ∷ []) =
      ap (λ (l : List Item). l ++ (page.items ++ [])) o.items ∙
      ap (λ (l : List Item). all_told front ++ l) (append-nil page.items ∙ sym (told_once last (Paged page) reply)) ∙
      sym (told_both front (last ∷ [])) in
      record {
        same = unchanged parts.0 page t step;
        covers_all = subst (λ (l : List Item). CoversAll l known) told
            (whole_covers (paged o.turns ++ (page.items ++ [])) from.position end whole);
        part = subst (λ (l : List Item). IsPartOf l known) told
            (part_union (paged o.turns) (page.items ++ []) known (pages_grow.among f all_keys None 0 o.turns o.are)
            (subst (λ (l : List Item). IsPartOf l known) (sym (append-nil page.items))
            (pages_grow.turn_among f all_keys (key_after None o.turns) one is)));
      }

-- ---- Merges add their items, and nothing else
merge_adds : (s u : State) (e : Entry Command Reply) → IsReached s → IsWholeMerge e → Step s e.command e.reply u →
    IsPartOf u.feed.accepted (s.feed.accepted ++ all_given (e ∷ []))
merge_adds s u e r whole step i h =
    let part = whole.0.part in
    let m = whole.1 in
    let asked : Step s (Merge part) (Merged m.done m.taken m.stale m.owed) u =
    subst (λ (c : Command). Step s c (Merged m.done m.taken m.stale m.owed) u) whole.0.command
    (subst (λ (x : Reply). Step s e.command x u) m.reply step) in
    let given_is : all_given (e ∷ []) ≡ part =
    ap (λ (c : Command). all_given (record e { command = c } ∷ [])) whole.0.command ∙ append-nil part in
    subst (λ (l : List Item). Contains (s.feed.accepted ++ l) i) (sym given_is)
    (by_effect part (step_has_effect s u (Merge part) (Merged m.done m.taken m.stale m.owed) r asked))
  where
    by_effect : (part : List Item) → Effect s (Merge part) (Merged whole.1.done whole.1.taken whole.1.stale whole.1.owed) u →
        Contains (s.feed.accepted ++ part) i
    by_effect part (inl g) =
        elim (Contains-append_cases s.feed.accepted g.items i (subst (λ (x : State). Contains x.feed.accepted i) g.state_is h)) [
          | inl old ↦ Contains-append_left s.feed.accepted part i old
          | inr new ↦ Contains-append_right s.feed.accepted part i (g.part i new)
        ]
    by_effect part (inr v) = absurd (let no : false ≡ true = v.used in cc)

pub merges_add : (es : List (Entry Command Reply)) (s t : State) → IsReached s → AllByRecursion IsWholeMerge es → Run Answered s es t →
    IsPartOf t.feed.accepted (s.feed.accepted ++ all_given es)
merges_add [] s t r all run i h = Contains-append_left s.feed.accepted [] i (subst (λ (x : State). Contains x.feed.accepted i) (sym run) h)
merges_add (e ∷ es) s t r all run i h =
    let u = run.0 in
    let one : List (Entry Command Reply) = e ∷ [] in
    let q : IsReached u = stays_reached one s u r (u, run.1, refl) in
    elim (Contains-append_cases u.feed.accepted (all_given es) i (merges_add es u t q all.1 run.2 i h)) [
      | inl old ↦
          elim (Contains-append_cases s.feed.accepted (all_given one) i (merge_adds s u e r all.0 run.1.step i old)) [
            | inl older ↦ Contains-append_left s.feed.accepted (all_given (e ∷ es)) i older
            | inr now ↦ Contains-append_right s.feed.accepted (all_given (e ∷ es)) i
                (subst (λ (l : List Item). Contains l i) (sym (given_both one es))
                (Contains-append_left (all_given one) (all_given es) i now))
          ]
      | inr new ↦ Contains-append_right s.feed.accepted (all_given (e ∷ es)) i
          (subst (λ (l : List Item). Contains l i) (sym (given_both one es)) (Contains-append_right (all_given one) (all_given es) i new))
    ]
