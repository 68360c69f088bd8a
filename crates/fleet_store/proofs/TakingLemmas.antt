-- Items that are taken are joined.
use Rattle.std.proofs.Common.{◌≡◌, ◌∙◌, Bool, true, false, ◌||◌, List, [], ◌∷◌, ◌++◌, Result, Ok, Err, OnOk, refl, sym, ap, subst}
use Rattle.std.proofs.Common.{is_err}
use Rattle.history.specs.History.{Path}
use Rattle.ds_entry.specs.ItemCovers.{covers}
use Rattle.ds_entry.specs.declared.item.Item.{Item}
use Rattle.ds_entry.specs.declared.item.Item.TheVariants.{Change as Changed, Floor as Floored}
use Rattle.ds_entry.proofs.ItemLemmas.{covers-refl, covers-trans}
use Rattle.ds_entry.proofs.Members.{Contains-nil, Contains-from_take}
use Rattle.ds_join.specs.ItemTop.{IsTop}
use Rattle.ds_join.specs.declared.merge.Merge.{Merge}
use Rattle.ds_join.specs.declared.merge.JoinFault.{JoinFault}
use Rattle.ds_join.proofs.ItemTopLemmas as tops
use Rattle.ds_held.specs.Held.{Holding, held_items}
use Rattle.ds_machine.specs.State.{held}
use Rattle.ds_machine.specs.Effect.{known_after}
use Rattle.ds_machine.specs.declared.command.Command.TheVariants.{Merge as Merges}
use Rattle.ds_machine.specs.declared.reply.Reply.{Reply}
use Rattle.ds_machine.specs.declared.reply.Reply.TheVariants.{Changed as Accepted, Known, Swept, Found, Named, Subscribed, Checked}
use Rattle.ds_machine.specs.declared.reply.Reply.TheVariants.{Journaled, Snapped, Paged, Merged, MergeStopped, Refused}
use Rattle.ds_machine.proofs.ReachedLemmas as reached
use Rattle.ds_machine.proofs.KnownLemmas.{known_stays_held}
use Rattle.ds_content.specs.Content.{ContentRecord}
use Rattle.ds_store.specs.Turns.{Turn}
use Rattle.fleet_rule.specs.Covered.{ArePart, Joins, JoinsPart}
use Rattle.fleet_rule.proofs.SameLemmas.{tops_join}
use Rattle.fleet_store.specs.Taking.{Taking, IsDeadLetterUnless, TakesItem, TakenAreJoined, TakenAreJoinedInPart}
use Rattle.fleet_store.specs.Taking.{after_answer}
use Rattle.fleet_store.specs.Taking.{held_with_dead, is_merged}
use Rattle.fleet_store.proofs.JoinLemmas.{joins_nothing, joins_are_part, joins_on, parts_on, parts_beside, left_joins, right_joins}
use Rattle.fleet_store.proofs.JoinLemmas.{fewer_part}

known_part : (reply : Reply) (items : List Item) → ArePart (known_after reply items) items
known_part (Accepted owed) items i h = h
known_part Known items i h = h
known_part (Swept count owed) items i h = h
known_part (Merged done taken stale owed) items i h = h
known_part (MergeStopped done fault owed) items i h = Contains-from_take done items i h
known_part (Found value) items i h = absurd (Contains-nil i h)
known_part (Named name) items i h = absurd (Contains-nil i h)
known_part (Subscribed stamp owed) items i h = absurd (Contains-nil i h)
known_part (Checked shown before after) items i h = absurd (Contains-nil i h)
known_part (Journaled since) items i h = absurd (Contains-nil i h)
known_part (Snapped snapshot) items i h = absurd (Contains-nil i h)
known_part (Paged page) items i h = absurd (Contains-nil i h)
known_part (Refused refusal) items i h = absurd (Contains-nil i h)

known_whole : (reply : Reply) (items : List Item) → is_merged reply ≡ true → known_after reply items ≡ items
known_whole (Merged done taken stale owed) items e = refl
known_whole (Accepted owed) items e = refl
known_whole Known items e = refl
known_whole (Swept count owed) items e = refl
known_whole (MergeStopped done fault owed) items e = absurd (let n : false ≡ true = e in cc)
known_whole (Found value) items e = absurd (let n : false ≡ true = e in cc)
known_whole (Named name) items e = absurd (let n : false ≡ true = e in cc)
known_whole (Subscribed stamp owed) items e = absurd (let n : false ≡ true = e in cc)
known_whole (Checked shown before after) items e = absurd (let n : false ≡ true = e in cc)
known_whole (Journaled since) items e = absurd (let n : false ≡ true = e in cc)
known_whole (Snapped snapshot) items e = absurd (let n : false ≡ true = e in cc)
known_whole (Paged page) items e = absurd (let n : false ≡ true = e in cc)
known_whole (Refused refusal) items e = absurd (let n : false ≡ true = e in cc)

-- ---- one item, in the store

turn_joins : (old new : ContentRecord) (items : List Item) (reply : Reply) → Turn old (Merges items) reply new →
    Joins covers new.held old.held (known_after reply items)
turn_joins old new items reply turn =
    let s = turn.stood in
    let t = turn.steps s.0 s.1 in
    let learnt : List Item = known_after reply items in
    let same : IsTop (held s.0) (held s.0) =
    tops.held_is_top (held s.0) s.0.feed.accepted (reached.held_is_top s.0 s.1.reached) in
    let top : IsTop (held t.0) (held s.0 ++ learnt) =
    known_stays_held s.0 t.0 (Merges items) reply (held s.0) s.1.reached t.1 same in
    subst (λ (x : List Item). Joins covers x old.held learnt) (sym t.2.held)
    (subst (λ (x : List Item). Joins covers (held t.0) x learnt) (sym s.1.held) (tops_join (held t.0) (held s.0) learnt top))

store_part : (old new : ContentRecord) (items : List Item) (reply : Reply) → Turn old (Merges items) reply new →
    JoinsPart covers new.held old.held items
store_part old new items reply turn =
    fewer_part covers covers-refl covers-trans new.held old.held (known_after reply items) items (known_part reply items)
    (turn_joins old new items reply turn)

store_whole : (old new : ContentRecord) (items : List Item) (reply : Reply) → Turn old (Merges items) reply new → is_merged reply ≡ true →
    Joins covers new.held old.held items
store_whole old new items reply turn e =
    subst (λ (x : List Item). Joins covers new.held old.held x) (known_whole reply items e) (turn_joins old new items reply turn)

-- ---- one item, among the dead letters

nothing_joins : (dead : Holding) (i : Item) → JoinsPart covers (held_items dead) (held_items dead) (i ∷ [])
nothing_joins dead i =
    fewer_part covers covers-refl covers-trans (held_items dead) (held_items dead) [] (i ∷ []) (λ x h. absurd (Contains-nil x h))
    (joins_nothing covers covers-refl covers-trans (held_items dead))

unanswered : (dead : Holding) (i : Item) (fault : JoinFault) → after_answer dead i (Err fault) ≡ dead
unanswered dead (Changed c) fault = refl
unanswered dead (Floored f) fault = refl

dead_same : (old new : Holding) (i : Item) → new ≡ old → JoinsPart covers (held_items new) (held_items old) (i ∷ [])
dead_same old new i e =
    subst (λ (x : Holding). JoinsPart covers (held_items x) (held_items old) (i ∷ [])) (sym e) (nothing_joins old i)

dead_whole : (old new : Holding) (i : Item) (answer : Result Merge JoinFault) →
    OnOk answer (IsTop (held_items new) (held_items old ++ i ∷ []))
    → is_err answer ≡ false → Joins covers (held_items new) (held_items old) (i ∷ [])
dead_whole old new i (Ok m) top e = tops_join (held_items new) (held_items old) (i ∷ []) top
dead_whole old new i (Err fault) top e = absurd (let n : true ≡ false = e in cc)

dead_part : (old new : Holding) (i : Item) (answer : Result Merge JoinFault) → new ≡ after_answer old i answer →
    OnOk answer (IsTop (held_items new) (held_items old ++ i ∷ [])) → JoinsPart covers (held_items new) (held_items old) (i ∷ [])
dead_part old new i (Ok m) after top =
    joins_are_part covers covers-refl covers-trans (held_items new) (held_items old) (i ∷ [])
    (tops_join (held_items new) (held_items old) (i ∷ []) top)
dead_part old new i (Err fault) after top = dead_same old new i (after ∙ unanswered old i fault)

-- ---- one item, in both

item_part : (old new : Taking) (i : Item) → TakesItem old i new →
    JoinsPart covers (held_with_dead new.store new.dead) (held_with_dead old.store old.dead) (i ∷ [])
item_part old new i t = parts_beside covers covers-refl covers-trans old.store.held new.store.held (held_items old.dead)
    (held_items new.dead) (i ∷ []) (store_part old.store new.store (i ∷ []) t.reply t.turn) (by_left (is_merged t.reply) t.left)
  where
    by_left : (b : Bool) → IsDeadLetterUnless b old.dead i t.dropped new.dead →
        JoinsPart covers (held_items new.dead) (held_items old.dead) (i ∷ [])
    by_left true l = dead_same old.dead new.dead i l.0
    by_left false l = dead_part old.dead new.dead i l.answer l.after l.joined

item_whole : (old new : Taking) (i : Item) (t : TakesItem old i new) → t.dropped ≡ false →
    Joins covers (held_with_dead new.store new.dead) (held_with_dead old.store old.dead) (i ∷ [])
item_whole old new i t d = by_left (is_merged t.reply) refl t.left
  where
    by_left : (b : Bool) → is_merged t.reply ≡ b → IsDeadLetterUnless b old.dead i t.dropped new.dead →
        Joins covers (held_with_dead new.store new.dead) (held_with_dead old.store old.dead) (i ∷ [])
    by_left true e l = left_joins covers covers-refl covers-trans old.store.held new.store.held (held_items old.dead) (held_items new.dead)
        (i ∷ []) (store_whole old.store new.store (i ∷ []) t.reply t.turn e) (dead_same old.dead new.dead i l.0)
    by_left false e l = right_joins covers covers-refl covers-trans old.store.held new.store.held (held_items old.dead)
        (held_items new.dead)
        (i ∷ []) (store_part old.store new.store (i ∷ []) t.reply t.turn)
        (dead_whole old.dead new.dead i l.answer l.joined (sym l.dropped_is ∙ d))

-- ---- all items

neither : (a b c : Bool) → c ≡ (a || b) → c ≡ false → (a ≡ false) × (b ≡ false)
neither false b c e f = (refl, sym e ∙ f)
neither true b c e f = absurd (let n : true ≡ false = sym e ∙ f in cc)

none_before : (items : List Item) (old new : Taking) → Path TakesItem old items new → new.has_dropped ≡ false → old.has_dropped ≡ false
none_before [] old new path e = ap (λ (x : Taking). x.has_dropped) path ∙ e
none_before (i ∷ items) old new path e =
    (neither old.has_dropped path.1.dropped path.0.has_dropped path.1.dropped_is (none_before items path.0 new path.2 e)).0

pub taken_are_joined : TakenAreJoined
taken_are_joined old new [] path e =
    subst (λ (x : Taking). Joins covers (held_with_dead x.store x.dead) (held_with_dead old.store old.dead) []) path
    (joins_nothing covers covers-refl covers-trans (held_with_dead old.store old.dead))
taken_are_joined old new (i ∷ items) path e =
    let mid = path.0 in
    let kept = neither old.has_dropped path.1.dropped mid.has_dropped path.1.dropped_is (none_before items mid new path.2 e) in
    joins_on covers covers-refl covers-trans (held_with_dead old.store old.dead) (held_with_dead mid.store mid.dead)
    (held_with_dead new.store new.dead)
    (i ∷ []) items (item_whole old mid i path.1 kept.1) (taken_are_joined mid new items path.2 e)

pub taken_are_joined_in_part : TakenAreJoinedInPart
taken_are_joined_in_part old new [] path =
    subst (λ (x : Taking). JoinsPart covers (held_with_dead x.store x.dead) (held_with_dead old.store old.dead) []) path
    (joins_are_part covers covers-refl covers-trans (held_with_dead old.store old.dead) (held_with_dead old.store old.dead) []
    (joins_nothing covers covers-refl covers-trans (held_with_dead old.store old.dead)))
taken_are_joined_in_part old new (i ∷ items) path =
    let mid = path.0 in
    parts_on covers covers-refl covers-trans (held_with_dead old.store old.dead) (held_with_dead mid.store mid.dead)
    (held_with_dead new.store new.dead)
    (i ∷ []) items (item_part old mid i path.1) (taken_are_joined_in_part mid new items path.2)
