-- A holder holds the top of what it was brought.
use Rattle.std.proofs.Common.{◌≡◌, List, [], ◌∷◌, ◌++◌, sym, subst, ◌∙◌, append_assoc}
use Rattle.std.proofs.lemmas.List.{append-nil}
use Rattle.std.proofs.lemmas.Option.{none-some}
use Rattle.std.specs.FinMap.{get-empty}
use Rattle.history.specs.declared.entry.Entry.{Entry}
use Rattle.history.specs.History.{Path, Run}
use Rattle.ds_names.specs.Key.{name_cmp, key_cmp}
use Rattle.ds_entry.specs.declared.item.Item.{Item}
use Rattle.ds_entry.specs.declared.item.Item.TheVariants.{Change as Changed, Floor as Floored}
use Rattle.ds_entry.specs.Under.{under}
use Rattle.ds_entry.proofs.Members.{Contains-nil}
use Rattle.ds_join.specs.ItemTop.{IsTop}
use Rattle.ds_join.proofs.ItemTopLemmas.{top_of_top}
use Rattle.ds_held.specs.Held.{held_items, nothing_held, IsSound}
use Rattle.ds_held.specs.Limits.{larger}
use Rattle.ds_held.proofs.HeldLemmas.{IsHeld, is_held, held_is_top}
use Rattle.ds_held.proofs.KeptLemmas.{kept_nothing}
use Rattle.ds_pattern.specs.declared.query.Query.{Query}
use Rattle.ds_pattern.specs.Under.{is_under}
use Rattle.ds_machine.specs.State.{State, held}
use Rattle.ds_machine.specs.Effect.{learnt_by}
use Rattle.ds_machine.specs.Reached.{IsReached}
use Rattle.ds_machine.specs.declared.command.Command.{Command}
use Rattle.ds_machine.specs.declared.reply.Reply.{Reply}
use Rattle.ds_machine.proofs.ReachedLemmas as reached_lemmas
use Rattle.ds_machine.proofs.KnownLemmas.{known_stays_held, steps_stay_reached}
use Rattle.ds_replica.proofs.LeftLemmas.{step_left}
use Rattle.ds_content.specs.Content.{ContentRecord}
use Rattle.ds_store.specs.Turns.{Answered}
use Rattle.ds_store.proofs.TurnLemmas.{turns_run}
use Rattle.ds_submap.specs.Map.{SubMapRecord, empty_map}
use Rattle.holders.specs.Holding.{learnt_over, StateKnows, StoreKnows, MergesUnder, taken_under, MapKnows, StoreOf, StateOf, MapOf}
use Rattle.holders.specs.Agree.{HeldIsTopOfKnown}

-- ---- a store

-- Over a run of the machine, what is held stays the top of what is known and of what the run made known.
run_top : (es : List (Entry Command Reply)) (s t : State) (known : List Item) → IsReached s → IsTop (held s) known → Run Answered s es t →
    IsTop (held t) (known ++ learnt_over s es)
run_top [] s t known r top run = subst (λ (x : State). IsTop (held x) (known ++ [])) run
    (subst (IsTop (held s)) (sym (append-nil known)) top)
run_top (e ∷ es) s t known r top run =
    let u : State = run.0 in
    let learnt : List Item = learnt_by s e.command e.reply in
    let more : IsTop (held u) (known ++ learnt) = known_stays_held s u e.command e.reply known r run.1.step top in
    let later : IsTop (held t) ((known ++ learnt) ++ learnt_over u es) =
    run_top es u t (known ++ learnt) (steps_stay_reached s u e.command e.reply r run.1.step) more run.2 in
    let grouped : IsTop (held t) (known ++ (learnt ++ learnt_over u es)) =
    subst (IsTop (held t)) (append_assoc known learnt (learnt_over u es)) later in
    subst (λ (x : State). IsTop (held t) (known ++ (learnt ++ learnt_over x es))) (step_left s u e.command e.reply r run.1.step) grouped

-- The state that a history leads to holds the top of what the history made known.
history_top : (start now : State) (turns : List (Entry Command Reply)) → IsReached start → start.feed.accepted ≡ [] →
    Run Answered start turns now → IsTop (held now) (learnt_over start turns)
history_top start now turns reached empty run =
    run_top turns start now [] reached (subst (IsTop (held start)) empty (reached_lemmas.held_is_top start reached)) run

pub state_top : (now : State) (known : List Item) → StateKnows now known → IsTop (held now) known
state_top now known k = subst (IsTop (held now)) (sym k.known_is) (history_top k.start now k.turns k.reached k.empty k.run)

pub store_top : (now : ContentRecord) (known : List Item) → StoreKnows now known → IsTop now.held known
store_top now known k =
    let run = turns_run k.turns k.opened now k.run k.start k.content in
    let top : IsTop (held run.0) (learnt_over k.start k.turns) = history_top k.start run.0 k.turns k.content.reached k.empty run.1 in
    subst (IsTop now.held) (sym k.known_is) (subst (λ (l : List Item). IsTop l (learnt_over k.start k.turns)) (sym run.2.held) top)

-- ---- a map

pub nothing_sound : IsSound (nothing_held larger)
nothing_sound = (kept_nothing larger).sound

pub nothing_top : IsTop (held_items (nothing_held larger)) []
nothing_top = held_is_top (nothing_held larger) nothing_sound [] (λ i k. absurd (none i (is_held (nothing_held larger) nothing_sound i k)))
    (λ i k. absurd (Contains-nil i k))
  where
    none : (i : Item) → IsHeld (nothing_held larger) i → ⊥
    none (Changed c) h = none-some c (sym (get-empty key_cmp c.key) ∙ h)
    none (Floored f) h = none-some f.generation (sym (get-empty name_cmp f.owner) ∙ h)

-- Over takes, what is held stays the top of what is known and of what the takes brought.
takes_top : (takes : List (List Item)) (old now : SubMapRecord) (known : List Item) → IsTop (held_items old.held) known →
    Path MergesUnder old takes now → IsTop (held_items now.held) (known ++ taken_under old.query takes)
takes_top [] old now known top path = subst (λ (x : SubMapRecord). IsTop (held_items x.held) (known ++ [])) path
    (subst (IsTop (held_items old.held)) (sym (append-nil known)) top)
takes_top (items ∷ takes) old now known top path =
    let mid : SubMapRecord = path.0 in
    let taken : List Item = under (is_under old.query) items in
    let more : IsTop (held_items mid.held) (known ++ taken) =
    top_of_top known taken (held_items old.held) (held_items mid.held) top path.1.joined in
    let later : IsTop (held_items now.held) ((known ++ taken) ++ taken_under mid.query takes) =
    takes_top takes mid now (known ++ taken) more path.2 in
    let grouped : IsTop (held_items now.held) (known ++ (taken ++ taken_under mid.query takes)) =
    subst (IsTop (held_items now.held)) (append_assoc known taken (taken_under mid.query takes)) later in
    subst (λ (q : Query). IsTop (held_items now.held) (known ++ (taken ++ taken_under q takes))) path.1.query grouped

pub map_top : (now : SubMapRecord) (known : List Item) → MapKnows now known → IsTop (held_items now.held) known
map_top now known k = subst (IsTop (held_items now.held)) (sym k.known_is)
    (takes_top k.takes (empty_map now.query) now [] nothing_top k.path)

-- ---- any of them

pub held_is_top_of_known : HeldIsTopOfKnown
held_is_top_of_known (StoreOf store) known k = store_top store known k
held_is_top_of_known (StateOf state) known k = state_top state known k
held_is_top_of_known (MapOf map) known k = map_top map known k
