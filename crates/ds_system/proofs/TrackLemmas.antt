-- Over every list of events, running instances are ahead of what was made, and tables know only what was made.
use Rattle.std.proofs.Common.{◌≡◌, ℕ, Bool, true, false, List, [], ◌∷◌, ◌++◌, Option, Some, None, Result, refl, ap, sym, ◌∙◌, subst}
use Rattle.std.proofs.Common.{inl, inr, Contains, replicate, length}
use Rattle.std.specs.List.{filter_map}
use Rattle.std.proofs.lemmas.List.Elements.{Contains-append_cases}
use Rattle.ds_names.specs.Endpoint.{EndpointRecord}
use Rattle.ds_names.specs.Key.{label_key}
use Rattle.ds_names.specs.Kind.{is_label}
use Rattle.ds_names.specs.declared.key.Key.{Key}
use Rattle.ds_names.proofs.Tests.{opposed}
use Rattle.ds_entry.specs.Change.{ChangeRecord, change_of}
use Rattle.ds_entry.specs.declared.body.Body.{Body}
use Rattle.ds_entry.specs.declared.body.Body.TheVariants as bodies
use Rattle.ds_entry.specs.declared.item.Item.TheVariants.{Change as Changed}
use Rattle.ds_entry.proofs.Members.{Contains-nil, Contains-cons}
use Rattle.ds_held.proofs.MergeLemmas.{no_some}
use Rattle.ds_machine.specs.declared.reply.Reply.{Reply}
use Rattle.ds_machine.specs.Parts.{held_at}
use Rattle.ds_machine.proofs.PartLemmas.{key_found}
use Rattle.rs_core.specs.declared.state.State.TheVariants.{Down}
use Rattle.rs_core.specs.Action.{label_put, label_gone}
use Rattle.rs_core.specs.Run.{offers}
use Rattle.rs_core.specs.State.{RsRecord}
use Rattle.driver_tables.specs.declared.moves.Move.{Move}
use Rattle.driver_tables.specs.declared.fault.TableFault.{TableFault}
use Rattle.driver_tables.specs.declared.fault.TableFault.TheVariants as stops
use Rattle.driver_tables.specs.DriverTable.{DriverTable, empty_table, last_sent, pending, is_requested}
use Rattle.driver_tables.specs.Driver.{Driver, driver_of}
use Rattle.driver_tables.specs.Assign.{assigning}
use Rattle.driver_tables.specs.Label.{is_same_state}
use Rattle.driver_tables.proofs.RunLemmas.{assigned_so, replied_so}
use Rattle.std.proofs.Common.{is_some}
use Rattle.ds_replica.specs.declared.event.Side.{Side}
use Rattle.ds_replica.specs.declared.event.Holder.TheVariants.{Map}
use Rattle.ds_replica.specs.Known.{Account, extended_all}
use Rattle.ds_replica.proofs.HolderLemmas.{held_within}
use Rattle.rs_to_store.specs.Following.{labels_of}
use Rattle.ds_system.specs.declared.event.Table.{Table}
use Rattle.ds_system.specs.declared.event.Table.TheVariants.{File, Net}
use Rattle.ds_system.specs.declared.event.SystemEvent.{SystemEvent}
use Rattle.ds_system.specs.declared.event.SystemEvent.TheVariants.{Service, Put, Remove, Again, World, Follow, Submit, Answered}
use Rattle.ds_system.specs.declared.outcome.SystemOutcome.{SystemOutcome}
use Rattle.ds_system.specs.declared.outcome.SystemOutcome.TheVariants.{Acted, Replied, Moved, Happened, Refused}
use Rattle.ds_system.specs.System.{System, table_at, system_with_table, map_number, followed_items}
use Rattle.ds_system.specs.Turn.{TableTurn}
use Rattle.ds_system.specs.Steps.{Steps}
use Rattle.ds_system.specs.EffectsOfTurns.{WritesEntry, LooksAtMap, IsPlain, LooksToo, Submits, Replies}
use Rattle.ds_system.specs.Happening.{SystemTakes, SystemDoes, SystemEntry, SystemRun}
use Rattle.ds_system.specs.Start.{IsNew, assigned_all, file_unit, net_unit}
use Rattle.ds_system.proofs.Kept.{service_in, label_of_service, IsMade}
use Rattle.ds_system.proofs.SingleLemmas.{declared_no_label, entry_no_label}
use Rattle.ds_system.proofs.WrittenLemmas.{judged_allowed}
use Rattle.ds_system.proofs.TableRunLemmas.{assigned_to, submit_leaves}
use Rattle.ds_system.proofs.AheadLemmas.{IsAhead, act_ahead, new_ahead}
use Rattle.ds_system.proofs.ToldLemmas.{IsLabelMade, IsTold, told_more, told_same, follow_told}
use Rattle.ds_system.proofs.AccountLemmas.{extended_twice}
use Rattle.ds_system.proofs.EventLemmas.{IsSound, event_sound}
use Rattle.ds_system.proofs.LawLemmas.{new_sound}
use Rattle.rs_settings.specs.Settings.{SettingsRecord}
use Rattle.ds_replica.specs.declared.seed.Seed.{Seed}
use Rattle.ds_replica.specs.Known.{new_account}
use Rattle.ds_held.specs.Limits.{larger}
use Rattle.ds_system.specs.Start.{two_maps, account_since}
use Rattle.ds_system.specs.Happening.{all_events}

-- ---- what a server's map tells was made
pub map_tells : (account : Account) (s : System) → IsSound account s → (table : Table) (l : List ℕ) (c : ChangeRecord) →
    held_at (followed_items s table) (label_key l) ≡ Some c → IsLabelMade s.made l c
map_tells account s k table l c e = label_made f.1 there (k.kept.each c there)
  where
    f : Contains (followed_items s table) (Changed c) × (label_key l ≡ c.key)
    f = key_found (followed_items s table) (label_key l) c e

    there : Contains s.made c
    there = k.made c (held_within account s.world k.fits (Map (map_number table)) (Changed c) f.0)

    label_made : label_key l ≡ c.key → Contains s.made c → IsMade s.rs.settings s.rs.next s.numberers c → IsLabelMade s.made l c
    label_made key h (inl p) =
        let name : label_of_service s.rs.settings p.place ≡ l =
        sym (ap (λ (z : ChangeRecord). z.key.name) p.is) ∙ sym (ap (λ (z : Key). z.name) key) in
        let is : c ≡ label_put l p.endpoint = p.is ∙ ap (λ (n : List ℕ). label_put n p.endpoint) name in
        inl (p.endpoint, is, subst (Contains s.made) is h)
    label_made key h (inr (inl g)) =
        let name : label_of_service s.rs.settings g.place ≡ l =
        sym (ap (λ (z : ChangeRecord). z.key.name) g.is) ∙ sym (ap (λ (z : Key). z.name) key) in
        let is : c ≡ label_gone l g.generation = g.is ∙ ap (λ (n : List ℕ). label_gone n g.generation) name in
        inr (g.generation, is, subst (Contains s.made) is h)
    label_made key h (inr (inr d)) = opposed (is_label c.key.kind) (ap (λ (z : Key). is_label z.kind) (sym key))
        (entry_no_label s.rs.settings s.numberers c d)

-- ---- the invariant
abbrev pub AreTold : System → Type 0
AreTold s = (table : Table) → IsTold s.made (table_at s table)

pub record IsTracked (account : Account) (s : System) : Type 0 where
  pub sound : IsSound account s
  pub ahead : IsAhead s.rs s.made
  pub told : AreTold s

-- an entry that isn't a label changes nothing of labels
entry_ahead : (rs : RsRecord) (made : List ChangeRecord) (c : ChangeRecord) → is_label c.key.kind ≡ false → IsAhead rs made →
    IsAhead rs (made ++ c ∷ [])
entry_ahead rs made c e a = record {
  count = a.count;
  low = λ d h k. elim (Contains-append_cases made (c ∷ []) d h)
      [ inl i ↦ a.low d i k | inr i ↦ opposed (is_label d.key.kind) k (ap (λ (z : ChangeRecord). is_label z.key.kind) (one d i) ∙ e) ];
  ahead = λ i r up d h key. elim (Contains-append_cases made (c ∷ []) d h) [
    | inl j ↦ a.ahead i r up d j key
    | inr j ↦ opposed (is_label d.key.kind) (ap (λ (z : Key). is_label z.kind) key)
        (ap (λ (z : ChangeRecord). is_label z.key.kind) (one d j) ∙ e)
  ];
}
  where
    one : (d : ChangeRecord) → Contains (c ∷ []) d → d ≡ c
    one d h = elim (Contains-cons c [] d h) [ inl q ↦ q | inr k ↦ absurd (Contains-nil d k) ]

module _ (account : Account) (s t : System) (k : IsTracked account s) where
  -- ---- RS
  stays_ahead : (x : System) → t ≡ x → x.rs ≡ s.rs → x.made ≡ s.made → IsAhead t.rs t.made
  stays_ahead x e rs made =
      subst (λ (z : RsRecord). IsAhead z t.made) (sym (ap (λ (y : System). y.rs) e ∙ rs))
      (subst (IsAhead s.rs) (sym (ap (λ (y : System). y.made) e ∙ made)) k.ahead)

  writes_ahead : (label : List ℕ) (key : Key) (content : Body) (side : Side) (reply : Reply) (steps : Steps) →
      WritesEntry s label key content side reply steps t → IsAhead t.rs t.made
  writes_ahead label key content side reply steps h =
      let allowed = judged_allowed s.rs s.numberers label key content h.instance h.judged_is in
      subst (λ (z : System). IsAhead z.rs z.made) (sym h.system_is)
      (entry_ahead s.rs s.made (change_of key label h.number content)
      (declared_no_label (service_in s.rs.settings h.instance.place) key allowed.declared) k.ahead)

  takes_ahead : (event : SystemEvent) (outcome : SystemOutcome) (steps : Steps) → SystemTakes s event outcome steps t → IsAhead t.rs t.made
  takes_ahead (Service event tick side) (Acted actions replies) steps h =
      subst (λ (z : List ChangeRecord). IsAhead t.rs z) (sym (ap (λ (z : System). z.made) h.system_is))
      (act_ahead s.rs t.rs s.numberers s.made k.sound.kept k.ahead event tick actions h.step)
  takes_ahead (Put label key value side) (Replied reply) steps h = writes_ahead label key (bodies.Put value) side reply steps h
  takes_ahead (Remove label key side) (Replied reply) steps h = writes_ahead label key bodies.Gone side reply steps h
  takes_ahead (Again n side) (Replied reply) steps h = stays_ahead _ h.system_is refl refl
  takes_ahead (World event) (Happened outcome) steps h = stays_ahead _ h.system_is refl refl
  takes_ahead Follow (Moved rounds own fault) steps h = stays_ahead _ h.system_is refl refl
  takes_ahead (Submit File id unit) (Moved rounds own fault) steps h = stays_ahead _ h.system_is refl refl
  takes_ahead (Submit Net id unit) (Moved rounds own fault) steps h = stays_ahead _ h.system_is refl refl
  takes_ahead (Answered File endpoint id) (Moved rounds own fault) steps h = stays_ahead _ h.system_is refl refl
  takes_ahead (Answered Net endpoint id) (Moved rounds own fault) steps h = stays_ahead _ h.system_is refl refl
  takes_ahead event outcome steps h = absurd h

  -- ---- the tables
  more_told : (x : System) (more : List ChangeRecord) → t ≡ x → x.file ≡ s.file → x.net ≡ s.net → x.made ≡ s.made ++ more → AreTold t
  more_told x more e file net made File =
      subst (λ (z : System). IsTold z.made z.file) (sym e)
      (subst (λ (z : List ChangeRecord). IsTold z x.file) (sym made)
      (subst (IsTold (s.made ++ more)) (sym file) (told_more s.made more s.file (k.told File))))
  more_told x more e file net made Net =
      subst (λ (z : System). IsTold z.made z.net) (sym e)
      (subst (λ (z : List ChangeRecord). IsTold z x.net) (sym made)
      (subst (IsTold (s.made ++ more)) (sym net) (told_more s.made more s.net (k.told Net))))

  -- nothing was made, and each table knows what was made before
  both_told : (x : System) → t ≡ x → x.made ≡ s.made → IsTold s.made x.file → IsTold s.made x.net → AreTold t
  both_told x e made file net File =
      subst (λ (z : System). IsTold z.made z.file) (sym e) (subst (λ (z : List ChangeRecord). IsTold z x.file) (sym made) file)
  both_told x e made file net Net =
      subst (λ (z : System). IsTold z.made z.net) (sym e) (subst (λ (z : List ChangeRecord). IsTold z x.net) (sym made) net)

  one_told : (table : Table) (u : DriverTable) → t ≡ system_with_table s table u → IsTold s.made u → AreTold t
  one_told File u e told = both_told (system_with_table s File u) e refl told (k.told Net)
  one_told Net u e told = both_told (system_with_table s Net u) e refl (k.told File) told

  looks_told : (table : Table) (turn : TableTurn) → LooksAtMap s table turn → IsTold s.made turn.followed
  looks_told table turn h =
      follow_told s.made (followed_items s table) (map_tells account s k.sound table) (labels_of turn.before) turn.before turn.rounds
      turn.stop turn.followed h.follows (subst (IsTold s.made) (sym h.before) (k.told table))

  plain_told : (table : Table) (turn : TableTurn) → LooksAtMap s table turn → IsPlain turn → IsTold s.made turn.after
  plain_told table turn h p = subst (IsTold s.made) (sym p.after) (looks_told table turn h)

  too_told : (stop : Option TableFault) (net : Option TableTurn) (rounds : List (List Move)) (fault : Option TableFault)
      (after : DriverTable) → LooksToo s stop net rounds fault after → IsTold s.made after
  too_told None net rounds fault after h = subst (IsTold s.made) (sym h.6) (plain_told Net h.0 h.2 h.3)
  too_told (Some stop) net rounds fault after h = subst (IsTold s.made) (sym h.3) (k.told Net)

  submits_states : (followed : DriverTable) (id unit : ℕ) (stop : Option TableFault) (own : Option Move) (fault : Option TableFault)
      (after : DriverTable) → Submits followed id unit stop own fault after → after.states ≡ followed.states
  submits_states followed id unit (Some stop) own fault after h = ap (λ (z : DriverTable). z.states) h.2
  submits_states followed id unit None (Some own) None after h = (submit_leaves followed after id unit own h).states
  submits_states followed id unit None (Some own) (Some fault) after h = absurd h
  submits_states followed id unit None None None after h = absurd h
  submits_states followed id unit None None (Some stops.NoRoom) after h = ap (λ (z : DriverTable). z.states) h.1
  submits_states followed id unit None None (Some _) after h = ap (λ (z : DriverTable). z.states) h.1

  replies_states : (x : DriverTable) (endpoint : EndpointRecord) (id : ℕ) (own : Option Move) (fault : Option TableFault)
      (after : DriverTable) → Replies x endpoint id own fault after → after.states ≡ x.states
  replies_states x endpoint id (Some own) None after h =
      ap (λ (p : Result Move TableFault × DriverTable). p.1.states) (sym h) ∙
      by (is_requested (pending x) id) (is_same_state (last_sent x.sends id) (Some endpoint))
    where
      by : (there same : Bool) → (replied_so x id there same).1.states ≡ x.states
      by false same = refl
      by true false = refl
      by true true = refl
  replies_states x endpoint id None (Some fault) after h = ap (λ (z : DriverTable). z.states) h.1
  replies_states x endpoint id (Some own) (Some fault) after h = absurd h
  replies_states x endpoint id None None after h = absurd h

  takes_told : (event : SystemEvent) (outcome : SystemOutcome) (steps : Steps) → SystemTakes s event outcome steps t → AreTold t
  takes_told (Service event tick side) (Acted actions replies) steps h = more_told _ (offers actions) h.system_is refl refl refl
  takes_told (Put label key value side) (Replied reply) steps h = more_told _ (change_of key label h.number (bodies.Put value) ∷ [])
      h.system_is refl refl refl
  takes_told (Remove label key side) (Replied reply) steps h = more_told _ (change_of key label h.number bodies.Gone ∷ []) h.system_is
      refl refl refl
  takes_told (Again n side) (Replied reply) steps h = both_told _ h.system_is refl (k.told File) (k.told Net)
  takes_told (World event) (Happened outcome) steps h = both_told _ h.system_is refl (k.told File) (k.told Net)
  takes_told Follow (Moved rounds own fault) steps h =
      both_told _ h.system_is refl (plain_told File h.file h.first h.plain) (too_told h.file.stop h.net h.more fault t.net h.too)
  takes_told (Submit table id unit) (Moved rounds own fault) steps h =
      one_told table h.turn.after h.system_is
      (told_same s.made h.turn.followed h.turn.after
      (submits_states h.turn.followed id unit h.turn.stop h.turn.own fault h.turn.after h.submits) (looks_told table h.turn h.first))
  takes_told (Answered table endpoint id) (Moved rounds own fault) steps h =
      one_told table h.after h.system_is
      (told_same s.made (table_at s table) h.after (replies_states (table_at s table) endpoint id own fault h.after h.replies)
      (k.told table))
  takes_told event outcome steps h = absurd h

  -- ---- one event
  pub event_tracked : (event : SystemEvent) (outcome : SystemOutcome) (steps : Steps) → SystemDoes s event outcome steps t →
      IsTracked (extended_all account steps.events) t
  event_tracked event outcome steps h =
      record { sound = event_sound account s t k.sound event outcome steps h; ahead = (by outcome h).0; told = (by outcome h).1 }
    where
      by : (outcome : SystemOutcome) → SystemDoes s event outcome steps t → IsAhead t.rs t.made × AreTold t
      by (Refused fault) h = (stays_ahead s h.system_is refl refl, both_told s h.system_is refl (k.told File) (k.told Net))
      by (Acted a b) h = (takes_ahead event (Acted a b) steps h, takes_told event (Acted a b) steps h)
      by (Replied a) h = (takes_ahead event (Replied a) steps h, takes_told event (Replied a) steps h)
      by (Moved a b c) h = (takes_ahead event (Moved a b c) steps h, takes_told event (Moved a b c) steps h)
      by (Happened a) h = (takes_ahead event (Happened a) steps h, takes_told event (Happened a) steps h)

-- ---- over all events
-- a table that was only assigned units knows nothing
assigned_states : (units : List (ℕ × Driver)) (x : DriverTable) → (assigned_to x units).states ≡ x.states
assigned_states [] x = refl
assigned_states (u ∷ units) x = assigned_states units (assigning x u.0 u.1).1 ∙ one (is_some (driver_of x.units u.0))
  where
    one : (there : Bool) → (assigned_so x u.0 u.1 there).1.states ≡ x.states
    one true = refl
    one false = refl

nothing_told : (made : List ChangeRecord) → IsTold made empty_table
nothing_told made = record { now = λ l e q. no_some e q; newest_is = λ l g q. no_some g q; gone = λ l g q n. no_some g q }

assigned_told : (made : List ChangeRecord) (units : List (ℕ × Driver)) → IsTold made (assigned_all units)
assigned_told made units = told_same made empty_table (assigned_all units) (assigned_states units empty_table) (nothing_told made)

pub new_tracked : (settings : SettingsRecord) (a b : Seed) (next : ℕ) (s : System) → IsNew settings a b next s →
    IsTracked (extended_all (new_account a b larger) two_maps) s
new_tracked settings a b next s new = record {
  sound = new_sound settings a b next s new;
  ahead = subst (IsAhead s.rs) (sym new.made) (new_ahead s.rs (ap (λ (z : RsRecord). z.states) new.rs ∙
      ap (λ (z : RsRecord). replicate (length z.settings.services) Down) (sym new.rs)));
  told = told;
}
  where
    told : AreTold s
    told File = subst (IsTold s.made) (sym new.file) (assigned_told s.made (filter_map file_unit settings.services))
    told Net = subst (IsTold s.made) (sym new.net) (assigned_told s.made (filter_map net_unit settings.services))

pub run_tracked : (account : Account) (s : System) (entries : List SystemEntry) (t : System) → IsTracked account s →
    SystemRun s entries t → IsTracked (extended_all account (all_events entries)) t
run_tracked account s [] t k run = subst (IsTracked account) run k
run_tracked account s (e ∷ es) t k run =
    subst (λ (z : Account). IsTracked z t) (sym (extended_twice account e.steps.events (all_events es)))
    (run_tracked (extended_all account e.steps.events) run.0 es t (event_tracked account s run.0 k e.event e.outcome e.steps run.1) run.2)

pub since_new : (settings : SettingsRecord) (a b : Seed) (next : ℕ) (s t : System) (entries : List SystemEntry) →
    IsNew settings a b next s → SystemRun s entries t → IsTracked (account_since a b entries) t
since_new settings a b next s t entries new run =
    run_tracked (extended_all (new_account a b larger) two_maps) s entries t (new_tracked settings a b next s new) run
