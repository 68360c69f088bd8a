-- The laws over every list of events of a new system.
use Rattle.std.proofs.Common.{◌≡◌, ℕ, zero, suc, ◌≤◌, List, [], ◌∷◌, ◌++◌, length, get_or, replicate, refl, ap, sym, subst, inl, inr, arith}
use Rattle.std.proofs.Common.{Contains}
use Rattle.std.specs.List.{filter_map}
use Rattle.std.proofs.lemmas.List.{length-replicate}
use Rattle.std.proofs.lemmas.List.Elements.{Contains-append_cases}
use Rattle.ds_entry.specs.ItemCovers.{AreSingleNumbered}
use Rattle.ds_entry.specs.declared.item.Item.{Item}
use Rattle.ds_entry.specs.declared.item.Item.TheVariants.{Change as Changed}
use Rattle.ds_entry.proofs.ItemLemmas.{covers-same, single_part}
use Rattle.ds_entry.proofs.Members.{Contains-nil}
use Rattle.ds_held.specs.Limits.{larger}
use Rattle.ds_machine.specs.Reached.{AreExact}
use Rattle.rs_settings.specs.Settings.{SettingsRecord, IsSettings}
use Rattle.rs_core.specs.declared.state.State.TheVariants.{Down, Up}
use Rattle.rs_core.specs.declared.state.Running.{Running}
use Rattle.rs_core.specs.Action.{label_put}
use Rattle.rs_core.specs.Numbering.{NumbererRecord, numberer}
use Rattle.rs_core.specs.Slots.{new_slots}
use Rattle.rs_core.specs.State.{RsRecord, rs_of}
use Rattle.driver_tables.specs.DriverTable.{empty_table}
use Rattle.ds_replica.specs.declared.seed.Seed.{Seed}
use Rattle.ds_replica.specs.declared.event.Event.TheVariants.{Deliver}
use Rattle.ds_replica.specs.declared.outcome.Outcome.TheVariants.{Stopped}
use Rattle.ds_replica.specs.World.{World, new_world}
use Rattle.ds_replica.specs.Happens.{HappenAll}
use Rattle.ds_replica.specs.Known.{Account, new_account, extended_all}
use Rattle.ds_replica.specs.Fits.{Fits}
use Rattle.ds_replica.proofs.StartLemmas.{account_fits_at_start}
use Rattle.ds_replica.proofs.EventLemmas.{events_fit}
use Rattle.ds_replica.proofs.HappenLemmas.{happen_then, happen_split}
use Rattle.ds_replica.proofs.BringLemmas.{events_bring_items}
use Rattle.ds_replica.proofs.HolderLemmas.{equal_where_known, nothing_clashes, holds_the_stores, labels_are_newest}
use Rattle.ds_replica.proofs.ClashLemmas.{nothing_stops}
use Rattle.ds_system.specs.declared.event.Table.{Table}
use Rattle.ds_system.specs.declared.event.Table.TheVariants.{File, Net}
use Rattle.ds_system.specs.System.{System, table_at}
use Rattle.ds_system.specs.Steps.{WorldEvents, AreProper}
use Rattle.ds_system.specs.Happening.{SystemEntry, SystemRun, all_events}
use Rattle.ds_system.specs.Start.{two_maps, file_unit, net_unit, IsNew, account_since}
use Rattle.ds_system.specs.Laws.{IsCalled, NoneIsContradicted, SystemsKeepLaws}
use Rattle.ds_system.proofs.Kept.{IsKept}
use Rattle.ds_system.proofs.SingleLemmas.{made_single}
use Rattle.ds_system.proofs.TableRunLemmas.{calls_twice, assigned_called}
use Rattle.ds_system.proofs.AccountLemmas.{extended_twice, all_brought}
use Rattle.ds_system.proofs.EventLemmas.{IsSound, WorldLeads, event_leads, run_sound, run_tables}

-- ---- events of the world, joined and cut
proper_join : (xs ys : WorldEvents) → AreProper xs → AreProper ys → AreProper (xs ++ ys)
proper_join xs ys p q e h = elim (Contains-append_cases xs ys e h) [ inl i ↦ p e i | inr i ↦ q e i ]

run_leads : (s : System) (entries : List SystemEntry) (t : System) → SystemRun s entries t → WorldLeads s (all_events entries) t
run_leads s [] t run = record { proper = λ e h. absurd (Contains-nil e h); happen = ap (λ (z : System). z.world) (sym run) }
run_leads s (e ∷ es) t run =
    let one = event_leads s e.event e.outcome e.steps run.0 run.1 in
    let rest = run_leads run.0 es t run.2 in
    record {
      proper = proper_join e.steps.events (all_events es) one.proper rest.proper;
      happen = happen_then e.steps.events (all_events es) s.world run.0.world t.world one.happen rest.happen;
    }

-- ---- a new system
new_kept : (settings : SettingsRecord) (next : ℕ) → IsSettings settings → 1 ≤ next
    → IsKept (rs_of settings (replicate (length settings.services) Down) 0 next (new_slots 16))
    (replicate (length settings.services) (numberer 0 0)) []
new_kept settings next checked some = record {
  settings = checked;
  count = length-replicate (length settings.services) (numberer 0 0);
  some = some;
  each = λ c h. absurd (Contains-nil c h);
  puts = λ l m e f h g same. absurd (Contains-nil (label_put l e) h);
  drawn = tt;
  runs = λ i r up. none_up (length settings.services) i r up;
  ahead = λ i r up. none_up (length settings.services) i r up;
  low = λ i. (let e : (get_or (replicate (length settings.services) (numberer 0 0)) i (numberer 0 0)).generation ≡ 0 =
      ap (λ (z : NumbererRecord). z.generation) (no_numbers (length settings.services) i) in omega arith);
}
  where
    none_up : {A : Type 0} (n i : ℕ) (r : Running) → get_or (replicate n Down) i Down ≡ Up r → A
    none_up zero i r up = cc
    none_up (suc n) zero r up = cc
    none_up {A} (suc n) (suc i) r up = none_up {A = A} n i r up

    no_numbers : (n i : ℕ) → get_or (replicate n (numberer 0 0)) i (numberer 0 0) ≡ numberer 0 0
    no_numbers zero i = refl
    no_numbers (suc n) zero = refl
    no_numbers (suc n) (suc i) = no_numbers n i

pub new_sound : (settings : SettingsRecord) (a b : Seed) (next : ℕ) (s : System) → IsNew settings a b next s →
    IsSound (extended_all (new_account a b larger) two_maps) s
new_sound settings a b next s new = record {
  fits = events_fit (new_account a b larger) (new_world a b larger) s.world two_maps (account_fits_at_start a b larger (inr refl))
      new.world;
  kept = subst (λ (z : RsRecord). IsKept z s.numberers s.made) (sym new.rs)
      (subst (λ (z : List NumbererRecord). IsKept new_rs z s.made) (sym new.numberers)
      (subst (IsKept new_rs no_numbers) (sym new.made) (new_kept settings next new.checked new.some)));
  made = λ c h. absurd (Contains-nil (Changed c) h);
}
  where
    new_rs : RsRecord
    new_rs = rs_of settings (replicate (length settings.services) Down) 0 next (new_slots 16)

    no_numbers : List NumbererRecord
    no_numbers = replicate (length settings.services) (numberer 0 0)

pub new_called : (settings : SettingsRecord) (a b : Seed) (next : ℕ) (s : System) → IsNew settings a b next s → (table : Table) →
    IsCalled (table_at s table)
new_called settings a b next s new File = subst IsCalled (sym new.file) (assigned_called (filter_map file_unit settings.services))
new_called settings a b next s new Net = subst IsCalled (sym new.net) (assigned_called (filter_map net_unit settings.services))

-- ---- what follows from the account
brought_single : (account : Account) (s : System) → IsSound account s → AreSingleNumbered account.brought
brought_single account s k =
    let single = made_single s.rs s.numberers s.made k.kept in
    record {
      one_change = λ c d i j. single.one_change c d (k.made c i) (k.made d j);
      one_owner = λ c d i j.
          single.one_owner c d (k.made c i) (k.made d j);
    }

-- no delivery is stopped by a contradiction
none_contradicted : (account : Account) (w n : World) (events : WorldEvents) → Fits account w → HappenAll w events n →
    AreSingleNumbered (extended_all account events).brought → NoneIsContradicted events
none_contradicted account w n events f h single front back k holder count done fault owed is =
    let all : HappenAll w (front ++ (Deliver k holder count, Stopped done fault owed) ∷ back) n =
    subst (λ (z : WorldEvents). HappenAll w z n) (sym is) h in
    let cut = happen_split front ((Deliver k holder count, Stopped done fault owed) ∷ back) w n all in
    nothing_stops (extended_all account front) cut.0 cut.2.0 k holder count done fault owed (events_fit account w cut.0 front f cut.1)
    (single_part (extended_all account front).brought (extended_all account events).brought
    (later front ((Deliver k holder count, Stopped done fault owed) ∷ back) is) single) cut.2.1
  where
    later : (xs ys : WorldEvents) → xs ++ ys ≡ events → (i : Item) → Contains (extended_all account xs).brought i →
        Contains (extended_all account events).brought i
    later xs ys e i c = subst (λ (z : WorldEvents). Contains (extended_all account z).brought i) e
        (subst (λ (z : Account). Contains z.brought i) (sym (extended_twice account xs ys)) (all_brought (extended_all account xs) ys i c))

pub systems_keep_laws : SystemsKeepLaws
systems_keep_laws settings a b next s t entries new run = record {
  fits = now.fits;
  made = made_single t.rs t.numberers t.made now.kept;
  brought = single;
  own = now.made;
  drawn = now.kept.drawn;
  exact = exact;
  items = events_bring_items start s.world t.world (all_events entries) first.fits led.happen led.proper (λ i h. absurd (Contains-nil i h));
  agree = λ query h i same. equal_where_known (account_since a b entries) t.world query h i now.fits exact same;
  clashes = λ c d i j key. nothing_clashes (account_since a b entries) t.world c d now.fits single i j key;
  stops = none_contradicted start s.world t.world (all_events entries) first.fits led.happen single;
  catch_up = λ j m side has none. holds_the_stores (account_since a b entries) t.world j m side now.fits exact has none;
  newest = labels_are_newest (account_since a b entries) t.world now.fits
      (events_bring_items start s.world t.world (all_events entries) first.fits led.happen led.proper (λ i h. absurd (Contains-nil i h)));
  tables = λ table. calls_twice empty_table (table_at s table) (table_at t table) (new_called settings a b next s new table)
      (run_tables s entries t run table);
}
  where
    start : Account
    start = extended_all (new_account a b larger) two_maps

    first : IsSound start s
    first = new_sound settings a b next s new

    now : IsSound (account_since a b entries) t
    now = run_sound start s entries t first run

    led : WorldLeads s (all_events entries) t
    led = run_leads s entries t run

    single : AreSingleNumbered (account_since a b entries).brought
    single = brought_single (account_since a b entries) t now

    exact : AreExact (account_since a b entries).brought
    exact = covers-same (account_since a b entries).brought single
