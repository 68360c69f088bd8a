-- Services of format 1 have nothing of format 2.
use Rattle.std.proofs.Common.{◌≡◌, ℕ, Bool, true, false, not, cond, List, [], ◌∷◌, ◌++◌, length, Option, Some, None, option_map, Ok, Err}
use Rattle.std.proofs.Common.{Ordering, Less, Equal, Greater, nat_cmp, refl, sym, ap, subst, ◌∙◌, codes, arith}
use Rattle.std.specs.Prelude.{Result, ok_or}
use Rattle.std.specs.Option.{option_and_then}
use Rattle.std.specs.List.{All}
use Rattle.std.specs.Ordering.{match_ordering}
use Rattle.std.specs.Cmp.Lexicographic.{slice_cmp}
use Rattle.std.proofs.lemmas.Bool.{and_parts, false≢true}
use Rattle.std.proofs.lemmas.Map.Lookups.{exact_bytes}
use Rattle.toml.specs.Data.{Data, Items, no_items, item, Members, no_members, member, get_member, as_table}
use Rattle.rs_settings.specs.declared.class.Class.{Class}
use Rattle.rs_settings.specs.declared.fault.SettingsCause.{SettingsCause}
use Rattle.rs_settings.specs.declared.fault.SettingsCause.TheVariants.{UnknownField, Missing, OutOfRange}
use Rattle.rs_settings.specs.declared.fault.SettingsFault.{SettingsFault}
use Rattle.rs_settings.specs.declared.format.Format.TheVariants.{First}
use Rattle.rs_settings.specs.declared.service.Service.{Service}
use Rattle.rs_settings.specs.Fault.{at_top}
use Rattle.rs_settings.specs.Shared.{shared_fault}
use Rattle.rs_settings.specs.Values.{keys_pass, number_or, label_in_data, names_or, names_if, class_in, unit_in}
use Rattle.rs_settings.specs.Service.{is_service_field, lacks_field, service_of, service_in, service_from, indexed, go_on, services_in}
use Rattle.rs_settings.specs.Settings.{SettingsRecord, settings, is_top_field, with_top, with_services, unless_shared, tables_or}
use Rattle.rs_settings.specs.Formats.{HasFirstFieldsAlone, FirstIsPlain}
use Rattle.rs_settings.proofs.TableLemmas.{each-last}

-- a table whose keys pass a test has no field that fails it
absent : (test : List ℕ → Bool) (sought : List ℕ) (fields : Members) → test sought ≡ false → keys_pass test fields ≡ true →
    get_member sought fields ≡ None
absent test sought no_members other pass = refl
absent test sought (member key value rest) other pass =
    let both = and_parts (test key) (keys_pass test rest) pass in
    by_order (slice_cmp nat_cmp sought key) refl both.0 (absent test sought rest other both.1)
  where
    by_order : (r : Ordering) → slice_cmp nat_cmp sought key ≡ r → test key ≡ true → get_member sought rest ≡ None →
        match_ordering r (get_member sought rest) (Some value) (get_member sought rest) ≡ None
    by_order Less e here past = past
    by_order Equal e here past = absurd (false≢true (sym other ∙ ap test (exact_bytes sought key e) ∙ here))
    by_order Greater e here past = past

-- ---- a service

plain_of : (label : Option (List ℕ)) (class : Option Class) (unit : Option (Option ℕ)) (period limit : Option ℕ)
    (publishes : Option (List (List ℕ))) (s : Service) →
    service_of label class unit period limit publishes (Some None) (Some None) (Some 0) (Some 0) ≡ Some s → HasFirstFieldsAlone s
plain_of None class unit period limit publishes s h = absurd (cc)
plain_of (Some l) None unit period limit publishes s h = absurd (cc)
plain_of (Some l) (Some c) None period limit publishes s h = absurd (cc)
plain_of (Some l) (Some c) (Some u) None limit publishes s h = absurd (cc)
plain_of (Some l) (Some c) (Some u) (Some p) None publishes s h = absurd (cc)
plain_of (Some l) (Some c) (Some u) (Some p) (Some m) None s h = absurd (cc)
plain_of (Some l) (Some c) (Some u) (Some p) (Some m) (Some n) s h = record {
  complains = (let e : Some s.complains ≡ Some None = sym (ap (option_map (λ (z : Service). z.complains)) h) in cc);
  connects = (let e : Some s.connects ≡ Some None = sym (ap (option_map (λ (z : Service). z.connects)) h) in cc);
  forget = (let e : Some s.forget ≡ Some 0 = sym (ap (option_map (λ (z : Service). z.forget)) h) in cc);
  startup = (let e : Some s.startup ≡ Some 0 = sym (ap (option_map (λ (z : Service). z.startup)) h) in cc);
}

module _ (fields : Members) (s : Service) where
  abbrev class : Option Class
  class = option_and_then class_in (get_member (codes "class") fields)

  -- the service with the fields of format 2 as they are looked up
  abbrev looked_up : (complains connects forget startup : Option Data) → Option Service
  looked_up complains connects forget startup =
      service_of (option_and_then label_in_data (get_member (codes "label") fields)) class
      (option_and_then (λ c. unit_in c (get_member (codes "unit") fields)) class)
      (number_or 0 0 1000000 (get_member (codes "period") fields)) (number_or 0 0 1000 (get_member (codes "limit") fields))
      (names_or (get_member (codes "publishes") fields))
      (names_if complains) (names_if connects) (number_or 0 0 1000000000 forget) (number_or 0 0 1000000 startup)

  by_values : (o : Option Service) → ok_or o OutOfRange ≡ Ok s → o ≡ Some s
  by_values None h = absurd (cc)
  by_values (Some z) h = cc

  by_lack : (b : Bool) (o : Option Service) → cond b (Err Missing) (ok_or o OutOfRange) ≡ Ok s → o ≡ Some s
  by_lack true o h = absurd (cc)
  by_lack false o h = by_values o h

  by_keys : (b : Bool) (r : Result Service SettingsCause) → cond (not b) (Err UnknownField) r ≡ Ok s → (b ≡ true) × (r ≡ Ok s)
  by_keys true r h = (refl, h)
  by_keys false r h = absurd (cc)

  plain_service : service_in First fields ≡ Ok s → HasFirstFieldsAlone s
  plain_service h =
      let (pass, rest) = by_keys (keys_pass (is_service_field First) fields) _ h in
      let none : (sought : List ℕ) → is_service_field First sought ≡ false → get_member sought fields ≡ None =
      λ sought other. absent (is_service_field First) sought fields other pass in
      let e : looked_up (get_member (codes "complains") fields) (get_member (codes "connects") fields) (get_member (codes "forget") fields)
      (get_member (codes "startup") fields) ≡ Some s = by_lack (lacks_field fields) _ rest in
      plain_of _ _ _ _ _ _ s
      (sym (ap (λ o. looked_up o (get_member (codes "connects") fields) (get_member (codes "forget") fields)
      (get_member (codes "startup") fields)) (none (codes "complains") refl)
      ∙ ap (λ o. looked_up None o (get_member (codes "forget") fields) (get_member (codes "startup") fields)) (none (codes "connects") refl)
      ∙ ap (λ o. looked_up None None o (get_member (codes "startup") fields)) (none (codes "forget") refl)
      ∙ ap (λ o. looked_up None None None o) (none (codes "startup") refl)) ∙ e)

plain_from : (index : ℕ) (o : Option Members) (s : Service) → service_from First index o ≡ Ok s → HasFirstFieldsAlone s
plain_from index None s h = absurd (cc)
plain_from index (Some fields) s h = plain_service fields s (unindexed (service_in First fields) h)
  where
    unindexed : (r : Result Service SettingsCause) → indexed index r ≡ Ok s → r ≡ Ok s
    unindexed (Ok z) h = cc
    unindexed (Err cause) h = absurd (cc)

-- ---- all services

plain_services : (before after : List Service) (items : Items) → All HasFirstFieldsAlone before →
    services_in First before items ≡ Ok after → All HasFirstFieldsAlone after
plain_services before after no_items all h = subst (λ l. All HasFirstFieldsAlone l) (let e : before ≡ after = cc in e) all
plain_services before after (item value rest) all h =
    by_first (service_from First (length before) (as_table value)) refl h (λ s more l. plain_services (before ++ s ∷ []) after rest more l)
  where
    by_first : (r : Result Service SettingsFault) → service_from First (length before) (as_table value) ≡ r →
        go_on (λ s. services_in First (before ++ s ∷ []) rest) r ≡ Ok after →
        ((s : Service) → All HasFirstFieldsAlone (before ++ s ∷ []) → services_in First (before ++ s ∷ []) rest ≡ Ok after →
        All HasFirstFieldsAlone after) →
        All HasFirstFieldsAlone after
    by_first (Ok s) e g others =
        others s (each-last HasFirstFieldsAlone before (before ++ s ∷ []) s refl all (plain_from (length before) (as_table value) s e)) g
    by_first (Err f) e g others = absurd (cc)

plain_top : (slots : Option ℕ) (tables : Option Items) (s : SettingsRecord) → with_top First slots tables ≡ Ok s →
    All HasFirstFieldsAlone s.services
plain_top None tables s h = absurd (cc)
plain_top (Some n) None s h = absurd (cc)
plain_top (Some n) (Some items) s h = by_services (services_in First [] items) refl h
  where
    by_shared : (services : List Service) (o : Option SettingsFault) → All HasFirstFieldsAlone services →
        unless_shared n services o ≡ Ok s → All HasFirstFieldsAlone s.services
    by_shared services None all g =
        let e : settings n services ≡ s = cc in
        subst (λ (z : SettingsRecord). All HasFirstFieldsAlone z.services) e all
    by_shared services (Some f) all g = absurd (cc)

    by_services : (r : Result (List Service) SettingsFault) → services_in First [] items ≡ r → with_services n r ≡ Ok s →
        All HasFirstFieldsAlone s.services
    by_services (Ok services) e g = by_shared services (shared_fault services)
        (plain_services [] services items (λ k d l. absurd (omega arith)) e) g
    by_services (Err f) e g = absurd (cc)

pub first_is_plain : FirstIsPlain
first_is_plain doc s h = plain_top (number_or 64 1 1008 (get_member (codes "slots") doc)) (tables_or (get_member (codes "service") doc)) s
    (by_keys (keys_pass is_top_field doc) _ h)
  where
    by_keys : (b : Bool) (r : Result SettingsRecord SettingsFault) → cond (not b) (Err (at_top UnknownField)) r ≡ Ok s → r ≡ Ok s
    by_keys true r g = g
    by_keys false r g = absurd (cc)
