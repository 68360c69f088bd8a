-- A document without a field `format` is read alike as of format 1 and as of any format.
use Rattle.std.proofs.Common.{◌≡◌, ℕ, ◌&&◌, ◌||◌, Bool, false, not, cond, List, Option, Some, None, Err, Ordering, Less, Equal, Greater}
use Rattle.std.proofs.Common.{nat_cmp, is_eq, refl, ap, ◌∙◌, codes}
use Rattle.std.specs.Ordering.{ordering_reverse, match_ordering}
use Rattle.std.specs.Cmp.Lexicographic.{slice_cmp}
use Rattle.std.proofs.lemmas.Cmp.{nat_list_cmp_total}
use Rattle.toml.specs.Data.{Data, Members, no_members, member, get_member}
use Rattle.rs_settings.specs.declared.fault.SettingsCause.TheVariants.{UnknownField}
use Rattle.rs_settings.specs.Fault.{at_top}
use Rattle.rs_settings.specs.Values.{is_same, keys_pass}
use Rattle.rs_settings.specs.Settings.{is_top_field, is_any_top_field, format_in, settings_by_any}
use Rattle.rs_settings.specs.Formats.{FormatsAgree}
use Rattle.rs_settings.proofs.AscendingLemmas.{is_same-cmp}

-- a key that a look-up passes over is another one
passed_over : (key sought : List ℕ) (value : Data) (rest : Option Data) (r : Ordering) → slice_cmp nat_cmp sought key ≡ r →
    match_ordering r rest (Some value) rest ≡ None → (is_same key sought ≡ false) × (rest ≡ None)
passed_over key sought value rest Less e h =
    (is_same-cmp key sought ∙ ap is_eq (nat_list_cmp_total.antisymm key sought ∙ ap ordering_reverse e), h)
passed_over key sought value rest Equal e h = absurd (let none : Some value ≡ None = h in cc)
passed_over key sought value rest Greater e h =
    (is_same-cmp key sought ∙ ap is_eq (nat_list_cmp_total.antisymm key sought ∙ ap ordering_reverse e), h)

keys_agree : (doc : Members) → get_member (codes "format") doc ≡ None → keys_pass is_any_top_field doc ≡ keys_pass is_top_field doc
keys_agree no_members h = refl
keys_agree (member key value rest) h =
    let other = passed_over key (codes "format") value (get_member (codes "format") rest) (slice_cmp nat_cmp (codes "format") key) refl h in
    ap (λ b. (b || is_top_field key) && keys_pass is_any_top_field rest) other.0 ∙ ap (λ b. is_top_field key && b) (keys_agree rest other.1)

pub formats_agree : FormatsAgree
formats_agree doc h =
    ap (λ (b : Bool). cond (not b) (Err (at_top UnknownField)) (settings_by_any (format_in (get_member (codes "format") doc)) doc))
    (keys_agree doc h)
    ∙ ap (λ (o : Option Data). cond (not (keys_pass is_top_field doc)) (Err (at_top UnknownField)) (settings_by_any (format_in o) doc)) h
