use Rattle.std.proofs.Common.{◌≡◌, ◌<◌, ◌+◌, ◌++◌, ◌∷◌, [], ℕ, List, Bool, Some, length, ap, sym, ◌∙◌, arith, length-append}
use Rattle.std.specs.Prelude.{slice_get}
use Rattle.std.specs.Option.{option_map}
use Rattle.std.proofs.lemmas.Option.{slice_get_within}
use Rattle.ds_entry.specs.declared.item.Item.{Item}
use Rattle.ds_held.specs.Held.{held_items}
use Rattle.ds_pattern.specs.declared.query.Query.{Query}
use Rattle.ds_content.proofs.FlagLemmas.{flags_more, flags_all}
use Rattle.ds_content.proofs.IndexLemmas.{flag_there, none_mapped}
use Rattle.ds_content.proofs.content.marking.flags_under.Goals as goal
use Rattle.ds_content.proofs.content.marking.flags_under.Goals.{In_ok-push}
use Rattle.ds_pattern.specs.Under.{is_under}
use Rattle.ds_entry.specs.Item.{passes}

-- the item at the end of the flags
there : (c : In_ok-push) → (i : Item) × (slice_get (held_items c.args.held.now) (length c.loop-is_under.flags.items) ≡ Some i) ×
    (c.in-Some.is_under ≡ passes (is_under c.args.filter.now) i)
there c =
    flag_there c.args.filter.now (slice_get (held_items c.args.held.now) (length c.loop-is_under.flags.items)) c.in-Some.is_under
    (c.in-Some.ensures.told ∙ ap (λ (q : Query).
    option_map (passes (is_under q)) (slice_get (held_items c.args.held.now) c.len-in-loop-is_under.result)) c.loop-is_under.invariant.asker
    ∙ ap (λ (n : ℕ). option_map (passes (is_under c.args.filter.now)) (slice_get (held_items c.args.held.now) n))
    (c.len-in-loop-is_under.ensures ∙ c.loop-is_under.flags.ok.0))

pushed : (c : In_ok-push) → c.push.new.self.items ≡ c.loop-is_under.flags.items ++ passes (is_under c.args.filter.now) (there c).0 ∷ []
pushed c = c.in_ok-push.ensures.items ∙ ap (λ b. c.loop-is_under.flags.items ++ b ∷ []) (there c).2

longer : (c : In_ok-push) → length c.push.new.self.items ≡ length c.loop-is_under.flags.items + 1
longer c = ap (λ (l : List Bool). length l) (pushed c) ∙
    length-append c.loop-is_under.flags.items (passes (is_under c.args.filter.now) (there c).0 ∷ [])

within : (c : In_ok-push) → length c.loop-is_under.flags.items < length (held_items c.args.held.now)
within c = slice_get_within (held_items c.args.held.now) (length c.loop-is_under.flags.items) (there c).0 (there c).1

pub loop-is_under-smaller : goal.loop-is_under-smaller
loop-is_under-smaller c =
    let d = (goal.at.loop-is_under-smaller c).In_ok-push in
    omega (arith, longer d, within d)

pub loop-is_under-preserved : goal.loop-is_under-preserved
loop-is_under-preserved c =
    let d = (goal.at.loop-is_under-preserved c).In_ok-push in
    record {
      flags = flags_more (passes (is_under c.args.filter.now)) (held_items c.args.held.now) c.loop-is_under.flags.items
          c.push.new.self.items (there d).0 c.loop-is_under.invariant.flags (there d).1 (pushed d);
      within = omega (arith, longer d, within d);
      asker = c.is_under_at.ensures.same ∙ c.loop-is_under.invariant.asker;
    }

pub returns : goal.returns
returns c =
    flags_all (passes (is_under c.args.filter.now)) (held_items c.args.held.now) c.loop-is_under.flags.items c.loop-is_under.invariant.flags
    (none_mapped (passes (is_under c.loop-is_under.asker)) (slice_get (held_items c.args.held.now) (length c.loop-is_under.flags.items))
    (ap (λ (n : ℕ). option_map (passes (is_under c.loop-is_under.asker)) (slice_get (held_items c.args.held.now) n))
    (sym (c.len-in-loop-is_under.ensures ∙ c.loop-is_under.flags.ok.0)) ∙ sym c.in_default.ensures.told))
