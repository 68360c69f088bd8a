use Rattle.std.proofs.Common.{◌≡◌, ◌≤◌, ◌<◌, ◌++◌, length, map, true, false, sym, subst, ◌∙◌, arith}
use Rattle.rs_settings.specs.declared.draft.Draft.{Draft}
use Rattle.rs_settings.specs.Shared.{has_name, repeats}
use Rattle.rs_settings.specs.Settings.{IsService}
use Rattle.rs_settings.specs.Draft.{service_of_draft, text_in_value}
use Rattle.rs_settings.proofs.SharedLemmas.{first_repeat-here, first_repeat-past, names-past}
use Rattle.rs_settings.proofs.TableLemmas.{each-at}
use Rattle.rs_settings.proofs.shared.first_repeat.Goals as goal
use Rattle.std.proofs.lemmas.List.{length-map}

pub repeats-requires : goal.repeats-requires
repeats-requires c =
    let d = c.index-drafts-i.result in
    let s : IsService (service_of_draft d) = each-at IsService service_of_draft c.args.drafts.now c.loop-i.i d c.requires.each
    (omega arith) c.index-drafts-i.is in
    let n : length (map text_in_value d.publishes.now) ≤ 64 = s.publishes.count in
    let m : length (map text_in_value d.publishes.now) ≡ length d.publishes.now = length-map d.publishes.now text_in_value in
    omega (arith, c.loop-i.invariant.count, c.requires.count)

pub returns-then-repeats : goal.returns-then-repeats
returns-then-repeats c =
    let d = c.index-drafts-i.result in
    let h : repeats c.loop-i.seen (service_of_draft d).publishes ≡ true = sym c.repeats.ensures.value ∙ c.if-repeats.true in
    sym (first_repeat-here c.loop-i.seen c.args.drafts.now c.loop-i.i d (omega arith) c.loop-i.invariant.value c.loop-i.invariant.same
    (subst (λ (z : Draft). repeats c.loop-i.seen (service_of_draft z).publishes ≡ true) c.index-drafts-i.is h))

pub loop-i-preserved : goal.loop-i-preserved
loop-i-preserved c =
    let d = c.index-drafts-i.result in
    let l : c.loop-i.i < length c.args.drafts.now = omega arith in
    let h : repeats c.loop-i.seen (service_of_draft d).publishes ≡ false = sym c.repeats.ensures.value ∙ c.if-repeats.false in
    let s : IsService (service_of_draft d) = each-at IsService service_of_draft c.args.drafts.now c.loop-i.i d c.requires.each l
    c.index-drafts-i.is in
    let n : length (map text_in_value d.publishes.now) ≤ 64 = s.publishes.count in
    let m : length (map text_in_value d.publishes.now) ≡ length d.publishes.now = length-map d.publishes.now text_in_value in
    record {
      value = first_repeat-past c.loop-i.seen c.args.drafts.now c.loop-i.i d l c.loop-i.invariant.value c.loop-i.invariant.same
          (subst (λ (z : Draft). repeats c.loop-i.seen (service_of_draft z).publishes ≡ false) c.index-drafts-i.is h);
      same = names-past c.loop-i.seen c.args.drafts.now c.loop-i.i d l c.loop-i.invariant.value c.loop-i.invariant.same c.repeats.new.seen
          (λ n. subst (λ (z : Draft). has_name c.repeats.new.seen n ≡ has_name (c.loop-i.seen ++ (service_of_draft z).publishes) n)
          c.index-drafts-i.is
          (c.repeats.ensures.after n c.if-repeats.false));
      count = omega (arith, c.loop-i.invariant.count, c.repeats.ensures.len);
    }
