-- What closing a desk leaves, by plain values.
use Rattle.std.proofs.Common.{All, ◌≡◌, ℕ, ◌+◌, List, [], ◌∷◌, Some, map, refl, ap, sym, subst, ◌∙◌}
use Rattle.std.proofs.lemmas.List.Elements.{All-head, All-tail}
use Rattle.std.specs.List.{AllByRecursion}
use mathlib.Core.List.{IsPrefix}
use Rattle.history.specs.History.{calls_by, Run}
use Rattle.desk_rule.specs.History.{total_of}
use Rattle.desk_rule.specs.declared.view.View.{View}
use Rattle.desk.specs.declared.close.Closed.{Closed}
use Rattle.desk.specs.declared.pass.Sight.{Ghosts}
use Rattle.desk.specs.Closing.{LeavesHistory}
use Rattle.ds_content.specs.Content.{ContentRecord}
use Rattle.ds_content.specs.Stands.{ContentStands}
use Rattle.ds_held.specs.Limits.{larger}
use Rattle.ds_machine.specs.Owed.{owed_by}
use Rattle.ds_machine.specs.State.{opening}
use Rattle.ds_machine.specs.declared.command.Command.{Command}
use Rattle.ds_machine.specs.declared.reply.Reply.{Reply}
use Rattle.desk_store.specs.Record.{Boxed, PassRecord, is_content, pass_record}
use Rattle.ds_store.specs.Turns.{Turn}
use Rattle.ds_live.specs.Homes.{Home}
use Rattle.ds_live.specs.Workers.{IsAtHome, StorePass}
use Rattle.ds_live.specs.Run.{ClosesAfter}

module _ {A B : Type 0} (f : A → B) where
  all_mapped : (P : B → Type 0) (xs : List A) → AllByRecursion (λ (a : A). P (f a)) xs → AllByRecursion P (map f xs)
  all_mapped P [] all = tt
  all_mapped P (x ∷ xs) all = (all.0, all_mapped P xs all.1)

  total_mapped : (h : B → ℕ) (xs : List A) → total_of (λ (a : A). h (f a)) xs ≡ total_of h (map f xs)
  total_mapped h [] = refl
  total_mapped h (x ∷ xs) = ap (λ (n : ℕ). h (f x) + n) (total_mapped h xs)

module _ {Z : Type 0} {G : Ghosts (View (Boxed Z) Command Reply)} where
  opened_alike : (home : Home) (passes : List (StorePass Z G)) (content : ContentRecord) → home.content ≡ content →
      All (λ (p : StorePass Z G). IsAtHome home p) passes
      → AllByRecursion (λ (p : StorePass Z G). (pass_record p).opened ≡ Some content) passes
  opened_alike home [] content same from = tt
  opened_alike home (p ∷ ps) content same from = (
    (All-head (λ (p : StorePass Z G). IsAtHome home p) p ps from).content_is ∙ ap (λ (c : ContentRecord). Some c) same,
    opened_alike home ps content same (All-tail (λ (p : StorePass Z G). IsAtHome home p) p ps from),
  )

  first_alike : (home : Home) (passes : List (StorePass Z G)) → All (λ (p : StorePass Z G). IsAtHome home p) passes
      → AllByRecursion (λ (p : StorePass Z G). (pass_record p).origin.first ≡ 0) passes
  first_alike home [] from = tt
  first_alike home (p ∷ ps) from = (
    (All-head (λ (p : StorePass Z G). IsAtHome home p) p ps from).first_is,
    first_alike home ps (All-tail (λ (p : StorePass Z G). IsAtHome home p) p ps from),
  )

  pub closes_after : (incarnation : ℕ) (home : Home) (opened : Boxed Z) (first : ℕ) (passes : List (StorePass Z G))
      (closed : Closed (Boxed Z)) (plain : List PassRecord) → home.content ≡ opened.value
      → ContentStands opened.value (opening incarnation 0 256 larger) → All (λ (p : StorePass Z G). IsAtHome home p) passes →
      LeavesHistory is_content Turn owed_by opened first passes closed → map pass_record passes ≡ plain
      → ClosesAfter incarnation plain closed.machine.value
  closes_after incarnation home opened first passes closed plain content new from leaves same =
      let history = leaves.0 in let is = leaves.2 in
      let run = is.leads opened.value refl in
      subst (λ (l : List PassRecord). ClosesAfter incarnation l closed.machine.value) same (record {
        opened = opened.value;
        new = new;
        same_opening = all_mapped pass_record (λ (p : PassRecord). p.opened ≡ Some opened.value) passes
            (opened_alike home passes opened.value content from);
        same_first = all_mapped pass_record (λ (p : PassRecord). p.origin.first ≡ 0) passes (first_alike home passes from);
        history = history;
        run = subst (λ (c : ContentRecord). Run Turn opened.value history c) (sym run.2) run.1;
        begins = all_mapped pass_record (λ (p : PassRecord). IsPrefix p.history history) passes is.begins;
        own = all_mapped pass_record (λ (p : PassRecord). calls_by p.origin.number history ≡ p.calls) passes is.own;
        no_others = λ weigh. is.no_others weigh ∙ total_mapped pass_record (λ (p : PassRecord). total_of weigh p.calls) passes;
      })
