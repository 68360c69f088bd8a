-- Workers that are hired.
use Rattle.std.proofs.Common.{All, ◌≡◌, ℕ, zero, suc, Option, Some, ◌+◌, ◌-◌, List, [], ◌∷◌, ◌++◌, length, map, ap, sym, ◌∙◌, arith}
use Rattle.std.proofs.Common.{add-one, append-nil, append_assoc}
use Rattle.std.proofs.lemmas.List.{map-append}
use Rattle.std.specs.Option.{option_map}
use Rattle.std.proofs.lemmas.List.Elements.{All-cons, All-nil, All-same}
use Rattle.atomic_table.specs.Seated.{TableId}
use Rattle.desk.specs.Opening.{AreNewPasses}
use Rattle.desk_rule.specs.declared.view.View.{View}
use Rattle.desk.specs.declared.pass.Sight.{Ghosts}
use Rattle.desk.specs.Pass.{calls}
use Rattle.ds_machine.specs.declared.command.Command.{Command}
use Rattle.ds_machine.specs.declared.reply.Reply.{Reply}
use Rattle.desk_store.specs.Record.{Boxed, boxed_content, pass_record}
use Rattle.ds_content.specs.Content.{ContentRecord}
use Rattle.ds_live.specs.Homes.{Home}
use Rattle.ds_live.specs.Workers.{IsAtHome, StorePass, plain_task}
use Rattle.ds_live.specs.declared.task.Task.{Task}
use Rattle.ds_live.specs.declared.task.Task.TheVariants.{Exchange, Follow, Publish}
use Rattle.ds_live.specs.Run.{IsReadyTask, downward}
use Rattle.ds_live.specs.Tasks.{IsHired}
use Rattle.ds_live.specs.declared.sizes.Sizes.{Sizes}

module _ {J : Type 0} (index : J → ℕ) where
  -- the first job, of the last worker
  pub one_numbered : (js ks : List J) (j : J) (n m : ℕ) → js ≡ [] → ks ≡ js ++ j ∷ [] → m ≡ n + 1 → index j ≡ n →
      map index ks ++ downward n ≡ downward m
  one_numbered js ks j n m none e more at =
      ap (λ (l : List J). map index l ++ downward n) (e ∙ ap (λ (l : List J). l ++ j ∷ []) none) ∙ ap (λ (k : ℕ). k ∷ downward n) at ∙
      ap downward (sym (more ∙ add-one n))

  -- one job more, of the worker below
  pub more_numbered : (js ks : List J) (j : J) (n m all : ℕ) → ks ≡ js ++ j ∷ [] → m ≡ n + 1 →
      map index js ++ downward m ≡ downward all → index j ≡ n
      → map index ks ++ downward n ≡ downward all
  more_numbered js ks j n m all e more before at =
      ap (λ (l : List J). map index l ++ downward n) e ∙ ap (λ (l : List ℕ). l ++ downward n) (map-append index js (j ∷ [])) ∙
      append_assoc (map index js) (index j ∷ []) (downward n)
      ∙ ap (λ (k : ℕ). map index js ++ (k ∷ downward n)) at ∙ ap (λ (k : ℕ). map index js ++ downward k) (sym (more ∙ add-one n)) ∙ before

  pub all_numbered : (js : List J) (n all : ℕ) → n ≡ 0 → length js + n ≡ all → map index js ++ downward n ≡ downward all →
      map index js ≡ downward (length js)
  all_numbered js n all none many e =
      sym (append-nil (map index js)) ∙ ap (λ (k : ℕ). map index js ++ downward k) (sym none) ∙ e ∙ ap downward (omega (arith, none, many))

module _ {Z : Type 0} {G : Ghosts (View (Boxed Z) Command Reply)} where
  pub task_ready : (sizes : Sizes) (index : ℕ) (pass : StorePass Z G) (task : Task (StorePass Z G)) → calls pass ≡ [] →
      IsHired sizes index task
      → IsReadyTask sizes index (pass_record pass) (plain_task task)
  task_ready sizes index pass Publish none is = (is, none)
  task_ready sizes index pass (Follow f) none is = (is, none)
  task_ready sizes index pass (Exchange r from) none is = absurd is

  -- a new desk's passes have called nothing
  pub new_called_nothing : (id : TableId) (opened : Option (Boxed Z)) (first n : ℕ) (ps : List (StorePass Z G)) →
      AreNewPasses id opened first n ps
      → All (λ (p : StorePass Z G). calls p ≡ []) ps
  new_called_nothing id opened first zero ps none =
      All-same (λ (p : StorePass Z G). calls p ≡ []) ps [] none (All-nil (λ (p : StorePass Z G). calls p ≡ []))
  new_called_nothing id opened first (suc n) [] none = absurd none
  new_called_nothing id opened first (suc n) (p ∷ ps) new =
      All-cons (λ (p : StorePass Z G). calls p ≡ []) p ps new.0.no_calls (new_called_nothing id opened first n ps new.1)

  -- and are at home there
  pub new_at_home : (home : Home) (id : TableId) (opened : Boxed Z) (n : ℕ) (ps : List (StorePass Z G)) → home.desk ≡ id →
      home.content ≡ opened.value → AreNewPasses id (Some opened) 0 n ps
      → All (λ (p : StorePass Z G). IsAtHome home p) ps
  new_at_home home id opened zero ps desk content none =
      All-same (λ (p : StorePass Z G). IsAtHome home p) ps [] none (All-nil (λ (p : StorePass Z G). IsAtHome home p))
  new_at_home home id opened (suc n) [] desk content none = absurd none
  new_at_home home id opened (suc n) (p ∷ ps) desk content new = All-cons (λ (p : StorePass Z G). IsAtHome home p) p ps
      (record {
        desk_is = new.0.desk ∙ sym desk;
        content_is = ap (λ (o : Option (Boxed Z)). option_map boxed_content o) new.0.opened_with ∙
            ap (λ (c : ContentRecord). Some c) (sym content);
        first_is = new.0.first_is;
        none_made = new.0.no_notes.0;
        none_learnt = new.0.no_notes.1;
      })
      (new_at_home home id opened n ps desk content new.1)
