-- Lists of jobs and of passes, and what a worker's task has.
use Rattle.std.proofs.Common.{All, ◌≡◌, Some, ℕ, ◌+◌, List, [], ◌∷◌, ◌++◌, length, sum_by, refl, ap, ◌∙◌, arith, length-append}
use Rattle.std.proofs.lemmas.List.Elements.{All-nil, All-pop, All-push, All-same}
use Rattle.std.proofs.lemmas.List.Sums.{sum_by_push}
use Rattle.desk_rule.specs.declared.view.View.{View}
use Rattle.desk.specs.declared.pass.Sight.{Ghosts}
use Rattle.ds_machine.specs.declared.command.Command.{Command}
use Rattle.ds_machine.specs.declared.reply.Reply.{Reply}
use Rattle.desk_store.specs.Record.{Boxed}
use Rattle.ds_live.specs.declared.task.Task.{Task}
use Rattle.ds_live.specs.declared.task.Task.TheVariants.{Exchange, Follow, Publish}
use Rattle.ds_live.specs.Homes.{Home}
use Rattle.ds_live.specs.Workers.{IsTask, StorePass}
use Rattle.ds_live.specs.Tasks.{IsOther}

-- a fact of every element of a list, where one is taken from its end, and where one is put there
module _ {A : Type 0} (P : A → Type 0) where
  pub popped : (l m : List A) (x : A) → m ≡ l ++ x ∷ [] → All P m → All P l × P x
  popped l m x e all = All-pop P m l (Some x) e all

  pub pushed : (l m : List A) (x : A) → m ≡ l ++ x ∷ [] → All P l → P x → All P m
  pushed l m x e all one = All-same P m (l ++ x ∷ []) e (All-push P l x all one)

  -- the first one
  pub first_pushed : (l m : List A) (x : A) → l ≡ [] → m ≡ l ++ x ∷ [] → P x → All P m
  first_pushed l m x none e one = pushed l m x e (All-same P l [] none (All-nil P)) one

pub length-last : {A : Type 0} (l m : List A) (x : A) → m ≡ l ++ x ∷ [] → length m ≡ length l + 1
length-last l m x e = ap length e ∙ length-append l (x ∷ [])

pub longer_sum : {A : Type 0} (f : A → ℕ) (l m : List A) (x : A) → m ≡ l ++ x ∷ [] → sum_by f m ≡ sum_by f l + f x
longer_sum f l m x e = ap (sum_by f) e ∙ sum_by_push f l x

pub no_length : {A : Type 0} (l : List A) → length l ≡ 0 → l ≡ []
no_length [] e = refl
no_length (x ∷ l) e = absurd (omega (arith, e))

module _ {Z : Type 0} {G : Ghosts (View (Boxed Z) Command Reply)} where
  pub other_of : (second : Home) (index : ℕ) (pass : StorePass Z G) (task : Task (StorePass Z G)) → IsTask second index pass task →
      IsOther second task
  other_of second index pass Publish is = tt
  other_of second index pass (Follow follower) is = tt
  other_of second index pass (Exchange other cursor) is = is
