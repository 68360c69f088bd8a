-- Runs: their workers, and the stores that they left.
use Rattle.std.proofs.Common.{All, ◌≡◌, ℕ, zero, suc, ◌+◌, ◌&&◌, Bool, true, false, List, [], ◌∷◌, ◌++◌, length, map, Option, None, Some}
use Rattle.std.proofs.Common.{Result, Ok, Err, IfOk, IfNone, IfSome}
use Rattle.std.proofs.Common.{refl, ap, sym, subst, ◌∙◌, arith, append-nil, length-append}
use Rattle.std.specs.List.{flat_map, list_all}
use Rattle.std.proofs.lemmas.List.{map-append}
use Rattle.std.proofs.lemmas.List.Concat.{flat_map-append}
use Rattle.std.proofs.lemmas.List.Elements.{All-cons, All-head, All-map, All-nil, All-push, All-same, All-tail}
use Rattle.ds_live.specs.Back.{AreBack}
use Rattle.desk_rule.specs.declared.view.View.{View}
use Rattle.desk_rule.proofs.ListLemmas.{all_append}
use Rattle.desk.specs.declared.pass.Sight.{Ghosts}
use Rattle.history.specs.declared.entry.Entry.{Entry}
use Rattle.ds_feed.specs.declared.cursor.Cursor.{Cursor}
use Rattle.ds_machine.specs.declared.command.Command.{Command}
use Rattle.ds_machine.specs.declared.reply.Reply.{Reply}
use Rattle.ds_pattern.specs.declared.query.Query.{Query}
use Rattle.desk_store.specs.Called.{Made}
use Rattle.desk_store.specs.Record.{Boxed, PassRecord, pass_record}
use Rattle.desk_store.specs.Follower.{FollowerRecord}
use Rattle.desk_store.specs.FollowerCalls.{IsOfFollower}
use Rattle.desk_store.specs.Refresh.{AreOfFollower}
use Rattle.ds_live.specs.Commands.{each_below, every_key, publisher_label, publisher_number}
use Rattle.ds_live.specs.Turns.{AreAccepted, HasExchangedOften}
use Rattle.ds_live.specs.declared.worker_fault.WorkerFault.{WorkerFault}
use Rattle.ds_content.specs.Content.{ContentRecord}
use Rattle.ds_live.specs.Workers.{ComesBack, FinishesTask, HasEnded, IsTaskDone, LetsThrough, TookAll, StorePass, TookTask, TookTurns}
use Rattle.ds_live.specs.Workers.{plain, plain_task}
use Rattle.ds_live.specs.declared.task.Task.{Task}
use Rattle.ds_live.specs.declared.task.Task.TheVariants.{Exchange, Follow, Publish}
use Rattle.ds_live.specs.declared.worker.Worker.{Worker}
use Rattle.ds_live.proofs.TurnLemmas.{exchanged_on, handed_often, theirs_brought}
use Rattle.ds_live.specs.Dismissed.{AreDismissed, HandBack, HasFinished}
use Rattle.ds_live.specs.Faults.{has_ended}
use Rattle.ds_live.specs.Run.{ClosesAfter, RunLeaves, HasTaken, HasTakenTask, HasWorked, IsReady, IsReadyTask, downward, upward}
use Rattle.ds_live.specs.Run.{worker_count}
use Rattle.ds_live.specs.Tasks.{followers_in, passes_in}
use Rattle.ds_live.specs.declared.sizes.Sizes.{Sizes}

both_true : (a b : Bool) → (a && b) ≡ true → (a ≡ true) × (b ≡ true)
both_true true b e = (refl, e)
both_true false b e = absurd (let no : false ≡ true = e in cc)

-- ---- jobs that came back
module _ {J : Type 0} where
  -- one fact of each pair for another, also of the jobs that weren't started
  pub back_all : (R S : J → J → Type 0) → ((v w : J) → R v w → S v w) → ((v : J) → S v v) → (n : ℕ) (vs ws : List J) → AreBack R n vs ws →
      AreBack S 0 vs ws
  back_all R S then same n [] ws none = none
  back_all R S then same n (v ∷ vs) [] none = absurd none
  back_all R S then same zero (v ∷ vs) (w ∷ ws) all = (then v w all.0, back_all R S then same zero vs ws all.1)
  back_all R S then same (suc n) (v ∷ vs) (w ∷ ws) all =
      (subst (λ (k : J). S v k) (sym all.0) (same v), back_all R S then same n vs ws all.1)

  -- where all ended
  pub all_ended : (R S : J → J → Type 0) (ended : J → Bool) → ((v w : J) → R v w → ended w ≡ true → S v w) → (vs ws : List J) →
      AreBack R 0 vs ws → list_all ended ws ≡ true → AreBack S 0 vs ws
  all_ended R S ended then [] ws none all = none
  all_ended R S ended then (v ∷ vs) [] none all = absurd none
  all_ended R S ended then (v ∷ vs) (w ∷ ws) came all = let both = both_true (ended w) (list_all ended ws) all in
      (then v w came.0 both.0, all_ended R S ended then vs ws came.1 both.1)

  -- what each pair has, of two facts of the first and two of both
  pub each_of_four : (A B : J → Type 0) (R S : J → J → Type 0) (Q : J → Type 0) → ((v w : J) → A v → B v → R v w → S v w → Q w)
      → (vs ws : List J) → All A vs → All B vs → AreBack R 0 vs ws → AreBack S 0 vs ws → All Q ws
  each_of_four A B R S Q then [] ws a b none s = All-same Q ws [] none (All-nil Q)
  each_of_four A B R S Q then (v ∷ vs) [] a b none s = absurd none
  each_of_four A B R S Q then (v ∷ vs) (w ∷ ws) a b r s =
      All-cons Q w ws (then v w (All-head A v vs a) (All-head B v vs b) r.0 s.0)
      (each_of_four A B R S Q then vs ws (All-tail A v vs a) (All-tail B v vs b) r.1 s.1)

  -- a value that each keeps
  pub same_map : {N : Type 0} (f : J → N) (R : J → J → Type 0) → ((v w : J) → R v w → f w ≡ f v) → (vs ws : List J) → AreBack R 0 vs ws →
      map f ws ≡ map f vs
  same_map f R same [] ws none = ap (map f) none
  same_map f R same (v ∷ vs) [] none = absurd none
  same_map f R same (v ∷ vs) (w ∷ ws) all = let one = same v w all.0 in let rest = same_map f R same vs ws all.1 in cc

-- where all ended, none has a fault
ended_idle : (f : Option WorkerFault) → has_ended f ≡ true → f ≡ None
ended_idle None e = refl
ended_idle (Some fault) e = absurd (let no : false ≡ true = e in cc)

module _ {J : Type 0} (fault_of : J → Option WorkerFault) where
  pub all_idle : (ws : List J) → list_all (λ (j : J). has_ended (fault_of j)) ws ≡ true → All (λ (j : J). fault_of j ≡ None) ws
  all_idle [] all = All-nil (λ (j : J). fault_of j ≡ None)
  all_idle (w ∷ ws) all = let both = both_true (has_ended (fault_of w)) (list_all (λ (j : J). has_ended (fault_of j)) ws) all in
      All-cons (λ (j : J). fault_of j ≡ None) w ws (ended_idle (fault_of w) both.0) (all_idle ws both.1)

-- a worker without a fault took all of its turns
pub took_all : (answers : ℕ → ℕ → Bool → Type 0) (v w : Worker PassRecord) (fault : Option WorkerFault) → HasEnded answers v w fault →
    has_ended fault ≡ true → TookAll answers v w
took_all answers v w None ended is = ended
took_all answers v w (Some fault) ended is = absurd (let no : false ≡ true = is in cc)

-- ---- where there is no fault
pub none_then : {F : Type 0} (fault : Option F) (P Q : Type 0) → (P → Q) → IfNone fault P → IfNone fault Q
none_then None P Q then p = then p
none_then (Some fault) P Q then p = tt

pub if_none : {F : Type 0} (fault : Option F) (P : Type 0) → P → IfNone fault P
if_none None P p = p
if_none (Some fault) P p = tt

-- where each fault was kept
pub kept_still : {F : Type 0} (f : Option F) → IfSome f (λ was. f ≡ Some was)
kept_still None = tt
kept_still (Some fault) = refl

pub kept_on : {F : Type 0} (e f g h : Option F) → IfSome e (λ was. f ≡ Some was) → IfSome f (λ was. g ≡ Some was) →
    IfSome g (λ was. h ≡ Some was) → IfSome e (λ was. h ≡ Some was)
kept_on None f g h a b c = tt
kept_on (Some x) None g h a b c = absurd (cc)
kept_on (Some x) (Some y) None h a b c = absurd (cc)
kept_on (Some x) (Some y) (Some z) h a b c = c ∙ (b ∙ a)

pub none_of_three : {F : Type 0} (f g h : Option F) (A B C D : Type 0) → IfSome f (λ was. g ≡ Some was) → IfSome g (λ was. h ≡ Some was) →
    IfNone f A → IfNone g B → IfNone h C → (A → B → C → D)
    → IfNone h D
none_of_three None None None A B C D f g a b c then = then a b c
none_of_three (Some x) None None A B C D f g a b c then = absurd (cc)
none_of_three f (Some x) None A B C D kept g a b c then = absurd (cc)
none_of_three f g (Some x) A B C D kept more a b c then = tt

-- a fact of the result
pub without_fault : {R E : Type 0} (fault : Option E) (result : Result R E) (P : R → Type 0) (Q : Type 0) →
    IfSome fault (λ was. result ≡ Err was) → IfNone fault Q
    → (Q → IfOk result P) → IfOk result P
without_fault None result P Q some none then = then none
without_fault (Some was) result P Q some none then = subst (λ r. IfOk r P) (sym some) tt

pub none_of_two : {F : Type 0} (f g : Option F) (A B : Type 0) → IfSome f (λ was. g ≡ Some was) → IfNone f A → IfNone g B → IfNone g (A × B)
none_of_two None None A B kept a b = (a, b)
none_of_two (Some x) None A B kept a b = absurd (cc)
none_of_two f (Some x) A B kept a b = tt

pub ok_of_two : {R E : Type 0} (result : Result R E) (A B C : R → Type 0) → ((r : R) → A r → B r → C r) → IfOk result A → IfOk result B →
    IfOk result C
ok_of_two (Ok r) A B C then a b = then r a b
ok_of_two (Err e) A B C then a b = tt

pub map_twice : {A B C : Type 0} (f : A → B) (h : B → C) (xs : List A) → map h (map f xs) ≡ map (λ (a : A). h (f a)) xs
map_twice f h [] = refl
map_twice f h (x ∷ xs) = ap (λ l. h (f x) ∷ l) (map_twice f h xs)

-- ---- what a worker did
own_calls : (p q : PassRecord) (own : List (Entry Command Reply)) → Made p q own → p.calls ≡ [] → q.calls ≡ own
own_calls p q own made none = made.calls_are ∙ ap (λ (l : List (Entry Command Reply)). l ++ own) none

theirs_as : (sub new : ℕ) (query : Query) (own calls : List (Entry Command Reply)) → new ≡ sub → query ≡ every_key → calls ≡ own →
    AreOfFollower sub query own → AreOfFollower new every_key calls
theirs_as sub new query own calls s q c theirs =
    subst (λ (n : ℕ). AreOfFollower n every_key calls) (sym s)
    (subst (λ (x : Query). AreOfFollower sub x calls) q
    (subst (λ (l : List (Entry Command Reply)). AreOfFollower sub query l) (sym c) theirs))

module _ (sizes : Sizes) where
  taken_task : (index : ℕ) (p q : PassRecord) (t u : Task PassRecord) → IsReadyTask sizes index p t →
      TookTask index sizes.changes p q t u → HasTakenTask sizes index q u
  taken_task index p q Publish Publish ready took = (
    ready.0,
    subst (λ (l : List (Entry Command Reply)).
        AreAccepted (publisher_label index ∷ each_below (publisher_number index) sizes.changes) l)
        (sym (own_calls p q took.own took.made ready.1)) took.accepted,
  )
  taken_task index p q Publish (Follow g) ready took = absurd took
  taken_task index p q Publish (Exchange r next) ready took = absurd took
  taken_task index p q (Follow f) Publish ready took = absurd took
  taken_task index p q (Follow f) (Follow g) ready took = let calls = own_calls p q took.own took.made ready.1 in (
    record { from = ready.0.from; below = ready.0.below; sub = took.same.sub ∙ ready.0.sub; query = took.same.query ∙ ready.0.query },
    omega (arith, took.many, ap (λ (l : List (Entry Command Reply)). length l) calls),
    theirs_as f.sub g.sub f.map.query took.own q.calls took.same.sub ready.0.query calls took.theirs,
  )
  taken_task index p q (Follow f) (Exchange r next) ready took = absurd took
  taken_task index p q (Exchange r from) Publish ready took = absurd took
  taken_task index p q (Exchange r from) (Follow g) ready took = absurd took
  taken_task index p q (Exchange r from) (Exchange s next) ready took = (
    ready.0,
    (
      p,
      r,
      sizes.changes,
      ready.1,
      ready.2,
      omega arith,
      subst (λ (c : Option Cursor). HasExchangedOften sizes.changes p q r s c next)
          ready.3 took,
    ),
  )

  pub has_taken : (v w : Worker PassRecord) → IsReady sizes v → w.index ≡ v.index → TookTurns v.turns v w → HasTaken sizes w
  has_taken v w ready same took = subst (λ (i : ℕ). HasTakenTask sizes i w.pass w.task) (sym same)
      (taken_task v.index v.pass w.pass v.task w.task ready.task
      (subst (λ (n : ℕ). TookTask v.index n v.pass w.pass v.task w.task) ready.turns took))

  worked_task : (index : ℕ) (p q : PassRecord) (t u : Task PassRecord) → HasTakenTask sizes index p t → FinishesTask p q t u →
      HasTakenTask sizes index q u × IsTaskDone q u
  worked_task index p q Publish Publish taken done = (subst (λ (x : PassRecord). HasTakenTask sizes index x Publish) (sym done) taken, tt)
  worked_task index p q Publish (Follow g) taken done = absurd done
  worked_task index p q Publish (Exchange r next) taken done = absurd done
  worked_task index p q (Follow f) Publish taken done = absurd done
  worked_task index p q (Follow f) (Follow g) taken done = let own = done.own ++ done.last ∷ [] in (
    (
      record { from = taken.0.from; below = taken.0.below; sub = done.same.sub ∙ taken.0.sub; query = done.same.query ∙ taken.0.query },
      omega (arith, taken.1, ap (λ (l : List (Entry Command Reply)). length l) done.made.calls_are, length-append p.calls own),
      theirs_as f.sub g.sub every_key (p.calls ++ own) q.calls done.same.sub refl done.made.calls_are
          (all_append (λ (e : Entry Command Reply). IsOfFollower f.sub every_key e.command) p.calls own taken.2
          (theirs_as f.sub f.sub f.map.query own own refl taken.0.query refl (theirs_brought p q f g done))),
    ),
    done.brought,
  )
  worked_task index p q (Follow f) (Exchange r next) taken done = absurd done
  worked_task index p q (Exchange r from) Publish taken done = absurd done
  worked_task index p q (Exchange r from) (Follow g) taken done = absurd done
  worked_task index p q (Exchange r from) (Exchange s next) taken done =
      let k = taken.1 in
      let often = handed_often p q r s from next done.0 in
      let on = exchanged_on k.2 often.0 k.0 p q k.1 r s None from next k.6 often.1 in
      ((taken.0, (k.0, k.1, on.0, k.3, k.4, omega (arith, k.5, on.1), on.2)), done.1)

  has_worked : (v w : Worker PassRecord) → HasTaken sizes v → w.index ≡ v.index → FinishesTask v.pass w.pass v.task w.task →
      HasTaken sizes w × IsTaskDone w.pass w.task
  has_worked v w taken same done = let both = worked_task v.index v.pass w.pass v.task w.task taken done in
      (subst (λ (i : ℕ). HasTakenTask sizes i w.pass w.task) (sym same) both.0, both.1)

-- the gate's answers to one worker
pub through_as : {T : Type 0} (answers : T → ℕ → ℕ → Bool → Type 0) (g h : T) (i j n m : ℕ) → g ≡ h → j ≡ i → n ≡ m →
    LetsThrough (answers g) i (suc n) → LetsThrough (answers h) j (suc m)
through_as answers g h i j n m gate index turns through =
    subst (λ (k : ℕ). LetsThrough (answers h) j (suc k)) turns
    (subst (λ (k : ℕ). LetsThrough (answers h) k (suc n)) (sym index) (subst (λ (x : _). LetsThrough (answers x) i (suc n)) gate through))

-- ---- workers that were dismissed
module _ {Z : Type 0} {G : Ghosts (View (Boxed Z) Command Reply)} where
  pub none_handed : (passes others : List (StorePass Z G)) (followers : List FollowerRecord) → passes ≡ [] → others ≡ [] → followers ≡ [] →
      HandBack [] passes others followers
  none_handed passes others followers p o f = record { workers = []; dismissed = refl; passes_are = p; others_are = o; followers_are = f }

  pub one_handed : (vs : List (Worker (StorePass Z G))) (v w : Worker (StorePass Z G)) (passes others more given : List (StorePass Z G))
      (followers left : List FollowerRecord)
      → HandBack vs passes others followers → HasFinished v w → more ≡ passes ++ w.pass ∷ [] → given ≡ others ++ passes_in w.task →
      left ≡ followers ++ followers_in w.task
      → HandBack (v ∷ vs) more given left
  one_handed vs v w passes others more given followers left h done p o f = record {
    workers = h.workers ++ w ∷ [];
    dismissed = (h.workers, w, refl, h.dismissed, done);
    passes_are = p ∙ ap (λ (l : List (StorePass Z G)). l ++ w.pass ∷ []) h.passes_are ∙
        sym (map-append (λ (x : Worker (StorePass Z G)). x.pass) h.workers (w ∷ []));
    others_are = o ∙ ap (λ (l : List (StorePass Z G)). l ++ passes_in w.task) h.others_are
        ∙ sym (flat_map-append (λ (x : Worker (StorePass Z G)). passes_in x.task) h.workers (w ∷ [])
        ∙ ap (λ (l : List (StorePass Z G)). flat_map (λ (x : Worker (StorePass Z G)). passes_in x.task) h.workers ++ l)
        (append-nil (passes_in w.task)));
    followers_are = f ∙ ap (λ (l : List FollowerRecord). l ++ followers_in w.task) h.followers_are
        ∙ sym (flat_map-append (λ (x : Worker (StorePass Z G)). followers_in x.task) h.workers (w ∷ [])
        ∙ ap (λ (l : List FollowerRecord). flat_map (λ (x : Worker (StorePass Z G)). followers_in x.task) h.workers ++ l)
        (append-nil (followers_in w.task)));
  }

  pub all_worked : (sizes : Sizes) (answers : ℕ → ℕ → Bool → Type 0) (vs ws : List (Worker (StorePass Z G)))
      → All (λ (v : Worker (StorePass Z G)). HasTaken sizes (plain v) × LetsThrough answers v.index (suc sizes.changes)) vs →
      AreDismissed vs ws → All (HasWorked sizes answers) (map plain ws)
  all_worked sizes answers [] ws all none = All-same (HasWorked sizes answers) (map plain ws) [] (ap (map plain) none)
      (All-nil (HasWorked sizes answers))
  all_worked sizes answers (v ∷ vs) ws all gone =
      let P = λ (v : Worker (StorePass Z G)). HasTaken sizes (plain v) × LetsThrough answers v.index (suc sizes.changes) in
      let here = All-head P v vs all in
      let rest = all_worked sizes answers vs gone.0 (All-tail P v vs all) gone.3 in
      let w = gone.1 in
      let both = has_worked sizes (plain v) (plain w) here.0 gone.4.back.same_index gone.4.finishes in
      let one : HasWorked sizes answers (plain w) = record {
        taken = both.0;
        through = subst (λ (k : ℕ). LetsThrough answers k (suc sizes.changes)) (sym gone.4.back.same_index) here.1;
        done = both.1;
      } in
      All-same (HasWorked sizes answers) (map plain ws) (map plain gone.0 ++ plain w ∷ [])
      (ap (map plain) gone.2 ∙ map-append plain gone.0 (w ∷ []))
      (All-push (HasWorked sizes answers) (map plain gone.0) (plain w) rest one)

  pub all_numbered : (n : ℕ) (vs ws : List (Worker (StorePass Z G))) → map (λ (v : Worker (StorePass Z G)). v.index) vs ≡ downward n →
      AreDismissed vs ws
      → map (λ (w : Worker PassRecord). w.index) (map plain ws) ≡ upward n
  all_numbered zero [] ws e none = ap (λ (l : List (Worker (StorePass Z G))). map (λ (w : Worker PassRecord). w.index) (map plain l)) none
  all_numbered zero (v ∷ vs) ws e gone = absurd (cc)
  all_numbered (suc n) [] ws e gone = absurd (cc)
  all_numbered (suc n) (v ∷ vs) ws e gone =
      let here : v.index ≡ n = cc in
      let below : map (λ (v : Worker (StorePass Z G)). v.index) vs ≡ downward n = cc in
      let rest = all_numbered n vs gone.0 below gone.3 in
      let f = λ (x : Worker (StorePass Z G)). x.index in
      let parts : map (λ (w : Worker PassRecord). w.index) (map plain ws) ≡ map (λ (w : Worker PassRecord). w.index) (map plain gone.0) ++
      gone.1.index ∷ []
      = ap (λ (l : List (Worker (StorePass Z G))). map (λ (w : Worker PassRecord). w.index) (map plain l)) gone.2
      ∙ ap (map (λ (w : Worker PassRecord). w.index)) (map-append plain gone.0 (gone.1 ∷ []))
      ∙ map-append (λ (w : Worker PassRecord). w.index) (map plain gone.0) (plain gone.1 ∷ []) in
      parts ∙ ap (λ (l : List ℕ). l ++ gone.1.index ∷ []) rest ∙ ap (λ (k : ℕ). upward n ++ k ∷ []) (gone.4.back.same_index ∙ here)

  -- ---- by plain values
  pub plain_passes : (ws : List (Worker (StorePass Z G))) →
      map pass_record (map (λ (w : Worker (StorePass Z G)). w.pass) ws) ≡ map (λ (w : Worker PassRecord). w.pass) (map plain ws)
  plain_passes [] = refl
  plain_passes (w ∷ ws) = ap (λ (l : List PassRecord). pass_record w.pass ∷ l) (plain_passes ws)

  plain_other : (t : Task (StorePass Z G)) → map pass_record (passes_in t) ≡ passes_in (plain_task t)
  plain_other Publish = refl
  plain_other (Follow f) = refl
  plain_other (Exchange r next) = refl

  pub plain_others : (ws : List (Worker (StorePass Z G)))
      → map pass_record (flat_map (λ (w : Worker (StorePass Z G)). passes_in w.task) ws) ≡ flat_map
      (λ (w : Worker PassRecord). passes_in w.task) (map plain ws)
  plain_others [] = refl
  plain_others (w ∷ ws) =
      map-append pass_record (passes_in w.task) (flat_map (λ (w : Worker (StorePass Z G)). passes_in w.task) ws)
      ∙ ap (λ (l : List PassRecord). l ++ map pass_record (flat_map (λ (w : Worker (StorePass Z G)). passes_in w.task) ws))
      (plain_other w.task)
      ∙ ap (λ (l : List PassRecord). passes_in (plain_task w.task) ++ l) (plain_others ws)

  plain_follower : (t : Task (StorePass Z G)) → followers_in t ≡ followers_in (plain_task t)
  plain_follower Publish = refl
  plain_follower (Follow f) = refl
  plain_follower (Exchange r next) = refl

  pub plain_followers : (ws : List (Worker (StorePass Z G)))
      → flat_map (λ (w : Worker (StorePass Z G)). followers_in w.task) ws ≡ flat_map (λ (w : Worker PassRecord). followers_in w.task)
      (map plain ws)
  plain_followers [] = refl
  plain_followers (w ∷ ws) =
      ap (λ (l : List FollowerRecord). l ++ flat_map (λ (w : Worker (StorePass Z G)). followers_in w.task) ws) (plain_follower w.task)
      ∙ ap (λ (l : List FollowerRecord). followers_in (plain_task w.task) ++ l) (plain_followers ws)

  -- the whole run: the jobs before it, the jobs that came back, and what was handed back
  pub has_run : {J T : Type 0} (answers : T → ℕ → ℕ → Bool → Type 0) (gate_of : J → T) (worker_of : J → Worker (StorePass Z G)) (gate : T)
      (sizes : Sizes) (js ks : List J)
      (passes others : List (StorePass Z G)) (followers left : List FollowerRecord) (here there : ContentRecord)
      → All (λ (j : J). IsReady sizes (plain (worker_of j))) js → All (λ (j : J). gate_of j ≡ gate) js
      → map (λ (j : J). (worker_of j).index) js ≡ downward (length js) → length js ≡ worker_count sizes
      → AreBack (λ (j k : J). ComesBack (worker_of j) (worker_of k)) 0 js ks
      → AreBack (λ (j k : J). TookAll (answers (gate_of j)) (plain (worker_of j)) (plain (worker_of k))) 0 js ks
      → HandBack (map worker_of ks) passes others followers
      → ((ps : List PassRecord) → map pass_record passes ≡ ps → ClosesAfter 1 ps here)
      → ((ps : List PassRecord) → map pass_record others ≡ ps → ClosesAfter 2 ps there)
      → left ≡ followers → RunLeaves (answers gate) sizes here there left
  has_run {J} {T} answers gate_of worker_of gate sizes js ks passes others followers left here there ready gates numbered many back took h
      first second same =
      let P = λ (v : Worker (StorePass Z G)). HasTaken sizes (plain v) × LetsThrough (answers gate) v.index (suc sizes.changes) in
      let R = λ (j k : J). ComesBack (worker_of j) (worker_of k) in
      let taken : All (λ (j : J). P (worker_of j)) ks =
      each_of_four (λ (j : J). IsReady sizes (plain (worker_of j))) (λ (j : J). gate_of j ≡ gate) R
      (λ (j k : J). TookAll (answers (gate_of j)) (plain (worker_of j)) (plain (worker_of k))) (λ (j : J). P (worker_of j))
      (λ v w r at b t. (
        has_taken sizes (plain (worker_of v)) (plain (worker_of w)) r b.same_index t.0,
        through_as answers (gate_of v) gate (worker_of v).index (worker_of w).index (worker_of v).turns sizes.changes at b.same_index
            r.turns t.1,
      )) js ks ready gates back took in
      let index = λ (v : Worker (StorePass Z G)). v.index in
      let down : map index (map worker_of ks) ≡ downward (worker_count sizes) =
      map_twice worker_of index ks ∙ same_map (λ (j : J). (worker_of j).index) R (λ v w b. b.same_index) js ks back ∙ numbered ∙
      ap downward many in
      record {
        workers = map plain h.workers;
        numbered = all_numbered (worker_count sizes) (map worker_of ks) h.workers down h.dismissed;
        worked = all_worked sizes (answers gate) (map worker_of ks) h.workers (All-map P worker_of ks taken) h.dismissed;
        first = first (map (λ (w : Worker PassRecord). w.pass) (map plain h.workers))
            (ap (map pass_record) h.passes_are ∙ plain_passes h.workers);
        second = second (flat_map (λ (w : Worker PassRecord). passes_in w.task) (map plain h.workers))
            (ap (map pass_record) h.others_are ∙ plain_others h.workers);
        followers_are = same ∙ h.followers_are ∙ plain_followers h.workers;
      }
