-- Workers that are dismissed, and the fault of the lowest of them.
use Rattle.std.proofs.Common.{All, ◌≡◌, ◌⊎◌, ℕ, zero, suc, Bool, List, [], ◌∷◌, ◌++◌, length, map, Option, None, Some, IfNone, IfSome}
use Rattle.std.proofs.Common.{refl, ap, sym, subst, ◌∙◌, inl, inr, append-nil}
use Rattle.std.specs.List.{flat_map}
use Rattle.std.proofs.lemmas.List.{map-append}
use Rattle.std.proofs.lemmas.List.Concat.{flat_map-append}
use Rattle.std.proofs.lemmas.List.Elements.{All-head, All-map, All-nil, All-push, All-same, All-tail}
use Rattle.desk_rule.specs.declared.view.View.{View}
use Rattle.desk.specs.declared.pass.Sight.{Ghosts}
use Rattle.ds_content.specs.Content.{ContentRecord}
use Rattle.ds_machine.specs.declared.command.Command.{Command}
use Rattle.ds_machine.specs.declared.reply.Reply.{Reply}
use Rattle.desk_store.specs.Record.{Boxed, PassRecord, pass_record}
use Rattle.ds_live.specs.Back.{AreBack}
use Rattle.ds_live.specs.Dismissed.{AreLeft, IsLeft, IsReported, KeepsOwn, Leaves}
use Rattle.ds_live.specs.Fails.{FailsRunning, HasStopped}
use Rattle.ds_live.specs.Faults.{HasWorkersFault, IsFaultOr, fault_or, first_fault, lowest_fault, own_fault}
use Rattle.ds_live.specs.Run.{ClosesAfter, IsReady, downward, upward, worker_count}
use Rattle.ds_live.specs.Tasks.{passes_in}
use Rattle.ds_live.specs.Workers.{ComesBack, StopsTurns, StorePass, TookAll, plain}
use Rattle.ds_live.specs.declared.live_fault.LiveFault.{LiveFault}
use Rattle.ds_live.specs.declared.live_fault.LiveFault.TheVariants.{NoRoom, NoThread}
use Rattle.ds_live.specs.declared.sizes.Sizes.{Sizes}
use Rattle.ds_live.specs.declared.worker.Worker.{Worker}
use Rattle.ds_live.specs.declared.worker_fault.WorkerFault.{WorkerFault}
use Rattle.ds_live.proofs.FaultLemmas.{or_again}
use Rattle.ds_live.proofs.RunLemmas.{each_of_four, map_twice, plain_others, plain_passes, same_map}

-- ---- one worker
pub own_still : (f : Option LiveFault) (v : Option WorkerFault) → KeepsOwn f f v v
own_still None v = refl
own_still (Some fault) v = refl

pub left_still : (f : Option LiveFault) (v : Worker PassRecord) → IsLeft f v v
left_still None v = inl refl
left_still (Some fault) v = refl

left_as : (e f : Option LiveFault) (v w : Worker PassRecord) → IfSome e (λ was. f ≡ Some was) → IsLeft f v w → IsLeft e v w
left_as (Some was) f v w kept h = subst (λ (o : Option LiveFault). IsLeft o v w) kept h
left_as None (Some told) v w kept h = inl h
left_as None None v w kept h = h

-- ---- the fault of the lowest one
or_none : (f : Option LiveFault) → fault_or f None ≡ f
or_none (Some f) = refl
or_none None = refl

first_pushed : (fs : List (Option WorkerFault)) (f : Option WorkerFault) →
    first_fault (fs ++ f ∷ []) ≡ fault_or (first_fault fs) (own_fault f)
first_pushed [] f = or_none (own_fault f)
first_pushed (g ∷ fs) f =
    ap (λ (h : Option LiveFault). fault_or (own_fault g) h) (first_pushed fs f) ∙
    sym (or_again (own_fault g) (first_fault fs) (own_fault f))

reported_more : (e f g h : Option LiveFault) (vs ws : List (Option WorkerFault)) (v w : Option WorkerFault) →
    IfSome e (λ was. f ≡ Some was) → IfSome f (λ was. g ≡ Some was) → IfSome g (λ was. h ≡ Some was)
    → IfNone e (v ≡ None) → KeepsOwn f g v w → IsFaultOr (λ told. told ≡ NoRoom) g h → IsReported e f vs ws →
    IsReported e h (v ∷ vs) (ws ++ w ∷ [])
reported_more (Some was) None g h vs ws v w a b c idle own room t = absurd (let no : None ≡ Some was = a in cc)
reported_more (Some was) (Some told) g h vs ws v w a b c idle own room t =
    first_pushed ws w ∙ ap (λ (x : Option LiveFault). fault_or x (own_fault w)) t ∙
    ap (λ (x : Option WorkerFault). fault_or (lowest_fault vs) (own_fault x)) own
reported_more None (Some told) None h vs ws v w a b c idle own room t = absurd (let no : None ≡ Some told = b in cc)
reported_more None (Some told) (Some x) None vs ws v w a b c idle own room t = absurd (let no : None ≡ Some x = c in cc)
reported_more None (Some told) (Some x) (Some y) vs ws v w a b c idle own room t = let same : Some y ≡ Some told = c ∙ b in elim t [
  | inl r ↦ inl (let one : y ≡ told = cc in one ∙ r)
  | inr r ↦ inr (first_pushed ws w ∙ ap (λ (x : Option LiveFault). fault_or x (own_fault w)) r ∙ sym same)
]
reported_more None None None None vs ws v w a b c idle own room t =
    first_pushed ws w ∙ ap (λ (x : Option LiveFault). fault_or x (own_fault w)) t ∙ ap own_fault (own ∙ idle)
reported_more None None None (Some y) vs ws v w a b c idle own room t = elim room [
  | inl r ↦ absurd (let no : None ≡ Some y = r in cc)
  | inr r ↦ inl r.1
]
reported_more None None (Some x) None vs ws v w a b c idle own room t = absurd (let no : None ≡ Some x = c in cc)
reported_more None None (Some x) (Some y) vs ws v w a b c idle own room t =
    inr (first_pushed ws w ∙ ap (λ (z : Option LiveFault). fault_or z (own_fault w)) t ∙ own ∙ sym c)

or_thread : (o : Option LiveFault) (was : LiveFault) → Some was ≡ fault_or o (Some NoThread) → (o ≡ Some was) ⊎ (was ≡ NoThread)
or_thread None was is = inr (cc)
or_thread (Some x) was is = inl (sym is)

reported_running : (e f : Option LiveFault) (vs ws : List (Option WorkerFault)) (told : LiveFault) → f ≡ Some told →
    IfSome e (λ was. f ≡ Some was) → HasWorkersFault vs e → IsReported e f vs ws
    → (told ≡ NoRoom) ⊎ ((told ≡ NoThread) ⊎ (first_fault ws ≡ Some told))
reported_running (Some was) f vs ws told is kept (inl a) t = inr (inr (t ∙ sym a ∙ sym kept ∙ is))
reported_running (Some was) f vs ws told is kept (inr a) t = elim (or_thread (lowest_fault vs) was a) [
  | inl low ↦ inr (inr (t ∙ low ∙ sym kept ∙ is))
  | inr none ↦ inr (inl (let same : Some told ≡ Some was = sym is ∙ kept in let one : told ≡ was = cc in one ∙ none))
]
reported_running None None vs ws told is kept a t = absurd (let no : None ≡ Some told = is in cc)
reported_running None (Some x) vs ws told is kept a (inl room) = inl (let same : told ≡ x = cc in same ∙ room)
reported_running None (Some x) vs ws told is kept a (inr first) = inr (inr (first ∙ is))

-- ---- pairs of jobs that came back
back_with : {J : Type 0} (e : Option LiveFault) (R T : J → J → Type 0) (P : J → Type 0) (vs ws : List J) → AreBack R 0 vs ws →
    IfNone e (AreBack T 0 vs ws) → IfNone e (All P ws)
    → AreBack (λ (v w : J). R v w × IfNone e (T v w × P w)) 0 vs ws
back_with e R T P [] ws r t p = r
back_with e R T P (v ∷ vs) [] r t p = absurd r
back_with (Some x) R T P (v ∷ vs) (w ∷ ws) r t p = ((r.0, tt), back_with (Some x) R T P vs ws r.1 tt tt)
back_with None R T P (v ∷ vs) (w ∷ ws) r t p = ((r.0, (t.0, All-head P w ws p)), back_with None R T P vs ws r.1 t.1 (All-tail P w ws p))

-- ---- a worker of a run
module _ (answers : ℕ → ℕ → Bool → Type 0) (sizes : Sizes) (e : Option LiveFault) where
  -- after its turns
  abbrev HasRun : Worker PassRecord → Type 0
  HasRun k = (v : Worker PassRecord) × IsReady sizes v × (k.index ≡ v.index) × StopsTurns answers v k ×
      IfNone e (TookAll answers v k × (k.fault ≡ None))

  still_stops : (k w : Worker PassRecord) → HasRun k → w ≡ k → HasStopped answers sizes w
  still_stops k w h same = subst (HasStopped answers sizes) (sym same) (record { v = h.0; ready = h.1; same_index = h.2; stops = inl h.3 })

left_stops : (answers : ℕ → ℕ → Bool → Type 0) (sizes : Sizes) (e : Option LiveFault) (k w : Worker PassRecord) →
    HasRun answers sizes e k → w.index ≡ k.index → IsLeft e k w
    → HasStopped answers sizes w
left_stops answers sizes (Some was) k w h index left = still_stops answers sizes (Some was) k w h left
left_stops answers sizes None k w h index (inl same) = still_stops answers sizes None k w h same
left_stops answers sizes None k w h index (inr ends) =
    record { v = h.0; ready = h.1; same_index = index ∙ h.2; stops = inr (k, h.4.0, h.2, h.4.1, ends) }

module _ {Z : Type 0} {G : Ghosts (View (Boxed Z) Command Reply)} where
  -- ---- dismissed one by one
  pub none_left : (e f : Option LiveFault) (passes others : List (StorePass Z G)) → passes ≡ [] → others ≡ [] → f ≡ e →
      Leaves e f [] passes others
  none_left e f passes others p o same = record {
    workers = [];
    left = refl;
    passes_are = p;
    others_are = o;
    reported =
        subst (λ (x : Option LiveFault). IsReported e x [] []) (sym same) (none_reported e);
  } where
    none_reported : (e : Option LiveFault) → IsReported e e [] []
    none_reported None = refl
    none_reported (Some was) = refl

  pub one_left : (e f g h : Option LiveFault) (vs : List (Worker (StorePass Z G))) (v w : Worker (StorePass Z G))
      (passes others more given : List (StorePass Z G))
      → IfSome e (λ was. f ≡ Some was) → IfSome f (λ was. g ≡ Some was) → IfSome g (λ was. h ≡ Some was) → IfNone e (v.fault ≡ None)
      → ComesBack v w → IsLeft f (plain v) (plain w) → KeepsOwn f g v.fault w.fault → IsFaultOr (λ told. told ≡ NoRoom) g h
      → Leaves e f vs passes others → more ≡ passes ++ w.pass ∷ [] → given ≡ others ++ passes_in w.task → Leaves e h (v ∷ vs) more given
  one_left e f g h vs v w passes others more given a b c idle back left own room l p o = record {
    workers = l.workers ++ w ∷ [];
    left = (l.workers, w, refl, l.left, record { back = back; left = left_as e f (plain v) (plain w) a left });
    passes_are = p ∙ ap (λ (l : List (StorePass Z G)). l ++ w.pass ∷ []) l.passes_are ∙
        sym (map-append (λ (x : Worker (StorePass Z G)). x.pass) l.workers (w ∷ []));
    others_are = o ∙ ap (λ (l : List (StorePass Z G)). l ++ passes_in w.task) l.others_are
        ∙ sym (flat_map-append (λ (x : Worker (StorePass Z G)). passes_in x.task) l.workers (w ∷ [])
        ∙ ap (λ (l' : List (StorePass Z G)). flat_map (λ (x : Worker (StorePass Z G)). passes_in x.task) l.workers ++ l')
        (append-nil (passes_in w.task)));
    reported = subst (λ (fs : List (Option WorkerFault)). IsReported e h (v.fault ∷ map (λ (x : Worker (StorePass Z G)). x.fault) vs) fs)
        (sym (map-append (λ (x : Worker (StorePass Z G)). x.fault) l.workers (w ∷ [])))
        (reported_more e f g h (map (λ (x : Worker (StorePass Z G)). x.fault) vs) (map (λ (x : Worker (StorePass Z G)). x.fault) l.workers)
        v.fault w.fault a b c idle own room l.reported);
  }

  -- ---- all of them
  all_stopped : (answers : ℕ → ℕ → Bool → Type 0) (sizes : Sizes) (e : Option LiveFault) (vs ws : List (Worker (StorePass Z G))) →
      All (λ (v : Worker (StorePass Z G)). HasRun answers sizes e (plain v)) vs
      → AreLeft e vs ws → All (HasStopped answers sizes) (map plain ws)
  all_stopped answers sizes e [] ws all none =
      All-same (HasStopped answers sizes) (map plain ws) [] (ap (map plain) none) (All-nil (HasStopped answers sizes))
  all_stopped answers sizes e (v ∷ vs) ws all gone =
      let P = λ (v : Worker (StorePass Z G)). HasRun answers sizes e (plain v) in
      let rest = all_stopped answers sizes e vs gone.0 (All-tail P v vs all) gone.3 in
      let one = left_stops answers sizes e (plain v) (plain gone.1) (All-head P v vs all) gone.4.back.same_index gone.4.left in
      All-same (HasStopped answers sizes) (map plain ws) (map plain gone.0 ++ plain gone.1 ∷ [])
      (ap (map plain) gone.2 ∙ map-append plain gone.0 (gone.1 ∷ []))
      (All-push (HasStopped answers sizes) (map plain gone.0) (plain gone.1) rest one)

  left_numbered : (e : Option LiveFault) (n : ℕ) (vs ws : List (Worker (StorePass Z G))) →
      map (λ (v : Worker (StorePass Z G)). v.index) vs ≡ downward n → AreLeft e vs ws
      → map (λ (w : Worker PassRecord). w.index) (map plain ws) ≡ upward n
  left_numbered e zero [] ws is none = ap (λ (l : List (Worker (StorePass Z G))). map (λ (w : Worker PassRecord). w.index) (map plain l))
      none
  left_numbered e zero (v ∷ vs) ws is gone = absurd (cc)
  left_numbered e (suc n) [] ws is gone = absurd (cc)
  left_numbered e (suc n) (v ∷ vs) ws is gone =
      let here : v.index ≡ n = cc in
      let below : map (λ (v : Worker (StorePass Z G)). v.index) vs ≡ downward n = cc in
      let rest = left_numbered e n vs gone.0 below gone.3 in
      let parts : map (λ (w : Worker PassRecord). w.index) (map plain ws) ≡ map (λ (w : Worker PassRecord). w.index) (map plain gone.0) ++
      gone.1.index ∷ []
      = ap (λ (l : List (Worker (StorePass Z G))). map (λ (w : Worker PassRecord). w.index) (map plain l)) gone.2
      ∙ ap (map (λ (w : Worker PassRecord). w.index)) (map-append plain gone.0 (gone.1 ∷ []))
      ∙ map-append (λ (w : Worker PassRecord). w.index) (map plain gone.0) (plain gone.1 ∷ []) in
      parts ∙ ap (λ (l : List ℕ). l ++ gone.1.index ∷ []) rest ∙ ap (λ (k : ℕ). upward n ++ k ∷ []) (gone.4.back.same_index ∙ here)

  plain_faults : (ws : List (Worker (StorePass Z G))) →
      map (λ (w : Worker (StorePass Z G)). w.fault) ws ≡ map (λ (w : Worker PassRecord). w.fault) (map plain ws)
  plain_faults [] = refl
  plain_faults (w ∷ ws) = ap (λ (l : List (Option WorkerFault)). w.fault ∷ l) (plain_faults ws)

  -- the whole run: the jobs before it, the jobs that came back, and what was handed back
  pub fails_run : {J T : Type 0} (answers : T → ℕ → ℕ → Bool → Type 0) (gate_of : J → T) (worker_of : J → Worker (StorePass Z G))
      (gate : T) (sizes : Sizes) (js ks : List J) (e f : Option LiveFault)
      (passes others : List (StorePass Z G)) (here there : ContentRecord)
      → All (λ (j : J). IsReady sizes (plain (worker_of j))) js → All (λ (j : J). gate_of j ≡ gate) js
      → map (λ (j : J). (worker_of j).index) js ≡ downward (length js) → length js ≡ worker_count sizes
      → AreBack (λ (j k : J). ComesBack (worker_of j) (worker_of k)) 0 js ks
      → AreBack (λ (j k : J). StopsTurns (answers (gate_of j)) (plain (worker_of j)) (plain (worker_of k))) 0 js ks
      → IfNone e (AreBack (λ (j k : J). TookAll (answers (gate_of j)) (plain (worker_of j)) (plain (worker_of k))) 0 js ks)
      → IfNone e (All (λ (k : J). (worker_of k).fault ≡ None) ks)
      → HasWorkersFault (map (λ (k : J). (worker_of k).fault) ks) e → IfSome e (λ was. f ≡ Some was)
      → Leaves e f (map worker_of ks) passes others
      → ((ps : List PassRecord) → map pass_record passes ≡ ps → ClosesAfter 1 ps here)
      → ((ps : List PassRecord) → map pass_record others ≡ ps → ClosesAfter 2 ps there)
      → (told : LiveFault) → f ≡ Some told → (told ≡ NoRoom) ⊎ ((told ≡ NoThread) ⊎ FailsRunning (answers gate) sizes told)
  fails_run {J} {T} answers gate_of worker_of gate sizes js ks e f passes others here there ready gates numbered many back stops took idle
      fault kept l first second told is =
      let P = λ (v : Worker (StorePass Z G)). HasRun (answers gate) sizes e (plain v) in
      let R = λ (j k : J). ComesBack (worker_of j) (worker_of k) in
      let S = λ (j k : J). StopsTurns (answers (gate_of j)) (plain (worker_of j)) (plain (worker_of k)) in
      let T' = λ (j k : J). TookAll (answers (gate_of j)) (plain (worker_of j)) (plain (worker_of k)) in
      let N = λ (k : J). (worker_of k).fault ≡ None in
      let ran : All (λ (j : J). P (worker_of j)) ks =
      each_of_four (λ (j : J). IsReady sizes (plain (worker_of j))) (λ (j : J). gate_of j ≡ gate) R
      (λ (j k : J). S j k × IfNone e (T' j k × N k)) (λ (j : J). P (worker_of j))
      (λ v w r at b s. (
        plain (worker_of v),
        r,
        b.same_index,
        subst (λ (t : T). StopsTurns (answers t) (plain (worker_of v)) (plain (worker_of w))) at s.0,
        subst (λ (t : T). IfNone e (TookAll (answers t) (plain (worker_of v)) (plain (worker_of w)) × ((worker_of w).fault ≡ None))) at s.1,
      )) js ks ready gates back (back_with e S T' N js ks stops took idle) in
      let index = λ (v : Worker (StorePass Z G)). v.index in
      let down : map index (map worker_of ks) ≡ downward (worker_count sizes) =
      map_twice worker_of index ks ∙ same_map (λ (j : J). (worker_of j).index) R (λ v w b. b.same_index) js ks back ∙ numbered ∙
      ap downward many in
      let faults = λ (v : Worker (StorePass Z G)). v.fault in
      elim (reported_running e f (map faults (map worker_of ks)) (map faults l.workers) told is kept
      (subst (λ (fs : List (Option WorkerFault)). HasWorkersFault fs e) (sym (map_twice worker_of faults ks)) fault) l.reported) [
        | inl room ↦ inl room
        | inr other ↦ elim other [
          | inl thread ↦ inr (inl thread)
          | inr lowest ↦ inr (inr (record {
            workers = map plain l.workers;
            numbered = left_numbered e (worker_count sizes) (map worker_of ks) l.workers down l.left;
            stopped = all_stopped (answers gate) sizes e (map worker_of ks) l.workers (All-map P worker_of ks ran) l.left;
            here = here;
            there = there;
            first = first (map (λ (w : Worker PassRecord). w.pass) (map plain l.workers))
                (ap (map pass_record) l.passes_are ∙ plain_passes l.workers);
            second = second (flat_map (λ (w : Worker PassRecord). passes_in w.task) (map plain l.workers))
                (ap (map pass_record) l.others_are ∙ plain_others l.workers);
            fault_is = ap first_fault (sym (plain_faults l.workers)) ∙ lowest;
          }))
        ]
      ]
