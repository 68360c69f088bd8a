-- `into_loose` tests the pointer, and has the box of the bridge again where it is not null.
use Rattle.std.proofs.Common.{◌≡◌, List, [], ◌∷◌, ◌++◌, refl, sym, ap, ◌∙◌, subst, lit<}
use mir.Val.{Val, vptr, vnull, vcons, vnil}
use base.Logic.{SProp, ent, emp, id⊢}
use prog.Wp.{WpFn}
use types.Kit.{‵, raw, ◌⊛◌, at_ret, ◌$◌, ◌∵◌, !, qed, by, move, keep, split, fsplit, fjoin, suffices, rewrite, use0, use1}
use types.Run.{stop, fld, lit, of_opd, bin, no_more, and_then, first, branches, exec, returns, enter}
use types.ByLocal.{alloc_all, pass_all, free_all, look_at, get, get_in, sets, sets_last, env}
use types.Part.{agg, sub, whole}
use types.Match.{live}
use contract.Monad.{fact, fact_i}
use contract.Running.{tables}
use denote.Exit.{yes}
use denote.RattleType.{RattleType, owns}
use denote.Signature.{types_at, type_at, plain}
use denote.RawPtr.{Ptr, block_ptr, null_ptr, ptr_val, tests_null}
use denote.Steps.{nothing}
use denote.Param.{layout}
use denote.Triple.Entry.{alive}
use denote.Triple.Walked.{Stays, stay_dropped, walk_of, Goes-dropped}
use Rattle.core.proofs.alloc.Shapes.{after}
use Rattle.core.proofs.atomic.Steps.{Ptr-Good}
use Rattle.core.proofs.cell.Inside.{Good, one}
use Rattle.core.proofs.option.Made.{Some-of, none_of}
use Rattle.core.specs.declared.option.Option.TheVariants.{None, Some}
use Rattle.std.specs.contracts.alloc.Global as heap
use Rattle.std.proofs.alloc.Global.TheLaws as heap_laws
use Rattle.std.specs.contracts.impls.GlobalAllocator.TheImpl.{ghosts}
use Rattle.std.proofs.raw_atomic.Walks.{proved_at, leaves}
use Rattle.std_alloc.proofs.ResultValues.{and_tt}
use Rattle.ds_c.proofs.Steps.{Bridge as R, word, BridgeHandle, bridge_out, held}
use Rattle.ds_c.proofs.Values.{both, Loose, loose_good, loose_in}
use Rattle.ds_c.specs.contracts.bridge_handle.BridgeHandle.into_loose.{ended, clauses}
use Rattle.ds_c.specs.contracts.bridge_handle.BridgeHandle.into_loose.Key.{name as #self}
use Rattle.ds_c.proofs.bridge_handle.BridgeHandle.into_loose.Statement.{statement}
use Rattle.ds_c.proofs.bridge_handle.BridgeHandle.into_loose.Code as code

pub into_loose_spec : {M : Type 1} → statement M
into_loose_spec 𝓤 𝓛 𝓜 𝓡 wired =
    let H = 𝓛.H in let 𝓣 = tables 𝓤 H 𝓜 𝓡 𝓡.env in let c = clauses 𝓛 𝓜.mem 𝓡.returns in let fn = code.function in
    let Z : RattleType = heap.the_row in let LZ = heap_laws.the_row_laws in let Lr : RattleType = Loose R Z LZ ghosts in
    let hs : Stays ended.signature.params ended.kept = (stay_dropped (plain (λ _. BridgeHandle)) yes, (stay_dropped (plain (λ _. Z)) yes, tt)) in
    proved_at 𝓛 ended hs c 𝓜 𝓡 (Goes-dropped 𝓛 0 (plain (λ _. BridgeHandle)) yes (λ κs x f. refl), (Goes-dropped 𝓛 0 (plain (λ _. Z)) yes (λ κs x f. refl), tt)) #self fn (code.unfolded 𝓤 H 𝓜 𝓡 wired) (λ z are.
    let κs = z.0.0 in let qs = z.0.1 in let v = z.0.3.0 in let a = z.0.3.1.0 in let Post : Val → SProp 𝓤 = (walk_of 𝓛 ended hs c).post z in let Run : List Val → SProp 𝓤 = λ ws. WpFn 𝓤 H 𝓣.C 𝓣.Λ fn ws Post in
    let Out : RattleType = type_at ended.signature.result κs in let hh = one (layout Z) z.0.4.1.0 ((LZ.lawful 𝓛).typed a z.0.4.1.0 are.1.0) in
    qed 𝓛 ((raw (alive 𝓛 ended.signature κs qs) ⊛ ‵ (owns (types_at ended.signature.params κs) z.0.3 z.0.4)) ∷ raw ((c κs z.0.3).requires z.1) ∷ []) ∵ split ! $ move ! (1 ∷ []) $ fsplit ! $
    move ! (1 ∷ []) $ fsplit ! $ rewrite ! 0 (λ (us : List Val). ‵ (Z.own_val a us)) hh.1 refl $ move ! (2 ∷ 0 ∷ 3 ∷ []) $
    bridge_out ! v z.0.4.0 (λ ev. held ! R a v.at v.value
    (λ ep ex. let w : Val = word vnull in let ew : z.0.4.0 ≡ w ∷ [] = ev ∙ ap (λ (p : Ptr). word (ptr_val p) ∷ []) ep in let none : Val = live 0 vnil in let good : Good (layout Out) none = (tt, (record { fits = lit< tt }, tt)) in
    suffices ! (Run (w ∷ hh.0 ∷ [])) (subst (λ (us : List Val). ent 𝓤 (Run (w ∷ hh.0 ∷ [])) (Run us)) (sym (λ i. ew i ++ (hh.1 i ++ []))) (id⊢ 𝓤 (Run (w ∷ hh.0 ∷ [])))) $
    enter ! 𝓣.C 𝓣.Λ fn (w ∷ hh.0 ∷ []) Post $ alloc_all ! (λ l. pass_all ! refl ((tt, (record { fits = lit< tt }, tt)), (hh.2, tt)) $ let Ev = env fn.locals l in
    sets ! (of_opd ! (get_in ! (fld ! refl (stop !)) (sub ! 0 refl (whole !)))) refl (Ptr-Good null_ptr) $ sets ! (bin ! (get ! refl) (lit ! tt) tt) refl (tt, tt) $ first ! $ branches ! (get ! refl)
    (λ _. sets_last ! (agg ! (and_then ! (lit ! tt) (no_more !))) refl good $ exec ! 𝓣.C 𝓣.Λ Ev (after 3 fn.body) (at_ret Ev Post) $ sets ! (of_opd ! (get ! refl)) refl good $
    use0 𝓛 (raw (fact 𝓤 (v.value ≡ None))) (fact_i 𝓤 (v.value ≡ None) (emp 𝓤) ex) $ use0 𝓛 (‵ (Out.own_val None (none ∷ []))) (none_of 𝓛 Lr) $ nothing ! $ nothing ! $ fjoin ! $ nothing ! $ fjoin ! $
    returns ! (look_at ! 0 refl) $ free_all ! refl $ keep ! (4 ∷ 0 ∷ 1 ∷ 2 ∷ []) $ by ! (leaves 𝓛 ended hs c z none None (tt, (tt, tt)) (tt, (tt, tt))))
    (λ wrong. absurd wrong)))
    (λ b o x ep ex ok. let w : Val = word (vptr b o) in let ew : z.0.4.0 ≡ w ∷ [] = ev ∙ ap (λ (p : Ptr). word (ptr_val p) ∷ []) ep in let made : Val = both (vptr b o) hh.0 in let typed = loose_good R Z LZ ghosts b o hh.0 hh.2 in
    let some : Val = live 1 (vcons made vnil) in let d : Lr.Denot = record { at = block_ptr b o; alloc = a; value = x } in let good : Good (layout Out) some = (and_tt _ typed.0, (record { fits = lit< tt }, (typed.1, tt))) in
    suffices ! (Run (w ∷ hh.0 ∷ [])) (subst (λ (us : List Val). ent 𝓤 (Run (w ∷ hh.0 ∷ [])) (Run us)) (sym (λ i. ew i ++ (hh.1 i ++ []))) (id⊢ 𝓤 (Run (w ∷ hh.0 ∷ [])))) $
    enter ! 𝓣.C 𝓣.Λ fn (w ∷ hh.0 ∷ []) Post $ alloc_all ! (λ l. pass_all ! refl ((tt, (tt, tt)), (hh.2, tt)) $ let Ev = env fn.locals l in
    sets ! (of_opd ! (get_in ! (fld ! refl (stop !)) (sub ! 0 refl (whole !)))) refl (tt, tt) $ sets ! (bin ! (get ! refl) (lit ! tt) (tests_null (block_ptr b o) ok)) refl (tt, tt) $ first ! $ branches ! (get ! refl)
    (λ wrong. absurd wrong)
    (λ _. sets ! (of_opd ! (get ! refl)) refl (tt, tt) $ sets ! (agg ! (and_then ! (get ! refl) (and_then ! (get ! refl) (no_more !)))) refl typed $
    sets_last ! (agg ! (and_then ! (lit ! tt) (and_then ! (get ! refl) (no_more !)))) refl good $ exec ! 𝓣.C 𝓣.Λ Ev (after 3 fn.body) (at_ret Ev Post) $ sets ! (of_opd ! (get ! refl)) refl good $
    loose_in R Z LZ ghosts ! b o hh.0 a x $ use1 𝓛 (‵ (Out.own_val (Some d) (some ∷ []))) (Some-of 𝓛 Lr d made) $
    use0 𝓛 (raw (fact 𝓤 (v.value ≡ Some x))) (fact_i 𝓤 (v.value ≡ Some x) (emp 𝓤) ex) $ nothing ! $ nothing ! $ fjoin ! $ nothing ! $ fjoin ! $
    returns ! (look_at ! 0 refl) $ free_all ! refl $ keep ! (3 ∷ 0 ∷ 2 ∷ 1 ∷ []) $ by ! (leaves 𝓛 ended hs c z some (Some d) (tt, (tt, tt)) (tt, (tt, tt))))))))
