-- What the walks of handles share. Assumes `Logic`.
--     word                             a handle's machine value: a struct of one pointer
--     handle_out, map_out, table_out, desk_out, seat_out, bridge_out   a handle by value is what it holds, and its machine value
--     handle_in, map_in, table_in, desk_in, seat_in, bridge_in        and back
--     held                             what a handle holds: nothing at null, or a box, whose pointer may be compared with null
use Rattle.std.proofs.Common.{◌≡◌, ℕ, List, [], ◌∷◌, ◌++◌, refl, ap, ◌∙◌}
use seplogic.Ra.Ura.{Ura}
use mir.Raw.{raw as bare}
use mir.Val.{Val, vstruct, vcons, vnil, of_list}
use base.Logic.{ent, guard, guard_i, via, never, fst∗, snd∗}
use types.Logic.{Logic, sem}
use types.Kit.{Item, Goal, Seq, Step, step, ‵, given, ◌$◌, drop, use1, learn, fsplit, fjoin, fpick, fpack, feq_i, feq_l}
use contract.Monad.{fact_use}
use denote.RattleType.{RattleType, Valss}
use denote.Builtin.{RawPtr}
use denote.Memory.{lone}
use denote.RawPtr.{Ptr, block_ptr, null_ptr, ptr_val, in_a_block, lies_at, Testable}
use denote.Steps.{nothing}
use denote.Struct.Struct.{within}
use denote.Struct.Owning.{shape}
use base.Fraction.{full_share}
use Rattle.core.specs.declared.option.Option.{Option}
use Rattle.core.specs.declared.option.Option.TheVariants.{None, Some}
use Rattle.std.specs.declared.alloc.Global.{Global}
use Rattle.std.specs.contracts.impls.GlobalAllocator.TheImpl.{ghosts}
use Rattle.std.proofs.GlobalToken.{dealloc_token-Testable}
use Rattle.std_alloc.specs.Box.Ownership.{box_owns}
pub use Rattle.c_keeper.specs.contracts.session.KeeperSession.{the_row as Session}
pub use Rattle.ds_submap.specs.contracts.map.SubMap.{the_row as Map}
pub use Rattle.c_store.specs.contracts.server_table.ServerTable.{the_row as Table}
pub use Rattle.c_desk.specs.contracts.board.Board.{the_row as Desk}
pub use Rattle.c_desk.specs.contracts.seat.Seat.{the_row as Seat}
pub use Rattle.c_bridge.specs.contracts.bridge.StoreBridge.{the_row as Bridge}
use Rattle.ds_c.specs.Held.{chunk, box_or_null, holds, holds_bridge, holds_desk, holds_map, holds_seat, holds_table}
use Rattle.ds_c.specs.contracts.handle.Handle as handle
use Rattle.ds_c.specs.contracts.map_handle.MapHandle as map_handle
use Rattle.ds_c.specs.contracts.table_handle.TableHandle as table_handle
use Rattle.ds_c.specs.contracts.desk_handle.DeskHandle as desk_handle
use Rattle.ds_c.specs.contracts.seat_handle.SeatHandle as seat_handle
use Rattle.ds_c.specs.contracts.bridge_handle.BridgeHandle as bridge_handle

abbrev pub word : Val → Val
word v = vstruct (vcons v vnil)

abbrev pub Handle : RattleType
Handle = handle.the_row

abbrev pub MapHandle : RattleType
MapHandle = map_handle.the_row

abbrev pub TableHandle : RattleType
TableHandle = table_handle.the_row

abbrev pub DeskHandle : RattleType
DeskHandle = desk_handle.the_row

abbrev pub SeatHandle : RattleType
SeatHandle = seat_handle.the_row

abbrev pub BridgeHandle : RattleType
BridgeHandle = bridge_handle.the_row

module _ {M : Type 1} {𝓤 : Ura M} (𝓛 : Logic 𝓤) (R : RattleType) (a : Global) where
  -- a box of the heap may be compared with null
  pub tested : (p : Ptr) (x : R.Denot) → ent 𝓤 (sem 𝓛 (box_owns chunk R p x)) (guard 𝓤 (Testable p) (sem 𝓛 (box_owns chunk R p x)))
  tested p x =
      fact_use 𝓤 (Testable p)
      (via 𝓤 _
      (snd∗ 𝓤 (sem 𝓛 (lies_at R full_share p x)) (sem 𝓛 (ghosts.dealloc_token a (bare (lone R.mir)) p)))
      (dealloc_token-Testable 𝓛 a (bare (lone R.mir)) p))
      (guard_i 𝓤 (Testable p) (sem 𝓛 (box_owns chunk R p x)))

module _ {M : Type 1} {𝓤 : Ura M} {𝓛 : Logic 𝓤} {K : Type 0} {Γ : List (Item 𝓤)} {G : Goal 𝓤 𝓛.H} where
  pub handle_out : K → (d : Handle.Denot) (vs : List Val) → (vs ≡ word (ptr_val d.at) ∷ [] → Seq K 𝓛 (‵ (holds d.at d.value) ∷ Γ) G) → Seq K 𝓛 (‵ (Handle.own_val d vs) ∷ Γ) G
  handle_out t d vs k = fsplit t $ fpick t (λ vss. fsplit t $ feq_l t (λ ev. fsplit t $ feq_l t (λ ep. drop t $ k (ev ∙ ap (λ (ps : List Val). vstruct (of_list (ps ++ [])) ∷ []) ep))))

  pub handle_in : K → (p : Ptr) (x : Option Session.Denot) → Step K 𝓛 (‵ (Handle.own_val (record { at = p; value = x }) (word (ptr_val p) ∷ [])) ∷ Γ) G (‵ (holds p x) ∷ Γ) G
  handle_in t p x = step (λ s. let v : Val = word (ptr_val p) in
      nothing t $ feq_i t (List Val) (ptr_val p ∷ []) (ptr_val p ∷ []) refl $ fjoin t $ feq_i t (List Val) (v ∷ []) (v ∷ []) refl $ fjoin t $
      fpack t (Valss (RawPtr ∷ [])) (within (shape handle.the_type) (p, tt) (v ∷ [])) (ptr_val p ∷ [], tt) $ fjoin t $ s)

  pub map_out : K → (d : MapHandle.Denot) (vs : List Val) → (vs ≡ word (ptr_val d.at) ∷ [] → Seq K 𝓛 (‵ (holds_map d.at d.value) ∷ Γ) G) → Seq K 𝓛 (‵ (MapHandle.own_val d vs) ∷ Γ) G
  map_out t d vs k = fsplit t $ fpick t (λ vss. fsplit t $ feq_l t (λ ev. fsplit t $ feq_l t (λ ep. drop t $ k (ev ∙ ap (λ (ps : List Val). vstruct (of_list (ps ++ [])) ∷ []) ep))))

  pub map_in : K → (p : Ptr) (x : Option Map.Denot) → Step K 𝓛 (‵ (MapHandle.own_val (record { at = p; value = x }) (word (ptr_val p) ∷ [])) ∷ Γ) G (‵ (holds_map p x) ∷ Γ) G
  map_in t p x = step (λ s. let v : Val = word (ptr_val p) in
      nothing t $ feq_i t (List Val) (ptr_val p ∷ []) (ptr_val p ∷ []) refl $ fjoin t $ feq_i t (List Val) (v ∷ []) (v ∷ []) refl $ fjoin t $
      fpack t (Valss (RawPtr ∷ [])) (within (shape map_handle.the_type) (p, tt) (v ∷ [])) (ptr_val p ∷ [], tt) $ fjoin t $ s)

  pub table_out : K → (d : TableHandle.Denot) (vs : List Val) → (vs ≡ word (ptr_val d.at) ∷ [] → Seq K 𝓛 (‵ (holds_table d.at d.value) ∷ Γ) G) → Seq K 𝓛 (‵ (TableHandle.own_val d vs) ∷ Γ) G
  table_out t d vs k = fsplit t $ fpick t (λ vss. fsplit t $ feq_l t (λ ev. fsplit t $ feq_l t (λ ep. drop t $ k (ev ∙ ap (λ (ps : List Val). vstruct (of_list (ps ++ [])) ∷ []) ep))))

  pub table_in : K → (p : Ptr) (x : Option Table.Denot) → Step K 𝓛 (‵ (TableHandle.own_val (record { at = p; value = x }) (word (ptr_val p) ∷ [])) ∷ Γ) G (‵ (holds_table p x) ∷ Γ) G
  table_in t p x = step (λ s. let v : Val = word (ptr_val p) in
      nothing t $ feq_i t (List Val) (ptr_val p ∷ []) (ptr_val p ∷ []) refl $ fjoin t $ feq_i t (List Val) (v ∷ []) (v ∷ []) refl $ fjoin t $
      fpack t (Valss (RawPtr ∷ [])) (within (shape table_handle.the_type) (p, tt) (v ∷ [])) (ptr_val p ∷ [], tt) $ fjoin t $ s)

  pub desk_out : K → (d : DeskHandle.Denot) (vs : List Val) → (vs ≡ word (ptr_val d.at) ∷ [] → Seq K 𝓛 (‵ (holds_desk d.at d.value) ∷ Γ) G) → Seq K 𝓛 (‵ (DeskHandle.own_val d vs) ∷ Γ) G
  desk_out t d vs k = fsplit t $ fpick t (λ vss. fsplit t $ feq_l t (λ ev. fsplit t $ feq_l t (λ ep. drop t $ k (ev ∙ ap (λ (ps : List Val). vstruct (of_list (ps ++ [])) ∷ []) ep))))

  pub desk_in : K → (p : Ptr) (x : Option Desk.Denot) → Step K 𝓛 (‵ (DeskHandle.own_val (record { at = p; value = x }) (word (ptr_val p) ∷ [])) ∷ Γ) G (‵ (holds_desk p x) ∷ Γ) G
  desk_in t p x = step (λ s. let v : Val = word (ptr_val p) in
      nothing t $ feq_i t (List Val) (ptr_val p ∷ []) (ptr_val p ∷ []) refl $ fjoin t $ feq_i t (List Val) (v ∷ []) (v ∷ []) refl $ fjoin t $
      fpack t (Valss (RawPtr ∷ [])) (within (shape desk_handle.the_type) (p, tt) (v ∷ [])) (ptr_val p ∷ [], tt) $ fjoin t $ s)

  pub seat_out : K → (d : SeatHandle.Denot) (vs : List Val) → (vs ≡ word (ptr_val d.at) ∷ [] → Seq K 𝓛 (‵ (holds_seat d.at d.value) ∷ Γ) G) → Seq K 𝓛 (‵ (SeatHandle.own_val d vs) ∷ Γ) G
  seat_out t d vs k = fsplit t $ fpick t (λ vss. fsplit t $ feq_l t (λ ev. fsplit t $ feq_l t (λ ep. drop t $ k (ev ∙ ap (λ (ps : List Val). vstruct (of_list (ps ++ [])) ∷ []) ep))))

  pub seat_in : K → (p : Ptr) (x : Option Seat.Denot) → Step K 𝓛 (‵ (SeatHandle.own_val (record { at = p; value = x }) (word (ptr_val p) ∷ [])) ∷ Γ) G (‵ (holds_seat p x) ∷ Γ) G
  seat_in t p x = step (λ s. let v : Val = word (ptr_val p) in
      nothing t $ feq_i t (List Val) (ptr_val p ∷ []) (ptr_val p ∷ []) refl $ fjoin t $ feq_i t (List Val) (v ∷ []) (v ∷ []) refl $ fjoin t $
      fpack t (Valss (RawPtr ∷ [])) (within (shape seat_handle.the_type) (p, tt) (v ∷ [])) (ptr_val p ∷ [], tt) $ fjoin t $ s)

  pub bridge_out : K → (d : BridgeHandle.Denot) (vs : List Val) → (vs ≡ word (ptr_val d.at) ∷ [] → Seq K 𝓛 (‵ (holds_bridge d.at d.value) ∷ Γ) G) → Seq K 𝓛 (‵ (BridgeHandle.own_val d vs) ∷ Γ) G
  bridge_out t d vs k = fsplit t $ fpick t (λ vss. fsplit t $ feq_l t (λ ev. fsplit t $ feq_l t (λ ep. drop t $ k (ev ∙ ap (λ (ps : List Val). vstruct (of_list (ps ++ [])) ∷ []) ep))))

  pub bridge_in : K → (p : Ptr) (x : Option Bridge.Denot) → Step K 𝓛 (‵ (BridgeHandle.own_val (record { at = p; value = x }) (word (ptr_val p) ∷ [])) ∷ Γ) G (‵ (holds_bridge p x) ∷ Γ) G
  bridge_in t p x = step (λ s. let v : Val = word (ptr_val p) in
      nothing t $ feq_i t (List Val) (ptr_val p ∷ []) (ptr_val p ∷ []) refl $ fjoin t $ feq_i t (List Val) (v ∷ []) (v ∷ []) refl $ fjoin t $
      fpack t (Valss (RawPtr ∷ [])) (within (shape bridge_handle.the_type) (p, tt) (v ∷ [])) (ptr_val p ∷ [], tt) $ fjoin t $ s)

  pub held : K → (R : RattleType) → Global → (p : Ptr) (x : Option R.Denot) → (p ≡ null_ptr → x ≡ None → Seq K 𝓛 Γ G)
      → ((b o : ℕ) (y : R.Denot) → p ≡ block_ptr b o → x ≡ Some y → Testable (block_ptr b o) → Seq K 𝓛 (‵ (box_owns chunk R (block_ptr b o) y) ∷ Γ) G) → Seq K 𝓛 (‵ (box_or_null R p x) ∷ Γ) G
  held t R a p None none some = feq_l t (λ e. none e refl)
  held t R a p (Some y) none some =
      in_a_block t p (λ q. box_owns chunk R q y) (fst∗ 𝓤 (never 𝓤) (sem 𝓛 (chunk (bare (lone R.mir)) null_ptr))) (λ b o e.
      use1 𝓛 (given (Testable (block_ptr b o)) (‵ (box_owns chunk R (block_ptr b o) y))) (tested 𝓛 R a (block_ptr b o) y) $ learn t (λ ok. some b o y e refl ok))
