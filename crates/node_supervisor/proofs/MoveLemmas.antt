-- Moves beside a store are those of a supervisor.
use Rattle.std.proofs.Common.{◌≡◌, [], ◌∷◌, Option, Some, None, refl, sym, ap, ◌∙◌, subst}
use Rattle.history.specs.History.{Path}
use Rattle.process_keeper.specs.declared.keeper.Keeper.{Keeper}
use Rattle.rs_core.specs.State.{RsRecord}
use Rattle.supervisor.specs.Moves.{IsMove, Move}
use Rattle.supervisor.proofs.AgreeLemmas.{leaders_stay, supervisors_agree}
use Rattle.node_supervisor.specs.Moves.{NodeState, Supervises, supervised_in, supervisor_of}
use Rattle.node_supervisor.specs.Moves.NodeMove.{Client, Supervise}
use Rattle.node_supervisor.specs.Laws.{NodeLeadersStay, NodesAgree, NodesAreReachable, NodesAreSupervisors}

abbrev GoesTo : RsRecord → Keeper → Move → Option RsRecord → Keeper → Type 0
GoesTo rs k m o l = (mid : RsRecord) × (o ≡ Some mid) × IsMove (supervisor_of rs k) m (supervisor_of mid l)

goes_on : (rs : RsRecord) (k l : Keeper) (m : Move) (o : Option RsRecord) → Supervises (Some rs) k m o l → GoesTo rs k m o l
goes_on rs k l m None h = absurd h
goes_on rs k l m (Some mid) h = (mid, refl, h)

pub nodes_are_supervisors : NodesAreSupervisors
nodes_are_supervisors s t [] rs e path =
    (rs, ap (λ (x : NodeState). x.node.services) (sym path) ∙ e, ap (λ (x : NodeState). supervisor_of rs x.keeper) path)
nodes_are_supervisors s t (Client c ∷ moves) rs e (u, ((reply, turn), same), path) =
    let r = nodes_are_supervisors u t moves rs (turn.1 ∙ e) path in
    (r.0, r.1, subst (λ (k : Keeper). Path IsMove (supervisor_of rs k) (supervised_in moves) (supervisor_of r.0 t.keeper)) same r.2)
nodes_are_supervisors s t (Supervise m ∷ moves) rs e (u, move, path) =
    let g = goes_on rs s.keeper u.keeper m u.node.services
    (subst (λ (o : Option RsRecord). Supervises o s.keeper m u.node.services u.keeper) e move) in
    let r = nodes_are_supervisors u t moves g.0 g.1 path in
    (r.0, r.1, (supervisor_of g.0 u.keeper, g.2, r.2))

pub nodes_are_reachable : NodesAreReachable
nodes_are_reachable s h =
    let r = nodes_are_supervisors h.first s h.moves h.began h.begins h.led in
    (r.0, r.1, record { first = supervisor_of h.began h.first.keeper; moves = supervised_in h.moves; new = h.new; led = r.2 })

pub nodes_agree : NodesAgree
nodes_agree s h =
    let r = nodes_are_reachable s h in
    (r.0, r.1, supervisors_agree (supervisor_of r.0 s.keeper) r.2)

pub node_leaders_stay : NodeLeadersStay
node_leaders_stay s t moves rs k p i e path n at is =
    let r = nodes_are_supervisors s t moves rs e path in
    leaders_stay (supervisor_of rs s.keeper) (supervisor_of r.0 t.keeper) (supervised_in moves) k p i r.2 n at is
