-- A follow, and the request after it.
use Rattle.std.proofs.Common.{◌≡◌, ℕ, ◌+◌, List, [], ◌∷◌, ◌++◌, take, Some, None, Result, Ok, Err, refl, sym, ap, ◌∙◌, append-nil}
use Rattle.std.specs.List.{slice_get}
use Rattle.std.proofs.lemmas.List.Concat.{flat_map-append}
use Rattle.ds_entry.specs.declared.item.Item.{Item}
use Rattle.driver_tables.specs.declared.fault.TableFault.{TableFault}
use Rattle.driver_tables.specs.declared.fault.TableFault.TheVariants.{Assigned, TwoIds, NoDevice, NotPending, OldEndpoint, NoRoom}
use Rattle.driver_tables.specs.declared.moves.Move.{Move}
use Rattle.driver_tables.specs.DriverTable.{DriverTable}
use Rattle.driver_tables.specs.Room.{LacksOnlyWhere, RequestTakesMemory}
use Rattle.driver_tables.specs.Run.{TableStep, Submit, one_move}
use Rattle.driver_tables.specs.Stands.{TableRecord, TableStands}
use Rattle.rs_to_store.specs.Following.{HasFollowed}
use Rattle.rs_to_store.specs.Submitting.{FollowedAndTaken, all_in}
use Rattle.rs_to_store.proofs.ListLemmas.{next_taken}

-- a follow that ended early, so that the request isn't taken; and a complete one
pub ended_before : (held : List Item) (id unit : ℕ) (old new : TableRecord) (before after : List (List Move)) (fault : TableFault)
    → HasFollowed held old new before after (Some fault) → FollowedAndTaken held id unit old new before after (Err fault)
ended_before held id unit old new before after fault followed t stands =
    let f = followed t stands in
    (f.0, f.1, f.2, record { mid = f.0; stop = Some fault; follows = f.3; takes = (refl, refl); room = tt }, f.4)

pub taken_after : (held : List Item) (id unit : ℕ) (old mid new : TableRecord) (before after : List (List Move))
    (own : Result (List Move) TableFault) → HasFollowed held old mid before after None
    → ((t : DriverTable) → TableStands mid t → (u : DriverTable) × TableStep t (Submit id unit) own u × TableStands new u)
    → ((t : DriverTable) → TableStands mid t → LacksOnlyWhere (RequestTakesMemory t id unit) own) →
    FollowedAndTaken held id unit old new before after own
taken_after held id unit old mid new before after own followed takes lacks t stands =
    let f = followed t stands in
    let done = takes f.0 f.4 in
    (done.0, f.1, f.2, record { mid = f.0; stop = None; follows = f.3; takes = done.1; room = lacks f.0 f.4 }, done.2)

-- memory ran out for a move only where it does for the list of it
pub one_lacks : (takes : Type 0) (answer : Result Move TableFault) → LacksOnlyWhere takes answer → LacksOnlyWhere takes (one_move answer)
one_lacks takes (Ok step) h = tt
one_lacks takes (Err NoRoom) h = h
one_lacks takes (Err Assigned) h = tt
one_lacks takes (Err TwoIds) h = tt
one_lacks takes (Err NoDevice) h = tt
one_lacks takes (Err NotPending) h = tt
one_lacks takes (Err OldEndpoint) h = tt

-- one more round
pub all_more : (rounds : List (List Move)) (i : ℕ) (round : List Move) → slice_get rounds i ≡ Some round →
    all_in (take (i + 1) rounds) ≡ all_in (take i rounds) ++ round
all_more rounds i round at =
    ap all_in (sym (next_taken rounds i round at)) ∙ flat_map-append (λ (l : List Move). l) (take i rounds) (round ∷ []) ∙
    ap (λ (l : List Move). all_in (take i rounds) ++ l) (append-nil round)
