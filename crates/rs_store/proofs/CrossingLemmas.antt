-- RS and its store may cross threads: the store may, and the rest is plain data and lists.
use denote.Param.Send.{IsSend, IsSync, sendable}
use denote.Param.SendFields.{declared_send, declared_sync}
use Rattle.std.proofs.Crossing.{crosses, send, sync}
use Rattle.ds_store.proofs.CrossingLemmas.{store_send, store_sync}
use Rattle.rs_core.proofs.rs.Rs.TheSendSync as rs
use Rattle.rs_store.specs.contracts.pair.RsStore as RsStore
use Rattle.rs_store.specs.contracts.pair.RsStore.TheInside as in_pair

pub pair_send : IsSend RsStore.the_row
pair_send =
    let inside : IsSend in_pair.the_row = declared_send in_pair.the_type
    (search (send, sendable) depth 40, (search (rs.the_send, crosses, sendable) depth 40, (search (store_send, sendable) depth 40, tt))) in
    search (inside, sendable) depth 40

pub pair_sync : IsSync RsStore.the_row
pair_sync =
    let inside : IsSync in_pair.the_row = declared_sync in_pair.the_type
    (search (sync, sendable) depth 40, (search (rs.the_sync, crosses, sendable) depth 40, (search (store_sync, sendable) depth 40, tt))) in
    search (inside, sendable) depth 40
