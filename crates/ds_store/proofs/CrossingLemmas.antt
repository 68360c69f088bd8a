-- A store may cross threads: its subscriptions and its journal may, and all else that it holds is plain data and lists of it.
use denote.Param.Send.{IsSend, IsSync, sendable}
use denote.Param.SendFields.{declared_send, declared_sync}
use Rattle.std.proofs.Crossing.{crosses, send, sync}
use Rattle.ds_index.proofs.marked.Marked.TheSendSync as marked
use Rattle.ds_feed.proofs.journal.Journal.TheSendSync as journal
use Rattle.ds_watch.proofs.masks.Masks.TheSendSync as masks
use Rattle.ds_watch.proofs.CrossingLemmas.{subscriptions_send, subscriptions_sync}
use Rattle.ds_content.specs.contracts.content.Content as Content
use Rattle.ds_content.specs.contracts.content.Content.TheInside as in_content
use Rattle.ds_store.specs.contracts.store.Store as Store
use Rattle.ds_store.specs.contracts.store.Store.TheInside as in_store

content_send : IsSend Content.the_row
content_send =
    let inside : IsSend in_content.the_row = declared_send in_content.the_type (
      search (send, sendable) depth 40,
      (
        search (marked.the_send, masks.the_send, sendable, crosses) depth 40,
        (
          search sendable depth 40,
          (
            search (journal.the_send, sendable) depth 40,
            (search sendable depth 40, (search (subscriptions_send, sendable) depth 40, tt)),
          ),
        ),
      ),
    ) in
    search (inside, sendable) depth 40

content_sync : IsSync Content.the_row
content_sync =
    let inside : IsSync in_content.the_row = declared_sync in_content.the_type (
      search (sync, sendable) depth 40,
      (
        search (marked.the_sync, masks.the_sync, sendable, crosses) depth 40,
        (
          search sendable depth 40,
          (
            search (journal.the_sync, sendable) depth 40,
            (search sendable depth 40, (search (subscriptions_sync, sendable) depth 40, tt)),
          ),
        ),
      ),
    ) in
    search (inside, sendable) depth 40

pub store_send : IsSend Store.the_row
store_send =
    let inside : IsSend in_store.the_row = declared_send in_store.the_type
    (search (send, sendable) depth 40, (search (content_send, crosses, sendable) depth 40, tt)) in
    search (inside, sendable) depth 40

pub store_sync : IsSync Store.the_row
store_sync =
    let inside : IsSync in_store.the_row = declared_sync in_store.the_type
    (search (sync, sendable) depth 40, (search (content_sync, crosses, sendable) depth 40, tt)) in
    search (inside, sendable) depth 40
