-- RS and its store while the store is lent.
use Rattle.std.specs.Borrow.{Lends, MutBor, Fml}
use Rattle.ds_content.specs.Content.{ContentRecord}
use Rattle.ds_store.specs.contracts.store.Store.{the_row as store_row}
use Rattle.rs_store.specs.Pair.{PairRecord, pair_of}
use Rattle.rs_store.specs.contracts.pair.RsStore.{the_row}

-- RS is unchanged, and the store has the value that was left in the reference.
abbrev pub LendsStore : MutBor PairRecord → MutBor ContentRecord → Fml
LendsStore p r = Lends the_row store_row p r (pair_of p.now.services)
