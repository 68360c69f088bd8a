-- RS and its store.
use Rattle.std.specs.Prelude.{Option}
use Rattle.rs_core.specs.State.{RsRecord}
use Rattle.ds_content.specs.Content.{ContentRecord}

pub record PairRecord : Type 0 where
  -- what RS knows, once it has begun
  pub services : Option RsRecord
  -- the content of the store
  pub store : ContentRecord

abbrev pub pair_of : Option RsRecord → ContentRecord → PairRecord
pair_of services store = record { services = services; store = store }
