-- Handles of C agree: what the calls that open them name.
use Rattle.holders.specs.Agree.{TwoAgree, TwoAgreeByHeld, AllAgree}
use Rattle.c_holders.specs.Handles.{HandlesAreStores}
use Rattle.c_holders.specs.Maps.{HandlesAreMaps}

-- A law: stores and maps of handles know just what their calls brought, and any two holders, or any number, in one process or on many
-- hosts, hold the same under a query if each knows there what the others know, and that is exact, or what is held is.
pub record HandlesAgree : Type 0 where
  pub stores : HandlesAreStores
  pub maps : HandlesAreMaps
  pub two : TwoAgree
  pub held : TwoAgreeByHeld
  pub all : AllAgree
