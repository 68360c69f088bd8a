use Rattle.c_holders.proofs.MapLemmas.{handles_are_maps}
use Rattle.c_holders.proofs.laws.maps_of_handles.Goals as goal

pub returns : goal.returns
returns c = handles_are_maps
