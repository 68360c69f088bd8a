use Rattle.c_holders.proofs.laws.handles_agree.Goals as goal

pub returns : goal.returns
returns c = record {
  stores = c.stores_of_handles.ensures;
  maps = c.maps_of_handles.ensures;
  two = c.two_holders_agree.ensures.two;
  held = c.two_holders_agree.ensures.held;
  all = c.two_holders_agree.ensures.all;
}
