use Rattle.std.proofs.Common.{◌≡◌, ◌++◌, take, vec_capacity}
use Rattle.rs_core.specs.Run.{offers}
use Rattle.rs_to_store.specs.Asked.{commands}
use Rattle.ds_system.specs.Effects.{AllAsked}
use Rattle.ds_system.proofs.system.serving.pass_on.Given as goal

-- the actions before the index were passed on
abbrev pub invariant-loop-index : goal.invariant-loop-index
invariant-loop-index l = record {
  made : l.made.items ≡ l.fn.made.items ++ offers (take l.index l.actions);
  room : vec_capacity l.made ≡ vec_capacity l.fn.made;
  space : vec_capacity l.replies ≡ vec_capacity l.fn.replies;
  asked : AllAsked l.side (commands (take l.index l.actions)) l.replies.items l.fn.world l.world;
}
