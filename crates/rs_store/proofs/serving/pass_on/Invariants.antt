use Rattle.std.proofs.Common.{◌≡◌, take, vec_capacity}
use Rattle.rs_store.specs.Serving.{TurnsFor}
use Rattle.rs_store.proofs.serving.pass_on.Given as goal

-- the store took its turns for the actions before the index
abbrev pub invariant-loop-index : goal.invariant-loop-index
invariant-loop-index l = record {
  turns : TurnsFor l.fn.store (take l.index l.actions) l.replies.items l.store;
  space : vec_capacity l.replies ≡ vec_capacity l.fn.replies;
}
