use Rattle.std.proofs.Common.{◌≡◌, ◌≤◌, length, take, drop}
use Rattle.ds_script.specs.Left.{text_left, after}
use Rattle.ds_script.proofs.place.keep.Given as goal

abbrev pub invariant-loop-index : goal.invariant-loop-index
invariant-loop-index l = record {
  few : l.kept ≤ l.index;
  same : length l.bytes ≡ length l.fn.bytes;
  kept : take l.kept l.bytes ≡ text_left l.fn.place (take l.index l.fn.bytes);
  rest : drop l.index l.bytes ≡ drop l.index l.fn.bytes;
  place : l.place ≡ after l.fn.place (take l.index l.fn.bytes);
}
