use Rattle.std.proofs.Common.{◌≡◌, ℕ, ◌<◌, ◌≤◌, None, is_some, false, length, get_or}
use Rattle.ds_watch.proofs.subscriptions.Subscriptions.made.Given as goal

-- The flags so far are those of the places, padded with false.
abbrev pub invariant-loop-i : goal.invariant-loop-i
invariant-loop-i l = record {
  long : length l.made ≡ 128;
  places : length l.self-inside.places ≡ 128;
  done : (k : ℕ) → k < l.i → get_or l.made k false ≡ is_some (get_or l.self-inside.places k None);
  rest : (k : ℕ) → l.i ≤ k → get_or l.made k false ≡ false;
}
