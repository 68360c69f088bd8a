use Rattle.std.proofs.Common.{◌≡◌, ◌≤◌, ◌*◌, ℕ, List, [], length, take, drop, map}
use Rattle.rs_settings.specs.Shared.{has_name, first_repeat}
use Rattle.rs_settings.specs.Draft.{service_of_draft}
use Rattle.rs_settings.proofs.SharedLemmas.{published}
use Rattle.rs_settings.proofs.shared.first_repeat.Given as goal

abbrev pub invariant-loop-i : goal.invariant-loop-i
invariant-loop-i l = record {
  value : first_repeat (published (take l.i l.drafts)) l.i (map service_of_draft (drop l.i l.drafts)) ≡ first_repeat [] 0
      (map service_of_draft l.drafts);
  same : (n : List ℕ) → has_name l.seen n ≡ has_name (published (take l.i l.drafts)) n;
  count : length l.seen ≤ 64 * l.i;
}
