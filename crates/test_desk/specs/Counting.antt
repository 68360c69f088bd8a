-- The answers of a counter.
use Rattle.std.specs.Prelude.{◌≡◌, ℕ, ◌+◌, ◌%◌, ◌^◌}
use Rattle.test_desk.specs.declared.counter.Count.{Count}
use Rattle.test_desk.specs.declared.counter.Count.TheVariants.{Add, Read, Watch}
use Rattle.test_desk.specs.declared.counter.Counted.{Counted}
use Rattle.test_desk.specs.declared.counter.Counter.{Counter}

abbrev pub counted_after : Counter → Count → Counter
counted_after s (Watch watchers) = record { total = s.total; watchers = watchers }
counted_after s (Add amount) = record { total = (s.total + amount) % 2 ^ 64; watchers = s.watchers }
counted_after s Read = s

-- The reply to a command. An addition owes a notice to the watching subscriptions.
abbrev pub answer : Counter → Count → Counted
answer s (Watch watchers) = record { total = s.total; owed = 0 }
answer s (Add amount) = record { total = (s.total + amount) % 2 ^ 64; owed = s.watchers }
answer s Read = record { total = s.total; owed = 0 }

abbrev pub CounterStep : Counter → Count → Counted → Counter → Type 0
CounterStep s c r t = (r ≡ answer s c) × (t ≡ counted_after s c)

abbrev pub owes_of : Counted → ℕ
owes_of r = r.owed
