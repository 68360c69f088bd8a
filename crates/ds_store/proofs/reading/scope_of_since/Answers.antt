use Rattle.std.proofs.Common.{ℕ}
use Rattle.ds_feed.specs.Feed.{Feed}
use Rattle.ds_feed.specs.declared.cursor.Cursor.{Cursor}
use Rattle.ds_machine.specs.Calling.{against_page, against_since}
use Rattle.ds_machine.specs.declared.command.Scope.{Scope}
use Rattle.ds_machine.specs.declared.command.Scope.TheVariants.{All, Under}
use Rattle.ds_store.specs.Last.{ReadsPattern}
use Rattle.ds_store.proofs.reading.scope_of_since.Goals as goal

-- before its cursor, a Since is judged as a Page is
same_reading : (scope : Scope) (max : ℕ) (f : Feed) (at : Cursor) → ReadsPattern scope (against_page scope max) →
    ReadsPattern scope (against_since f scope at max)
same_reading All max f at h = h
same_reading (Under query) max f at h = h

pub returns-clause-last : goal.returns-clause-last
returns-clause-last c = λ e f at. same_reading c.args.scope.now c.args.max f at (c.scope_of_page.ensures.last e)
