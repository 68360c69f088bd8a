-- Scopes whose patterns were read, in the machine's terms.
use Rattle.ds_machine.specs.declared.command.Scope.{Scope}
use Rattle.ds_machine.specs.declared.command.Scope.TheVariants.{All, Under}
use Rattle.ds_store.specs.declared.scope.ScopeFilter.{ScopeFilter}
use Rattle.ds_store.specs.declared.scope.ScopeFilter.TheVariants as filters
use Rattle.ds_store.specs.declared.scope.ScopeAsker.{ScopeAsker}
use Rattle.ds_store.specs.declared.scope.ScopeAsker.TheVariants as askers

-- The scope that was read.
abbrev pub scope_of : ScopeFilter → Scope
scope_of filters.All = All
scope_of (filters.Under filter) = Under filter

-- The scope of a matcher.
abbrev pub asker_scope : ScopeAsker → Scope
asker_scope askers.All = All
asker_scope (askers.Under asker) = Under asker
