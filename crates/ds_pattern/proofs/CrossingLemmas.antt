-- A filter, which holds a compiled pattern, may cross threads.
use denote.Param.Send.{IsSend, IsSync, sendable}
use denote.Param.SendFields.{declared_send, declared_sync}
use Rattle.std.proofs.Crossing.{crosses}
use Rattle.std.proofs.MapsCrossing as maps
use Rattle.regex_nfa.proofs.nfa.Nfa.TheSendSync as nfa
use Rattle.ds_names.proofs.kind.Kinds.TheSendSync as kinds
use Rattle.ds_pattern.specs.contracts.pattern.Pattern as Pattern
use Rattle.ds_pattern.specs.contracts.pattern.Pattern.TheInside as in_pattern
use Rattle.ds_pattern.specs.contracts.filter.Filter as Filter
use Rattle.ds_pattern.specs.contracts.filter.Filter.TheInside as in_filter

pattern_send : IsSend Pattern.the_row
pattern_send =
    let inside : IsSend in_pattern.the_row = declared_send in_pattern.the_type
    (search (sendable, maps.crosses) depth 40, (search (sendable, crosses, nfa.the_field_send) depth 40, (search sendable depth 40, tt))) in
    search (inside, sendable) depth 40

pub filter_send : IsSend Filter.the_row
filter_send =
    let inside : IsSend in_filter.the_row = declared_send in_filter.the_type
    (search (pattern_send, sendable) depth 40, (search (kinds.the_send, sendable) depth 40, tt)) in
    search (inside, sendable) depth 40

pattern_sync : IsSync Pattern.the_row
pattern_sync =
    let inside : IsSync in_pattern.the_row = declared_sync in_pattern.the_type
    (search (sendable, maps.crosses) depth 40, (search (sendable, crosses, nfa.the_field_sync) depth 40, (search sendable depth 40, tt))) in
    search (inside, sendable) depth 40

pub filter_sync : IsSync Filter.the_row
filter_sync =
    let inside : IsSync in_filter.the_row = declared_sync in_filter.the_type
    (search (pattern_sync, sendable) depth 40, (search (kinds.the_sync, sendable) depth 40, tt)) in
    search (inside, sendable) depth 40
