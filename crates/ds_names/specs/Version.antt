-- How versions compare.
use Rattle.std.specs.declared.cmp.Ordering.{Ordering}
use Rattle.std.specs.Ordering.{nat_cmp, ordering_then}
use Rattle.ds_names.specs.declared.version.Version.{Version}

-- The order of versions: the epochs are compared first, then the sequence numbers.
abbrev pub version_cmp : Version → Version → Ordering
version_cmp v w = ordering_then (nat_cmp v.epoch w.epoch) (nat_cmp v.seq w.seq)
