-- The model of a table's fields.
use Rattle.driver_tables.specs.Stands.{TableRecord}
use Rattle.driver_tables.specs.declared.table.Table.TheInside.{Inside}

abbrev pub table_of : Inside → TableRecord
table_of t = record { devices = t.devices.entries; pending = t.pending.items; last = t.last }
