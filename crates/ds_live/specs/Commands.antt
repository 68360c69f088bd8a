-- The commands of the workers of a run.
use Rattle.std.specs.Prelude.{ℕ, ◌+◌, zero, suc, true, List, [], ◌∷◌, ◌++◌}
use Rattle.ds_names.specs.Endpoint.{EndpointRecord, endpoint_of}
use Rattle.ds_names.specs.Key.{label_key}
use Rattle.ds_names.specs.declared.key.Key.{Key}
use Rattle.ds_names.specs.declared.kind.Kind.TheVariants as kinds
use Rattle.ds_names.specs.declared.version.Version.{Version}
use Rattle.ds_entry.specs.declared.body.Value.TheVariants as values
use Rattle.ds_pattern.specs.declared.query.Query.{Query}
use Rattle.ds_machine.specs.declared.command.Command.{Command}
use Rattle.ds_machine.specs.declared.command.Command.TheVariants.{Publish}

-- The endpoint of a publisher: its generation is its number plus 1, its slot is its number plus 16.
abbrev pub publisher : ℕ → EndpointRecord
publisher index = endpoint_of (index + 1) (16 + index)

-- The name of a letter and a digit.
abbrev pub lettered : ℕ → ℕ → List ℕ
lettered letter index = letter ∷ (48 + index) ∷ []

abbrev pub version_of : ℕ → ℕ → Version
version_of epoch seq = record { epoch = epoch; seq = seq }

-- The command by which RS publishes the publisher's label, `p0` to `p7`, over any earlier one.
abbrev pub publisher_label : ℕ → Command
publisher_label index =
    Publish (endpoint_of 0 2) (label_key (lettered 112 index)) (version_of (index + 1) 0) (values.Label (publisher index)) true

-- The key of the publisher's number, `n0` to `n7`.
abbrev pub number_key : ℕ → Key
number_key index = record { name = lettered 110 index; kind = kinds.U32 }

abbrev pub publisher_number : ℕ → ℕ → Command
publisher_number index turn = Publish (publisher index) (number_key index) (version_of (index + 1) turn) (values.U32 turn) true

-- The query `.*` of all kinds.
abbrev pub every_key : Query
every_key = record { text = 46 ∷ 42 ∷ []; kinds = 15 }

-- The commands of the numbers below this one, in order.
abbrev pub each_below : (ℕ → Command) → ℕ → List Command
each_below command zero = []
each_below command (suc count) = each_below command count ++ command count ∷ []
