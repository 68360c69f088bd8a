-- The end of a line that names a process.
use Rattle.std.specs.Prelude.{ℕ, List, [], ◌∷◌}
use Rattle.ds_names.specs.Endpoint.{EndpointRecord, endpoint_text}
use Rattle.ds_line.specs.Part.{part, texts, Endpoint}
use Rattle.ds_line.specs.Spelling.{newline}

-- The end of a process's line: its endpoint, and the newline.
abbrev pub process_end : EndpointRecord → List ℕ
process_end endpoint = texts (part Endpoint (endpoint_text endpoint) ∷ newline ∷ [])
