-- The pieces of lines for RS and driver tables, as their readers find them.
use Rattle.std.specs.Prelude.{ℕ, ◌≤◌, List, [], ◌∷◌, ◌++◌}
use Rattle.std.specs.Fmt.{decimal}
use Rattle.driver_tables.specs.declared.file_table.FileClass.{FileClass}
use Rattle.ds_line.specs.Part.{part, Word, Number}
use Rattle.ds_line.specs.Spelling.{space, newline}
use Rattle.ds_line.specs.Piece.{Piece}
use Rattle.line_io.specs.Lines.{IsUnbroken}
use Rattle.script_commands.specs.Service.{class_word, device_parts, IsDevice, request_word, server_word, text_parts}
use Rattle.script_commands.specs.declared.service.Device.{Device}
use Rattle.script_commands.specs.declared.service.Request.{Request}
use Rattle.script_commands.specs.declared.service.Server.{Server}

-- The rest of the line, with its newline.
abbrev pub a_text : Piece
a_text = record { Of = List ℕ; Can = IsUnbroken; parts = λ (text : List ℕ). space ∷ (text_parts text ++ newline ∷ []) }

abbrev pub a_request : Piece
a_request = record {
  Of = Request;
  Can = λ (request : Request). Unit {0};
  parts = λ (request : Request). space ∷ part Word (request_word request) ∷ [];
}

abbrev pub a_server : Piece
a_server = record {
  Of = Server;
  Can = λ (server : Server). Unit {0};
  parts = λ (server : Server). space ∷ part Word (server_word server) ∷ [];
}

-- The class of a file server's device.
abbrev pub a_class : Piece
a_class = record {
  Of = FileClass;
  Can = λ (class : FileClass). Unit {0};
  parts = λ (class : FileClass). space ∷ part Word (class_word class) ∷ [];
}

-- A major number or a port.
abbrev pub a_unit : Piece
a_unit = record { Of = ℕ; Can = λ (n : ℕ). n ≤ 255; parts = λ (n : ℕ). space ∷ part Number (decimal n) ∷ [] }

abbrev pub a_device : Piece
a_device = record { Of = Device; Can = IsDevice; parts = λ (device : Device). space ∷ device_parts device }
