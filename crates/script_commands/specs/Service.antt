-- The words of lines for RS and driver tables: requests, servers, classes of devices, and devices.
use Rattle.std.specs.Prelude.{ℕ, ◌≤◌, List, [], ◌∷◌, codes, map}
use Rattle.std.specs.Fmt.{decimal}
use Rattle.driver_tables.specs.declared.file_table.FileClass.{FileClass}
use Rattle.driver_tables.specs.declared.file_table.FileClass.TheVariants.{Block, Character}
use Rattle.ds_line.specs.Part.{Part, part, byte, Word, Number}
use Rattle.ds_line.specs.Spelling.{space}
use Rattle.script_commands.specs.declared.service.Device.{Device}
use Rattle.script_commands.specs.declared.service.Device.TheVariants as devices
use Rattle.script_commands.specs.declared.service.Request.{Request}
use Rattle.script_commands.specs.declared.service.Request.TheVariants.{Up, Down, Refresh, Restart}
use Rattle.script_commands.specs.declared.service.Server.{Server}
use Rattle.script_commands.specs.declared.service.Server.TheVariants as servers

-- The word of a request: `up`, `down`, `refresh` or `restart`.
abbrev pub request_word : Request → List ℕ
request_word Up = codes "up"
request_word Down = codes "down"
request_word Refresh = codes "refresh"
request_word Restart = codes "restart"

-- The word of a server: `file` or `net`.
abbrev pub server_word : Server → List ℕ
server_word servers.File = codes "file"
server_word servers.Net = codes "net"

-- The word of a class: `block` or `character`.
abbrev pub class_word : FileClass → List ℕ
class_word Block = codes "block"
class_word Character = codes "character"

-- A file server's device by its major number and its class, a network server's by its port.
abbrev pub device_parts : Device → List Part
device_parts (devices.File major class) =
    part Word (server_word servers.File) ∷ space ∷ part Number (decimal major) ∷ space ∷ part Word (class_word class) ∷ []
device_parts (devices.Net port) = part Word (server_word servers.Net) ∷ space ∷ part Number (decimal port) ∷ []

-- Whether the device's number is at most 255.
abbrev pub IsDevice : Device → Type 0
IsDevice (devices.File major class) = major ≤ 255
IsDevice (devices.Net port) = port ≤ 255

-- The parts of a text that extends to the end of its line: one for each byte, since any byte can be read.
abbrev pub text_parts : List ℕ → List Part
text_parts text = map byte text
