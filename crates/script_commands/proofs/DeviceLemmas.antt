-- Devices: one is missing, or it is read.
use Rattle.std.proofs.Common.{◌≡◌, ◌≢◌, ℕ, suc, ◌<◌, List, ◌∷◌, length, refl, arith}
use Rattle.driver_tables.specs.declared.file_table.FileClass.{FileClass}
use Rattle.driver_tables.specs.declared.file_table.FileClass.TheVariants.{Block}
use Rattle.ds_line.specs.Spelling.{space}
use Rattle.ds_line.specs.FaultPlace.{Stand}
use Rattle.ds_line.specs.Piece.{Piece, Found, StopsIn}
use Rattle.ds_line.specs.declared.part_fault.PartFault.{PartFault}
use Rattle.ds_line.specs.declared.part_fault.PartFault.TheVariants.{NoRoom}
use Rattle.ds_line.proofs.PieceLemmas.{past, One, Goes, Views, first_stops, then_stops, view_stops, both_found, view_found}
use Rattle.script_commands.specs.Service.{device_parts, IsDevice}
use Rattle.script_commands.specs.ServicePieces.{a_class, a_device, a_server, a_unit}
use Rattle.script_commands.specs.declared.service.Device.{Device}
use Rattle.script_commands.specs.declared.service.Device.TheVariants as devices
use Rattle.script_commands.specs.declared.service.Server.{Server}
use Rattle.script_commands.specs.declared.service.Server.TheVariants.{File, Net}
use Rattle.script_commands.proofs.OneLemmas.{one_after, one_view}
use Rattle.script_commands.proofs.OpenLemmas.{Apart}
use Rattle.script_commands.proofs.ServicePieceLemmas.{server_fixed, server_one, class_one, unit_fixed, unit_one}

-- ---- a server, and what follows its word

abbrev pub device_rest : Server → Piece
device_rest File = past a_unit (λ (_ : ℕ). a_class)
device_rest Net = a_unit

abbrev served : Piece
served = past a_server device_rest

device_of : (server : Server) → (device_rest server).Of → Device
device_of File x = devices.File x.0 x.1
device_of Net port = devices.Net port

device_can : (server : Server) (x : (device_rest server).Of) → (device_rest server).Can x → IsDevice (device_of server x)
unfolding device_of
device_can File x can = can.0
device_can Net x can = can

device_same : (server : Server) (x : (device_rest server).Of) → a_device.parts (device_of server x) ≡ served.parts (server, x)
unfolding device_of
device_same File x = refl
device_same Net x = refl

device_from : (device : Device) → IsDevice device → (a : served.Of) × served.Can a × (served.parts a ≡ a_device.parts device)
device_from (devices.File major class) is = ((File, (major, class)), (tt, (is, tt)), refl)
device_from (devices.Net port) is = ((Net, port), (tt, is), refl)

abbrev device_view : Views served a_device
device_view = record {
  to = λ x. device_of x.0 x.1;
  can = λ x can. device_can x.0 x.1 can.1;
  parts = λ x can. device_same x.0 x.1;
  from = device_from;
}

device_back : (device : Device) (is : IsDevice device) → device_view.to (device_from device is).0 ≡ device
unfolding device_of device_from
device_back (devices.File major class) is = refl
device_back (devices.Net port) is = refl

device_goes : Goes a_server device_rest
device_goes File can = ((0, Block), (omega arith, tt))
device_goes Net can = (0, omega arith)

-- ---- a device can't be read

-- the server is missing
pub device_server_stops : (stop : PartFault) (bytes : List ℕ) → stop ≢ NoRoom → StopsIn a_server stop bytes → StopsIn a_device stop bytes
device_server_stops stop bytes room s =
    view_stops served a_device device_view stop bytes (first_stops a_server device_rest 2 stop bytes server_fixed device_goes room s)

-- what has to follow a server is missing
after_server : (server : Server) (stop : PartFault) (bytes r : List ℕ) → Found a_server server bytes r →
    StopsIn (device_rest server) stop r → StopsIn a_device stop bytes
after_server server stop bytes r found s =
    view_stops served a_device device_view stop bytes
    (then_stops a_server device_rest 2 stop server bytes r server_fixed server_one found s)

-- the major number is missing
pub device_major_stops : (stop : PartFault) (bytes r : List ℕ) → Found a_server File bytes r → stop ≢ NoRoom → StopsIn a_unit stop r →
    StopsIn a_device stop bytes
device_major_stops stop bytes r found room s =
    after_server File stop bytes r found (first_stops a_unit (λ _. a_class) 2 stop r unit_fixed (λ n can. (Block, tt)) room s)

-- the class is missing
pub device_class_stops : (major : ℕ) (stop : PartFault) (bytes r t : List ℕ) → Found a_server File bytes r → Found a_unit major r t →
    StopsIn a_class stop t → StopsIn a_device stop bytes
device_class_stops major stop bytes r t found number s =
    after_server File stop bytes r found (then_stops a_unit (λ _. a_class) 2 stop major r t unit_fixed unit_one number s)

-- the port is missing
pub device_port_stops : (stop : PartFault) (bytes r : List ℕ) → Found a_server Net bytes r → StopsIn a_unit stop r →
    StopsIn a_device stop bytes
device_port_stops stop bytes r found s = after_server Net stop bytes r found s

-- ---- a device is read

pub device_file_found : (major : ℕ) (class : FileClass) (bytes r t rest : List ℕ) → Found a_server File bytes r → Found a_unit major r t →
    Found a_class class t rest → Found a_device (devices.File major class) bytes rest
unfolding device_of
device_file_found major class bytes r t rest server number f =
    view_found served a_device device_view (File, (major, class)) bytes rest
    (both_found a_server device_rest File (major, class) bytes r rest server
    (both_found a_unit (λ _. a_class) major class r t rest number f))

pub device_net_found : (port : ℕ) (bytes r rest : List ℕ) → Found a_server Net bytes r → Found a_unit port r rest →
    Found a_device (devices.Net port) bytes rest
unfolding device_of
device_net_found port bytes r rest server number =
    view_found served a_device device_view (Net, port) bytes rest (both_found a_server device_rest Net port bytes r rest server number)

rest_one : (server : Server) → One (device_rest server)
rest_one File = one_after a_unit (λ _. a_class) unit_one (λ _. class_one)
rest_one Net = unit_one

pub device_one : One a_device
device_one = one_view served a_device device_view (one_after a_server device_rest server_one rest_one) device_back

-- two servers at one front are the same
no_two : (bytes r s : List ℕ) → Found a_server Net bytes r → ¬ Found a_server File bytes s
no_two bytes r s net file = let same : File ≡ Net = (server_one Net File bytes r s net file).0 in absurd (cc)

devices_apart : (a b : Device) (bytes r after : List ℕ) → Found a_device a bytes r → IsDevice b
    → length (space ∷ device_parts a) < length (space ∷ device_parts b) →
    Stand (suc (length (space ∷ device_parts a))) (space ∷ device_parts b) bytes after → ⊥
devices_apart (devices.File major class) (devices.File other kind) bytes r after f can lt h = omega (arith, lt)
devices_apart (devices.File major class) (devices.Net port) bytes r after f can lt h = omega (arith, lt)
devices_apart (devices.Net port) (devices.Net other) bytes r after f can lt h = omega (arith, lt)
devices_apart (devices.Net port) (devices.File major class) bytes r after f can lt h =
    no_two bytes f.front.2.0 h.2.0 (record { can = tt; front = (f.front.0, f.front.1, (f.front.2.0, f.front.2.1, refl)) })
    (record { can = tt; front = (h.0, h.1, (h.2.0, h.2.1, refl)) })

-- no device extends another at the same front
pub device_apart : Apart a_device
device_apart = devices_apart
