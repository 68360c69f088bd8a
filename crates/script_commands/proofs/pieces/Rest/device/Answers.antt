use Rattle.std.proofs.Common.{subst}
use Rattle.ds_line.specs.Piece.{Found}
use Rattle.script_commands.specs.ServicePieces.{a_server}
use Rattle.script_commands.specs.declared.service.Server.{Server}
use Rattle.script_commands.specs.Reads.{ReadsOr}
use Rattle.script_commands.proofs.DeviceLemmas.{device_server_stops, device_major_stops, device_class_stops, device_port_stops}
use Rattle.script_commands.proofs.DeviceLemmas.{device_file_found, device_net_found}
use Rattle.script_commands.proofs.ReadsLemmas.{exits, finds}
use Rattle.script_commands.proofs.pieces.Rest.device.Goals as goal

pub returns-in_err-server : goal.returns-in_err-server
unfolding ReadsOr
returns-in_err-server c =
    exits _ _ _ _ c.from_residual.ensures.1 c.in_err-server.ensures.room
    (device_server_stops c.in_err-server.field-0.0 c.args.self.now.bytes.now c.in_err-server.ensures.room c.in_err-server.ensures.stop)

pub returns-in_err-major-in-File : goal.returns-in_err-major-in-File
unfolding ReadsOr
returns-in_err-major-in-File c =
    let server = subst (λ (s : Server). Found a_server s c.args.self.now.bytes.now c.server.new.self.bytes.now) c.in-File.is
    c.in_ok-server.ensures.found in
    exits _ _ _ _ c.from_residual-in_err-major-in-File.ensures.1 c.in_err-major-in-File.ensures.room
    (device_major_stops c.in_err-major-in-File.field-0.0 c.args.self.now.bytes.now _ server c.in_err-major-in-File.ensures.room
    c.in_err-major-in-File.ensures.stop)

pub returns-in_err-class-in-File : goal.returns-in_err-class-in-File
unfolding ReadsOr
returns-in_err-class-in-File c =
    let server = subst (λ (s : Server). Found a_server s c.args.self.now.bytes.now c.server.new.self.bytes.now) c.in-File.is
    c.in_ok-server.ensures.found in
    exits _ _ _ _ c.from_residual-in_err-class-in-File.ensures.1 c.in_err-class-in-File.ensures.room
    (device_class_stops c.in_ok-major-in-File.major c.in_err-class-in-File.field-0.0 c.args.self.now.bytes.now _ _ server
    c.in_ok-major-in-File.ensures.found c.in_err-class-in-File.ensures.stop)

pub returns-in_err-port-in-Net : goal.returns-in_err-port-in-Net
unfolding ReadsOr
returns-in_err-port-in-Net c =
    let server = subst (λ (s : Server). Found a_server s c.args.self.now.bytes.now c.server.new.self.bytes.now) c.in-Net.is
    c.in_ok-server.ensures.found in
    exits _ _ _ _ c.from_residual-in_err-port-in-Net.ensures.1 c.in_err-port-in-Net.ensures.room
    (device_port_stops c.in_err-port-in-Net.field-0.0 c.args.self.now.bytes.now _ server c.in_err-port-in-Net.ensures.stop)

pub returns-in_ok-class-in-File : goal.returns-in_ok-class-in-File
unfolding ReadsOr
returns-in_ok-class-in-File c =
    let server = subst (λ (s : Server). Found a_server s c.args.self.now.bytes.now c.server.new.self.bytes.now) c.in-File.is
    c.in_ok-server.ensures.found in
    finds _ (device_file_found c.in_ok-major-in-File.major c.in_ok-class-in-File.class _ _ _ _ server c.in_ok-major-in-File.ensures.found
    c.in_ok-class-in-File.ensures.found)

pub returns-in_ok-port-in-Net : goal.returns-in_ok-port-in-Net
unfolding ReadsOr
returns-in_ok-port-in-Net c =
    let server = subst (λ (s : Server). Found a_server s c.args.self.now.bytes.now c.server.new.self.bytes.now) c.in-Net.is
    c.in_ok-server.ensures.found in
    finds _ (device_net_found c.in_ok-port-in-Net.port _ _ _ server c.in_ok-port-in-Net.ensures.found)
