-- The script that brings a session's current store back.
use Rattle.std.specs.Prelude.{ℕ, suc, nat_lt, cond, List, [], ◌∷◌, ◌++◌, map, Option, Some, None}
use Rattle.std.specs.List.{flat_map}
use Rattle.std.specs.Option.{option_map_or}
use Rattle.ds_line.specs.Part.{texts}
use Rattle.ds_replica.specs.declared.event.Side.TheVariants.{A}
use Rattle.script_commands.specs.Command.{command_parts}
use Rattle.script_commands.specs.declared.command.ScriptCommand.{ScriptCommand}
use Rattle.script_commands.specs.declared.command.ScriptCommand.TheVariants.{Offer, Restart}
use Rattle.ds_script.specs.Session.{SessionContent, held_of}

-- The later one of two incarnations.
abbrev pub later_of : ℕ → ℕ → ℕ
later_of a b = cond (nat_lt a b) b a

-- The incarnation after those of both stores, if it is below 2^64.
abbrev pub next_incarnation : SessionContent → Option ℕ
next_incarnation session =
    let last : ℕ = later_of session.world.a.journal.incarnation session.world.b.journal.incarnation in
    cond (nat_lt last 18446744073709551615) (Some (suc last)) None

-- The command that gives the store of side a the incarnation, or none.
abbrev pub restarting : Option ℕ → List ScriptCommand
restarting incarnation = option_map_or (λ n. Restart A n ∷ []) incarnation []

-- The commands of the script: another incarnation, and the offer of each item that the current store holds, in order.
abbrev pub saved_commands : SessionContent → List ScriptCommand
saved_commands session = restarting (next_incarnation session) ++ map Offer (held_of session)

-- The line of a command, newline included.
abbrev pub command_line : ScriptCommand → List ℕ
command_line command = texts (command_parts command)

-- The script: the lines of its commands.
abbrev pub saved_script : SessionContent → List ℕ
saved_script session = flat_map command_line (saved_commands session)
