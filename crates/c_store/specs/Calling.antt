-- The effect of a line's command on a session.
use Rattle.std.specs.Prelude.{◌≡◌, ◌⊎◌, Bool, true, false, Option, None, Some, MatchOption}
use Rattle.script_commands.specs.declared.command.ScriptCommand.{ScriptCommand}
use Rattle.script_commands.specs.declared.command.ScriptCommand.TheVariants.{Show, All}
use Rattle.script_commands.specs.Command.{is_offer, store_command}
use Rattle.script_commands.specs.Wording.{wording}
use Rattle.c_values.specs.declared.answer.Answer.{Answer}
use Rattle.c_store.specs.declared.session.Session.{Session}
use Rattle.c_store.specs.Called.{Tells, RestsForNone, RestsForRoom, ShowsIfRoom}

-- Whether the command shows everything held, or only the puts. `None` if it shows nothing.
abbrev pub what_shows : ScriptCommand → Option Bool
what_shows Show = Some false
what_shows All = Some true
what_shows _ = None

-- Whether the store takes one step for the line's command. If the command isn't the store's, the answer says so. If memory runs out for
-- the list of an offer's item, the answer is a refusal.
abbrev pub LineAsks : ScriptCommand → Session → Answer → Session → Type 0
LineAsks command old answer new =
    MatchOption (store_command command) (RestsForNone old answer new) (λ asked. Tells old (wording command) asked answer new)
    ⊎ ((is_offer command ≡ true) × RestsForRoom old answer new)

-- Whether the command is carried out, as a show or by the store.
abbrev pub CarriesOut : ScriptCommand → Session → Answer → Session → Type 0
CarriesOut command old answer new =
    MatchOption (what_shows command) (LineAsks command old answer new) (λ all. ShowsIfRoom old all answer new)
