use Rattle.std.proofs.Common.{Err, ap, ◌∙◌}
use Rattle.std.specs.Option.{option_map}
use Rattle.ds_feed.specs.Since.{since_of, IsGiven}
use Rattle.ds_machine.specs.Calling.{against_since}
use Rattle.ds_machine.specs.Order.{first_refusal}
use Rattle.ds_machine.specs.Scope.{is_kept}
use Rattle.ds_machine.specs.declared.command.Command.TheVariants as commands
use Rattle.ds_machine.specs.declared.command.Scope.{Scope}
use Rattle.ds_machine.specs.declared.reply.Reply.TheVariants.{Journaled}
use Rattle.ds_store.specs.Refused.{refusal_of_journal}
use Rattle.ds_store.specs.Scopes.{scope_of}
use Rattle.ds_store.proofs.RoomLemmas.{pattern_may}
use Rattle.ds_store.proofs.ReadingLemmas.{free_answer, refused_last}
use Rattle.ds_store.proofs.store.Store.since.Goals as goal

pub returns-in-Err-clause-last : goal.returns-in-Err-clause-last
returns-in-Err-clause-last c = λ s stands.
    refused_last s (commands.Since c.args.scope.now c.args.cursor c.args.max) c.in-Err.refusal
    (λ e. pattern_may c.args.scope.now (against_since s.feed c.args.scope.now c.args.cursor c.args.max) _
    (c.in-Err.ensures.last (ap Err e) s.feed c.args.cursor))

pub returns-in-Ok-give_since-clause-answer : goal.returns-in-Ok-give_since-clause-answer
returns-in-Ok-give_since-clause-answer c = λ s stands.
    let given : IsGiven s.feed (is_kept (scope_of c.in-Ok.filter)) c.args.cursor c.args.max c.in-Ok-give_since.since =
    c.in-Ok-give_since.ensures.given s stands in
    free_answer s (first_refusal (against_since s.feed c.args.scope.now c.args.cursor c.args.max))
    (Journaled (since_of s.feed (is_kept c.args.scope.now) c.args.cursor c.args.max)) (Journaled c.in-Ok-give_since.since)
    (c.in-Ok.ensures.none s.feed c.args.cursor ∙ ap (option_map refusal_of_journal) given.reached)
    (ap Journaled (given.given ∙ ap (λ (x : Scope). since_of s.feed (is_kept x) c.args.cursor c.args.max) c.in-Ok.ensures.read))
