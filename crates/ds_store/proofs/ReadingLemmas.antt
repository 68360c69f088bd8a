-- The answers to readers.
use Rattle.std.proofs.Common.{◌≡◌, Option, None, refl, sym, ap, ◌∙◌, inl}
use Rattle.std.specs.Option.{option_map_or}
use Rattle.ds_machine.specs.State.{State}
use Rattle.ds_machine.specs.Machine.{Answers}
use Rattle.ds_machine.specs.declared.command.Command.{Command}
use Rattle.ds_machine.specs.declared.refusal.Refusal.{Refusal}
use Rattle.ds_machine.specs.declared.refusal.Refusal.TheVariants as refusals
use Rattle.ds_machine.specs.declared.reply.Reply.{Reply}
use Rattle.ds_machine.specs.declared.reply.Reply.TheVariants.{Refused}
use Rattle.ds_store.specs.Last.{IsLast, MayLackRoom}

-- if no refusal applies, the reply is the machine's, and changes nothing
pub free_answer : (s : State) (o : Option Refusal) (given reply : Reply) → o ≡ None → reply ≡ given →
    Answers s (option_map_or (λ (r : Refusal). (Refused r, s)) o (given, s)) reply s
free_answer s o given reply none same =
    let now : option_map_or (λ (r : Refusal). (Refused r, s)) o (given, s) ≡ (given, s) =
    ap (λ x. option_map_or (λ (r : Refusal). (Refused r, s)) x (given, s)) none in
    inl (record { reply_is = same ∙ sym (ap (λ (x : Reply × State). x.0) now); state_is = sym (ap (λ (x : Reply × State). x.1) now) })

-- a refusal comes last if it isn't lack of memory, or if that may be reported
pub refused_last : (s : State) (command : Command) (r : Refusal) → (r ≡ refusals.NoRoom → MayLackRoom s command) →
    IsLast s command (Refused r)
refused_last s command refusals.NoRoom may = may refl
refused_last s command refusals.BadSub may = tt
refused_last s command refusals.TooMany may = tt
refused_last s command refusals.TooLong may = tt
refused_last s command refusals.BadPattern may = tt
refused_last s command refusals.BadKind may = tt
refused_last s command refusals.BadLabel may = tt
refused_last s command refusals.BadVersion may = tt
refused_last s command refusals.NoCaller may = tt
refused_last s command refusals.NotAllowed may = tt
refused_last s command refusals.NotOwner may = tt
refused_last s command (refusals.Clash v) may = tt
refused_last s command refusals.Stale may = tt
refused_last s command refusals.Exists may = tt
refused_last s command refusals.NotFound may = tt
refused_last s command refusals.OldCursor may = tt
refused_last s command refusals.Ahead may = tt
refused_last s command refusals.Behind may = tt
refused_last s command refusals.Full may = tt
refused_last s command refusals.Worn may = tt
refused_last s command refusals.BadRing may = tt
refused_last s command refusals.BadFirst may = tt
