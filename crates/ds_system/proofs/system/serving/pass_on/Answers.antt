use Rattle.std.proofs.Common.{◌≡◌, ℕ, ◌≤◌, ◌+◌, ◌++◌, ◌∷◌, List, [], length, take, Some, None, inl, inr, refl, sym, ap, subst, ◌∙◌, arith}
use Rattle.std.proofs.Common.{append_assoc, length-append}
use Rattle.std.specs.List.{slice_get}
use Rattle.std.specs.Option.{option_copied}
use Rattle.std.proofs.lemmas.List.{append-nil, take_all}
use Rattle.std.proofs.lemmas.Option.{slice_get_cases}
use Rattle.ds_entry.specs.Change.{ChangeRecord}
use Rattle.ds_machine.specs.declared.command.Command.{Command}
use Rattle.ds_machine.specs.declared.reply.Reply.{Reply}
use Rattle.rs_core.specs.declared.action.Action.{Action}
use Rattle.rs_core.specs.Action.{IsActionInPlace}
use Rattle.rs_core.specs.Run.{offers, offer_of}
use Rattle.rs_to_store.specs.Asked.{command_of, commands}
use Rattle.ds_system.specs.Effects.{AllAsked}
use Rattle.ds_system.proofs.ServeLemmas.{asked_more, asked_none, few_of, taken_by, all_at}
use Rattle.rs_to_store.proofs.ListLemmas.{less_taken}
use Rattle.ds_system.proofs.system.serving.pass_on.Goals as goal

pub note-requires-clause-room : goal.note-requires-clause-room
note-requires-clause-room c =
    let made : length c.loop-index.made.items ≡ length c.args.made.now.items + length (offers (take c.loop-index.index c.args.actions.now))
    =
    ap length c.loop-index.invariant.made ∙ length-append c.args.made.now.items (offers (take c.loop-index.index c.args.actions.now)) in
    let few = few_of offer_of (take c.loop-index.index c.args.actions.now) in
    let less = less_taken c.args.actions.now c.loop-index.index in
    omega (arith, made, few, less, c.len-index-end.ensures, c.loop-index-test.true, c.requires.room, c.loop-index.invariant.room)

pub ask-requires-clause-in_place : goal.ask-requires-clause-in_place
ask-requires-clause-in_place c =
    all_at IsActionInPlace c.args.actions.now c.loop-index.index c.in-Some.action.now c.requires.in_place
    (sym (subst (λ o. option_copied o ≡ slice_get c.args.actions.now c.loop-index.index) c.in-Some.is c.get.ensures))

pub ask-requires-clause-room : goal.ask-requires-clause-room
ask-requires-clause-room c =
    let each = c.loop-index.invariant.asked.one_each in
    let few = few_of command_of (take c.loop-index.index c.args.actions.now) in
    let less = less_taken c.args.actions.now c.loop-index.index in
    omega (arith, each, few, less, c.len-index-end.ensures, c.loop-index-test.true, c.requires.space, c.loop-index.invariant.space)

pub loop-index-preserved : goal.loop-index-preserved
loop-index-preserved c =
    let acts = c.args.actions.now in
    let i = c.loop-index.index in
    let x = c.in-Some.action.now in
    let at : slice_get acts i ≡ Some x = sym (subst (λ o. option_copied o ≡ slice_get acts i) c.in-Some.is c.get.ensures) in
    record {
      made = c.note.ensures.items ∙ (ap (λ (l : List ChangeRecord). l ++ offers (x ∷ [])) c.loop-index.invariant.made
          ∙ (append_assoc c.args.made.now.items (offers (take i acts)) (offers (x ∷ [])) ∙
          ap (λ (l : List ChangeRecord). c.args.made.now.items ++ l) (sym (taken_by offer_of acts i x at))));
      room = c.note.ensures.capacity ∙ c.loop-index.invariant.room;
      space = c.ask.ensures.capacity ∙ c.loop-index.invariant.space;
      asked = subst (λ (l : List Command). AllAsked c.args.side l c.ask.new.replies.items c.args.world.now c.ask.new.world)
          (sym (taken_by command_of acts i x at))
          (asked_more c.args.side (commands (take i acts)) c.loop-index.replies.items c.ask.new.replies.items c.args.world.now
          c.loop-index.world c.ask.new.world (command_of x) c.loop-index.invariant.asked c.ask.ensures.asked);
    }

pub note-requires-clause-in_place : goal.note-requires-clause-in_place
note-requires-clause-in_place c =
    all_at IsActionInPlace c.args.actions.now c.loop-index.index c.in-Some.action.now c.requires.in_place
    (sym (subst (λ o. option_copied o ≡ slice_get c.args.actions.now c.loop-index.index) c.in-Some.is c.get.ensures))

-- there is an action at each index below their count
pub unreachable-requires : goal.unreachable-requires
unreachable-requires c =
    let acts = c.args.actions.now in
    let none : None ≡ slice_get acts c.loop-index.index =
    subst (λ o. option_copied o ≡ slice_get acts c.loop-index.index) c.in_default.is c.get.ensures in
    elim (slice_get_cases acts c.loop-index.index).1 [
      | inl h ↦ (let no : None ≡ Some h.0 = none ∙ h.2 in absurd (cc))
      | inr h ↦ omega (arith, h.0, c.loop-index-test.true, c.len-index-end.ensures)
    ]

pub loop-index-init : goal.loop-index-init
loop-index-init c = record {
  made = sym (append-nil c.args.made.now.items);
  room = refl;
  space = refl;
  asked = subst (λ (l : List Reply). AllAsked c.args.side [] l c.args.world.now c.args.world.now) (sym c.requires.none)
      (asked_none c.args.side c.args.world.now);
}

pub returns-clause-made : goal.returns-clause-made
returns-clause-made c =
    let acts = c.args.actions.now in
    let end : length acts ≤ c.loop-index.index =
    subst (λ (n : ℕ). n ≤ c.loop-index.index) c.len-index-end.ensures c.loop-index-test.false in
    c.loop-index.invariant.made ∙ ap (λ (l : List Action). c.args.made.now.items ++ offers l) (take_all c.loop-index.index acts end)

pub returns-clause-asked : goal.returns-clause-asked
returns-clause-asked c =
    let acts = c.args.actions.now in
    let end : length acts ≤ c.loop-index.index =
    subst (λ (n : ℕ). n ≤ c.loop-index.index) c.len-index-end.ensures c.loop-index-test.false in
    subst (λ (l : List Action). AllAsked c.args.side (commands l) c.loop-index.replies.items c.args.world.now c.loop-index.world)
    (take_all c.loop-index.index acts end) c.loop-index.invariant.asked
