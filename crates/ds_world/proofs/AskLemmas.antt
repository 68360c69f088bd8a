-- What asking a store does to a world.
use Rattle.std.proofs.Common.{◌≡◌, ℕ, ◌<◌, ◌≤◌, nat_le, Bool, true, false, cond, ◌&&◌, List, [], ◌∷◌, ◌++◌, length, map, Option, Some, None}
use Rattle.std.proofs.Common.{is_some, refl, ap, sym, ◌∙◌, inl}
use Rattle.std.proofs.lemmas.List.{map-append}
use Rattle.ds_entry.specs.declared.item.Item.{Item}
use Rattle.ds_machine.specs.State.{State}
use Rattle.ds_machine.specs.Says.{IsAskedReply, IsSweepReply, IsRetrieveReply, IsNameReply, IsSubscribeReply, IsMergeReply, IsReplyTo}
use Rattle.ds_machine.specs.declared.command.Command.{Command}
use Rattle.ds_machine.specs.declared.command.Command.TheVariants.{Publish, Delete, Sweep, Retrieve, NameOf, Subscribe, Check, Since}
use Rattle.ds_machine.specs.declared.command.Command.TheVariants.{Snapshot, Page, Merge}
use Rattle.ds_machine.specs.declared.reply.Reply.{Reply}
use Rattle.ds_machine.specs.declared.reply.Reply.TheVariants.{Changed, Known, Swept, Found, Named, Subscribed, Merged, MergeStopped}
use Rattle.ds_machine.specs.declared.reply.Reply.TheVariants.{Refused}
use Rattle.ds_content.specs.Content.{ContentRecord}
use Rattle.ds_submap.specs.Map.{SubMapRecord}
use Rattle.ds_replica.specs.declared.event.Side.{Side}
use Rattle.ds_replica.specs.declared.event.Side.TheVariants.{A, B}
use Rattle.ds_replica.specs.declared.event.Event.TheVariants.{Ask}
use Rattle.ds_replica.specs.declared.outcome.Outcome.TheVariants.{Replied, Made, Refused as Rejected}
use Rattle.ds_replica.specs.declared.outcome.EventFault.{EventFault}
use Rattle.ds_replica.specs.declared.outcome.EventFault.TheVariants.{MessagesFull, NoRoom}
use Rattle.ds_replica.specs.World.{World, with_state, with_items}
use Rattle.ds_replica.specs.Happens.{gives_items, items_given, most_messages, ask_outcome}
use Rattle.ds_world.specs.World.{WorldRecord, world_of, WorldStands}
use Rattle.ds_world.specs.Run.{EventLeads}
use Rattle.ds_world.specs.Steps.{StoreSteps, LastOf}
use Rattle.ds_world.specs.Told.{IsAnswered, IsMessageKept}
use Rattle.ds_world.proofs.StandLemmas.{as_many_messages}
use Rattle.std.proofs.lemmas.Bool.{le-leb, lt-leb}

-- ---- replies without items
asked_none : (reply : Reply) → IsAskedReply reply → items_given reply ≡ None
asked_none (Changed owed) f = refl
asked_none Known f = refl
asked_none (Refused refusal) f = refl
asked_none _ f = absurd f

sweep_none : (reply : Reply) → IsSweepReply reply → items_given reply ≡ None
sweep_none (Swept count owed) f = refl
sweep_none (Refused refusal) f = refl
sweep_none _ f = absurd f

retrieve_none : (reply : Reply) → IsRetrieveReply reply → items_given reply ≡ None
retrieve_none (Found value) f = refl
retrieve_none (Refused refusal) f = refl
retrieve_none _ f = absurd f

name_none : (reply : Reply) → IsNameReply reply → items_given reply ≡ None
name_none (Named name) f = refl
name_none (Refused refusal) f = refl
name_none _ f = absurd f

subscribe_none : (reply : Reply) → IsSubscribeReply reply → items_given reply ≡ None
subscribe_none (Subscribed stamp owed) f = refl
subscribe_none (Refused refusal) f = refl
subscribe_none _ f = absurd f

merge_none : (reply : Reply) → IsMergeReply reply → items_given reply ≡ None
merge_none (Merged done taken stale owed) f = refl
merge_none (MergeStopped done fault owed) f = refl
merge_none (Refused refusal) f = refl
merge_none _ f = absurd f

not_true : true ≡ false → ⊥
not_true e = cc

-- a command whose reply has no items gets none
pub none_given : (command : Command) (reply : Reply) → gives_items command ≡ false → IsReplyTo command reply → items_given reply ≡ None
none_given (Publish caller key version value overwrite) reply e f = asked_none reply f
none_given (Delete caller key version) reply e f = asked_none reply f
none_given (Sweep caller owner generation) reply e f = sweep_none reply f
none_given (Retrieve key) reply e f = retrieve_none reply f
none_given (NameOf endpoint) reply e f = name_none reply f
none_given (Subscribe sub query initial overwrite) reply e f = subscribe_none reply f
none_given (Merge items) reply e f = merge_none reply f
none_given (Check sub max) reply e f = absurd (not_true e)
none_given (Since scope at max) reply e f = absurd (not_true e)
none_given (Snapshot scope) reply e f = absurd (not_true e)
none_given (Page scope after max) reply e f = absurd (not_true e)

-- a reply without items, and one with them
pub no_items : (o : Option (List Item)) → false ≡ is_some o → o ≡ None
no_items None e = refl
no_items (Some items) e = absurd (not_true (sym e))

pub some_items : (o : Option (List Item)) → true ≡ is_some o → (items : List Item) × (o ≡ Some items)
some_items None e = absurd (not_true e)
some_items (Some items) e = (items, refl)

-- ---- the store of a side
same_maps : (w : World) (side : Side) (s : State) → (with_state w side s).maps ≡ w.maps
same_maps w A s = refl
same_maps w B s = refl

same_messages : (w : World) (side : Side) (s : State) → (with_state w side s).messages ≡ w.messages
same_messages w A s = refl
same_messages w B s = refl

-- the fault against a command when there are this many messages
abbrev full_fault : Command → ℕ → Option EventFault
full_fault command many = cond (gives_items command && nat_le most_messages many) (Some MessagesFull) None

module _ (a b newa newb : ContentRecord) (maps : List SubMapRecord) (messages : List Reply) (side : Side) (command : Command)
    (reply : Reply) (steps : StoreSteps a b newa newb side command reply) where
  abbrev old : WorldRecord
  old = world_of a b maps messages

  -- the world afterwards, with the messages that there were
  asked : (w : World) (s : WorldStands old w) → WorldStands (world_of newa newb maps messages) (with_state w side (steps w s.a s.b).0)
  asked w s =
      let t = steps w s.a s.b in
      record {
        a = t.2;
        b = t.3;
        maps = same_maps w side t.0 ∙ s.maps;
        messages =
            s.messages ∙ ap (λ (l : List (List Item)). map Some l) (sym (same_messages w side t.0));
      }

  -- and with one more
  kept : (items : List Item) → items_given reply ≡ Some items → (w : World) (s : WorldStands old w) →
      WorldStands (world_of newa newb maps (messages ++ reply ∷ [])) (with_items (with_state w side (steps w s.a s.b).0) (Some items))
  kept items some w s =
      let t = steps w s.a s.b in
      let all = asked w s in
      record {
        a = t.2;
        b = t.3;
        maps = same_maps w side t.0 ∙ s.maps;
        messages =
            map-append items_given messages (reply ∷ []) ∙ ap (λ (o : Option (List Item)). map items_given messages ++ o ∷ []) some ∙
            ap (λ (l : List (Option (List Item))). l ++ Some items ∷ []) all.messages
            ∙ sym (map-append Some (with_state w side t.0).messages (items ∷ []));
      }

  -- nothing is kept of the reply
  pub replied : gives_items command && nat_le most_messages (length messages) ≡ false → items_given reply ≡ None →
      EventLeads (Ask side command) (Replied reply) old (world_of newa newb maps messages)
  replied free none w s =
      let t = steps w s.a s.b in (
        with_state w side t.0,
        (
          ap (full_fault command) (as_many_messages old w s) ∙ ap (λ x. cond x (Some MessagesFull) None) free,
          record {
            reply = reply;
            after = t.0;
            step = t.1;
            outcome_is = sym (ap (λ o. ask_outcome w reply o) none);
            world_is = sym (ap (with_items (with_state w side t.0)) none);
          },
        ),
        asked w s,
      )

  pub replied_so : gives_items command && nat_le most_messages (length messages) ≡ false → items_given reply ≡ None →
      LastOf a b side command reply → IsAnswered side command (Replied reply) reply old (world_of newa newb maps messages)
  unfolding replied
  replied_so free none last =
      record { asks = λ w s. (let r = replied free none w s in (r.1.0, r.0, r.1.1, refl, r.2)); last = λ w s. last w s.a s.b }

  -- the reply is kept
  module _ (items : List Item) (some : items_given reply ≡ Some items) where
    pub made : gives_items command ≡ true → length messages < most_messages →
        EventLeads (Ask side command) (Made (length messages)) old (world_of newa newb maps (messages ++ reply ∷ []))
    made gives few w s =
        let t = steps w s.a s.b in
        let free : gives_items command && nat_le most_messages (length messages) ≡ false =
        ap (λ x. gives_items command && x) (lt-leb most_messages (length messages) few) ∙ and_false (gives_items command) in (
          with_items (with_state w side t.0) (Some items),
          (
            ap (full_fault command) (as_many_messages old w s) ∙ ap (λ x. cond x (Some MessagesFull) None) free,
            record {
              reply = reply;
              after = t.0;
              step = t.1;
              outcome_is = ap Made (sym (as_many_messages old w s)) ∙ sym (ap (λ o. ask_outcome w reply o) some);
              world_is = sym (ap (with_items (with_state w side t.0)) some);
            },
          ),
          kept items some w s,
        )
      where
        and_false : (x : Bool) → x && false ≡ false
        and_false true = refl
        and_false false = refl

    pub made_so : gives_items command ≡ true → length messages < most_messages → LastOf a b side command reply →
        IsMessageKept side command (length messages) old (world_of newa newb maps (messages ++ reply ∷ []))
    unfolding made
    made_so gives few last =
        record {
          reply = reply;
          answered = record { asks = λ w s. (let m = made gives few w s in (m.1.0, m.0, m.1.1, refl, m.2)); last = λ w s. last w s.a s.b };
          next = refl;
          kept = refl;
        }

-- there is a place for one more message
pub few_free : (command : Command) (messages : List Reply) → length messages < most_messages →
    gives_items command && nat_le most_messages (length messages) ≡ false
few_free command messages few = ap (λ x. gives_items command && x) (lt-leb most_messages (length messages) few) ∙
    and_false (gives_items command)
  where
    and_false : (x : Bool) → x && false ≡ false
    and_false true = refl
    and_false false = refl

-- ---- an Ask that is refused before the store gets it
pub messages_full : (value : WorldRecord) (side : Side) (command : Command) → gives_items command ≡ true →
    most_messages ≤ length value.messages → EventLeads (Ask side command) (Rejected MessagesFull) value value
messages_full value side command gives full w s =
    let e : gives_items command && nat_le most_messages (length w.messages) ≡ true =
    ap (λ x. x && nat_le most_messages (length w.messages)) gives ∙ ap (λ n. nat_le most_messages n) (as_many_messages value w s) ∙
    le-leb most_messages (length value.messages) full in
    (w, (ap (λ x. cond x (Some MessagesFull) None) e, refl), s)

pub no_room_for_message : (value : WorldRecord) (side : Side) (command : Command) → gives_items command ≡ true →
    length value.messages < most_messages → EventLeads (Ask side command) (Rejected NoRoom) value value
no_room_for_message value side command gives few w s =
    let e : gives_items command && nat_le most_messages (length w.messages) ≡ false =
    ap (λ x. x && nat_le most_messages (length w.messages)) gives ∙ ap (λ n. nat_le most_messages n) (as_many_messages value w s) ∙
    lt-leb most_messages (length value.messages) few in
    (w, ((gives, inl (ap (λ x. cond x (Some MessagesFull) None) e)), refl), s)
