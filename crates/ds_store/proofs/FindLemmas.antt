-- What a Retrieve and a NameOf find, in the words of a store's content.
use Rattle.std.proofs.Common.{◌≡◌, ℕ, Bool, true, false, List, Option, Some, None, cond, ap, sym, refl, inl, inr}
use Rattle.std.specs.Option.{option_and_then, option_map}
use Rattle.ds_names.specs.declared.key.Key.{Key}
use Rattle.ds_names.specs.Endpoint.{EndpointRecord, is_rs}
use Rattle.ds_entry.specs.Change.{ValueCopyTakesMemory}
use Rattle.ds_entry.specs.Left.{value_of}
use Rattle.ds_entry.specs.declared.body.Value.{Value}
use Rattle.ds_entry.specs.declared.item.Item.{Item}
use Rattle.ds_machine.specs.Asking.{name_of}
use Rattle.ds_machine.specs.Machine.{Step, live_at, found_or}
use Rattle.ds_machine.specs.Parts.{held_at}
use Rattle.ds_machine.specs.State.{State, held}
use Rattle.ds_machine.specs.declared.command.Command.TheVariants.{Retrieve, NameOf}
use Rattle.ds_machine.specs.declared.refusal.Refusal.TheVariants.{NoRoom}
use Rattle.ds_machine.specs.declared.reply.Reply.TheVariants.{Found, Named, Refused}
use Rattle.ds_store.specs.Last.{IsLast}
use Rattle.ds_content.specs.Content.{ContentRecord}
use Rattle.ds_content.specs.Stands.{ContentStands, InEachState}
use Rattle.ds_store.specs.Finding.{label_name}
use Rattle.ds_store.specs.Turns.{Turn}

-- ---- a Retrieve

-- The live value of a key is that of the change that is held for it.
pub live_of : (v : ContentRecord) (s : State) (key : Key) → ContentStands v s →
    option_and_then value_of (held_at v.held key) ≡ live_at s key
live_of v s key stands = ap (λ (hs : List Item). option_and_then value_of (held_at hs key)) stands.held

pub retrieve_step : (s : State) (key : Key) (live : Option Value) → live ≡ live_at s key →
    Step s (Retrieve key) (found_or (option_map Found live)) s
retrieve_step s key live is = inl (inl (record { reply_is = ap (λ (o : Option Value). found_or (option_map Found o)) is; state_is = refl }))

found_last : (s : State) (key : Key) (live : Option Value) → IsLast s (Retrieve key) (found_or (option_map Found live))
found_last s key None = tt
found_last s key (Some value) = tt

-- The turn of a Retrieve that finds what is live.
pub retrieve_turn : (v : ContentRecord) (key : Key) (live : Option Value) → ((s : State) × ContentStands v s) →
    InEachState v (λ s. live ≡ live_at s key) → Turn v (Retrieve key) (found_or (option_map Found live)) v
retrieve_turn v key live stood is = record {
  stood = stood;
  steps = λ s stands. (s, retrieve_step s key live (is s stands), stands);
  last = λ s stands. found_last s key live;
}

-- The turn of a Retrieve that runs out of memory to copy the value.
pub copyless_turn : (v : ContentRecord) (key : Key) (value : Value) → ((s : State) × ContentStands v s) →
    InEachState v (λ s. Some value ≡ live_at s key) → ValueCopyTakesMemory value → Turn v (Retrieve key) (Refused NoRoom) v
copyless_turn v key value stood is takes = record {
  stood = stood;
  steps = λ s stands. (s, inl (inr (record { reply_is = refl; state_is = refl })), stands);
  last = λ s stands. (value, sym (is s stands), takes);
}

-- ---- a NameOf

label_is : (rs : Bool) (name : List ℕ) (o : Option (List ℕ)) → Some name ≡ cond rs None o → Some name ≡ o
label_is true name o e = absurd (cc)
label_is false name o e = e

-- The turn of a NameOf that finds the name of a label.
pub name_turn : (v : ContentRecord) (endpoint : EndpointRecord) (name : List ℕ) → ((s : State) × ContentStands v s) →
    InEachState v (λ s. Some name ≡ label_name s endpoint) → Turn v (NameOf endpoint) (Named name) v
name_turn v endpoint name stood is = record {
  stood = stood;
  steps = λ s stands. (
    s,
    inl (inl
        (record {
          reply_is = ap (λ (o : Option (List ℕ)). found_or (option_map Named o))
              (label_is (is_rs endpoint) name (name_of (held s) endpoint) (is s stands));
          state_is = refl;
        })),
    stands,
  );
  last = λ s stands. tt;
}
