-- What a value of a world says of the worlds that it stands for.
use Rattle.std.proofs.Common.{◌≡◌, ℕ, suc, inl, inr, ◌≤◌, nat_lt, true, false, List, [], ◌∷◌, length, map, Option, Some, None, is_some}
use Rattle.std.proofs.Common.{refl, ap, sym, ◌∙◌, arith}
use Rattle.std.specs.List.{All, slice_get}
use Rattle.std.specs.Option.{option_map, option_and_then}
use Rattle.std.proofs.lemmas.Bool.Decides.{leb_tells}
use Rattle.std.proofs.lemmas.List.{length-map}
use Rattle.std.proofs.lemmas.List.Elements.{All-head, All-tail}
use Rattle.std.proofs.lemmas.Option.{slice_get-map}
use Rattle.ds_entry.specs.declared.item.Item.{Item}
use Rattle.ds_machine.specs.State.{State}
use Rattle.ds_machine.specs.declared.reply.Reply.{Reply}
use Rattle.ds_content.specs.Stands as contents
use Rattle.ds_replica.specs.declared.event.Side.TheVariants.{A, B}
use Rattle.ds_replica.specs.declared.event.Holder.{Holder}
use Rattle.ds_replica.specs.declared.event.Holder.TheVariants.{Store, Map}
use Rattle.ds_replica.specs.World.{MapState, World, map_held, held_by}
use Rattle.ds_replica.specs.Happens.{items_given}
use Rattle.ds_world.specs.World.{WorldRecord, held_in, map_state, HasItems, kept_items, WorldStands}

-- the map of a number, as the world has it
pub map_is : (value : WorldRecord) (w : World) (j : ℕ) → WorldStands value w →
    slice_get w.maps j ≡ option_map map_state (slice_get value.maps j)
map_is value w j s = ap (λ (l : List MapState). slice_get l j) s.maps ∙ slice_get-map map_state value.maps j

-- the items of the message of a number
flattened : (o : Option Reply) (m : Option (List Item)) → option_map items_given o ≡ option_map Some m → m ≡ option_and_then items_given o
flattened None None e = refl
flattened None (Some items) e = absurd (cc)
flattened (Some reply) None e = absurd (cc)
flattened (Some reply) (Some items) e = cc

pub message_is : (value : WorldRecord) (w : World) (k : ℕ) → WorldStands value w → slice_get w.messages k ≡ kept_items value.messages k
message_is value w k s =
    flattened (slice_get value.messages k) (slice_get w.messages k)
    (sym (slice_get-map items_given value.messages k) ∙ ap (λ (l : List (Option (List Item))). slice_get l k) s.messages ∙
    slice_get-map Some w.messages k)

pub as_many_messages : (value : WorldRecord) (w : World) → WorldStands value w → length w.messages ≡ length value.messages
as_many_messages value w s = sym (length-map w.messages Some) ∙ ap (λ (l : List (Option (List Item))). length l) (sym s.messages) ∙
    length-map value.messages items_given

-- and what holders hold
pub held_is : (value : WorldRecord) (w : World) (h : Holder) → WorldStands value w → held_by w h ≡ held_in value h
held_is value w (Store A) s = sym s.a.held
held_is value w (Store B) s = sym s.b.held
held_is value w (Map j) s = ap map_held (map_is value w j s)

-- if each message has items and both stores stand for states, the value stands for some world
items_there : (o : Option (List Item)) → is_some o ≡ true → (items : List Item) × (o ≡ Some items)
items_there None e = absurd (let n : false ≡ true = e in cc)
items_there (Some items) e = (items, refl)

pub all_items : (messages : List Reply) → All HasItems messages → (items : List (List Item)) × (map items_given messages ≡ map Some items)
all_items [] all = ([], refl)
all_items (reply ∷ messages) all =
    let one = items_there (items_given reply) (All-head HasItems reply messages all) in
    let rest = all_items messages (All-tail HasItems reply messages all) in (
      one.0 ∷ rest.0,
      ap (λ (o : Option (List Item)). o ∷ map items_given messages) one.1 ∙
          ap (λ (l : List (Option (List Item))). Some one.0 ∷ l) rest.1,
    )

pub some_world : (value : WorldRecord) (s t : State) → contents.ContentStands value.a s → contents.ContentStands value.b t →
    All HasItems value.messages → (w : World) × WorldStands value w
some_world value s t a b all =
    let items = all_items value.messages all in
    (record { a = s; b = t; maps = map map_state value.maps; messages = items.0 }, record { a = a; b = b; maps = refl; messages = items.1 })

-- ---- tests of numbers

pub lt_false : (m n : ℕ) → n ≤ m → nat_lt m n ≡ false
lt_false m n l = elim (leb_tells (suc m) n) [ inl y ↦ absurd (omega (arith, y.1, l)) | inr d ↦ d.0 ]
