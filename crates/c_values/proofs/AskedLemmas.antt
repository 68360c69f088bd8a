-- What is read of a request, and when it stands for no command.
use Rattle.std.proofs.Common.{◌≡◌, ◌≢◌, ℕ, Bool, true, false, List, [], refl, sym, ap, ◌∙◌, subst, inl, inr}
use Rattle.std.specs.Prelude.{◌||◌, Option, Some, None, Result, Ok, Err, IfOk, OnErr, IsTrue}
use Rattle.ds_entry.specs.declared.item.Item.{Item}
use Rattle.c_values.specs.declared.request.Request.{Request}
use Rattle.std.specs.Option.{option_map}
use Rattle.ds_names.specs.declared.key.Key.{Key}
use Rattle.ds_names.specs.declared.kind.Kind.{Kind}
use Rattle.c_values.specs.Request.{command_of, publish_of, key_of, key_of_parts, kind_at}
use Rattle.c_values.specs.Lines.{AreLines}
use Rattle.c_values.specs.Asked.{StandsForNone, is_long, has_text, ReadingTakesMemory, ReadsRequest}
use Rattle.ds_machine.specs.declared.command.Command.{Command}
use Rattle.ds_names.specs.declared.room.NoRoom.{NoRoom}

-- a request that isn't a Merge, nor any other command
pub none_of_parts : (r : Request) (text : List ℕ) → r.command ≢ 10 → command_of r text ≡ None → StandsForNone r text
none_of_parts r text other none command (inl is) = cc
none_of_parts r text other none command (inr merge) = other merge.number

-- the number of a Merge isn't any other command's
merge_alone : (r : Request) (text : List ℕ) → r.command ≡ 10 → command_of r text ≡ None
unfolding command_of
merge_alone r text ten = rw ten refl

-- a Merge whose text is the lines of no items
pub none_of_items : (r : Request) (text : List ℕ) → r.command ≡ 10 → ((items : List Item) → ¬ AreLines items text) → StandsForNone r text
none_of_items r text ten none command (inl is) = let alone : command_of r text ≡ None = merge_alone r text ten in cc
none_of_items r text ten none command (inr merge) = none merge.items merge.lines

-- the result of reading a request that isn't a Merge
pub of_parts : (r : Request) (text : List ℕ) (result : Result (Option Command) NoRoom) → r.command ≢ 10
    → IfOk result (λ (command : Option Command). command ≡ command_of r text) → OnErr result (IsTrue (has_text r)) →
    OnErr result (text ≢ []) → OnErr result (command_of r text ≢ None)
    → ReadsRequest r text result
of_parts r text (Ok None) other read room some fits = none_of_parts r text other (sym read)
of_parts r text (Ok (Some command)) other read room some fits = inl (sym read)
of_parts r text (Err wanting) other read room some fits = inl (room, some, fits)

-- ---- the kind of a key

kind_of_parts : (name : Option (List ℕ)) (kind : Option Kind) (key : Key) → key_of_parts name kind ≡ Some key → kind ≡ Some key.kind
kind_of_parts (Some n) (Some k) key e = ap (option_map (λ (x : Key). x.kind)) e
kind_of_parts (Some n) None key e = absurd (cc)
kind_of_parts None kind key e = absurd (cc)

-- a request whose key is of a text or a blob is long
pub long_by_key : (r : Request) (key : Key) → Some key ≡ key_of r → IsTrue (is_long (Some key.kind)) → IsTrue (is_long (kind_at r.kinds))
unfolding key_of
long_by_key r key e is = subst (λ (k : Option Kind). IsTrue (is_long k)) (sym (kind_of_parts _ (kind_at r.kinds) key (sym e))) is

-- ---- a Publish

pub publishes : (r : Request) (text : List ℕ) → r.command ≡ 0 → command_of r text ≡ publish_of r text
unfolding command_of
publishes r text zero = rw zero refl

or_left : (b c : Bool) → IsTrue b → IsTrue (b || c)
or_left true c is = refl
or_left false c is = absurd (cc)

has_long : (r : Request) → r.command ≡ 0 → IsTrue (is_long (kind_at r.kinds)) → IsTrue (has_text r)
has_long r zero is = rw zero (or_left (is_long (kind_at r.kinds)) _ is)

-- a Publish of a text or a blob that isn't empty takes memory
pub publish_takes_memory : (r : Request) (text : List ℕ) → r.command ≡ 0 → IsTrue (is_long (kind_at r.kinds)) → text ≢ [] →
    publish_of r text ≢ None → ReadingTakesMemory r text
publish_takes_memory r text zero is some asked = inl (has_long r zero is, some, λ none. asked (sym (publishes r text zero) ∙ none))
