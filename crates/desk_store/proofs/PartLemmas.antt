-- The store's part of a history of RS and its store.
use Rattle.std.proofs.Common.{◌≡◌, ℕ, ◌==◌, Bool, true, false, cond, List, [], ◌∷◌, ◌++◌, length, Option, Some, None, refl, ap, ◌∙◌}
use Rattle.std.specs.List.{flat_map}
use Rattle.std.proofs.lemmas.List.{length-map, map-append}
use Rattle.std.proofs.lemmas.List.Concat.{flat_map-append}
use Rattle.std.proofs.lemmas.List.Elements.{filter-append}
use Rattle.history.specs.declared.entry.Entry.{Entry}
use Rattle.history.specs.History.{calls_by, entry}
use Rattle.ds_machine.specs.declared.command.Command.{Command}
use Rattle.ds_machine.specs.declared.reply.Reply.{Reply}
use Rattle.rs_to_store.specs.Asked.{command_of}
use Rattle.rs_core.specs.declared.action.Action.{Action}
use Rattle.rs_store.specs.Laws.{entries_by, entries_for, entry_if, store_entries}
use Rattle.rs_store.specs.declared.call.RsCommand.{RsCommand}
use Rattle.rs_store.specs.declared.call.RsCommand.TheVariants.{Ask, Begin, Tell}
use Rattle.rs_store.specs.declared.call.RsReply.{RsReply}
use Rattle.rs_store.specs.declared.call.RsReply.TheVariants.{Replied, NotAllowed, Begun, Exists, NotBegun, Acted, Refused}
use Rattle.desk_store.specs.PairRecord.{store_turn, store_turns}

-- ---- of two histories, one after the other
pub part_both : (xs ys : List (Entry RsCommand RsReply)) → store_entries (xs ++ ys) ≡ store_entries xs ++ store_entries ys
part_both xs ys = flat_map-append (λ (e : Entry RsCommand RsReply). entries_by e.pass e.command e.reply) xs ys

pub turns_both : (xs ys : List (Entry RsCommand RsReply)) → store_turns (xs ++ ys) ≡ store_turns xs ++ store_turns ys
turns_both xs ys = map-append store_turn xs ys

-- ---- by turns
pub turns_many : (es : List (Entry RsCommand RsReply)) → length (store_turns es) ≡ length es
turns_many es = length-map es store_turn

pub turns_join : (es : List (Entry RsCommand RsReply)) →
    flat_map (λ (xs : List (Entry Command Reply)). xs) (store_turns es) ≡ store_entries es
turns_join [] = refl
turns_join (e ∷ es) = ap (λ (l : List (Entry Command Reply)). store_turn e ++ l) (turns_join es)

-- ---- of one pass
abbrev no_part : List (Entry Command Reply)
no_part = []

none_of : (n : ℕ) (b : Bool) → calls_by n no_part ≡ cond b no_part []
none_of n true = refl
none_of n false = refl

one_of : (n m : ℕ) (b : Bool) → (m == n) ≡ b → (o : Option Command) (r : Option Reply) →
    calls_by n (entry_if m o r) ≡ cond b (entry_if m o r) []
one_of n m b is (Some command) (Some reply) = ap (λ (x : Bool). cond x (entry m command reply ∷ []) []) is
one_of n m b is (Some command) None = none_of n b
one_of n m b is None (Some reply) = none_of n b
one_of n m b is None None = none_of n b

both_of : (b : Bool) (xs ys : List (Entry Command Reply)) → cond b xs [] ++ cond b ys [] ≡ cond b (xs ++ ys) []
both_of true xs ys = refl
both_of false xs ys = refl

all_of : (n m : ℕ) (b : Bool) → (m == n) ≡ b → (actions : List Action) (replies : List (Option Reply)) →
    calls_by n (entries_for m actions replies) ≡ cond b (entries_for m actions replies) []
all_of n m b is (x ∷ actions) (r ∷ replies) =
    filter-append (λ (e : Entry Command Reply). e.pass == n) (entry_if m (command_of x) r) (entries_for m actions replies)
    ∙ ap (λ (l : List (Entry Command Reply)). l ++ calls_by n (entries_for m actions replies)) (one_of n m b is (command_of x) r)
    ∙ ap (λ (l : List (Entry Command Reply)). cond b (entry_if m (command_of x) r) [] ++ l) (all_of n m b is actions replies)
    ∙ both_of b (entry_if m (command_of x) r) (entries_for m actions replies)
all_of n m b is (x ∷ actions) [] = none_of n b
all_of n m b is [] (r ∷ replies) = none_of n b
all_of n m b is [] [] = none_of n b

turn_of : (n m : ℕ) (b : Bool) → (m == n) ≡ b → (command : RsCommand) (reply : RsReply) →
    calls_by n (entries_by m command reply) ≡ cond b (entries_by m command reply) []
turn_of n m b is (Ask command) (Replied reply) = ap (λ (x : Bool). cond x (entry m command reply ∷ []) []) is
turn_of n m b is (Ask command) NotAllowed = none_of n b
turn_of n m b is (Ask command) (Begun services slots) = none_of n b
turn_of n m b is (Ask command) Exists = none_of n b
turn_of n m b is (Ask command) (NotBegun fault) = none_of n b
turn_of n m b is (Ask command) (Acted actions replies given) = none_of n b
turn_of n m b is (Ask command) (Refused fault) = none_of n b
turn_of n m b is (Begin settings next first) (Replied reply) = none_of n b
turn_of n m b is (Begin settings next first) NotAllowed = none_of n b
turn_of n m b is (Begin settings next first) (Begun services slots) = none_of n b
turn_of n m b is (Begin settings next first) Exists = none_of n b
turn_of n m b is (Begin settings next first) (NotBegun fault) = none_of n b
turn_of n m b is (Begin settings next first) (Acted actions replies given) = none_of n b
turn_of n m b is (Begin settings next first) (Refused fault) = none_of n b
turn_of n m b is (Tell event tick) (Replied reply) = none_of n b
turn_of n m b is (Tell event tick) NotAllowed = none_of n b
turn_of n m b is (Tell event tick) (Begun services slots) = none_of n b
turn_of n m b is (Tell event tick) Exists = none_of n b
turn_of n m b is (Tell event tick) (NotBegun fault) = none_of n b
turn_of n m b is (Tell event tick) (Acted actions replies given) = all_of n m b is actions replies
turn_of n m b is (Tell event tick) (Refused fault) = none_of n b

kept_of : (b : Bool) (e : Entry RsCommand RsReply) (es : List (Entry RsCommand RsReply)) →
    cond b (store_turn e) [] ++ store_entries es ≡ store_entries (cond b (e ∷ es) es)
kept_of true e es = refl
kept_of false e es = refl

pub part_of : (n : ℕ) (es : List (Entry RsCommand RsReply)) → calls_by n (store_entries es) ≡ store_entries (calls_by n es)
part_of n [] = refl
part_of n (e ∷ es) =
    filter-append (λ (x : Entry Command Reply). x.pass == n) (store_turn e) (store_entries es)
    ∙ ap (λ (l : List (Entry Command Reply)). l ++ calls_by n (store_entries es)) (turn_of n e.pass (e.pass == n) refl e.command e.reply)
    ∙ ap (λ (l : List (Entry Command Reply)). cond (e.pass == n) (store_turn e) [] ++ l) (part_of n es)
    ∙ kept_of (e.pass == n) e (calls_by n es)
