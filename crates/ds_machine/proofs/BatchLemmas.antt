-- A merge in which no cause applies to any item at its turn, in parts.
use Rattle.std.proofs.Common.{◌≡◌, ℕ, zero, suc, ◌<◌, ◌≤◌, ◌==◌, Bool, true, not, cond, max, ◌||◌, nat_le, List, [], ◌∷◌, ◌++◌, length}
use Rattle.std.proofs.Common.{Option, Some, None, refl, ap, sym, ◌∙◌, subst, inl, arith, append_assoc, append-nil}
use Rattle.std.specs.Int.{bit_at}
use Rattle.std.specs.Int.Bits.{bit_or}
use Rattle.std.proofs.lemmas.Bool.{false≢true}
use Rattle.std.proofs.lemmas.List.Folds.{list_any-append}
use Rattle.std.proofs.lemmas.Bool.Decides.{nat_tests}
use Rattle.std.proofs.lemmas.Nat.Bits.{bit_at_or, bit_at-lt, same_from_bits}
use Rattle.ds_entry.specs.declared.item.Item.{Item}
use Rattle.ds_watch.specs.Mask.{has_bit}
use Rattle.ds_machine.specs.Calling.{against_merge}
use Rattle.ds_names.specs.Limits.{most_items}
use Rattle.ds_machine.specs.Machine.{outcome}
use Rattle.ds_machine.specs.Merging.{Course, course, merging, merge_reply}
use Rattle.ds_machine.specs.Order.{first_refusal}
use Rattle.ds_entry.specs.Item.{passes}
use Rattle.ds_pattern.specs.Under.{is_under}
use Rattle.ds_machine.specs.State.{State, takes_effect, owed, subscription_at}
use Rattle.ds_machine.specs.Subscription.{Subscription, is_owed}
use Rattle.ds_machine.specs.declared.command.Command.TheVariants.{Merge}
use Rattle.ds_machine.specs.declared.refusal.Refusal.{Refusal}
use Rattle.ds_machine.specs.declared.refusal.Refusal.TheVariants as refusals
use Rattle.ds_machine.specs.declared.reply.Reply.{Reply}
use Rattle.ds_machine.specs.declared.reply.Reply.TheVariants.{Merged}
use Rattle.ds_machine.proofs.SaysLemmas.{owed_tells}
use Rattle.ds_machine.specs.Batches.{AreFree, FreeInParts, FreeAreAnswered, OwedInParts}
use Rattle.ds_machine.specs.OneStep.{room_wanted}
use Rattle.ds_machine.specs.Taken.{all_taken}
use Rattle.ds_machine.proofs.OneStepLemmas.{steps_one, outcomes_take_none}
use Rattle.ds_machine.proofs.TakenLemmas.{free_are_taken}
use Rattle.ds_machine.proofs.ReachedLemmas.{with_accepted}

-- ---- parts

pub free_in_parts : FreeInParts
free_in_parts s [] rest free = (tt, subst (λ (l : List Item). AreFree (with_accepted s l) rest) (sym (append-nil s.feed.accepted)) free)
free_in_parts s (i ∷ part) rest free =
    let more = free_in_parts (takes_effect s (i ∷ [])) part rest free.1 in
    ((free.0, more.0), subst (λ (l : List Item). AreFree (with_accepted s l) rest) (append_assoc s.feed.accepted (i ∷ []) part) more.1)

-- ---- what is answered

not_too_many : (n : ℕ) → n ≤ most_items → nat_le n most_items ≡ true
not_too_many n l = grind (arith, nat_tests)

-- no refusal applies to a merge of at most 256 items
pub none_stands : (n : ℕ) → n ≤ most_items → first_refusal (against_merge n) ≡ None
none_stands n l = ap (λ (b : Bool). cond (not b) (Some refusals.TooMany) None) (not_too_many n l)

pub free_are_answered : FreeAreAnswered
free_are_answered s t items done taken stale mask free few step =
    let none : room_wanted (outcome s (Merge items)).0 ≡ None = outcomes_take_none s (Merge items) in
    let one = steps_one s t (outcome s (Merge items)).1 (Merge items) (Merged done taken stale mask) (outcome s (Merge items)).0 step
    (inl (inl (record { reply_is = refl; state_is = refl }))) (sym none) in
    let all : course s items ≡ all_taken s items = free_are_taken s items free in
    let out : outcome s (Merge items) ≡ (Merged (length items) (length items) 0 (owed s items), takes_effect s items) =
    ap (λ (o : Option Refusal). merging s items o) (none_stands (length items) few) ∙
    ap (λ (k : Course). let both : Reply × State = (merge_reply s k, k.state) in both) all in
    let reply : Merged done taken stale mask ≡ Merged (length items) (length items) 0 (owed s items) =
    one.0 ∙ ap (λ (o : Reply × State). o.0) out in (
      one.1 ∙ ap (λ (o : Reply × State). o.1) out,
      ap mask_of reply,
      ap done_of reply,
      ap taken_of reply,
      ap stale_of reply,
    )
  where
    mask_of : Reply → ℕ
    mask_of (Merged a b c d) = d
    mask_of _ = 0

    done_of : Reply → ℕ
    done_of (Merged a b c d) = a
    done_of _ = 0

    taken_of : Reply → ℕ
    taken_of (Merged a b c d) = b
    taken_of _ = 0

    stale_of : Reply → ℕ
    stale_of (Merged a b c d) = c
    stale_of _ = 0

-- ---- what is owed

owed_append : (part rest : List Item) (o : Option Subscription) → is_owed (part ++ rest) o ≡ (is_owed part o || is_owed rest o)
owed_append part rest None = refl
owed_append part rest (Some sub) = list_any-append (passes (is_under sub.query)) part rest

or_bits : (x y : ℕ) → x < 2 → y < 2 → (max x y == 1) ≡ ((x == 1) || (y == 1))
or_bits zero zero l m = refl
or_bits zero (suc zero) l m = refl
or_bits zero (suc (suc y)) l m = absurd (omega arith)
or_bits (suc zero) zero l m = refl
or_bits (suc zero) (suc zero) l m = refl
or_bits (suc zero) (suc (suc y)) l m = absurd (omega arith)
or_bits (suc (suc x)) y l m = absurd (omega arith)

bit_same : (x y : ℕ) → x < 2 → y < 2 → (x == 1) ≡ (y == 1) → x ≡ y
bit_same zero zero l m e = refl
bit_same zero (suc zero) l m e = absurd (false≢true e)
bit_same zero (suc (suc y)) l m e = absurd (omega arith)
bit_same (suc zero) zero l m e = absurd (false≢true (sym e))
bit_same (suc zero) (suc zero) l m e = refl
bit_same (suc zero) (suc (suc y)) l m e = absurd (omega arith)
bit_same (suc (suc x)) y l m e = absurd (omega arith)

pub owed_in_parts : OwedInParts
owed_in_parts s part rest =
    same_from_bits (owed s (part ++ rest)) (bit_or (owed s part) (owed s rest))
    (λ i. bit_same (bit_at (owed s (part ++ rest)) i) (bit_at (bit_or (owed s part) (owed s rest)) i) (bit_at-lt (owed s (part ++ rest)) i)
    (bit_at-lt (bit_or (owed s part) (owed s rest)) i) (bits i))
  where
    bits : (i : ℕ) → has_bit (owed s (part ++ rest)) i ≡ has_bit (bit_or (owed s part) (owed s rest)) i
    bits i =
        let left : has_bit (owed s (part ++ rest)) i ≡ (has_bit (owed s part) i || has_bit (owed s rest) i) =
        owed_tells s (part ++ rest) i ∙ owed_append part rest (subscription_at s i)
        ∙ ap (λ (b : Bool). b || is_owed rest (subscription_at s i)) (sym (owed_tells s part i))
        ∙ ap (λ (b : Bool). has_bit (owed s part) i || b) (sym (owed_tells s rest i)) in
        let right : has_bit (bit_or (owed s part) (owed s rest)) i ≡ (has_bit (owed s part) i || has_bit (owed s rest) i) =
        ap (λ n. n == 1) (bit_at_or (owed s part) (owed s rest) i) ∙
        or_bits (bit_at (owed s part) i) (bit_at (owed s rest) i) (bit_at-lt (owed s part) i) (bit_at-lt (owed s rest) i) in
        left ∙ sym right
