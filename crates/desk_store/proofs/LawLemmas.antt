-- What holds of followers at a desk.
use Rattle.std.proofs.Common.{◌≡◌, ℕ, List, ◌++◌, length, Option, Some, None, sym, ap, ◌∙◌, subst, inl, inr, arith, append-nil}
use Rattle.std.proofs.Common.{length-append}
use Rattle.std.specs.List.{flat_map}
use mathlib.Core.List.{IsPrefix}
use Rattle.desk_rule.specs.History.{OneBegins}
use Rattle.desk_rule.proofs.ListLemmas.{nil_of, prefix_trans}
use Rattle.history.specs.declared.entry.Entry.{Entry}
use Rattle.history.specs.History.{Run}
use Rattle.ds_entry.specs.Under.{under}
use Rattle.ds_entry.specs.declared.item.Item.{Item}
use Rattle.ds_pattern.specs.declared.query.Query.{Query}
use Rattle.ds_pattern.specs.Under.{is_under}
use Rattle.ds_machine.specs.State.{held}
use Rattle.ds_machine.specs.declared.command.Command.{Command}
use Rattle.ds_machine.specs.declared.reply.Reply.{Reply}
use Rattle.ds_store.specs.Turns.{Answered}
use Rattle.desk_store.specs.Later.{HasSeenMore}
use Rattle.desk_store.specs.Record.{PassRecord}
use Rattle.desk_store.specs.Follower.{mapped}
use Rattle.desk_store.specs.KeepsUp.{StandsIfStamped}
use Rattle.desk_store.specs.RefreshLaws.{KeepsUpLater, LostKeepsUp, RefreshedAlike}

stands_later : (p q : PassRecord) (sub : ℕ) (query : Query) (o : Option ℕ) (map : List Item) → HasSeenMore p q →
    StandsIfStamped p sub query o map → StandsIfStamped q sub query o map
stands_later p q sub query None map more k = tt
stands_later p q sub query (Some stamp) map more k = record {
  front = k.front;
  begins = prefix_trans k.front p.history q.history k.begins more.begins;
  follows = λ content opened. k.follows content (sym more.same_opening ∙ opened);
}

stands_unstamped : (p : PassRecord) (sub : ℕ) (query : Query) (o : Option ℕ) (map : List Item) → o ≡ None →
    StandsIfStamped p sub query o map
stands_unstamped p sub query o map none = subst (λ (x : Option ℕ). StandsIfStamped p sub query x map) (sym none) tt

pub lost_keeps_up : LostKeepsUp
lost_keeps_up p f none = stands_unstamped p f.sub f.map.query f.stamp (mapped f) none

pub keeps_up_later : KeepsUpLater
keeps_up_later p q f more k = stands_later p q f.sub f.map.query f.stamp (mapped f) more k

module _ {A : Type 0} where
  -- of two lists of one length one of which begins the other
  begun_by_all : (xs ys : List A) → IsPrefix xs ys → length xs ≡ length ys → xs ≡ ys
  begun_by_all xs ys p same =
      let none = nil_of p.0 (omega (arith, same, ap (λ (l : List A). length l) p.1, length-append xs p.0)) in
      sym (append-nil xs) ∙ ap (λ (l : List A). xs ++ l) (sym none) ∙ p.1

  same_turns : (xs ys : List A) → OneBegins xs ys → length xs ≡ length ys → xs ≡ ys
  same_turns xs ys (inl p) same = begun_by_all xs ys p same
  same_turns xs ys (inr p) same = sym (begun_by_all ys xs p (sym same))

pub alike : RefreshedAlike
alike p q f g place desk legal query a b =
    let turns : p.turns ≡ q.turns = same_turns p.turns q.turns desk.agree (omega (arith, a.at, b.at, desk.first)) in
    let same : p.history ≡ q.history =
    sym legal.in_turns ∙ ap (λ (l : List (List (Entry Command Reply))). flat_map (λ (es : List (Entry Command Reply)). es) l) turns ∙
    desk.in_turns in
    let run = legal.legal legal.begun legal.stood in
    let mine : mapped f ≡ under (is_under f.map.query) (held run.0) =
    a.current legal.content legal.opened_with legal.begun run.0 legal.stood run.1 in
    let theirs : mapped g ≡ under (is_under g.map.query) (held run.0) =
    b.current legal.content (desk.opened ∙ legal.opened_with) legal.begun run.0 legal.stood
    (subst (λ (es : List (Entry Command Reply)). Run Answered legal.begun es run.0) same run.1) in
    mine ∙ sym (theirs ∙ ap (λ (x : Query). under (is_under x) (held run.0)) query)
