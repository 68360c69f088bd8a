-- The rest of an entry's command, line by line.
use Rattle.std.proofs.Common.{◌≡◌, ℕ, suc, ◌+◌, ◌<◌, List, [], ◌∷◌, ◌++◌, length, Option, refl, sym, ap, subst, ◌∙◌, arith, append_assoc}
use Rattle.std.proofs.Common.{append-nil, length-append}
use Rattle.std.specs.List.{All, flat_map}
use Rattle.std.proofs.lemmas.Grind.{flat_map-append}
use Rattle.std.proofs.lemmas.List.Elements.{All-nil, All-push}
use Rattle.ds_entry.specs.declared.item.Item.{Item}
use Rattle.line_io.specs.Lines.{HasLines, with_newline}
use Rattle.line_io.specs.Reading.{LinesContent}
use Rattle.script_commands.specs.declared.command.ScriptCommand.{ScriptCommand}
use Rattle.trace_walk.specs.Entry.{AddedLines, AddsItem, AddsItems, AddsLines, GoesOver, IsLackingNext, IsLackingOne, IsNoItem, LacksNext}
use Rattle.trace_walk.specs.Entry.{MissesItem, MissesItems}
use Rattle.trace_walk.specs.Head.{IsHeadOf}
use Rattle.trace_walk.specs.Text.{MayMerge, merge_text, pass_text, plus_text}
use Rattle.trace_walk.specs.Walking.{HasLine, IsAt, IsLongFault, IsRead, IsShort}
use Rattle.trace_walk.specs.declared.asked.Asked.{Asked}
use Rattle.trace_walk.specs.declared.asked.Asked.TheVariants as askeds
use Rattle.trace_walk.specs.declared.asked.Head.{Head}
use Rattle.trace_walk.specs.declared.asked.Head.TheVariants as heads
use Rattle.trace_walk.specs.declared.entry.EntryFault.{EntryFault}
use Rattle.trace_walk.specs.declared.entry.EntryFault.TheVariants.{BadLine, ReadFault, NoRoom}
use Rattle.trace_walk.specs.declared.entry.EntryReader.{EntryReader}
use Rattle.trace_walk.specs.declared.header.Format.{Format}
use Rattle.trace_walk.proofs.FaultLemmas.{not_short}

over_on : (a b c : LinesContent) (from mid to : Option (List ℕ)) (first more : List ℕ) → GoesOver a from first b mid →
    GoesOver b mid more c to → GoesOver a from (first ++ more) c to
over_on a b c from mid to first more x y bytes front at =
    subst (λ (f : List ℕ). IsAt bytes f c to) (append_assoc front first more) (y bytes (front ++ first) (x bytes front at))

over_none : (l : LinesContent) (from : Option (List ℕ)) → GoesOver l from [] l from
over_none l from bytes front at = subst (λ (f : List ℕ). IsAt bytes f l from) (sym (append-nil front)) at

-- ---- items

pub items_none : (format : Format) (w : EntryReader) (from : Option (List ℕ)) (items : List Item) → items ≡ [] →
    AddsItems format w from 0 w from items
items_none format w from items e =
    subst (AddsItems format w from 0 w from) (sym e)
    (record { counted = refl; may = All-nil (MayMerge format); text = sym (append-nil w.text.items); over = over_none w.lines from })

module _ (format : Format) (w mid new : EntryReader) (from there to : Option (List ℕ)) (count : ℕ) (items : List Item)
    (x : AddsItems format w from count mid there items) where
  pub items_more : (after : List Item) (all : ℕ) → all ≡ count + 1 → AddsItem format mid there items new to after →
      AddsItems format w from all new to after
  items_more after all e y =
      let text : flat_map plus_text after ≡ flat_map plus_text items ++ plus_text y.item =
      ap (λ (l : List Item). flat_map plus_text l) y.after_is ∙ flat_map-append plus_text items (y.item ∷ []) ∙
      ap (λ (l : List ℕ). flat_map plus_text items ++ l) (append-nil (plus_text y.item)) in
      record {
        counted = omega (arith, e, x.counted, ap length y.after_is, length-append items (y.item ∷ []));
        may = subst (All (MayMerge format)) (sym y.after_is) (All-push (MayMerge format) items y.item x.may y.may);
        text = y.text ∙ ap (λ (l : List ℕ). l ++ plus_text y.item) x.text ∙
            append_assoc w.text.items (flat_map plus_text items) (plus_text y.item) ∙ ap (λ (l : List ℕ). w.text.items ++ l) (sym text);
        over = subst (λ (l : List ℕ). GoesOver w.lines from l new.lines to) (sym text)
            (over_on w.lines mid.lines new.lines from there to (flat_map plus_text items) (plus_text y.item) x.over y.over);
      }

  lacking_one : (bytes front : List ℕ) (most : ℕ) (fault : EntryFault) → length items < most →
      IsLackingNext format bytes (front ++ flat_map plus_text items) fault → IsLackingOne format bytes front most fault
  lacking_one bytes front most (BadLine number) less l = record { items = items; may = x.may; less = less; lacks = l }
  lacking_one bytes front most ReadFault less l = tt
  lacking_one bytes front most NoRoom less l = tt

  pub items_fail : (most : ℕ) (fault : EntryFault) → count < most → MissesItem format mid there fault → MissesItems format w from most fault
  items_fail most fault less f bytes front at =
      lacking_one bytes front most fault (omega (arith, x.counted, less))
      (f bytes (front ++ flat_map plus_text items) (x.over bytes front at))

-- ---- an item's line isn't there

pub lacks_line : (format : Format) (bytes front line : List ℕ) (l : LinesContent) (to : Option (List ℕ)) (number : ℕ)
    → HasLine bytes front line l to → IsNoItem format (with_newline line) → number ≡ l.count → LacksNext format bytes front number
lacks_line format bytes front line l to number h none e =
    record { before = h.before; rest = line ∷ h.more; lines = h.lines; past = h.front_is; counted = e ∙ h.counted; lacks = none }

pub lacks_long : (format : Format) (bytes front : List ℕ) (fault : EntryFault) → IsLongFault bytes front fault →
    IsLackingNext format bytes front fault
lacks_long format bytes front (BadLine number) l =
    record {
      before = l.before;
      rest = l.line ∷ l.more;
      lines = l.lines;
      past = l.front_is;
      counted = l.counted;
      lacks = λ i may short is.
          not_short l.line l.long short;
    }
lacks_long format bytes front ReadFault l = tt
lacks_long format bytes front NoRoom l = tt

pub lacks_all : (format : Format) (bytes front : List ℕ) (count number : ℕ) → IsRead bytes front count → number ≡ suc count →
    LacksNext format bytes front number
lacks_all format bytes front count number r e =
    record
    { before = r.0; rest = []; lines = subst (HasLines bytes) (sym (append-nil r.0)) r.1; past = r.2; counted = e ∙ ap suc r.3; lacks = tt }

-- ---- the whole command

pub lines_line : (format : Format) (w : EntryReader) (from : Option (List ℕ)) (head : Head) (asked : Asked) (command : ScriptCommand) →
    head ≡ heads.Line command → asked ≡ askeds.Line command → AddsLines format w from head w from asked
lines_line format w from head asked command e f pass is short =
    let k = subst (λ (x : Head). IsHeadOf format pass x w.text.items) e is in
    subst (AddedLines format w from pass w from) (sym f)
    (record {
      more = [];
      may = (k.1.0, k.1.1, k.1.2, subst IsShort k.2 short);
      whole = sym k.2 ∙ sym (append-nil w.text.items);
      text = sym (append-nil w.text.items);
      over = over_none w.lines from;
    })

pub lines_merge : (format : Format) (w new : EntryReader) (from to : Option (List ℕ)) (head : Head) (asked : Asked) (count : ℕ)
    (items : List Item)
    → head ≡ heads.Merge count → asked ≡ askeds.Merge items → AddsItems format w from count new to items →
    AddsLines format w from head new to asked
lines_merge format w new from to head asked count items e f x pass is short =
    let k = subst (λ (y : Head). IsHeadOf format pass y w.text.items) e is in
    subst (AddedLines format w from pass new to) (sym f)
    (record {
      more = flat_map plus_text items;
      may = (omega (arith, x.counted, k.1), x.may);
      whole = ap (λ (n : ℕ). pass_text pass (merge_text n) ++ flat_map plus_text items) x.counted ∙
          ap (λ (l : List ℕ). l ++ flat_map plus_text items) (sym k.2);
      text = x.text;
      over = x.over;
    })
