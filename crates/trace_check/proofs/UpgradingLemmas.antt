-- A trace of format 1 in format 2, entry by entry.
use Rattle.std.proofs.Common.{◌≡◌, ℕ, ◌+◌, List, [], ◌∷◌, ◌++◌, length, Option, inl, inr, refl, sym, ap, subst, ◌∙◌, arith, append_assoc}
use Rattle.std.proofs.Common.{append-nil, length-append}
use Rattle.std.specs.List.{flat_map}
use Rattle.std.specs.Io.KnownBytes.{Appends}
use Rattle.std.proofs.KnownBytes.{Appends-nil, Appends-trans}
use Rattle.line_io.specs.Lines.{HasLines, joined}
use Rattle.line_io.specs.Reading.{LinesContent}
use Rattle.line_io.proofs.InputLemmas.{has_lines}
use Rattle.trace_walk.specs.declared.header.Format.{Format}
use Rattle.trace_walk.specs.declared.header.Format.TheVariants.{One, Two}
use Rattle.trace_walk.specs.declared.header.Header.{Header}
use Rattle.trace_walk.specs.Legal.{EntryLeads, IsTrace, opened_by}
use Rattle.trace_walk.specs.Text.{TraceEntry, asked_text, entry_text, header_text, marked, trace_text}
use Rattle.trace_walk.specs.Upgrade.{BecomesAs, IsUpgradeOf, IsUpgraded, IsUpgradedBefore, IsUpgradedInPart, IsUpgradedSoFar, upgraded}
use Rattle.trace_walk.specs.Verdict.{IsWrongAt}
use Rattle.trace_walk.specs.Walk.{NoneEnds}
use Rattle.trace_walk.proofs.EntryLemmas.{trace_more}
use Rattle.trace_walk.proofs.UpgradeLemmas.{become_more, upgraded_is_legal, upgraded_more}
use Rattle.trace_walk.specs.declared.fault.WalkFault.{WalkFault}
use Rattle.trace_walk.specs.declared.fault.WalkFault.TheVariants as walks
use Rattle.trace_walk.specs.declared.passed.Passed.{Passed}
use Rattle.trace_walk.specs.declared.passed.Passed.TheVariants.{AsItStands, Swept}
use Rattle.trace_walk.specs.declared.walk.Walk.{Walk}
use Rattle.trace_walk.specs.Passing.{HasPassed, IsWrittenAs}
use Rattle.trace_walk.specs.Steps.{WalksAt, EndsThere, first_spot}
use Rattle.trace_check.specs.Upgrading.{BeginsWithTwo, Refuses, Upgrades, upgrade_fault}
use Rattle.trace_walk.specs.Walking.{Spot, IsAt, IsFault, Walks, spot_after}
use Rattle.trace_check.proofs.LastLemmas.{none_longer}

-- a fault of a walk explains why the input isn't written whole, if the first lines were passed and written
module _ (bytes start output : List ℕ) (before after : List (List ℕ)) (lines : HasLines bytes (before ++ after))
    (is : start ≡ joined before) (written : IsUpgradeOf before output) where
  before_wrong : (number : ℕ) (front : List ℕ) → IsWrongAt bytes number front → NoneEnds start front → IsUpgradedBefore bytes output
  before_wrong number front wrong none = record {
    front = before;
    rest = after;
    lines = lines;
    written = written;
    last =
        none_longer bytes start front number before after lines is wrong none;
  }

  pub refused_for : (fault : WalkFault) → IsFault start bytes fault → Refuses (upgrade_fault fault) bytes output
  refused_for (walks.IllegalAt number) f = ((f.0, f.1, f.2), before_wrong number f.0 f.1 f.3)
  refused_for (walks.BadLineAt number) f = ((f.0, f.1, f.2), before_wrong number f.0 f.1 f.3)
  refused_for walks.ReadFault f = (before, after, lines, written)
  refused_for walks.NoRoom f = (before, after, lines, written)

-- if nothing was passed, nothing was written
pub refused_first : (bytes : List ℕ) (fault : WalkFault) → IsFault [] bytes fault → Refuses (upgrade_fault fault) bytes []
refused_first bytes fault f = let h = has_lines bytes in refused_for bytes [] [] [] h.0 h.1 refl (inl (refl, refl)) fault f

pub nothing_yet : (bytes : List ℕ) → IsUpgradedSoFar bytes []
nothing_yet bytes = let h = has_lines bytes in ([], h.0, h.1, inl (refl, refl))

-- ---- entries

-- what is appended for an entry is that entry in format 2
pub written_as : (b : Spot) (h : Header) (w : Walk) (to : Option (List ℕ)) (passed : Passed) (p : HasPassed b h w to passed) →
    h.format ≡ One → (text : List ℕ) (k : ℕ) → IsWrittenAs w passed [] text k →
    (entries : List TraceEntry) × BecomesAs b.state p.entry p.entry.asked entries × (text ≡ flat_map (entry_text h.limits) entries) ×
    (k ≡ length entries)
written_as b h w to AsItStands p one text k is = (
  p.entry ∷ [],
  p.becomes one,
  is.0 ∙ ap (λ (l : List ℕ). l ++ marked w.reply.items) p.asked ∙
      ap (λ (l : List ℕ). asked_text p.entry.pass p.entry.asked ++ marked l) p.reply ∙ sym (append-nil (entry_text h.limits p.entry)),
  is.1,
)
written_as b h w to (Swept merges) p one text k is = let e = p.becomes one in (e.0, e.1, is.0 ∙ e.2.text, is.1 ∙ e.2.counted)

module _ (b : Spot) (h : Header) (output : List ℕ) (count : ℕ) (x : Upgrades b h output count) where
  pub is_upgraded : IsUpgraded b.front output count
  is_upgraded =
      record {
        h = h;
        old = x.old;
        new = x.new;
        last = b.state;
        one = x.one;
        from = x.trace;
        become = x.become;
        to = subst (λ (t : List ℕ). IsTrace t (upgraded h) x.new b.state) (sym x.written)
            (upgraded_is_legal h x.old x.new b.state b.front x.one x.trace x.become);
        counted = sym x.counted;
      }

  -- one more
  pub upgrades_on : (w : Walk) (to : Option (List ℕ)) (passed : Passed) (p : HasPassed b h w to passed) (text : List ℕ) (k : ℕ)
      → IsWrittenAs w passed [] text k → Upgrades (spot_after b h.limits p.entry p.state) h (output ++ text) (count + k)
  upgrades_on w to passed p text k is =
      let m = written_as b h w to passed p x.one text k is in
      let leads : EntryLeads One b.state p.entry p.state = subst (λ (f : Format). EntryLeads f b.state p.entry p.state) x.one p.leads in
      record {
        old = x.old ++ p.entry ∷ [];
        new = x.new ++ m.0;
        one = x.one;
        trace = trace_more b.front h x.old p.entry b.state p.state x.trace p.is p.leads;
        become = become_more (opened_by h) b.state p.state x.old x.new p.entry m.0 x.become leads m.1;
        written = ap (λ (l : List ℕ). l ++ text) x.written ∙ ap (λ (l : List ℕ). trace_text (upgraded h) x.new ++ l) m.2 ∙
            upgraded_more h x.new m.0;
        counted = omega (arith, x.counted, m.3, length-append x.new m.0);
      }

-- ---- on the way

-- From the spot on, this was appended to a writer. With what was written before, it is the passed front in format 2.
pub record IsUnderWay (b : Spot) (before : List ℕ) (h : Header) (w : Walk) (from had has : Option (List ℕ)) (count : ℕ) : Type 0 where
  pub now : Spot
  pub same : now.bytes ≡ b.bytes
  pub header : w.header ≡ h
  pub walks : WalksAt now w from
  pub more : List ℕ
  pub appends : Appends had has more
  pub upgrades : Upgrades now h (before ++ more) count

pub sets_out : (b : Spot) (before : List ℕ) (w : Walk) (from had : Option (List ℕ)) → WalksAt b w from → Upgrades b w.header before 0 →
    IsUnderWay b before w.header w from had had 0
sets_out b before w from had walks x =
    record {
      now = b;
      same = refl;
      header = refl;
      walks = walks;
      more = [];
      appends = Appends-nil had;
      upgrades =
          subst (λ (l : List ℕ). Upgrades b w.header l 0) (sym (append-nil before)) x;
    }

-- the first lines of the input were written, perhaps without the end
part_of : (bytes : List ℕ) (now : Spot) (l : LinesContent) (from : Option (List ℕ))
    → now.bytes ≡ bytes → IsAt now.bytes now.front l from → (output left : List ℕ) (count : ℕ) → IsUpgraded now.front (output ++ left) count
    → IsUpgradedInPart bytes output
part_of bytes now l from same at output left count is =
    inr (
      at.before,
      at.after,
      left,
      count,
      subst (λ (t : List ℕ). HasLines t (at.before ++ at.after)) same at.lines,
      subst
          (λ (t : List ℕ). IsUpgraded t (output ++ left) count) at.front_is is,
    )

module _ (b : Spot) (before : List ℕ) (h : Header) (w : Walk) (from had has : Option (List ℕ)) (count : ℕ)
    (u : IsUnderWay b before h w from had has count) where
  -- nothing is left
  pub ends_upgraded : EndsThere w from → (lines : List (List ℕ)) × (more : List ℕ) × HasLines b.bytes lines × Appends had has more ×
      IsUpgraded (joined lines) (before ++ more) count
  ends_upgraded ends =
      let e = ends u.now u.walks in (
        e.0,
        u.more,
        subst (λ (t : List ℕ). HasLines t e.0) u.same e.1,
        u.appends,
        subst
            (λ (t : List ℕ). IsUpgraded t (before ++ u.more) count) e.2 (is_upgraded u.now h (before ++ u.more) count u.upgrades),
      )

  -- what was passed was written
  so_far : IsUpgradeOf u.walks.at.before (before ++ u.more)
  so_far = inr (
    count,
    subst (λ (t : List ℕ). IsUpgraded t (before ++ u.more) count) u.walks.at.front_is
        (is_upgraded u.now h (before ++ u.more) count u.upgrades),
  )

  -- a fault came between two entries, and nothing is wrong with the input
  pub stops_between : (more : List ℕ) × Appends had has more × IsUpgradedSoFar b.bytes (before ++ more)
  stops_between =
      let at = u.walks.at in
      (u.more, u.appends, (at.before, at.after, subst (λ (t : List ℕ). HasLines t (at.before ++ at.after)) u.same at.lines, so_far))

  -- or one of the walk
  pub stops_for : (fault : WalkFault) → IsFault u.now.front u.now.bytes fault →
      (more : List ℕ) × Appends had has more × Refuses (upgrade_fault fault) b.bytes (before ++ more)
  stops_for fault f =
      let at = u.walks.at in (
        u.more,
        u.appends,
        subst (λ (t : List ℕ). Refuses (upgrade_fault fault) t (before ++ u.more)) u.same
            (refused_for u.now.bytes u.now.front (before ++ u.more) at.before at.after at.lines at.front_is so_far fault f),
      )

  -- one more entry was passed
  module _ (new : Walk) (to : Option (List ℕ)) (passed : Passed)
      (goes : (s : Spot) → WalksAt s w from → HasPassed s w.header new to passed) (text : List ℕ) (k : ℕ)
      (is : IsWrittenAs new passed [] text k) where
    abbrev p : HasPassed u.now h new to passed
    p = subst (λ (g : Header). HasPassed u.now g new to passed) u.header (goes u.now u.walks)

    abbrev next : Spot
    next = spot_after u.now h.limits p.entry p.state

    on : Upgrades next h ((before ++ u.more) ++ text) (count + k)
    on = upgrades_on u.now h (before ++ u.more) count u.upgrades new to passed p text k is

    -- and written
    pub goes_on_writing : (then : Option (List ℕ)) (sum : ℕ) → sum ≡ count + k → Appends has then text →
        IsUnderWay b before h new to had then sum
    goes_on_writing then sum is_sum appends =
        record {
          now = next;
          same = u.same;
          header = p.header;
          walks = subst (λ (g : Header). Walks next new.entry.lines new.store g to) (sym p.header) p.walks;
          more = u.more ++ text;
          appends = Appends-trans had has then u.more text u.appends appends;
          upgrades = subst (λ (n : ℕ). Upgrades next h (before ++ (u.more ++ text)) n) (sym is_sum)
              (subst (λ (l : List ℕ). Upgrades next h l (count + k)) (append_assoc before u.more text) on);
        }

    -- or a front of it
    pub stops_within : (then : Option (List ℕ)) (sent left : List ℕ) → text ≡ sent ++ left → Appends has then sent →
        (more : List ℕ) × Appends had then more × IsUpgradedInPart b.bytes (before ++ more)
    stops_within then sent left split appends =
        let whole : (before ++ u.more) ++ text ≡ (before ++ (u.more ++ sent)) ++ left =
        ap (λ (l : List ℕ). (before ++ u.more) ++ l) split ∙ append_assoc before u.more (sent ++ left) ∙
        ap (λ (l : List ℕ). before ++ l) (sym (append_assoc u.more sent left)) ∙ sym (append_assoc before (u.more ++ sent) left) in
        let all = subst (λ (l : List ℕ). IsUpgraded next.front l (count + k)) whole
        (is_upgraded next h ((before ++ u.more) ++ text) (count + k) on) in (
          u.more ++ sent,
          Appends-trans had has then u.more sent u.appends appends,
          part_of b.bytes next new.entry.lines to u.same p.walks.at (before ++ (u.more ++ sent)) left (count + k) all,
        )

-- ---- the header

module _ (bytes : List ℕ) (w : Walk) (from : Option (List ℕ)) (walks : WalksAt (first_spot bytes w.header) w from) where
  -- it is of format 2
  pub begins_two : w.header.format ≡ Two → BeginsWithTwo bytes
  begins_two two =
      record {
        h = w.header;
        two = two;
        is = walks.past.trace.header;
        front = walks.at.before;
        rest = walks.at.after;
        lines =
            walks.at.lines;
        text = sym walks.at.front_is;
      }

  -- it is of format 1
  pub header_upgrades : w.header.format ≡ One → Upgrades (first_spot bytes w.header) w.header (header_text (upgraded w.header)) 0
  header_upgrades one =
      record {
        old = [];
        new = [];
        one = one;
        trace =
            record {
              header = walks.past.trace.header;
              each = λ k d lt. absurd (omega (arith, lt));
              history = refl;
              written =
                  sym (append-nil (header_text w.header));
            };
        become = (refl, refl);
        written = sym (append-nil (header_text (upgraded w.header)));
        counted = refl;
      }

  pub stops_in_header : w.header.format ≡ One → (sent left : List ℕ) → header_text (upgraded w.header) ≡ sent ++ left →
      IsUpgradedInPart bytes sent
  stops_in_header one sent left split =
      part_of bytes (first_spot bytes w.header) w.entry.lines from refl walks.at sent left 0
      (subst (λ (l : List ℕ). IsUpgraded (header_text w.header) l 0) split
      (is_upgraded (first_spot bytes w.header) w.header (header_text (upgraded w.header)) 0 (header_upgrades one)))
