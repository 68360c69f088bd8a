-- Entries of format 2 that stand for those of format 1.
use Rattle.std.proofs.Common.{◌≡◌, ℕ, suc, ◌+◌, ◌≤◌, Bool, true, false, cond, nat_le, List, [], ◌∷◌, ◌++◌, length, map, Option, Some, inl}
use Rattle.std.proofs.Common.{inr, refl, sym, ap, subst, ◌∙◌, arith, append_assoc, append-nil}
use Rattle.std.specs.List.{All, flat_map}
use Rattle.std.proofs.lemmas.Grind.{flat_map-append}
use Rattle.std.proofs.lemmas.List.Elements.{All-nil, All-cons, All-append, All-contains_itself, Contains-append_left, Contains-append_right}
use Rattle.std.proofs.lemmas.Bool.{leb-true}
use Rattle.std.proofs.lemmas.Option.{same_Some}
use Rattle.ds_names.specs.Endpoint.{EndpointRecord, is_rs}
use Rattle.ds_names.specs.Limits.{most_items, last_place}
use Rattle.ds_names.specs.Name.{IsName}
use Rattle.ds_entry.specs.declared.item.Item.{Item}
use Rattle.ds_machine.specs.Batches.{AreFree}
use Rattle.ds_machine.specs.Machine.{Step, Answers, outcome}
use Rattle.ds_machine.specs.Merging.{Course, merging, merge_reply}
use Rattle.ds_machine.specs.State.{State, held, next_position, takes_effect, owed}
use Rattle.ds_machine.specs.declared.command.Command.{Command}
use Rattle.ds_machine.specs.declared.command.Command.TheVariants as commands
use Rattle.ds_machine.specs.declared.refusal.Refusal.{Refusal}
use Rattle.ds_machine.specs.declared.refusal.Refusal.TheVariants as refusals
use Rattle.ds_machine.specs.declared.reply.Reply.{Reply}
use Rattle.ds_machine.specs.declared.reply.Reply.TheVariants.{Merged, Refused, Swept}
use Rattle.ds_machine.proofs.BatchLemmas.{free_in_parts, none_stands}
use Rattle.ds_machine.proofs.ReachedLemmas.{with_accepted}
use Rattle.ds_machine.proofs.TakenLemmas.{free_are_taken}
use Rattle.ds_replica.specs.CaughtUp.{AreItems}
use Rattle.script_commands.specs.Command.{store_command}
use Rattle.script_commands.specs.declared.command.ScriptCommand.{ScriptCommand}
use Rattle.script_commands.specs.declared.command.ScriptCommand.TheVariants as lines
use Rattle.trace_walk.specs.declared.asked.Asked.{Asked}
use Rattle.trace_walk.specs.declared.asked.Asked.TheVariants.{Line, Merge}
use Rattle.trace_walk.specs.declared.header.Format.{Format}
use Rattle.trace_walk.specs.declared.header.Format.TheVariants.{One, Two}
use Rattle.trace_walk.specs.declared.header.Header.{Header}
use Rattle.trace_walk.specs.Legal.{StepOf, EntryLeads, AllLead, opened_by}
use Rattle.trace_walk.specs.OneReply.{IsTraced}
use Rattle.trace_walk.specs.Sweep.{older_sweep, tombstones}
use Rattle.trace_walk.specs.Text.{TraceEntry, IsEntry, MayAsk, MayMerge, CarriesLine, FormatHas, IsHeader, command_asked, entry_text}
use Rattle.trace_walk.specs.Text.{header_text, trace_text}
use Rattle.trace_walk.specs.Upgrade.{IsPart, MergeInParts, SweepBecomes, BecomesAs, Become, UpgradedIsLegal, merge_entry, upgraded}
use Rattle.trace_walk.proofs.OneReplyLemmas.{is_merge}
use Rattle.trace_walk.proofs.TombstoneLemmas.{tombstones_are_free, tombstones_are_items}
use Rattle.trace_walk.proofs.TracedLemmas.{asked_proper, traced_stays}
use Rattle.trace_walk.proofs.WalkLemmas.{header_after}

-- ---- Merges of free items

free_step : (s : State) (part : List Item) → length part ≤ most_items → AreFree s part →
    Step s (commands.Merge part) (Merged (length part) (length part) 0 (owed s part)) (takes_effect s part)
free_step s part few free =
    let out : outcome s (commands.Merge part) ≡ (Merged (length part) (length part) 0 (owed s part), takes_effect s part) =
    ap (λ (o : Option Refusal). merging s part o) (none_stands (length part) few) ∙
    ap (λ (k : Course). let both : Reply × State = (merge_reply s k, k.state) in both) (free_are_taken s part free) in
    inl (inl (record { reply_is = sym (ap (λ (o : Reply × State). o.0) out); state_is = sym (ap (λ (o : Reply × State). o.1) out) }))

pub merge_leads : (s : State) (pass : ℕ) (part : List Item) → IsPart part → AreFree s part →
    EntryLeads Two s (merge_entry s pass part) (takes_effect s part)
merge_leads s pass part is free = (commands.Merge part, refl, free_step s part is.few free)

-- Merges in order lead to where all items took effect
pub merges_lead : (s : State) (pass : ℕ) (parts : List (List Item))
    → All IsPart parts → AreFree s (flat_map (λ (part : List Item). part) parts)
    → AllLead Two s (map (merge_entry s pass) parts) (takes_effect s (flat_map (λ (part : List Item). part) parts))
merges_lead s pass [] are free = ap (with_accepted s) (append-nil s.feed.accepted)
merges_lead s pass (part ∷ parts) are free =
    let rest : List Item = flat_map (λ (p : List Item). p) parts in
    let f = free_in_parts s part rest free in
    let more : AllLead Two (takes_effect s part) (map (merge_entry s pass) parts) (takes_effect (takes_effect s part) rest) =
    merges_lead (takes_effect s part) pass parts (λ k d lt. are (suc k) d (omega (arith, lt))) f.1 in (
      takes_effect s part,
      merge_leads s pass part (are 0 part (omega arith)) f.0,
      subst (λ (t : State). AllLead Two (takes_effect s part) (map (merge_entry s pass) parts) t)
          (ap (with_accepted s) (append_assoc s.feed.accepted part rest)) more,
    )

-- ---- all other entries are unchanged

may_merge_two : (items : List Item) → All (MayMerge One) items → All (MayMerge Two) items
may_merge_two items all k d lt = ((all k d lt).0, tt)

carries_two : (c : ScriptCommand) → CarriesLine One c → CarriesLine Two c
carries_two (lines.Offer i) may = tt
carries_two _ may = tt

may_two : (pass : ℕ) (asked : Asked) → MayAsk One pass asked → MayAsk Two pass asked
may_two pass (Line c) may = (may.0, may.1, carries_two c may.2, may.3)
may_two pass (Merge items) may = (may.0, may_merge_two items may.1)

pub entry_two : (e : TraceEntry) → IsEntry One e → IsEntry Two e
entry_two e is = record { pass = is.pass; asked = may_two e.pass e.asked is.asked }

-- the command isn't a sweep
abbrev IsNoSweep : ScriptCommand → Type 0
IsNoSweep (lines.Store (commands.Sweep caller owner generation)) = ⊥
IsNoSweep c = Unit {0}

no_sweep : (c : ScriptCommand) (caller : EndpointRecord) (owner : List ℕ) (generation : ℕ) → IsNoSweep c →
    store_command c ≡ Some (commands.Sweep caller owner generation) → ⊥
no_sweep (lines.Store (commands.Sweep k o n)) caller owner generation other asks = other
no_sweep c caller owner generation other asks = absurd (cc)

plain_two : (c : ScriptCommand) (command : Command) (s t : State) (reply : Reply) → IsNoSweep c → store_command c ≡ Some command →
    StepOf One s command reply t → Step s command reply t
plain_two c (commands.Sweep caller owner generation) s t reply other asks x = absurd (no_sweep c caller owner generation other asks)
plain_two c _ s t reply other asks x = x

line_two : (c : ScriptCommand) (e : TraceEntry) (s t : State) → e.asked ≡ Line c → IsNoSweep c → EntryLeads One s e t → EntryLeads Two s e t
line_two c e s t is other x = (x.0, x.1, plain_two c x.0 s t e.reply other (sym (ap (λ (a : Asked). command_asked a) is) ∙ x.1) x.2)

merge_two : (items : List Item) (e : TraceEntry) (s t : State) → e.asked ≡ Merge items → EntryLeads One s e t → EntryLeads Two s e t
merge_two items e s t is x =
    let command : x.0 ≡ commands.Merge items = same_Some x.0 (commands.Merge items) (sym x.1 ∙ ap (λ (a : Asked). command_asked a) is) in (
      x.0,
      x.1,
      subst (λ (k : Command). Step s k e.reply t) (sym command)
          (is_merge One s t items e.reply (subst (λ (k : Command). StepOf One s k e.reply t) command x.2)),
    )

-- the entries for an entry are entries of format 2 that lead to the same state
pub record LeadsAlso (s t : State) (new : List TraceEntry) : Type 0 where
  pub each : All (IsEntry Two) new
  pub leads : AllLead Two s new t

stays : (s t : State) (e : TraceEntry) (new : List TraceEntry) → IsEntry One e → EntryLeads Two s e t → new ≡ e ∷ [] → LeadsAlso s t new
stays s t e new is x q = subst (LeadsAlso s t) (sym q)
    (record { each = All-cons (IsEntry Two) e [] (entry_two e is) (All-nil (IsEntry Two)); leads = (t, x, refl) })

none_left : (s t : State) (new : List TraceEntry) → t ≡ s → new ≡ [] → LeadsAlso s t new
none_left s t new e q = subst (LeadsAlso s t) (sym q) (record { each = All-nil (IsEntry Two); leads = e })

-- ---- a sweep

parts_may : (pass : ℕ) (s : State) (parts : List (List Item)) → pass ≤ 63 → All IsPart parts →
    AreItems (flat_map (λ (part : List Item). part) parts) → All (IsEntry Two) (map (merge_entry s pass) parts)
parts_may pass s [] le are items = All-nil (IsEntry Two)
parts_may pass s (part ∷ parts) le are items =
    let rest : List Item = flat_map (λ (p : List Item). p) parts in
    let few = (are 0 part (omega arith)).few in
    All-cons (IsEntry Two) (merge_entry s pass part) (map (merge_entry s pass) parts)
    (record { pass = le; asked = (few, λ k d lt. (items _ (Contains-append_left part rest _ (All-contains_itself part k d lt)), tt)) })
    (parts_may pass s parts le (λ k d lt. are (suc k) d (omega (arith, lt))) (λ i h. items i (Contains-append_right part rest i h)))

module _ (s : State) (traced : IsTraced One s) (pass : ℕ) (le : pass ≤ 63) (owner : List ℕ) (generation : ℕ) (name : IsName owner)
    (few : generation ≤ 2097151) where
  abbrev gone : List Item
  gone = tombstones (held s) owner generation

  swept_leads : (new : List TraceEntry) → next_position s + length gone ≤ last_place → MergeInParts s pass gone new →
      LeadsAlso s (takes_effect s gone) new
  swept_leads new left m =
      let free : AreFree s gone = tombstones_are_free s owner generation traced.reached traced.items traced.floors left in
      let items : AreItems gone = tombstones_are_items s owner generation traced.reached traced.items name few in
      let leads = merges_lead s pass m.0 m.1 (subst (AreFree s) (sym m.2) free) in
      let to : AllLead Two s (map (merge_entry s pass) m.0) (takes_effect s gone) =
      subst (λ (l : List Item). AllLead Two s (map (merge_entry s pass) m.0) (takes_effect s l)) m.2 leads in
      let may = parts_may pass s m.0 le m.1 (subst AreItems (sym m.2) items) in
      subst (LeadsAlso s (takes_effect s gone)) (sym m.3) (record { each = may; leads = to })

  sweep_by : (a b : Bool) (new : List TraceEntry) → nat_le (next_position s + length gone) last_place ≡ b →
      SweepBecomes s pass owner generation (cond {A = Reply × State} a
      (cond b (Swept (length gone) (owed s gone), takes_effect s gone) (Refused refusals.Worn, s)) (Refused refusals.NotAllowed, s)).0 new →
      LeadsAlso s (cond {A = Reply × State} a (cond b (Swept (length gone) (owed s gone), takes_effect s gone) (Refused refusals.Worn, s))
      (Refused refusals.NotAllowed, s)).1 new
  sweep_by true true new e m = swept_leads new (leb-true (next_position s + length gone) last_place e) m
  sweep_by true false new e q = none_left s s new refl q
  sweep_by false b new e q = none_left s s new refl q

  pub sweep_two : (t : State) (caller : EndpointRecord) (reply : Reply) (new : List TraceEntry) →
      Answers s (older_sweep s caller owner generation) reply t → SweepBecomes s pass owner generation reply new → LeadsAlso s t new
  sweep_two t caller reply new (inl a) b =
      let done = sweep_by (is_rs caller) (nat_le (next_position s + length gone) last_place) new refl
      (subst (λ (r : Reply). SweepBecomes s pass owner generation r new) a.reply_is b) in
      subst (λ (u : State). LeadsAlso s u new) (sym a.state_is) done
  sweep_two t caller reply new (inr w) b = none_left s t new w.state_is
      (subst (λ (r : Reply). SweepBecomes s pass owner generation r new) w.reply_is b)

-- ---- entries

pub becomes_two : (s t : State) (e : TraceEntry) (new : List TraceEntry) → IsTraced One s → IsEntry One e → EntryLeads One s e t →
    BecomesAs s e e.asked new → LeadsAlso s t new
becomes_two s t e new traced is x b = by_asked e.asked refl is.asked b
  where
    by_asked : (asked : Asked) → e.asked ≡ asked → MayAsk One e.pass asked → BecomesAs s e asked new → LeadsAlso s t new
    by_asked (Line (lines.Store (commands.Sweep caller owner generation))) q may b =
        let command : x.0 ≡ commands.Sweep caller owner generation =
        same_Some x.0 (commands.Sweep caller owner generation) (sym x.1 ∙ ap (λ (a : Asked). command_asked a) q) in
        let step : StepOf One s (commands.Sweep caller owner generation) e.reply t =
        subst (λ (k : Command). StepOf One s k e.reply t) command x.2 in
        let proper = asked_proper One e.pass (Line (lines.Store (commands.Sweep caller owner generation)))
        (commands.Sweep caller owner generation) may refl in
        sweep_two s traced e.pass is.pass owner generation proper.owner proper.generation t caller e.reply new step b
    by_asked (Line c) q may b = stays s t e new is (line_two c e s t q tt x) b
    by_asked (Merge items) q may b = stays s t e new is (merge_two items e s t q x) b

leads_append : (s m t : State) (a b : List TraceEntry) → AllLead Two s a m → AllLead Two m b t → AllLead Two s (a ++ b) t
leads_append s m t [] b x y = subst (λ (u : State). AllLead Two u b t) x y
leads_append s m t (e ∷ a) b x y = (x.0, x.1, leads_append x.0 m t a b x.2 y)

pub become_two : (s last : State) (old new : List TraceEntry) → IsTraced One s → All (IsEntry One) old → Become s old last new →
    LeadsAlso s last new
become_two s last [] new traced each b = none_left s last new b.0 b.1
become_two s last (e ∷ old) new traced each b =
    let is : IsEntry One e = each 0 e (omega arith) in
    let mid : State = b.0 in
    let x : EntryLeads One s e mid = b.3 in
    let remains : IsTraced One mid = traced_stays One e.pass e.asked x.0 s mid e.reply traced is.asked x.1 x.2 in
    let first = becomes_two s mid e b.1 traced is x b.4 in
    let rest = become_two mid last old b.2 remains (λ k d lt. each (suc k) d (omega (arith, lt))) b.5 in
    subst (LeadsAlso s last) (sym b.6) (record
    { each = All-append (IsEntry Two) b.1 b.2 first.each rest.each; leads = leads_append s mid last b.1 b.2 first.leads rest.leads })

-- one entry more
pub become_more : (s t u : State) (old new : List TraceEntry) (e : TraceEntry) (more : List TraceEntry) → Become s old t new →
    EntryLeads One t e u → BecomesAs t e e.asked more → Become s (old ++ e ∷ []) u (new ++ more)
become_more s t u [] new e more b x m =
    let leads : EntryLeads One s e u = subst (λ (v : State). EntryLeads One v e u) b.0 x in
    let becomes : BecomesAs s e e.asked more = subst (λ (v : State). BecomesAs v e e.asked more) b.0 m in
    (u, more, [], leads, becomes, (refl, refl), ap (λ (l : List TraceEntry). l ++ more) b.1 ∙ sym (append-nil more))
become_more s t u (f ∷ old) new e more b x m = (
  b.0,
  b.1,
  b.2 ++ more,
  b.3,
  b.4,
  become_more b.0 t u old b.2 e more b.5 x m,
  ap (λ (l : List TraceEntry). l ++ more) b.6 ∙
      append_assoc b.1 b.2 more,
)

-- ---- traces

header_two : (h : Header) → h.format ≡ One → IsHeader h → IsHeader (upgraded h)
header_two h one is =
    record {
      incarnation = is.incarnation;
      first = is.first;
      ring =
          is.ring;
      limits = inl (subst (λ (f : Format). FormatHas f h.limits) one is.limits);
    }

pub upgraded_is_legal : UpgradedIsLegal
upgraded_is_legal h old new last text one t b =
    let traced : IsTraced One (opened_by h) = subst (λ (f : Format). IsTraced f (opened_by h)) one (header_after h t.header).traced in
    let each : All (IsEntry One) old = subst (λ (f : Format). All (IsEntry f) old) one t.each in
    let also = become_two (opened_by h) last old new traced each b in
    record { header = header_two h one t.header; each = also.each; history = also.leads; written = refl }

-- the text of one more entry
pub upgraded_more : (h : Header) (new more : List TraceEntry) →
    trace_text (upgraded h) new ++ flat_map (entry_text h.limits) more ≡ trace_text (upgraded h) (new ++ more)
upgraded_more h new more =
    append_assoc (header_text (upgraded h)) (flat_map (entry_text h.limits) new) (flat_map (entry_text h.limits) more)
    ∙ ap (λ (l : List ℕ). header_text (upgraded h) ++ l) (sym (flat_map-append (entry_text h.limits) new more))
