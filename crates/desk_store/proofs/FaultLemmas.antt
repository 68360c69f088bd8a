-- Faults of calls that are made in order.
use Rattle.std.proofs.Common.{◌≡◌, List, [], ◌∷◌, ◌++◌, refl, ap, sym, ◌∙◌, subst, inl, inr, append_assoc}
use Rattle.history.specs.declared.entry.Entry.{Entry}
use Rattle.history.specs.History.{entry}
use Rattle.ds_machine.specs.declared.command.Command.{Command}
use Rattle.ds_machine.specs.declared.refusal.Refusal.{Refusal}
use Rattle.ds_machine.specs.declared.refusal.Refusal.TheVariants as refusals
use Rattle.ds_machine.specs.declared.reply.Reply.{Reply}
use Rattle.ds_machine.specs.declared.reply.Reply.TheVariants as replies
use Rattle.desk_store.specs.Called.{Made}
use Rattle.desk_store.specs.CallFaults.{EndsRefused, FailsAsking, FailsBy, IsFaultAfter, TellsRefusal}
use Rattle.desk_store.specs.Record.{PassRecord}
use Rattle.desk_store.specs.declared.call_fault.CallFault.{CallFault}
use Rattle.desk_store.specs.declared.call_fault.CallFault.TheVariants as faults
use Rattle.desk_store.proofs.RecordLemmas.{made_more}

pub refused_for_room : (refusal : Refusal) (fault : CallFault) → fault ≡ faults.NoRoom → TellsRefusal refusal fault →
    refusal ≡ refusals.NoRoom
refused_for_room refusal fault none (inl told) = told.0
refused_for_room refusal fault none (inr told) = absurd (let same : faults.NoRoom ≡ faults.Refused refusal = sym none ∙ told.1 in cc)

-- ---- one call that failed
refused_so : (p q : PassRecord) (command : Command) (refusal : Refusal) (fault : CallFault) → TellsRefusal refusal fault →
    IsFaultAfter q (entry p.origin.number command (replies.Refused refusal) ∷ []) fault
refused_so p q command refusal fault (inl wants) =
    subst (λ (f : CallFault). IsFaultAfter q (entry p.origin.number command (replies.Refused refusal) ∷ []) f) (sym wants.1) tt
refused_so p q command refusal fault (inr other) =
    let last : Entry Command Reply = entry p.origin.number command (replies.Refused refusal) in
    subst (λ (f : CallFault). IsFaultAfter q (last ∷ []) f) (sym other.1)
    (other.0, record { front = []; last = last; parts = refl; refused = refl })

pub fails_by : (p q : PassRecord) (command : Command) (fault : CallFault) → FailsAsking p q command fault → FailsBy p q fault
fails_by p q command fault (inl t) = record {
  own = [];
  made = t.1.made;
  cause = subst (λ (f : CallFault). IsFaultAfter q [] f) (sym t.2) (t.1.fault_is, t.1.full);
}
fails_by p q command fault (inr t) = record {
  own = entry p.origin.number command (replies.Refused t.0) ∷ [];
  made = t.2.made;
  cause = refused_so p q command t.0 fault t.3;
}

-- ---- after other calls
ends_later : (own more : List (Entry Command Reply)) (refusal : Refusal) → EndsRefused more refusal → EndsRefused (own ++ more) refusal
ends_later own more refusal e = record {
  front = own ++ e.front;
  last = e.last;
  parts = ap (λ (l : List (Entry Command Reply)). own ++ l) e.parts ∙ sym (append_assoc own e.front (e.last ∷ []));
  refused = e.refused;
}

fault_later : (q : PassRecord) (own more : List (Entry Command Reply)) (fault : CallFault) → IsFaultAfter q more fault →
    IsFaultAfter q (own ++ more) fault
fault_later q own more (faults.Desk fault) cause = cause
fault_later q own more (faults.Refused refusal) cause = (cause.0, ends_later own more refusal cause.1)
fault_later q own more faults.NoRoom cause = tt

pub fails_later : (p q r : PassRecord) (own : List (Entry Command Reply)) (fault : CallFault) → Made p q own → FailsBy q r fault →
    FailsBy p r fault
fails_later p q r own fault made by = record {
  own = own ++ by.own;
  made = made_more p q r own by.own made by.made;
  cause = fault_later r own by.own fault by.cause;
}
