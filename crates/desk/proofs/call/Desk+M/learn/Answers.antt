use Rattle.std.proofs.Common.{ap, ◌∙◌, refl}
use Rattle.desk_rule.proofs.ListLemmas.{nil_of}
use Rattle.desk.proofs.SeeLemmas.{learns_told}
use Rattle.desk_rule.proofs.WaitLemmas.{rests_facts}
use Rattle.desk.proofs.SightLemmas.{listens_facts}
use Rattle.desk.proofs.call.Desk+M.learn.Goals as goal

pub join_note-requires-clause-note : goal.join_note-requires-clause-note
join_note-requires-clause-note g c = record {
  at = (c.requires.note, c.args.self.now.words, c.args.self.now.slots);
  no_slot = nil_of _ c.args.note.nothing_out;
  resting = (listens_facts c.args.note.seat.me.0 c.args.note.listening).1;
}

pub join_note-requires-clause-no_pass : goal.join_note-requires-clause-no_pass
join_note-requires-clause-no_pass g c = (listens_facts c.args.note.seat.me.0 c.args.note.listening).0

pub returns-clause-learnt : goal.returns-clause-learnt
returns-clause-learnt g c = let j = c.join_note.ensures.joined in let l = c.look.ensures in
    learns_told g.M.Machine.stands g.M.Machine.steps _ _ c.join_note.new.seat.me.0 c.args.note _ _ (ap (λ m. m.0) j.both_is) l.looks
    (l.same.0 ∙ j.same.0)
    (rests_facts c.args.pass.now.seat.me.0 c.args.pass.now.resting).1 refl refl
