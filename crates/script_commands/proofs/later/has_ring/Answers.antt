use Rattle.std.proofs.Common.{◌≡◌, List, ℕ, refl, subst, arith, rules}
use Rattle.std.specs.Char.{is_ascii_alphanumeric}
use Rattle.std.proofs.lemmas.Bool.Decides.{Decides-eqb}
use Rattle.std.proofs.lemmas.Slice.Eq.{slice_eq-Decides}
use Rattle.ds_line.specs.Part.{Word}
use Rattle.ds_line.proofs.PartLemmas.{part_one}
use Rattle.ds_names.specs.Run.{Begins}
use Rattle.script_commands.specs.Words.{text_of}
use Rattle.script_commands.specs.declared.word.Word.TheVariants as words
use Rattle.script_commands.proofs.FirstBytesLemmas.{other_word}
use Rattle.script_commands.proofs.later.has_ring.Goals as goal

pub returns-in-114 : goal.returns-in-114
returns-in-114 c =
    let slice : c.as_slice.result.now ≡ (text_of words.Ring) = c.as_slice.ensures in
    let is = slice_eq-Decides Decides-eqb c.word_at.result.0.now (text_of words.Ring) c.eq.result (rw (← slice) c.eq.ensures) in (
      λ same. (
        c.word_at.result.1.now,
        subst (λ (t : List ℕ). Begins is_ascii_alphanumeric c.args.line.now t c.word_at.result.1.now)
            (is.0 same) c.word_at.ensures.found,
      ),
      λ begins. is.1 (part_one Word c.args.line.now c.word_at.result.0.now (text_of words.Ring) c.word_at.result.1.now begins.0
          c.word_at.ensures.valid refl c.word_at.ensures.found begins.1).0,
    )

pub returns-in_default-5 : goal.returns-in_default-5
returns-in_default-5 c = other_word (text_of words.Ring) c.args.line.now 0 (omega arith) (search rules)

pub returns-in_default-4 : goal.returns-in_default-4
returns-in_default-4 c = other_word (text_of words.Ring) c.args.line.now 1 (omega arith) (search rules)

pub returns-in_default-3 : goal.returns-in_default-3
returns-in_default-3 c = other_word (text_of words.Ring) c.args.line.now 2 (omega arith) (search rules)

pub returns-in_default-2 : goal.returns-in_default-2
returns-in_default-2 c = other_word (text_of words.Ring) c.args.line.now 3 (omega arith) (search rules)
