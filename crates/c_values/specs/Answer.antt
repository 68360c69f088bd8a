-- The answers for replies.
use Rattle.std.specs.Prelude.{ℕ, cond, length, replicate}
use Rattle.std.specs.Int.{to_le_bytes, w128}
use Rattle.ds_entry.specs.declared.body.Value.{Value}
use Rattle.ds_entry.specs.declared.body.Value.TheVariants as values
use Rattle.ds_machine.specs.Owed.{owed_by}
use Rattle.ds_machine.specs.declared.refusal.Refusal.{Refusal}
use Rattle.ds_machine.specs.declared.refusal.Refusal.TheVariants as refusals
use Rattle.ds_machine.specs.declared.reply.Reply.{Reply}
use Rattle.ds_machine.specs.declared.reply.Reply.TheVariants.{Changed, Known, Swept, Found, Named, Subscribed, Checked}
use Rattle.ds_machine.specs.declared.reply.Reply.TheVariants.{Journaled, Snapped, Paged, Merged, MergeStopped, Refused}
use Rattle.c_values.specs.Pieces.{pieces_of}
use Rattle.c_values.specs.declared.answer.Answer.{Answer}
use Rattle.c_values.specs.declared.answer.Word.{Word}
use Rattle.c_values.specs.declared.answer.Word.TheVariants as words

-- The number of a refusal. Those of commands are numbered from 1, in the order in which a store judges, then come those of opening.
abbrev pub refusal_number : Refusal → ℕ
refusal_number refusals.BadSub = 1
refusal_number refusals.TooMany = 2
refusal_number refusals.TooLong = 3
refusal_number refusals.BadPattern = 4
refusal_number refusals.BadKind = 5
refusal_number refusals.BadLabel = 6
refusal_number refusals.BadVersion = 7
refusal_number refusals.NoCaller = 8
refusal_number refusals.NotAllowed = 9
refusal_number refusals.NotOwner = 10
refusal_number (refusals.Clash version) = 11
refusal_number refusals.Stale = 12
refusal_number refusals.Exists = 13
refusal_number refusals.NotFound = 14
refusal_number refusals.OldCursor = 15
refusal_number refusals.Ahead = 16
refusal_number refusals.Behind = 17
refusal_number refusals.Full = 18
refusal_number refusals.Worn = 19
refusal_number refusals.NoRoom = 20
refusal_number refusals.BadRing = 21
refusal_number refusals.BadFirst = 22

-- The number of a word, which is its index among the variants.
abbrev pub word_number : Word → ℕ
word_number words.Changed = 0
word_number words.Known = 1
word_number words.Swept = 2
word_number words.Found = 3
word_number words.Named = 4
word_number words.Subscribed = 5
word_number words.Checked = 6
word_number words.Journaled = 7
word_number words.Snapped = 8
word_number words.Paged = 9
word_number words.Merged = 10
word_number words.MergeStopped = 11
word_number words.Refused = 12
word_number words.NoRequest = 13
word_number words.Shown = 14
word_number words.BadLine = 15
word_number words.Acted = 16

-- The answer with this word, and zeros.
abbrev pub worded : Word → Answer
worded word = record {
  count = 0;
  taken = 0;
  stale = 0;
  before = 0;
  after = 0;
  pieces = 0;
  word = word_number word;
  refusal = 0;
  epoch = 0;
  seq = 0;
  value = 0;
  value_slot = 0;
  kind = 0;
  last = 0;
  owed = replicate 16 0;
}

-- The answer to a request that isn't a command.
abbrev pub no_request : Answer
no_request = worded words.NoRequest

-- The answer of a show of `count` items, with one piece of text each.
abbrev pub told_shown : ℕ → Answer
told_shown count = record (worded words.Shown) { count = count; pieces = count }

-- The answer to a line whose first bad part begins at a byte.
abbrev pub told_bad_line : ℕ → Answer
told_bad_line place = record (worded words.BadLine) { count = place }

-- The answer with items, with two stamps or a cursor.
abbrev pub told_of_items : Word → ℕ → ℕ → Answer
told_of_items word before after = record (worded word) { before = before; after = after }

-- The answer of a refusal. A clash has the version of both changes.
abbrev pub told_refusal : Word → Refusal → Answer
told_refusal word (refusals.Clash version) = record (worded word) { refusal = 11; epoch = version.epoch; seq = version.seq }
told_refusal word refusal = record (worded word) { refusal = refusal_number refusal }

-- The answer to a command for which memory ran out.
abbrev pub told_no_room : Answer
told_no_room = told_refusal words.Refused refusals.NoRoom

-- The answer with a value: a label's endpoint, a number, or the kind of the text.
abbrev pub told_value : Value → Answer
told_value (values.Label endpoint) = record (worded words.Found) { kind = 1; value = endpoint.generation; value_slot = endpoint.slot }
told_value (values.U32 number) = record (worded words.Found) { kind = 2; value = number }
told_value (values.Str text) = record (worded words.Found) { kind = 4 }
told_value (values.Mem bytes) = record (worded words.Found) { kind = 8 }

-- The answer for a reply, without the number of pieces and the notices owed.
abbrev pub told_reply : Reply → Answer
told_reply (Changed owed) = worded words.Changed
told_reply Known = worded words.Known
told_reply (Swept count owed) = record (worded words.Swept) { count = count }
told_reply (Found value) = told_value value
told_reply (Named name) = worded words.Named
told_reply (Subscribed stamp owed) = record (worded words.Subscribed) { after = stamp }
told_reply (Checked items before after) = told_of_items words.Checked before after
told_reply (Journaled since) = told_of_items words.Journaled since.cursor.incarnation since.cursor.position
told_reply (Snapped snapshot) = told_of_items words.Snapped snapshot.cursor.incarnation snapshot.cursor.position
told_reply (Paged page) = record (told_of_items words.Paged page.cursor.incarnation page.cursor.position) { last = cond page.last 1 0 }
told_reply (Merged done taken stale owed) = record (worded words.Merged) { count = done; taken = taken; stale = stale }
told_reply (MergeStopped done fault owed) = record (told_refusal words.MergeStopped fault) { count = done }
told_reply (Refused refusal) = told_refusal words.Refused refusal

-- The answer for a reply. The first byte of `owed` has the notices of subscriptions 0 to 7.
unfoldable pub answer_of : Reply → Answer
answer_of reply = record (told_reply reply) { pieces = length (pieces_of reply); owed = to_le_bytes w128 (owed_by reply) }
