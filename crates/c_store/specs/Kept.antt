-- The memory that a session keeps with a reply.
use Rattle.std.specs.Prelude.{Bool, true, false, Result, Ok, Err}
use Rattle.ds_names.specs.declared.room.NoRoom as room
use Rattle.ds_entry.specs.declared.body.Value.{Value}
use Rattle.ds_entry.specs.declared.body.Value.TheVariants.{Label, U32, Str, Mem}
use Rattle.ds_machine.specs.declared.reply.Reply.{Reply}
use Rattle.ds_machine.specs.declared.reply.Reply.TheVariants.{Changed, Known, Swept, Found, Named, Subscribed}
use Rattle.ds_machine.specs.declared.reply.Reply.TheVariants.{Checked, Journaled, Snapped, Paged, Merged, MergeStopped, Refused}
use Rattle.ds_machine.specs.declared.refusal.Refusal.TheVariants.{NoRoom}
use Rattle.c_store.specs.declared.last.Last.{Last}
use Rattle.c_store.specs.declared.last.Last.TheVariants.{Nothing, Reply as Replied, Shown}

-- Whether a reply holds allocated memory, for a text, a blob or items.
abbrev pub reply_holds_memory : Reply → Bool
reply_holds_memory (Found (Str text)) = true
reply_holds_memory (Found (Mem bytes)) = true
reply_holds_memory (Checked items before after) = true
reply_holds_memory (Journaled since) = true
reply_holds_memory (Snapped snapshot) = true
reply_holds_memory (Paged page) = true
reply_holds_memory (Found (Label endpoint)) = false
reply_holds_memory (Found (U32 number)) = false
reply_holds_memory (Changed owed) = false
reply_holds_memory Known = false
reply_holds_memory (Swept count owed) = false
reply_holds_memory (Named name) = false
reply_holds_memory (Subscribed stamp owed) = false
reply_holds_memory (Merged done taken stale owed) = false
reply_holds_memory (MergeStopped done fault owed) = false
reply_holds_memory (Refused refusal) = false

-- Whether a last answer holds allocated memory.
abbrev pub holds_memory : Last → Bool
holds_memory Nothing = false
holds_memory (Replied reply wording) = reply_holds_memory reply
holds_memory (Shown items) = true

-- The reply of a Retrieve that copied the value, or ran out of memory for the copy.
abbrev pub copy_reply : Result Value room.NoRoom → Reply
copy_reply (Ok value) = Found value
copy_reply (Err want) = Refused NoRoom
