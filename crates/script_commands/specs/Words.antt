-- The words of commands.
use Rattle.std.specs.Prelude.{ℕ, List, [], ◌∷◌, codes}
use Rattle.script_commands.specs.declared.word.Word.{Word}
use Rattle.script_commands.specs.declared.word.Word.TheVariants as words

-- The text of a command's word.
abbrev pub text_of : Word → List ℕ
text_of words.Offer = codes "offer"
text_of words.Show = codes "show"
text_of words.All = codes "all"
text_of words.Publish = codes "publish"
text_of words.Delete = codes "delete"
text_of words.Sweep = codes "sweep"
text_of words.Retrieve = codes "retrieve"
text_of words.NameOf = codes "nameof"
text_of words.Subscribe = codes "subscribe"
text_of words.Check = codes "check"
text_of words.Map = codes "map"
text_of words.Entries = codes "entries"
text_of words.Ring = codes "ring"
text_of words.Side = codes "side"
text_of words.Clear = codes "clear"
text_of words.Restart = codes "restart"
text_of words.Deliver = codes "deliver"
text_of words.Since = codes "since"
text_of words.Snapshot = codes "snapshot"
text_of words.Page = codes "page"
text_of words.Settings = codes "settings"
text_of words.Service = codes "service"
text_of words.Death = codes "death"
text_of words.Beat = codes "beat"
text_of words.Tick = codes "tick"
text_of words.Assign = codes "assign"
text_of words.Follow = codes "follow"
text_of words.Submit = codes "submit"
text_of words.Reply = codes "reply"

-- The words, each once, the most frequent ones first.
abbrev pub all_words : List Word
all_words =
    words.Offer ∷ words.Publish ∷ words.Retrieve ∷ words.Check ∷ words.NameOf ∷ words.Deliver ∷ words.Since ∷ words.Page ∷ words.Show
    ∷ words.All ∷ words.Delete ∷ words.Sweep ∷ words.Subscribe ∷ words.Map ∷ words.Entries ∷ words.Ring ∷ words.Side ∷ words.Clear
    ∷ words.Restart ∷ words.Snapshot ∷ words.Settings ∷ words.Service ∷ words.Death ∷ words.Beat ∷ words.Tick ∷ words.Assign
    ∷ words.Follow ∷ words.Submit ∷ words.Reply ∷ []

-- Whether the word is of a line for a world.
abbrev pub IsOfWorld : Word → Type 0
IsOfWorld words.Ring = Unit {0}
IsOfWorld words.Side = Unit {0}
IsOfWorld words.Clear = Unit {0}
IsOfWorld words.Restart = Unit {0}
IsOfWorld words.Deliver = Unit {0}
IsOfWorld words.Since = Unit {0}
IsOfWorld words.Snapshot = Unit {0}
IsOfWorld words.Page = Unit {0}
IsOfWorld _ = ⊥

-- Whether the word is of a line for RS or driver tables.
abbrev pub IsOfServices : Word → Type 0
IsOfServices words.Settings = Unit {0}
IsOfServices words.Service = Unit {0}
IsOfServices words.Death = Unit {0}
IsOfServices words.Beat = Unit {0}
IsOfServices words.Tick = Unit {0}
IsOfServices words.Assign = Unit {0}
IsOfServices words.Follow = Unit {0}
IsOfServices words.Submit = Unit {0}
IsOfServices words.Reply = Unit {0}
IsOfServices _ = ⊥
