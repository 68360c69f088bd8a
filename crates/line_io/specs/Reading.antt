-- The state of an input's lines, and its steps to the next line.
use Rattle.std.specs.Prelude.{◌≡◌, ◌≢◌, ℕ, suc, ◌+◌, ◌*◌, ◌-◌, ◌^◌, ◌≤◌, List, [], ◌++◌, take, drop}
use Rattle.line_io.specs.Lines.{EndsLine, with_newline}

-- The current line with its newline, the bytes read after it, the count of lines reached, and the count of reads.
pub record LinesContent : Type 0 where
  pub line : List ℕ
  pub rest : List ℕ
  pub count : ℕ
  pub reads : ℕ

-- The state before anything was read.
abbrev pub no_lines : LinesContent
no_lines = record { line = []; rest = []; count = 0; reads = 0 }

-- The state whose buffer has the line from `start` to `end`.
abbrev pub lines_of : List ℕ → (start end count reads : ℕ) → LinesContent
lines_of bytes start end count reads = record {
  line = take (end - start) (drop start bytes);
  rest = drop end bytes;
  count = count;
  reads = reads;
}

-- The invariant of the buffer: the line lies inside it, and the counts fit the number of reads.
pub record AreLinesKept (chunk have start end count read : ℕ) : Type 0 where
  pub room : chunk ≡ 65536
  pub order : start ≤ end
  pub within : end ≤ have
  pub few : count + have ≤ read * 65536 + end
  pub reads : read ≤ 2 ^ 32

-- The step to the next line, which was read already.
pub record GoesToNext (old new : LinesContent) : Type 0 where
  pub ends : EndsLine new.line
  pub split : old.rest ≡ new.line ++ new.rest
  pub count : new.count ≡ suc old.count
  pub reads : new.reads ≡ old.reads

-- The step to the last line, to which the missing newline is appended.
pub record GoesToLast (old new : LinesContent) : Type 0 where
  pub ends : EndsLine new.line
  pub line : new.line ≡ with_newline old.rest
  pub some : old.rest ≢ []
  pub rest : new.rest ≡ []
  pub count : new.count ≡ suc old.count
  pub reads : new.reads ≡ old.reads
  pub few : old.count ≤ 2 ^ 48
