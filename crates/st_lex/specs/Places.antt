-- The place of an offset in a text: its line and its column, both from 1, columns in bytes.
use Rattle.std.specs.Prelude.{ℕ, ◌+◌, List, length, take, count_by}
use Rattle.std.specs.List.{after_last}
use Rattle.st_lex.specs.Terms.{Site}
use Rattle.st_lex.specs.Bytes.{is_newline}

-- one more than the newlines before the offset
unfoldable pub line_at : (text : List ℕ) (offset : ℕ) → ℕ
line_at text offset = 1 + count_by is_newline (take offset text)

-- one more than the bytes between the last newline before the offset and the offset
unfoldable pub column_at : (text : List ℕ) (offset : ℕ) → ℕ
column_at text offset = 1 + length (after_last is_newline (take offset text))

-- the line and the column of an offset
abbrev pub place_at : (text : List ℕ) (offset : ℕ) → Site
place_at text offset = record { line = line_at text offset; column = column_at text offset }
