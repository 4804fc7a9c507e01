-- A sink in memory.
use Rattle.std.specs.Prelude.{ℕ, ◌+◌, List, ◌++◌, length, take, Option, Some, None, if◌then◌else◌, ◌==◌, nat_lt, option_map, find}
use Rattle.st_io.specs.Counts.{raised}

-- the bytes written, how many fit, which puts are to fail after how many bytes, and what was counted so far
pub record Held : Type 0 where
  pub bytes : List ℕ
  pub room : ℕ
  pub failing : List (ℕ × ℕ)
  pub puts : ℕ
  pub faults : ℕ

-- how many bytes the put with this number appends before it fails, by the first entry
unfoldable pub listed_cut : List (ℕ × ℕ) → ℕ → Option ℕ
listed_cut failing number = option_map (λ entry. entry.1) (find (λ entry. entry.0 == number) failing)

-- how many bytes of the piece the next put appends before it fails, if it fails: none past the room
abbrev pub cut_of_put : Held → List ℕ → Option ℕ
cut_of_put sink piece =
    if nat_lt sink.room (length sink.bytes + length piece) then Some 0 else listed_cut sink.failing (raised 1 sink.puts)

-- what a put leaves that appends this piece, or fails after so many bytes of it
abbrev pub put_with : Held → List ℕ → Option ℕ → Held
put_with sink piece None = record sink { bytes = sink.bytes ++ piece }
put_with sink piece (Some count) = record sink { bytes = sink.bytes ++ take count piece; faults = raised 1 sink.faults }

-- what a put of this piece leaves
abbrev pub sink_after : Held → List ℕ → Held
sink_after sink piece = put_with (record sink { puts = raised 1 sink.puts }) piece (cut_of_put sink piece)
