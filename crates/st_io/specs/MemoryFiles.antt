-- Files that are held in memory.
use Rattle.std.specs.Prelude.{ℕ, Bool, ◌+◌, min, length, List, [], ◌∷◌, Option, Some, None, if◌then◌else◌, ◌==◌, map, string_bytes, String, Vec}
use Rattle.std.specs.Global.{Global}
use Rattle.std.specs.List.{list_any}
use Rattle.std.specs.Str.{bytes_eq}
use Rattle.st_io.specs.Counts.{raised}

-- names with their bytes, the numbers of the calls that are to fail, and what was counted so far
pub record Shelf : Type 0 where
  pub files : List (List ℕ × List ℕ)
  pub failing : List ℕ
  pub calls : ℕ
  pub faults : ℕ
  pub taken : ℕ

-- each name with its bytes, as lists
abbrev pub named_files : List (String Global × Vec ℕ Global) → List (List ℕ × List ℕ)
named_files files = map (λ file. (string_bytes file.0, file.1.items)) files

-- the call with this number is to fail
unfoldable pub is_listed : List ℕ → ℕ → Bool
is_listed failing call = list_any (λ number. number == call) failing

-- the bytes of the first file of this name
abbrev pub content_of : List (List ℕ × List ℕ) → List ℕ → Option (List ℕ)
content_of [] name = None
content_of (file ∷ files) name = if bytes_eq file.0 name then Some file.1 else content_of files name

-- the bytes that the next call gives: none where it is to fail, or where the name is lacking
abbrev pub given_bytes : Shelf → List ℕ → Option (List ℕ)
given_bytes shelf name =
    if is_listed shelf.failing (raised 1 shelf.calls) then None else content_of shelf.files name

-- a call counts its fault, or the bytes that it took: no more than one past the limit
abbrev pub shelf_with_count : Shelf → ℕ → Option (List ℕ) → Shelf
shelf_with_count shelf limit None = record shelf { faults = raised 1 shelf.faults }
shelf_with_count shelf limit (Some bytes) = record shelf { taken = raised (min (length bytes) (limit + 1)) shelf.taken }

-- what a read of this name leaves
abbrev pub shelf_after : Shelf → List ℕ → ℕ → Shelf
shelf_after shelf name limit = shelf_with_count (record shelf { calls = raised 1 shelf.calls }) limit (given_bytes shelf name)
