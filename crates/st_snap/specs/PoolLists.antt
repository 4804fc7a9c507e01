-- The pool as it is in memory: the words by copy, the free copies and the versions kept
use Rattle.std.specs.Prelude.{◌≡◌, ℕ, ◌+◌, ◌^◌, ◌==◌, ◌<◌, ◌≤◌, nat_lt, Bool, if◌then◌else◌, List, [], length, map, count_by, slice_index_or, Option}
use Rattle.std.specs.List.{list_any, AllPairs}
use Rattle.st_snap.specs.Lanes.{is_between}
use Rattle.st_snap.specs.declared.pools.Version.{Version}
use Rattle.st_snap.specs.Pool.{KeptVersion, PoolVersions}

-- a version with the words of its copy
abbrev pub kept_of : List (List ℕ) → Version → KeptVersion
kept_of words version = record { version = version; words = slice_index_or words version.copy [] }

-- the pool with these words by copy and these versions
abbrev pub versions_of : List (List ℕ) → List Version → PoolVersions
versions_of words kept = record { size = length words; versions = map (kept_of words) kept }

-- how often a number is among the free ones, and how many versions it holds
abbrev pub uses : List ℕ → List Version → ℕ → ℕ
uses free kept copy = count_by (λ c. c == copy) free + count_by (λ v. v.copy == copy) kept

-- each copy is free or holds one version, and either list has room for all
pub record IsPool (words : List (List ℕ)) (free : List ℕ) (kept : List Version) (room_free room_kept : ℕ) : Type 0 where
  pub small : length words < 2 ^ 32
  pub free_fits : length words ≤ room_free
  pub kept_fits : length words ≤ room_kept
  pub all : length free + length kept ≡ length words
  pub once : (copy : ℕ) → uses free kept copy ≡ (if nat_lt copy (length words) then 1 else 0)

-- whether some check at a lane reads the version
abbrev pub is_version_read : List (Option ℕ) → Version → Bool
is_version_read lanes version = list_any (is_between version.after version.upto) lanes

-- no version was kept at an earlier epoch than one before it
abbrev pub AreVersionsInOrder : List Version → Type 0
AreVersionsInOrder kept = AllPairs (λ earlier later. earlier.upto ≤ later.upto) kept
