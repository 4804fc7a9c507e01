-- The pool of copies: the versions that are kept, and which of them a check at a lane reads
use Rattle.std.specs.Prelude.{◌≡◌, ℕ, ◌<◌, ◌≤◌, Bool, List, [], ◌∷◌, ◌++◌, length, Option}
use Rattle.std.specs.List.{list_any, AllPairs}
use Rattle.st_snap.specs.declared.headers.Target.{Target}
use Rattle.st_snap.specs.declared.headers.Target.TheVariants.{Copied, Gone}
use Rattle.st_snap.specs.declared.pools.Version.{Version}
use Rattle.st_snap.specs.Lanes.{is_between}

-- a version that is kept, and its words
pub record KeptVersion : Type 0 where
  pub version : Version
  pub words : List ℕ

-- a pool of so many copies, and the versions kept in them, oldest first
pub record PoolVersions : Type 0 where
  pub size : ℕ
  pub versions : List KeptVersion

-- a pool whose copies are all free
abbrev pub no_versions : ℕ → PoolVersions
no_versions size = record { size = size; versions = [] }

-- a version in a copy
abbrev pub kept_in : ℕ → ℕ → ℕ → List ℕ → ℕ → KeptVersion
kept_in obj after upto words copy = record { version = record { obj = obj; after = after; upto = upto; copy = copy }; words = words }

-- where a copy is free it keeps one more version; else the version is gone and the pool as before
abbrev pub Keeps : PoolVersions → PoolVersions → ℕ → ℕ → ℕ → List ℕ → Target → Type 0
Keeps before after' obj after upto words (Copied copy) =
    (length before.versions < before.size)
    × (copy < before.size)
    × (after' ≡ record before { versions = before.versions ++ kept_in obj after upto words copy ∷ [] })
Keeps before after' obj after upto words Gone = (before.size ≤ length before.versions) × (after' ≡ before)

-- whether some check at a lane reads the version
abbrev pub is_read : List (Option ℕ) → KeptVersion → Bool
is_read lanes kept = list_any (is_between kept.version.after kept.version.upto) lanes

-- no version was kept at an earlier epoch than one before it
abbrev pub AreInOrder : List KeptVersion → Type 0
AreInOrder versions = AllPairs (λ earlier later. earlier.version.upto ≤ later.version.upto) versions
