-- What the tables mean: the world that a journal makes
use Rattle.std.specs.Prelude.{◌≡◌, ◌≢◌, ℕ, ◌+◌, ◌<◌, ◌≤◌, true, false, List, length, map, filter, count_by, slice_get, Option, Some, IsSome}
use Rattle.std.specs.List.{Contains, All, list_any}
use Rattle.st_snap.specs.Terms.{Sizes, Object, heap_of, World, Launched, Row, Pair, is_among, is_lost}
use Rattle.st_snap.specs.declared.headers.Forward.{Forward}
use Rattle.st_snap.specs.declared.headers.Header.{Header}
use Rattle.st_snap.specs.declared.headers.Target.{Target}
use Rattle.st_snap.specs.declared.headers.Target.TheVariants.{Copied, Gone}
use Rattle.st_snap.specs.Lanes.{is_idle, is_launched_within}
use Rattle.st_snap.specs.Pool.{PoolVersions, KeptVersion, AreInOrder}
use Rattle.st_snap.specs.Table.{TableLists, object_room, HasWords}

-- the live heap, the stamps, the counts of objects and the epoch are the world's
pub record IsLive (sizes : Sizes) (w : World) (t : TableLists) : Type 0 where
  pub heap : heap_of t.heap ≡ w.heap
  pub room : length t.heap ≡ object_room sizes
  pub header_room : length t.headers ≡ object_room sizes
  pub stamps : (obj : ℕ) (h : Header) → slice_get t.headers obj ≡ Some h → h.stamp ≡ w.stamp obj
  pub made_room : length t.made ≡ sizes.mutators
  pub made : (m count : ℕ) → slice_get t.made m ≡ Some count → count ≡ w.made m
  pub epoch : t.epoch ≡ w.epoch

-- each active check is at one lane, and the other lanes are idle
pub record AreLanes (sizes : Sizes) (active : List ℕ) (lanes : List (Option ℕ)) : Type 0 where
  pub room : length lanes ≡ sizes.lanes
  pub idle : count_by is_idle lanes + length active ≡ sizes.lanes
  pub are_active : (lane n : ℕ) → slice_get lanes lane ≡ Some (Some n) → is_among active n ≡ true
  pub have_lanes : (n : ℕ) → is_among active n ≡ true → (lane : ℕ) × (slice_get lanes lane ≡ Some (Some n))
  pub once : (lane other n : ℕ) → slice_get lanes lane ≡ Some (Some n) → slice_get lanes other ≡ Some (Some n) → lane ≡ other

-- the row of a version that is kept: the active checks that were launched while it stood
abbrev pub row_of : List ℕ → KeptVersion → Row
row_of active kept = record { obj = kept.version.obj; checks = filter (is_launched_within kept.version.after kept.version.upto) active }

-- versions that were kept up to this epoch, in order, each of which some active check needs
pub record AreNeeded (epoch : ℕ) (active : List ℕ) (versions : List KeptVersion) : Type 0 where
  pub upto : All (λ kept. kept.version.upto ≤ epoch) versions
  pub order : AreInOrder versions
  pub some : All (λ kept. list_any (is_launched_within kept.version.after kept.version.upto) active ≡ true) versions

-- the versions in the pool are the copies kept, in their order
pub record ArePooled (sizes : Sizes) (w : World) (pool : PoolVersions) : Type 0 where
  pub size : pool.size ≡ sizes.copies
  pub rows : map (row_of w.active) pool.versions ≡ w.kept
  pub needed : AreNeeded w.epoch w.active pool.versions

-- the pool keeps, in the copy of this number, the version of an object that stood at the launch of a check
pub record IsCopyOf (pool : PoolVersions) (obj n : ℕ) (past : Option Object) (copy : ℕ) : Type 0 where
  pub kept : KeptVersion
  pub among : Contains pool.versions kept
  pub object : kept.version.obj ≡ obj
  pub after : kept.version.after < n
  pub upto : n ≤ kept.version.upto
  pub number : kept.version.copy ≡ copy
  pub words : HasWords kept.words past

-- what a target means: a copy of the version, or that it is lost
abbrev pub IsTargetOf : List Pair → PoolVersions → ℕ → ℕ → Option Object → Target → Type 0
IsTargetOf lost pool obj n past Gone = is_lost lost obj n ≡ true
IsTargetOf lost pool obj n past (Copied copy) = (copy < pool.size) × IsCopyOf pool obj n past copy × (is_lost lost obj n ≡ false)

-- what the forwarding word of a check means at an object with this stamp. Of the check's epoch: the object has changed
-- since its launch, and there is its version. Of another epoch: the object has not changed
pub record IsForwardOf (stamp : ℕ) (lost : List Pair) (pool : PoolVersions) (obj n : ℕ) (past : Option Object) (f : Forward) : Type 0 where
  pub forwarded : f.epoch ≡ n → (n ≤ stamp) × IsTargetOf lost pool obj n past f.target
  pub live : f.epoch ≢ n → stamp < n

-- the forwarding word of a lane at an object
pub record IsForwardAt (headers : List Header) (obj lane : ℕ) (f : Forward) : Type 0 where
  pub header : Header
  pub found : slice_get headers obj ≡ Some header
  pub forward : slice_get header.forward lane ≡ Some f

-- the forwarding words of every object that stood at the launch of an active check
pub record AreForwards (w : World) (t : TableLists) : Type 0 where
  pub epochs : (obj lane : ℕ) (f : Forward) → IsForwardAt t.headers obj lane f → f.epoch ≤ w.epoch
  pub versions :
      (obj lane n : ℕ) (f : Forward) (l : Launched)
      → slice_get t.lanes lane ≡ Some (Some n)
      → w.launched n ≡ Some l
      → IsSome (l.past obj)
      → IsForwardAt t.headers obj lane f
      → IsForwardOf (w.stamp obj) w.lost t.pool obj n (l.past obj) f

-- the tables mean this world
pub record Represents (sizes : Sizes) (w : World) (t : TableLists) : Type 0 where
  pub live : IsLive sizes w t
  pub lanes : AreLanes sizes w.active t.lanes
  pub pool : ArePooled sizes w t.pool
  pub forwards : AreForwards w t
