-- The tables of a snapshot heap as lists, and how each call of theirs changes them
use Rattle.std.specs.Prelude.{◌≡◌, ◌≢◌, ℕ, zero, suc, ◌+◌, ◌*◌, ◌<◌, ◌≤◌, ◌⊎◌}
use Rattle.std.specs.Prelude.{Bool, true, false, List, [], ◌∷◌, length, filter, position, slice_get, slice_set, slice_index, replicate, Option, Some, None, IsSome}
use Rattle.std.specs.List.{Contains}
use Rattle.st_snap.specs.Terms.{Sizes, ShapeLists, Object, heap_of, word_of, word_at, with_object, with_word, fresh, first_heap}
use Rattle.st_events.specs.declared.heaps.TheConstants.{FIRST_OF_REGIONS}
use Rattle.st_snap.specs.declared.headers.Forward.{Forward}
use Rattle.st_snap.specs.declared.headers.Header.{Header}
use Rattle.st_snap.specs.declared.headers.Target.{Target}
use Rattle.st_snap.specs.declared.headers.Target.TheVariants.{Copied, Gone}
use Rattle.st_snap.specs.declared.lanes.Lane.{Lane}
use Rattle.st_snap.specs.Headers.{forward_all}
use Rattle.st_snap.specs.Lanes.{is_idle, newest_of}
use Rattle.st_snap.specs.Pool.{PoolVersions, KeptVersion, Keeps, is_read, no_versions}

-- the tables as lists: what stands at each number, each object's header, how many objects each mutator made, how many
-- checks were launched, the check at each lane, and the pool
pub record TableLists : Type 0 where
  pub heap : List (Option Object)
  pub headers : List Header
  pub made : List ℕ
  pub epoch : ℕ
  pub lanes : List (Option ℕ)
  pub pool : PoolVersions

-- how many numbers of objects there are
abbrev pub object_room : Sizes → ℕ
object_room sizes = FIRST_OF_REGIONS + sizes.mutators * sizes.objects

-- the tables before the first event
pub record AreFirstTables (shape : ShapeLists) (sizes : Sizes) (t : TableLists) : Type 0 where
  pub heap : heap_of t.heap ≡ first_heap shape
  pub room : length t.heap ≡ object_room sizes
  pub header_room : length t.headers ≡ object_room sizes
  pub headers : (obj : ℕ) (h : Header) → slice_get t.headers obj ≡ Some h → h.stamp ≡ 0
  pub forward : (obj lane : ℕ) (h : Header) (f : Forward) → slice_get t.headers obj ≡ Some h → slice_get h.forward lane ≡ Some f → f.epoch ≡ 0
  pub made : t.made ≡ replicate sizes.mutators 0
  pub epoch : t.epoch ≡ 0
  pub lanes : t.lanes ≡ replicate sizes.lanes None
  pub pool : t.pool ≡ no_versions sizes.copies

-- the list with one element changed
abbrev pub adjust : {X : Type 0} → (X → X) → List X → ℕ → List X
adjust f [] i = []
adjust f (x ∷ xs) zero = f x ∷ xs
adjust f (x ∷ xs) (suc i) = x ∷ adjust f xs i

-- a header with this stamp
abbrev pub stamped : ℕ → Header → Header
stamped epoch h = record h { stamp = epoch }

-- a header that sends each check launched after its stamp to the target
abbrev pub sent : Target → List (Option ℕ) → Header → Header
sent target lanes h = record h { forward = forward_all h.stamp target lanes h.forward }

-- a mutator has made one object more
pub record Makes (shape : ShapeLists) (objects : ℕ) (before after : TableLists) (m class obj : ℕ) : Type 0 where
  pub count : ℕ
  pub found : slice_get before.made m ≡ Some count
  pub number : obj ≡ FIRST_OF_REGIONS + m * objects + count
  pub heap : heap_of after.heap ≡ with_object (heap_of before.heap) obj (fresh shape class)
  pub room : length after.heap ≡ length before.heap
  pub rest : after ≡ record before { heap = after.heap; made = slice_set before.made m (count + 1); headers = adjust (stamped before.epoch) before.headers obj }

-- the list begins with the words of what stands there
abbrev pub HasWords : List ℕ → Option Object → Type 0
HasWords words x = (field word : ℕ) → word_of x field ≡ Some word → slice_index words field ≡ word

-- some check needs the version of the object, which has this header; all that do are sent to one target
pub record KeepsFor (before after : TableLists) (obj : ℕ) (header : Header) : Type 0 where
  pub needed : header.stamp < newest_of before.lanes
  pub target : Target
  pub words : List ℕ
  pub has : HasWords words (heap_of before.heap obj)
  pub kept : Keeps before.pool after.pool obj header.stamp before.epoch words target
  pub rest : after ≡ record before { pool = after.pool; headers = adjust (sent target before.lanes) before.headers obj }

-- the version of an object is kept where some check needs it: one that was launched after its stamp
pub record KeepsVersion (before after : TableLists) (obj : ℕ) : Type 0 where
  pub header : Header
  pub found : slice_get before.headers obj ≡ Some header
  pub cases : KeepsFor before after obj header ⊎ ((newest_of before.lanes ≤ header.stamp) × (after ≡ before))

-- a word is set, and the stamp of its object becomes the epoch; nothing else changes
pub record Writes (before after : TableLists) (obj field value : ℕ) : Type 0 where
  pub heap : heap_of after.heap ≡ with_word (heap_of before.heap) obj field value
  pub room : length after.heap ≡ length before.heap
  pub rest : after ≡ record before { heap = after.heap; headers = adjust (stamped before.epoch) before.headers obj }

-- one word is set, after the version was kept
pub record Changes (before after : TableLists) (obj field value : ℕ) : Type 0 where
  pub between : TableLists
  pub version : KeepsVersion before between obj
  pub heap : heap_of after.heap ≡ with_word (heap_of before.heap) obj field value
  pub room : length after.heap ≡ length before.heap
  pub rest : after ≡ record between { heap = after.heap; headers = adjust (stamped before.epoch) between.headers obj }

-- one word is set, or nothing
abbrev pub ChangesWhere : Bool → TableLists → TableLists → ℕ → ℕ → ℕ → Type 0
ChangesWhere true before after obj field value = Changes before after obj field value
ChangesWhere false before after obj field value = after ≡ before

-- a check is launched where a lane is idle
abbrev pub Launches : TableLists → TableLists → Option Lane → Type 0
Launches before after None = (position is_idle before.lanes ≡ None) × (after ≡ before)
Launches before after (Some lane) =
    (position is_idle before.lanes ≡ Some lane.index)
    × (lane.number ≡ before.epoch + 1)
    × (after ≡ record before { epoch = before.epoch + 1; lanes = slice_set before.lanes lane.index (Some (before.epoch + 1)) })

-- the pool without the versions that no check at a lane reads
abbrev pub released_pool : List (Option ℕ) → PoolVersions → PoolVersions
released_pool lanes pool = record pool { versions = filter (is_read lanes) pool.versions }

-- the tables once the check of a lane has left
abbrev pub retired_at : TableLists → ℕ → TableLists
retired_at t index = record t { lanes = slice_set t.lanes index None; pool = released_pool (slice_set t.lanes index None) t.pool }

-- the answer where a check is sent to a target
abbrev pub AnswersAt : PoolVersions → ℕ → Target → Option ℕ → Type 0
AnswersAt pool field Gone answer = answer ≡ None
AnswersAt pool field (Copied copy) answer = (kept : KeptVersion) → Contains pool.versions kept → kept.version.copy ≡ copy → answer ≡ Some (slice_index kept.words field)

-- what a check reads: by its forwarding word where that is of its epoch, else the live word
pub record ReadsByForward (t : TableLists) (lane : Lane) (obj field : ℕ) (answer : Option ℕ) : Type 0 where
  pub header : Header
  pub forward : Forward
  pub found : slice_get t.headers obj ≡ Some header
  pub forwarded : slice_get header.forward lane.index ≡ Some forward
  pub live : forward.epoch ≢ lane.number → answer ≡ word_at (heap_of t.heap) obj field
  pub sent : forward.epoch ≡ lane.number → AnswersAt t.pool field forward.target answer

-- where a check is sent nowhere at an object, the live heap has the cell
abbrev pub IsLiveUnlessSent : TableLists → Lane → ℕ → ℕ → Type 0
IsLiveUnlessSent t lane obj field =
    (header : Header) (forward : Forward)
    → slice_get t.headers obj ≡ Some header
    → slice_get header.forward lane.index ≡ Some forward
    → forward.epoch ≢ lane.number
    → IsSome (word_at (heap_of t.heap) obj field)

-- each copy that a check is sent to at this header is one of the pool's
abbrev pub IsSentToCopies : TableLists → Lane → ℕ → Type 0
IsSentToCopies t lane obj =
    (header : Header) (forward : Forward) (copy : ℕ)
    → slice_get t.headers obj ≡ Some header
    → slice_get header.forward lane.index ≡ Some forward
    → forward.epoch ≡ lane.number
    → forward.target ≡ Copied copy
    → copy < t.pool.size
