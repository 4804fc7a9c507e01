-- What a journal says, by name: its heap, epoch, stamps, checks, rows and pairs, and the events of a thread.
use Rattle.std.specs.Prelude.{◌≡◌, ℕ, ◌+◌, ◌==◌, Bool, true, false, List, ◌∷◌, ◌++◌, length, filter, Option}
use Rattle.std.specs.List.{list_any, sum_by}
use Rattle.st_events.specs.declared.events.Event.{Event}
use Rattle.st_events.specs.declared.events.Event.TheVariants.{New, Load, Store, Cas, Launch, Retire}
use Rattle.st_events.specs.declared.limits.Sizes.{Sizes}
use Rattle.st_events.specs.declared.limits.TheConstants.{EVENT_COST, LAUNCH_COST}
use Rattle.st_events.specs.Shape.{ShapeLists}
use Rattle.st_events.specs.Heap.{Heap}
use Rattle.st_events.specs.World.{Launched, Row, Pair, world_after, needing_in}

-- the heap after a journal
abbrev pub heap_after : ShapeLists → Sizes → List Event → Heap
heap_after shape sizes es = (world_after shape sizes es).heap

-- how many checks were launched
abbrev pub epoch_of : ShapeLists → Sizes → List Event → ℕ
epoch_of shape sizes es = (world_after shape sizes es).epoch

-- the epoch at the New or the last change of the object, whichever is later
abbrev pub stamp_of : ShapeLists → Sizes → List Event → ℕ → ℕ
stamp_of shape sizes es obj = (world_after shape sizes es).stamp obj

-- the checks that were launched and not retired, in the order of their launches
abbrev pub active_checks : ShapeLists → Sizes → List Event → List ℕ
active_checks shape sizes es = (world_after shape sizes es).active

-- the active checks that need a copy of the object where it changes next
abbrev pub needing : ShapeLists → Sizes → List Event → ℕ → List ℕ
needing shape sizes es obj = needing_in (world_after shape sizes es) obj

-- how many objects a mutator has made
abbrev pub made_by : ShapeLists → Sizes → List Event → ℕ → ℕ
made_by shape sizes es m = (world_after shape sizes es).made m

-- the copies kept, one row for each
abbrev pub kept_rows : ShapeLists → Sizes → List Event → List Row
kept_rows shape sizes es = (world_after shape sizes es).kept

-- the versions lost, a pair of object and check for each
abbrev pub lost_pairs : ShapeLists → Sizes → List Event → List Pair
lost_pairs shape sizes es = (world_after shape sizes es).lost

-- the launch of a check, if it was launched
abbrev pub launch_of : ShapeLists → Sizes → List Event → ℕ → Option Launched
launch_of shape sizes es number = (world_after shape sizes es).launched number

-- the check was launched by an event of the journal, of this thread, statement and arguments, and its past is the heap after
-- the events before that one
pub record IsLaunchIn (shape : ShapeLists) (sizes : Sizes) (es : List Event) (number : ℕ) (launch : Launched) : Type 0 where
  pub before : List Event
  pub rest : List Event
  pub split : es ≡ before ++ Launch launch.thread launch.site number launch.args ∷ rest
  pub past : launch.past ≡ heap_after shape sizes before

-- the mutator that made the event; of a Retire it may be the main thread
abbrev pub thread_of : Event → ℕ
thread_of (New m obj class) = m
thread_of (Load m obj field value) = m
thread_of (Store m obj field value) = m
thread_of (Cas m obj field expect value done) = m
thread_of (Launch m site number args) = m
thread_of (Retire m number) = m

-- whether the event is an own one of the thread; a Retire is nobody's own
abbrev pub is_own : ℕ → Event → Bool
is_own thread (New m obj class) = m == thread
is_own thread (Load m obj field value) = m == thread
is_own thread (Store m obj field value) = m == thread
is_own thread (Cas m obj field expect value done) = m == thread
is_own thread (Launch m site number args) = m == thread
is_own thread (Retire m number) = false

-- the check was retired by an event of the journal, of this thread
pub record IsRetireIn (es : List Event) (number thread : ℕ) : Type 0 where
  pub before : List Event
  pub rest : List Event
  pub split : es ≡ before ++ Retire thread number ∷ rest

-- whether the event launches a check
abbrev pub is_launch : Event → Bool
is_launch (New m obj class) = false
is_launch (Load m obj field value) = false
is_launch (Store m obj field value) = false
is_launch (Cas m obj field expect value done) = false
is_launch (Launch m site number args) = true
is_launch (Retire m number) = false

-- whether the event launches the check of this number
abbrev pub is_launch_of : ℕ → Event → Bool
is_launch_of n (New m obj class) = false
is_launch_of n (Load m obj field value) = false
is_launch_of n (Store m obj field value) = false
is_launch_of n (Cas m obj field expect value done) = false
is_launch_of n (Launch m site number args) = number == n
is_launch_of n (Retire m number) = false

-- whether the events have a Launch of the check
abbrev pub has_launch : ℕ → List Event → Bool
has_launch n es = list_any (is_launch_of n) es

-- the thread's own events, in order
abbrev pub own_events : ℕ → List Event → List Event
own_events thread es = filter (is_own thread) es

-- what an event takes of its mutator's charge: a launch pays for the Retire of its check, which takes nothing
abbrev pub charge_of : Event → ℕ
charge_of (New m obj class) = EVENT_COST
charge_of (Load m obj field value) = EVENT_COST
charge_of (Store m obj field value) = EVENT_COST
charge_of (Cas m obj field expect value done) = EVENT_COST
charge_of (Launch m site number args) = LAUNCH_COST
charge_of (Retire m number) = 0

-- what events take of the charge in all
abbrev pub charge_of_all : List Event → ℕ
charge_of_all es = sum_by charge_of es

-- whether the event makes an object
abbrev pub is_new : Event → Bool
is_new (New m obj class) = true
is_new (Load m obj field value) = false
is_new (Store m obj field value) = false
is_new (Cas m obj field expect value done) = false
is_new (Launch m site number args) = false
is_new (Retire m number) = false

-- whether the event makes an object of this mutator
abbrev pub is_new_of : ℕ → Event → Bool
is_new_of thread (New m obj class) = m == thread
is_new_of thread (Load m obj field value) = false
is_new_of thread (Store m obj field value) = false
is_new_of thread (Cas m obj field expect value done) = false
is_new_of thread (Launch m site number args) = false
is_new_of thread (Retire m number) = false

-- how many objects a journal has: the shared one, and one for each New
abbrev pub objects_of : List Event → ℕ
objects_of es = 1 + length (filter is_new es)
