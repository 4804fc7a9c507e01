-- What the tests' heaps have in common: all numbers, one check without arguments, and objects that are known to exist; what each call asks and leaves
use Rattle.std.specs.Prelude.{◌≡◌, ◌≢◌, ℕ, ◌+◌, ◌<◌, ◌≤◌, List, [], ◌∷◌, ◌++◌, replicate, length, slice_index_or, Option, Some, None, Result, Ok, Err, ⊤}
use Rattle.std.specs.List.{All, AllPairs, remove}
use Rattle.st_events.specs.declared.events.Event.{Event}
use Rattle.st_events.specs.declared.events.Event.TheVariants.{New, Launch, Retire}
use Rattle.st_events.specs.declared.shapes.Kind.TheVariants.{Int}
use Rattle.st_events.specs.declared.limits.Sizes.{Sizes}
use Rattle.st_events.specs.Shape.{ShapeLists, IsWithinLimits}
use Rattle.st_events.specs.Sizes.{AreWithinLimits}
use Rattle.st_snap.specs.declared.lanes.Lane.{Lane}
use Rattle.st_snap.specs.Snapshots.{Snapshots, world_of, active_now, new_heap, with_event, IsLegalHeap, IsLaneOf, HasCell, HadCell, HasSpare}
use Rattle.tests_snap.specs.declared.driver.TheConstants.{NO_ARGS}
use Rattle.tests_snap.specs.declared.driver.Failed.{Failed}
use Rattle.tests_snap.specs.declared.driver.Failed.TheVariants as failed

-- one shared number, a class of so many numbers, and one check without arguments
abbrev pub plain_shape : ℕ → ShapeLists
plain_shape width = record { classes = (Int ∷ []) ∷ replicate width Int ∷ []; checks = [] ∷ [] }

-- an object has so many fields now
abbrev pub HasCells : Snapshots → ℕ × ℕ → Type 0
HasCells s object = (field : ℕ) → field < object.1 → HasCell s object.0 field

-- it had so many at the launch of a check
abbrev pub HadCells : Snapshots → ℕ → ℕ × ℕ → Type 0
HadCells s number object = (field : ℕ) → field < object.1 → HadCell s number object.0 field

-- the lane is one of the heap's, and each object stood at its launch
pub record IsDrivenLane (s : Snapshots) (known : List (ℕ × ℕ)) (lane : Lane) : Type 0 where
  pub is : IsLaneOf s lane
  pub had : All (HadCells s lane.number) known

-- no two of the lanes have one number
abbrev pub HaveOwnNumbers : List Lane → Type 0
HaveOwnNumbers held = AllPairs (λ lane later. lane.number ≢ later.number) held

-- a heap, the sizes that it was made for, and objects and lanes that are known
pub record IsDriven (s : Snapshots) (made_for : Sizes) (width : ℕ) (known : List (ℕ × ℕ)) (held : List Lane) : Type 0 where
  pub sizes : s.sizes ≡ made_for
  pub shape : s.shape ≡ plain_shape width
  pub fits : IsWithinLimits s.shape
  pub legal : IsLegalHeap s
  pub objects : All (HasCells s) known
  pub lanes : All (IsDrivenLane s known) held
  pub apart : HaveOwnNumbers held

-- a driven heap as its callers see it: how many fields each new object gets, and the objects, with their fields, and the checks in the order in which they came
pub record DrivenHeap : Type 0 where
  pub heap : Snapshots
  pub width : ℕ
  pub objects : List (ℕ × ℕ)
  pub checks : List Lane

-- the number of the object at a place of the list; 0 where there is none
abbrev pub object_at : DrivenHeap → ℕ → ℕ
object_at d place = (slice_index_or d.objects place (0, 0)).0

-- how many fields it has; 0 where there is none
abbrev pub fields_at : DrivenHeap → ℕ → ℕ
fields_at d place = (slice_index_or d.objects place (0, 0)).1

-- the number of the check at a place of the list; 0 where there is none
abbrev pub check_at : DrivenHeap → ℕ → ℕ
check_at d place = (slice_index_or d.checks place (record { number = 0; index = 0 })).number

-- before the first event: the shared object, with its one field, is known, and no check
abbrev pub new_driven : ℕ → Sizes → DrivenHeap
new_driven width sizes = record { heap = new_heap (plain_shape width) sizes; width = width; objects = (1, 1) ∷ []; checks = [] }

-- one more event, while objects and checks stay
abbrev pub with_act : DrivenHeap → Event → DrivenHeap
with_act d e = record d { heap = with_event d.heap e }

-- one more event, and a new object, which comes last
abbrev pub with_new : DrivenHeap → ℕ → ℕ → DrivenHeap
with_new d m obj = record d { heap = with_event d.heap (New m obj 1); objects = d.objects ++ (obj, d.width) ∷ [] }

-- one more event, and a check without arguments, which comes last
abbrev pub with_launch : DrivenHeap → ℕ → Lane → DrivenHeap
with_launch d m lane = record d { heap = with_event d.heap (Launch m 0 lane.number NO_ARGS); checks = d.checks ++ lane ∷ [] }

-- one more event, and one check fewer: those behind it move up
abbrev pub with_retire : DrivenHeap → ℕ → ℕ → DrivenHeap
with_retire d m check = record d { heap = with_event d.heap (Retire m (check_at d check)); checks = remove d.checks check }

-- the next check is launched, and has a lane of the heap
pub record IsLaunch (before after : DrivenHeap) (m number : ℕ) : Type 0 where
  pub idle : length (active_now before.heap) ≢ before.heap.sizes.lanes
  pub next : number ≡ (world_of before.heap).epoch + 1
  pub lane : Lane
  pub of_check : lane.number ≡ number
  pub of_heap : IsLaneOf after.heap lane
  pub one_more : after ≡ with_launch before m lane

-- what a launch answers: the number of the next check, or None where every lane is active, and then all is as before
abbrev pub Launches : DrivenHeap → DrivenHeap → ℕ → Option ℕ → Type 0
Launches before after m None = (length (active_now before.heap) ≡ before.heap.sizes.lanes) × (after ≡ before)
Launches before after m (Some number) = IsLaunch before after m number

-- a heap can be made for objects of so many fields, and for these sizes
pub record CanMake (width : ℕ) (wanted : Sizes) : Type 0 where
  pub shape : IsWithinLimits (plain_shape width)
  pub sizes : AreWithinLimits wanted

-- a mutator can act on a field of the object at a place
pub record CanAct (d : DrivenHeap) (m object field : ℕ) : Type 0 where
  pub thread : m < d.heap.sizes.mutators
  pub known : object < length d.objects
  pub has : field < fields_at d object
  pub spare : HasSpare d.heap

-- a mutator can make an object: no check is active
pub record CanNew (d : DrivenHeap) (m : ℕ) : Type 0 where
  pub thread : m < d.heap.sizes.mutators
  pub room : (world_of d.heap).made m < d.heap.sizes.objects
  pub alone : d.checks ≡ []
  pub spare : HasSpare d.heap

-- a mutator can launch a check, if a lane is idle
pub record CanLaunch (d : DrivenHeap) (m : ℕ) : Type 0 where
  pub thread : m < d.heap.sizes.mutators
  pub spare : HasSpare d.heap

-- the check at a place can read a field of the object at a place
pub record CanRead (d : DrivenHeap) (check object field : ℕ) : Type 0 where
  pub launched : check < length d.checks
  pub known : object < length d.objects
  pub has : field < fields_at d object

-- the check at a place can be retired, by a mutator or by the main thread, which comes after them
pub record CanRetire (d : DrivenHeap) (m check : ℕ) : Type 0 where
  pub thread : m ≤ d.heap.sizes.mutators
  pub launched : check < length d.checks
  pub spare : HasSpare d.heap

-- an answer is refused exactly where the heap can't be asked for it; memory may always be out
abbrev pub IsRefusedUnless : {X : Type 0} → Type 0 → Result X Failed → Type 0
IsRefusedUnless can (Ok x) = can
IsRefusedUnless can (Err failed.Refused) = ¬ can
IsRefusedUnless can (Err failed.NoMemory) = ⊤
