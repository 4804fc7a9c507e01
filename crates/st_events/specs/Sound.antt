-- What holds of a world after a legal journal, part by part.
use Rattle.std.specs.Prelude.{◌≡◌, ℕ, ◌+◌, ◌*◌, ◌<◌, ◌≤◌, ◌==◌, ◌&&◌, ◌⊎◌, Bool, true, false, List, [], ◌∷◌}
use Rattle.std.specs.Prelude.{length, filter, All, Some, None, IsSome, slice_get}
use Rattle.st_events.specs.declared.heaps.TheConstants.{FIRST_OF_REGIONS, SHARED_OBJECT}
use Rattle.st_events.specs.declared.limits.Sizes.{Sizes}
use Rattle.st_events.specs.Shape.{ShapeLists, kinds_of}
use Rattle.st_events.specs.Heap.{Heap, Object, class_at, word_at}
use Rattle.st_events.specs.World.{World, Launched, Row, is_among, is_kept, is_lost}
use Rattle.st_events.specs.Legal.{fits_cell, args_fit}

-- the heap has the shared object; its classes are declared; an object has a word for each field of its class; and each
-- word has the kind of its cell
pub record IsTypedHeap (shape : ShapeLists) (heap : Heap) : Type 0 where
  pub shared : class_at heap SHARED_OBJECT ≡ Some 0
  pub declared : (obj class : ℕ) → class_at heap obj ≡ Some class → class < length shape.classes
  pub lengths : (obj : ℕ) (x : Object) → heap obj ≡ Some x → length x.words ≡ length (kinds_of shape x.class)
  pub kinds : (obj field word : ℕ) → word_at heap obj field ≡ Some word → fits_cell shape heap obj field word ≡ true

-- the object is one that mutator m made: its region begins at `FIRST_OF_REGIONS + m * objects`
pub record IsMade (sizes : Sizes) (w : World) (obj : ℕ) : Type 0 where
  pub m : ℕ
  pub k : ℕ
  pub thread : m < sizes.mutators
  pub made : k < w.made m
  pub number : obj ≡ FIRST_OF_REGIONS + m * sizes.objects + k

-- every object is the shared one or made by a mutator, in its region and in order
pub record AreRegions (sizes : Sizes) (w : World) : Type 0 where
  pub room : (m : ℕ) → w.made m ≤ sizes.objects
  pub objects : (obj : ℕ) (x : Object) → w.heap obj ≡ Some x → (obj ≡ SHARED_OBJECT) ⊎ IsMade sizes w obj

-- the later heap has each object of the earlier one, of the same class and with as many words
pub record Extends (earlier later : Heap) : Type 0 where
  pub object :
      (obj : ℕ) (x : Object)
      → earlier obj ≡ Some x
      → (y : Object) × (later obj ≡ Some y) × (y.class ≡ x.class) × (length y.words ≡ length x.words)

-- the launched checks are those from 1 to the epoch
pub record AreLaunches (w : World) : Type 0 where
  pub launched : (n : ℕ) → 1 ≤ n → n ≤ w.epoch → (l : Launched) × (w.launched n ≡ Some l)
  pub only : (n : ℕ) (l : Launched) → w.launched n ≡ Some l → (1 ≤ n) × (n ≤ w.epoch)

-- each number is below all that follow it
abbrev pub IsRising : List ℕ → Type 0
IsRising [] = Unit {0}
IsRising (n ∷ ns) = ((k : ℕ) → is_among ns k ≡ true → n < k) × IsRising ns

-- the active checks are launched, in order, and no more than there are lanes
pub record AreActive (sizes : Sizes) (w : World) : Type 0 where
  pub lanes : length w.active ≤ sizes.lanes
  pub rising : IsRising w.active
  pub launched : (n : ℕ) → is_among w.active n ≡ true → (1 ≤ n) × (n ≤ w.epoch)

-- no stamp is above the epoch, and what was not made has stamp 0
pub record AreStamps (w : World) : Type 0 where
  pub epoch : (obj : ℕ) → w.stamp obj ≤ w.epoch
  pub unmade : (obj : ℕ) → w.heap obj ≡ None → w.stamp obj ≡ 0

-- what has not changed since a launch is as it was then
pub record ArePasts (w : World) : Type 0 where
  pub same : (obj n : ℕ) (l : Launched) → w.launched n ≡ Some l → w.stamp obj < n → l.past obj ≡ w.heap obj

-- a check is noted with an object only where it is launched, the object stood in the heap at its launch, and the object has
-- changed since
pub record IsNoted (w : World) (obj n : ℕ) : Type 0 where
  pub launch : Launched
  pub launched : w.launched n ≡ Some launch
  pub stood : IsSome (launch.past obj)
  pub changed : n ≤ w.stamp obj

-- no more copies are kept than there are; what is kept or lost for a check is an old version of an object that stood in the
-- heap at its launch; and each such version that an active check needs is kept or lost
pub record AreVersionsNoted (sizes : Sizes) (w : World) : Type 0 where
  pub copies : length w.kept ≤ sizes.copies
  pub kept_active : (obj n : ℕ) → is_kept w.kept obj n ≡ true → is_among w.active n ≡ true
  pub kept_noted : (obj n : ℕ) → is_kept w.kept obj n ≡ true → IsNoted w obj n
  pub lost_noted : (obj n : ℕ) → is_lost w.lost obj n ≡ true → IsNoted w obj n
  pub whole : (obj n : ℕ) → is_among w.active n ≡ true → IsNoted w obj n → (is_kept w.kept obj n ≡ true) ⊎ (is_lost w.lost obj n ≡ true)

-- whether the row keeps a version of the object for the check
abbrev pub is_row_of : ℕ → ℕ → Row → Bool
is_row_of obj number row = (row.obj == obj) && is_among row.checks number

-- how many rows keep a version of the object for the check
abbrev pub rows_of : ℕ → ℕ → List Row → ℕ
rows_of obj number rows = length (filter (is_row_of obj number) rows)

-- each row is needed by some check; an object and a check are in at most one row; no pair is both kept and lost; and where no check
-- is active there is no row
pub record AreRowsApart (w : World) : Type 0 where
  pub needed : All (λ row. 1 ≤ length row.checks) w.kept
  pub one_row : (obj n : ℕ) → rows_of obj n w.kept ≤ 1
  pub not_both : (obj n : ℕ) → is_kept w.kept obj n ≡ true → is_lost w.lost obj n ≡ false
  pub none_idle : w.active ≡ [] → w.kept ≡ []

-- what is known of a launched check fits: its thread is a mutator, its statement exists, and on its past its arguments fit the statement
pub record IsFittingLaunch (shape : ShapeLists) (sizes : Sizes) (launch : Launched) : Type 0 where
  pub thread : launch.thread < sizes.mutators
  pub statement : launch.site < length shape.checks
  pub arguments : args_fit launch.past (slice_get shape.checks launch.site) launch.args ≡ true

-- each launch fits
pub record AreFittingLaunches (shape : ShapeLists) (sizes : Sizes) (w : World) : Type 0 where
  pub each : (n : ℕ) (launch : Launched) → w.launched n ≡ Some launch → IsFittingLaunch shape sizes launch

-- all that holds after a legal journal
pub record IsSoundWorld (shape : ShapeLists) (sizes : Sizes) (w : World) : Type 0 where
  pub typed : IsTypedHeap shape w.heap
  pub regions : AreRegions sizes w
  pub launches : AreLaunches w
  pub active : AreActive sizes w
  pub stamps : AreStamps w
  pub pasts : ArePasts w
  pub copies : AreVersionsNoted sizes w
  pub rows : AreRowsApart w
  pub fitting : AreFittingLaunches shape sizes w
