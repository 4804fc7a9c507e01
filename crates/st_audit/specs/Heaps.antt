-- What one event makes of a heap alone, and when a heap in memory can take it.
use Rattle.std.specs.Prelude.{ℕ, ◌<◌, if◌then◌else◌, IsSome}
use Rattle.st_events.specs.declared.events.Event.{Event}
use Rattle.st_events.specs.declared.events.Event.TheVariants.{New, Load, Store, Cas, Launch, Retire}
use Rattle.st_events.specs.Terms.{ShapeLists, Heap, with_object, with_word, word_at, fresh}

-- the heap after one event more
abbrev pub heap_next : ShapeLists → Heap → Event → Heap
heap_next shape heap (New m obj class) = with_object heap obj (fresh shape class)
heap_next shape heap (Load m obj field value) = heap
heap_next shape heap (Store m obj field value) = with_word heap obj field value
heap_next shape heap (Cas m obj field expect value done) = if done then with_word heap obj field value else heap
heap_next shape heap (Launch m site number args) = heap
heap_next shape heap (Retire m number) = heap

-- a heap with room for so many objects can take the event: it has room for a new object, and the cell of a change
abbrev pub CanTake : ℕ → Heap → Event → Type 0
CanTake room heap (New m obj class) = obj < room
CanTake room heap (Load m obj field value) = Unit {0}
CanTake room heap (Store m obj field value) = IsSome (word_at heap obj field)
CanTake room heap (Cas m obj field expect value done) = IsSome (word_at heap obj field)
CanTake room heap (Launch m site number args) = Unit {0}
CanTake room heap (Retire m number) = Unit {0}
