-- What it says of an event that it is legal after the events that made a world: one record for each kind of event, a field for each rule.
use Rattle.std.specs.Prelude.{◌≡◌, ℕ, ◌+◌, ◌<◌, ◌≤◌, ◌↔◌, Bool, true, length, Some, IsSome, slice_get}
use Rattle.st_events.specs.declared.events.Args.{Args}
use Rattle.st_events.specs.declared.events.Event.TheVariants.{New, Load, Store, Cas, Launch, Retire}
use Rattle.st_events.specs.declared.limits.Sizes.{Sizes}
use Rattle.st_events.specs.Shape.{ShapeLists}
use Rattle.st_events.specs.Heap.{word_at}
use Rattle.st_events.specs.World.{is_among, World}
use Rattle.st_events.specs.Legal.{IsLegalNext, next_object, fits_cell, is_word, args_fit}

-- a New: the mutator exists, the object is the next of its region and within it, and the class is declared, from 1 on
pub record LegalNew (shape : ShapeLists) (sizes : Sizes) (w : World) (m obj class : ℕ) : Type 0 where
  pub thread : m < sizes.mutators
  pub object : obj ≡ next_object sizes w m
  pub room : w.made m < sizes.objects
  pub some_class : 1 ≤ class
  pub declared : class < length shape.classes

-- a Load: the mutator exists, and the value is the word of the cell
pub record LegalLoad (sizes : Sizes) (w : World) (m obj field value : ℕ) : Type 0 where
  pub thread : m < sizes.mutators
  pub word : word_at w.heap obj field ≡ Some value

-- a Store: the mutator exists, the cell exists, and the value has its kind
pub record LegalStore (shape : ShapeLists) (sizes : Sizes) (w : World) (m obj field value : ℕ) : Type 0 where
  pub thread : m < sizes.mutators
  pub cell : IsSome (word_at w.heap obj field)
  pub kind : fits_cell shape w.heap obj field value ≡ true

-- a Cas: as a Store, for both values, and `done` says whether the word is the expected one
pub record LegalCas (shape : ShapeLists) (sizes : Sizes) (w : World) (m obj field expect value : ℕ) (done : Bool) : Type 0 where
  pub thread : m < sizes.mutators
  pub cell : IsSome (word_at w.heap obj field)
  pub expected : fits_cell shape w.heap obj field expect ≡ true
  pub kind : fits_cell shape w.heap obj field value ≡ true
  pub answer : done ≡ is_word (word_at w.heap obj field) expect

-- a Launch: the mutator exists, the number is one more than the launches before, the statement exists, the arguments fit it, and a lane is idle
pub record LegalLaunch (shape : ShapeLists) (sizes : Sizes) (w : World) (m number site : ℕ) (args : Args) : Type 0 where
  pub thread : m < sizes.mutators
  pub next_number : number ≡ w.epoch + 1
  pub statement : site < length shape.checks
  pub arguments : args_fit w.heap (slice_get shape.checks site) args ≡ true
  pub lane : length w.active < sizes.lanes

-- a Retire: the number is that of a mutator or of the main thread, and the check is active
pub record LegalRetire (sizes : Sizes) (w : World) (m number : ℕ) : Type 0 where
  pub thread : m ≤ sizes.mutators
  pub active : is_among w.active number ≡ true

-- an event is legal exactly where what is said here of its kind holds
pub record TellOfEvents : Type 0 where
  pub new :
      (shape : ShapeLists) (sizes : Sizes) (w : World) (m obj class : ℕ)
      → IsLegalNext shape sizes w (New m obj class) ↔ LegalNew shape sizes w m obj class
  pub load :
      (shape : ShapeLists) (sizes : Sizes) (w : World) (m obj field value : ℕ)
      → IsLegalNext shape sizes w (Load m obj field value) ↔ LegalLoad sizes w m obj field value
  pub store :
      (shape : ShapeLists) (sizes : Sizes) (w : World) (m obj field value : ℕ)
      → IsLegalNext shape sizes w (Store m obj field value) ↔ LegalStore shape sizes w m obj field value
  pub cas :
      (shape : ShapeLists) (sizes : Sizes) (w : World) (m obj field expect value : ℕ) (done : Bool)
      → IsLegalNext shape sizes w (Cas m obj field expect value done) ↔ LegalCas shape sizes w m obj field expect value done
  pub launch :
      (shape : ShapeLists) (sizes : Sizes) (w : World) (m number site : ℕ) (args : Args)
      → IsLegalNext shape sizes w (Launch m site number args) ↔ LegalLaunch shape sizes w m number site args
  pub retire :
      (shape : ShapeLists) (sizes : Sizes) (w : World) (m number : ℕ)
      → IsLegalNext shape sizes w (Retire m number) ↔ LegalRetire sizes w m number
