-- Held objects: what their words show while their holder has a change in flight.
use Rattle.std.specs.Prelude.{◌≡◌, ℕ, zero, suc, ◌<◌, ◌==◌, ◌&&◌, Bool, true, false, not, if◌then◌else◌, List, [], ◌∷◌, Option, Some, None}
use Rattle.std.specs.Prelude.{unwrap_or}
use Rattle.st_events.specs.declared.events.Event.{Event}
use Rattle.st_events.specs.declared.events.Event.TheVariants.{New, Load, Store, Cas, Launch, Retire}
use Rattle.st_events.specs.declared.limits.Sizes.{Sizes}
use Rattle.st_events.specs.Heap.{Heap, word_at, class_at}
use Rattle.st_events.specs.Legal.{next_object}
use Rattle.st_events.specs.World.{World}
use Rattle.st_rule.specs.declared.views.Flight.{Flight}
use Rattle.st_rule.specs.declared.views.Held.{Held}
use Rattle.st_rule.specs.declared.views.LoadedField.{LoadedField}
use Rattle.st_rule.specs.declared.views.LoadedWord.{LoadedWord}

-- the word that was loaded last of a field
abbrev pub field_loaded : List LoadedField → ℕ → Option ℕ
field_loaded [] field = None
field_loaded (x ∷ xs) field = if x.field == field then Some x.value else field_loaded xs field

-- what was loaded last of a word of the table
abbrev pub word_loaded : List LoadedWord → ℕ → Option ℕ
word_loaded [] word = None
word_loaded (x ∷ xs) word = if x.word == word then Some x.value else word_loaded xs word

-- the word of a field of the heap, 0 where there is none
abbrev pub word_or_zero : Heap → ℕ → ℕ → ℕ
word_or_zero heap obj field = unwrap_or (word_at heap obj field) 0

-- the class number of an object of the heap, 0 where there is none
abbrev pub class_or_zero : Heap → ℕ → ℕ
class_or_zero heap obj = unwrap_or (class_at heap obj) 0

-- the hand holds this object
pub record Holds (hand : Option Held) (object : ℕ) : Type 0 where
  pub held : Held
  pub is : hand ≡ Some held
  pub object_is : held.object ≡ object

-- the hand of an object's holder, by the low half of its header: 0 where nobody holds it, else one more than a number
abbrev pub holding : (ℕ → Option Held) → ℕ → Option Held
holding grip zero = None
holding grip (suc n) = grip n

-- what the hand has in flight
abbrev pub flight_of : Option Held → Option Flight
flight_of None = None
flight_of (Some h) = h.flight

-- the stamp that an object's header shows: while it is held, the one that it had when it was locked
abbrev pub shown_stamp : Option Held → ℕ → ℕ
shown_stamp None stamp = stamp
shown_stamp (Some h) stamp = h.stamp

-- whether an event sets this field
abbrev pub sets_field : Event → ℕ → Bool
sets_field (New m obj class) f = false
sets_field (Load m obj field value) f = false
sets_field (Store m obj field value) f = field == f
sets_field (Cas m obj field expect value done) f = done && (field == f)
sets_field (Launch m site number args) f = false
sets_field (Retire m number) f = false

-- whether an event makes an object
abbrev pub makes : Event → Bool
makes (New m obj class) = true
makes (Load m obj field value) = false
makes (Store m obj field value) = false
makes (Cas m obj field expect value done) = false
makes (Launch m site number args) = false
makes (Retire m number) = false

-- the event sets this field to this word
abbrev pub IsSetting : Event → (f word : ℕ) → Type 0
IsSetting (New m obj class) f word = ⊥
IsSetting (Load m obj field value) f word = ⊥
IsSetting (Store m obj field value) f word = (field ≡ f) × (value ≡ word)
IsSetting (Cas m obj field expect value done) f word = (field ≡ f) × (value ≡ word) × (done ≡ true)
IsSetting (Launch m site number args) f word = ⊥
IsSetting (Retire m number) f word = ⊥

-- the event makes an object of this class
abbrev pub IsMaking : Event → (class : ℕ) → Type 0
IsMaking (New m obj class) c = class ≡ c
IsMaking (Load m obj field value) c = ⊥
IsMaking (Store m obj field value) c = ⊥
IsMaking (Cas m obj field expect value done) c = ⊥
IsMaking (Launch m site number args) c = ⊥
IsMaking (Retire m number) c = ⊥

-- the word that a field shows, where the heap has this one: the old one while a change of it is not written
abbrev pub shown_field : Option Flight → (field word : ℕ) → ℕ
shown_field None field word = word
shown_field (Some x) field word = if sets_field x.event field && not x.written then x.old else word

-- the class number that an object shows, where the heap has this one: 0 while a New of it is not written
abbrev pub shown_class : Option Flight → ℕ → ℕ
shown_class None class = class
shown_class (Some x) class = if makes x.event && not x.written then 0 else class

-- the heap has what the event says of the object: an event in flight is the last one that made or changed it
abbrev pub HasLanded : Heap → ℕ → Event → Type 0
HasLanded heap object (New m obj class) = (obj ≡ object) × (class_at heap object ≡ Some class)
HasLanded heap object (Load m obj field value) = ⊥
HasLanded heap object (Store m obj field value) = (obj ≡ object) × (word_at heap object field ≡ Some value)
HasLanded heap object (Cas m obj field expect value done) = (obj ≡ object) × (done ≡ true) × (word_at heap object field ≡ Some value)
HasLanded heap object (Launch m site number args) = ⊥
HasLanded heap object (Retire m number) = ⊥

-- the object is the next one of the number's region
pub record IsNext (sizes : Sizes) (world : World) (number object : ℕ) : Type 0 where
  pub object_is : object ≡ next_object sizes world number
  pub room : world.made number < sizes.objects
