-- Which events are legal after those that made a world, and which journals are legal.
use Rattle.std.specs.Prelude.{◌≡◌, ℕ, ◌+◌, ◌*◌, ◌==◌, nat_lt, nat_le, Bool, true, false, not, ◌&&◌, ◌||◌, if◌then◌else◌}
use Rattle.std.specs.Prelude.{List, [], ◌∷◌, ◌++◌, length, drop, Option, Some, None, is_some, slice_get}
use Rattle.std.specs.List.{list_all}
use Rattle.st_events.specs.declared.events.Event.{Event}
use Rattle.st_events.specs.declared.events.Event.TheVariants.{New, Load, Store, Cas, Launch, Retire}
use Rattle.st_events.specs.declared.events.Args.{Args}
use Rattle.st_events.specs.declared.heaps.TheConstants.{FIRST_OF_REGIONS}
use Rattle.st_events.specs.declared.limits.Sizes.{Sizes}
use Rattle.st_events.specs.declared.errors.Why.{Why}
use Rattle.st_events.specs.declared.errors.Why.TheVariants.{WrongThread, WrongObject, WrongField, WrongNumber, WrongSite, WrongValue, WrongDone, NoLane}
use Rattle.st_events.specs.declared.shapes.Kind.{Kind}
use Rattle.st_events.specs.declared.shapes.Kind.TheVariants.{Int, Bool as Truth, Ref}
use Rattle.st_events.specs.Shape.{ShapeLists, kinds_of}
use Rattle.st_events.specs.Heap.{Heap, Object, class_at, word_at}
use Rattle.st_events.specs.World.{is_among, World, next, first_world, world_after}

-- whether the object exists
abbrev pub exists : Heap → ℕ → Bool
exists heap obj = is_some (heap obj)

-- whether what stands there is an object of the class
abbrev pub is_of_class : Option ℕ → ℕ → Bool
is_of_class None class = false
is_of_class (Some c) class = c == class

-- whether a word has a kind: Int always, Bool where it is 0 or 1, a class where it is 0 or an object of that class
abbrev pub has_kind : Heap → Kind → ℕ → Bool
has_kind heap Int word = true
has_kind heap Truth word = nat_le word 1
has_kind heap (Ref class) word = (word == 0) || is_of_class (class_at heap word) class

-- whether a word has the kind that stands at a place, if one stands there
abbrev pub has_kind_if_any : Heap → Option Kind → ℕ → Bool
has_kind_if_any heap None word = false
has_kind_if_any heap (Some kind) word = has_kind heap kind word

-- the kind of a field of what stands there
abbrev pub kind_of_field : ShapeLists → Option Object → ℕ → Option Kind
kind_of_field shape None field = None
kind_of_field shape (Some x) field = slice_get (kinds_of shape x.class) field

-- whether a word has the kind of the cell
abbrev pub fits_cell : ShapeLists → Heap → ℕ → ℕ → ℕ → Bool
fits_cell shape heap obj field word = has_kind_if_any heap (kind_of_field shape (heap obj) field) word

-- whether the word found is this one
abbrev pub is_word : Option ℕ → ℕ → Bool
is_word None word = false
is_word (Some found) word = found == word

-- whether the words begin with one of each kind
abbrev pub have_kinds : Heap → List Kind → List ℕ → Bool
have_kinds heap [] words = true
have_kinds heap (kind ∷ kinds) [] = false
have_kinds heap (kind ∷ kinds) (word ∷ words) = has_kind heap kind word && have_kinds heap kinds words

-- whether the arguments are those of a check statement: so many, of these kinds, and the unused words are 0
abbrev pub args_fit : Heap → Option (List Kind) → Args → Bool
args_fit heap None args = false
args_fit heap (Some kinds) args = (args.count == length kinds) && (have_kinds heap kinds args.words && list_all (λ word. word == 0) (drop args.count args.words))

-- the next object of a mutator's region, which begins at `FIRST_OF_REGIONS + m * objects`
abbrev pub next_object : Sizes → World → ℕ → ℕ
next_object sizes w m = FIRST_OF_REGIONS + m * sizes.objects + w.made m

-- whether two truths are the same
abbrev pub same_truth : Bool → Bool → Bool
same_truth true b = b
same_truth false b = not b

-- a test, and the reason that stands where it fails
pub record Rule : Type 0 where
  pub holds : Bool
  pub reason : Why

-- the reason of the first test that fails
abbrev pub first_failing : List Rule → Option Why
first_failing [] = None
first_failing (rule ∷ rules) = if rule.holds then first_failing rules else Some rule.reason

-- what is asked of an event after the events that made this world, in the order in which a fault is answered
abbrev pub rules_of : ShapeLists → Sizes → World → Event → List Rule
rules_of shape sizes w (New m obj class) =
    record { holds = nat_lt m sizes.mutators; reason = WrongThread }
    ∷ record { holds = (obj == next_object sizes w m) && nat_lt (w.made m) sizes.objects; reason = WrongObject }
    ∷ record { holds = nat_le 1 class && nat_lt class (length shape.classes); reason = WrongField }
    ∷ []
rules_of shape sizes w (Load m obj field value) =
    record { holds = nat_lt m sizes.mutators; reason = WrongThread }
    ∷ record { holds = exists w.heap obj; reason = WrongObject }
    ∷ record { holds = is_some (word_at w.heap obj field); reason = WrongField }
    ∷ record { holds = is_word (word_at w.heap obj field) value; reason = WrongValue }
    ∷ []
rules_of shape sizes w (Store m obj field value) =
    record { holds = nat_lt m sizes.mutators; reason = WrongThread }
    ∷ record { holds = exists w.heap obj; reason = WrongObject }
    ∷ record { holds = is_some (word_at w.heap obj field); reason = WrongField }
    ∷ record { holds = fits_cell shape w.heap obj field value; reason = WrongValue }
    ∷ []
rules_of shape sizes w (Cas m obj field expect value done) =
    record { holds = nat_lt m sizes.mutators; reason = WrongThread }
    ∷ record { holds = exists w.heap obj; reason = WrongObject }
    ∷ record { holds = is_some (word_at w.heap obj field); reason = WrongField }
    ∷ record { holds = fits_cell shape w.heap obj field expect && fits_cell shape w.heap obj field value; reason = WrongValue }
    ∷ record { holds = same_truth done (is_word (word_at w.heap obj field) expect); reason = WrongDone }
    ∷ []
rules_of shape sizes w (Launch m site number args) =
    record { holds = nat_lt m sizes.mutators; reason = WrongThread }
    ∷ record { holds = number == w.epoch + 1; reason = WrongNumber }
    ∷ record { holds = nat_lt site (length shape.checks); reason = WrongSite }
    ∷ record { holds = args_fit w.heap (slice_get shape.checks site) args; reason = WrongValue }
    ∷ record { holds = nat_lt (length w.active) sizes.lanes; reason = NoLane }
    ∷ []
rules_of shape sizes w (Retire m number) =
    record { holds = nat_le m sizes.mutators; reason = WrongThread }
    ∷ record { holds = is_among w.active number; reason = WrongNumber }
    ∷ []

-- the first reason why the event is not legal, if it is not
abbrev pub illegal_reason : ShapeLists → Sizes → World → Event → Option Why
illegal_reason shape sizes w e = first_failing (rules_of shape sizes w e)

-- the event is legal after the events that made this world
abbrev pub IsLegalNext : ShapeLists → Sizes → World → Event → Type 0
IsLegalNext shape sizes w e = illegal_reason shape sizes w e ≡ None

-- every event is legal after those before it, from this world on
abbrev pub IsLegalFrom : ShapeLists → Sizes → World → List Event → Type 0
IsLegalFrom shape sizes w [] = Unit {0}
IsLegalFrom shape sizes w (e ∷ es) = IsLegalNext shape sizes w e × IsLegalFrom shape sizes (next shape sizes w e) es

-- every event of the journal is legal after those before it
unfoldable pub IsLegal : ShapeLists → Sizes → List Event → Type 0
IsLegal shape sizes es = IsLegalFrom shape sizes (first_world shape) es

-- the event with this ticket is the first that is not legal after those before it, and this is its first reason
pub record IsFirstIllegal (shape : ShapeLists) (sizes : Sizes) (es : List Event) (place : ℕ) (why : Why) : Type 0 where
  pub before : List Event
  pub event : Event
  pub rest : List Event
  pub split : es ≡ before ++ event ∷ rest
  pub place_is : length before ≡ place
  pub legal_before : IsLegal shape sizes before
  pub reason : illegal_reason shape sizes (world_after shape sizes before) event ≡ Some why
