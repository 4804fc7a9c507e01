-- What the threads of the tests may do, and what they keep.
use Rattle.std.proofs.Common.{◌≡◌, ℕ, suc, ◌+◌, ◌<◌, ◌≤◌, true, if◌then◌else◌, List, [], ◌∷◌, ◌++◌, length, Option, Some, None}
use Rattle.std.proofs.Common.{sym, refl, ap, subst, ◌∙◌, arith}
use Rattle.std.specs.Prelude.{IsSome, option_map, slice_get, unwrap_or}
use Rattle.std.proofs.lemmas.Option.{slice_get_within}
use Rattle.st_events.specs.declared.events.Event.{Event}
use Rattle.st_events.specs.declared.events.Event.TheVariants.{New}
use Rattle.st_events.specs.declared.shapes.Kind.{Kind}
use Rattle.st_events.specs.declared.shapes.Kind.TheVariants.{Int}
use Rattle.st_events.specs.Heap.{Heap, Object, class_at, word_at, word_of as word_in, fresh, with_object}
use Rattle.st_events.specs.History.{heap_after}
use Rattle.st_events.specs.Legal.{fits_cell, has_kind_if_any, kind_of_field}
use Rattle.st_events.specs.Shape.{ShapeLists, kinds_of}
use Rattle.st_events.specs.Sound.{IsTypedHeap}
use Rattle.st_events.specs.World.{World}
use Rattle.st_events.proofs.LegalEvents.{below_holds}
use Rattle.st_events.proofs.SoundHeap.{object_put_here}
use Rattle.st_events.proofs.SoundLemmas.{legal_is_sound}
use Rattle.st_events.proofs.WorldLemmas.{world_after_one_more}
use Rattle.st_gate.specs.Later.{IsLater}
use Rattle.st_rule.specs.declared.tables.Shared.{Shared}
use Rattle.st_rule.specs.declared.views.GateView.{GateView}
use Rattle.st_rule.specs.declared.views.MutView.{MutView}
use Rattle.st_rule.specs.declared.views.Terms.{Terms}
use Rattle.st_rule.specs.Draws.{heap_seen}
use Rattle.st_rule.specs.Entries.{charge_spent, objects_made, whole_charge, whole_region}
use Rattle.st_rule.specs.Seats.{IsFair, IsMutator}
use Rattle.st_rule.specs.SeatValue.{SeatValue}
use Rattle.st_barrier.specs.Calls.{MayCall, HasCell, FitsCell, MakesEvent}
use Rattle.st_barrier.specs.Counting.{HasNumbers, MayCount, HasWorked}

-- ---- cells of numbers

first_there : (words : List ℕ) → 0 < length words → IsSome (slice_get words 0)
first_there [] some = absurd (omega (arith, some))
first_there (w ∷ words) some = refl

class_is : (x : Object) (class : ℕ) → Some x.class ≡ Some class → x.class ≡ class
class_is x class e = cc

-- an object of a class of one number has a number
number_there :
    (shape : ShapeLists) (heap : Heap) → IsTypedHeap shape heap
    → (obj class : ℕ) → kinds_of shape class ≡ Int ∷ []
    → (x : Option Object) → heap obj ≡ x → option_map (λ (y : Object). y.class) x ≡ Some class
    → IsSome (word_in x 0) × ((word : ℕ) → has_kind_if_any heap (kind_of_field shape x 0) word ≡ true)
number_there shape heap typed obj class kinds None there is = absurd cc
number_there shape heap typed obj class kinds (Some x) there is =
    let its : kinds_of shape x.class ≡ Int ∷ [] = ap (kinds_of shape) (class_is x class is) ∙ kinds in
    let count : length x.words ≡ 1 = typed.lengths obj x there ∙ ap length its in (
      first_there x.words (omega (arith, count)),
      λ word. subst (λ (ks : List Kind). has_kind_if_any heap (slice_get ks 0) word ≡ true) (sym its) refl,
    )

-- an object of a class with one number has a cell there, which takes every word
pub number_cell :
    (shape : ShapeLists) (heap : Heap) → IsTypedHeap shape heap
    → (obj class : ℕ) → class_at heap obj ≡ Some class → kinds_of shape class ≡ Int ∷ []
    → IsSome (word_at heap obj 0) × ((word : ℕ) → fits_cell shape heap obj 0 word ≡ true)
number_cell shape heap typed obj class is kinds = number_there shape heap typed obj class kinds (heap obj) refl is

-- what a fair seat has seen of the heap is typed
seen_typed : (seat : SeatValue) → IsFair seat → IsTypedHeap seat.view.terms.shape (heap_seen seat.view)
seen_typed seat fair = (legal_is_sound seat.view.terms.shape seat.view.terms.sizes fair.shape_fits seat.view.journal.seen fair.legal).typed

module _ (seat : SeatValue) (fair : IsFair seat) (numbers : HasNumbers seat.view.terms.shape) where
  shared_both : HasCell seat 1 0 × ((word : ℕ) → FitsCell seat 1 0 word)
  shared_both = number_cell seat.view.terms.shape (heap_seen seat.view) (seen_typed seat fair) 1 0 (seen_typed seat fair).shared numbers.shared

  -- the shared object has a number
  pub shared_cell : HasCell seat 1 0
  shared_cell = shared_both.0

  pub shared_fits : (word : ℕ) → FitsCell seat 1 0 word
  shared_fits = shared_both.1

-- an object that was just made has one, too
module _ (m obj : ℕ) (before after : SeatValue) (made : MakesEvent (New m obj 1) before after) (fair : IsFair after) (numbers : HasNumbers after.view.terms.shape) where
  class_made : class_at (heap_seen after.view) obj ≡ Some 1
  class_made =
      let shape = after.view.terms.shape in
      let sizes = after.view.terms.sizes in
      let heap : heap_seen after.view ≡ heap_after shape sizes (made.past ++ New m obj 1 ∷ []) = ap (heap_after shape sizes) made.seen in
      let more : heap_after shape sizes (made.past ++ New m obj 1 ∷ []) ≡ with_object (heap_after shape sizes made.past) obj (fresh shape 1) =
      ap (λ (w : World). w.heap) (world_after_one_more shape sizes made.past (New m obj 1)) in
      ap (λ (h : Heap). class_at h obj) (heap ∙ more) ∙ ap (option_map (λ (x : Object). x.class)) (object_put_here (heap_after shape sizes made.past) obj (fresh shape 1))

  made_both : HasCell after obj 0 × ((word : ℕ) → FitsCell after obj 0 word)
  made_both = number_cell after.view.terms.shape (heap_seen after.view) (seen_typed after fair) obj 1 class_made numbers.first

  pub made_cell : HasCell after obj 0
  made_cell = made_both.0

  pub made_fits : (word : ℕ) → FitsCell after obj 0 word
  made_fits = made_both.1

-- a class with a field is declared
declared_there : (classes : List (List Kind)) (class : ℕ) (ks : Option (List Kind)) → slice_get classes class ≡ ks → unwrap_or ks [] ≡ Int ∷ [] → class < length classes
declared_there classes class None there is = absurd (let e : [] ≡ Int ∷ [] = is in cc)
declared_there classes class (Some ks) there is = slice_get_within classes class ks there

-- class 1 is declared
pub first_declared : (shape : ShapeLists) → HasNumbers shape → 1 < length shape.classes
first_declared shape numbers = declared_there shape.classes 1 (slice_get shape.classes 1) refl numbers.first

-- ---- charge and room

-- a mutator's charge and its region are whole
pub charge_left : (v : MutView) (spare : ℕ) → v.gate.number < v.terms.sizes.mutators → spare + charge_spent v ≡ whole_charge v.terms.sizes v.gate.number
    → charge_spent v + spare ≡ v.terms.sizes.events
charge_left v spare mutator is =
    let whole : whole_charge v.terms.sizes v.gate.number ≡ v.terms.sizes.events =
    ap (λ b. if b then v.terms.sizes.events else 0) (below_holds v.gate.number v.terms.sizes.mutators mutator) in
    omega (arith, is, whole)

-- a mutator's objects and its room are its region
pub room_left : (v : MutView) (room : ℕ) → v.gate.number < v.terms.sizes.mutators → room + objects_made v ≡ whole_region v.terms.sizes v.gate.number
    → objects_made v + room ≡ v.terms.sizes.objects
room_left v room mutator is =
    let whole : whole_region v.terms.sizes v.gate.number ≡ v.terms.sizes.objects =
    ap (λ b. if b then v.terms.sizes.objects else 0) (below_holds v.gate.number v.terms.sizes.mutators mutator) in
    omega (arith, is, whole)

-- ---- what stays

-- one part of the work after another
pub worked_then :
    {J : Type 0} (meant : J → ShapeLists) (shared : Shared J) (a b c : SeatValue)
    → HasWorked meant shared a b → HasWorked meant shared b c → HasWorked meant shared a c
worked_then meant shared a b c p q = (q.0, q.1 ∙ p.1)

module _ {J : Type 0} (meant : J → ShapeLists) (shared : Shared J) (a b : SeatValue) (may : MayCount meant shared a) (fair : IsFair b)
    (table : b.table ≡ a.table) (terms : b.view.terms ≡ a.view.terms) (number : b.view.gate.number ≡ a.view.gate.number) where
  -- the same seat, with its terms and its number
  pub worked : HasWorked meant shared a b
  worked = (
    record {
      table = record { table = table ∙ may.table.table; terms = terms ∙ may.table.terms };
      fair = fair;
      mutator = subst (λ (t : ℕ × Terms). t.0 < t.1.sizes.mutators) (λ i. (sym number i, sym terms i)) may.mutator;
      numbers = subst (λ (t : Terms). HasNumbers t.shape) (sym terms) may.numbers;
    },
    number,
  )

-- after an event
pub worked_by :
    {J : Type 0} (meant : J → ShapeLists) (shared : Shared J) (event : Event) (a b : SeatValue)
    → MayCount meant shared a → MakesEvent event a b → IsFair b → HasWorked meant shared a b
worked_by meant shared event a b may made fair = worked meant shared a b may fair made.table made.terms (ap (λ (g : GateView). g.number) made.gate)

-- after a call of the gate
pub worked_later :
    {J : Type 0} (meant : J → ShapeLists) (shared : Shared J) (a b : SeatValue)
    → MayCount meant shared a → IsLater a b → IsFair b → HasWorked meant shared a b
worked_later meant shared a b may later fair = worked meant shared a b may fair later.table later.terms later.number

-- a call may follow, as long as charge is left
pub may_call : (seat : SeatValue) (more : ℕ) → IsMutator seat → charge_spent seat.view + suc more ≤ seat.view.terms.sizes.events → MayCall seat
may_call seat more mutator left = record { mutator = mutator; spare = omega (arith, left) }

-- and one more after it
pub may_call_next : (event : Event) (a b : SeatValue) → IsMutator b → MakesEvent event a b → charge_spent a.view + 2 ≤ a.view.terms.sizes.events → MayCall b
may_call_next event a b mutator made left = record {
  mutator = mutator;
  spare = subst (λ (t : ℕ × Terms). t.0 + 1 ≤ t.1.sizes.events) (λ i. (sym made.spare i, sym made.terms i)) (omega (arith, left));
}

-- the numbers are by the terms alone
pub numbers_stay : (a b : SeatValue) → b.view.terms ≡ a.view.terms → HasNumbers a.view.terms.shape → HasNumbers b.view.terms.shape
numbers_stay a b terms numbers = subst (λ (t : Terms). HasNumbers t.shape) (sym terms) numbers
