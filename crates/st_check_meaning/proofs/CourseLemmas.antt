-- Courses that are safe on a heap: one after another, a branch, a number, a truth, an operator, a field.
use Rattle.std.proofs.Common.{◌≡◌, ℕ, zero, suc, ◌<◌, ◌==◌, Bool, true, false, not, ◌||◌, if◌then◌else◌, List, [], ◌∷◌, length, get_or, slice_get}
use Rattle.std.proofs.Common.{Option, Some, None, ℤ, ◌+ℤ◌, ◌-ℤ◌, ◌*ℤ◌, int_lt, int_le, int_div, int_rem, refl, sym, ◌∙◌, ap, subst, arith}
use Rattle.std.specs.Prelude.{unwrap_or}
use Rattle.std.proofs.lemmas.Bool.{eqb-true}
use Rattle.std.proofs.lemmas.Option.{slice_get_within, slice_get-get_or}
use Rattle.st_events.proofs.KeptLemmas.{and_parts}
use Rattle.st_events.specs.declared.verdicts.Plain.TheVariants.{Null, Divide, Overflow}
use Rattle.st_events.specs.declared.events.Site.{Site}
use Rattle.st_events.specs.declared.shapes.Kind.{Kind}
use Rattle.st_events.specs.declared.shapes.Kind.TheVariants.{Int, Bool as Truth, Ref}
use Rattle.st_events.specs.Heap.{Heap, Object, class_at, word_at}
use Rattle.st_events.specs.Legal.{fits_cell, has_kind, have_kinds, is_of_class, kind_of_field, has_kind_if_any}
use Rattle.st_events.specs.Shape.{ShapeLists, kinds_of}
use Rattle.st_events.specs.Sound.{IsTypedHeap}
use Rattle.st_resolved.specs.declared.expressions.Operator.{Operator}
use Rattle.st_resolved.specs.declared.expressions.Operator.TheVariants.{Add, Sub, Mul, Div, Rem, Less, LessEq, Greater, GreaterEq, Equal, NotEqual}
use Rattle.st_resolved.specs.Kinds.{kind_given}
use Rattle.st_check_meaning.specs.Courses.{Course, comes_to, ends_in, reads, uses_unit, and_then}
use Rattle.st_check_meaning.specs.Numbers.{number_of, word_of_number, word_of_truth, is_in_range, number_or_overflow}
use Rattle.st_check_meaning.specs.Meaning.{quotient, operate, read_cell, field_of}
use Rattle.st_check_meaning.specs.Safe.{IsWordAt, IsSafe, IsOfKind, AreOfKinds}

-- a safe course, and then courses that are safe for all that it comes to
pub then_is_safe :
    (shape : ShapeLists) (heap : Heap) {A B : Type 0} (P : A → Type 0) (Q : B → Type 0) (c : Course A) (rest : A → Course B)
    → IsSafe shape heap P c
    → ((x : A) → P x → IsSafe shape heap Q (rest x))
    → IsSafe shape heap Q (and_then c rest)
then_is_safe shape heap P Q (comes_to x) rest h k = k x h
then_is_safe shape heap P Q (ends_in plain) rest h k = tt
then_is_safe shape heap P Q (reads obj field next) rest h k = (h.0, h.1, then_is_safe shape heap P Q (next h.0) rest h.2 k)
then_is_safe shape heap P Q (uses_unit next) rest h k = then_is_safe shape heap P Q (next tt) rest h k

-- both branches of a test are safe
pub branch_is_safe :
    (shape : ShapeLists) (heap : Heap) {A : Type 0} (P : A → Type 0) (test : Bool) (c d : Course A)
    → IsSafe shape heap P c
    → IsSafe shape heap P d
    → IsSafe shape heap P (elim test [ true ↦ c | false ↦ d ])
branch_is_safe shape heap P true c d h k = h
branch_is_safe shape heap P false c d h k = k

-- the word of a truth is 0 or 1
pub truth_has_kind : (heap : Heap) (answer : Bool) → IsOfKind heap Truth (word_of_truth answer)
truth_has_kind heap true = refl
truth_has_kind heap false = refl

-- a number in range, or an overflow
pub number_is_safe :
    (shape : ShapeLists) (heap : Heap) (number : ℤ) (at : Site)
    → IsSafe shape heap (IsOfKind heap Int) (number_or_overflow number at)
number_is_safe shape heap number at = by (is_in_range number)
  where
    by : (t : Bool) → IsSafe shape heap (IsOfKind heap Int) (if t then comes_to (word_of_number number) else ends_in (Overflow at))
    by true = refl
    by false = tt

-- a quotient, or one of its faults
pub quotient_is_safe :
    (shape : ShapeLists) (heap : Heap) (left right : ℕ) (at : Site)
    → IsSafe shape heap (IsOfKind heap Int) (quotient left right at)
quotient_is_safe shape heap left right at = by (right == 0)
  where
    by : (t : Bool) → IsSafe shape heap (IsOfKind heap Int) (if t then ends_in (Divide at) else number_or_overflow (int_div (number_of left) (number_of right)) at)
    by true = tt
    by false = number_is_safe shape heap (int_div (number_of left) (number_of right)) at

-- what an operator gives has the operator's kind, or is a fault
pub operator_is_safe :
    (shape : ShapeLists) (heap : Heap) (operator : Operator) (left right : ℕ) (at : Site)
    → IsSafe shape heap (IsOfKind heap (kind_given operator)) (operate operator left right at)
operator_is_safe shape heap Add left right at = number_is_safe shape heap (number_of left +ℤ number_of right) at
operator_is_safe shape heap Sub left right at = number_is_safe shape heap (number_of left -ℤ number_of right) at
operator_is_safe shape heap Mul left right at = number_is_safe shape heap (number_of left *ℤ number_of right) at
operator_is_safe shape heap Div left right at = quotient_is_safe shape heap left right at
operator_is_safe shape heap Rem left right at =
    then_is_safe shape heap (IsOfKind heap Int) (IsOfKind heap Int) (quotient left right at)
    (λ _. comes_to (word_of_number (int_rem (number_of left) (number_of right)))) (quotient_is_safe shape heap left right at) (λ _ _. refl)
operator_is_safe shape heap Less left right at = truth_has_kind heap (int_lt (number_of left) (number_of right))
operator_is_safe shape heap LessEq left right at = truth_has_kind heap (int_le (number_of left) (number_of right))
operator_is_safe shape heap Greater left right at = truth_has_kind heap (int_lt (number_of right) (number_of left))
operator_is_safe shape heap GreaterEq left right at = truth_has_kind heap (int_le (number_of right) (number_of left))
operator_is_safe shape heap Equal left right at = truth_has_kind heap (left == right)
operator_is_safe shape heap NotEqual left right at = truth_has_kind heap (not (left == right))

-- the word of a local has its kind
pub local_has_kind :
    (heap : Heap) (kinds : List Kind) (words : List ℕ) (local : ℕ) (kind : Kind)
    → AreOfKinds heap kinds words
    → slice_get kinds local ≡ Some kind
    → IsOfKind heap kind (unwrap_or (slice_get words local) 0)
local_has_kind heap [] words local kind h e = absurd (cc)
local_has_kind heap (k ∷ kinds) [] local kind h e = absurd (cc)
local_has_kind heap (k ∷ kinds) (w ∷ words) zero kind h e =
    let same : k ≡ kind = cc in subst (λ (x : Kind). IsOfKind heap x w) same (and_parts (has_kind heap k w) (have_kinds heap kinds words) h).0
local_has_kind heap (k ∷ kinds) (w ∷ words) (suc local) kind h e =
    local_has_kind heap kinds words local kind (and_parts (has_kind heap k w) (have_kinds heap kinds words) h).1 e

-- the object is there, with its class
pub record IsObjectOf (heap : Heap) (obj class : ℕ) : Type 0 where
  pub object : Object
  pub there : heap obj ≡ Some object
  pub of_class : object.class ≡ class

-- an object of a class is there
pub object_of_class : (heap : Heap) (obj class : ℕ) → class_at heap obj ≡ Some class → IsObjectOf heap obj class
object_of_class heap obj class e = by (heap obj) refl
  where
    by : (found : Option Object) → heap obj ≡ found → IsObjectOf heap obj class
    by None f = absurd (let g : class_at heap obj ≡ None = rw f refl in cc)
    by (Some x) f = record { object = x; there = f; of_class = let g : class_at heap obj ≡ Some x.class = rw f refl in cc }

-- a cell of an object of a class on a typed heap, and its word
pub record IsCellOfKind (shape : ShapeLists) (heap : Heap) (obj field : ℕ) (kind : Kind) : Type 0 where
  pub word : ℕ
  pub here : IsWordAt shape heap obj field word
  pub of_kind : IsOfKind heap kind word

-- a field of the class of an object is a cell, and its word has its kind
pub cell_is_there :
    (shape : ShapeLists) (heap : Heap) (obj class field : ℕ) (kind : Kind)
    → IsTypedHeap shape heap
    → class_at heap obj ≡ Some class
    → slice_get (kinds_of shape class) field ≡ Some kind
    → IsCellOfKind shape heap obj field kind
cell_is_there shape heap obj class field kind typed e f = of_object (object_of_class heap obj class e)
  where
    of_word :
        (x : Object)
        → heap obj ≡ Some x
        → slice_get (kinds_of shape x.class) field ≡ Some kind
        → (word : ℕ)
        → slice_get x.words field ≡ Some word
        → IsCellOfKind shape heap obj field kind
    of_word x there k word w =
        let found : word_at heap obj field ≡ Some word = rw there w in
        let fits : fits_cell shape heap obj field word ≡ true = typed.kinds obj field word found in
        let known : kind_of_field shape (heap obj) field ≡ Some kind = rw there k in
        record { word = word; here = record { found = found; fits = fits }; of_kind = ap (λ (o : Option Kind). has_kind_if_any heap o word) (sym known) ∙ fits }

    of_object : IsObjectOf heap obj class → IsCellOfKind shape heap obj field kind
    of_object o =
        let k : slice_get (kinds_of shape o.object.class) field ≡ Some kind = rw o.of_class f in
        let few : field < length (kinds_of shape o.object.class) = slice_get_within (kinds_of shape o.object.class) field kind k in
        let same : length o.object.words ≡ length (kinds_of shape o.object.class) = typed.lengths obj o.object o.there in
        of_word o.object o.there k (get_or o.object.words field 0) (slice_get-get_or o.object.words field 0 (omega arith))

-- reading a cell that is there is safe
pub read_is_safe :
    (shape : ShapeLists) (heap : Heap) (obj field : ℕ) (kind : Kind)
    → IsCellOfKind shape heap obj field kind
    → IsSafe shape heap (IsOfKind heap kind) (read_cell obj field)
read_is_safe shape heap obj field kind h = (h.word, h.here, h.of_kind)

-- a field of a reference: null is a fault, else the cell is there
pub field_is_safe :
    (shape : ShapeLists) (heap : Heap) (obj class field : ℕ) (kind : Kind) (at : Site)
    → IsTypedHeap shape heap
    → IsOfKind heap (Ref class) obj
    → slice_get (kinds_of shape class) field ≡ Some kind
    → IsSafe shape heap (IsOfKind heap kind) (field_of obj field at)
field_is_safe shape heap obj class field kind at typed h f = by (obj == 0) refl
  where
    of_class : (found : Option ℕ) → is_of_class found class ≡ true → found ≡ Some class
    of_class None e = absurd (cc)
    of_class (Some c) e = ap Some (eqb-true c class e)

    by : (t : Bool) → (obj == 0) ≡ t → IsSafe shape heap (IsOfKind heap kind) (if t then ends_in (Null at) else read_cell obj field)
    by true e = tt
    by false e =
        let other : is_of_class (class_at heap obj) class ≡ true = subst (λ (b : Bool). (b || is_of_class (class_at heap obj) class) ≡ true) e h in
        read_is_safe shape heap obj field kind (cell_is_there shape heap obj class field kind typed (of_class (class_at heap obj) other) f)
