-- Expressions of a thread are typed: each cell that they load exists, and they come to words of their kinds, whatever becomes of the heap between their loads
use Rattle.std.proofs.Common.{◌≡◌, ℕ, zero, suc, ◌-◌, ◌==◌, ◌&&◌, nat_lt, Bool, true, false, not, if◌then◌else◌, List, [], ◌∷◌, length, refl, sym, ◌∙◌, ap, subst, arith}
use Rattle.std.proofs.Common.{Option, Some, None, IsSome, ℤ, ◌+ℤ◌, ◌-ℤ◌, ◌*ℤ◌, int_lt, int_le, int_div, int_rem, neg_ℤ}
use Rattle.std.specs.Prelude.{slice_get, ◌||◌}
use Rattle.std.proofs.lemmas.Bool.{eqb-true}
use Rattle.st_events.specs.declared.events.Site.{Site}
use Rattle.st_events.specs.declared.heaps.TheConstants.{SHARED_OBJECT}
use Rattle.st_events.specs.declared.shapes.Kind.{Kind}
use Rattle.st_events.specs.declared.shapes.Kind.TheVariants.{Int, Bool as Truth, Ref}
use Rattle.st_events.specs.declared.verdicts.Plain.TheVariants.{Null, Divide, Overflow}
use Rattle.st_events.specs.Heap.{Heap, class_at, word_at}
use Rattle.st_events.specs.Legal.{fits_cell, has_kind, have_kinds, is_of_class, kind_of_field}
use Rattle.st_events.specs.Shape.{ShapeLists, kinds_of}
use Rattle.st_events.specs.Sound.{IsTypedHeap}
use Rattle.st_events.proofs.KeptLemmas.{and_both}
use Rattle.st_resolved.specs.declared.expressions.Operator.{Operator}
use Rattle.st_resolved.specs.declared.expressions.Operator.TheVariants.{Add, Sub, Mul, Div, Rem, Less, LessEq, Greater, GreaterEq, Equal, NotEqual}
use Rattle.st_resolved.specs.Kinds.{Setting, HasKind, HaveKinds, IsClassKind, kind_given}
use Rattle.st_resolved.specs.Terms.{Term, a_number, a_truth, a_null, a_local, a_shared, a_field, a_not, a_minus, a_binary, a_both, an_either, a_cond, a_call}
use Rattle.st_resolved.specs.Terms.{Terms, no_terms, term_then, Predicate}
use Rattle.st_resolved.specs.WellFormed.{plain_setting}
use Rattle.st_check_meaning.specs.Courses.{Course, comes_to, ends_in, reads, uses_unit, and_then}
use Rattle.st_check_meaning.specs.Meaning.{course_of, courses_of, truth, quotient, operate, read_cell, field_of}
use Rattle.st_check_meaning.specs.Numbers.{number_of, word_of_number, is_in_range, is_true, number_or_overflow}
use Rattle.st_check_meaning.specs.Safe.{IsOfKind, AreOfKinds}
use Rattle.st_check_meaning.proofs.CourseLemmas.{truth_has_kind, local_has_kind, cell_is_there}
use Rattle.st_thread_meaning.specs.Deeds.{Request, load, Deed, ends, asks, Means, cost_of, asking}
use Rattle.st_events.specs.declared.verdicts.End.TheVariants.{EventsSpent}
use Rattle.st_thread_meaning.specs.Statements.{evaluating, no_calls}
use Rattle.st_thread_meaning.specs.Typed.{GoesOn, IsTyped, IsRightRequest, IsRightReply}
use Rattle.st_thread_meaning.proofs.KindLemmas.{goes_on_itself, goes_on_further, kind_stays, kinds_stay, some_word, kind_of_field_stays, kind_at_class, kind_of_fitting}

-- a course that is typed on a heap, where each read is answered by a later one
abbrev pub IsTypedCourse : ShapeLists → {A : Type 0} → (Heap → A → Type 0) → Course A → Heap → Type 0
IsTypedCourse shape right (comes_to x) heap = right heap x
IsTypedCourse shape right (ends_in plain) heap = Unit {0}
IsTypedCourse shape right (reads obj field next) heap =
    IsSome (word_at heap obj field)
    × ((later : Heap) → GoesOn shape heap later → (word : ℕ) → fits_cell shape later obj field word ≡ true → IsTypedCourse shape right (next word) later)
IsTypedCourse shape right (uses_unit next) heap = IsTypedCourse shape right (next tt) heap

-- a typed course and then another is typed, where the second is on every later heap, with what the first may come to
pub then_is_typed :
    (shape : ShapeLists) {A B : Type 0} (P : Heap → A → Type 0) (Q : Heap → B → Type 0) (c : Course A) (rest : A → Course B) (heap : Heap)
    → IsTypedHeap shape heap
    → IsTypedCourse shape P c heap
    → ((later : Heap) → GoesOn shape heap later → (x : A) → P later x → IsTypedCourse shape Q (rest x) later)
    → IsTypedCourse shape Q (and_then c rest) heap
then_is_typed shape P Q (comes_to x) rest heap typed h k = k heap (goes_on_itself shape heap typed) x h
then_is_typed shape P Q (ends_in plain) rest heap typed h k = tt
then_is_typed shape P Q (reads obj field next) rest heap typed h k = (
  h.0,
  λ later g word fit.
      then_is_typed shape P Q (next word) rest later g.typed (h.1 later g word fit) (λ last g' x p. k last (goes_on_further shape heap later last g g') x p),
)
then_is_typed shape P Q (uses_unit next) rest heap typed h k = then_is_typed shape P Q (next tt) rest heap typed h k

-- a typed course is followed by what is typed behind it
abbrev pub Behind : ShapeLists → Heap → {A : Type 0} → (Heap → A → Type 0) → (A → Means → Deed) → Type 0
Behind shape heap {A} P rest = (later : Heap) → GoesOn shape heap later → (x : A) → P later x → (means : Means) → IsTyped shape (rest x means) later

-- what is typed on every later heap is so from any of them on
pub later_behind :
    (shape : ShapeLists) (heap later : Heap) {A : Type 0} (P : Heap → A → Type 0) (rest : A → Means → Deed)
    → GoesOn shape heap later
    → Behind shape heap P rest
    → Behind shape later P rest
later_behind shape heap later P rest g h last g' x p means = h last (goes_on_further shape heap later last g g') x p means

-- an event that is right, with what is typed behind it
pub asking_is_typed :
    (shape : ShapeLists) (request : Request) (heap : Heap) (means : Means) (rest : ℕ → Means → Deed)
    → IsRightRequest shape heap request
    → Behind shape heap (λ later reply. IsRightReply shape later request reply) rest
    → IsTyped shape (asking request means rest) heap
asking_is_typed shape request heap means rest right h = by (nat_lt means.charge (cost_of request))
  where
    left : Means
    left = record means { charge = means.charge - cost_of request }

    by : (t : Bool) → IsTyped shape (elim t [ true ↦ ends EventsSpent | false ↦ asks request (λ reply. rest reply left) ]) heap
    by true = tt
    by false = (right, λ later g reply fit. h later g reply fit left)

-- a typed course is a typed deed: each of its reads asks for a cell that exists
pub evaluating_is_typed :
    (shape : ShapeLists) {A : Type 0} (P : Heap → A → Type 0) (c : Course A) (heap : Heap) (means : Means) (rest : A → Means → Deed)
    → IsTypedHeap shape heap
    → IsTypedCourse shape P c heap
    → Behind shape heap P rest
    → IsTyped shape (evaluating c means rest) heap
evaluating_is_typed shape P (comes_to x) heap means rest typed h k = k heap (goes_on_itself shape heap typed) x h means
evaluating_is_typed shape P (ends_in plain) heap means rest typed h k = tt
evaluating_is_typed shape P (reads obj field next) heap means rest typed h k =
    asking_is_typed shape (load obj field) heap means (λ word left. evaluating (next word) left rest) h.0
    (λ later g word fit left. evaluating_is_typed shape P (next word) later left rest g.typed (h.1 later g word fit) (later_behind shape heap later P rest g k))
evaluating_is_typed shape P (uses_unit next) heap means rest typed h k = evaluating_is_typed shape P (next tt) heap means rest typed h k

-- ---- courses without loads

-- a word of this kind
abbrev pub OfKind : Kind → Heap → ℕ → Type 0
OfKind kind heap word = IsOfKind heap kind word

branch_is_typed :
    (shape : ShapeLists) {A : Type 0} (P : Heap → A → Type 0) (test : Bool) (c d : Course A) (heap : Heap)
    → IsTypedCourse shape P c heap
    → IsTypedCourse shape P d heap
    → IsTypedCourse shape P (elim test [ true ↦ c | false ↦ d ]) heap
branch_is_typed shape P true c d heap h k = h
branch_is_typed shape P false c d heap h k = k

number_is_typed : (shape : ShapeLists) (heap : Heap) (number : ℤ) (at : Site) → IsTypedCourse shape (OfKind Int) (number_or_overflow number at) heap
number_is_typed shape heap number at = by (is_in_range number)
  where
    by : (t : Bool) → IsTypedCourse shape (OfKind Int) (if t then comes_to (word_of_number number) else ends_in (Overflow at)) heap
    by true = refl
    by false = tt

quotient_is_typed : (shape : ShapeLists) (heap : Heap) (left right : ℕ) (at : Site) → IsTypedCourse shape (OfKind Int) (quotient left right at) heap
quotient_is_typed shape heap left right at = by (right == 0)
  where
    by : (t : Bool) → IsTypedCourse shape (OfKind Int) (if t then ends_in (Divide at) else number_or_overflow (int_div (number_of left) (number_of right)) at) heap
    by true = tt
    by false = number_is_typed shape heap (int_div (number_of left) (number_of right)) at

operator_is_typed :
    (shape : ShapeLists) (heap : Heap) → IsTypedHeap shape heap
    → (operator : Operator) (left right : ℕ) (at : Site)
    → IsTypedCourse shape (OfKind (kind_given operator)) (operate operator left right at) heap
operator_is_typed shape heap typed Add left right at = number_is_typed shape heap (number_of left +ℤ number_of right) at
operator_is_typed shape heap typed Sub left right at = number_is_typed shape heap (number_of left -ℤ number_of right) at
operator_is_typed shape heap typed Mul left right at = number_is_typed shape heap (number_of left *ℤ number_of right) at
operator_is_typed shape heap typed Div left right at = quotient_is_typed shape heap left right at
operator_is_typed shape heap typed Rem left right at =
    then_is_typed shape (OfKind Int) (OfKind Int) (quotient left right at) (λ _. comes_to (word_of_number (int_rem (number_of left) (number_of right)))) heap typed
    (quotient_is_typed shape heap left right at) (λ later g _ _. refl)
operator_is_typed shape heap typed Less left right at = truth_has_kind heap (int_lt (number_of left) (number_of right))
operator_is_typed shape heap typed LessEq left right at = truth_has_kind heap (int_le (number_of left) (number_of right))
operator_is_typed shape heap typed Greater left right at = truth_has_kind heap (int_lt (number_of right) (number_of left))
operator_is_typed shape heap typed GreaterEq left right at = truth_has_kind heap (int_le (number_of right) (number_of left))
operator_is_typed shape heap typed Equal left right at = truth_has_kind heap (left == right)
operator_is_typed shape heap typed NotEqual left right at = truth_has_kind heap (not (left == right))

-- ---- loads

read_is_typed :
    (shape : ShapeLists) (heap : Heap) (obj class field : ℕ) (kind : Kind)
    → IsTypedHeap shape heap
    → class_at heap obj ≡ Some class
    → slice_get (kinds_of shape class) field ≡ Some kind
    → IsTypedCourse shape (OfKind kind) (read_cell obj field) heap
read_is_typed shape heap obj class field kind typed e f =
    let cell = cell_is_there shape heap obj class field kind typed e f in (
      some_word heap obj field cell.word cell.here.found,
      λ later g word fit. kind_of_fitting shape later obj field kind word (kind_of_field_stays shape heap later obj field kind g (kind_at_class shape heap obj class field kind e f)) fit,
    )

-- a reference that is not null is an object of its class
pub class_of_reference : (heap : Heap) (obj class : ℕ) → (obj == 0) ≡ false → IsOfKind heap (Ref class) obj → class_at heap obj ≡ Some class
class_of_reference heap obj class e h =
    of_class (class_at heap obj) (subst (λ (b : Bool). (b || is_of_class (class_at heap obj) class) ≡ true) e h)
  where
    of_class : (found : Option ℕ) → is_of_class found class ≡ true → found ≡ Some class
    of_class None k = absurd (cc)
    of_class (Some c) k = ap Some (eqb-true c class k)

field_is_typed :
    (shape : ShapeLists) (heap : Heap) (obj class field : ℕ) (kind : Kind) (at : Site)
    → IsTypedHeap shape heap
    → IsOfKind heap (Ref class) obj
    → slice_get (kinds_of shape class) field ≡ Some kind
    → IsTypedCourse shape (OfKind kind) (field_of obj field at) heap
field_is_typed shape heap obj class field kind at typed h f = by (obj == 0) refl
  where
    by : (t : Bool) → (obj == 0) ≡ t → IsTypedCourse shape (OfKind kind) (if t then ends_in (Null at) else read_cell obj field) heap
    by true e = tt
    by false e = read_is_typed shape heap obj class field kind typed (class_of_reference heap obj class e h) f

-- ---- expressions

null_has_kind : (heap : Heap) (kind : Kind) → IsClassKind kind → IsOfKind heap kind 0
null_has_kind heap Int h = absurd h
null_has_kind heap Truth h = absurd h
null_has_kind heap (Ref class) h = refl

no_predicate : {pred : Predicate} (n : ℕ) → slice_get {X = Predicate} [] n ≡ Some pred → ⊥
no_predicate n e = cc

-- an expression of a kind asks for cells that exist, and comes to a word of that kind on the heap as it is then
pub term_is_typed :
    (shape : ShapeLists) (kinds : List Kind) (locals : List ℕ) (heap : Heap)
    → IsTypedHeap shape heap
    → AreOfKinds heap kinds locals
    → (t : Term) (kind : Kind)
    → HasKind (plain_setting shape kinds) t kind
    → IsTypedCourse shape (OfKind kind) (course_of no_calls t locals) heap
term_is_typed shape kinds locals heap typed fit (a_number value) kind h = rw h refl
term_is_typed shape kinds locals heap typed fit (a_truth value) kind h = rw h (truth_has_kind heap value)
term_is_typed shape kinds locals heap typed fit a_null kind h = null_has_kind heap kind h
term_is_typed shape kinds locals heap typed fit (a_local local) kind h = local_has_kind heap kinds locals local kind fit h
term_is_typed shape kinds locals heap typed fit (a_shared field) kind h = read_is_typed shape heap SHARED_OBJECT 0 field kind typed typed.shared h
term_is_typed shape kinds locals heap typed fit (a_field object field at) kind h =
    then_is_typed shape (OfKind (Ref h.0)) (OfKind kind) (course_of no_calls object locals) (λ obj. field_of obj field at) heap typed
    (term_is_typed shape kinds locals heap typed fit object (Ref h.0) h.1)
    (λ later g obj of_kind. field_is_typed shape later obj h.0 field kind at g.typed of_kind h.2)
term_is_typed shape kinds locals heap typed fit (a_not inner) kind h =
    then_is_typed shape (OfKind Truth) (OfKind kind) (course_of no_calls inner locals) (λ word. truth (not (is_true word))) heap typed
    (term_is_typed shape kinds locals heap typed fit inner Truth h.0)
    (λ later g word _. rw h.1 (truth_has_kind later (not (is_true word))))
term_is_typed shape kinds locals heap typed fit (a_minus inner at) kind h =
    then_is_typed shape (OfKind Int) (OfKind kind) (course_of no_calls inner locals) (λ word. number_or_overflow (neg_ℤ (number_of word)) at) heap typed
    (term_is_typed shape kinds locals heap typed fit inner Int h.0)
    (λ later g word _. rw h.1 (number_is_typed shape later (neg_ℤ (number_of word)) at))
term_is_typed shape kinds locals heap typed fit (a_binary operator left right at) kind h =
    then_is_typed shape (OfKind h.0) (OfKind kind) (course_of no_calls left locals)
    (λ first. and_then (course_of no_calls right locals) (λ second. operate operator first second at)) heap typed
    (term_is_typed shape kinds locals heap typed fit left h.0 h.2)
    (λ later g first _. then_is_typed shape (OfKind h.0) (OfKind kind) (course_of no_calls right locals) (λ second. operate operator first second at) later g.typed
    (term_is_typed shape kinds locals later g.typed (kinds_stay shape heap later kinds locals g fit) right h.0 h.3)
    (λ last g' second _. rw h.4 (operator_is_typed shape last g'.typed operator first second at)))
term_is_typed shape kinds locals heap typed fit (a_both left right) kind h =
    then_is_typed shape (OfKind Truth) (OfKind kind) (course_of no_calls left locals)
    (λ first. elim (is_true first) [ true ↦ course_of no_calls right locals | false ↦ truth false ]) heap typed
    (term_is_typed shape kinds locals heap typed fit left Truth h.0)
    (λ later g first _. rw h.2 (branch_is_typed shape (OfKind Truth) (is_true first) (course_of no_calls right locals) (truth false) later
    (term_is_typed shape kinds locals later g.typed (kinds_stay shape heap later kinds locals g fit) right Truth h.1) (truth_has_kind later false)))
term_is_typed shape kinds locals heap typed fit (an_either left right) kind h =
    then_is_typed shape (OfKind Truth) (OfKind kind) (course_of no_calls left locals)
    (λ first. elim (is_true first) [ true ↦ truth true | false ↦ course_of no_calls right locals ]) heap typed
    (term_is_typed shape kinds locals heap typed fit left Truth h.0)
    (λ later g first _. rw h.2 (branch_is_typed shape (OfKind Truth) (is_true first) (truth true) (course_of no_calls right locals) later
    (truth_has_kind later true) (term_is_typed shape kinds locals later g.typed (kinds_stay shape heap later kinds locals g fit) right Truth h.1)))
term_is_typed shape kinds locals heap typed fit (a_cond test left right) kind h =
    then_is_typed shape (OfKind Truth) (OfKind kind) (course_of no_calls test locals)
    (λ first. elim (is_true first) [ true ↦ course_of no_calls left locals | false ↦ course_of no_calls right locals ]) heap typed
    (term_is_typed shape kinds locals heap typed fit test Truth h.0)
    (λ later g first _. branch_is_typed shape (OfKind kind) (is_true first) (course_of no_calls left locals) (course_of no_calls right locals) later
    (term_is_typed shape kinds locals later g.typed (kinds_stay shape heap later kinds locals g fit) left kind h.1)
    (term_is_typed shape kinds locals later g.typed (kinds_stay shape heap later kinds locals g fit) right kind h.2))
term_is_typed shape kinds locals heap typed fit (a_call pred args) kind h = absurd (no_predicate pred h.1)

-- as many words as kinds, each of its kind
pub record AreWordsOf (kinds : List Kind) (heap : Heap) (words : List ℕ) : Type 0 where
  pub kinds_fit : AreOfKinds heap kinds words
  pub count : length words ≡ length kinds

-- the same for arguments, from left to right: words of the wanted kinds, as many as these
pub terms_are_typed :
    (shape : ShapeLists) (kinds : List Kind) (locals : List ℕ) (heap : Heap)
    → IsTypedHeap shape heap
    → AreOfKinds heap kinds locals
    → (ts : Terms) (wanted : List Kind)
    → HaveKinds (plain_setting shape kinds) ts wanted
    → IsTypedCourse shape (AreWordsOf wanted) (courses_of no_calls ts locals) heap
terms_are_typed shape kinds locals heap typed fit no_terms [] h = record { kinds_fit = refl; count = refl }
terms_are_typed shape kinds locals heap typed fit no_terms (kind ∷ wanted) h = absurd h
terms_are_typed shape kinds locals heap typed fit (term_then t ts) [] h = absurd h
terms_are_typed shape kinds locals heap typed fit (term_then t ts) (kind ∷ wanted) h =
    then_is_typed shape (OfKind kind) (AreWordsOf (kind ∷ wanted)) (course_of no_calls t locals)
    (λ word. and_then (courses_of no_calls ts locals) (λ words. comes_to (word ∷ words))) heap typed
    (term_is_typed shape kinds locals heap typed fit t kind h.0)
    (λ later g word first. then_is_typed shape (AreWordsOf wanted) (AreWordsOf (kind ∷ wanted)) (courses_of no_calls ts locals) (λ words. comes_to (word ∷ words)) later g.typed
    (terms_are_typed shape kinds locals later g.typed (kinds_stay shape heap later kinds locals g fit) ts wanted h.1)
    (λ last g' words rest. record {
      kinds_fit = and_both (has_kind last kind word) (have_kinds last wanted words) (kind_stays shape later last kind word g' first) rest.kinds_fit;
      count = ap suc rest.count;
    }))
