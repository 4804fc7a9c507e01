-- Kinds and cells stay while a heap goes on
use Rattle.std.proofs.Common.{◌≡◌, ℕ, zero, suc, ◌+◌, ◌-◌, ◌<◌, ◌≤◌, ◌==◌, ◌&&◌, nat_le, Bool, true, false, List, [], ◌∷◌, ◌++◌, length, take, drop, refl, sym, ◌∙◌, ap, subst, arith}
use Rattle.std.proofs.Common.{Option, Some, None, IsSome, get_or}
use Rattle.std.specs.Prelude.{slice_get, slice_set, replicate}
use Rattle.std.proofs.lemmas.Option.{slice_get_within, slice_get-get_or}
use Rattle.st_events.specs.declared.shapes.Kind.{Kind}
use Rattle.st_events.specs.Heap.{Heap, Object, class_at, word_at, word_of}
use Rattle.st_events.specs.Legal.{fits_cell, has_kind, has_kind_if_any, have_kinds, kind_of_field}
use Rattle.st_events.specs.Shape.{ShapeLists, kinds_of}
use Rattle.st_events.specs.Sound.{Extends, IsTypedHeap}
use Rattle.st_events.proofs.KeptLemmas.{and_parts, and_both}
use Rattle.st_events.proofs.SoundTypes.{KeepsClasses, kept_has_kind, kept_has_kind_if_any, zero_has_kind}
use Rattle.st_check_meaning.specs.Safe.{IsOfKind, AreOfKinds}
use Rattle.st_check_meaning.proofs.CourseLemmas.{object_of_class}
use Rattle.st_thread_meaning.specs.Typed.{GoesOn}

-- a typed heap goes on as it is, and what goes on twice goes on
pub goes_on_itself : (shape : ShapeLists) (heap : Heap) → IsTypedHeap shape heap → GoesOn shape heap heap
goes_on_itself shape heap h = record { extends = record { object = λ obj x e. (x, e, refl, refl) }; typed = h }

-- a heap that goes on twice has gone on
pub goes_on_further : (shape : ShapeLists) (a b c : Heap) → GoesOn shape a b → GoesOn shape b c → GoesOn shape a c
goes_on_further shape a b c g h = record {
  extends = record { object = λ obj x e. let y = g.extends.object obj x e in let z = h.extends.object obj y.0 y.1 in (z.0, z.1, z.2 ∙ y.2, z.3 ∙ y.3) };
  typed = h.typed;
}

-- an object keeps its class while the heap grows
pub classes_stay : (a b : Heap) → Extends a b → KeepsClasses a b
classes_stay a b g = record {
  kept = λ obj class e.
      let o = object_of_class a obj class e in
      let y = g.object obj o.object o.there in
      rw y.1 (ap Some (y.2 ∙ o.of_class));
}

-- a word that has a kind has it later on as well
pub kind_stays : (shape : ShapeLists) (a b : Heap) (kind : Kind) (word : ℕ) → GoesOn shape a b → IsOfKind a kind word → IsOfKind b kind word
kind_stays shape a b kind word g h = kept_has_kind a b (classes_stay a b g.extends) kind word h

-- the same for words one by one, each with its kind
pub kinds_stay : (shape : ShapeLists) (a b : Heap) (kinds : List Kind) (words : List ℕ) → GoesOn shape a b → AreOfKinds a kinds words → AreOfKinds b kinds words
kinds_stay shape a b [] words g h = refl
kinds_stay shape a b (kind ∷ kinds) [] g h = absurd (cc)
kinds_stay shape a b (kind ∷ kinds) (word ∷ words) g h =
    let parts = and_parts (has_kind a kind word) (have_kinds a kinds words) h in
    and_both (has_kind b kind word) (have_kinds b kinds words) (kind_stays shape a b kind word g parts.0) (kinds_stay shape a b kinds words g parts.1)

-- a cell that exists, and its kind
pub record IsCell (shape : ShapeLists) (heap : Heap) (obj field : ℕ) : Type 0 where
  pub object : Object
  pub there : heap obj ≡ Some object
  pub word : ℕ
  pub has : slice_get object.words field ≡ Some word

-- where a field of an object has a word, there is the object
pub cell_of_word : (shape : ShapeLists) (heap : Heap) (obj field : ℕ) → IsSome (word_at heap obj field) → IsCell shape heap obj field
cell_of_word shape heap obj field h = by (heap obj) refl
  where
    of_word : (x : Object) → heap obj ≡ Some x → (o : Option ℕ) → slice_get x.words field ≡ o → IsSome o → IsCell shape heap obj field
    of_word x e None f s = absurd (cc)
    of_word x e (Some w) f s = record { object = x; there = e; word = w; has = f }

    by : (o : Option Object) → heap obj ≡ o → IsCell shape heap obj field
    by None e = absurd (let none : IsSome (word_of None field) = subst (λ (x : Option Object). IsSome (word_of x field)) e h in cc)
    by (Some x) e = of_word x e (slice_get x.words field) refl (subst (λ (y : Option Object). IsSome (word_of y field)) e h)

-- a cell with a known word exists
pub some_word : (heap : Heap) (obj field word : ℕ) → word_at heap obj field ≡ Some word → IsSome (word_at heap obj field)
some_word heap obj field word e = rw e refl

-- a cell that exists is there later on as well
pub cell_stays : (shape : ShapeLists) (a b : Heap) (obj field : ℕ) → GoesOn shape a b → IsSome (word_at a obj field) → IsSome (word_at b obj field)
cell_stays shape a b obj field g h =
    let c = cell_of_word shape a obj field h in
    let y = g.extends.object obj c.object c.there in
    let within : field < length c.object.words = slice_get_within c.object.words field c.word c.has in
    some_word b obj field (get_or y.0.words field 0)
    (ap (λ (o : Option Object). word_of o field) y.1 ∙ slice_get-get_or y.0.words field 0 (omega (arith, within, y.3)))

-- the kind that a field of an object has stays
pub kind_of_field_stays :
    (shape : ShapeLists) (a b : Heap) (obj field : ℕ) (kind : Kind)
    → GoesOn shape a b
    → kind_of_field shape (a obj) field ≡ Some kind
    → kind_of_field shape (b obj) field ≡ Some kind
kind_of_field_stays shape a b obj field kind g h = by (a obj) refl
  where
    by : (o : Option Object) → a obj ≡ o → kind_of_field shape (b obj) field ≡ Some kind
    by None e = absurd (let none : None ≡ Some kind = sym (ap (λ (x : Option Object). kind_of_field shape x field) e) ∙ h in cc)
    by (Some x) e =
        let y = g.extends.object obj x e in
        ap (λ (o : Option Object). kind_of_field shape o field) y.1
        ∙ ap (λ (c : ℕ). slice_get (kinds_of shape c) field) y.2
        ∙ sym (ap (λ (o : Option Object). kind_of_field shape o field) e) ∙ h

-- a word that may stand in a cell may stand in it later on
pub fits_stays :
    (shape : ShapeLists) (a b : Heap) (obj field word : ℕ)
    → GoesOn shape a b
    → fits_cell shape a obj field word ≡ true
    → fits_cell shape b obj field word ≡ true
fits_stays shape a b obj field word g h = by (kind_of_field shape (a obj) field) refl
  where
    by : (o : Option Kind) → kind_of_field shape (a obj) field ≡ o → fits_cell shape b obj field word ≡ true
    by None e = absurd (let none : false ≡ true = sym (ap (λ (k : Option Kind). has_kind_if_any a k word) e) ∙ h in cc)
    by (Some kind) e =
        ap (λ (k : Option Kind). has_kind_if_any b k word) (kind_of_field_stays shape a b obj field kind g e)
        ∙ kind_stays shape a b kind word g (sym (ap (λ (k : Option Kind). has_kind_if_any a k word) e) ∙ h)

-- a word of a kind fits a cell of the kind, and what fits such a cell has the kind
pub fits_of_kind :
    (shape : ShapeLists) (heap : Heap) (obj field : ℕ) (kind : Kind) (word : ℕ)
    → kind_of_field shape (heap obj) field ≡ Some kind
    → IsOfKind heap kind word
    → fits_cell shape heap obj field word ≡ true
fits_of_kind shape heap obj field kind word e h = ap (λ (k : Option Kind). has_kind_if_any heap k word) e ∙ h

-- a word that may stand in a cell has the cell's kind
pub kind_of_fitting :
    (shape : ShapeLists) (heap : Heap) (obj field : ℕ) (kind : Kind) (word : ℕ)
    → kind_of_field shape (heap obj) field ≡ Some kind
    → fits_cell shape heap obj field word ≡ true
    → IsOfKind heap kind word
kind_of_fitting shape heap obj field kind word e h = sym (ap (λ (k : Option Kind). has_kind_if_any heap k word) e) ∙ h

-- the field of an object of a class has its kind
pub kind_at_class :
    (shape : ShapeLists) (heap : Heap) (obj class field : ℕ) (kind : Kind)
    → class_at heap obj ≡ Some class
    → slice_get (kinds_of shape class) field ≡ Some kind
    → kind_of_field shape (heap obj) field ≡ Some kind
kind_at_class shape heap obj class field kind e f =
    let o = object_of_class heap obj class e in
    ap (λ (x : Option Object). kind_of_field shape x field) o.there ∙ ap (λ (c : ℕ). slice_get (kinds_of shape c) field) o.of_class ∙ f

-- a local gets a word of its kind
pub kinds_set :
    (heap : Heap) (kinds : List Kind) (words : List ℕ) (local : ℕ) (kind : Kind) (word : ℕ)
    → AreOfKinds heap kinds words
    → slice_get kinds local ≡ Some kind
    → IsOfKind heap kind word
    → AreOfKinds heap kinds (slice_set words local word)
kinds_set heap [] words local kind word h e k = refl
kinds_set heap (x ∷ kinds) [] local kind word h e k = absurd (cc)
kinds_set heap (x ∷ kinds) (w ∷ words) zero kind word h e k =
    let parts = and_parts (has_kind heap x w) (have_kinds heap kinds words) h in
    let same : x ≡ kind = cc in
    and_both (has_kind heap x word) (have_kinds heap kinds words) (subst (λ (y : Kind). IsOfKind heap y word) (sym same) k) parts.1
kinds_set heap (x ∷ kinds) (w ∷ words) (suc local) kind word h e k =
    let parts = and_parts (has_kind heap x w) (have_kinds heap kinds words) h in
    and_both (has_kind heap x w) (have_kinds heap kinds (slice_set words local word)) parts.0 (kinds_set heap kinds words local kind word parts.1 e k)

-- words of their kinds stay so in front of others
pub kinds_in_front : (heap : Heap) (kinds : List Kind) (words more : List ℕ) → AreOfKinds heap kinds words → AreOfKinds heap kinds (words ++ more)
kinds_in_front heap [] words more h = refl
kinds_in_front heap (x ∷ kinds) [] more h = absurd (cc)
kinds_in_front heap (x ∷ kinds) (w ∷ words) more h =
    let parts = and_parts (has_kind heap x w) (have_kinds heap kinds words) h in
    and_both (has_kind heap x w) (have_kinds heap kinds (words ++ more)) parts.0 (kinds_in_front heap kinds words more parts.1)

-- zeros have all kinds
pub zeros_of_kinds : (heap : Heap) (kinds : List Kind) (n : ℕ) → length kinds ≤ n → AreOfKinds heap kinds (take (length kinds) (replicate n 0))
zeros_of_kinds heap [] n h = refl
zeros_of_kinds heap (kind ∷ kinds) zero h = absurd (omega (arith, h))
zeros_of_kinds heap (kind ∷ kinds) (suc n) h =
    and_both (has_kind heap kind 0) (have_kinds heap kinds (take (length kinds) (replicate n 0))) (zero_has_kind heap kind) (zeros_of_kinds heap kinds n (omega (arith, h)))

-- the first words have the first kinds, and zeros come behind them
pub filled_of_kinds :
    (heap : Heap) (kinds : List Kind) (count : ℕ) (words : List ℕ) (n : ℕ)
    → AreOfKinds heap (take count kinds) words
    → length words ≡ length (take count kinds)
    → length kinds ≤ length words + n
    → AreOfKinds heap kinds (take (length kinds) (words ++ replicate n 0))
filled_of_kinds heap [] count words n h e le = refl
filled_of_kinds heap (kind ∷ kinds) zero [] n h e le = zeros_of_kinds heap (kind ∷ kinds) n (omega (arith, le))
filled_of_kinds heap (kind ∷ kinds) zero (w ∷ words) n h e le = absurd (omega (arith, e))
filled_of_kinds heap (kind ∷ kinds) (suc count) [] n h e le = absurd (omega (arith, e))
filled_of_kinds heap (kind ∷ kinds) (suc count) (w ∷ words) n h e le =
    let parts = and_parts (has_kind heap kind w) (have_kinds heap (take count kinds) words) h in
    and_both (has_kind heap kind w) (have_kinds heap kinds (take (length kinds) (words ++ replicate n 0))) parts.0
    (filled_of_kinds heap kinds count words n parts.1 (omega (arith, e)) (omega (arith, le)))
