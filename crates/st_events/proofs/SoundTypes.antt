-- The heap of a legal journal is typed, and a later heap has all that an earlier one has
use Rattle.std.proofs.Common.{◌≡◌, ◌≢◌, ℕ, zero, suc, ◌<◌, ◌==◌, cond, Bool, true, false, ◌⊎◌, inl, inr, List, [], ◌∷◌}
use Rattle.std.proofs.Common.{length, map, slice_get, Option, Some, None, refl, sym, ◌∙◌}
use Rattle.std.proofs.Common.{ap, subst, arith}
use Rattle.std.specs.Prelude.{slice_set, ◌||◌}
use Rattle.std.specs.Option.{option_map}
use Rattle.std.proofs.lemmas.List.{length-map, length-set}
use Rattle.std.proofs.lemmas.Bool.Decides.{eqb_tells}
use Rattle.std.proofs.lemmas.Option.{slice_get_within}
use Rattle.st_events.specs.declared.heaps.TheConstants.{SHARED_OBJECT}
use Rattle.st_events.specs.Terms.{Kind, ShapeLists, kinds_of, IsWithinLimits, Heap, Object, class_at, word_at, word_of, with_object, with_word, set_word, fresh}
use Rattle.st_events.specs.Terms.{first_heap, fits_cell}
use Rattle.st_events.specs.declared.shapes.Kind.TheVariants.{Int, Bool as Truth, Ref}
use Rattle.st_events.specs.Legal.{has_kind, has_kind_if_any, is_of_class, kind_of_field}
use Rattle.st_events.specs.Sound.{IsTypedHeap}
use Rattle.st_events.proofs.HeapLemmas.{set_then_get}
use Rattle.st_events.proofs.SoundHeap.{object_put_here, object_put_elsewhere, word_set_elsewhere, word_set_keeps_class}

-- ---- kinds are kept where classes are

-- each object keeps its class
pub record KeepsClasses (earlier later : Heap) : Type 0 where
  pub kept : (obj class : ℕ) → class_at earlier obj ≡ Some class → class_at later obj ≡ Some class

kept_is_of_class :
    (earlier later : Heap)
    → KeepsClasses earlier later
    → (obj class : ℕ)
    → is_of_class (class_at earlier obj) class ≡ true
    → is_of_class (class_at later obj) class ≡ true
kept_is_of_class earlier later k obj class t = cases (class_at earlier obj) refl
  where
    cases : (o : Option ℕ) → class_at earlier obj ≡ o → is_of_class (class_at later obj) class ≡ true
    cases None e = let f : false ≡ true = subst (λ (o : Option ℕ). is_of_class o class ≡ true) e t in cc
    cases (Some c) e = subst (λ (o : Option ℕ). is_of_class o class ≡ true) (sym (k.kept obj c e)) (subst (λ (o : Option ℕ). is_of_class o class ≡ true) e t)

or_kept : (a b c : Bool) → (b ≡ true → c ≡ true) → (a || b) ≡ true → (a || c) ≡ true
or_kept true b c f t = refl
or_kept false b c f t = f t

-- a word keeps its kind where objects keep their classes
pub kept_has_kind :
    (earlier later : Heap)
    → KeepsClasses earlier later
    → (kind : Kind) (word : ℕ)
    → has_kind earlier kind word ≡ true
    → has_kind later kind word ≡ true
kept_has_kind earlier later k Int word t = refl
kept_has_kind earlier later k Truth word t = t
kept_has_kind earlier later k (Ref class) word t =
    or_kept (word == 0) (is_of_class (class_at earlier word) class) (is_of_class (class_at later word) class) (kept_is_of_class earlier later k word class) t

-- the same of a kind that may be missing
pub kept_has_kind_if_any :
    (earlier later : Heap)
    → KeepsClasses earlier later
    → (kind : Option Kind) (word : ℕ)
    → has_kind_if_any earlier kind word ≡ true
    → has_kind_if_any later kind word ≡ true
kept_has_kind_if_any earlier later k None word t = t
kept_has_kind_if_any earlier later k (Some kind) word t = kept_has_kind earlier later k kind word t

-- 0 has every kind
pub zero_has_kind : (heap : Heap) (kind : Kind) → has_kind heap kind 0 ≡ true
zero_has_kind heap Int = refl
zero_has_kind heap Truth = refl
zero_has_kind heap (Ref class) = refl

-- ---- a new object

-- each word of a new object is 0
pub new_words_are_zero :
    (kinds : List Kind) (field : ℕ) (word : ℕ)
    → slice_get (map (λ _. 0) kinds) field ≡ Some word
    → (kind : Kind) × (slice_get kinds field ≡ Some kind) × (word ≡ 0)
new_words_are_zero [] field word h = cc
new_words_are_zero (kind ∷ kinds) zero word h = let e : word ≡ 0 = cc in (kind, refl, e)
new_words_are_zero (kind ∷ kinds) (suc field) word h = new_words_are_zero kinds field word h

-- a New changes no class
pub new_keeps_classes : (heap : Heap) (obj : ℕ) (x : Object) → heap obj ≡ None → KeepsClasses heap (with_object heap obj x)
new_keeps_classes heap obj x absent = record {
  kept = λ o class e. elim (eqb_tells o obj) [
    | inl same ↦ absurd (none o class same.1 e)
    | inr other ↦ ap (option_map (λ (y : Object). y.class)) (object_put_elsewhere heap obj x o other.1) ∙ e
  ];
}
  where
    none : (o class : ℕ) → o ≡ obj → class_at heap o ≡ Some class → ⊥
    none o class same e = let f : class_at heap o ≡ None = ap (option_map (λ (y : Object). y.class)) (ap heap same ∙ absent) in cc

-- the objects of a heap are typed, whether it has the shared object or not
pub record AreTyped (shape : ShapeLists) (heap : Heap) : Type 0 where
  pub declared : (obj class : ℕ) → class_at heap obj ≡ Some class → class < length shape.classes
  pub lengths : (obj : ℕ) (x : Object) → heap obj ≡ Some x → length x.words ≡ length (kinds_of shape x.class)
  pub kinds : (obj field word : ℕ) → word_at heap obj field ≡ Some word → fits_cell shape heap obj field word ≡ true

-- a New has the kinds of its class
pub new_is_typed :
    (shape : ShapeLists) (heap : Heap) (obj class : ℕ)
    → heap obj ≡ None
    → class < length shape.classes
    → AreTyped shape heap
    → AreTyped shape (with_object heap obj (fresh shape class))
new_is_typed shape heap obj class absent declared t =
    let later = with_object heap obj (fresh shape class) in
    let kept = new_keeps_classes heap obj (fresh shape class) absent in
    record {
      declared = λ o c e. elim (eqb_tells o obj) [
        | inl same ↦ (let f : Some class ≡ Some c =
            sym (ap (λ (p : ℕ). class_at later p) same.1 ∙ ap (option_map (λ (y : Object). y.class)) (object_put_here heap obj (fresh shape class))) ∙ e in let g : class ≡ c =
            cc in subst (λ (n : ℕ). n < length shape.classes) g declared)
        | inr other ↦ t.declared o c (sym (ap (option_map (λ (y : Object). y.class)) (object_put_elsewhere heap obj (fresh shape class) o other.1)) ∙ e)
      ];
      lengths = λ o x e. elim (eqb_tells o obj) [
        | inl same ↦ (let f : Some (fresh shape class) ≡ Some x = sym (ap later same.1 ∙ object_put_here heap obj (fresh shape class)) ∙ e in let g : fresh shape class ≡ x =
            cc in subst (λ (y : Object). length y.words ≡ length (kinds_of shape y.class)) g (length-map (kinds_of shape class) (λ _. 0)))
        | inr other ↦ t.lengths o x (sym (object_put_elsewhere heap obj (fresh shape class) o other.1) ∙ e)
      ];
      kinds = λ o field word e. elim (eqb_tells o obj) [
        | inl same ↦ new_word o field word same.1 e
        | inr other ↦ (let is = object_put_elsewhere heap obj (fresh shape class) o other.1 in
            subst (λ (y : Option Object). has_kind_if_any later (kind_of_field shape y field) word ≡ true) (sym is)
            (kept_has_kind_if_any heap later kept (kind_of_field shape (heap o) field) word
            (t.kinds o field word (subst (λ (y : Option Object). word_of y field ≡ Some word) is e))))
      ];
    }
  where
    new_word :
        (o field word : ℕ)
        → o ≡ obj
        → word_at (with_object heap obj (fresh shape class)) o field ≡ Some word
        → fits_cell shape (with_object heap obj (fresh shape class)) o field word ≡ true
    new_word o field word same e =
        let is : with_object heap obj (fresh shape class) o ≡ Some (fresh shape class) =
        ap (with_object heap obj (fresh shape class)) same ∙ object_put_here heap obj (fresh shape class) in
        let z = new_words_are_zero (kinds_of shape class) field word (subst (λ (y : Option Object). word_of y field ≡ Some word) is e) in
        subst (λ (y : Option Object). has_kind_if_any (with_object heap obj (fresh shape class)) (kind_of_field shape y field) word ≡ true) (sym is)
        (subst (λ (kind : Option Kind). has_kind_if_any (with_object heap obj (fresh shape class)) kind word ≡ true) (sym z.1)
        (subst (λ (n : ℕ). has_kind (with_object heap obj (fresh shape class)) z.0 n ≡ true) (sym z.2) (zero_has_kind (with_object heap obj (fresh shape class)) z.0)))

-- with it the heap stays typed
pub new_keeps_typed :
    (shape : ShapeLists) (heap : Heap) (obj class : ℕ)
    → heap obj ≡ None
    → class < length shape.classes
    → IsTypedHeap shape heap
    → IsTypedHeap shape (with_object heap obj (fresh shape class))
new_keeps_typed shape heap obj class absent declared t =
    let objects = new_is_typed shape heap obj class absent declared (record { declared = t.declared; lengths = t.lengths; kinds = t.kinds }) in
    record {
      shared = (new_keeps_classes heap obj (fresh shape class) absent).kept SHARED_OBJECT 0 t.shared;
      declared = objects.declared;
      lengths = objects.lengths;
      kinds =
          objects.kinds;
    }

-- no object at all
nowhere : Heap
nowhere = λ o. None

-- the shared object alone
pub first_is_typed : (shape : ShapeLists) → IsWithinLimits shape → IsTypedHeap shape (first_heap shape)
unfolding nowhere
first_is_typed shape limits =
    let objects = new_is_typed shape nowhere SHARED_OBJECT 0 refl limits.some_class
    (record { declared = λ obj class h. cc; lengths = λ obj x h. cc; kinds = λ obj field word h. cc }) in
    record { shared = refl; declared = objects.declared; lengths = objects.lengths; kinds = objects.kinds }

-- ---- a change

-- a change changes no class
pub change_keeps_classes : (heap : Heap) (obj field value : ℕ) → KeepsClasses heap (with_word heap obj field value)
change_keeps_classes heap obj field value = record { kept = λ o class e. word_set_keeps_class heap obj field value o ∙ e }

set_word_keeps_kind :
    (shape : ShapeLists) (x : Option Object) (field value place : ℕ)
    → kind_of_field shape (option_map (set_word field value) x) place ≡ kind_of_field shape x place
set_word_keeps_kind shape None field value place = refl
set_word_keeps_kind shape (Some x) field value place = refl

with_word_keeps_kind :
    (shape : ShapeLists) (heap : Heap) (obj field value o place : ℕ)
    → kind_of_field shape (with_word heap obj field value o) place ≡ kind_of_field shape (heap o) place
with_word_keeps_kind shape heap obj field value o place = elim (eqb_tells o obj) [ inl e ↦ rw e.0 (set_word_keeps_kind shape (heap o) field value place) | inr e ↦ rw e.0 refl ]

-- a word after a change is the old one, or the value in the field that was set
pub old_word_or_set :
    (x : Option Object) (field value place word : ℕ)
    → word_of (option_map (set_word field value) x) place ≡ Some word
    → (word_of x place ≡ Some word) ⊎ ((place ≡ field) × (word ≡ value))
old_word_or_set None field value place word h = inl h
old_word_or_set (Some x) field value place word h = elim (eqb_tells place field) [
  | inl e ↦ inr (e.1, value_is e.1)
  | inr e ↦ inl (sym (other e.1) ∙ h)
]
  where
    within : place ≡ field → field < length x.words
    within e = let l = slice_get_within (slice_set x.words field value) place word h in omega (arith, l, e, length-set x.words field value)

    value_is : place ≡ field → word ≡ value
    value_is e =
        let put : slice_get (slice_set x.words field value) place ≡ cond (place == field) (Some value) (slice_get x.words place) =
        set_then_get x.words field value place (within e) in
        elim (eqb_tells place field)
        [ inl t ↦ (let f : Some word ≡ Some value = sym h ∙ put ∙ ap (λ (b : Bool). cond b (Some value) (slice_get x.words place)) t.0 in cc) | inr t ↦ absurd (t.1 e) ]

    other : place ≢ field → slice_get (slice_set x.words field value) place ≡ slice_get x.words place
    other ne = unchanged x.words field value place ne
      where
        unchanged : (xs : List ℕ) (i : ℕ) (v : ℕ) (j : ℕ) → j ≢ i → slice_get (slice_set xs i v) j ≡ slice_get xs j
        unchanged [] i v j n = refl
        unchanged (y ∷ ys) zero v zero n = absurd (n refl)
        unchanged (y ∷ ys) zero v (suc j) n = refl
        unchanged (y ∷ ys) (suc i) v zero n = refl
        unchanged (y ∷ ys) (suc i) v (suc j) n = unchanged ys i v j (λ e. n (ap suc e))

-- a change to a word of the right kind leaves the heap typed
pub change_keeps_typed :
    (shape : ShapeLists) (heap : Heap) (obj field value : ℕ)
    → fits_cell shape heap obj field value ≡ true
    → IsTypedHeap shape heap
    → IsTypedHeap shape (with_word heap obj field value)
change_keeps_typed shape heap obj field value fits t =
    let later = with_word heap obj field value in
    let kept = change_keeps_classes heap obj field value in
    record {
      shared = kept.kept SHARED_OBJECT 0 t.shared;
      declared = λ o c e. t.declared o c (sym (word_set_keeps_class heap obj field value o) ∙ e);
      lengths = λ o x e. elim (eqb_tells o obj) [
        | inl same ↦ lengths_here o x (heap o) refl (sym (rw same.0 refl) ∙ e)
        | inr other ↦ t.lengths o x (sym (word_set_elsewhere heap obj field value o other.1) ∙ e)
      ];
      kinds = λ o place word e. subst (λ (kind : Option Kind). has_kind_if_any later kind word ≡ true) (sym (with_word_keeps_kind shape heap obj field value o place))
          (kept_has_kind_if_any heap later kept (kind_of_field shape (heap o) place) word (elim (eqb_tells o obj) [
            | inl same ↦ (elim (old_word_or_set (heap o) field value place word (subst (λ (y : Option Object). word_of y place ≡ Some word) (rw same.0 refl) e)) [
              | inl old ↦ t.kinds o place word old
              | inr new ↦ rw (same.1, new.0, new.1) fits
            ])
            | inr other ↦ t.kinds o place word (subst (λ (y : Option Object). word_of y place ≡ Some word) (word_set_elsewhere heap obj field value o other.1) e)
          ]));
    }
  where
    lengths_here :
        (o : ℕ) (x : Object) (y : Option Object)
        → heap o ≡ y
        → option_map (set_word field value) y ≡ Some x
        → length x.words ≡ length (kinds_of shape x.class)
    lengths_here o x None is e = cc
    lengths_here o x (Some y) is e = let f : set_word field value y ≡ x =
        cc in subst (λ (z : Object). length z.words ≡ length (kinds_of shape z.class)) f (length-set y.words field value ∙ t.lengths o y is)
