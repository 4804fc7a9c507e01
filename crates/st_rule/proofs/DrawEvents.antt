-- One event more, drawn by who holds its object: it is legal, leaves all other objects, and what the object's words show.
use Rattle.std.proofs.Common.{◌≡◌, ◌≢◌, ℕ, zero, suc, ◌+◌, ◌<◌, ◌==◌, cond, true, false, List, []}
use Rattle.std.proofs.Common.{◌∷◌, length, map}
use Rattle.std.proofs.Common.{Option, Some, None, slice_get, sym, refl, ap, subst, ◌∙◌, arith, eq-eqb, ne_eqb}
use Rattle.std.specs.Prelude.{IsSome, unwrap_or, slice_set}
use Rattle.std.specs.Option.{option_map}
use Rattle.std.proofs.lemmas.Option.{slice_get_within, slice_get-get_or}
use mathlib.Core.Logic.{dite}
use native.Mathlib.Decide.{ℕ_discrete}
use Rattle.st_events.specs.declared.events.Event.{Event}
use Rattle.st_events.specs.declared.events.Event.TheVariants.{New, Load, Store, Cas, Launch, Retire}
use Rattle.st_events.specs.declared.limits.Sizes.{Sizes}
use Rattle.st_events.specs.declared.shapes.Kind.{Kind}
use Rattle.st_events.specs.Heap.{Heap, Object, word_of, word_at, class_at, with_object, with_word, set_word, fresh}
use Rattle.st_events.specs.History.{is_own}
use Rattle.st_events.specs.Legal.{fits_cell, kind_of_field, has_kind_if_any}
use Rattle.st_events.specs.Shape.{ShapeLists, kinds_of}
use Rattle.st_events.specs.Sound.{Extends}
use Rattle.st_events.specs.World.{World, next, changed}
use Rattle.st_events.proofs.HeapLemmas.{set_then_get}
use Rattle.st_events.proofs.SoundHeap.{object_put_here, object_put_elsewhere, word_set_here, word_set_elsewhere}
use Rattle.st_events.proofs.SoundTypes.{KeepsClasses, kept_has_kind_if_any}
use Rattle.st_rule.specs.declared.views.Flight.{Flight}
use Rattle.st_rule.specs.declared.views.Held.{Held}
use Rattle.st_rule.specs.declared.views.MutView.{MutView}
use Rattle.st_rule.specs.Draws.{Suits}
use Rattle.st_rule.specs.Holding.{shown_field, sets_field, word_or_zero}
use Rattle.st_rule.proofs.ViewLemmas.{at_else}
use Rattle.st_rule.proofs.ObjectLemmas.{LeavesElsewhere}

-- ---- whose event it is

same_is : (m n : ℕ) → m ≡ n → (m == n) ≡ true
same_is m n e = eq-eqb m n e

other_is : (m n k : ℕ) → m ≡ n → k ≢ n → (m == k) ≡ false
other_is m n k e other = ne_eqb m k (λ s. other (sym s ∙ e))

-- the event is an own one of the seat, and of no other number
pub suits_own : (v : MutView) (h : Held) (e : Event) → Suits v h e → is_own v.gate.number e ≡ true
suits_own v h (New m obj class) s = same_is m v.gate.number s.0
suits_own v h (Load m obj field value) s = same_is m v.gate.number s.0
suits_own v h (Store m obj field value) s = same_is m v.gate.number s.0
suits_own v h (Cas m obj field expect value done) s = same_is m v.gate.number s.0
suits_own v h (Launch m site number args) s = absurd s
suits_own v h (Retire m number) s = absurd s

-- an event that suits a seat is of no other number
pub suits_other : (v : MutView) (h : Held) (e : Event) → Suits v h e → (k : ℕ) → k ≢ v.gate.number → is_own k e ≡ false
suits_other v h (New m obj class) s k other = other_is m v.gate.number k s.0 other
suits_other v h (Load m obj field value) s k other = other_is m v.gate.number k s.0 other
suits_other v h (Store m obj field value) s k other = other_is m v.gate.number k s.0 other
suits_other v h (Cas m obj field expect value done) s k other = other_is m v.gate.number k s.0 other
suits_other v h (Launch m site number args) s k other = absurd s
suits_other v h (Retire m number) s k other = absurd s

-- ---- cells of a later heap

cell_in : (x y : Object) (f : ℕ) → length y.words ≡ length x.words → IsSome (slice_get x.words f) → IsSome (slice_get y.words f)
cell_in x y f same some = within (slice_get x.words f) refl some
  where
    within : (o : Option ℕ) → slice_get x.words f ≡ o → IsSome o → IsSome (slice_get y.words f)
    within None e i = absurd cc
    within (Some word) e i =
        let lt : f < length x.words = slice_get_within x.words f word e in
        let lt' : f < length y.words = omega (arith, lt, same) in
        subst (λ (o : Option ℕ). IsSome o) (sym (slice_get-get_or y.words f 0 lt')) refl

-- a cell of an earlier heap is one of the later
pub cell_stays : (earlier later : Heap) (o f : ℕ) → Extends earlier later → IsSome (word_at earlier o f) → IsSome (word_at later o f)
cell_stays earlier later o f extends some = there (earlier o) refl some
  where
    there : (z : Option Object) → earlier o ≡ z → IsSome (word_of z f) → IsSome (word_at later o f)
    there None e i = absurd cc
    there (Some x) e i = let y = extends.object o x e in subst (λ (z : Option Object). IsSome (word_of z f)) (sym y.1) (cell_in x y.0 f y.3 i)

classes_stay : (earlier later : Heap) → Extends earlier later → KeepsClasses earlier later
classes_stay earlier later extends = record { kept = λ obj class e. there obj class (earlier obj) refl e }
  where
    there : (obj class : ℕ) (z : Option Object) → earlier obj ≡ z → option_map (λ (x : Object). x.class) z ≡ Some class → class_at later obj ≡ Some class
    there obj class None e i = absurd cc
    there obj class (Some x) e i = let y = extends.object obj x e in ap (option_map (λ (z : Object). z.class)) y.1 ∙ ap Some y.2 ∙ i

-- a value of the kind of a cell stays one
pub kind_stays : (shape : ShapeLists) (earlier later : Heap) (o f word : ℕ) → Extends earlier later → fits_cell shape earlier o f word ≡ true → fits_cell shape later o f word ≡ true
kind_stays shape earlier later o f word extends fits = there (earlier o) refl (kept_has_kind_if_any earlier later (classes_stay earlier later extends) (kind_of_field shape (earlier o) f) word fits)
  where
    there : (z : Option Object) → earlier o ≡ z → has_kind_if_any later (kind_of_field shape (earlier o) f) word ≡ true → fits_cell shape later o f word ≡ true
    there None e i = absurd (let n : false ≡ true = subst (λ (z : Option Object). has_kind_if_any later (kind_of_field shape z f) word ≡ true) e i in cc)
    there (Some x) e i =
        let y = extends.object o x e in
        subst (λ (z : Option Object). has_kind_if_any later (kind_of_field shape z f) word ≡ true) (sym y.1)
        (subst (λ (c : ℕ). has_kind_if_any later (slice_get (kinds_of shape c) f) word ≡ true) (sym y.2)
        (subst (λ (z : Option Object). has_kind_if_any later (kind_of_field shape z f) word ≡ true) e i))

-- a cell's word is what is shown where nothing is in flight
pub cell_word : (heap : Heap) (o f word : ℕ) → IsSome (word_at heap o f) → word_or_zero heap o f ≡ word → word_at heap o f ≡ Some word
cell_word heap o f word some is = there (word_at heap o f) refl some
  where
    there : (z : Option ℕ) → word_at heap o f ≡ z → IsSome z → word_at heap o f ≡ Some word
    there None e i = absurd cc
    there (Some x) e i = e ∙ ap Some (sym (ap (λ z. unwrap_or z 0) e) ∙ is)

-- ---- a change

-- a change of one field leaves the heap and the stamps at every other object
pub change_leaves : (sizes : Sizes) (w : World) (n o f value : ℕ) → LeavesElsewhere w (changed sizes w o f value) n o
change_leaves sizes w n o f value = record {
  heap = λ i ne. word_set_elsewhere w.heap o f value i ne;
  stamp = λ i ne. at_else o w.epoch w.stamp i ne;
  epoch = refl;
  made = λ k ne. refl;
  none = λ i e. dite (ℕ_discrete i o)
      (λ here. was_none (w.heap i) (sym (ap (λ k. option_map (set_word f value) (w.heap k)) (sym here))
      ∙ sym (word_set_here w.heap o f value) ∙ ap (with_word w.heap o f value) (sym here) ∙ e))
      (λ other. sym (word_set_elsewhere w.heap o f value i other) ∙ e);
}
  where
    was_none : (z : Option Object) → option_map (set_word f value) z ≡ None → z ≡ None
    was_none None e = refl
    was_none (Some x) e = absurd cc

set_words : (z : Option Object) (f value g : ℕ) → IsSome (word_of z f) → word_of (option_map (set_word f value) z) g ≡ cond (g == f) (Some value) (word_of z g)
set_words None f value g some = absurd cc
set_words (Some x) f value g some = within (slice_get x.words f) refl some
  where
    within : (o : Option ℕ) → slice_get x.words f ≡ o → IsSome o → slice_get (slice_set x.words f value) g ≡ cond (g == f) (Some value) (slice_get x.words g)
    within None e i = absurd cc
    within (Some word) e i = set_then_get x.words f value g (slice_get_within x.words f word e)

-- what the cell's object has after a change of one cell
pub change_words : (heap : Heap) (o f value g : ℕ) → IsSome (word_at heap o f) → word_at (with_word heap o f value) o g ≡ cond (g == f) (Some value) (word_at heap o g)
change_words heap o f value g some = ap (λ z. word_of z g) (word_set_here heap o f value) ∙ set_words (heap o) f value g some

-- after a change of a field that is there the heap has the new word
pub change_lands : (heap : Heap) (o f value : ℕ) → IsSome (word_at heap o f) → word_at (with_word heap o f value) o f ≡ Some value
change_lands heap o f value some = change_words heap o f value f some ∙ ap (λ b. cond b (Some value) (word_at heap o f)) (eq-eqb f f refl)

-- and the object is still there
pub change_there : (heap : Heap) (o f value : ℕ) → IsSome (word_at heap o f) → IsSome (with_word heap o f value o)
change_there heap o f value some = subst (λ (z : Option Object). IsSome z) (sym (word_set_here heap o f value)) (there (heap o) some)
  where
    there : (z : Option Object) → IsSome (word_of z f) → IsSome (option_map (set_word f value) z)
    there None i = absurd cc
    there (Some x) i = refl

-- a field shows its old word while the change of it is not written, and each other field its own
pub change_shows :
    (heap : Heap) (o f value : ℕ) (x : Flight) → IsSome (word_at heap o f)
    → x.written ≡ false → x.old ≡ word_or_zero heap o f → ((g : ℕ) → sets_field x.event g ≡ (f == g))
    → (g : ℕ) → word_or_zero heap o g ≡ shown_field (Some x) g (word_or_zero (with_word heap o f value) o g)
change_shows heap o f value x some unwritten old sets g = dite (ℕ_discrete g f)
    (λ here. ap (word_or_zero heap o) here ∙ sym old ∙ sym (rw (sets g ∙ eq-eqb f g (sym here), unwritten) refl))
    (λ other.
    let same : word_at (with_word heap o f value) o g ≡ word_at heap o g = change_words heap o f value g some ∙ ap (λ b. cond b (Some value) (word_at heap o g)) (ne_eqb g f other) in
    sym (ap (λ z. unwrap_or z 0) same) ∙ sym (rw (sets g ∙ ne_eqb f g (λ e. other (sym e))) refl))

-- ---- a New

-- a New leaves the heap and the stamps at every other object
pub new_leaves : (shape : ShapeLists) (sizes : Sizes) (w : World) (n o class : ℕ) → LeavesElsewhere w (next shape sizes w (New n o class)) n o
new_leaves shape sizes w n o class = record {
  heap = λ i ne. object_put_elsewhere w.heap o (fresh shape class) i ne;
  stamp = λ i ne. at_else o w.epoch w.stamp i ne;
  epoch = refl;
  made = λ k ne. at_else n (w.made n + 1) w.made k ne;
  none = λ i e. dite (ℕ_discrete i o)
      (λ here. absurd (let f : Some (fresh shape class) ≡ None = sym (object_put_here w.heap o (fresh shape class)) ∙ ap (with_object w.heap o (fresh shape class)) (sym here) ∙ e in cc))
      (λ other. sym (object_put_elsewhere w.heap o (fresh shape class) i other) ∙ e);
}

abbrev zeros : List Kind → List ℕ
zeros kinds = map (λ _. 0) kinds

zero_words : (kinds : List Kind) (f : ℕ) → unwrap_or (slice_get (zeros kinds) f) 0 ≡ 0
zero_words [] f = refl
zero_words (k ∷ ks) zero = refl
zero_words (k ∷ ks) (suc f) = zero_words ks f

-- a new object has the words that an unmade one shows
pub new_words : (shape : ShapeLists) (heap : Heap) (o class f : ℕ) → heap o ≡ None → word_or_zero heap o f ≡ word_or_zero (with_object heap o (fresh shape class)) o f
new_words shape heap o class f none =
    ap (λ z. unwrap_or (word_of z f) 0) none
    ∙ sym (zero_words (kinds_of shape class) f)
    ∙ ap (λ z. unwrap_or (word_of z f) 0) (sym (object_put_here heap o (fresh shape class)))
