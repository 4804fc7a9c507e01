-- One legal event more: each object stays, with its class and as many words
use Rattle.std.proofs.Common.{◌≡◌, ℕ, true, false, inl, inr, Some, None, refl, sym, ◌∙◌, ap}
use Rattle.std.specs.Option.{option_map}
use Rattle.std.proofs.lemmas.List.{length-set}
use Rattle.std.proofs.lemmas.Bool.Decides.{eqb_tells}
use Rattle.st_events.specs.declared.events.Event.{Event}
use Rattle.st_events.specs.declared.events.Event.TheVariants.{New, Load, Store, Cas, Launch, Retire}
use Rattle.st_events.specs.declared.limits.Sizes.{Sizes}
use Rattle.st_events.specs.Heap.{Heap, Object, with_object, with_word, set_word, fresh}
use Rattle.st_events.specs.Legal.{IsLegalNext}
use Rattle.st_events.specs.Shape.{ShapeLists}
use Rattle.st_events.specs.Sound.{Extends, IsSoundWorld}
use Rattle.st_events.specs.World.{World, next}
use Rattle.st_events.proofs.LegalEvents.{legal_new}
use Rattle.st_events.proofs.SoundHeap.{next_is_absent, object_put_elsewhere, word_set_elsewhere}

-- a heap extends itself
same_extends : (h : Heap) → Extends h h
same_extends h = record { object = λ obj x e. (x, e, refl, refl) }

-- a new object stands where none stood
new_extends : (heap : Heap) (obj : ℕ) (x : Object) → heap obj ≡ None → Extends heap (with_object heap obj x)
new_extends heap obj x absent = record {
  object = λ o y e. elim (eqb_tells o obj) [
    | inl s ↦ (let f : Some y ≡ None = sym e ∙ ap heap s.1 ∙ absent in cc)
    | inr s ↦ (y, object_put_elsewhere heap obj x o s.1 ∙ e, refl, refl)
  ];
}

-- a changed word is a word
change_extends : (heap : Heap) (obj field value : ℕ) → Extends heap (with_word heap obj field value)
change_extends heap obj field value = record {
  object = λ o y e. elim (eqb_tells o obj) [
    | inl s ↦ (set_word field value y, rw s.0 (ap (option_map (set_word field value)) e), refl, length-set y.words field value)
    | inr s ↦ (y, word_set_elsewhere heap obj field value o s.1 ∙ e, refl, refl)
  ];
}

-- the heap after a legal event extends the heap before it
pub next_extends :
    (shape : ShapeLists) (sizes : Sizes) (w : World) (e : Event)
    → IsSoundWorld shape sizes w
    → IsLegalNext shape sizes w e
    → Extends w.heap (next shape sizes w e).heap
next_extends shape sizes w (New m obj class) s l =
    new_extends w.heap obj (fresh shape class) (next_is_absent shape sizes w m obj class s.regions (legal_new shape sizes w m obj class l))
next_extends shape sizes w (Load m obj field value) s l = same_extends w.heap
next_extends shape sizes w (Store m obj field value) s l = change_extends w.heap obj field value
next_extends shape sizes w (Cas m obj field expect value true) s l = change_extends w.heap obj field value
next_extends shape sizes w (Cas m obj field expect value false) s l = same_extends w.heap
next_extends shape sizes w (Launch m site number args) s l = same_extends w.heap
next_extends shape sizes w (Retire m number) s l = same_extends w.heap
