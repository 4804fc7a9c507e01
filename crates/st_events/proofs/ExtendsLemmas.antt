-- What stays in every legal extension of a legal journal
use Rattle.std.proofs.Common.{◌≡◌, ℕ, cond, Bool, true, false, inl, inr, List, [], ◌∷◌, ◌++◌, map, Some, None, refl, sym, ◌∙◌, ap, subst, arith}
use Rattle.std.specs.Option.{option_map}
use Rattle.std.proofs.lemmas.List.{length-set}
use Rattle.std.proofs.lemmas.Bool.Decides.{eqb_tells}
use Rattle.st_events.specs.Terms.{Event, New, Load, Store, Cas, Launch, Retire, Sizes, ShapeLists, IsWithinLimits, Heap, Object, with_object, with_word}
use Rattle.st_events.specs.Terms.{set_word, fresh, World, Launched, next, world_from, world_after, is_lost, needing_in, IsLegal, IsLegalNext, IsLegalFrom}
use Rattle.st_events.specs.World.{is_full, lost_at_change}
use Rattle.st_events.specs.Sound.{Extends, IsSoundWorld}
use Rattle.st_events.proofs.WorldLemmas.{at_other, world_after_joined}
use Rattle.st_events.proofs.LegalLemmas.{prefix_is_legal, rest_is_legal}
use Rattle.st_events.proofs.LegalEvents.{legal_new, legal_launch}
use Rattle.st_events.proofs.SoundHeap.{next_is_absent, object_put_elsewhere, word_set_elsewhere}
use Rattle.st_events.proofs.SoundLemmas.{next_is_sound, legal_is_sound}
use Rattle.st_events.proofs.KeptLemmas.{lost_in_front}

-- ---- heaps

extends_itself : (h : Heap) → Extends h h
extends_itself h = record { object = λ obj x e. (x, e, refl, refl) }

extends_further : (f g h : Heap) → Extends f g → Extends g h → Extends f h
extends_further f g h a b = record { object = λ obj x e. let y = a.object obj x e in let z = b.object obj y.0 y.1 in (z.0, z.1, z.2 ∙ y.2, z.3 ∙ y.3) }

new_extends : (heap : Heap) (obj : ℕ) (x : Object) → heap obj ≡ None → Extends heap (with_object heap obj x)
new_extends heap obj x absent = record {
  object = λ o y e. elim (eqb_tells o obj) [
    | inl s ↦ (let f : Some y ≡ None = sym e ∙ ap heap s.1 ∙ absent in cc)
    | inr s ↦ (y, object_put_elsewhere heap obj x o s.1 ∙ e, refl, refl)
  ];
}

change_extends : (heap : Heap) (obj field value : ℕ) → Extends heap (with_word heap obj field value)
change_extends heap obj field value = record {
  object = λ o y e. elim (eqb_tells o obj) [
    | inl s ↦ (set_word field value y, rw s.0 (ap (option_map (set_word field value)) e), refl, length-set y.words field value)
    | inr s ↦ (y, word_set_elsewhere heap obj field value o s.1 ∙ e, refl, refl)
  ];
}

-- the heap after a legal event extends the heap before it
pub next_extends :
    (shape : ShapeLists) (sizes : Sizes) (w : World) (e : Event)
    → IsSoundWorld shape sizes w
    → IsLegalNext shape sizes w e
    → Extends w.heap (next shape sizes w e).heap
next_extends shape sizes w (New m obj class) s l =
    new_extends w.heap obj (fresh shape class) (next_is_absent shape sizes w m obj class s.regions (legal_new shape sizes w m obj class l))
next_extends shape sizes w (Load m obj field value) s l = extends_itself w.heap
next_extends shape sizes w (Store m obj field value) s l = change_extends w.heap obj field value
next_extends shape sizes w (Cas m obj field expect value true) s l = change_extends w.heap obj field value
next_extends shape sizes w (Cas m obj field expect value false) s l = extends_itself w.heap
next_extends shape sizes w (Launch m site number args) s l = extends_itself w.heap
next_extends shape sizes w (Retire m number) s l = extends_itself w.heap

events_extend :
    (shape : ShapeLists) (sizes : Sizes) (w : World) (es : List Event)
    → IsSoundWorld shape sizes w
    → IsLegalFrom shape sizes w es
    → Extends w.heap (world_from shape sizes w es).heap
events_extend shape sizes w [] s l = extends_itself w.heap
events_extend shape sizes w (e ∷ es) s l =
    extends_further w.heap (next shape sizes w e).heap (world_from shape sizes (next shape sizes w e) es).heap (next_extends shape sizes w e s l.0)
    (events_extend shape sizes (next shape sizes w e) es (next_is_sound shape sizes w e s l.0) l.1)

-- a cell stays in every legal extension, in an object of the same class
pub heap_extends :
    (shape : ShapeLists) (sizes : Sizes)
    → IsWithinLimits shape
    → (es fs : List Event)
    → IsLegal shape sizes (es ++ fs)
    → Extends (world_after shape sizes es).heap (world_after shape sizes (es ++ fs)).heap
heap_extends shape sizes limits es fs l =
    subst (λ (w : World). Extends (world_after shape sizes es).heap w.heap) (sym (world_after_joined shape sizes es fs))
    (events_extend shape sizes (world_after shape sizes es) fs (legal_is_sound shape sizes limits es (prefix_is_legal shape sizes es fs l)) (rest_is_legal shape sizes es fs l))

-- ---- launches

-- what is known of a launch stays at a legal event
pub next_keeps_launch :
    (shape : ShapeLists) (sizes : Sizes) (w : World) (e : Event) (n : ℕ) (x : Launched)
    → IsSoundWorld shape sizes w
    → IsLegalNext shape sizes w e
    → w.launched n ≡ Some x
    → (next shape sizes w e).launched n ≡ Some x
next_keeps_launch shape sizes w (New m obj class) n x s l h = h
next_keeps_launch shape sizes w (Load m obj field value) n x s l h = h
next_keeps_launch shape sizes w (Store m obj field value) n x s l h = h
next_keeps_launch shape sizes w (Cas m obj field expect value true) n x s l h = h
next_keeps_launch shape sizes w (Cas m obj field expect value false) n x s l h = h
next_keeps_launch shape sizes w (Launch m site number args) n x s l h =
    at_other number (Some (record { past = w.heap; thread = m; site = site; args = args })) w.launched n
    (omega (arith, (s.launches.only n x h).1, (legal_launch shape sizes w m number site args l).next_number)) ∙ h
next_keeps_launch shape sizes w (Retire m number) n x s l h = h

events_keep_launch :
    (shape : ShapeLists) (sizes : Sizes) (w : World) (es : List Event) (n : ℕ) (x : Launched)
    → IsSoundWorld shape sizes w
    → IsLegalFrom shape sizes w es
    → w.launched n ≡ Some x
    → (world_from shape sizes w es).launched n ≡ Some x
events_keep_launch shape sizes w [] n x s l h = h
events_keep_launch shape sizes w (e ∷ es) n x s l h =
    events_keep_launch shape sizes (next shape sizes w e) es n x (next_is_sound shape sizes w e s l.0) l.1 (next_keeps_launch shape sizes w e n x s l.0 h)

-- what is known of a launch stays in every legal extension
pub launch_stays :
    (shape : ShapeLists) (sizes : Sizes)
    → IsWithinLimits shape
    → (es fs : List Event) (n : ℕ) (x : Launched)
    → IsLegal shape sizes (es ++ fs)
    → (world_after shape sizes es).launched n ≡ Some x
    → (world_after shape sizes (es ++ fs)).launched n ≡ Some x
launch_stays shape sizes limits es fs n x l h =
    subst (λ (w : World). w.launched n ≡ Some x) (sym (world_after_joined shape sizes es fs))
    (events_keep_launch shape sizes (world_after shape sizes es) fs n x (legal_is_sound shape sizes limits es (prefix_is_legal shape sizes es fs l))
    (rest_is_legal shape sizes es fs l) h)

-- ---- versions lost

change_keeps_lost :
    (sizes : Sizes) (w : World) (obj : ℕ) (o n : ℕ)
    → is_lost w.lost o n ≡ true
    → is_lost (lost_at_change sizes w obj) o n ≡ true
change_keeps_lost sizes w obj o n h = stays (is_full sizes w)
  where
    stays : (b : Bool) → is_lost (cond b (w.lost ++ map (λ k. record { obj = obj; check = k }) (needing_in w obj)) w.lost) o n ≡ true
    stays true = lost_in_front w.lost (map (λ k. record { obj = obj; check = k }) (needing_in w obj)) o n h
    stays false = h

next_keeps_lost :
    (shape : ShapeLists) (sizes : Sizes) (w : World) (e : Event) (o n : ℕ)
    → is_lost w.lost o n ≡ true
    → is_lost (next shape sizes w e).lost o n ≡ true
next_keeps_lost shape sizes w (New m obj class) o n h = h
next_keeps_lost shape sizes w (Load m obj field value) o n h = h
next_keeps_lost shape sizes w (Store m obj field value) o n h = change_keeps_lost sizes w obj o n h
next_keeps_lost shape sizes w (Cas m obj field expect value true) o n h = change_keeps_lost sizes w obj o n h
next_keeps_lost shape sizes w (Cas m obj field expect value false) o n h = h
next_keeps_lost shape sizes w (Launch m site number args) o n h = h
next_keeps_lost shape sizes w (Retire m number) o n h = h

-- a lost version stays lost from any world on
pub events_keep_lost :
    (shape : ShapeLists) (sizes : Sizes) (w : World) (es : List Event) (o n : ℕ)
    → is_lost w.lost o n ≡ true
    → is_lost (world_from shape sizes w es).lost o n ≡ true
events_keep_lost shape sizes w [] o n h = h
events_keep_lost shape sizes w (e ∷ es) o n h = events_keep_lost shape sizes (next shape sizes w e) es o n (next_keeps_lost shape sizes w e o n h)

-- a lost version stays lost
pub lost_stays :
    (shape : ShapeLists) (sizes : Sizes) (es fs : List Event) (o n : ℕ)
    → is_lost (world_after shape sizes es).lost o n ≡ true
    → is_lost (world_after shape sizes (es ++ fs)).lost o n ≡ true
lost_stays shape sizes es fs o n h =
    subst (λ (w : World). is_lost w.lost o n ≡ true) (sym (world_after_joined shape sizes es fs)) (events_keep_lost shape sizes (world_after shape sizes es) fs o n h)
