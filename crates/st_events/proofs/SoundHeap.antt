-- The heap of a legal journal is typed, and every object lies in its mutator's region
use Rattle.std.proofs.Common.{◌≡◌, ◌≢◌, ℕ, suc, ◌+◌, ◌*◌, ◌<◌, ◌≤◌, ◌⊎◌, inl, inr, Option, Some, None, refl, sym, ◌∙◌, subst, arith}
use Rattle.std.specs.Option.{option_map}
use Rattle.std.proofs.Math.Nat.{mul-le-mul_right}
use Rattle.std.proofs.lemmas.Bool.Decides.{eqb_tells}
use Rattle.st_events.specs.Terms.{New, Sizes, ShapeLists, Heap, Object, class_at, with_object, with_word, set_word, fresh, World, next, at, changed, LegalNew}
use Rattle.st_events.specs.Sound.{IsMade, AreRegions}
use Rattle.st_events.proofs.WorldLemmas.{at_same}

-- ---- the heap with one object more, and with one word set

-- what stands where an object was put
pub object_put_here : (heap : Heap) (obj : ℕ) (x : Object) → with_object heap obj x obj ≡ Some x
object_put_here heap obj x = elim (eqb_tells obj obj) [ inl e ↦ rw e.0 refl | inr e ↦ absurd (e.1 refl) ]

-- what stands at another number
pub object_put_elsewhere : (heap : Heap) (obj : ℕ) (x : Object) (o : ℕ) → o ≢ obj → with_object heap obj x o ≡ heap o
object_put_elsewhere heap obj x o ne = elim (eqb_tells o obj) [ inl e ↦ absurd (ne e.1) | inr e ↦ rw e.0 refl ]

-- what stands where a word was set
pub word_set_here : (heap : Heap) (obj field value : ℕ) → with_word heap obj field value obj ≡ option_map (set_word field value) (heap obj)
word_set_here heap obj field value = elim (eqb_tells obj obj) [ inl e ↦ rw e.0 refl | inr e ↦ absurd (e.1 refl) ]

-- what stands at another number than where a word was set
pub word_set_elsewhere : (heap : Heap) (obj field value o : ℕ) → o ≢ obj → with_word heap obj field value o ≡ heap o
word_set_elsewhere heap obj field value o ne = elim (eqb_tells o obj) [ inl e ↦ absurd (ne e.1) | inr e ↦ rw e.0 refl ]

-- a change keeps the class of what stands at each number
pub word_set_keeps_class : (heap : Heap) (obj field value o : ℕ) → class_at (with_word heap obj field value) o ≡ class_at heap o
word_set_keeps_class heap obj field value o = elim (eqb_tells o obj) [ inl e ↦ rw e.0 (kept (heap o)) | inr e ↦ rw e.0 refl ]
  where
    kept :
        (x : Option Object)
        → option_map (λ (y : Object). y.class) (option_map (set_word field value) x) ≡ option_map (λ (y : Object). y.class) x
    kept None = refl
    kept (Some y) = refl

-- ---- regions

-- the parts of two regions do not meet
regions_apart : (n m m' a b : ℕ) → a < n → b < n → m * n + a ≡ m' * n + b → m ≤ m'
regions_apart n m m' a b la lb e = elim (nat_le_or m m') [ inl h ↦ h | inr h ↦ absurd (omega (arith, mul-le-mul_right n h)) ]
  where
    nat_le_or : (x y : ℕ) → (x ≤ y) ⊎ (suc y ≤ x)
    nat_le_or x y = grind arith

-- the next object of a mutator was not made before
pub next_is_absent :
    (shape : ShapeLists) (sizes : Sizes) (w : World) (m obj class : ℕ)
    → AreRegions sizes w
    → LegalNew shape sizes w m obj class
    → w.heap obj ≡ None
next_is_absent shape sizes w m obj class r l = absent (w.heap obj) refl
  where
    not_made : IsMade sizes w obj → ⊥
    not_made i =
        let below : i.k < sizes.objects = omega (arith, r.room i.m, i.made) in
        let same : m * sizes.objects + w.made m ≡ i.m * sizes.objects + i.k = omega (arith, i.number, l.object) in
        let up = regions_apart sizes.objects m i.m (w.made m) i.k l.room below same in
        let down = regions_apart sizes.objects i.m m i.k (w.made m) below l.room (sym same) in
        let one : i.m ≡ m = omega (arith, up, down) in
        let made : i.k < w.made m = subst (λ (n : ℕ). i.k < w.made n) one i.made in
        let equal : w.made m ≡ i.k = let moved : m * sizes.objects + w.made m ≡ m * sizes.objects + i.k =
        subst (λ (n : ℕ). m * sizes.objects + w.made m ≡ n * sizes.objects + i.k) one same in omega (arith, moved) in
        omega (arith, made, equal)

    absent : (o : Option Object) → w.heap obj ≡ o → w.heap obj ≡ None
    absent None e = e
    absent (Some x) e = elim (r.objects obj x e) [ inl one ↦ absurd (omega (arith, one, l.object)) | inr i ↦ absurd (not_made i) ]

-- made numbers only grow
made_grows : (w : World) (m n : ℕ) → w.made n ≤ at m (w.made m + 1) w.made n
made_grows w m n = elim (eqb_tells n m) [ inl e ↦ rw e.0 (rw e.1 (omega arith)) | inr e ↦ rw e.0 (omega arith) ]

-- a New is the next object of its region
pub new_keeps_regions :
    (shape : ShapeLists) (sizes : Sizes) (w : World) (m obj class : ℕ)
    → AreRegions sizes w
    → LegalNew shape sizes w m obj class
    → AreRegions sizes (next shape sizes w (New m obj class))
new_keeps_regions shape sizes w m obj class r l = record {
  room = λ n. elim (eqb_tells n m) [ inl e ↦ rw e.0 (omega (arith, l.room)) | inr e ↦ rw e.0 (r.room n) ];
  objects = λ o x h. elim (eqb_tells o obj) [
    | inl e ↦ inr (record { m = m; k = w.made m; thread = l.thread; made = rw at_same (omega arith); number = e.1 ∙ l.object })
    | inr e ↦ elim (r.objects o x (sym (object_put_elsewhere w.heap obj (fresh shape class) o e.1) ∙ h)) [
      | inl one ↦ inl one
      | inr i ↦ inr (record { m = i.m; k = i.k; thread = i.thread; made = omega (arith, i.made, made_grows w m i.m); number = i.number })
    ]
  ];
}

-- what stands at a number after a change stood there before
before_word :
    (heap : Heap) (obj field value o : ℕ) (x : Object)
    → with_word heap obj field value o ≡ Some x
    → (y : Object) × (heap o ≡ Some y)
before_word heap obj field value o x h =
    elim (eqb_tells o obj) [ inl e ↦ some (heap o) (sym (rw e.0 refl) ∙ h) | inr e ↦ (x, sym (word_set_elsewhere heap obj field value o e.1) ∙ h) ]
  where
    some : (z : Option Object) → option_map (set_word field value) z ≡ Some x → (y : Object) × (z ≡ Some y)
    some None g = cc
    some (Some y) g = (y, refl)

-- a change makes no object
pub change_keeps_regions :
    (sizes : Sizes) (w : World) (obj field value : ℕ)
    → AreRegions sizes w
    → AreRegions sizes (changed sizes w obj field value)
change_keeps_regions sizes w obj field value r = record {
  room = r.room;
  objects = λ o x h. let was =
      before_word w.heap obj field value o x h in elim
      (r.objects o was.0 was.1) [ inl one ↦ inl one | inr i ↦ inr (record { m = i.m; k = i.k; thread = i.thread; made = i.made; number = i.number }) ];
}
