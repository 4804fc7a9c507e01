-- A heap holds words where the events bring words
use Rattle.std.proofs.Common.{◌≡◌, ℕ, cond, Bool, true, false, List, [], ◌∷◌, All, Option, Some, None, refl, inl, inr, sym, ◌∙◌, ap, subst, arith}
use Rattle.std.proofs.lemmas.Bool.Decides.{eqb_tells}
use Rattle.std.proofs.lemmas.List.Elements.{All-head, All-tail}
use Rattle.st_events.specs.declared.heaps.TheConstants.{SHARED_OBJECT}
use Rattle.st_events.specs.Terms.{Args, Event, New, Load, Store, Cas, Launch, Retire, Sizes, ShapeLists, kinds_of, Heap, Object, word_of, with_object}
use Rattle.st_events.specs.Terms.{with_word, fresh, first_heap, World, Launched, next, first_world, world_from, world_after}
use Rattle.st_events.specs.Words.{IsWord, BringsWords, HoldsWords, IsLaunchOfWords}
use Rattle.st_events.proofs.WorldLemmas.{at_other}
use Rattle.st_events.proofs.SoundHeap.{object_put_here, object_put_elsewhere, word_set_elsewhere}
use Rattle.st_events.proofs.SoundTypes.{new_words_are_zero, old_word_or_set}

-- 0 is a word
zero_is_word : IsWord 0
zero_is_word = omega arith

-- a new object holds words
fresh_holds_words : (shape : ShapeLists) (class field word : ℕ) → word_of (Some (fresh shape class)) field ≡ Some word → IsWord word
fresh_holds_words shape class field word e = rw (new_words_are_zero (kinds_of shape class) field word e).2 zero_is_word

-- a heap with one object more does
new_holds_words :
    (shape : ShapeLists) (heap : Heap) (obj class : ℕ)
    → HoldsWords heap
    → HoldsWords (with_object heap obj (fresh shape class))
new_holds_words shape heap obj class h o field word e = elim (eqb_tells o obj) [
  | inl same ↦ fresh_holds_words shape class field word (subst (λ (x : Option Object). word_of x field ≡ Some word) (here same.1) e)
  | inr other ↦ h o field word (subst (λ (x : Option Object). word_of x field ≡ Some word) (object_put_elsewhere heap obj (fresh shape class) o other.1) e)
]
  where
    here : o ≡ obj → with_object heap obj (fresh shape class) o ≡ Some (fresh shape class)
    here same = rw same (object_put_here heap obj (fresh shape class))

-- a heap with one word set to a word does
changed_holds_words : (heap : Heap) (obj field value : ℕ) → IsWord value → HoldsWords heap → HoldsWords (with_word heap obj field value)
changed_holds_words heap obj field value v h o place word e = elim (eqb_tells o obj) [
  | inl same ↦ elim (old_word_or_set (heap o) field value place word (subst (λ (x : Option Object). word_of x place ≡ Some word) (rw same.0 refl) e)) [
    | inl old ↦ h o place word old
    | inr new ↦ rw new.1 v
  ]
  | inr other ↦ h o place word (subst (λ (x : Option Object). word_of x place ≡ Some word) (word_set_elsewhere heap obj field value o other.1) e)
]

-- the first heap does
first_holds_words : (shape : ShapeLists) → HoldsWords (first_heap shape)
first_holds_words shape o field word e = elim (eqb_tells o SHARED_OBJECT) [
  | inl same ↦ fresh_holds_words shape 0 field word (subst (λ (x : Option Object). word_of x field ≡ Some word) (ap (λ (b : Bool). cond b (Some (fresh shape 0)) None) same.0) e)
  | inr other ↦ absurd (none (subst (λ (x : Option Object). word_of x field ≡ Some word) (ap (λ (b : Bool). cond b (Some (fresh shape 0)) None) other.0) e))
]
  where
    none : word_of None field ≡ Some word → ⊥
    none f = cc

-- the heap holds words, and so does each launch
record IsWorldOfWords (w : World) : Type 0 where
  heap : HoldsWords w.heap
  launches : (n : ℕ) (launch : Launched) → w.launched n ≡ Some launch → IsLaunchOfWords launch

-- one more launch, of the heap as it is
launch_holds_words :
    (shape : ShapeLists) (sizes : Sizes) (w : World) (m site number : ℕ) (args : Args)
    → All IsWord args.words
    → IsWorldOfWords w
    → IsWorldOfWords (next shape sizes w (Launch m site number args))
launch_holds_words shape sizes w m site number args words h = record {
  heap = h.heap;
  launches = λ n launch e. elim (eqb_tells n number) [
    | inl same ↦ of_this launch (some launch (sym (rw same.0 refl) ∙ e))
    | inr other ↦ h.launches n launch (sym (at_other number (Some here) w.launched n other.1) ∙ e)
  ];
}
  where
    here : Launched
    here = record { past = w.heap; thread = m; site = site; args = args }

    some : (launch : Launched) → Some here ≡ Some launch → here ≡ launch
    some launch e = cc

    of_this : (launch : Launched) → here ≡ launch → IsLaunchOfWords launch
    of_this launch e = subst IsLaunchOfWords e (record { past = h.heap; args = words })

-- an event that brings words keeps it so
next_holds_words :
    (shape : ShapeLists) (sizes : Sizes) (w : World) (e : Event)
    → BringsWords e
    → IsWorldOfWords w
    → IsWorldOfWords (next shape sizes w e)
next_holds_words shape sizes w (New m obj class) b h = record { heap = new_holds_words shape w.heap obj class h.heap; launches = h.launches }
next_holds_words shape sizes w (Load m obj field value) b h = h
next_holds_words shape sizes w (Store m obj field value) b h = record { heap = changed_holds_words w.heap obj field value b h.heap; launches = h.launches }
next_holds_words shape sizes w (Cas m obj field expect value true) b h = record { heap = changed_holds_words w.heap obj field value b.1 h.heap; launches = h.launches }
next_holds_words shape sizes w (Cas m obj field expect value false) b h = h
next_holds_words shape sizes w (Launch m site number args) b h = launch_holds_words shape sizes w m site number args b h
next_holds_words shape sizes w (Retire m number) b h = record { heap = h.heap; launches = h.launches }

-- and so do many
events_hold_words :
    (shape : ShapeLists) (sizes : Sizes) (w : World) (es : List Event)
    → All BringsWords es
    → IsWorldOfWords w
    → IsWorldOfWords (world_from shape sizes w es)
events_hold_words shape sizes w [] b h = h
events_hold_words shape sizes w (e ∷ es) b h =
    events_hold_words shape sizes (next shape sizes w e) es (All-tail BringsWords e es b) (next_holds_words shape sizes w e (All-head BringsWords e es b) h)

-- after a journal whose events bring words, its heap and its launches hold words
pub journal_holds_words :
    (shape : ShapeLists) (sizes : Sizes) (es : List Event)
    → All BringsWords es
    → HoldsWords (world_after shape sizes es).heap
journal_holds_words shape sizes es b = (events_hold_words shape sizes (first_world shape) es b (record { heap = first_holds_words shape; launches = λ n launch e. cc })).heap

-- the same of each launch
pub launches_hold_words :
    (shape : ShapeLists) (sizes : Sizes) (es : List Event) (n : ℕ) (launch : Launched)
    → All BringsWords es
    → (world_after shape sizes es).launched n ≡ Some launch
    → IsLaunchOfWords launch
launches_hold_words shape sizes es n launch b e =
    (events_hold_words shape sizes (first_world shape) es b (record { heap = first_holds_words shape; launches = λ k l f. cc })).launches n launch e
