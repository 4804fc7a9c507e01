-- The world after a journal: the empty one, one more event, a part
use Rattle.std.proofs.Common.{◌≡◌, ◌≢◌, ℕ, List, [], ◌∷◌, ◌++◌, refl, inl, inr}
use Rattle.std.proofs.lemmas.Bool.Decides.{eqb_tells}
use Rattle.st_events.specs.Terms.{Event, Sizes, ShapeLists, World, next, world_from, world_after, first_world, at}

-- before the first event
pub world_after_none : (shape : ShapeLists) (sizes : Sizes) → world_after shape sizes [] ≡ first_world shape
world_after_none shape sizes = refl

-- two journals, one after the other
pub world_from_joined :
    (shape : ShapeLists) (sizes : Sizes) (w : World) (es fs : List Event)
    → world_from shape sizes w (es ++ fs) ≡ world_from shape sizes (world_from shape sizes w es) fs
world_from_joined shape sizes w [] fs = refl
world_from_joined shape sizes w (e ∷ es) fs = world_from_joined shape sizes (next shape sizes w e) es fs

-- the same from the first world
pub world_after_joined :
    (shape : ShapeLists) (sizes : Sizes) (es fs : List Event)
    → world_after shape sizes (es ++ fs) ≡ world_from shape sizes (world_after shape sizes es) fs
world_after_joined shape sizes es fs = world_from_joined shape sizes (first_world shape) es fs

-- one more event
pub world_after_one_more :
    (shape : ShapeLists) (sizes : Sizes) (es : List Event) (e : Event)
    → world_after shape sizes (es ++ e ∷ []) ≡ next shape sizes (world_after shape sizes es) e
world_after_one_more shape sizes es e = world_after_joined shape sizes es (e ∷ [])

-- a function but for one argument
pub at_same : {A : Type 0} (k : ℕ) (x : A) (f : ℕ → A) → at k x f k ≡ x
at_same k x f = elim (eqb_tells k k) [ inl e ↦ rw e.0 refl | inr e ↦ absurd (e.1 refl) ]

-- the function at another argument
pub at_other : {A : Type 0} (k : ℕ) (x : A) (f : ℕ → A) (n : ℕ) → n ≢ k → at k x f n ≡ f n
at_other k x f n ne = elim (eqb_tells n k) [ inl e ↦ absurd (ne e.1) | inr e ↦ rw e.0 refl ]
