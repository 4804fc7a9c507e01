-- What the epoch and the counts of made objects count
use Rattle.std.proofs.Common.{◌≡◌, ℕ, ◌+◌, ◌==◌, cond, true, false, List, [], ◌∷◌, length, filter, refl, inl, inr, sym, ◌∙◌, arith}
use Rattle.std.proofs.lemmas.Bool.Decides.{eqb_tells}
use Rattle.st_events.specs.Terms.{Event, New, Load, Store, Cas, Launch, Retire, Sizes, ShapeLists, World, next, first_world, world_from, at}
use Rattle.st_events.specs.Terms.{epoch_of}
use Rattle.st_events.specs.History.{made_by, is_launch, is_new_of}

-- from any world on, each Launch is one more
epoch_grows :
    (shape : ShapeLists) (sizes : Sizes) (w : World) (es : List Event)
    → (world_from shape sizes w es).epoch ≡ w.epoch + length (filter is_launch es)
epoch_grows shape sizes w [] = omega arith
epoch_grows shape sizes w (New m obj class ∷ es) = epoch_grows shape sizes (next shape sizes w (New m obj class)) es
epoch_grows shape sizes w (Load m obj field value ∷ es) = epoch_grows shape sizes w es
epoch_grows shape sizes w (Store m obj field value ∷ es) = epoch_grows shape sizes (next shape sizes w (Store m obj field value)) es
epoch_grows shape sizes w (Cas m obj field expect value true ∷ es) = epoch_grows shape sizes (next shape sizes w (Cas m obj field expect value true)) es
epoch_grows shape sizes w (Cas m obj field expect value false ∷ es) = epoch_grows shape sizes w es
epoch_grows shape sizes w (Launch m site number args ∷ es) = omega (arith, epoch_grows shape sizes (next shape sizes w (Launch m site number args)) es)
epoch_grows shape sizes w (Retire m number ∷ es) = epoch_grows shape sizes (next shape sizes w (Retire m number)) es

-- the epoch is the number of Launch events
pub epoch_counts_launches : (shape : ShapeLists) (sizes : Sizes) (es : List Event) → epoch_of shape sizes es ≡ length (filter is_launch es)
epoch_counts_launches shape sizes es = omega (arith, epoch_grows shape sizes (first_world shape) es)

-- one more of a thread, where the event is a New of it
one_more :
    (made : ℕ → ℕ) (thread m : ℕ) (e : Event) (es : List Event)
    → at thread (made thread + 1) made m + length (filter (is_new_of m) es) ≡ made m + length (cond (thread == m) (e ∷ filter (is_new_of m) es) (filter (is_new_of m) es))
one_more made thread m e es = elim (eqb_tells m thread) [
  | inl s ↦ rw (s.0, s.1, same) (omega arith)
  | inr o ↦ rw (o.0, other (λ h. o.1 (sym h))) refl
]
  where
    same : (thread == thread) ≡ true
    same = elim (eqb_tells thread thread) [ inl t ↦ t.0 | inr t ↦ absurd (t.1 refl) ]

    other : (thread ≡ m → ⊥) → (thread == m) ≡ false
    other ne = elim (eqb_tells thread m) [ inl t ↦ absurd (ne t.1) | inr t ↦ t.0 ]

-- from any world on, each New of a thread is one more
made_grows :
    (shape : ShapeLists) (sizes : Sizes) (w : World) (es : List Event) (m : ℕ)
    → (world_from shape sizes w es).made m ≡ w.made m + length (filter (is_new_of m) es)
made_grows shape sizes w [] m = omega arith
made_grows shape sizes w (New thread obj class ∷ es) m =
    made_grows shape sizes (next shape sizes w (New thread obj class)) es m ∙ one_more w.made thread m (New thread obj class) es
made_grows shape sizes w (Load thread obj field value ∷ es) m = made_grows shape sizes w es m
made_grows shape sizes w (Store thread obj field value ∷ es) m = made_grows shape sizes (next shape sizes w (Store thread obj field value)) es m
made_grows shape sizes w (Cas thread obj field expect value true ∷ es) m = made_grows shape sizes (next shape sizes w (Cas thread obj field expect value true)) es m
made_grows shape sizes w (Cas thread obj field expect value false ∷ es) m = made_grows shape sizes w es m
made_grows shape sizes w (Launch thread site number args ∷ es) m = made_grows shape sizes (next shape sizes w (Launch thread site number args)) es m
made_grows shape sizes w (Retire thread number ∷ es) m = made_grows shape sizes (next shape sizes w (Retire thread number)) es m

-- a mutator has made as many objects as it has New events
pub made_counts_news :
    (shape : ShapeLists) (sizes : Sizes) (es : List Event) (m : ℕ)
    → made_by shape sizes es m ≡ length (filter (is_new_of m) es)
made_counts_news shape sizes es m = omega (arith, made_grows shape sizes (first_world shape) es m)
