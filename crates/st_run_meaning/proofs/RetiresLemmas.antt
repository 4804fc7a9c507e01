-- What it makes of a world that checks are retired, one after another
use Rattle.std.proofs.Common.{◌≡◌, ◌≢◌, ℕ, ◌<◌, ◌≤◌, ◌==◌, ◌||◌, ◌⊎◌, cond, not, Bool, true, false, inl, inr, List, [], ◌∷◌, ◌++◌, length}
use Rattle.std.proofs.Common.{refl, sym, ◌∙◌, ap, subst, arith}
use Rattle.st_events.specs.declared.events.Event.{Event}
use Rattle.st_events.specs.declared.events.Event.TheVariants.{Retire}
use Rattle.st_events.specs.declared.limits.Sizes.{Sizes}
use Rattle.st_events.specs.Sound.{IsRising}
use Rattle.st_events.specs.Terms.{ShapeLists, World, Row, is_among, without, next, world_from, world_after, IsLegal, IsLegalFrom}
use Rattle.st_events.specs.World.{released}
use Rattle.st_events.proofs.AmongLemmas.{or_cases, or_first, or_second, same_number, same_numbers, among_without, without_is_among, passing_are_no_more}
use Rattle.st_events.proofs.LegalEvents.{retire_is_legal}
use Rattle.st_events.proofs.LegalLemmas.{joined_is_legal}
use Rattle.st_events.proofs.WorldLemmas.{world_after_joined}
use Rattle.st_run_meaning.specs.Steps.{retires}

-- the numbers that are left once these are taken out
abbrev pub removed : List ℕ → List ℕ → List ℕ
removed [] ks = ks
removed (n ∷ ns) ks = removed ns (without n ks)

-- the rows once these checks are retired
abbrev pub all_released : List ℕ → List Row → List Row
all_released [] rows = rows
all_released (n ∷ ns) rows = all_released ns (released n rows)

-- only active checks and kept rows change
abbrev pub with_retired : World → List ℕ → World
with_retired w ns = record w { active = removed ns w.active; kept = all_released ns w.kept }

world_from_retires : (shape : ShapeLists) (sizes : Sizes) (w : World) (m : ℕ) (ns : List ℕ) → world_from shape sizes w (retires m ns) ≡ with_retired w ns
world_from_retires shape sizes w m [] = refl
world_from_retires shape sizes w m (n ∷ ns) = world_from_retires shape sizes (next shape sizes w (Retire m n)) m ns

-- after the Retires of some checks these are active no more and their rows are released; nothing else has changed
pub world_after_retires :
    (shape : ShapeLists) (sizes : Sizes) (es : List Event) (m : ℕ) (ns : List ℕ)
    → world_after shape sizes (es ++ retires m ns) ≡ with_retired (world_after shape sizes es) ns
world_after_retires shape sizes es m ns =
    world_after_joined shape sizes es (retires m ns) ∙ world_from_retires shape sizes (world_after shape sizes es) m ns

-- active checks can be retired in order
retires_are_legal_from :
    (shape : ShapeLists) (sizes : Sizes) (w : World) (m : ℕ) (ns : List ℕ)
    → m ≤ sizes.mutators
    → IsRising ns
    → ((k : ℕ) → is_among ns k ≡ true → is_among w.active k ≡ true)
    → IsLegalFrom shape sizes w (retires m ns)
retires_are_legal_from shape sizes w m [] few rising active = tt
retires_are_legal_from shape sizes w m (n ∷ ns) few rising active = (
  retire_is_legal shape sizes w m n (record { thread = few; active = active n (or_first (n == n) (is_among ns n) (same_number n)) }),
  retires_are_legal_from shape sizes (next shape sizes w (Retire m n)) m ns few rising.1 (λ k h.
      without_is_among n w.active k (active k (or_second (n == k) (is_among ns k) h)) (λ same. let below : n < k = rising.0 k h in absurd (omega (arith, same, below)))),
)

-- active checks, each once and in order of number, may be retired one after another, by a mutator or the main thread
pub retires_are_legal :
    (shape : ShapeLists) (sizes : Sizes) (es : List Event) (m : ℕ) (ns : List ℕ)
    → IsLegal shape sizes es
    → m ≤ sizes.mutators
    → IsRising ns
    → ((k : ℕ) → is_among ns k ≡ true → is_among (world_after shape sizes es).active k ≡ true)
    → IsLegal shape sizes (es ++ retires m ns)
retires_are_legal shape sizes es m ns legal few rising active =
    joined_is_legal shape sizes es (retires m ns) legal (retires_are_legal_from shape sizes (world_after shape sizes es) m ns few rising active)

-- no more are left than there were
pub removed_are_no_more : (ns ks : List ℕ) → length (removed ns ks) ≤ length ks
removed_are_no_more [] ks = omega arith
removed_are_no_more (n ∷ ns) ks = omega (arith, removed_are_no_more ns (without n ks), passing_are_no_more (λ k. not (k == n)) ks)

-- one that was there is gone
pub without_is_less : (n : ℕ) (ks : List ℕ) → is_among ks n ≡ true → length (without n ks) < length ks
without_is_less n [] h = absurd (cc)
without_is_less n (k ∷ ks) h = by (λ there. without_is_less n ks there) (k == n) refl
  where
    less : length (without n ks) ≤ length ks
    less = passing_are_no_more (λ j. not (j == n)) ks

    by : (is_among ks n ≡ true → length (without n ks) < length ks) → (b : Bool) → (k == n) ≡ b → length (without n (k ∷ ks)) < length (k ∷ ks)
    by others true e = let gone : without n (k ∷ ks) ≡ without n ks = ap (λ (b : Bool). cond (not b) (k ∷ without n ks) (without n ks)) e in rw gone (omega (arith, less))
    by others false e =
        let stays : without n (k ∷ ks) ≡ k ∷ without n ks = ap (λ (b : Bool). cond (not b) (k ∷ without n ks) (without n ks)) e in
        let there : is_among ks n ≡ true = subst (λ (b : Bool). (b || is_among ks n) ≡ true) e h in
        rw stays (omega (arith, others there))

-- fewer are left where some of them was there
pub removed_are_fewer : (n : ℕ) (ns ks : List ℕ) → is_among ks n ≡ true → length (removed (n ∷ ns) ks) < length ks
removed_are_fewer n ns ks h = omega (arith, removed_are_no_more ns (without n ks), without_is_less n ks h)

-- none is left where all are taken out
pub all_removed : (ns ks : List ℕ) → ((k : ℕ) → is_among ks k ≡ true → is_among ns k ≡ true) → removed ns ks ≡ []
all_removed [] [] h = refl
all_removed [] (k ∷ ks) h = let none : false ≡ true = h k (or_first (k == k) (is_among ks k) (same_number k)) in cc
all_removed (n ∷ ns) ks h = all_removed ns (without n ks) (λ k there. let was = among_without n ks k there in other k was.1 (or_cases (n == k) (is_among ns k) (h k was.0)))
  where
    other : (k : ℕ) → k ≢ n → (((n == k) ≡ true) ⊎ (is_among ns k ≡ true)) → is_among ns k ≡ true
    other k differ (inl same) = absurd (differ (sym (same_numbers n k same)))
    other k differ (inr there) = there
