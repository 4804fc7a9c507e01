-- The charges of a run pay for its launches: two for each
use Rattle.std.proofs.Common.{◌≡◌, ℕ, zero, suc, ◌+◌, ◌*◌, ◌/◌, ◌≤◌, ◌<◌, ◌==◌, Bool, true, false, cond, ◌⊎◌, List, [], ◌∷◌, length, filter, inl, inr, arith}
use Rattle.std.proofs.lemmas.Bool.Decides.{eqb_tells}
use Rattle.std.proofs.lemmas.List.Sums.{sum_by-cons}
use Rattle.std.proofs.Math.Nat.{le-div_iff_mul-le}
use Rattle.st_events.specs.Terms.{Event, Args, New, Load, Store, Cas, Launch, Retire, Sizes, ShapeLists, World, next, first_world}
use Rattle.st_events.specs.Terms.{epoch_of, own_events, IsLegal}
use Rattle.st_events.specs.History.{is_launch, charge_of, charge_of_all}
use Rattle.st_events.specs.Legal.{IsLegalFrom}
use Rattle.st_events.proofs.CountLemmas.{epoch_counts_launches}
use Rattle.st_events.proofs.LegalEvents.{legal_launch}

-- 1 where the event launches a check for this thread, else 0
abbrev launches_for : ℕ → Event → ℕ
launches_for thread (New m obj class) = 0
launches_for thread (Load m obj field value) = 0
launches_for thread (Store m obj field value) = 0
launches_for thread (Cas m obj field expect value done) = 0
launches_for thread (Launch m site number args) = cond (m == thread) 1 0
launches_for thread (Retire m number) = 0

-- how many checks these events launch for this thread
abbrev own_launches : ℕ → List Event → ℕ
own_launches thread [] = 0
own_launches thread (e ∷ es) = launches_for thread e + own_launches thread es

-- how many of them for the threads below this number
abbrev launches_below : ℕ → List Event → ℕ
launches_below zero es = 0
launches_below (suc n) es = launches_below n es + own_launches n es

-- one event more takes no less, whether it is among them or not
at_least : (own : Bool) (e : Event) (es : List Event) → charge_of_all es ≤ charge_of_all (cond own (e ∷ es) es)
at_least true e es = omega (arith, sum_by-cons charge_of e es)
at_least false e es = omega arith

-- and a Launch takes two
launch_takes_two :
    (own : Bool) (m site number : ℕ) (args : Args) (es : List Event)
    → cond own 1 0 * 2 + charge_of_all es ≤ charge_of_all (cond own (Launch m site number args ∷ es) es)
launch_takes_two true m site number args es = omega (arith, sum_by-cons charge_of (Launch m site number args) es)
launch_takes_two false m site number args es = omega arith

-- a thread's own events take two for each launch
own_launches_are_paid : (thread : ℕ) (es : List Event) → own_launches thread es * 2 ≤ charge_of_all (own_events thread es)
own_launches_are_paid thread [] = omega arith
own_launches_are_paid thread (New m obj class ∷ es) =
    omega (arith, own_launches_are_paid thread es, at_least (m == thread) (New m obj class) (own_events thread es))
own_launches_are_paid thread (Load m obj field value ∷ es) =
    omega (arith, own_launches_are_paid thread es, at_least (m == thread) (Load m obj field value) (own_events thread es))
own_launches_are_paid thread (Store m obj field value ∷ es) =
    omega (arith, own_launches_are_paid thread es, at_least (m == thread) (Store m obj field value) (own_events thread es))
own_launches_are_paid thread (Cas m obj field expect value done ∷ es) =
    omega (arith, own_launches_are_paid thread es, at_least (m == thread) (Cas m obj field expect value done) (own_events thread es))
own_launches_are_paid thread (Launch m site number args ∷ es) =
    omega (arith, own_launches_are_paid thread es, launch_takes_two (m == thread) m site number args (own_events thread es))
own_launches_are_paid thread (Retire m number ∷ es) = omega (arith, own_launches_are_paid thread es)

-- how many checks an event launches for the threads below a number
abbrev launched_below : ℕ → Event → ℕ
launched_below zero e = 0
launched_below (suc n) e = launched_below n e + launches_for n e

-- event by event
below_one_more : (n : ℕ) (e : Event) (es : List Event) → launches_below n (e ∷ es) ≡ launched_below n e + launches_below n es
below_one_more zero e es = omega arith
below_one_more (suc n) e es = omega (arith, below_one_more n e es)

-- the launch of a thread below the number is one of them
launch_is_below : (n m site number : ℕ) (args : Args) → m < n → 1 ≤ launched_below n (Launch m site number args)
launch_is_below zero m site number args less = absurd (omega (arith, less))
launch_is_below (suc n) m site number args less = counted (eqb_tells m n) (launch_is_below n m site number args)
  where
    one : (m == n) ≡ true → 1 ≤ launched_below n (Launch m site number args) + cond (m == n) 1 0
    one h = rw h (omega arith)

    smaller : (m ≡ n → ⊥) → m < n
    smaller differ = omega (arith, less, differ)

    counted :
        (((m == n) ≡ true) × (m ≡ n)) ⊎ (((m == n) ≡ false) × (m ≡ n → ⊥))
        → (m < n → 1 ≤ launched_below n (Launch m site number args))
        → 1 ≤ launched_below n (Launch m site number args) + cond (m == n) 1 0
    counted (inl same) before = one same.0
    counted (inr other) before = omega (arith, before (smaller other.1))

-- each launch of a legal journal is one of a mutator
launches_are_below :
    (shape : ShapeLists) (sizes : Sizes) (w : World) (es : List Event)
    → IsLegalFrom shape sizes w es
    → length (filter is_launch es) ≤ launches_below sizes.mutators es
launches_are_below shape sizes w [] legal = omega arith
launches_are_below shape sizes w (New m obj class ∷ es) legal =
    omega (arith, launches_are_below shape sizes (next shape sizes w (New m obj class)) es legal.1, below_one_more sizes.mutators (New m obj class) es)
launches_are_below shape sizes w (Load m obj field value ∷ es) legal =
    omega (arith, launches_are_below shape sizes (next shape sizes w (Load m obj field value)) es legal.1, below_one_more sizes.mutators (Load m obj field value) es)
launches_are_below shape sizes w (Store m obj field value ∷ es) legal =
    omega (arith, launches_are_below shape sizes (next shape sizes w (Store m obj field value)) es legal.1, below_one_more sizes.mutators (Store m obj field value) es)
launches_are_below shape sizes w (Cas m obj field expect value done ∷ es) legal =
    omega (
      arith,
      launches_are_below shape sizes (next shape sizes w (Cas m obj field expect value done)) es legal.1,
      below_one_more sizes.mutators (Cas m obj field expect value done) es,
    )
launches_are_below shape sizes w (Launch m site number args ∷ es) legal =
    omega (
      arith,
      launches_are_below shape sizes (next shape sizes w (Launch m site number args)) es legal.1,
      below_one_more sizes.mutators (Launch m site number args) es,
      launch_is_below sizes.mutators m site number args (legal_launch shape sizes w m number site args legal.0).thread,
    )
launches_are_below shape sizes w (Retire m number ∷ es) legal =
    omega (arith, launches_are_below shape sizes (next shape sizes w (Retire m number)) es legal.1, below_one_more sizes.mutators (Retire m number) es)

-- where each thread below a number launches at most so many, all of them launch at most that many times the number
few_in_all : (n most : ℕ) (es : List Event) → ((m : ℕ) → m < n → own_launches m es ≤ most) → launches_below n es ≤ n * most
few_in_all zero most es few = omega arith
few_in_all (suc n) most es few = omega (arith, few_in_all n most es (λ m less. few m (omega (arith, less))), few n (omega arith))

-- where no mutator's own events take more than its charge, the launches of a legal journal are at most as many as all charges pay for, two for each
pub charges_pay_for_launches :
    (shape : ShapeLists) (sizes : Sizes) (es : List Event)
    → IsLegal shape sizes es
    → ((m : ℕ) → m < sizes.mutators → charge_of_all (own_events m es) ≤ sizes.events)
    → epoch_of shape sizes es ≤ sizes.mutators * (sizes.events / 2)
unfolding IsLegal
charges_pay_for_launches shape sizes es legal within =
    omega (arith, epoch_counts_launches shape sizes es, launches_are_below shape sizes (first_world shape) es legal, all)
  where
    each : (m : ℕ) → m < sizes.mutators → own_launches m es ≤ sizes.events / 2
    each m less = (le-div_iff_mul-le {k = 2} {x = own_launches m es} {y = sizes.events} (omega arith)).1 (omega (arith, own_launches_are_paid m es, within m less))

    all : launches_below sizes.mutators es ≤ sizes.mutators * (sizes.events / 2)
    all = few_in_all sizes.mutators (sizes.events / 2) es each
