-- The events that retire checks: what was launched is active or retired, and a check is retired at one ticket
use Rattle.std.proofs.Common.{◌≡◌, ℕ, ◌≤◌, ◌==◌, Bool, true, false, ◌⊎◌, inl, inr, List, [], ◌∷◌, ◌++◌, Some, refl, sym, ◌∙◌, ap, subst, arith}
use Rattle.std.proofs.lemmas.List.{append_assoc}
use Rattle.std.proofs.lemmas.Bool.Decides.{eqb_tells}
use Rattle.st_events.specs.Terms.{Event, New, Load, Store, Cas, Launch, Retire, Sizes, ShapeLists, IsWithinLimits, World, Launched, next, first_world}
use Rattle.st_events.specs.Terms.{world_from, world_after, is_among, IsLegal, IsLegalNext, IsLegalFrom, active_checks, launch_of, IsLaunchIn, IsRetireIn}
use Rattle.st_events.specs.Sound.{IsSoundWorld}
use Rattle.st_events.proofs.AmongLemmas.{among_front, among_back, among_one_more, among_without, without_is_among, or_first, same_number}
use Rattle.st_events.proofs.ExtendsLemmas.{launch_stays}
use Rattle.st_events.proofs.LaunchLemmas.{launch_is_found}
use Rattle.st_events.proofs.LegalEvents.{legal_launch, legal_retire}
use Rattle.st_events.proofs.LegalLemmas.{prefix_is_legal, rest_is_legal}
use Rattle.st_events.proofs.SoundLemmas.{first_is_sound, next_is_sound, legal_is_sound}
use Rattle.st_events.proofs.WorldLemmas.{world_after_joined, world_after_one_more}

-- ---- active or retired

-- a test that does not hold
not_true : (b : Bool) → (b ≡ true → ⊥) → b ≡ false
not_true true h = absurd (h refl)
not_true false h = refl

-- the check was retired by one of these events
abbrev IsRetired : List Event → ℕ → Type 0
IsRetired es n = (thread : ℕ) × IsRetireIn es n thread

-- an event more before them does not matter
retired_later : (e : Event) (es : List Event) (n : ℕ) → IsRetired es n → IsRetired (e ∷ es) n
retired_later e es n r = (r.0, record { before = e ∷ r.1.before; rest = r.1.rest; split = ap (λ (ds : List Event). e ∷ ds) r.1.split })

-- nor do more events
retired_behind : (before es : List Event) (n : ℕ) → IsRetired es n → IsRetired (before ++ es) n
retired_behind [] es n r = r
retired_behind (e ∷ before) es n r = retired_later e (before ++ es) n (retired_behind before es n r)

-- an active check stays active, or is retired
active_then :
    (shape : ShapeLists) (sizes : Sizes) (w : World) (es : List Event) (n : ℕ)
    → is_among w.active n ≡ true
    → (is_among (world_from shape sizes w es).active n ≡ true) ⊎ IsRetired es n
active_then shape sizes w [] n h = inl h
active_then shape sizes w (e ∷ es) n h = elim (step e) [
  | inl stays ↦ elim (active_then shape sizes (next shape sizes w e) es n stays) [ inl a ↦ inl a | inr r ↦ inr (retired_later e es n r) ]
  | inr here ↦ inr (here.0, record { before = []; rest = es; split = ap (λ (d : Event). d ∷ es) here.1 })
]
  where
    step : (d : Event) → (is_among (next shape sizes w d).active n ≡ true) ⊎ ((thread : ℕ) × (d ≡ Retire thread n))
    step (New m obj class) = inl h
    step (Load m obj field value) = inl h
    step (Store m obj field value) = inl h
    step (Cas m obj field expect value true) = inl h
    step (Cas m obj field expect value false) = inl h
    step (Launch m site number args) = inl (among_front w.active (number ∷ []) n h)
    step (Retire m number) = elim (eqb_tells n number) [
      | inl same ↦ inr (m, ap (λ (k : ℕ). Retire m k) (sym same.1))
      | inr other ↦ inl (without_is_among number w.active n h other.1)
    ]

-- a check that was launched is active, or was retired by an event of the journal
pub launched_is_active_or_retired :
    (shape : ShapeLists) (sizes : Sizes) (es : List Event) (n : ℕ) (launch : Launched)
    → launch_of shape sizes es n ≡ Some launch
    → (is_among (active_checks shape sizes es) n ≡ true) ⊎ ((thread : ℕ) × IsRetireIn es n thread)
launched_is_active_or_retired shape sizes es n launch h =
    subst (λ (ds : List Event). (is_among (active_checks shape sizes ds) n ≡ true) ⊎ IsRetired ds n) (sym whole)
    (then (active_then shape sizes (world_after shape sizes front) here.rest n active))
  where
    here : IsLaunchIn shape sizes es n launch
    here = launch_is_found shape sizes es n launch h

    event : Event
    event = Launch launch.thread launch.site n launch.args

    front : List Event
    front = here.before ++ event ∷ []

    whole : es ≡ front ++ here.rest
    whole = here.split ∙ sym (append_assoc here.before (event ∷ []) here.rest)

    active : is_among (world_after shape sizes front).active n ≡ true
    active = subst (λ (w : World). is_among w.active n ≡ true) (sym (world_after_one_more shape sizes here.before event))
        (among_back (world_after shape sizes here.before).active (n ∷ []) n (or_first (n == n) false (same_number n)))

    then :
        (is_among (world_from shape sizes (world_after shape sizes front) here.rest).active n ≡ true) ⊎ IsRetired here.rest n
        → (is_among (active_checks shape sizes (front ++ here.rest)) n ≡ true) ⊎ IsRetired (front ++ here.rest) n
    then (inl a) = inl (subst (λ (w : World). is_among w.active n ≡ true) (sym (world_after_joined shape sizes front here.rest)) a)
    then (inr r) = inr (retired_behind front here.rest n r)

-- ---- not both

-- a check that was launched and is not active does not become active again
idle_stays :
    (shape : ShapeLists) (sizes : Sizes) (w : World) (es : List Event) (n : ℕ)
    → IsSoundWorld shape sizes w
    → IsLegalFrom shape sizes w es
    → n ≤ w.epoch
    → is_among w.active n ≡ false
    → (n ≤ (world_from shape sizes w es).epoch) × (is_among (world_from shape sizes w es).active n ≡ false)
idle_stays shape sizes w [] n s l low h = (low, h)
idle_stays shape sizes w (e ∷ es) n s l low h =
    let now = step e l.0 in
    idle_stays shape sizes (next shape sizes w e) es n (next_is_sound shape sizes w e s l.0) l.1 now.0 now.1
  where
    step :
        (d : Event)
        → IsLegalNext shape sizes w d
        → (n ≤ (next shape sizes w d).epoch) × (is_among (next shape sizes w d).active n ≡ false)
    step (New m obj class) k = (low, h)
    step (Load m obj field value) k = (low, h)
    step (Store m obj field value) k = (low, h)
    step (Cas m obj field expect value true) k = (low, h)
    step (Cas m obj field expect value false) k = (low, h)
    step (Launch m site number args) k = (
      omega (arith, low),
      not_true (is_among (w.active ++ number ∷ []) n) (λ t. elim (among_one_more w.active number n t) [
        | inl old ↦ (let f : false ≡ true = sym h ∙ old in cc)
        | inr same ↦ omega (arith, same, low, (legal_launch shape sizes w m number site args k).next_number)
      ]),
    )
    step (Retire m number) k =
        (low, not_true (is_among (next shape sizes w (Retire m number)).active n) (λ t. let f : false ≡ true = sym h ∙ (among_without number w.active n t).0 in cc))

-- what a legal Retire leaves: its check was launched, and is not active
retire_leaves :
    (shape : ShapeLists) (sizes : Sizes) (w : World) (m n : ℕ)
    → IsSoundWorld shape sizes w
    → IsLegalNext shape sizes w (Retire m n)
    → (1 ≤ n) × (n ≤ w.epoch) × (is_among (next shape sizes w (Retire m n)).active n ≡ false)
retire_leaves shape sizes w m n s l =
    let known = s.active.launched n (legal_retire shape sizes w m n l).active in
    (known.0, known.1, not_true (is_among (next shape sizes w (Retire m n)).active n) (λ t. (among_without n w.active n t).1 refl))

-- a check that an event of the journal retired is not active
pub retired_is_not_active :
    (shape : ShapeLists) (sizes : Sizes) → IsWithinLimits shape
    → (es : List Event) (n thread : ℕ)
    → IsLegal shape sizes es
    → IsRetireIn es n thread
    → is_among (active_checks shape sizes es) n ≡ false
retired_is_not_active shape sizes limits es n thread l r =
    let legal = subst (IsLegal shape sizes) r.split l in
    let w = world_after shape sizes r.before in
    let sound = legal_is_sound shape sizes limits r.before (prefix_is_legal shape sizes r.before (Retire thread n ∷ r.rest) legal) in
    let rest = rest_is_legal shape sizes r.before (Retire thread n ∷ r.rest) legal in
    let left = retire_leaves shape sizes w thread n sound rest.0 in
    let idle = idle_stays shape sizes (next shape sizes w (Retire thread n)) r.rest n (next_is_sound shape sizes w (Retire thread n) sound rest.0) rest.1 left.1 left.2 in
    subst (λ (ds : List Event). is_among (active_checks shape sizes ds) n ≡ false) (sym r.split)
    (subst (λ (v : World). is_among v.active n ≡ false) (sym (world_after_joined shape sizes r.before (Retire thread n ∷ r.rest))) idle.1)

-- a check that an event of the journal retired was launched
pub retired_is_launched :
    (shape : ShapeLists) (sizes : Sizes) → IsWithinLimits shape
    → (es : List Event) (n thread : ℕ)
    → IsLegal shape sizes es
    → IsRetireIn es n thread
    → (launch : Launched) × (launch_of shape sizes es n ≡ Some launch)
retired_is_launched shape sizes limits es n thread l r =
    let legal = subst (IsLegal shape sizes) r.split l in
    let sound = legal_is_sound shape sizes limits r.before (prefix_is_legal shape sizes r.before (Retire thread n ∷ r.rest) legal) in
    let left = retire_leaves shape sizes (world_after shape sizes r.before) thread n sound (rest_is_legal shape sizes r.before (Retire thread n ∷ r.rest) legal).0 in
    let was = sound.launches.launched n left.0 left.1 in (
      was.0,
      subst (λ (ds : List Event). launch_of shape sizes ds n ≡ Some was.0) (sym r.split)
          (launch_stays shape sizes limits r.before (Retire thread n ∷ r.rest) n was.0 legal was.1),
    )

-- ---- one ticket

-- a list is taken apart in one way
head_of : {e d : Event} {es ds : List Event} → e ∷ es ≡ d ∷ ds → e ≡ d
head_of h = cc

tail_of : {e d : Event} {es ds : List Event} → e ∷ es ≡ d ∷ ds → es ≡ ds
tail_of h = cc

thread_of : {n m k : ℕ} → Retire m n ≡ Retire k n → m ≡ k
thread_of h = cc

-- no event retires a check that is not active and stays so
not_retired_again :
    (shape : ShapeLists) (sizes : Sizes) (w : World) (before rest : List Event) (n thread : ℕ)
    → IsSoundWorld shape sizes w
    → IsLegalFrom shape sizes w (before ++ Retire thread n ∷ rest)
    → n ≤ w.epoch
    → is_among w.active n ≡ false
    → ⊥
not_retired_again shape sizes w [] rest n thread s l low h = let f : false ≡ true = sym h ∙ (legal_retire shape sizes w thread n l.0).active in cc
not_retired_again shape sizes w (e ∷ before) rest n thread s l low h =
    let now = idle_stays shape sizes w (e ∷ []) n s (l.0, tt) low h in
    not_retired_again shape sizes (next shape sizes w e) before rest n thread (next_is_sound shape sizes w e s l.0) l.1 now.0 now.1

-- a Retire that stands first stands nowhere else
first_retire_alone :
    (shape : ShapeLists) (sizes : Sizes) (w : World) (before rest es : List Event) (n thread thread' : ℕ)
    → IsSoundWorld shape sizes w
    → IsLegalFrom shape sizes w (Retire thread n ∷ es)
    → es ≡ before ++ Retire thread' n ∷ rest
    → ⊥
first_retire_alone shape sizes w before rest es n thread thread' s l e =
    let left = retire_leaves shape sizes w thread n s l.0 in
    let after = next shape sizes w (Retire thread n) in
    not_retired_again shape sizes after before rest n thread' (next_is_sound shape sizes w (Retire thread n) s l.0)
    (subst (λ (ds : List Event). IsLegalFrom shape sizes after ds) e l.1) left.1 left.2

-- from a sound world on
one_retire_from :
    (shape : ShapeLists) (sizes : Sizes) (w : World) (es fs gs hs : List Event) (n thread thread' : ℕ)
    → IsSoundWorld shape sizes w
    → IsLegalFrom shape sizes w (es ++ Retire thread n ∷ fs)
    → es ++ Retire thread n ∷ fs ≡ gs ++ Retire thread' n ∷ hs
    → (es ≡ gs) × (thread ≡ thread')
one_retire_from shape sizes w [] fs [] hs n thread thread' s l e = (refl, thread_of (head_of e))
one_retire_from shape sizes w [] fs (g ∷ gs) hs n thread thread' s l e = absurd (first_retire_alone shape sizes w gs hs fs n thread thread' s l (tail_of e))
one_retire_from shape sizes w (d ∷ es) fs [] hs n thread thread' s l e =
    absurd (first_retire_alone shape sizes w es fs hs n thread' thread s (subst (λ (ds : List Event). IsLegalFrom shape sizes w ds) e l) (sym (tail_of e)))
one_retire_from shape sizes w (d ∷ es) fs (g ∷ gs) hs n thread thread' s l e =
    let same = one_retire_from shape sizes (next shape sizes w d) es fs gs hs n thread thread' (next_is_sound shape sizes w d s l.0) l.1 (tail_of e) in
    (ap (λ (c : Event). c ∷ es) (head_of e) ∙ ap (λ (cs : List Event). g ∷ cs) same.0, same.1)

-- each check is retired at one ticket, by one thread
pub retired_at_one_ticket :
    (shape : ShapeLists) (sizes : Sizes) → IsWithinLimits shape
    → (before rest before' rest' : List Event) (n thread thread' : ℕ)
    → IsLegal shape sizes (before ++ Retire thread n ∷ rest)
    → before ++ Retire thread n ∷ rest ≡ before' ++ Retire thread' n ∷ rest'
    → (before ≡ before') × (thread ≡ thread')
unfolding IsLegal
retired_at_one_ticket shape sizes limits before rest before' rest' n thread thread' l e =
    one_retire_from shape sizes (first_world shape) before rest before' rest' n thread thread' (first_is_sound shape sizes limits) l e
