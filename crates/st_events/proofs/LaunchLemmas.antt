-- The events that launch checks: what is known of a check comes from its Launch, and that stands at one ticket
use Rattle.std.proofs.Common.{◌≡◌, ℕ, ◌+◌, ◌≤◌, ◌⊎◌, true, false, inl, inr, List, [], ◌∷◌, ◌++◌, Some, refl, sym, ◌∙◌, ap, subst, arith}
use Rattle.std.proofs.lemmas.List.{append_assoc}
use Rattle.std.proofs.lemmas.Bool.Decides.{eqb_tells}
use Rattle.st_events.specs.Terms.{Args, Event, New, Load, Store, Cas, Launch, Retire, Sizes, ShapeLists, IsWithinLimits, World, Launched, next, first_world}
use Rattle.st_events.specs.Terms.{world_from, world_after, IsLegal, IsLegalFrom, heap_after, launch_of, IsLaunchIn}
use Rattle.st_events.proofs.WorldLemmas.{at_same, at_other, world_after_one_more}
use Rattle.st_events.proofs.LegalEvents.{legal_launch}
use Rattle.st_events.proofs.ExtendsLemmas.{launch_stays}

-- ---- what is known of a check comes from an event

-- the check was launched by one of these events, which follow this world
record IsLaunchFrom (shape : ShapeLists) (sizes : Sizes) (w : World) (es : List Event) (n : ℕ) (launch : Launched) : Type 0 where
  before : List Event
  rest : List Event
  split : es ≡ before ++ Launch launch.thread launch.site n launch.args ∷ rest
  past : launch.past ≡ (world_from shape sizes w before).heap

-- an event leaves what was known of a check, or is its Launch
launched_before_or_here :
    (shape : ShapeLists) (sizes : Sizes) (w : World) (e : Event) (n : ℕ) (x : Launched)
    → (next shape sizes w e).launched n ≡ Some x
    → (w.launched n ≡ Some x) ⊎ ((e ≡ Launch x.thread x.site n x.args) × (x.past ≡ w.heap))
launched_before_or_here shape sizes w (New m obj class) n x h = inl h
launched_before_or_here shape sizes w (Load m obj field value) n x h = inl h
launched_before_or_here shape sizes w (Store m obj field value) n x h = inl h
launched_before_or_here shape sizes w (Cas m obj field expect value true) n x h = inl h
launched_before_or_here shape sizes w (Cas m obj field expect value false) n x h = inl h
launched_before_or_here shape sizes w (Launch m site number args) n x h = elim (eqb_tells n number) [
  | inl same ↦ inr (here same.1 (some (sym (rw same.0 refl) ∙ h)))
  | inr other ↦ inl (sym (at_other number (Some launch) w.launched n other.1) ∙ h)
]
  where
    launch : Launched
    launch = record { past = w.heap; thread = m; site = site; args = args }

    some : Some launch ≡ Some x → launch ≡ x
    some e = cc

    here : n ≡ number → launch ≡ x → (Launch m site number args ≡ Launch x.thread x.site n x.args) × (x.past ≡ w.heap)
    here same e = (ap (λ (k : ℕ). Launch m site k args) (sym same) ∙ ap (λ (y : Launched). Launch y.thread y.site n y.args) e, sym (ap (λ (y : Launched). y.past) e))
launched_before_or_here shape sizes w (Retire m number) n x h = inl h

launched_before_or_there :
    (shape : ShapeLists) (sizes : Sizes) (w : World) (es : List Event) (n : ℕ) (x : Launched)
    → (world_from shape sizes w es).launched n ≡ Some x
    → (w.launched n ≡ Some x) ⊎ IsLaunchFrom shape sizes w es n x
launched_before_or_there shape sizes w [] n x h = inl h
launched_before_or_there shape sizes w (e ∷ es) n x h = elim (launched_before_or_there shape sizes (next shape sizes w e) es n x h) [
  | inl now ↦ elim (launched_before_or_here shape sizes w e n x now) [
    | inl was ↦ inl was
    | inr here ↦ inr (record { before = []; rest = es; split = ap (λ (d : Event). d ∷ es) here.0; past = here.1 })
  ]
  | inr later ↦ inr (record { before = e ∷ later.before; rest = later.rest; split = ap (λ (ds : List Event). e ∷ ds) later.split; past = later.past })
]

-- what is known of a check comes from its Launch: its past is the heap before that event
pub launch_is_found :
    (shape : ShapeLists) (sizes : Sizes) (es : List Event) (n : ℕ) (x : Launched)
    → launch_of shape sizes es n ≡ Some x
    → IsLaunchIn shape sizes es n x
launch_is_found shape sizes es n x h = elim (launched_before_or_there shape sizes (first_world shape) es n x h) [
  | inl none ↦ absurd cc
  | inr here ↦ record { before = here.before; rest = here.rest; split = here.split; past = here.past }
]

-- ---- what a Launch says is known from then on

-- what a Launch says is known from then on
pub launch_is_known :
    (shape : ShapeLists) (sizes : Sizes)
    → IsWithinLimits shape
    → (es fs : List Event) (m n site : ℕ) (args : Args)
    → IsLegal shape sizes (es ++ Launch m site n args ∷ fs)
    → launch_of shape sizes (es ++ Launch m site n args ∷ fs) n ≡ Some (record { past = heap_after shape sizes es; thread = m; site = site; args = args })
launch_is_known shape sizes limits es fs m n site args l =
    subst (λ (ds : List Event). launch_of shape sizes ds n ≡ Some launch) joined (launch_stays shape sizes limits (es ++ Launch m site n args ∷ []) fs n launch legal at_once)
  where
    launch : Launched
    launch = record { past = heap_after shape sizes es; thread = m; site = site; args = args }

    joined : (es ++ Launch m site n args ∷ []) ++ fs ≡ es ++ Launch m site n args ∷ fs
    joined = append_assoc es (Launch m site n args ∷ []) fs

    legal : IsLegal shape sizes ((es ++ Launch m site n args ∷ []) ++ fs)
    legal = subst (λ (ds : List Event). IsLegal shape sizes ds) (sym joined) l

    at_once : (world_after shape sizes (es ++ Launch m site n args ∷ [])).launched n ≡ Some launch
    at_once = ap (λ (w : World). w.launched n) (world_after_one_more shape sizes es (Launch m site n args)) ∙ at_same n (Some launch) (world_after shape sizes es).launched

-- ---- one ticket

-- launches are only counted up
epoch_does_not_fall : (shape : ShapeLists) (sizes : Sizes) (w : World) (e : Event) → w.epoch ≤ (next shape sizes w e).epoch
epoch_does_not_fall shape sizes w (New m obj class) = omega arith
epoch_does_not_fall shape sizes w (Load m obj field value) = omega arith
epoch_does_not_fall shape sizes w (Store m obj field value) = omega arith
epoch_does_not_fall shape sizes w (Cas m obj field expect value true) = omega arith
epoch_does_not_fall shape sizes w (Cas m obj field expect value false) = omega arith
epoch_does_not_fall shape sizes w (Launch m site number args) = omega arith
epoch_does_not_fall shape sizes w (Retire m number) = omega arith

-- no later event launches a number that was launched before
launched_once :
    (shape : ShapeLists) (sizes : Sizes) (w : World) (es fs : List Event) (m n site : ℕ) (args : Args)
    → n ≤ w.epoch
    → IsLegalFrom shape sizes w (es ++ Launch m site n args ∷ fs)
    → ⊥
launched_once shape sizes w [] fs m n site args h l = omega (arith, h, (legal_launch shape sizes w m n site args l.0).next_number)
launched_once shape sizes w (e ∷ es) fs m n site args h l =
    launched_once shape sizes (next shape sizes w e) es fs m n site args (omega (arith, h, epoch_does_not_fall shape sizes w e)) l.1

-- a list is taken apart in one way
head_of : {e d : Event} {es ds : List Event} → e ∷ es ≡ d ∷ ds → e ≡ d
head_of h = cc

tail_of : {e d : Event} {es ds : List Event} → e ∷ es ≡ d ∷ ds → es ≡ ds
tail_of h = cc

-- a Launch that stands first stands nowhere else
first_alone :
    (shape : ShapeLists) (sizes : Sizes) (w : World) (es fs gs : List Event) (n m site m' site' : ℕ) (args args' : Args)
    → IsLegalFrom shape sizes w (Launch m site n args ∷ gs)
    → gs ≡ es ++ Launch m' site' n args' ∷ fs
    → ⊥
first_alone shape sizes w es fs gs n m site m' site' args args' l e =
    let number : n ≡ w.epoch + 1 = (legal_launch shape sizes w m n site args l.0).next_number in
    let rest = subst (λ (ds : List Event). IsLegalFrom shape sizes (next shape sizes w (Launch m site n args)) ds) e l.1 in
    launched_once shape sizes (next shape sizes w (Launch m site n args)) es fs m' n site' args' (omega (arith, number)) rest

one_launch_from :
    (shape : ShapeLists) (sizes : Sizes) (w : World) (es fs gs hs : List Event) (n m site m' site' : ℕ) (args args' : Args)
    → IsLegalFrom shape sizes w (es ++ Launch m site n args ∷ fs)
    → es ++ Launch m site n args ∷ fs ≡ gs ++ Launch m' site' n args' ∷ hs
    → es ≡ gs
one_launch_from shape sizes w [] fs [] hs n m site m' site' args args' l e = refl
one_launch_from shape sizes w [] fs (g ∷ gs) hs n m site m' site' args args' l e = absurd (first_alone shape sizes w gs hs fs n m site m' site' args args' l (tail_of e))
one_launch_from shape sizes w (d ∷ es) fs [] hs n m site m' site' args args' l e =
    let first = subst (λ (ds : List Event). IsLegalFrom shape sizes w ds) e l in
    absurd (first_alone shape sizes w es fs hs n m' site' m site args' args first (sym (tail_of e)))
one_launch_from shape sizes w (d ∷ es) fs (g ∷ gs) hs n m site m' site' args args' l e =
    let same = one_launch_from shape sizes (next shape sizes w d) es fs gs hs n m site m' site' args args' l.1 (tail_of e) in
    ap (λ (c : Event). c ∷ es) (head_of e) ∙ ap (λ (cs : List Event). g ∷ cs) same

-- each number is launched at one ticket
pub launched_at_one_ticket :
    (shape : ShapeLists) (sizes : Sizes) (es fs gs hs : List Event) (n m site m' site' : ℕ) (args args' : Args)
    → IsLegal shape sizes (es ++ Launch m site n args ∷ fs)
    → es ++ Launch m site n args ∷ fs ≡ gs ++ Launch m' site' n args' ∷ hs
    → es ≡ gs
unfolding IsLegal
launched_at_one_ticket shape sizes es fs gs hs n m site m' site' args args' l e = one_launch_from shape sizes (first_world shape) es fs gs hs n m site m' site' args args' l e
