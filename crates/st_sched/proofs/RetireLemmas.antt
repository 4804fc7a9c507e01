-- What stays in memory where a check is retired
use Rattle.std.proofs.Common.{◌≡◌, ◌≢◌, ℕ, zero, suc, ◌-◌, ◌<◌, ◌≤◌, ◌==◌, ◌||◌, cond, not, Bool, true, false, inl, inr, List, [], ◌∷◌, ◌++◌, length, take, drop}
use Rattle.std.proofs.Common.{get_or, slice_get, slice_set, Some, refl, sym, ◌∙◌, ap, subst, arith}
use Rattle.std.specs.List.{All}
use Rattle.std.proofs.lemmas.Bool.Decides.{eqb_tells}
use Rattle.std.proofs.lemmas.List.{length-set}
use Rattle.std.proofs.lemmas.Option.{slice_get_within, get_or_from_slice_get}
use Rattle.std.proofs.lemmas.List.Elements.{All-append, All-take, All-drop}
use Rattle.st_events.specs.declared.events.Event.TheVariants.{Retire}
use Rattle.st_events.specs.declared.limits.Sizes.{Sizes}
use Rattle.st_events.specs.declared.verdicts.Verdict.{Verdict}
use Rattle.st_events.specs.Sound.{IsRising, AreActive}
use Rattle.st_events.specs.Terms.{ShapeLists, World, Launched, is_among, without, world_after, launch_of, active_checks, epoch_of}
use Rattle.st_events.proofs.AmongLemmas.{or_first, or_second, same_number, among_without, without_is_among}
use Rattle.st_events.proofs.WorldLemmas.{world_after_one_more}
use Rattle.st_resolved.specs.Terms.{Program}
use Rattle.st_snap.specs.declared.lanes.Lane.{Lane}
use Rattle.st_snap.specs.Snapshots.{IsLaneOf}
use Rattle.st_run_meaning.specs.States.{State}
use Rattle.st_run_meaning.specs.Runs.{verdict_of}
use Rattle.st_sched.specs.declared.checks.ActiveCheck.{ActiveCheck}
use Rattle.st_sched.specs.declared.checks.Awaits.{Awaits}
use Rattle.st_sched.specs.declared.checks.Awaits.TheVariants.{Retire as Retired}
use Rattle.st_sched.specs.Choosing.{numbers}
use Rattle.st_sched.specs.Standing.{IsInMemory, AreChecks, HasVerdict, AreVerdicts, HasCome, HasVerdictAt, heap_of_journal, number_at}
use Rattle.st_sched.specs.UnderWay.{with_retires}

-- ---- lists of numbers

-- a number that is not there
without_absent : (n : ℕ) (ns : List ℕ) → is_among ns n ≡ false → without n ns ≡ ns
without_absent n [] h = refl
without_absent n (k ∷ ns) h = by (λ f. without_absent n ns f) (k == n) refl h
  where
    by : (is_among ns n ≡ false → without n ns ≡ ns) → (b : Bool) → (k == n) ≡ b → (b || is_among ns n) ≡ false → without n (k ∷ ns) ≡ k ∷ ns
    by rest true e f = absurd (cc)
    by rest false e f = ap (λ (b : Bool). cond (not b) (k ∷ without n ns) (without n ns)) e ∙ ap (λ (xs : List ℕ). k ∷ xs) (rest f)

-- a smaller number is not among rising ones
below_is_absent : (n : ℕ) (ns : List ℕ) → ((k : ℕ) → is_among ns k ≡ true → n < k) → is_among ns n ≡ false
below_is_absent n ns below = by (is_among ns n) refl
  where
    by : (b : Bool) → is_among ns n ≡ b → is_among ns n ≡ false
    by true e = absurd (omega (arith, below n e))
    by false e = e

-- the number at a place
pub there_is_among : (ns : List ℕ) (i : ℕ) → i < length ns → is_among ns (get_or ns i 0) ≡ true
there_is_among [] i lt = absurd (omega (arith, lt))
there_is_among (n ∷ ns) zero lt = or_first (n == n) (is_among ns n) (same_number n)
there_is_among (n ∷ ns) (suc i) lt = or_second (n == get_or ns i 0) (is_among ns (get_or ns i 0)) (there_is_among ns i (omega (arith, lt)))

-- rising numbers without the one at a place
pub without_place : (ns : List ℕ) (i : ℕ) → IsRising ns → i < length ns → without (get_or ns i 0) ns ≡ take i ns ++ drop (suc i) ns
without_place [] i rising lt = absurd (omega (arith, lt))
without_place (n ∷ ns) zero rising lt =
    ap (λ (b : Bool). cond (not b) (n ∷ without n ns) (without n ns)) (same_number n) ∙ without_absent n ns (below_is_absent n ns rising.0)
without_place (n ∷ ns) (suc i) rising lt =
    let k = get_or ns i 0 in
    let there : is_among ns k ≡ true = there_is_among ns i (omega (arith, lt)) in
    let other : (n == k) ≡ false = elim (eqb_tells n k) [ inl same ↦ (let below : n < k = rising.0 k there in absurd (omega (arith, below, same.1))) | inr differ ↦ differ.0 ] in
    ap (λ (b : Bool). cond (not b) (n ∷ without k ns) (without k ns)) other
    ∙ ap (λ (xs : List ℕ). n ∷ xs) (without_place ns i rising.1 (omega (arith, lt)))

-- the numbers of the checks but for one place
pub numbers_but_one : (checks : List ActiveCheck) (i : ℕ) → numbers (take i checks ++ drop (suc i) checks) ≡ take i (numbers checks) ++ drop (suc i) (numbers checks)
numbers_but_one [] zero = refl
numbers_but_one [] (suc i) = refl
numbers_but_one (c ∷ checks) zero = refl
numbers_but_one (c ∷ checks) (suc i) = ap (λ (ns : List ℕ). c.lane.number ∷ ns) (numbers_but_one checks i)

-- ---- what is in memory stays so

-- a check stays in memory in a later state with the same progress of it, where it keeps its lane and its launch
pub check_stays :
    (shape : ShapeLists) (p : Program) (sizes : Sizes) (s later : State) (c : ActiveCheck)
    → (IsLaneOf (heap_of_journal shape sizes s.journal) c.lane → IsLaneOf (heap_of_journal shape sizes later.journal) c.lane)
    → ((launch : Launched) → launch_of shape sizes s.journal c.lane.number ≡ Some launch → launch_of shape sizes later.journal c.lane.number ≡ Some launch)
    → later.progress c.lane.number ≡ s.progress c.lane.number
    → IsInMemory shape p sizes s c
    → IsInMemory shape p sizes later c
check_stays shape p sizes s later c lane launched same h = record {
  lane = lane h.lane;
  made = h.made;
  budget_is = h.budget_is;
  launch = h.launch;
  launched = launched h.launch h.launched;
  come = subst (HasCome p sizes h.launch c.eval c.awaits) (sym same) h.come;
}

-- the number of a check at its place
pub number_is_at : (checks : List ActiveCheck) (i : ℕ) (c : ActiveCheck) → slice_get checks i ≡ Some c → number_at checks i ≡ c.lane.number
number_is_at [] i c e = absurd (cc)
number_is_at (x ∷ xs) zero c e = let same : x ≡ c = cc in ap (λ (y : ActiveCheck). y.lane.number) same
number_is_at (x ∷ xs) (suc i) c e = number_is_at xs i c e

-- the number of each check is among the numbers
pub number_is_among : (checks : List ActiveCheck) (k : ℕ) (d : ActiveCheck) → k < length checks → is_among (numbers checks) (get_or checks k d).lane.number ≡ true
number_is_among [] k d lt = absurd (omega (arith, lt))
number_is_among (c ∷ cs) zero d lt = or_first (c.lane.number == c.lane.number) (is_among (numbers cs) c.lane.number) (same_number c.lane.number)
number_is_among (c ∷ cs) (suc k) d lt =
    or_second (c.lane.number == (get_or cs k d).lane.number) (is_among (numbers cs) (get_or cs k d).lane.number) (number_is_among cs k d (omega (arith, lt)))

-- there are as many numbers as checks
pub length_of_numbers : (checks : List ActiveCheck) → length (numbers checks) ≡ length checks
length_of_numbers [] = refl
length_of_numbers (c ∷ cs) = ap suc (length_of_numbers cs)

-- ---- one check is retired

-- of the world, only active checks and rows change
pub world_after_retire :
    (shape : ShapeLists) (sizes : Sizes) (s : State) (m n : ℕ)
    → ((k : ℕ) → launch_of shape sizes (with_retires m (n ∷ []) s).journal k ≡ launch_of shape sizes s.journal k)
    × (active_checks shape sizes (with_retires m (n ∷ []) s).journal ≡ without n (active_checks shape sizes s.journal))
    × (epoch_of shape sizes (with_retires m (n ∷ []) s).journal ≡ epoch_of shape sizes s.journal)
world_after_retire shape sizes s m n =
    let one = world_after_one_more shape sizes s.journal (Retire m n) in
    ((λ k. ap (λ (w : World). w.launched k) one), ap (λ (w : World). w.active) one, ap (λ (w : World). w.epoch) one)

-- the active checks after one of them is retired: those at all other places, in order, each as it was
pub checks_after_retire :
    (shape : ShapeLists) (p : Program) (sizes : Sizes) (s : State) (m : ℕ) (checks : List ActiveCheck) (i : ℕ)
    → IsRising (active_checks shape sizes s.journal)
    → i < length checks
    → AreChecks shape p sizes s checks
    → ((other : Lane) → other.number ≢ number_at checks i → IsLaneOf (heap_of_journal shape sizes s.journal) other
    → IsLaneOf (heap_of_journal shape sizes (with_retires m (number_at checks i ∷ []) s).journal) other)
    → AreChecks shape p sizes (with_retires m (number_at checks i ∷ []) s) (take i checks ++ drop (suc i) checks)
checks_after_retire shape p sizes s m checks i rising lt h lanes = record { each = each; in_order = in_order }
  where
    n : ℕ
    n = number_at checks i

    later : State
    later = with_retires m (n ∷ []) s

    rest : List ActiveCheck
    rest = take i checks ++ drop (suc i) checks

    left : numbers rest ≡ without n (numbers checks)
    left =
        let few : i < length (numbers checks) = omega (arith, lt, length_of_numbers checks) in
        numbers_but_one checks i ∙ sym (without_place (numbers checks) i (subst IsRising (sym h.in_order) rising) few)

    in_order : numbers rest ≡ active_checks shape sizes later.journal
    in_order = left ∙ ap (without n) h.in_order ∙ sym (world_after_retire shape sizes s m n).1

    was : All (IsInMemory shape p sizes s) rest
    was = All-append (IsInMemory shape p sizes s) (take i checks) (drop (suc i) checks) (All-take (IsInMemory shape p sizes s) i checks h.each)
        (All-drop (IsInMemory shape p sizes s) (suc i) checks h.each)

    each : All (IsInMemory shape p sizes later) rest
    each = λ k d within.
        let c = get_or rest k d in
        let among : is_among (without n (numbers checks)) c.lane.number ≡ true = subst (λ (ns : List ℕ). is_among ns c.lane.number ≡ true) left (number_is_among rest k d within) in
        check_stays shape p sizes s later c (lanes c.lane (among_without n (numbers checks) c.lane.number among).1)
        (λ launch e. (world_after_retire shape sizes s m n).0 c.lane.number ∙ e) refl (was k d within)

-- ---- its verdict is kept

get_set_here : (vs : List Verdict) (i : ℕ) (v : Verdict) → i < length vs → slice_get (slice_set vs i v) i ≡ Some v
get_set_here [] i v lt = absurd (omega (arith, lt))
get_set_here (x ∷ xs) zero v lt = refl
get_set_here (x ∷ xs) (suc i) v lt = get_set_here xs i v (omega (arith, lt))

get_set_elsewhere : (vs : List Verdict) (i k : ℕ) (v : Verdict) → k ≢ i → slice_get (slice_set vs i v) k ≡ slice_get vs k
get_set_elsewhere [] i k v differ = refl
get_set_elsewhere (x ∷ xs) zero zero v differ = absurd (differ refl)
get_set_elsewhere (x ∷ xs) zero (suc k) v differ = refl
get_set_elsewhere (x ∷ xs) (suc i) zero v differ = refl
get_set_elsewhere (x ∷ xs) (suc i) (suc k) v differ = get_set_elsewhere xs i k v (λ same. differ (ap suc same))

-- the check at each place is active in the journal's world
pub active_is_there :
    (shape : ShapeLists) (p : Program) (sizes : Sizes) (s : State) (checks : List ActiveCheck) (i : ℕ)
    → AreChecks shape p sizes s checks → i < length checks → is_among (active_checks shape sizes s.journal) (number_at checks i) ≡ true
active_is_there shape p sizes s checks i h lt =
    subst (λ (ns : List ℕ). is_among ns (number_at checks i) ≡ true) h.in_order (there_is_among (numbers checks) i (omega (arith, lt, length_of_numbers checks)))

not_among : (ns : List ℕ) (k n : ℕ) → k ≢ n → is_among (without n ns) k ≡ false → is_among ns k ≡ false
not_among ns k n differ h = by (is_among ns k) refl
  where
    by : (b : Bool) → is_among ns k ≡ b → is_among ns k ≡ false
    by true e = let f : false ≡ true = sym h ∙ without_is_among n ns k e differ in cc
    by false e = e

-- once a check is retired, its verdict stands at its number, and those of the checks before it stay
pub verdicts_after_retire :
    (shape : ShapeLists) (p : Program) (sizes : Sizes) (s : State) (m : ℕ) (checks : List ActiveCheck) (i : ℕ) (verdicts : List Verdict) (verdict : Verdict)
    → AreActive sizes (world_after shape sizes s.journal)
    → AreChecks shape p sizes s checks
    → HasVerdictAt checks i verdict
    → AreVerdicts shape p sizes s verdicts
    → AreVerdicts shape p sizes (with_retires m (number_at checks i ∷ []) s) (slice_set verdicts (number_at checks i - 1) verdict)
verdicts_after_retire shape p sizes s m checks i verdicts verdict active h at v = record {
  count = length-set verdicts (n - 1) verdict ∙ v.count ∙ sym world.2;
  retired = λ k one most gone. elim (eqb_tells k n) [
    | inl same ↦ subst (HasVerdict shape p sizes later set_verdicts) (sym same.1) mine
    | inr differ ↦ other k one (subst (λ (e : ℕ). k ≤ e) world.2 most) differ.1
        (not_among (active_checks shape sizes s.journal) k n differ.1 (ap (λ (ns : List ℕ). is_among ns k) (sym world.1) ∙ gone))
  ];
}
  where
    n : ℕ
    n = number_at checks i

    later : State
    later = with_retires m (n ∷ []) s

    set_verdicts : List Verdict
    set_verdicts = slice_set verdicts (n - 1) verdict

    world : ((k : ℕ) → launch_of shape sizes later.journal k ≡ launch_of shape sizes s.journal k)
        × (active_checks shape sizes later.journal ≡ without n (active_checks shape sizes s.journal))
        × (epoch_of shape sizes later.journal ≡ epoch_of shape sizes s.journal)
    world = world_after_retire shape sizes s m n

    c : ActiveCheck
    c = at.0

    within : i < length checks
    within = slice_get_within checks i c at.1

    known : (1 ≤ n) × (n ≤ epoch_of shape sizes s.journal)
    known = active.launched n (active_is_there shape p sizes s checks i h within)

    memory : IsInMemory shape p sizes s c
    memory = subst (IsInMemory shape p sizes s) (get_or_from_slice_get checks i c c at.1) (h.each i c within)

    number : n ≡ c.lane.number
    number = number_is_at checks i c at.1

    mine : HasVerdict shape p sizes later set_verdicts n
    mine =
        let come : HasCome p sizes memory.launch c.eval (Retired verdict) (s.progress c.lane.number) =
        subst (λ (a : Awaits). HasCome p sizes memory.launch c.eval a (s.progress c.lane.number)) at.2 memory.come in
        let few : n - 1 < length verdicts = omega (arith, known.0, known.1, v.count) in
        record {
          launch = memory.launch;
          launched = world.0 n ∙ ap (launch_of shape sizes s.journal) number ∙ memory.launched;
          stands = get_set_here verdicts (n - 1) verdict few ∙ ap Some (come.1 ∙ ap (λ (k : ℕ). verdict_of p sizes (Some memory.launch) (s.progress k)) (sym number));
        }

    other : (k : ℕ) → 1 ≤ k → k ≤ epoch_of shape sizes s.journal → k ≢ n → is_among (active_checks shape sizes s.journal) k ≡ false
        → HasVerdict shape p sizes later set_verdicts k
    other k one most differ gone =
        let was = v.retired k one most gone in
        let place : k - 1 ≢ n - 1 = λ same. differ (omega (arith, same, one, known.0)) in
        record { launch = was.launch; launched = world.0 k ∙ was.launched; stands = get_set_elsewhere verdicts (n - 1) (k - 1) verdict place ∙ was.stands }
