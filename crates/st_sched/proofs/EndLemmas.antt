-- What a run leaves
use Rattle.std.proofs.Common.{◌≡◌, ℕ, suc, ◌+◌, ◌-◌, ◌<◌, ◌≤◌, Bool, true, false, not, cond, List, [], ◌∷◌, ◌++◌, length, map, filter, get_or}
use Rattle.std.proofs.Common.{Option, slice_get, Some, None, refl, sym, ◌∙◌, ap, arith}
use Rattle.std.specs.List.{range_with_len, AllByRecursion}
use Rattle.std.proofs.lemmas.List.Elements.{recursion_from_All}
use Rattle.st_events.specs.declared.limits.Sizes.{Sizes}
use Rattle.st_events.specs.declared.verdicts.Verdict.{Verdict}
use Rattle.st_events.specs.Sizes.{AreWithinLimits}
use Rattle.st_events.specs.Terms.{ShapeLists, World, Launched, RanLists, is_among, world_after, launch_of, active_checks, epoch_of, kept_rows}
use Rattle.st_resolved.specs.Terms.{Program}
use Rattle.st_resolved.specs.WellFormed.{IsWellFormed}
use Rattle.st_thread_meaning.specs.Threads.{Turn}
use Rattle.st_mutator.specs.Mutators.{turn_of_want}
use Rattle.st_run_meaning.specs.States.{State}
use Rattle.st_run_meaning.specs.Agents.{request_of, has_finished, next_agent}
use Rattle.st_run_meaning.specs.Runs.{end_of, verdict_of, ran_of}
use Rattle.st_run_meaning.specs.SoundStates.{IsSoundState}
use Rattle.st_run_meaning.specs.Steps.{retires}
use Rattle.st_run_meaning.proofs.AgentLemmas.{none_is_ready}
use Rattle.st_run_meaning.proofs.RetiresLemmas.{with_retired, world_after_retires, all_removed}
use Rattle.st_run_meaning.proofs.RoomLemmas.{sound_state_has_room}
use Rattle.st_sched.specs.declared.checks.ActiveCheck.{ActiveCheck}
use Rattle.st_sched.specs.declared.running.Running.{Running}
use Rattle.st_sched.specs.declared.seats.Seat.{Seat}
use Rattle.st_sched.specs.Checks.{is_over}
use Rattle.st_sched.specs.Standing.{AreChecks, AreVerdicts, finished_in}
use Rattle.st_sched.specs.UnderWay.{AreSeats, IsHistory, IsUnderWay, IsOnTheWay, with_retires}
use Rattle.st_sched.proofs.ChoiceLemmas.{over_is_finished, finished_numbers}
use Rattle.st_sched.proofs.SeatLemmas.{seat_asks}

-- ---- between two turns

-- the journal of a sound state is a history
pub sound_is_history : (shape : ShapeLists) (p : Program) (sizes : Sizes) (s : State) → IsSoundState shape p sizes s → IsHistory shape sizes s.journal
sound_is_history shape p sizes s h = record { legal = h.legal; paid = (sound_state_has_room shape p sizes s h).events }

-- between two turns a run is one that a part of a turn may begin with
abbrev pub way_is_under_way : (shape : ShapeLists) (p : Program) (sizes : Sizes) (start : State) (r : Running) → IsOnTheWay shape p sizes start r → IsUnderWay p r
way_is_under_way shape p sizes start r h = record {
  shape = shape;
  sizes = sizes;
  state = h.state;
  formed = h.formed;
  limits = h.limits;
  stands = h.stands;
  history = sound_is_history shape p sizes h.state h.sound;
}

-- ---- lists by their places

verdicts_are_images :
    (f : ℕ → Verdict) (a : ℕ) (vs : List Verdict)
    → ((i : ℕ) → i < length vs → slice_get vs i ≡ Some (f (a + i)))
    → vs ≡ map f (range_with_len a (length vs))
verdicts_are_images f a [] h = refl
verdicts_are_images f a (v ∷ vs) h =
    let first : Some v ≡ Some (f (a + 0)) = h 0 (omega arith) in
    let here : v ≡ f a = let same : a + 0 ≡ a = omega arith in let is : v ≡ f (a + 0) = cc in is ∙ ap f same in
    let rest = verdicts_are_images f (a + 1) vs (λ i lt. let next : a + suc i ≡ a + 1 + i = omega arith in h (suc i) (omega (arith, lt)) ∙ ap (λ (n : ℕ). Some (f n)) next) in
    λ k. here k ∷ rest k

ends_are_images :
    (asks : ℕ → Turn) (m : ℕ) (seats : List Seat)
    → ((j : ℕ) (seat : Seat) → slice_get seats j ≡ Some seat → turn_of_want seat.want ≡ asks (m + j))
    → map (λ (seat : Seat). end_of (turn_of_want seat.want)) seats ≡ map (λ k. end_of (asks k)) (range_with_len m (length seats))
ends_are_images asks m [] h = refl
ends_are_images asks m (seat ∷ seats) h =
    let here : end_of (turn_of_want seat.want) ≡ end_of (asks m) = let same : m + 0 ≡ m = omega arith in ap end_of (h 0 seat refl ∙ ap asks same) in
    let rest = ends_are_images asks (m + 1) seats (λ j x e. let next : m + suc j ≡ m + 1 + j = omega arith in h (suc j) x e ∙ ap asks next) in
    λ k. here k ∷ rest k

-- ---- the end

-- where none fails a test, all pass it
all_pass : (test : ℕ → Bool) (ns : List ℕ) → filter (λ n. not (test n)) ns ≡ [] → filter test ns ≡ ns
all_pass test [] e = refl
all_pass test (n ∷ ns) e = by (λ f. all_pass test ns f) (test n) refl e
  where
    by : (filter (λ k. not (test k)) ns ≡ [] → filter test ns ≡ ns) → (b : Bool) → test n ≡ b
        → cond (not b) (n ∷ filter (λ k. not (test k)) ns) (filter (λ k. not (test k)) ns) ≡ [] → filter test (n ∷ ns) ≡ n ∷ ns
    by rest true t f = ap (λ (c : Bool). cond c (n ∷ filter test ns) (filter test ns)) t ∙ ap (λ (ks : List ℕ). n ∷ ks) (rest f)
    by rest false t f = absurd (cc)

all_finished :
    (shape : ShapeLists) (p : Program) (sizes : Sizes) (s : State) (checks : List ActiveCheck)
    → AreChecks shape p sizes s checks
    → next_agent shape p sizes s ≡ None
    → finished_in checks ≡ active_checks shape sizes s.journal
all_finished shape p sizes s checks h over =
    let tests : AllByRecursion (λ c. is_over c.awaits ≡ has_finished shape p sizes s c.lane.number) checks =
    recursion_from_All (λ c. is_over c.awaits ≡ has_finished shape p sizes s c.lane.number) checks
    (λ k d lt. over_is_finished shape p sizes s (get_or checks k d) (h.each k d lt)) in
    finished_numbers (has_finished shape p sizes s) checks tests
    ∙ ap (filter (has_finished shape p sizes s)) h.in_order
    ∙ all_pass (has_finished shape p sizes s) (active_checks shape sizes s.journal) (none_is_ready shape p sizes s over).1

-- what is left, part by part
pub record Leaves (shape : ShapeLists) (p : Program) (sizes : Sizes) (s : State) (main : ℕ) (checks : List ActiveCheck) (seats : List Seat) (verdicts : List Verdict) : Type 0 where
  pub all_checks : AreChecks shape p sizes s checks
  pub all_seats : AreSeats p sizes s.journal seats
  pub all_verdicts : AreVerdicts shape p sizes (with_retires main (finished_in checks) s) verdicts
  pub is_main : main ≡ sizes.mutators

-- what a run leaves once nobody can take a turn is what the model leaves: its journal, its verdicts, its ends and its free copies
pub ran_is_left :
    (shape : ShapeLists) (p : Program) (sizes : Sizes) (s : State) (main : ℕ) (checks : List ActiveCheck) (seats : List Seat) (verdicts : List Verdict) (ran : RanLists)
    → IsWellFormed shape p
    → AreWithinLimits sizes
    → IsSoundState shape p sizes s
    → next_agent shape p sizes s ≡ None
    → Leaves shape p sizes s main checks seats verdicts
    → ran ≡ record {
      journal = s.journal ++ retires main (finished_in checks);
      verdicts = verdicts;
      ends = map (λ (seat : Seat). end_of (turn_of_want seat.want)) seats;
      free = sizes.copies - length (kept_rows shape sizes (s.journal ++ retires main (finished_in checks)));
    }
    → ran ≡ ran_of shape p sizes s
ran_is_left shape p sizes s main checks seats verdicts ran formed limits sound over h e =
    e ∙ (λ i. record { journal = journal i; verdicts = right i; ends = ends i; free = sizes.copies - length (kept_rows shape sizes (journal i)) })
  where
    finished : finished_in checks ≡ active_checks shape sizes s.journal
    finished = all_finished shape p sizes s checks h.all_checks over

    journal : s.journal ++ retires main (finished_in checks) ≡ s.journal ++ retires sizes.mutators (active_checks shape sizes s.journal)
    journal = λ i. s.journal ++ retires (h.is_main i) (finished i)

    ends : map (λ (seat : Seat). end_of (turn_of_want seat.want)) seats ≡ map (λ m. end_of (request_of p sizes s m)) (range_with_len 0 sizes.mutators)
    ends =
        ends_are_images (request_of p sizes s) 0 seats
        (λ j seat there. seat_asks shape p sizes s j seats seat formed limits sound h.all_seats there ∙ (let same : j ≡ 0 + j = omega arith in ap (request_of p sizes s) same))
        ∙ ap (λ (n : ℕ). map (λ m. end_of (request_of p sizes s m)) (range_with_len 0 n)) h.all_seats.count

    world : world_after shape sizes (s.journal ++ retires main (finished_in checks)) ≡ with_retired (world_after shape sizes s.journal) (finished_in checks)
    world = world_after_retires shape sizes s.journal main (finished_in checks)

    none : active_checks shape sizes (s.journal ++ retires main (finished_in checks)) ≡ []
    none =
        ap (λ (w : World). w.active) world
        ∙ all_removed (finished_in checks) (active_checks shape sizes s.journal) (λ k there. ap (λ (ns : List ℕ). is_among ns k) finished ∙ there)

    value : ℕ → Verdict
    value n = verdict_of p sizes (launch_of shape sizes s.journal n) (s.progress n)

    each : (i : ℕ) → i < length verdicts → slice_get verdicts i ≡ Some (value (1 + i))
    each i lt =
        let most : 1 + i ≤ epoch_of shape sizes (s.journal ++ retires main (finished_in checks)) = omega (arith, lt, h.all_verdicts.count) in
        let there = h.all_verdicts.retired (1 + i) (omega arith) most (ap (λ (ns : List ℕ). is_among ns (1 + i)) none) in
        let launched : launch_of shape sizes s.journal (1 + i) ≡ Some there.launch = sym (ap (λ (w : World). w.launched (1 + i)) world) ∙ there.launched in
        let place : 1 + i - 1 ≡ i = omega arith in
        ap (slice_get verdicts) (sym place) ∙ there.stands ∙ ap (λ (o : Option Launched). Some (verdict_of p sizes o (s.progress (1 + i)))) (sym launched)

    right : verdicts ≡ map (λ n. verdict_of p sizes (launch_of shape sizes s.journal n) (s.progress n)) (range_with_len 1 (epoch_of shape sizes s.journal))
    right = verdicts_are_images value 1 verdicts each ∙ ap (λ (n : ℕ). map value (range_with_len 1 n)) (h.all_verdicts.count ∙ ap (λ (w : World). w.epoch) world)
