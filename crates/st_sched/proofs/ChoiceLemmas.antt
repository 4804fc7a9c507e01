-- Who is chosen in memory is who is chosen in the model
use Rattle.std.proofs.Common.{◌≡◌, ℕ, zero, suc, ◌+◌, ◌<◌, ◌≤◌, ◌/◌, ◌%◌, ◌^◌, ◌||◌, nat_lt, Bool, true, false, not, cond, inl, inr, List, [], ◌∷◌, ◌++◌, length, map, filter, take, get_or}
use Rattle.std.proofs.Common.{Option, slice_get, Some, refl, sym, ◌∙◌, ap, subst, arith}
use Rattle.std.specs.Prelude.{is_none}
use Rattle.std.specs.List.{range_with_len, AllByRecursion}
use Rattle.std.specs.Option.{option_map}
use Rattle.std.proofs.lemmas.Bool.{cases_lt}
use Rattle.std.proofs.lemmas.Bool.Decides.{nat_tests}
use Rattle.std.proofs.lemmas.List.{length-map, map-append}
use Rattle.std.proofs.lemmas.List.Elements.{recursion_from_All}
use Rattle.st_events.specs.declared.limits.Sizes.{Sizes}
use Rattle.st_events.specs.Sizes.{AreWithinLimits}
use Rattle.st_events.specs.Sound.{IsSoundWorld}
use Rattle.st_events.specs.Terms.{ShapeLists, Launched, is_among, world_after, active_checks}
use Rattle.st_events.proofs.SoundLemmas.{legal_is_sound}
use Rattle.st_resolved.specs.Terms.{Program}
use Rattle.st_resolved.specs.WellFormed.{IsWellFormed}
use Rattle.st_eval.specs.declared.evals.Eval.{Eval}
use Rattle.st_mutator.specs.Mutators.{turn_of_want}
use Rattle.st_run_meaning.specs.declared.limits.TheConstants.{LOW_BITS}
use Rattle.st_run_meaning.specs.States.{Progress, State}
use Rattle.st_run_meaning.specs.Agents.{request_of, cells_of, cell_after, cell_asked, has_finished, can_launch, can_turn, mutator, check, agents, number_after, next_agent}
use Rattle.st_run_meaning.specs.Agents as model
use Rattle.st_run_meaning.specs.SoundStates.{IsSoundState}
use Rattle.st_run_meaning.proofs.AgentLemmas.{chosen_is_ready}
use Rattle.st_thread_meaning.specs.Threads.{Turn}
use Rattle.st_sched.specs.declared.agents.Agent.{Agent}
use Rattle.st_sched.specs.declared.agents.Agent.TheVariants.{Mutator, Check}
use Rattle.st_sched.specs.declared.checks.ActiveCheck.{ActiveCheck}
use Rattle.st_sched.specs.declared.checks.Awaits.{Awaits}
use Rattle.st_sched.specs.declared.checks.Awaits.TheVariants.{Cell, Retire}
use Rattle.st_sched.specs.declared.seats.Seat.{Seat}
use Rattle.st_sched.specs.Checks.{is_over}
use Rattle.st_sched.specs.Choosing.{ready_seats, ready_checks, numbers, some_over, agent_of, has_room, all_ready, chosen_of}
use Rattle.st_sched.specs.Standing.{IsInMemory, AreChecks, HasCome, number_at}
use Rattle.st_sched.specs.UnderWay.{AreSeats}
use Rattle.st_sched.proofs.ReadLemmas.{has_read_so}
use Rattle.st_sched.proofs.RetireLemmas.{number_is_at, length_of_numbers}
use Rattle.st_sched.proofs.SeatLemmas.{seat_asks}

-- ---- checks that have finished

come_is_over :
    (p : Program) (sizes : Sizes) (launch : Launched) (e : Eval) (awaits : Awaits) (q : Progress)
    → HasCome p sizes launch e awaits q
    → is_over awaits ≡ is_none (cell_after q (cells_of p sizes (Some launch)))
come_is_over p sizes launch e (Cell obj field) q come =
    let so = has_read_so p sizes launch obj field e q come in
    sym (ap (λ (r : Progress). is_none (cell_after r (cells_of p sizes (Some launch)))) so.reads ∙ ap is_none so.next.cell)
come_is_over p sizes launch e (Retire verdict) q come = sym (ap is_none come.0)

-- a check in memory has its verdict exactly where the model says that it has finished
pub over_is_finished :
    (shape : ShapeLists) (p : Program) (sizes : Sizes) (s : State) (c : ActiveCheck)
    → IsInMemory shape p sizes s c
    → is_over c.awaits ≡ has_finished shape p sizes s c.lane.number
over_is_finished shape p sizes s c h =
    come_is_over p sizes h.launch c.eval c.awaits (s.progress c.lane.number) h.come
    ∙ ap (λ (o : Option Launched). is_none (cell_after (s.progress c.lane.number) (cells_of p sizes o))) (sym h.launched)

-- the numbers of those that have finished
pub finished_numbers :
    (test : ℕ → Bool) (checks : List ActiveCheck)
    → AllByRecursion (λ c. is_over c.awaits ≡ test c.lane.number) checks
    → numbers (filter (λ c. is_over c.awaits) checks) ≡ filter test (numbers checks)
finished_numbers test [] h = refl
finished_numbers test (c ∷ cs) h = by (is_over c.awaits) (test c.lane.number) h.0 (finished_numbers test cs h.1)
  where
    by : (b t : Bool) → b ≡ t → numbers (filter (λ c. is_over c.awaits) cs) ≡ filter test (numbers cs)
        → numbers (cond b (c ∷ filter (λ c. is_over c.awaits) cs) (filter (λ c. is_over c.awaits) cs)) ≡ cond t (c.lane.number ∷ filter test (numbers cs)) (filter test (numbers cs))
    by true true e rest = ap (λ (ns : List ℕ). c.lane.number ∷ ns) rest
    by true false e rest = absurd (cc)
    by false true e rest = absurd (cc)
    by false false e rest = rest

some_there : (n : ℕ) → true ≡ nat_lt 0 (suc n)
some_there n = grind (arith, nat_tests)

some_finished :
    (test : ℕ → Bool) (checks : List ActiveCheck)
    → AllByRecursion (λ c. is_over c.awaits ≡ test c.lane.number) checks
    → some_over checks ≡ nat_lt 0 (length (filter test (numbers checks)))
some_finished test [] h = refl
some_finished test (c ∷ cs) h = by (is_over c.awaits) (test c.lane.number) h.0 (some_finished test cs h.1)
  where
    by : (b t : Bool) → b ≡ t → some_over cs ≡ nat_lt 0 (length (filter test (numbers cs)))
        → (b || some_over cs) ≡ nat_lt 0 (length (cond t (c.lane.number ∷ filter test (numbers cs)) (filter test (numbers cs))))
    by true true e rest = some_there (length (filter test (numbers cs)))
    by true false e rest = absurd (cc)
    by false true e rest = absurd (cc)
    by false false e rest = rest

-- ---- agents

checks_are_agents :
    (checks : List ActiveCheck) (test : ℕ → Bool) (i : ℕ) (cs : List ActiveCheck)
    → AllByRecursion (λ c. is_over c.awaits ≡ test c.lane.number) cs
    → ((j : ℕ) (c : ActiveCheck) → slice_get cs j ≡ Some c → number_at checks (i + j) ≡ c.lane.number)
    → map (agent_of checks) (ready_checks i cs) ≡ map check (filter (λ n. not (test n)) (numbers cs))
checks_are_agents checks test i [] h at = refl
checks_are_agents checks test i (c ∷ cs) h at =
    by (is_over c.awaits) (test c.lane.number) h.0
    (checks_are_agents checks test (i + 1) cs h.1 (λ j d e. let next : i + 1 + j ≡ i + suc j = omega arith in ap (number_at checks) next ∙ at (suc j) d e))
  where
    here : number_at checks i ≡ c.lane.number
    here = let same : i ≡ i + 0 = omega arith in ap (number_at checks) same ∙ at 0 c refl

    rest : List ℕ
    rest = filter (λ n. not (test n)) (numbers cs)

    by : (b t : Bool) → b ≡ t → map (agent_of checks) (ready_checks (i + 1) cs) ≡ map check rest
        → map (agent_of checks) (cond b (ready_checks (i + 1) cs) (Check i ∷ ready_checks (i + 1) cs)) ≡ map check (cond (not t) (c.lane.number ∷ rest) rest)
    by true true e same = same
    by true false e same = absurd (cc)
    by false true e same = absurd (cc)
    by false false e same = λ k. check (here k) ∷ same k

seats_are_agents :
    (checks : List ActiveCheck) (asks : ℕ → Turn) (room : Bool) (m : ℕ) (seats : List Seat)
    → ((j : ℕ) (seat : Seat) → slice_get seats j ≡ Some seat → turn_of_want seat.want ≡ asks (m + j))
    → map (agent_of checks) (ready_seats m room seats) ≡ map mutator (filter (λ k. can_turn (asks k) room) (range_with_len m (length seats)))
seats_are_agents checks asks room m [] h = refl
seats_are_agents checks asks room m (seat ∷ seats) h =
    by (can_turn (turn_of_want seat.want) room) (can_turn (asks m) room) (ap (λ (t : Turn). can_turn t room) here)
    (seats_are_agents checks asks room (m + 1) seats (λ j x e. let next : m + suc j ≡ m + 1 + j = omega arith in h (suc j) x e ∙ ap asks next))
  where
    here : turn_of_want seat.want ≡ asks m
    here = let same : m + 0 ≡ m = omega arith in h 0 seat refl ∙ ap asks same

    rest : List ℕ
    rest = filter (λ k. can_turn (asks k) room) (range_with_len (m + 1) (length seats))

    by : (b t : Bool) → b ≡ t → map (agent_of checks) (ready_seats (m + 1) room seats) ≡ map mutator rest
        → map (agent_of checks) (cond b (Mutator m ∷ ready_seats (m + 1) room seats) (ready_seats (m + 1) room seats)) ≡ map mutator (cond t (m ∷ rest) rest)
    by true true e same = ap (λ (all : List model.Agent). mutator m ∷ all) same
    by true false e same = absurd (cc)
    by false true e same = absurd (cc)
    by false false e same = same

-- ---- the choice

get_of_images : (f : Agent → model.Agent) (xs : List Agent) (i : ℕ) → slice_get (map f xs) i ≡ option_map f (slice_get xs i)
get_of_images f [] i = refl
get_of_images f (x ∷ xs) zero = refl
get_of_images f (x ∷ xs) (suc i) = get_of_images f xs i

same_test : (idle n lanes : ℕ) → idle + n ≡ lanes → nat_lt 0 idle ≡ nat_lt n lanes
same_test idle n lanes e = grind (arith, nat_tests)

-- who is chosen in memory, by the number and among all who are ready there, is the next agent of the model
pub chosen_is_next :
    (shape : ShapeLists) (p : Program) (sizes : Sizes) (s : State) (seats : List Seat) (checks : List ActiveCheck) (idle : ℕ) (result : Option Agent)
    → IsWellFormed shape p
    → AreWithinLimits sizes
    → IsSoundState shape p sizes s
    → AreSeats p sizes s.journal seats
    → AreChecks shape p sizes s checks
    → idle + length checks ≡ sizes.lanes
    → result ≡ chosen_of (number_after s.x) (all_ready seats checks idle)
    → next_agent shape p sizes s ≡ option_map (agent_of checks) result
chosen_is_next shape p sizes s seats checks idle result formed limits sound h hc lanes chosen =
    ap (λ (all : List model.Agent). slice_get all ((number_after s.x / 2 ^ LOW_BITS) % length all)) (sym same_agents)
    ∙ ap (λ (n : ℕ). slice_get (map (agent_of checks) mine) ((number_after s.x / 2 ^ LOW_BITS) % n)) (length-map mine (agent_of checks))
    ∙ get_of_images (agent_of checks) mine ((number_after s.x / 2 ^ LOW_BITS) % length mine)
    ∙ ap (option_map (agent_of checks)) (sym chosen)
  where
    mine : List Agent
    mine = all_ready seats checks idle

    tests : AllByRecursion (λ c. is_over c.awaits ≡ has_finished shape p sizes s c.lane.number) checks
    tests = recursion_from_All (λ c. is_over c.awaits ≡ has_finished shape p sizes s c.lane.number) checks
        (λ k d lt. over_is_finished shape p sizes s (get_or checks k d) (hc.each k d lt))

    active : length (active_checks shape sizes s.journal) ≡ length checks
    active = ap length (sym hc.in_order) ∙ length_of_numbers checks

    room : has_room idle checks ≡ can_launch shape p sizes s
    room =
        let first : nat_lt 0 idle ≡ nat_lt (length (active_checks shape sizes s.journal)) sizes.lanes =
        same_test idle (length (active_checks shape sizes s.journal)) sizes.lanes (omega (arith, lanes, active)) in
        let second : some_over checks ≡ nat_lt 0 (length (filter (has_finished shape p sizes s) (active_checks shape sizes s.journal))) =
        some_finished (has_finished shape p sizes s) checks tests
        ∙ ap (λ (ns : List ℕ). nat_lt 0 (length (filter (has_finished shape p sizes s) ns))) hc.in_order in
        λ i. first i || second i

    threads : map (agent_of checks) (ready_seats 0 (has_room idle checks) seats)
        ≡ map mutator (filter (λ m. can_turn (request_of p sizes s m) (can_launch shape p sizes s)) (range_with_len 0 sizes.mutators))
    threads =
        seats_are_agents checks (request_of p sizes s) (has_room idle checks) 0 seats
        (λ j seat e. seat_asks shape p sizes s j seats seat formed limits sound h e ∙ (let same : j ≡ 0 + j = omega arith in ap (request_of p sizes s) same))
        ∙ ap (λ (b : Bool). map mutator (filter (λ m. can_turn (request_of p sizes s m) b) (range_with_len 0 (length seats)))) room
        ∙ ap (λ (n : ℕ). map mutator (filter (λ m. can_turn (request_of p sizes s m) (can_launch shape p sizes s)) (range_with_len 0 n))) h.count

    others : map (agent_of checks) (ready_checks 0 checks) ≡ map check (filter (λ n. not (has_finished shape p sizes s n)) (active_checks shape sizes s.journal))
    others =
        checks_are_agents checks (has_finished shape p sizes s) 0 checks tests
        (λ j c e. (let same : 0 + j ≡ j = omega arith in ap (number_at checks) same) ∙ number_is_at checks j c e)
        ∙ ap (λ (ns : List ℕ). map check (filter (λ n. not (has_finished shape p sizes s n)) ns)) hc.in_order

    same_agents : map (agent_of checks) mine ≡ agents shape p sizes s
    same_agents = map-append (agent_of checks) (ready_seats 0 (has_room idle checks) seats) (ready_checks 0 checks) ∙ (λ i. threads i ++ others i)

-- ---- the place of a chosen check

none_beyond : (ns : List ℕ) (i : ℕ) → length ns ≤ i → get_or ns i 0 ≡ 0
none_beyond [] i le = refl
none_beyond (n ∷ ns) zero le = absurd (omega (arith, le))
none_beyond (n ∷ ns) (suc i) le = none_beyond ns i (omega (arith, le))

-- a check that is chosen stands at its place among the active checks
pub chosen_check_is_there :
    (shape : ShapeLists) (p : Program) (sizes : Sizes) (s : State) (checks : List ActiveCheck) (i : ℕ)
    → IsWellFormed shape p
    → IsSoundState shape p sizes s
    → AreChecks shape p sizes s checks
    → next_agent shape p sizes s ≡ Some (check (number_at checks i))
    → i < length checks
chosen_check_is_there shape p sizes s checks i formed sound h next = elim (cases_lt i (length checks)) [ inl below ↦ below | inr above ↦ absurd (beyond above) ]
  where
    ready : is_among (active_checks shape sizes s.journal) (number_at checks i) ≡ true
    ready = (chosen_is_ready shape p sizes s (check (number_at checks i)) next).0

    world : IsSoundWorld shape sizes (world_after shape sizes s.journal)
    world = legal_is_sound shape sizes formed.shape_fits s.journal sound.legal

    beyond : length checks ≤ i → ⊥
    beyond le =
        let none : number_at checks i ≡ 0 = none_beyond (numbers checks) i (omega (arith, le, length_of_numbers checks)) in
        let some : 1 ≤ number_at checks i = (world.active.launched (number_at checks i) ready).0 in omega (arith, none, some)

-- ---- lists that are long enough

-- no more threads are ready than there are
pub ready_seats_are_few : (m : ℕ) (room : Bool) (seats : List Seat) → length (ready_seats m room seats) ≤ length seats
ready_seats_are_few m room [] = omega arith
ready_seats_are_few m room (seat ∷ seats) = by (can_turn (turn_of_want seat.want) room) (ready_seats_are_few (m + 1) room seats)
  where
    by : (b : Bool) → length (ready_seats (m + 1) room seats) ≤ length seats
        → length (cond b (Mutator m ∷ ready_seats (m + 1) room seats) (ready_seats (m + 1) room seats)) ≤ length (seat ∷ seats)
    by true few = omega (arith, few)
    by false few = omega (arith, few)

-- with no idle lane, a check can be launched exactly where some check has finished
pub none_is_idle : (idle : ℕ) (checks : List ActiveCheck) → idle ≡ 0 → some_over checks ≡ has_room idle checks
none_is_idle idle checks e = subst (λ (n : ℕ). some_over checks ≡ has_room n checks) (sym e) refl

-- the first none of the agents are none
pub none_taken : (agents : List Agent) → take 0 agents ≡ []
none_taken [] = refl
none_taken (a ∷ agents) = refl
