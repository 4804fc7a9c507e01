-- A run on its way, turn by turn
use Rattle.std.proofs.Common.{◌≡◌, ℕ, zero, suc, ◌+◌, ◌-◌, ◌<◌, ◌≤◌, List, [], ◌∷◌, ◌++◌, true}
use Rattle.std.proofs.Common.{length-append, length, get_or, Option, slice_get, Some, None, refl, sym, ◌∙◌, ap, subst, arith, vec_capacity}
use Rattle.std.specs.List.{sum_by, AllByRecursion}
use Rattle.std.specs.Option.{option_map}
use Rattle.std.proofs.lemmas.List.{length-drop}
use Rattle.std.proofs.lemmas.List.Elements.{recursion_from_All}
use Rattle.std.proofs.lemmas.List.Sums.{sum_by-cons}
use Rattle.st_events.specs.declared.limits.Sizes.{Sizes}
use Rattle.st_events.specs.Terms.{ShapeLists, world_after, Launched, launch_of}
use Rattle.st_resolved.specs.Terms.{Program}
use Rattle.st_check_meaning.specs.Plain.{Cell as CellRead, Followed}
use Rattle.st_eval.specs.declared.evals.Eval.{Eval}
use Rattle.st_snap.specs.Snapshots.{Snapshots}
use Rattle.st_run_meaning.specs.States.{Progress, State, has_read, abandoned_at}
use Rattle.st_run_meaning.specs.Agents.{request_of, can_turn, can_launch, finished_checks, cells_of, Agent, mutator, check, number_after, next_agent}
use Rattle.st_run_meaning.specs.Runs.{by_turn, reads_left, all_reads_left}
use Rattle.st_run_meaning.specs.Steps.{event_of, retires, retired_for, turn_events, turn_of}
use Rattle.st_thread_meaning.specs.Threads.{Turn, asks_for, has_ended}
use Rattle.st_run_meaning.proofs.AgentLemmas.{chosen_is_ready}
use Rattle.st_run_meaning.proofs.EndLemmas.{reads_fall}
use Rattle.st_run_meaning.proofs.SoundLemmas.{turn_keeps_sound}
use Rattle.st_sched.specs.declared.agents.Agent as memory
use Rattle.st_sched.specs.declared.checks.ActiveCheck.{ActiveCheck}
use Rattle.st_sched.specs.declared.checks.Awaits.{Awaits}
use Rattle.st_sched.specs.declared.checks.Awaits.TheVariants.{Cell, Retire}
use Rattle.st_sched.specs.declared.running.Running.{Running}
use Rattle.st_sched.specs.Choosing.{agent_of, all_ready, chosen_of, numbers}
use Rattle.st_sched.specs.Standing.{IsInMemory, HasCome, left_of}
use Rattle.st_sched.specs.UnderWay.{AreSeats, Stands, IsTurnOf, IsOnTheWay}
use Rattle.st_sched.proofs.ChoiceLemmas.{chosen_is_next}
use Rattle.st_sched.proofs.CheckTurnLemmas.{stands_with}
use Rattle.st_sched.proofs.EndLemmas.{way_is_under_way}
use Rattle.st_sched.proofs.RunLemmas.{SameRoom}

-- ---- a turn is chosen, and taken

-- a run between two turns, whose next agent is known, may begin that agent's turn
abbrev pub turn_of_way :
    (shape : ShapeLists) (p : Program) (sizes : Sizes) (start : State) (r : Running) (a : Agent) (way : IsOnTheWay shape p sizes start r)
    → next_agent shape p sizes way.state ≡ Some a
    → IsTurnOf p a r
turn_of_way shape p sizes start r a way next = record {
  run = way_is_under_way shape p sizes start r way;
  sound = way.sound;
  seats = way.seats;
  next = next;
}

-- a run that has the same in memory is on the way too
abbrev pub way_with :
    (shape : ShapeLists) (p : Program) (sizes : Sizes) (start : State) (before after : Running)
    → after.heap ≡ before.heap
    → after.checks.items ≡ before.checks.items
    → after.idle.items ≡ before.idle.items
    → after.verdicts.items ≡ before.verdicts.items
    → after.seats.items ≡ before.seats.items
    → after.x ≡ before.x
    → SameRoom before after
    → IsOnTheWay shape p sizes start before
    → IsOnTheWay shape p sizes start after
way_with shape p sizes start before after heap checks idle verdicts seats x same h = record {
  state = h.state;
  formed = h.formed;
  limits = h.limits;
  x = x ∙ h.x;
  stands = stands_with shape p sizes h.state before after heap checks idle verdicts same h.stands;
  seats = subst (AreSeats p sizes h.state.journal) (sym seats) h.seats;
  sound = h.sound;
  onward = h.onward;
}

number_of_turn : (shape : ShapeLists) (p : Program) (sizes : Sizes) (s : State) (a : Agent) → (turn_of shape p sizes s a).x ≡ number_after s.x
number_of_turn shape p sizes s (mutator m) = refl
number_of_turn shape p sizes s (check n) = refl

-- a run that stands for the state after the chosen agent's turn is one turn further on its way
pub way_after_turn :
    (shape : ShapeLists) (p : Program) (sizes : Sizes) (start : State) (before after : Running) (a : Agent) (way : IsOnTheWay shape p sizes start before)
    → next_agent shape p sizes way.state ≡ Some a
    → Stands shape p sizes (turn_of shape p sizes way.state a) after
    → AreSeats p sizes (turn_of shape p sizes way.state a).journal after.seats.items
    → after.x ≡ number_after way.state.x
    → IsOnTheWay shape p sizes start after
way_after_turn shape p sizes start before after a way next stands seats x = record {
  state = turn_of shape p sizes way.state a;
  formed = way.formed;
  limits = way.limits;
  x = x ∙ sym (number_of_turn shape p sizes way.state a);
  stands = stands;
  seats = seats;
  sound = turn_keeps_sound shape p way.formed sizes way.state a way.sound (chosen_is_ready shape p sizes way.state a next);
  onward = λ end comes. way.onward end (by_turn way.state end a next comes);
}

-- on the way, who is chosen in memory by the next number is the next agent of the model
pub chosen_on_way :
    (shape : ShapeLists) (p : Program) (sizes : Sizes) (start : State) (r : Running) (x : ℕ) (result : Option memory.Agent) (way : IsOnTheWay shape p sizes start r)
    → x ≡ number_after r.x
    → result ≡ chosen_of x (all_ready r.seats.items r.checks.items (length r.idle.items))
    → next_agent shape p sizes way.state ≡ option_map (agent_of r.checks.items) result
chosen_on_way shape p sizes start r x result way number chosen =
    chosen_is_next shape p sizes way.state r.seats.items r.checks.items (length r.idle.items) result way.formed way.limits way.sound way.seats way.stands.checks
    way.stands.room.lanes (chosen ∙ ap (λ (n : ℕ). chosen_of n (all_ready r.seats.items r.checks.items (length r.idle.items))) (number ∙ ap number_after way.x))

-- ---- how many reads are left

-- of a check in memory that waits for a cell, what it reads from here on
abbrev pub cells_left : Program → Option Launched → Awaits → Eval → ℕ
cells_left p None awaits e = 0
cells_left p (Some launch) (Cell obj field) e = length (left_of p launch.past obj field e).cells
cells_left p (Some launch) (Retire verdict) e = 0

-- of all checks
abbrev pub reads_in_memory : Program → Snapshots → List ActiveCheck → ℕ
reads_in_memory p h checks = sum_by (λ c. cells_left p (launch_of h.shape h.sizes h.journal c.lane.number) c.awaits c.eval) checks

none_behind : (cells : List CellRead) (k : ℕ) → slice_get cells k ≡ None → length cells - k ≡ 0
none_behind [] k e = omega arith
none_behind (c ∷ cells) zero e = absurd (cc)
none_behind (c ∷ cells) (suc k) e = let rest = none_behind cells k e in omega (arith, rest)

left_is_left :
    (p : Program) (sizes : Sizes) (launch : Launched) (e : Eval) (awaits : Awaits) (q : Progress)
    → HasCome p sizes launch e awaits q
    → cells_left p (Some launch) awaits e ≡ reads_left q (cells_of p sizes (Some launch))
left_is_left p sizes launch e (Cell obj field) (has_read k) come = ap (λ (f : Followed). length f.cells) come ∙ length-drop k (cells_of p sizes (Some launch))
left_is_left p sizes launch e (Cell obj field) (abandoned_at o) come = absurd come
left_is_left p sizes launch e (Retire verdict) (has_read k) come = sym (none_behind (cells_of p sizes (Some launch)) k come.0)
left_is_left p sizes launch e (Retire verdict) (abandoned_at o) come = refl

sums_are_same : (f : ActiveCheck → ℕ) (g : ℕ → ℕ) (checks : List ActiveCheck) → AllByRecursion (λ c. f c ≡ g c.lane.number) checks → sum_by f checks ≡ sum_by g (numbers checks)
sums_are_same f g [] h = refl
sums_are_same f g (c ∷ cs) h =
    let rest = sums_are_same f g cs h.1 in
    let here = h.0 in omega (arith, rest, here, sum_by-cons f c cs, sum_by-cons g c.lane.number (numbers cs))

-- the reads that the checks in memory have left are as many as the model counts
pub reads_are_left :
    (shape : ShapeLists) (p : Program) (sizes : Sizes) (s : State) (r : Running)
    → Stands shape p sizes s r
    → reads_in_memory p r.heap r.checks.items ≡ all_reads_left shape p sizes s
reads_are_left shape p sizes s r h =
    ap (λ (x : Snapshots). reads_in_memory p x r.checks.items) h.heap
    ∙ sums_are_same (λ c. cells_left p (launch_of shape sizes s.journal c.lane.number) c.awaits c.eval)
    (λ n. reads_left (s.progress n) (cells_of p sizes (launch_of shape sizes s.journal n))) r.checks.items
    (recursion_from_All (λ c. cells_left p (launch_of shape sizes s.journal c.lane.number) c.awaits c.eval
    ≡ reads_left (s.progress c.lane.number) (cells_of p sizes (launch_of shape sizes s.journal c.lane.number))) r.checks.items
    (λ k d lt. let m = h.checks.each k d lt in one (get_or r.checks.items k d) m))
    ∙ ap (sum_by (λ n. reads_left (s.progress n) (cells_of p sizes (launch_of shape sizes s.journal n)))) h.checks.in_order
  where
    one : (c : ActiveCheck) → IsInMemory shape p sizes s c
        → cells_left p (launch_of shape sizes s.journal c.lane.number) c.awaits c.eval ≡ reads_left (s.progress c.lane.number) (cells_of p sizes (launch_of shape sizes s.journal c.lane.number))
    one c m =
        ap (λ (o : Option Launched). cells_left p o c.awaits c.eval) m.launched
        ∙ left_is_left p sizes m.launch c.eval c.awaits (s.progress c.lane.number) m.come
        ∙ ap (λ (o : Option Launched). reads_left (s.progress c.lane.number) (cells_of p sizes o)) (sym m.launched)

-- a check's turn leaves fewer
pub fewer_reads :
    (shape : ShapeLists) (p : Program) (sizes : Sizes) (s : State) (n : ℕ) (before after : Running)
    → next_agent shape p sizes s ≡ Some (check n)
    → Stands shape p sizes s before
    → Stands shape p sizes (turn_of shape p sizes s (check n)) after
    → reads_in_memory p after.heap after.checks.items < reads_in_memory p before.heap before.checks.items
fewer_reads shape p sizes s n before after next h later =
    let less = reads_fall shape p sizes s n (chosen_is_ready shape p sizes s (check n) next) in
    omega (arith, less, reads_are_left shape p sizes s before h, reads_are_left shape p sizes (turn_of shape p sizes s (check n)) after later)

-- ---- between the turns

-- only the list of who is ready has changed
abbrev pub way_listed :
    (shape : ShapeLists) (p : Program) (sizes : Sizes) (start : State) (before after : Running)
    → after ≡ record before { ready = after.ready }
    → vec_capacity after.ready ≡ vec_capacity before.ready
    → IsOnTheWay shape p sizes start before
    → IsOnTheWay shape p sizes start after
way_listed shape p sizes start before after rest capacity h =
    way_with shape p sizes start before after (ap (λ (r : Running). r.heap) rest) (ap (λ (r : Running). r.checks.items) rest) (ap (λ (r : Running). r.idle.items) rest)
    (ap (λ (r : Running). r.verdicts.items) rest) (ap (λ (r : Running). r.seats.items) rest) (ap (λ (r : Running). r.x) rest)
    (record {
      checks = ap (λ (r : Running). vec_capacity r.checks) rest;
      idle = ap (λ (r : Running). vec_capacity r.idle) rest;
      verdicts = ap (λ (r : Running). vec_capacity r.verdicts) rest;
      ready = capacity;
      ends = ap (λ (r : Running). vec_capacity r.ends) rest;
      items = ap (λ (r : Running). r.ends.items) rest;
    }) h

-- a thread's turn makes an event
pub journal_grows :
    (shape : ShapeLists) (p : Program) (sizes : Sizes) (s : State) (m : ℕ)
    → next_agent shape p sizes s ≡ Some (mutator m)
    → length s.journal < length (turn_of shape p sizes s (mutator m)).journal
journal_grows shape p sizes s m next = by (request_of p sizes s m) (chosen_is_ready shape p sizes s (mutator m) next).1
  where
    by : (u : Turn) → can_turn u (can_launch shape p sizes s) ≡ true → length s.journal < length (s.journal ++ turn_events shape p sizes s m u)
    by (has_ended end) can = absurd (cc)
    by (asks_for request) can =
        let es = retires m (retired_for request (finished_checks shape p sizes s)) in
        let e = event_of sizes (world_after shape sizes s.journal) m request in
        omega (arith, length-append s.journal (es ++ e ∷ []), length-append es (e ∷ []))

-- all that the choice is made of
pub seats_and_checks_fit :
    (shape : ShapeLists) (p : Program) (sizes : Sizes) (start : State) (r : Running)
    → IsOnTheWay shape p sizes start r
    → length r.seats.items + length r.checks.items ≤ vec_capacity r.ready
seats_and_checks_fit shape p sizes start r way = let room = way.stands.room in omega (arith, room.lanes, room.ready, way.seats.count)

-- the state after a turn, with the next number
pub way_after_numbered_turn :
    (shape : ShapeLists) (p : Program) (sizes : Sizes) (start : State) (before after : Running) (a : Agent) (way : IsOnTheWay shape p sizes start before) (last : Running)
    → next_agent shape p sizes way.state ≡ Some a
    → Stands shape p sizes (turn_of shape p sizes way.state a) after
    → AreSeats p sizes (turn_of shape p sizes way.state a).journal after.seats.items
    → last ≡ record after { x = last.x }
    → last.x ≡ number_after before.x
    → IsOnTheWay shape p sizes start last
way_after_numbered_turn shape p sizes start before after a way last next stands seats same x =
    way_after_turn shape p sizes start before last a way next
    (stands_with shape p sizes (turn_of shape p sizes way.state a) after last (ap (λ (r : Running). r.heap) same) (ap (λ (r : Running). r.checks.items) same)
    (ap (λ (r : Running). r.idle.items) same) (ap (λ (r : Running). r.verdicts.items) same)
    (record {
      checks = ap (λ (r : Running). vec_capacity r.checks) same;
      idle = ap (λ (r : Running). vec_capacity r.idle) same;
      verdicts = ap (λ (r : Running). vec_capacity r.verdicts) same;
      ready = ap (λ (r : Running). vec_capacity r.ready) same;
      ends = ap (λ (r : Running). vec_capacity r.ends) same;
      items = ap (λ (r : Running). r.ends.items) same;
    }) stands)
    (subst (AreSeats p sizes (turn_of shape p sizes way.state a).journal) (sym (ap (λ (r : Running). r.seats.items) same)) seats)
    (x ∙ ap number_after way.x)
