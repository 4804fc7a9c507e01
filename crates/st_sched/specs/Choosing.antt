-- Who can take a turn, as the run in memory sees it.
use Rattle.std.specs.Prelude.{ℕ, ◌+◌, Bool, cond, List, [], ◌∷◌, ◌++◌, map, ◌||◌, ◌/◌, ◌%◌, ◌^◌, length, nat_lt, get_or, slice_get, Option}
use Rattle.st_run_meaning.specs.declared.limits.TheConstants.{LOW_BITS}
use Rattle.std.specs.List.{list_any}
use Rattle.st_run_meaning.specs.Agents.{can_turn, mutator, check}
use Rattle.st_run_meaning.specs.Agents as model
use Rattle.st_mutator.specs.Mutators.{turn_of_want}
use Rattle.st_sched.specs.declared.agents.Agent.{Agent}
use Rattle.st_sched.specs.declared.agents.Agent.TheVariants.{Mutator, Check}
use Rattle.st_sched.specs.declared.checks.ActiveCheck.{ActiveCheck}
use Rattle.st_sched.specs.declared.seats.Seat.{Seat}
use Rattle.st_sched.specs.Checks.{is_over}

-- the threads that can take a turn, the first of these having this number
abbrev pub ready_seats : ℕ → Bool → List Seat → List Agent
ready_seats m room [] = []
ready_seats m room (seat ∷ seats) =
    cond (can_turn (turn_of_want seat.want) room) (Mutator m ∷ ready_seats (m + 1) room seats) (ready_seats (m + 1) room seats)

-- the active checks that have not finished, the first of these standing at this place
abbrev pub ready_checks : ℕ → List ActiveCheck → List Agent
ready_checks index [] = []
ready_checks index (c ∷ cs) = cond (is_over c.awaits) (ready_checks (index + 1) cs) (Check index ∷ ready_checks (index + 1) cs)

-- the numbers of the checks
abbrev pub numbers : List ActiveCheck → List ℕ
numbers checks = map (λ c. c.lane.number) checks

-- whether some check has finished
abbrev pub some_over : List ActiveCheck → Bool
some_over checks = list_any (λ c. is_over c.awaits) checks

-- the agent of the model
abbrev pub agent_of : List ActiveCheck → Agent → model.Agent
agent_of checks (Mutator m) = mutator m
agent_of checks (Check index) = check (get_or (numbers checks) index 0)

-- whether a check can be launched, with so many idle lanes
abbrev pub has_room : ℕ → List ActiveCheck → Bool
has_room idle checks = nat_lt 0 idle || some_over checks

-- all who can take a turn
abbrev pub all_ready : List Seat → List ActiveCheck → ℕ → List Agent
all_ready seats checks idle = ready_seats 0 (has_room idle checks) seats ++ ready_checks 0 checks

-- one of them, as the number says; None where there is none
abbrev pub chosen_of : ℕ → List Agent → Option Agent
chosen_of x agents = slice_get agents ((x / 2 ^ LOW_BITS) % length agents)
