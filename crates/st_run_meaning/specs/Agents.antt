-- Who can take the next turn, and who does.
use Rattle.std.specs.Prelude.{ℕ, ◌+◌, ◌*◌, ◌/◌, ◌%◌, ◌^◌, nat_lt, Bool, true, false, not, ◌||◌, List, [], ◌++◌, length, map, filter}
use Rattle.std.specs.Prelude.{Option, Some, None, is_none, slice_get}
use Rattle.std.specs.List.{range_with_len}
use Rattle.st_events.specs.declared.limits.Sizes.{Sizes}
use Rattle.st_events.specs.Terms.{ShapeLists, Launched, launch_of, active_checks, own_events}
use Rattle.st_resolved.specs.Terms.{Program}
use Rattle.st_check_meaning.specs.Plain.{Cell, cells_read}
use Rattle.st_thread_meaning.specs.Deeds.{launch}
use Rattle.st_thread_meaning.specs.Right.{words_of}
use Rattle.st_thread_meaning.specs.Threads.{Turn, asks_for, has_ended, next_request, reply_of}
use Rattle.st_run_meaning.specs.declared.limits.TheConstants.{MULTIPLIER, INCREMENT, LOW_BITS}
use Rattle.st_run_meaning.specs.States.{Progress, has_read, abandoned_at, State}

-- what a mutator asks for next, or its end: its code after the replies of its own events
abbrev pub request_of : Program → Sizes → State → ℕ → Turn
request_of p sizes s m = next_request p sizes m (map reply_of (own_events m s.journal))

-- the cells that a check reads, in order, if it was launched
abbrev pub cells_of : Program → Sizes → Option Launched → List Cell
cells_of p sizes None = []
cells_of p sizes (Some launched) = cells_read p launched.past launched.site (words_of launched.args) sizes.calls

-- the cell after those that are read; who is abandoned reads no more
abbrev pub cell_after : Progress → List Cell → Option Cell
cell_after (has_read k) cells = slice_get cells k
cell_after (abandoned_at obj) cells = None

-- the cell that a check asks for next, if it asks for one
abbrev pub cell_asked : ShapeLists → Program → Sizes → State → ℕ → Option Cell
cell_asked shape p sizes s n = cell_after (s.progress n) (cells_of p sizes (launch_of shape sizes s.journal n))

-- a check that asks for no cell has finished
abbrev pub has_finished : ShapeLists → Program → Sizes → State → ℕ → Bool
has_finished shape p sizes s n = is_none (cell_asked shape p sizes s n)

-- the active checks that have finished, in order of number
abbrev pub finished_checks : ShapeLists → Program → Sizes → State → List ℕ
finished_checks shape p sizes s = filter (has_finished shape p sizes s) (active_checks shape sizes s.journal)

-- the active checks that have not, in order of number
abbrev pub unfinished_checks : ShapeLists → Program → Sizes → State → List ℕ
unfinished_checks shape p sizes s = filter (λ n. not (has_finished shape p sizes s n)) (active_checks shape sizes s.journal)

-- whether a check can be launched: some lane is idle, or some active check has finished
abbrev pub can_launch : ShapeLists → Program → Sizes → State → Bool
can_launch shape p sizes s =
    nat_lt (length (active_checks shape sizes s.journal)) sizes.lanes || nat_lt 0 (length (finished_checks shape p sizes s))

-- whether a mutator can take a turn: not after its end, and a launch only where there is room for it
abbrev pub can_turn : Turn → Bool → Bool
can_turn (has_ended end) room = false
can_turn (asks_for (launch site args)) room = room
can_turn (asks_for request) room = true

-- the mutators that can take a turn, in order of number
abbrev pub ready_mutators : ShapeLists → Program → Sizes → State → List ℕ
ready_mutators shape p sizes s = filter (λ m. can_turn (request_of p sizes s m) (can_launch shape p sizes s)) (range_with_len 0 sizes.mutators)

-- who takes a turn: a mutator or a check, by its number
pub data Agent : Type 0 where
  mutator : ℕ → Agent
  check : ℕ → Agent

-- those who can: mutators first, then checks that have not finished
abbrev pub agents : ShapeLists → Program → Sizes → State → List Agent
agents shape p sizes s = map mutator (ready_mutators shape p sizes s) ++ map check (unfinished_checks shape p sizes s)

-- the number after this one
abbrev pub number_after : ℕ → ℕ
number_after x = (x * MULTIPLIER + INCREMENT) % 2 ^ 64

-- one of them, as the number says; None where there is none
abbrev pub chosen : ℕ → List Agent → Option Agent
chosen x agents = slice_get agents ((x / 2 ^ LOW_BITS) % length agents)

-- who takes the next turn, if anyone can
abbrev pub next_agent : ShapeLists → Program → Sizes → State → Option Agent
next_agent shape p sizes s = chosen (number_after s.x) (agents shape p sizes s)
