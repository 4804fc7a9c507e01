-- A scheduled run: turns until no agent is left.
use Rattle.std.specs.Prelude.{◌≡◌, ℕ, zero, suc, ◌+◌, ◌-◌, List, ◌++◌, length, map, Option, Some, None}
use Rattle.std.specs.List.{range_with_len, sum_by}
use Rattle.st_events.specs.declared.events.Event.{Event}
use Rattle.st_events.specs.declared.limits.Sizes.{Sizes}
use Rattle.st_events.specs.declared.verdicts.End.{End}
use Rattle.st_events.specs.declared.verdicts.End.TheVariants.{Finished}
use Rattle.st_events.specs.declared.verdicts.Plain.{Plain}
use Rattle.st_events.specs.declared.verdicts.Plain.TheVariants.{Fails}
use Rattle.st_events.specs.declared.verdicts.Verdict.{Verdict}
use Rattle.st_events.specs.declared.verdicts.Verdict.TheVariants.{Plain as Value, Abandoned}
use Rattle.st_events.specs.Terms.{ShapeLists, Launched, RanLists, launch_of, epoch_of, active_checks, kept_rows, own_events}
use Rattle.st_resolved.specs.Terms.{Program}
use Rattle.st_check_meaning.specs.Plain.{Cell, plain_value}
use Rattle.st_thread_meaning.specs.Right.{words_of}
use Rattle.st_thread_meaning.specs.Threads.{Turn, asks_for, has_ended}
use Rattle.st_run_meaning.specs.States.{Progress, has_read, abandoned_at, State, first_state}
use Rattle.st_run_meaning.specs.Agents.{request_of, cells_of, Agent, mutator, check, next_agent}
use Rattle.st_run_meaning.specs.Steps.{retires, turn_of}

-- by turns a run comes from a state to one where no agent is left
pub data ComesTo (shape : ShapeLists) (p : Program) (sizes : Sizes) : State → State → Type 0 where
  is_over : (s : State) → next_agent shape p sizes s ≡ None → ComesTo shape p sizes s s
  by_turn :
      (s end : State) (a : Agent)
      → next_agent shape p sizes s ≡ Some a
      → ComesTo shape p sizes (turn_of shape p sizes s a) end
      → ComesTo shape p sizes s end

-- the plain value of a check, if it was launched; the checks of a run were
abbrev pub value_of : Program → Sizes → Option Launched → Plain
value_of p sizes None = Fails
value_of p sizes (Some launched) = plain_value p launched.past launched.site (words_of launched.args) sizes.calls

-- the verdict of a check that has finished: its plain value, or where it was abandoned
abbrev pub verdict_of : Program → Sizes → Option Launched → Progress → Verdict
verdict_of p sizes launched (has_read k) = Value (value_of p sizes launched)
verdict_of p sizes launched (abandoned_at obj) = Abandoned obj

-- the end of a thread that has ended; where no agent is left each has
abbrev pub end_of : Turn → End
end_of (has_ended end) = end
end_of (asks_for request) = Finished

-- the whole journal: at the end the main thread retires each check that is left, in order of number
abbrev pub whole_journal : ShapeLists → Sizes → State → List Event
whole_journal shape sizes s = s.journal ++ retires sizes.mutators (active_checks shape sizes s.journal)

-- what a run leaves that has come to this state
abbrev pub ran_of : ShapeLists → Program → Sizes → State → RanLists
ran_of shape p sizes s = record {
  journal = whole_journal shape sizes s;
  verdicts = map (λ n. verdict_of p sizes (launch_of shape sizes s.journal n) (s.progress n)) (range_with_len 1 (epoch_of shape sizes s.journal));
  ends = map (λ m. end_of (request_of p sizes s m)) (range_with_len 0 sizes.mutators);
  free = sizes.copies - length (kept_rows shape sizes (whole_journal shape sizes s));
}

-- how many cells a check has left to read
abbrev pub reads_left : Progress → List Cell → ℕ
reads_left (has_read k) cells = length cells - k
reads_left (abandoned_at obj) cells = 0

-- how many cells all active checks have left to read
abbrev pub all_reads_left : ShapeLists → Program → Sizes → State → ℕ
all_reads_left shape p sizes s =
    sum_by (λ n. reads_left (s.progress n) (cells_of p sizes (launch_of shape sizes s.journal n))) (active_checks shape sizes s.journal)

-- how many events all mutators can still make, at most
abbrev pub all_events_left : Sizes → State → ℕ
all_events_left sizes s = sum_by (λ m. sizes.events - length (own_events m s.journal)) (range_with_len 0 sizes.mutators)

-- a turn, if anyone can take one, and what comes after it: one thing after a check's, another after a mutator's
abbrev pub after_turn : ShapeLists → Program → Sizes → (State → State) → (State → State) → State → Option Agent → State
after_turn shape p sizes after_check after_mutator s None = s
after_turn shape p sizes after_check after_mutator s (Some (check n)) = after_check (turn_of shape p sizes s (check n))
after_turn shape p sizes after_check after_mutator s (Some (mutator m)) = after_mutator (turn_of shape p sizes s (mutator m))

-- turns of checks, no more than these, and then one of a mutator
abbrev pub checks_first : ShapeLists → Program → Sizes → (State → State) → ℕ → State → State
checks_first shape p sizes after_mutator zero s = s
checks_first shape p sizes after_mutator (suc more) s =
    after_turn shape p sizes (checks_first shape p sizes after_mutator more) after_mutator s (next_agent shape p sizes s)

-- The state to which a run comes, with fewer turns of mutators than these: before each of them there are no more turns of checks than
-- reads are left. So the numbers only say that there is an end.
abbrev pub state_within : ShapeLists → Program → Sizes → ℕ → State → State
state_within shape p sizes zero s = s
state_within shape p sizes (suc more) s =
    checks_first shape p sizes (state_within shape p sizes more) (all_reads_left shape p sizes s + 1) s

-- What the run of a program with these sizes and this seed leaves. All mutators have no more turns than `events` allows.
unfoldable pub scheduled_run : ShapeLists → Program → Sizes → ℕ → RanLists
scheduled_run shape p sizes seed = ran_of shape p sizes (state_within shape p sizes (all_events_left sizes (first_state seed) + 1) (first_state seed))
