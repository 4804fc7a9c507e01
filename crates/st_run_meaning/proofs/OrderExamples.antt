-- The numbers of a seed, and in which order mutators, checks and retires come, computed by the prover
use Rattle.std.proofs.Common.{◌≡◌, ℕ, List, [], ◌∷◌, pos, refl}
use Rattle.st_events.specs.declared.shapes.Kind.TheVariants.{Int}
use Rattle.st_events.specs.declared.verdicts.End.TheVariants.{Finished}
use Rattle.st_events.specs.declared.verdicts.Plain.TheVariants as plain
use Rattle.st_events.specs.declared.verdicts.Verdict.{Verdict}
use Rattle.st_events.specs.declared.verdicts.Verdict.TheVariants.{Plain as Value, Abandoned}
use Rattle.st_events.specs.declared.events.Event.{Event}
use Rattle.st_events.specs.declared.events.Event.TheVariants.{Store, Launch, Retire}
use Rattle.st_events.specs.Terms.{ShapeLists, RanLists}
use Rattle.st_resolved.specs.declared.expressions.Operator.TheVariants.{Equal}
use Rattle.st_resolved.specs.Terms.{a_number, a_shared, a_binary, to_shared, from_term, Command, a_put, a_launch, CheckStatement, Program}
use Rattle.st_run_meaning.specs.Agents.{number_after}
use Rattle.st_run_meaning.proofs.Examples.{place, args, program, statement, leaves, sizes, lost_shape}

-- ---- the first three numbers of seed 0

first_number : number_after 0 ≡ 1442695040888963407
first_number = refl

second_number : number_after 1442695040888963407 ≡ 1876011003808476466
second_number = refl

third_number : number_after 1876011003808476466 ≡ 11166244414315200793
third_number = refl

-- ---- two mutators, two stores each: `shared.x = 1; shared.x = 2;` and `shared.x = 3; shared.x = 4;`

-- `shared.x = n;`
abbrev put : ℕ → Command
put n = a_put (to_shared 0) (from_term (a_number (pos n)))

abbrev two_mutators : Program
two_mutators = program ((put 1 ∷ put 2 ∷ []) ∷ (put 3 ∷ put 4 ∷ []) ∷ []) []

abbrev one_number : ShapeLists
one_number = record { classes = (Int ∷ []) ∷ (Int ∷ []) ∷ []; checks = [] }

-- what two finished threads leave whose events are these, and no check
abbrev stored : List Event → RanLists
stored events = record { journal = events; verdicts = []; ends = Finished ∷ Finished ∷ []; free = 0 }

-- the numbers of seed 0 choose the second of two, the first, the second
by_turns : leaves one_number two_mutators (sizes 2 8 0) 0 ≡ stored (Store 1 1 0 3 ∷ Store 0 1 0 1 ∷ Store 1 1 0 4 ∷ Store 0 1 0 2 ∷ [])
unfolding leaves
by_turns = refl

-- those of seed 2 the first twice
one_after_the_other : leaves one_number two_mutators (sizes 2 8 0) 2 ≡ stored (Store 0 1 0 1 ∷ Store 0 1 0 2 ∷ Store 1 1 0 3 ∷ Store 1 1 0 4 ∷ [])
unfolding leaves
one_after_the_other = refl

-- ---- two checks that have not finished: `check shared.x == 0;` twice, then `shared.x = 1;`, without a copy

-- `check shared.x == 0;`
abbrev is_zero : CheckStatement
is_zero = statement [] (a_binary Equal (a_shared 0) (a_number (pos 0)) (place 4 18)) (place 4 3)

abbrev two_checks : Program
two_checks = program ((a_launch 0 ∷ a_launch 0 ∷ put 1 ∷ []) ∷ []) (is_zero ∷ [])

abbrev one_check_lost : List Verdict → RanLists
one_check_lost verdicts = record {
  journal = Launch 0 0 1 (args 0 0) ∷ Launch 0 0 2 (args 0 0) ∷ Store 0 1 0 1 ∷ Retire 1 1 ∷ Retire 1 2 ∷ [];
  verdicts = verdicts;
  ends = Finished ∷ [];
  free = 0;
}

-- by seed 0 the first check of the two reads before the store
first_check_reads : leaves lost_shape two_checks (sizes 1 8 0) 0 ≡ one_check_lost (Value plain.Holds ∷ Abandoned 1 ∷ [])
unfolding leaves
first_check_reads = refl

-- by seed 10 the second
second_check_reads : leaves lost_shape two_checks (sizes 1 8 0) 10 ≡ one_check_lost (Abandoned 1 ∷ Value plain.Holds ∷ [])
unfolding leaves
second_check_reads = refl

-- ---- two checks that have finished: the third launch retires both, in order of number

abbrev three_checks : Program
three_checks = program ((a_launch 0 ∷ a_launch 0 ∷ a_launch 0 ∷ []) ∷ []) (is_zero ∷ [])

two_are_retired :
    leaves lost_shape three_checks (sizes 1 8 0) 4
    ≡ record {
      journal = Launch 0 0 1 (args 0 0) ∷ Launch 0 0 2 (args 0 0) ∷ Retire 0 1 ∷ Retire 0 2 ∷ Launch 0 0 3 (args 0 0) ∷ Retire 1 3 ∷ [];
      verdicts = Value plain.Holds ∷ Value plain.Holds ∷ Value plain.Holds ∷ [];
      ends = Finished ∷ [];
      free = 0;
    }
unfolding leaves
two_are_retired = refl
