use Rattle.st_barrier.specs.Counting.{HasWorked}
use Rattle.tests_table.proofs.tests.counting.count_up.Given as goal

-- between two tries the seat may count
abbrev pub invariant-loop : goal.invariant-loop
invariant-loop g l = record { worked : HasWorked g.J.Judge.meant l.shared l.fn.inside.seat l.inside.seat }
