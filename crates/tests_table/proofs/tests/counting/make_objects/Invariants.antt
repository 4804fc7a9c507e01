use Rattle.st_barrier.specs.Counting.{HasWorked}
use Rattle.tests_table.proofs.tests.counting.make_objects.Given as goal

-- between two objects the seat may count
abbrev pub invariant-loop-value : goal.invariant-loop-value
invariant-loop-value g l = record { worked : HasWorked g.J.Judge.meant l.shared l.fn.inside.seat l.inside.seat }
