use Rattle.std.proofs.Common.{◌≡◌, vec_len}
use Rattle.st_events.specs.Terms.{without}
use Rattle.st_audit.proofs.ledgers.drop_number.Given as goal

abbrev pub invariant-loop-place : goal.invariant-loop-place
invariant-loop-place l = without l.number l.numbers.items ≡ without l.number l.initial.numbers.items

abbrev pub decreases-loop-place : goal.decreases-loop-place
decreases-loop-place l = vec_len l.numbers
