use Rattle.std.proofs.Common.{inr}
use Rattle.st_barrier.proofs.making.lock_next.Goals as goal

pub lock-requires-clause-object : goal.lock-requires-clause-object
lock-requires-clause-object g c = inr c.requires.next
