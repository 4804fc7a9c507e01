use Rattle.std.proofs.Common.{arith}
use Rattle.st_io.proofs.TakingLemmas.{nothing_was_taken}
use Rattle.st_io.proofs.taking.take_some.Goals as goal

pub returns-in-Err-clause-takes : goal.returns-in-Err-clause-takes
returns-in-Err-clause-takes g c = nothing_was_taken (omega arith) c.in-Err.ensures.bytes
