use Rattle.std.proofs.Common.{rules}
use Rattle.st_io.proofs.GrowthLemmas.{first_bytes_are_growth_by_a_front}
use Rattle.st_io.proofs.memory_sinks.MemSinkSink.put.Goals as goal

pub returns-in-Some-clause-cut : goal.returns-in-Some-clause-cut
returns-in-Some-clause-cut c = first_bytes_are_growth_by_a_front c.min-front.result (search rules)
