use Rattle.st_io.proofs.GrowthLemmas.{nothing_is_growth_by_a_front}
use Rattle.st_io.proofs.standard_output.RealSinkSink.put.Goals as goal

pub returns-in-Err-clause-cut : goal.returns-in-Err-clause-cut
returns-in-Err-clause-cut g c = nothing_is_growth_by_a_front
