use Rattle.st_charts.proofs.FaultLemmas as lemmas
use Rattle.st_charts.proofs.first_fault.Goals as goal

pub returns : goal.returns
returns g c = λ chart samples start checked ts rest h. lemmas.first_fault chart samples start checked ts rest h
