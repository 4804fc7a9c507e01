use Rattle.st_eval.proofs.CodeLemmas as lemmas
use Rattle.st_eval.proofs.laws.laws_of_code.Goals as goal

pub returns-clause-whole : goal.returns-clause-whole
returns-clause-whole c = λ calls locals t. lemmas.whole_code_runs calls locals t

pub returns-clause-goes_on : goal.returns-clause-goes_on
returns-clause-goes_on c = λ calls locals t rest stack. lemmas.code_runs calls locals t rest stack
