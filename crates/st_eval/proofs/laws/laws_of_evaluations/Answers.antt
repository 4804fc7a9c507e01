use Rattle.st_eval.proofs.ObjectLemmas as lemmas
use Rattle.st_eval.proofs.ReplyLemmas as by_kinds
use Rattle.st_eval.proofs.laws.laws_of_evaluations.Goals as goal

pub returns-clause-objects : goal.returns-clause-objects
returns-clause-objects c = λ shape p heap site kinds args calls k cell right typed small e fit at.
    lemmas.objects_are_told shape p heap site kinds args calls k cell right typed small e fit at

pub returns-clause-replies : goal.returns-clause-replies
returns-clause-replies c = λ shape p site kinds args right e fit. by_kinds.checks_ask_well shape p site kinds args right e fit
