use Rattle.st_check_meaning.proofs.CheckLemmas as lemmas
use Rattle.st_check_meaning.proofs.TurnLemmas as by_turns
use Rattle.st_check_meaning.proofs.laws.laws_of_checks.Goals as goal

pub returns-clause-cells : goal.returns-clause-cells
returns-clause-cells c = λ p heap other site args calls h. lemmas.checks_depend_on_their_cells p heap other site args calls h

pub returns-clause-exist : goal.returns-clause-exist
returns-clause-exist c = λ shape p heap site kinds args calls right typed e fit. lemmas.checks_read_cells_that_exist shape p heap site kinds args calls right typed e fit

pub returns-clause-kinds : goal.returns-clause-kinds
returns-clause-kinds c = λ shape p heap site kinds args right typed e fit. lemmas.checks_are_safe shape p heap site kinds args right typed e fit

pub returns-clause-plain : goal.returns-clause-plain
returns-clause-plain c = λ shape heap kinds t kind locals calls typed h fit. lemmas.plain_expressions_are_safe shape heap kinds t kind locals calls typed h fit

pub returns-clause-turns : goal.returns-clause-turns
returns-clause-turns c = λ heap course units. by_turns.following_is_by_turns heap course units

pub returns-clause-order : goal.returns-clause-order
returns-clause-order c = λ p heap site args calls k. by_turns.checks_ask_in_order p heap site args calls k
