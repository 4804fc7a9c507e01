use Rattle.st_parse.specs.declared.errors.ParseError.TheVariants as error
use Rattle.st_parse.proofs.OutcomeLemmas.{told, told_tree, told_no_tree, told_error}
use Rattle.st_parse.proofs.parser.parse.Goals as goal

pub returns-clause-tree : goal.returns-clause-tree
returns-clause-tree c =
    told_tree c.args.text.now c.args.tokens.now c.answer.result (told c.args.text.now c.args.tokens.now c.answer.result c.answer.ensures)

pub returns-clause-no_tree : goal.returns-clause-no_tree
returns-clause-no_tree c =
    told_no_tree c.args.text.now c.args.tokens.now c.answer.result (told c.args.text.now c.args.tokens.now c.answer.result c.answer.ensures)

pub returns-clause-unexpected : goal.returns-clause-unexpected
returns-clause-unexpected c = λ at.
    told_error c.args.text.now c.args.tokens.now c.answer.result (told c.args.text.now c.args.tokens.now c.answer.result c.answer.ensures) (error.Unexpected at)

pub returns-clause-too_many : goal.returns-clause-too_many
returns-clause-too_many c = λ what at.
    told_error c.args.text.now c.args.tokens.now c.answer.result (told c.args.text.now c.args.tokens.now c.answer.result c.answer.ensures) (error.TooMany what at)

pub returns-clause-too_deep : goal.returns-clause-too_deep
returns-clause-too_deep c = λ at.
    told_error c.args.text.now c.args.tokens.now c.answer.result (told c.args.text.now c.args.tokens.now c.answer.result c.answer.ensures) (error.TooDeep at)

pub returns-clause-too_long : goal.returns-clause-too_long
returns-clause-too_long c = λ at.
    told_error c.args.text.now c.args.tokens.now c.answer.result (told c.args.text.now c.args.tokens.now c.answer.result c.answer.ensures) (error.TooLong at)
