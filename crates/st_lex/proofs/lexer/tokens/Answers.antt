-- What is read is what the definition says.
use Rattle.st_lex.proofs.ReadAnswers.{list_is, bad_byte_is, long_number_is}
use Rattle.st_lex.proofs.lexer.tokens.Goals as goal

pub returns-clause-tokens : goal.returns-clause-tokens
returns-clause-tokens c = list_is (λ list. list.items) c.args.text.now c.read_all.result c.read_all.ensures

pub returns-clause-bad_byte : goal.returns-clause-bad_byte
returns-clause-bad_byte c = bad_byte_is (λ list. list.items) c.args.text.now c.read_all.result c.read_all.ensures

pub returns-clause-long_number : goal.returns-clause-long_number
returns-clause-long_number c = long_number_is (λ list. list.items) c.args.text.now c.read_all.result c.read_all.ensures
