use Rattle.std.proofs.Common.{sym, ap, ◌∙◌}
use Rattle.st_grammar.specs.Terminals.{next_sort}
use Rattle.st_parse.proofs.CursorLemmas.{from_token, past_tokens}
use Rattle.st_parse.proofs.cursors.sort_at.Goals as goal

pub returns-in-Some : goal.returns-in-Some
returns-in-Some c =
    c.sort_in.ensures ∙ sym (ap next_sort (from_token c.args.text.now c.args.tokens.now c.args.index c.in-Some.token.now
    c.in-Some.ensures.lookup.3.0 c.in-Some.ensures.lookup.1))

pub returns-in-None : goal.returns-in-None
returns-in-None c = sym (ap next_sort (past_tokens c.args.text.now c.args.tokens.now c.args.index c.in-None.ensures.lookup.3))
