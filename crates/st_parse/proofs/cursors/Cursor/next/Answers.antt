use Rattle.std.proofs.Common.{Some, slice_get, sym, ap, ◌∙◌}
use Rattle.st_grammar.specs.Terminals.{next_sort}
use Rattle.st_parse.proofs.CursorLemmas.{from_token, past_tokens}
use Rattle.st_parse.proofs.cursors.Cursor.next.Goals as goal

pub with_sort-requires-clause-sort : goal.with_sort-requires-clause-sort
with_sort-requires-clause-sort c =
    let i = c.self.inside in
    c.self.invariant.next ∙ ap next_sort (from_token i.text.now i.tokens.now i.taken c.in-Some.token.now c.in-Some.ensures.lookup.3.0 c.in-Some.ensures.lookup.1)

pub returns-in-Some : goal.returns-in-Some
returns-in-Some c =
    let i = c.self.inside in
    ap Some c.with_sort.ensures
    ∙ sym (ap (λ ts. slice_get ts 0) (from_token i.text.now i.tokens.now i.taken c.in-Some.token.now c.in-Some.ensures.lookup.3.0 c.in-Some.ensures.lookup.1))
    ∙ ap (λ ts. slice_get ts 0) c.self.view_is

pub returns-in-None : goal.returns-in-None
returns-in-None c =
    let i = c.self.inside in
    sym (ap (λ ts. slice_get ts 0) (past_tokens i.text.now i.tokens.now i.taken c.in-None.ensures.lookup.3)) ∙ ap (λ ts. slice_get ts 0) c.self.view_is
