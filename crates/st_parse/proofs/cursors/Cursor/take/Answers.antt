use Rattle.std.proofs.Common.{◌≡◌, ◌+◌, suc, [], drop, length, Ok, Err, refl, sym, ap, subst, ◌∙◌, arith}
use Rattle.st_grammar.specs.Terminals.{next_sort, terminal_of, terminals_of}
use Rattle.st_grammar_laws.specs.Reading.{take_any}
use Rattle.st_parse.proofs.CursorLemmas.{from_token, past_tokens, next_taken}
use Rattle.st_parse.proofs.cursors.Cursor.take.Goals as goal

pub with_sort-lexeme-requires-clause-sort : goal.with_sort-lexeme-requires-clause-sort
with_sort-lexeme-requires-clause-sort c =
    let i = c.self.inside in
    c.self.invariant.next ∙ ap next_sort (from_token i.text.now i.tokens.now i.taken c.in-Some.token.now c.in-Some.ensures.lookup.3.0 c.in-Some.ensures.lookup.1)

pub invariant_of-self : goal.invariant_of-self
invariant_of-self c = record { each = c.self.invariant.each; next = c.sort_at-self-inside.ensures }

pub returns-in-Some-clause-reads : goal.returns-in-Some-clause-reads
returns-in-Some-clause-reads c =
    let i = c.self.inside in
    let left = terminals_of i.text.now i.tokens.now in
    let here = from_token i.text.now i.tokens.now i.taken c.in-Some.token.now c.in-Some.ensures.lookup.3.0 c.in-Some.ensures.lookup.1 in
    rw (← c.self.view_is)
    (next_taken (drop i.taken left) (drop (i.taken + 1) left) (terminal_of i.text.now c.in-Some.token.now) here
    ∙ ap (λ t. Ok (t, drop (i.taken + 1) left)) (sym c.with_sort-lexeme.ensures))

pub returns-in-Some-clause-shorter : goal.returns-in-Some-clause-shorter
returns-in-Some-clause-shorter c =
    let i = c.self.inside in
    let left = terminals_of i.text.now i.tokens.now in
    let here = from_token i.text.now i.tokens.now i.taken c.in-Some.token.now c.in-Some.ensures.lookup.3.0 c.in-Some.ensures.lookup.1 in
    let longer : length c.args.self.now ≡ suc (length (drop (i.taken + 1) left)) = ap length (sym c.self.view_is ∙ here) in
    omega (arith, longer)

pub returns-in-None-clause-reads : goal.returns-in-None-clause-reads
unfolding take_any
returns-in-None-clause-reads c =
    let i = c.self.inside in
    let none : c.args.self.now ≡ [] = sym c.self.view_is ∙ past_tokens i.text.now i.tokens.now i.taken c.in-None.ensures.lookup.3 in
    subst (λ ts. take_any ts ≡ Err ts) (sym none) refl
