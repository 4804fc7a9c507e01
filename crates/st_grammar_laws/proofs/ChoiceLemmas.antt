-- What the chart chooses at the next token.
use Rattle.std.proofs.Common.{◌≡◌, ℕ, List, [], ◌∷◌, Option, Some, None, refl, ap, sym, ◌∙◌}
use Rattle.st_ast.specs.declared.operators.Op.{Op}
use Rattle.st_grammar.specs.declared.operators.Chain.{Chain}
use Rattle.st_grammar.specs.declared.operators.Chain.TheVariants as chain
use Rattle.st_grammar.specs.declared.sorts.Sort.{Sort}
use Rattle.st_grammar.specs.declared.sorts.Sort.TheVariants as sort
use Rattle.st_grammar.specs.Operators.{chained, compared}
use Rattle.st_grammar.specs.Sorts.{same_sort}
use Rattle.st_grammar.specs.Terminals.{Terminal, next_sort}
use Rattle.st_charts.specs.Charts.{Symbol, token, part, choice_at, sort_of_next}
use Rattle.st_grammar_laws.proofs.Chart as chart
use Rattle.st_grammar_laws.proofs.Chart.{Part, Symbols, grammar}

-- the choice of a part where the next token has the sort
abbrev pub chosen : Part → Sort → Option Symbols
chosen n s = choice_at grammar n (Some s)

-- at the end no rule is told
pub at_next : (n : Part) (ts : List Terminal) → choice_at grammar n (sort_of_next grammar ts) ≡ chosen n (next_sort ts)
unfolding same_sort
at_next n (t ∷ ts) = refl
at_next chart.program [] = refl
at_next chart.classes [] = refl
at_next chart.shared_block [] = refl
at_next chart.preds [] = refl
at_next chart.procs [] = refl
at_next chart.threads [] = refl
at_next chart.class [] = refl
at_next chart.fields [] = refl
at_next chart.field [] = refl
at_next chart.type [] = refl
at_next chart.pred [] = refl
at_next chart.params [] = refl
at_next chart.params_tail [] = refl
at_next chart.param [] = refl
at_next chart.proc [] = refl
at_next chart.thread [] = refl
at_next chart.block [] = refl
at_next chart.stmts [] = refl
at_next chart.stmt [] = refl
at_next chart.after_name [] = refl
at_next chart.else_tail [] = refl
at_next chart.assigned [] = refl
at_next chart.value [] = refl
at_next chart.place [] = refl
at_next chart.field_tail [] = refl
at_next chart.args [] = refl
at_next chart.args_tail [] = refl
at_next chart.expr [] = refl
at_next chart.cond_tail [] = refl
at_next chart.or [] = refl
at_next chart.or_tail [] = refl
at_next chart.and [] = refl
at_next chart.and_tail [] = refl
at_next chart.cmp [] = refl
at_next chart.cmp_tail [] = refl
at_next chart.sum [] = refl
at_next chart.sum_tail [] = refl
at_next chart.term [] = refl
at_next chart.term_tail [] = refl
at_next chart.unary [] = refl
at_next chart.postfix [] = refl
at_next chart.primary [] = refl
at_next chart.call_tail [] = refl

-- the parts of a chain: the whole, an operand, and what may follow
abbrev pub whole_of : Chain → Part
whole_of chain.Either = chart.or
whole_of chain.Both = chart.and
whole_of chain.Sum = chart.sum
whole_of chain.Product = chart.term

-- the part that is an operand of the chain
abbrev pub operand_of : Chain → Part
operand_of chain.Either = chart.and
operand_of chain.Both = chart.cmp
operand_of chain.Sum = chart.term
operand_of chain.Product = chart.unary

-- the part that may follow an operand: an operator, an operand and more, or nothing
abbrev pub tail_of : Chain → Part
tail_of chain.Either = chart.or_tail
tail_of chain.Both = chart.and_tail
tail_of chain.Sum = chart.sum_tail
tail_of chain.Product = chart.term_tail

-- a chain is an operand and its tail, whatever comes next
pub chain_begins : (c : Chain) (s : Sort) → chosen (whole_of c) s ≡ Some (part (operand_of c) ∷ part (tail_of c) ∷ [])
chain_begins chain.Either s = refl
chain_begins chain.Both s = refl
chain_begins chain.Sum s = refl
chain_begins chain.Product s = refl

-- at an operator of the chain its tail goes on
pub chain_goes_on : (c : Chain) (s : Sort) (o : Op) → chained c s ≡ Some o → chosen (tail_of c) s ≡ Some (token s ∷ part (operand_of c) ∷ part (tail_of c) ∷ [])
unfolding same_sort
chain_goes_on chain.Either sort.Either o e = refl
chain_goes_on chain.Both sort.Both o e = refl
chain_goes_on chain.Sum sort.Plus o e = refl
chain_goes_on chain.Sum sort.Minus o e = refl
chain_goes_on chain.Product sort.Star o e = refl
chain_goes_on chain.Product sort.Slash o e = refl
chain_goes_on chain.Product sort.Percent o e = refl
chain_goes_on _ _ o e = absurd cc

-- at anything else it is empty
pub chain_ends : (c : Chain) (s : Sort) → chained c s ≡ None → chosen (tail_of c) s ≡ Some []
unfolding same_sort
chain_ends chain.Either sort.Either e = absurd cc
chain_ends chain.Both sort.Both e = absurd cc
chain_ends chain.Sum sort.Plus e = absurd cc
chain_ends chain.Sum sort.Minus e = absurd cc
chain_ends chain.Product sort.Star e = absurd cc
chain_ends chain.Product sort.Slash e = absurd cc
chain_ends chain.Product sort.Percent e = absurd cc
chain_ends _ _ e = refl

-- after a sum, a comparison is followed by a second sum
pub comparison_goes_on : (s : Sort) (o : Op) → compared s ≡ Some o → chosen chart.cmp_tail s ≡ Some (token s ∷ part chart.sum ∷ [])
unfolding same_sort
comparison_goes_on sort.Equal o e = refl
comparison_goes_on sort.NotEqual o e = refl
comparison_goes_on sort.Less o e = refl
comparison_goes_on sort.LessEq o e = refl
comparison_goes_on sort.Greater o e = refl
comparison_goes_on sort.GreaterEq o e = refl
comparison_goes_on _ o e = absurd cc

-- at anything else there is no comparison
pub comparison_ends : (s : Sort) → compared s ≡ None → chosen chart.cmp_tail s ≡ Some []
unfolding same_sort
comparison_ends sort.Equal e = absurd cc
comparison_ends sort.NotEqual e = absurd cc
comparison_ends sort.Less e = absurd cc
comparison_ends sort.LessEq e = absurd cc
comparison_ends sort.Greater e = absurd cc
comparison_ends sort.GreaterEq e = absurd cc
comparison_ends _ e = refl
