-- One level of nested expressions.
use Rattle.std.proofs.Common.{◌≡◌, ◌≢◌, ℕ, zero, suc, ◌-◌, false, List, Ok, Err, refl, ap, sym, arith}
use Rattle.st_ast.specs.declared.expressions.Expr.{Expr}
use Rattle.st_grammar_laws.specs.declared.levels.Level.TheVariants as level
use Rattle.st_grammar_laws.specs.declared.levels.Level.{Level}
use Rattle.st_grammar.specs.declared.operators.Chain.{Chain}
use Rattle.st_grammar.specs.declared.operators.Chain.TheVariants as chain
use Rattle.st_grammar.specs.declared.sorts.Sort.TheVariants as sort
use Rattle.st_grammar.specs.Terminals.{Terminal}
use Rattle.st_grammar_laws.specs.Reading.{Reader, Outcome, and_then, nested, choice, unary, linked, link, turns, is_operator, blocks, block_of}

-- a whole expression is read as a choice in which expressions nest one less deep
pub nested_whole : (depth : ℕ) → depth ≢ 0 → nested depth level.Whole ≡ choice (nested (depth - 1))
unfolding nested
nested_whole zero none = absurd (none refl)
nested_whole (suc depth) none = let less : suc depth - 1 ≡ depth = omega arith in ap (λ d. choice (nested d)) (sym less)

-- an operand after `!` or `-` is read as a unary expression in which expressions nest one less deep
pub nested_prefixed : (depth : ℕ) → depth ≢ 0 → nested depth level.Prefixed ≡ unary (nested (depth - 1))
unfolding nested
nested_prefixed zero none = absurd (none refl)
nested_prefixed (suc depth) none = let less : suc depth - 1 ≡ depth = omega arith in ap (λ d. unary (nested d)) (sym less)

-- the end of the terminals is no operator
pub no_operator : (level : Chain) → is_operator level sort.Other ≡ false
no_operator chain.Either = refl
no_operator chain.Both = refl
no_operator chain.Sum = refl
no_operator chain.Product = refl

-- a chain of operators goes on after its first operand
pub linked_begins : (inner : Level → Reader Expr) (level : Chain) (operand : Reader Expr) (left : Expr) (ts us : List Terminal)
    → operand ts ≡ Ok (left, us) → linked inner level operand ts ≡ turns (is_operator level) (link inner level operand) left us
unfolding linked
linked_begins inner level operand left ts us made = ap (λ o. and_then o (turns (is_operator level) (link inner level operand))) made

-- where blocks may not nest at all, none is read, and the fault is at the next terminal
pub blocks_none : (depth : ℕ) (ts : List Terminal) → depth ≡ 0 → blocks depth ts ≡ Err ts
unfolding blocks
blocks_none zero ts none = refl
blocks_none (suc depth) ts none = absurd (omega (arith, none))

-- a block is read between its braces, and the blocks in it nest one less deep
pub blocks_some : (depth : ℕ) → depth ≢ 0 → blocks depth ≡ block_of (blocks (depth - 1))
unfolding blocks
blocks_some zero none = absurd (none refl)
blocks_some (suc depth) none = let less : suc depth - 1 ≡ depth = omega arith in ap (λ d. block_of (blocks d)) (sym less)
