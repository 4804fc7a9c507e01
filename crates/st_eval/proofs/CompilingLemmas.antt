-- The code of the program's expressions, one after another.
use Rattle.std.proofs.Common.{◌≡◌, ◌<◌, ◌+◌, ℕ, suc, List, [], ◌∷◌, ◌++◌, length, drop, get_or, refl, sym, ◌∙◌, ap, append_assoc, add-one}
use Rattle.std.proofs.Math.Seq.{drop-cons}
use Rattle.st_eval.specs.declared.instructions.Instruction.{Instruction}
use Rattle.st_resolved.specs.declared.expressions.Expr.{Expr}
use Rattle.st_resolved.specs.Views.{term_of, args_of}
use Rattle.st_eval.specs.StraightCode.{count_of, code_of, codes_of}

-- as many arguments as expressions
pub count_of_args : (es : List Expr) → count_of (args_of es) ≡ length es
count_of_args [] = refl
count_of_args (e ∷ es) = ap suc (count_of_args es)

-- one expression more
pub codes_further :
    (code new whole : List Instruction) (es : List Expr) (i : ℕ) (e : Expr)
    → i < length es
    → e ≡ get_or es i e
    → new ≡ code ++ code_of (term_of e)
    → code ++ codes_of (args_of (drop i es)) ≡ whole
    → new ++ codes_of (args_of (drop (i + 1) es)) ≡ whole
codes_further code new whole es i e h is made before =
    ap (λ xs. xs ++ codes_of (args_of (drop (i + 1) es))) made
    ∙ append_assoc code (code_of (term_of e)) (codes_of (args_of (drop (i + 1) es)))
    ∙ ap (λ k. code ++ (code_of (term_of e) ++ codes_of (args_of (drop k es)))) (add-one i)
    ∙ ap (λ x. code ++ (code_of (term_of x) ++ codes_of (args_of (drop (suc i) es)))) is
    ∙ ap (λ xs. code ++ codes_of (args_of xs)) (sym (drop-cons es i e h))
    ∙ before
