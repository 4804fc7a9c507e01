-- The code of a program: that of all bodies in one list, and where each body stands.
use Rattle.std.specs.Prelude.{◌≡◌, ℕ, suc, ◌≤◌, List, [], ◌∷◌, ◌++◌, length, map}
use Rattle.st_eval.specs.declared.frames.Span.{Span}
use Rattle.st_eval.specs.declared.instructions.Instruction.{Instruction}
use Rattle.st_eval.specs.declared.program_codes.ProgramCode.{ProgramCode}
use Rattle.st_eval.specs.StraightCode.{code_of}
use Rattle.st_eval.specs.Steps.{part}
use Rattle.st_eval.specs.Room.{growth}
use Rattle.st_resolved.specs.Terms.{Term, Program, Predicate, CheckStatement}

-- the code at these places is that of these bodies, one by one, none of which has more words than so many, a first reply included
abbrev pub AreBodies : List Instruction → ℕ → List Span → List Term → Type 0
AreBodies code most [] [] = Unit {0}
AreBodies code most (span ∷ spans) (t ∷ ts) =
    (span.end ≤ length code) × (part code span.start span.end ≡ code_of t) × (suc (growth (code_of t)) ≤ most) × AreBodies code most spans ts
AreBodies code most spans ts = ⊥

-- the bodies of predicates, and of check statements
abbrev pub predicate_bodies : List Predicate → List Term
predicate_bodies = map (λ (q : Predicate). q.body)

-- the body of each check statement, by site
abbrev pub check_bodies : List CheckStatement → List Term
check_bodies = map (λ (k : CheckStatement). k.body)

-- this is the code of the program
pub record IsCodeOf (p : Program) (code : ProgramCode) : Type 0 where
  pub checks : AreBodies code.instructions code.most_words code.checks (check_bodies p.checks)
  pub preds : AreBodies code.instructions code.most_words code.preds (predicate_bodies p.preds)
  pub some : 1 ≤ code.most_words

-- code grew by these bodies, whose places these are; the most words that one has did not fall
pub record LaysBodies (before now : List Instruction) (most_before most : ℕ) (spans : List Span) (ts : List Term) : Type 0 where
  pub added : List Instruction
  pub grew : now ≡ before ++ added
  pub more : most_before ≤ most
  pub bodies : AreBodies now most spans ts
