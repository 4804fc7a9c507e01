-- How much is left of an evaluation, at most: a number that each step makes smaller.
use Rattle.std.specs.Prelude.{ℕ, suc, ◌+◌, ◌*◌, List, [], ◌∷◌, length}
use Rattle.st_eval.specs.declared.instructions.Instruction.{Instruction}
use Rattle.st_eval.specs.Activations.{Activation, Activations}
use Rattle.st_eval.specs.Steps.{part}

-- a body: its instructions that are left, and its end
abbrev pub weight_of : List Instruction → Activation → ℕ
weight_of code a = suc (length (part code a.place a.end))

-- the bodies that wait for a result, together
abbrev pub weight_waiting : List Instruction → List Activation → ℕ
weight_waiting code [] = 0
weight_waiting code (a ∷ waiting) = weight_of code a + weight_waiting code waiting

-- all bodies; and each unit weighs more than any body that it may begin
abbrev pub weight : List Instruction → Activations → ℕ → ℕ
weight code s units = units * (length code + 2) + (weight_of code s.running + weight_waiting code s.waiting)
