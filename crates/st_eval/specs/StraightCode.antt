-- The code of a term, and what running it means: instructions for a stack of words, whose first is the top.
use Rattle.std.specs.Prelude.{ℕ, zero, suc, true, false, not, List, [], ◌∷◌, ◌++◌, length, take, drop, reverse, unwrap_or, slice_get, neg_ℤ}
use Rattle.st_events.specs.declared.heaps.TheConstants.{SHARED_OBJECT}
use Rattle.st_eval.specs.declared.instructions.Instruction.{Instruction}
use Rattle.st_eval.specs.declared.instructions.Instruction.TheVariants.{Push, Local, Shared, Field, Not, Minus, Binary, Both, Either, Test, Skip, Call}
use Rattle.st_resolved.specs.Terms.{Term, a_number, a_truth, a_null, a_local, a_shared, a_field, a_not, a_minus, a_binary, a_both, an_either, a_cond, a_call}
use Rattle.st_resolved.specs.Terms.{Terms, no_terms, term_then}
use Rattle.st_check_meaning.specs.Courses.{Course, comes_to, and_then}
use Rattle.st_check_meaning.specs.Numbers.{number_of, word_of_number, word_of_truth, is_true, number_or_overflow}
use Rattle.st_check_meaning.specs.Meaning.{Calls, truth, operate, read_cell, field_of}

-- how many arguments
abbrev pub count_of : Terms → ℕ
count_of no_terms = 0
count_of (term_then t ts) = suc (count_of ts)

-- the code of a term: that of its operands, then what the node does
abbrev mutual
  pub code_of : Term → List Instruction
  code_of (a_number value) = Push (word_of_number value) ∷ []
  code_of (a_truth value) = Push (word_of_truth value) ∷ []
  code_of a_null = Push 0 ∷ []
  code_of (a_local local) = Local local ∷ []
  code_of (a_shared field) = Shared field ∷ []
  code_of (a_field object field at) = code_of object ++ Field field at ∷ []
  code_of (a_not inner) = code_of inner ++ Not ∷ []
  code_of (a_minus inner at) = code_of inner ++ Minus at ∷ []
  code_of (a_binary operator left right at) = code_of left ++ (code_of right ++ Binary operator at ∷ [])
  code_of (a_both left right) = code_of left ++ Both (length (code_of right)) ∷ code_of right
  code_of (an_either left right) = code_of left ++ Either (length (code_of right)) ∷ code_of right
  code_of (a_cond test left right) =
      code_of test ++ Test (suc (length (code_of left))) ∷ (code_of left ++ Skip (length (code_of right)) ∷ code_of right)
  code_of (a_call pred args) = codes_of args ++ Call pred (count_of args) ∷ []

  -- the code of arguments, from left to right
  pub codes_of : Terms → List Instruction
  codes_of no_terms = []
  codes_of (term_then t ts) = code_of t ++ codes_of ts

-- the stack after an instruction, and how many of those that follow are passed over
pub record After : Type 0 where
  pub skip : ℕ
  pub stack : List ℕ

-- the top of the stack; 0 where it is empty, which the code of a term never meets
abbrev pub top : List ℕ → ℕ
top [] = 0
top (word ∷ stack) = word

-- the stack without its top
abbrev pub below : List ℕ → List ℕ
below [] = []
below (word ∷ stack) = stack

-- a word is pushed
abbrev pub pushed : List ℕ → ℕ → After
pushed stack word = record { skip = 0; stack = word ∷ stack }

-- the course comes to a word, which is pushed
abbrev pub then_pushed : Course ℕ → List ℕ → Course After
then_pushed c stack = and_then c (λ word. comes_to (pushed stack word))

-- what one instruction does, over these locals
abbrev pub done : Calls → List ℕ → Instruction → List ℕ → Course After
done calls locals (Push word) stack = comes_to (pushed stack word)
done calls locals (Local local) stack = comes_to (pushed stack (unwrap_or (slice_get locals local) 0))
done calls locals (Shared field) stack = then_pushed (read_cell SHARED_OBJECT field) stack
done calls locals (Field field at) stack = then_pushed (field_of (top stack) field at) (below stack)
done calls locals Not stack = then_pushed (truth (not (is_true (top stack)))) (below stack)
done calls locals (Minus at) stack = then_pushed (number_or_overflow (neg_ℤ (number_of (top stack))) at) (below stack)
done calls locals (Binary operator at) stack = then_pushed (operate operator (top (below stack)) (top stack) at) (below (below stack))
done calls locals (Both count) stack =
    elim (is_true (top stack)) [ true ↦ comes_to (record { skip = 0; stack = below stack }) | false ↦ comes_to (record { skip = count; stack = 0 ∷ below stack }) ]
done calls locals (Either count) stack =
    elim (is_true (top stack)) [ true ↦ comes_to (record { skip = count; stack = 1 ∷ below stack }) | false ↦ comes_to (record { skip = 0; stack = below stack }) ]
done calls locals (Test count) stack =
    elim (is_true (top stack)) [ true ↦ comes_to (record { skip = 0; stack = below stack }) | false ↦ comes_to (record { skip = count; stack = below stack }) ]
done calls locals (Skip count) stack = comes_to (record { skip = count; stack = stack })
done calls locals (Call pred args) stack = then_pushed (calls pred (reverse (take args stack))) (drop args stack)

-- what code comes to, from a stack, where so many of its first instructions are passed over: the top at its end
abbrev pub code_course : Calls → List ℕ → List Instruction → ℕ → List ℕ → Course ℕ
code_course calls locals [] skip stack = comes_to (top stack)
code_course calls locals (i ∷ is) zero stack = and_then (done calls locals i stack) (λ a. code_course calls locals is a.skip a.stack)
code_course calls locals (i ∷ is) (suc skip) stack = code_course calls locals is skip stack
