-- The course of an evaluation: the cells that it asks for, in order, where it uses a unit of the budget, and what it comes to.
use Rattle.std.specs.Prelude.{ℕ}
use Rattle.st_events.specs.declared.verdicts.Plain.{Plain}

-- It comes to something; it ends in a fault, spent or too deep; it reads a cell, and goes on by the word found there; or it uses a
-- unit of the budget, and goes on. A course knows no heap and no budget: whoever follows it answers.
pub data Course (A : Type 0) : Type 0 where
  comes_to : A → Course A
  ends_in : Plain → Course A
  reads : ℕ → ℕ → (ℕ → Course A) → Course A
  uses_unit : (Unit {0} → Course A) → Course A

-- one course and then another, which depends on what the first comes to; where the first ends, nothing follows
abbrev pub and_then : {A B : Type 0} → Course A → (A → Course B) → Course B
and_then (comes_to x) rest = rest x
and_then (ends_in plain) rest = ends_in plain
and_then (reads obj field next) rest = reads obj field (λ word. and_then (next word) rest)
and_then (uses_unit next) rest = uses_unit (λ u. and_then (next u) rest)
