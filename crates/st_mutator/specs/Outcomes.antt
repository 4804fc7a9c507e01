-- What the code of an operator answers, as a course.
use Rattle.std.specs.Prelude.{ℕ, Result, Ok, Err}
use Rattle.st_events.specs.declared.verdicts.Plain.{Plain}
use Rattle.st_check_meaning.specs.Courses.{Course, comes_to, ends_in}

-- a word, or how the evaluation ends
abbrev pub outcome_of : Result ℕ Plain → Course ℕ
outcome_of (Ok word) = comes_to word
outcome_of (Err plain) = ends_in plain
