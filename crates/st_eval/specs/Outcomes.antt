-- What the code answers, as courses and turns.
use Rattle.std.specs.Prelude.{ℕ, Result, Ok, Err}
use Rattle.st_events.specs.declared.verdicts.Plain.{Plain}
use Rattle.st_check_meaning.specs.Courses.{Course, comes_to, ends_in}

-- a word, or how the evaluation ends
abbrev pub outcome : Result ℕ Plain → Course ℕ
outcome (Ok word) = comes_to word
outcome (Err plain) = ends_in plain
