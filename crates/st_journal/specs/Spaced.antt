-- The parts that a journal text is put together from.
use Rattle.std.specs.Prelude.{ℕ, List, ◌∷◌}
use Rattle.std.specs.Fmt.{decimal}
use Rattle.std.specs.List.{flat_map}
use Rattle.st_journal.specs.Format.{blank, line, event_words, verdict_words}
use Rattle.st_journal.specs.Terms.{Event, Verdict}

-- numbers, each after a blank
abbrev pub spaced : List ℕ → List ℕ
spaced numbers = flat_map (λ number. blank ∷ decimal number) numbers

-- the line of an event
abbrev pub event_part : Event → List ℕ
event_part event = line (event_words event)

-- the line of a verdict with its number
abbrev pub verdict_part : ℕ × Verdict → List ℕ
verdict_part numbered_verdict = line (verdict_words numbered_verdict)
