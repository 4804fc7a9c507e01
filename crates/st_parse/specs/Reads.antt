-- What a function that reads ensures: the reader's outcome, unless memory runs out. At a fault its cursor stands there.
use Rattle.std.specs.Prelude.{◌≡◌, List, Result, Ok, Err}
use Rattle.st_parse.specs.declared.stops.Stop.{Stop}
use Rattle.st_parse.specs.declared.stops.Stop.TheVariants as stop
use Rattle.st_grammar_laws.specs.Reading.{Outcome}
use Rattle.st_grammar.specs.Terminals.{Terminal}

-- the reader stopped for this reason with these terminals left: at a fault the outcome is the fault there, and of want of memory nothing is said
abbrev pub StopsAt : {A : Type 0} → Outcome A → Stop → List Terminal → Type 0
StopsAt outcome stop.Memory left = Unit {0}
StopsAt outcome stop.Fault left = outcome ≡ Err left

-- the answer, seen by `view`, with the terminals that are left
abbrev pub Reads : {X A : Type 0} → (X → A) → Outcome A → Result X Stop → List Terminal → Type 0
Reads view outcome (Ok x) left = outcome ≡ Ok (view x, left)
Reads view outcome (Err why) left = StopsAt outcome why left
