-- What a reader does, in the terms of a chart: it reads some symbols and leaves the rest, or stops where the chart faults.
use Rattle.std.specs.Prelude.{◌≤◌, List, ◌++◌, length, Option, Some, Result, Ok, Err}
use Rattle.st_charts.specs.Charts.{Symbol, Grammar, Faults}

-- the symbols are read up to the rest: from there on the chart faults as from the start
pub record Goes {T K N : Type 0} (g : Grammar T K N) (cs : List (Symbol K N)) (ts rest : List T) : Type 0 where
  pub shorter : length rest ≤ length ts
  pub on : (ss : List (Symbol K N)) (o : Option (List T)) → Faults g ss rest o → Faults g (cs ++ ss) ts o

-- whatever is asked for after the symbols, the chart faults at the rest
pub record Stops {T K N : Type 0} (g : Grammar T K N) (cs : List (Symbol K N)) (ts rest : List T) : Type 0 where
  pub at : (ss : List (Symbol K N)) → Faults g (cs ++ ss) ts (Some rest)

-- a reader of the symbols answers so
abbrev pub FollowsChart : {T K N A : Type 0} → Grammar T K N → List (Symbol K N) → List T → Result (A × List T) (List T) → Type 0
FollowsChart g cs ts (Ok x) = Goes g cs ts x.1
FollowsChart g cs ts (Err rest) = Stops g cs ts rest
