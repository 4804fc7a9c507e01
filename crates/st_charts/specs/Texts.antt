-- What the texts of a chart are, and what the first fault of a list of tokens is.
use Rattle.std.specs.Prelude.{◌≡◌, List, [], ◌∷◌, ◌++◌, None}
use Rattle.st_charts.specs.Charts.{part, Grammar, next, Faults}

-- the tokens are read whole for the part
abbrev pub IsText : {T K N : Type 0} → Grammar T K N → N → List T → Type 0
IsText g start ts = Faults g (part start ∷ []) ts None

-- the tokens before the rest begin a text, and with the next token of the rest they begin none
pub record IsFirst {T K N : Type 0} (g : Grammar T K N) (start : N) (ts rest : List T) : Type 0 where
  pub read : List T
  pub split : ts ≡ read ++ rest
  pub more : List T
  pub begins : IsText g start (read ++ more)
  pub ends : (other : List T) → next other ≡ next rest → IsText g start (read ++ other) → ⊥
