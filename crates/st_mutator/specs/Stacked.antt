-- A stack as contracts see it.
use Rattle.std.specs.Prelude.{ℕ, List, [], ◌∷◌}

-- the items, the top first, and how many there may be
pub record Stacked (A : Type 0) : Type 0 where
  pub items : List A
  pub room : ℕ

-- the top word; 0 where there is none
abbrev pub top : List ℕ → ℕ
top [] = 0
top (word ∷ words) = word

-- the words below the top
abbrev pub below : List ℕ → List ℕ
below [] = []
below (word ∷ words) = words
