-- Files that all hold one text.
use Rattle.std.specs.Prelude.{ℕ, List}

-- the one text, and how many bytes of it were taken
pub record Sure : Type 0 where
  pub text : List ℕ
  pub taken : ℕ
