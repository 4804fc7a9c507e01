-- How the bytes that a sink has written grow, where it tells them.
use Rattle.std.specs.Prelude.{◌≡◌, ℕ, List, ◌++◌, Option, Some, IfSome}

-- where the bytes written were told, they are told now, and are those and then these
pub record Grows (before : Option (List ℕ)) (bytes : List ℕ) (now : Option (List ℕ)) : Type 0 where
  pub told : IfSome before (λ written. now ≡ Some (written ++ bytes))

-- the bytes written grew by a front of these, and a rest was left out
pub record GrowsByFront (before : Option (List ℕ)) (bytes : List ℕ) (now : Option (List ℕ)) : Type 0 where
  pub front : List ℕ
  pub rest : List ℕ
  pub whole : bytes ≡ front ++ rest
  pub grew : Grows before front now
