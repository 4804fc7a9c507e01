use Rattle.std.proofs.Common.{ℕ, ◌+◌, ◌≤◌, List, [], length, Option}
use Rattle.st_io.specs.Taking.{TakesSome}
use Rattle.st_io.proofs.taking.take_whole.Given as goal

-- what was taken so far stands in the buffer, and does not pass the limit
pub record HasTaken (limit : ℕ) (first source : Option (List ℕ)) (into : List ℕ) (before taken : ℕ) : Type 0 where
  pub takes : TakesSome (limit + 1) first source [] into before taken
  pub within : length into ≤ limit
  pub grown : before ≤ taken

abbrev pub invariant-loop-round : goal.invariant-loop-round
invariant-loop-round g l =
    HasTaken l.limit (g.S.Read.remaining l.fn.source) (g.S.Read.remaining l.source) l.into.items l.fn.taken l.taken
