-- What is known of files and of a sink at one moment, as one value each.
use Rattle.std.specs.Prelude.{◌≡◌, ℕ, ◌≤◌, List, Option}

-- of files: the bytes of the file of each name, where they are told; how many faults came; and how many bytes were taken
pub record FilesState : Type 0 where
  pub told : List ℕ → Option (List ℕ)
  pub faults : ℕ
  pub taken : ℕ

-- of a sink: the bytes written, where they are told, and how many faults came
pub record SinkState : Type 0 where
  pub written : Option (List ℕ)
  pub faults : ℕ

-- from one moment to a later one: each file tells what it told, and no count fell
pub record GoOn (before now : FilesState) : Type 0 where
  pub told : (file : List ℕ) → now.told file ≡ before.told file
  pub faults : before.faults ≤ now.faults
  pub taken : before.taken ≤ now.taken
