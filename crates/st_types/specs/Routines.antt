-- Procedures and threads, walked up to the first fault: themselves with numbers, and the check statements so far.
use Rattle.std.specs.Prelude.{List, map, Vec}
use Rattle.std.specs.declared.alloc.Global.{Global}
use Rattle.st_resolved.specs.Terms.{Routine}
use Rattle.st_resolved.specs.Views.{routine_of}
use Rattle.st_resolved.specs.declared.programs.Body.{Body}
use Rattle.st_types.specs.declared.walks.Launched as code_launched
use Rattle.st_types.specs.Checked.{Checked, verdict}
use Rattle.st_types.specs.Rules.{WalkedRoutine, WalkedRoutines}
use Rattle.st_types.specs.Statements.{Launched}
use Rattle.st_types.specs.Walks.{launched_of}

-- a procedure or a thread with numbers, and the check statements so far
pub record Routed : Type 0 where
  pub routine : Routine
  pub checks : List Launched

-- all of them
pub record RoutedAll : Type 0 where
  pub routines : List Routine
  pub checks : List Launched

-- what was walked, or its first fault
abbrev pub routed : WalkedRoutine → Checked Routed
routed w = verdict w.faults (record { routine = w.routine; checks = w.checks })

-- the same of all of them: the routines and check statements, or the first fault
abbrev pub routed_all : WalkedRoutines → Checked RoutedAll
routed_all w = verdict w.faults (record { routines = w.routines; checks = w.checks })

-- those of the code
abbrev pub routed_at : Vec code_launched.Launched Global → Body → Routed
routed_at checks body = record { routine = routine_of body; checks = map launched_of checks.items }

-- the same of a list of the code's bodies
abbrev pub routed_all_at : Vec code_launched.Launched Global → List Body → RoutedAll
routed_all_at checks bodies = record { routines = map routine_of bodies; checks = map launched_of checks.items }
