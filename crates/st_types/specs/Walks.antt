-- How far the code has walked, as the definitions read it.
use Rattle.std.specs.Prelude.{◌+◌, ◌≤◌, List, map, length}
use Rattle.st_events.specs.declared.shapes.TheConstants.{MOST_CHECKS, MOST_ARGS}
use Rattle.st_resolved.specs.declared.limits.TheConstants.{MOST_LOCALS}
use Rattle.st_resolved.specs.declared.statements.Stmt.{Stmt}
use Rattle.st_resolved.specs.Views.{check_of, command_of, block_of}
use Rattle.st_types.specs.declared.walks.Launched as code_launched
use Rattle.st_types.specs.declared.walks.Walk as code_walk
use Rattle.st_types.specs.Scopes.{local_view}
use Rattle.st_types.specs.Statements.{Launched, Reached}
use Rattle.st_types.specs.Stepwise.{Stepped, SteppedBlock}
use Rattle.st_types.specs.Tallies.{Tally}

-- a check statement with numbers
abbrev pub launched_of : code_launched.Launched → Launched
launched_of l = record { check = check_of l.check; kinds = l.kinds.items }

-- how far a body was walked
abbrev pub reached_of : code_walk.Walk → Reached
reached_of w = record { locals = map local_view w.locals.items; checks = map launched_of w.checks.items }

-- a statement with numbers, and how far the walk is behind it
abbrev pub stepped_at : code_walk.Walk → Stmt → Stepped
stepped_at w s = record { command = command_of s; reached = reached_of w }

-- the same of statements
abbrev pub stepped_block_at : code_walk.Walk → List Stmt → SteppedBlock
stepped_block_at w ss = record { block = block_of ss; reached = reached_of w }

-- the limits leave room for statements that have so much
pub record HasRoom (w : code_walk.Walk) (t : Tally) : Type 0 where
  pub locals : length w.locals.items + t.locals ≤ MOST_LOCALS
  pub checks : length w.checks.items + t.checks ≤ MOST_CHECKS
  pub names : t.names ≤ MOST_ARGS
