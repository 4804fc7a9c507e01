-- What an expression stands in, without where it lies in memory.
use Rattle.std.specs.Prelude.{◌≤◌, Bool, List, length, map}
use Rattle.st_ast.specs.declared.declarations.Program.{Program}
use Rattle.st_resolved.specs.declared.limits.TheConstants.{MOST_LOCALS}
use Rattle.st_types.specs.declared.scopes.Local as code_local
use Rattle.st_types.specs.declared.scopes.Scope as code_scope
use Rattle.st_types.specs.Names.{HasFewNames}
use Rattle.st_types.specs.Names.{Local}

-- the program around an expression, the locals, and whether predicates may be called
pub record ScopeView : Type 0 where
  pub program : Program
  pub locals : List Local
  pub may_call : Bool

-- a local of the code
abbrev pub local_view : code_local.Local → Local
local_view l = record { name = l.name.now; kind = l.kind; is_known = l.is_known }

-- a scope of the code
abbrev pub scope_view : code_scope.Scope → ScopeView
scope_view s = record { program = s.program.now; locals = map local_view s.locals.now; may_call = s.may_call }

-- the program and the locals are within the limits
pub record IsSmall (s : code_scope.Scope) : Type 0 where
  pub names : HasFewNames s.program.now
  pub locals : length s.locals.now ≤ MOST_LOCALS
