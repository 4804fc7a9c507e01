-- What a name stands for. A name that is declared twice counts as its first declaration.
use Rattle.std.specs.Prelude.{ℕ, ◌+◌, ◌-◌, ◌≤◌, ◌==◌, Bool, ◌&&◌, List, [], length, map, position, slice_get, All, Option, Some, None}
use Rattle.std.specs.Prelude.{option_map, if◌then◌else◌}
use Rattle.std.specs.Option.{option_and_then}
use Rattle.std.specs.Str.{bytes_eq}
use Rattle.st_events.specs.declared.shapes.Kind.TheVariants as kinds
use Rattle.st_events.specs.declared.shapes.TheConstants.{MOST_FIELDS}
use Rattle.st_resolved.specs.declared.limits.TheConstants.{MOST_PREDS, MOST_PROCS}
use Rattle.st_ast.specs.declared.declarations.Program.{Program}
use Rattle.st_ast.specs.declared.declarations.Class.{Class}
use Rattle.st_ast.specs.declared.declarations.Field.{Field}
use Rattle.st_ast.specs.declared.declarations.Param.{Param}
use Rattle.st_ast.specs.declared.declarations.TypeName.{TypeName}
use Rattle.st_ast.specs.declared.declarations.TypeName.TheVariants as types
use Rattle.st_types.specs.declared.kinds.Found.{Found}
use Rattle.st_types.specs.declared.kinds.Found.TheVariants.{Unknown, Known}
use Rattle.st_ast.specs.declared.limits.TheConstants.{MOST_SOURCE_CLASSES}
use Rattle.st_types.specs.declared.names.Named.{Named}

-- the number of the class of this name, from 1
abbrev pub class_number : Program → List ℕ → Option ℕ
class_number p name = option_map (λ n. n + 1) (position (λ class. bytes_eq class.name name) p.classes)

-- the kind of the class of this number, if there is one
abbrev pub class_kind : Option ℕ → Found
class_kind None = Unknown
class_kind (Some class) = Known (kinds.Ref class)

-- the kind that a type name stands for
abbrev pub kind_of : Program → TypeName → Found
kind_of p types.Int = Known kinds.Int
kind_of p types.Bool = Known kinds.Bool
kind_of p (types.Class name site) = class_kind (class_number p name)

-- the fields of what stands at a place
abbrev pub fields_at : Option Class → List Field
fields_at None = []
fields_at (Some class) = class.fields

-- the fields of a class, by its number, from 1
abbrev pub fields_of : Program → ℕ → List Field
fields_of p class = if class == 0 then [] else fields_at (slice_get p.classes (class - 1))

-- the number of the first field of this name, from 0, and its kind
abbrev pub find_field : Program → List Field → List ℕ → Option Named
find_field p fields name =
    option_and_then (λ n. option_map (λ f. record { number = n; kind = kind_of p f.kind }) (slice_get fields n)) (position (λ f. bytes_eq f.name name) fields)

-- the number of the predicate of this name, from 0
abbrev pub pred_number : Program → List ℕ → Option ℕ
pred_number p name = position (λ pred. bytes_eq pred.name name) p.preds

-- the number of the procedure of this name, from 0
abbrev pub proc_number : Program → List ℕ → Option ℕ
proc_number p name = position (λ procedure. bytes_eq procedure.name name) p.procs

-- the kinds of parameters
abbrev pub param_kinds : Program → List Param → List Found
param_kinds p params = map (λ param. kind_of p param.kind) params

-- a local of a body: a parameter or a `var`, its kind, and whether it is known here
pub record Local : Type 0 where
  pub name : List ℕ
  pub kind : Found
  pub is_known : Bool

-- the number of the known local of this name, and its kind
abbrev pub find_local : List Local → List ℕ → Option Named
find_local locals name =
    option_and_then (λ n. option_map (λ l. record { number = n; kind = l.kind }) (slice_get locals n)) (position (λ l. l.is_known && bytes_eq l.name name) locals)

-- the kind of what a name stands for, if it is known
abbrev pub named_kind : Option Named → Found
named_kind None = Unknown
named_kind (Some named) = named.kind

-- its number; where the name is unknown, no number means anything
abbrev pub named_number : Option Named → ℕ
named_number None = 0
named_number (Some named) = named.number

-- few classes, each with few fields, few shared variables, predicates and procedures
pub record HasFewNames (p : Program) : Type 0 where
  pub classes : length p.classes ≤ MOST_SOURCE_CLASSES
  pub fields : All (λ class. length class.fields ≤ MOST_FIELDS) p.classes
  pub shared : length p.shared ≤ MOST_FIELDS
  pub preds : length p.preds ≤ MOST_PREDS
  pub procs : length p.procs ≤ MOST_PROCS
