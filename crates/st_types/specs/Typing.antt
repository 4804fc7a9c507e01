-- What the code keeps of an expression and of a value, as what is seen of it.
use Rattle.st_types.specs.declared.expressions.Typing.{Typing}
use Rattle.st_types.specs.declared.values.TypedValue.{TypedValue}
use Rattle.st_resolved.specs.Views.{term_of, source_of}
use Rattle.st_types.specs.Nodes.{Seen}
use Rattle.st_types.specs.Statements.{Given}

-- an expression that keeps the rules
abbrev pub seen_of : Typing → Seen
seen_of t = record { site = t.site; kind = t.kind; term = term_of t.expr }

-- a value that keeps the rules
abbrev pub given_of : TypedValue → Given
given_of v = record { site = v.site; kind = v.kind; source = source_of v.source }
