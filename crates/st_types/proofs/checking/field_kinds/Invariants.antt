use Rattle.std.proofs.Common.{◌≡◌, take}
use Rattle.st_types.specs.Rules.{field_kinds}
use Rattle.st_types.proofs.checking.field_kinds.Given as goal

abbrev pub invariant-loop-field : goal.invariant-loop-field
invariant-loop-field l = l.kinds.items ≡ field_kinds l.program (take l.field-index l.fields)
