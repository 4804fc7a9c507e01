use Rattle.std.proofs.Common.{◌≡◌, [], take, drop}
use Rattle.st_types.specs.Rules.{each_with_earlier, field_faults}
use Rattle.st_types.proofs.spaces.ask_fields.Given as goal

abbrev pub invariant-loop-i : goal.invariant-loop-i
invariant-loop-i l =
    each_with_earlier (field_faults l.program) (take l.i l.fields) (drop l.i l.fields) ≡ each_with_earlier (field_faults l.program) [] l.fields
