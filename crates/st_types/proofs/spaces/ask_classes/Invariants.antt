use Rattle.std.proofs.Common.{◌≡◌, [], take, drop}
use Rattle.st_types.specs.Rules.{each_with_earlier, class_faults}
use Rattle.st_types.proofs.spaces.ask_classes.Given as goal

abbrev pub invariant-loop-i : goal.invariant-loop-i
invariant-loop-i l =
    each_with_earlier (class_faults l.program) (take l.i l.classes) (drop l.i l.classes) ≡ each_with_earlier (class_faults l.program) [] l.classes
