use Rattle.std.proofs.Common.{◌≡◌, [], take, drop}
use Rattle.st_types.specs.Rules.{each_with_earlier, param_faults}
use Rattle.st_types.proofs.spaces.ask_params.Given as goal

abbrev pub invariant-loop-i : goal.invariant-loop-i
invariant-loop-i l =
    each_with_earlier (param_faults l.program) (take l.i l.params) (drop l.i l.params) ≡ each_with_earlier (param_faults l.program) [] l.params
