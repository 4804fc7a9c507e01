use Rattle.std.proofs.Common.{◌≡◌, ◌++◌, drop}
use Rattle.st_resolved.specs.Views.{args_of}
use Rattle.st_eval.specs.StraightCode.{codes_of}
use Rattle.st_eval.proofs.compiling.+code.Given as goal

-- with the code of the arguments that are left, it is the whole
abbrev pub invariant-add_codes-loop-arg : goal.invariant-add_codes-loop-arg
invariant-add_codes-loop-arg l =
    l.code ++ codes_of (args_of (drop l.arg-index l.args)) ≡ l.fn.code ++ codes_of (args_of l.args)
