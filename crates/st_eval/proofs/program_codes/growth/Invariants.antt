use Rattle.std.proofs.Common.{◌≡◌, ◌≤◌, ◌+◌, drop}
use Rattle.st_eval.specs.Room.{growth}
use Rattle.st_eval.proofs.program_codes.growth.Given as goal

-- with what is left it is the whole; at most one for each instruction
abbrev pub invariant-loop-instruction : goal.invariant-loop-instruction
invariant-loop-instruction l = (l.more + growth (drop l.instruction-index l.code) ≡ growth l.code) × (l.more ≤ l.instruction-index)
