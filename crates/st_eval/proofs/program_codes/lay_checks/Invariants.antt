use Rattle.std.proofs.Common.{map, take}
use Rattle.st_resolved.specs.Views.{check_of}
use Rattle.st_eval.specs.Bodies.{LaysBodies, check_bodies}
use Rattle.st_eval.proofs.program_codes.lay_checks.Given as goal

-- the first check statements are laid
abbrev pub invariant-loop-check : goal.invariant-loop-check
invariant-loop-check l = LaysBodies l.fn.code l.code l.fn.most l.most l.spans (check_bodies (map check_of (take l.check-index l.checks)))
