use Rattle.std.proofs.Common.{map, take}
use Rattle.st_resolved.specs.Views.{predicate_of}
use Rattle.st_eval.specs.Bodies.{LaysBodies, predicate_bodies}
use Rattle.st_eval.proofs.program_codes.lay_preds.Given as goal

-- the first predicates are laid
abbrev pub invariant-loop-pred : goal.invariant-loop-pred
invariant-loop-pred l = LaysBodies l.fn.code l.code l.fn.most l.most l.spans (predicate_bodies (map predicate_of (take l.pred-index l.preds)))
