use Rattle.std.proofs.Common.{◌+◌, ◌∙◌, ap, drop, arith}
use Rattle.st_eval.specs.Room.{growth}
use Rattle.st_eval.proofs.BodyLemmas.{growth_further}
use Rattle.st_eval.proofs.program_codes.growth.Goals as goal

pub loop-instruction-preserved : goal.loop-instruction-preserved
loop-instruction-preserved c = (
  ap (λ n. c.loop-instruction.more + n + growth (drop (c.loop-instruction.instruction-index + 1) c.args.code.now)) c.grown-more.ensures.more
      ∙ growth_further c.loop-instruction.more c.args.code.now c.loop-instruction.instruction-index _ c.loop-instruction-test.true c.loop-instruction.invariant.0,
  omega (arith, c.loop-instruction.invariant.1, c.grown-more.ensures.one),
)
