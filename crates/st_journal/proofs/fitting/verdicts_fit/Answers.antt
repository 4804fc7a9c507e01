use Rattle.std.proofs.lemmas.List.Elements.{All-more}
use Rattle.st_journal.specs.Format.{FitsVerdict}
use Rattle.st_journal.proofs.fitting.verdicts_fit.Goals as goal

pub loop-verdict-preserved : goal.loop-verdict-preserved
loop-verdict-preserved c =
    All-more FitsVerdict c.args.verdicts.now c.loop-verdict.verdict-index _ c.loop-verdict-test.true c.loop-verdict.invariant c.verdict_fits.ensures
