use Rattle.std.proofs.Common.{◌∙◌}
use Rattle.st_top.proofs.ProgramLemmas.{counts_are_told}
use Rattle.st_top.proofs.ReadingLemmas.{each_ok}
use Rattle.st_top.proofs.heads.make_accepted_line.Goals as goal

pub returns : goal.returns
returns c = each_ok c.write_counts.result _ _
    (λ line is. is ∙ counts_are_told c.args.typed.now.program c.args.typed.now.resolved _ _ _ _ _ c.counts.ensures.classes c.counts.ensures.preds
    c.counts.ensures.procs c.counts.ensures.threads c.counts.ensures.checks c.resolved-numbers.ensures.of_tree)
    c.write_counts.ensures
