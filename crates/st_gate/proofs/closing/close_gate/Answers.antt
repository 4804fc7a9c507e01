use Rattle.st_rule.specs.Seats.{told_of}
use Rattle.st_gate.proofs.ExclusionLemmas.{alone_excludes_others}
use Rattle.st_gate.proofs.closing.close_gate.Goals as goal

pub returns-clause-alone : goal.returns-clause-alone
returns-clause-alone g c = alone_excludes_others (told_of g.J.Judge.meant g.J.Judge.right c.args.shared.now) c.see_others.new.seat c.see_others.ensures.alone
