use Rattle.st_rule.specs.Seats.{told_of}
use Rattle.st_gate.proofs.ExclusionLemmas.{alone_excludes_others}
use Rattle.st_gate.proofs.kinds.Alone.excludes_others.Goals as goal

pub returns : goal.returns
returns g c = alone_excludes_others (told_of g.J.Judge.meant g.J.Judge.right c.args.shared.now) c.args.self.now.seat c.args.self.now.alone
