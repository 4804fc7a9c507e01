use Rattle.st_rule.specs.Keys.{told_by}
use Rattle.st_rule.proofs.EndLemmas.{sees_all}
use Rattle.st_rule.proofs.tables.Shared.last_look.Goals as goal

pub returns-clause-whole : goal.returns-clause-whole
returns-clause-whole g c =
    sees_all (told_by g.J.Judge.meant g.J.Judge.right c.args.self.now.table.shared.key) c.load_clock.new.seat c.load_clock.result c.load_clock.ensures.counts
