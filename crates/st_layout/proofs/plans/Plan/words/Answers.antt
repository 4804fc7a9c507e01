-- The laws of the names, for the whole table.
use Rattle.std.proofs.Common.{arith}
use Rattle.st_layout.specs.Layout.{words_of}
use Rattle.st_layout.proofs.Bounds.{words_below}
use Rattle.st_layout.proofs.Distinct.{words_distinct}
use Rattle.st_layout.proofs.plans.Plan.words.Goals as goal

pub returns-clause-below : goal.returns-clause-below
unfolding words_of
returns-clause-below c name within = omega (arith, words_below c.args.self.now c.requires name within)

pub returns-clause-distinct : goal.returns-clause-distinct
returns-clause-distinct c = words_distinct c.args.self.now c.requires
