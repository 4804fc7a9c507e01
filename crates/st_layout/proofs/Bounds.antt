-- How large a plan within the limits can be.
use Rattle.std.proofs.Common.{◌*◌, ◌≤◌, arith}
use Rattle.std.proofs.Math.Nat.{mul-le-mul}
use Rattle.st_layout.specs.declared.plans.Plan.{Plan}
use Rattle.st_layout.specs.declared.limits.TheConstants.{MOST_MUTATORS, MOST_OBJECTS}
use Rattle.st_layout.specs.Limits.{IsWithinLimits}
use Rattle.st_layout.specs.Names.{ClosingWord}
use Rattle.st_layout.specs.Layout.{words_of, word_of, HasWordsBelow}

-- the objects of all mutators within the limits
pub cells_fit : (plan : Plan) → IsWithinLimits plan
    → plan.mutators * plan.objects ≤ MOST_MUTATORS * MOST_OBJECTS
cells_fit plan limits = mul-le-mul limits.mutators limits.objects.1

-- each name's word is one of the table's; the last case stands for all kinds but the first
pub words_below : (plan : Plan) → IsWithinLimits plan → HasWordsBelow plan (words_of plan)
unfolding words_of word_of
words_below plan limits ClosingWord within = omega arith
words_below plan limits name within = omega (arith, limits.lanes.1)
