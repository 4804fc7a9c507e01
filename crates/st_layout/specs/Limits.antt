-- Which plans a table can have.
use Rattle.std.specs.Prelude.{◌≤◌}
use Rattle.st_layout.specs.declared.plans.Plan.{Plan}
use Rattle.st_layout.specs.declared.limits.TheConstants.{MOST_MUTATORS, MOST_LANES, MOST_OBJECTS, MOST_COPIES, MOST_ROWS}

-- each number of the plan is within the limits
pub record IsWithinLimits (plan : Plan) : Type 0 where
  pub mutators : plan.mutators ≤ MOST_MUTATORS
  pub lanes : (1 ≤ plan.lanes) × (plan.lanes ≤ MOST_LANES)
  pub objects : (1 ≤ plan.objects) × (plan.objects ≤ MOST_OBJECTS)
  pub copies : plan.copies ≤ MOST_COPIES
  pub rows : plan.rows ≤ MOST_ROWS
