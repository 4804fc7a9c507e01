-- The limits of sizes, and the usual ones.
use Rattle.std.specs.Prelude.{ℕ, ◌≤◌}
use Rattle.st_events.specs.declared.limits.Sizes.{Sizes}
use Rattle.st_events.specs.declared.limits.TheConstants.{MOST_MUTATORS, MOST_LANES, MOST_OBJECTS, MOST_COPIES, MOST_EVENTS, MOST_CALLS}
use Rattle.st_events.specs.declared.limits.TheConstants.{USUAL_LANES, USUAL_OBJECTS, USUAL_COPIES, USUAL_EVENTS, USUAL_CALLS}

-- each number of the sizes is within the table of limits
pub record AreWithinLimits (sizes : Sizes) : Type 0 where
  pub mutators : sizes.mutators ≤ MOST_MUTATORS
  pub lanes : (1 ≤ sizes.lanes) × (sizes.lanes ≤ MOST_LANES)
  pub objects : (1 ≤ sizes.objects) × (sizes.objects ≤ MOST_OBJECTS)
  pub copies : sizes.copies ≤ MOST_COPIES
  pub events : (1 ≤ sizes.events) × (sizes.events ≤ MOST_EVENTS)
  pub calls : sizes.calls ≤ MOST_CALLS

-- the sizes of a program with so many threads, where nothing else is asked for
abbrev pub usual_sizes : ℕ → Sizes
usual_sizes mutators = record { mutators = mutators; lanes = USUAL_LANES; objects = USUAL_OBJECTS; copies = USUAL_COPIES; events = USUAL_EVENTS; calls = USUAL_CALLS }
