-- Each limit and each number that a definition takes from the code, pinned by its value
use Rattle.std.proofs.Common.{◌≡◌, refl}
use Rattle.st_events.specs.declared.heaps.TheConstants.{FIRST_OF_REGIONS, SHARED_OBJECT}
use Rattle.st_events.specs.declared.limits.TheConstants.{EVENT_COST, LAUNCH_COST, MOST_MUTATORS, MOST_LANES, MOST_OBJECTS, MOST_COPIES, MOST_EVENTS, MOST_CALLS}
use Rattle.st_events.specs.declared.limits.TheConstants.{USUAL_LANES, USUAL_OBJECTS, USUAL_COPIES, USUAL_EVENTS, USUAL_CALLS}
use Rattle.st_events.specs.declared.shapes.TheConstants.{MOST_CLASSES, MOST_FIELDS, MOST_CHECKS, MOST_ARGS}

-- ---- sizes

most_mutators : MOST_MUTATORS ≡ 8
most_mutators = refl

most_lanes : MOST_LANES ≡ 8
most_lanes = refl

most_objects : MOST_OBJECTS ≡ 16384
most_objects = refl

most_copies : MOST_COPIES ≡ 1048576
most_copies = refl

most_events : MOST_EVENTS ≡ 1048576
most_events = refl

most_calls : MOST_CALLS ≡ 1000000
most_calls = refl

-- ---- what sizes are where nothing else is asked for

usual_lanes : USUAL_LANES ≡ 8
usual_lanes = refl

usual_objects : USUAL_OBJECTS ≡ 4096
usual_objects = refl

usual_copies : USUAL_COPIES ≡ 4096
usual_copies = refl

usual_events : USUAL_EVENTS ≡ 65536
usual_events = refl

usual_calls : USUAL_CALLS ≡ 100000
usual_calls = refl

-- ---- what is charged

event_cost : EVENT_COST ≡ 1
event_cost = refl

launch_cost : LAUNCH_COST ≡ 2
launch_cost = refl

-- ---- shapes

most_classes : MOST_CLASSES ≡ 255
most_classes = refl

most_fields : MOST_FIELDS ≡ 12
most_fields = refl

most_checks : MOST_CHECKS ≡ 1024
most_checks = refl

most_args : MOST_ARGS ≡ 4
most_args = refl

-- ---- numbers of objects

shared_object : SHARED_OBJECT ≡ 1
shared_object = refl

first_of_regions : FIRST_OF_REGIONS ≡ 2
first_of_regions = refl
