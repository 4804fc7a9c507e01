use Rattle.std.proofs.Common.{◌≡◌, sym, subst}
use Rattle.st_snap.proofs.HoldsLemmas.{holds_at_first}
use Rattle.st_snap.proofs.snapshots.SnapHeap.make.Goals as goal
use Rattle.st_events.specs.Shape.{ShapeLists}
use Rattle.st_snap.specs.Holds.{Holds}

pub invariant_of-result : goal.invariant_of-result
invariant_of-result c =
    let same : c.in_ok-copy_shape.field-0 ≡ c.args.shape.now = c.in_ok-copy_shape.ensures in
    subst (λ (shape : ShapeLists). Holds shape c.args.sizes.now c.in_ok-make.field-0 c.in_ok-with_room.field-0) (sym same)
    (holds_at_first c.args.shape.now c.args.sizes.now c.in_ok-make.field-0 c.in_ok-with_room.field-0 c.requires.shape c.requires.sizes
    c.in_ok-make.ensures c.in_ok-with_room.ensures.empty c.in_ok-with_room.ensures.spare)
