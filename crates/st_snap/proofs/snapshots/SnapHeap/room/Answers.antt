use Rattle.std.proofs.Common.{ℕ, ◌-◌, arith, ap, ◌∙◌}
use Rattle.st_snap.specs.Snapshots.{Snapshots, world_of}
use Rattle.st_snap.proofs.HoldsLemmas.{world_is_sound}
use Rattle.st_snap.proofs.snapshots.SnapHeap.room.Goals as goal

pub overflow_sub-result : goal.overflow_sub-result
overflow_sub-result c =
    let f = c.self.inside in
    let made = c.self.invariant.tables.live.made c.args.m c.made_by.result c.made_by.ensures in
    let sound = world_is_sound f.shape f.sizes f.table f.journal c.self.invariant in
    omega (arith, made, sound.regions.room c.args.m)

pub returns : goal.returns
returns c =
    let made = c.self.invariant.tables.live.made c.args.m c.made_by.result c.made_by.ensures in
    ap (λ (n : ℕ). c.self.inside.sizes.objects - n) made ∙ ap (λ (s : Snapshots). s.sizes.objects - (world_of s).made c.args.m) c.self.view_is
