use Rattle.std.proofs.Common.{◌≡◌, map, take}
use Rattle.st_snap.proofs.shape_copies.copy_lists.Given as goal

abbrev pub invariant-loop-kinds : goal.invariant-loop-kinds
invariant-loop-kinds l = map (λ v. v.items) l.copies.items ≡ map (λ v. v.items) (take l.kinds-index l.lists)
