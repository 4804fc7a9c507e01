use Rattle.std.proofs.Common.{rules, ◌≡◌, replicate, Option, None, ℕ, sym}
use Rattle.st_snap.proofs.LaneLemmas.{newest_of_idle}
use Rattle.st_snap.proofs.lanes.Lanes.make.Goals as goal

pub invariant_of-result : goal.invariant_of-result
invariant_of-result c =
    let none : Option ℕ = None in
    let all : c.in_ok-vec.field-0.items ≡ replicate c.args.count none = search rules in
    rw all (sym (newest_of_idle c.args.count))
