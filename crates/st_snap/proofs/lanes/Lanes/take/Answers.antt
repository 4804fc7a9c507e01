use Rattle.std.proofs.Common.{◌<◌, ℕ, List, Option, length, subst, sym, arith}
use Rattle.st_snap.specs.Lanes.{newest_of}
use Rattle.st_snap.proofs.LaneLemmas.{newest_set}
use Rattle.st_snap.proofs.lanes.Lanes.take.Goals as goal

pub invariant_of-self : goal.invariant_of-self
invariant_of-self c =
    let within : c.args.index < length c.self.inside.checks.items = subst (λ (ls : List (Option ℕ)). c.args.index < length ls) (sym c.self.view_is) c.requires.index in
    let newer : newest_of c.self.inside.checks.items < c.args.number = subst (λ (ls : List (Option ℕ)). newest_of ls < c.args.number) (sym c.self.view_is) c.requires.newer in
    sym (newest_set c.self.inside.checks.items c.args.index c.args.number within (omega (arith, newer)))
