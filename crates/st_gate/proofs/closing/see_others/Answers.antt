use Rattle.std.proofs.Common.{◌≡◌, ◌+◌, ◌∙◌, ap, arith}
use Rattle.st_rule.specs.Seats.{sizes_of}
use Rattle.st_rule.specs.Turns.{closer_phase}
use Rattle.st_gate.specs.Others.{others_below}
use Rattle.st_gate.proofs.OtherLemmas.{alone_after}
use Rattle.st_gate.proofs.closing.see_others.Goals as goal

pub returns-clause-alone : goal.returns-clause-alone
returns-clause-alone g c =
    let v = c.loop-k.seat.view in
    let told : v.terms.sizes.mutators ≡ (sizes_of c.args.shared.now).mutators = ap (λ t. t.sizes.mutators) c.loop-k.invariant.table.terms in
    let last : c.loop-k.k ≡ v.terms.sizes.mutators + 1 = omega (arith, c.numbers-k-end.ensures, told, c.loop-k-test.false, c.loop-k.auto.k-end) in
    c.loop-k.invariant.seen.phase_is
    ∙ ap (λ n. closer_phase v.terms.sizes.mutators v.gate.number (others_below n v.gate.number)) last
    ∙ alone_after v.terms.sizes.mutators v.gate.number
