use Rattle.std.proofs.Common.{◌≡◌, ℕ, max, None, ap, ◌∙◌, arith}
use Rattle.std.specs.Ordering.{ord_max, nat_cmp}
use Rattle.std.proofs.lemmas.Bool.Decides.{nat_tests}
use Rattle.std.proofs.lemmas.List.{take_more}
use Rattle.std.proofs.Common.{unwrap_or, take, get_or, Option}
use Rattle.st_snap.specs.Lanes.{newest_of}
use Rattle.st_snap.proofs.LaneLemmas.{newest_push}
use Rattle.st_snap.proofs.lanes.find_newest.Goals as goal

max_is : (a b : ℕ) → ord_max nat_cmp a b ≡ max a b
max_is a b = grind (arith, nat_tests)

pub loop-lane-preserved : goal.loop-lane-preserved
loop-lane-preserved c =
    let none : Option ℕ = None in
    let lanes = c.args.lanes.now in
    let i = c.loop-lane.lane-index in
    let more = ap newest_of (take_more lanes i none c.loop-lane-test.true) ∙ newest_push (take i lanes) (get_or lanes i none) in
    c.max-newest.ensures ∙ max_is c.loop-lane.newest c.unwrap_or.result ∙ rw (c.unwrap_or.ensures, more) (ap (λ (n : ℕ). max n (unwrap_or (get_or lanes i none) 0)) c.loop-lane.invariant)
