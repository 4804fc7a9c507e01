use Rattle.std.proofs.Common.{◌≡◌, length, arith, rules}
use Rattle.std.proofs.lemmas.Bool.Decides.{nat_tests}
use Rattle.st_top.proofs.PuttingLemmas.{nothing_is_put, one_line_more_is_put, all_is_put, put_stopped_in_a_line}
use Rattle.st_top.proofs.putting.put_text.Goals as goal

pub loop-rest-init : goal.loop-rest-init
loop-rest-init g c = record { put = nothing_is_put _ _; faults = omega arith }

pub returns-in_err-put-clause-part : goal.returns-in_err-put-clause-part
returns-in_err-put-clause-part g c =
    let part = put_stopped_in_a_line c.split_line.result.0.now c.split_line.result.1.now c.loop-rest.invariant.put c.split_line.ensures.whole c.in_err-put.ensures.cut in
    search rules

pub loop-rest-preserved : goal.loop-rest-preserved
loop-rest-preserved g c = record {
  put = one_line_more_is_put c.split_line.result.0.now c.split_line.result.1.now c.loop-rest.invariant.put c.split_line.ensures.whole c.in_ok-put.ensures.appended;
  faults = omega (arith, c.loop-rest.invariant.faults, c.in_ok-put.ensures.faults);
}

pub returns-clause-whole : goal.returns-clause-whole
returns-clause-whole g c =
    let none : length c.loop-rest.rest.now ≡ 0 = grind (arith, nat_tests) in
    all_is_put c.loop-rest.rest.now c.loop-rest.invariant.put none
