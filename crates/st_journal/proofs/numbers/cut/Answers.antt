use Rattle.std.proofs.Common.{◌≡◌, Some, None, arith}
use Rattle.std.specs.List.{position}
use Rattle.st_journal.specs.Words.{is_byte}
use Rattle.st_journal.proofs.CutLemmas.{cut_found, cut_nowhere}
use Rattle.st_journal.proofs.numbers.cut.Goals as goal

pub returns-in-Some : goal.returns-in-Some
returns-in-Some c =
    let there : position (is_byte c.args.byte) c.args.text.now ≡ Some c.in-Some.at = cc in
    cut_found c.args.byte c.args.text.now c.in-Some.at there (omega (arith, c.in-Some.ensures.bound))

pub returns-in-None : goal.returns-in-None
returns-in-None c =
    let nowhere : position (is_byte c.args.byte) c.args.text.now ≡ None = cc in
    cut_nowhere c.args.byte c.args.text.now nowhere
