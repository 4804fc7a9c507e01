use Rattle.std.proofs.Common.{◌≡◌, ◌∙◌, sym, true}
use Rattle.st_words.specs.Numbers.{is_numeral}
use Rattle.st_words.proofs.NumberLemmas.{numeral_refused}
use Rattle.st_words.proofs.numbers.number_in.Goals as goal

pub returns-in-Err : goal.returns-in-Err
returns-in-Err c =
    let one : is_numeral c.args.word.now ≡ true = sym c.is_numeral.ensures ∙ c.if-not-is_numeral.false in
    numeral_refused c.args.least c.args.most c.args.word.now c.parse.result c.in-Err.field-0 c.ranges.most.fits one c.parse.ensures.value.0 c.in-Err.is
