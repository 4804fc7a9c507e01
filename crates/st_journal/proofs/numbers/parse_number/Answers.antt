use Rattle.std.proofs.Common.{◌≡◌, ◌∙◌, sym, subst, true, ℕ, List}
use Rattle.std.specs.Str.Parse.{ParsesUnsigned}
use Rattle.st_journal.specs.Words.{is_number}
use Rattle.st_journal.proofs.NumberLemmas.{no_number, number_is_text, parse_gives_the_number}
use Rattle.st_journal.proofs.numbers.parse_number.Goals as goal

pub returns-then-not-is_number : goal.returns-then-not-is_number
returns-then-not-is_number c = sym (no_number c.args.word.now (sym c.is_number.ensures ∙ c.if-not-is_number.true))

pub returns-in-Ok : goal.returns-in-Ok
returns-in-Ok c =
    let one : is_number c.args.word.now ≡ true = sym c.is_number.ensures ∙ c.if-not-is_number.false in
    let reads : ParsesUnsigned 64 10 c.args.word.now c.parse.result =
    subst (λ (t : List ℕ). ParsesUnsigned 64 10 t c.parse.result) c.in-Ok.ensures.cases.0 c.parse.ensures.value.0 in
    c.ok.ensures.value ∙ parse_gives_the_number c.args.word.now c.parse.result one reads

pub returns-in-Err : goal.returns-in-Err
returns-in-Err c =
    let one : is_number c.args.word.now ≡ true = sym c.is_number.ensures ∙ c.if-not-is_number.false in
    absurd (c.in-Err.ensures.cases.0 (number_is_text c.args.word.now one))
