use Rattle.std.proofs.Common.{◌≡◌, ◌∙◌, sym, ap, subst, true, false, Result, arith}
use Rattle.st_journal.specs.declared.errors.JournalError.{JournalError}
use Rattle.st_journal.specs.Lines.{lines}
use Rattle.st_journal.specs.Reading.{IsAsRead}
use Rattle.st_journal.specs.Rows.{RowLists, rows_in, line_step}
use Rattle.st_journal.proofs.RowLemmas.{step_is, rows_go_on, rows_end, fault_gives, missing_gives}
use Rattle.st_journal.proofs.reading.read_rows.Goals as goal

pub loop-parts-init : goal.loop-parts-init
loop-parts-init c = (ap (λ (rows : RowLists). rows_in 3 rows (lines c.args.text.now)) c.new-rows.ensures, omega arith)

pub returns-in-Err : goal.returns-in-Err
returns-in-Err c =
    missing_gives c.in-Err.error c.loop-parts.line c.loop-parts.rows (lines c.loop-parts.rest.now) _ c.in-Err.ensures.parts c.loop-parts.invariant.0

pub returns-in-Err-take_line : goal.returns-in-Err-take_line
returns-in-Err-take_line c =
    rw c.at.ensures
    (fault_gives c.in-Err-take_line.fault c.loop-parts.line c.loop-parts.rows c.take_line.new.self (lines c.loop-parts.rest.now)
    c.in-Ok.parts.0.now (lines c.in-Ok.parts.1.now) _ c.in-Ok.ensures.parts c.in-Err-take_line.ensures c.loop-parts.invariant.0)

pub end_rows-requires : goal.end_rows-requires
end_rows-requires c = omega (arith, c.loop-parts.invariant.1, c.in-Ok.ensures.shorter, c.requires)

pub returns-then-is_last : goal.returns-then-is_last
returns-then-is_last c =
    let takes : line_step c.loop-parts.rows c.in-Ok.parts.0.now ≡ step_is c.take_line.new.self true =
    c.in-Ok-take_line.ensures ∙ ap (step_is c.take_line.new.self) c.if-is_last.true
    in
    let ends =
    rows_end c.loop-parts.line c.loop-parts.rows c.take_line.new.self (lines c.loop-parts.rest.now) c.in-Ok.parts.0.now
    (lines c.in-Ok.parts.1.now) c.in-Ok.ensures.parts takes
    in
    subst (λ (told : Result RowLists JournalError). IsAsRead (λ (rows : RowLists). rows) c.end_rows.result told) (sym ends ∙ c.loop-parts.invariant.0)
    c.end_rows.ensures

pub overflow_add-line : goal.overflow_add-line
overflow_add-line c = omega (arith, c.loop-parts.invariant.1, c.in-Ok.ensures.shorter, c.requires)

pub loop-parts-smaller : goal.loop-parts-smaller
loop-parts-smaller c = c.in-Ok.ensures.shorter

pub loop-parts-preserved : goal.loop-parts-preserved
loop-parts-preserved c =
    let takes : line_step c.loop-parts.rows c.in-Ok.parts.0.now ≡ step_is c.take_line.new.self false =
    c.in-Ok-take_line.ensures ∙ ap (step_is c.take_line.new.self) c.if-is_last.false in (
      sym (rows_go_on c.loop-parts.line c.loop-parts.rows c.take_line.new.self (lines c.loop-parts.rest.now)
          c.in-Ok.parts.0.now (lines c.in-Ok.parts.1.now) c.in-Ok.ensures.parts takes) ∙ c.loop-parts.invariant.0,
      omega (arith, c.loop-parts.invariant.1, c.in-Ok.ensures.shorter),
    )
