use Rattle.std.proofs.Common.{◌≡◌, Some, slice_get, true, refl, sym, ◌∙◌, ap}
use Rattle.std.proofs.lemmas.Option.{slice_get-get_or}
use Rattle.st_resolved.specs.Views.{program_of}
use Rattle.st_run_meaning.specs.Agents.{check}
use Rattle.st_sched.specs.Checks.{is_over}
use Rattle.st_sched.specs.Standing.{number_at}
use Rattle.st_sched.proofs.CheckTurnLemmas.{read_fits, read_stands, turn_is_not_over}
use Rattle.st_sched.proofs.running.Running.turn_of_check.Goals as goal

pub read-requires-clause-cell : goal.read-requires-clause-cell
read-requires-clause-cell c =
    let checks = c.args.self.now.checks.items in
    let here = c.index_mut-check.result.now in
    let at : slice_get checks c.args.index ≡ Some here = slice_get-get_or checks c.args.index here c.requires.index ∙ ap Some (sym c.index_mut-check.ensures.value) in
    (read_fits (program_of c.args.program.now) (check (number_at checks c.args.index)) c.args.self.now c.args.index c.in-Cell.obj c.in-Cell.field here c.requires.turn at c.in-Cell.is).cell

pub returns-in-Cell-clause-stands : goal.returns-in-Cell-clause-stands
returns-in-Cell-clause-stands c = λ t.
    let checks = c.args.self.now.checks.items in
    let here = c.index_mut-check.result.now in
    let at : slice_get checks c.args.index ≡ Some here = slice_get-get_or checks c.args.index here c.requires.index ∙ ap Some (sym c.index_mut-check.ensures.value) in
    read_stands (program_of c.args.program.now) c.args.index c.in-Cell.obj c.in-Cell.field c.args.self.now _ here c.read.new.self t at c.in-Cell.is
    (record { lane = c.read.ensures.lane; made = c.read.ensures.made; budget_is = c.read.ensures.budget; lost = c.read.ensures.lost; read = c.read.ensures.read })
    refl refl refl refl (record { checks = refl; idle = refl; verdicts = refl; ready = refl; ends = refl; items = refl })

pub returns-in-Retire-clause-stands : goal.returns-in-Retire-clause-stands
returns-in-Retire-clause-stands c = λ t.
    let checks = c.args.self.now.checks.items in
    let here = c.index_mut-check.result.now in
    let at : slice_get checks c.args.index ≡ Some here = slice_get-get_or checks c.args.index here c.requires.index ∙ ap Some (sym c.index_mut-check.ensures.value) in
    let over : is_over here.awaits ≡ true = ap is_over c.in-Retire.is in
    absurd (turn_is_not_over (program_of c.args.program.now) c.args.index c.args.self.now here t at over)
