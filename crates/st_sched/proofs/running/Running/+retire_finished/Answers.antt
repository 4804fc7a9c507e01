use Rattle.std.proofs.Common.{◌≡◌, ℕ, ◌+◌, ◌<◌, true, false, List, [], ◌∷◌, length, drop, slice_get, Some, sym, ◌∙◌, ap, subst, arith}
use Rattle.std.proofs.lemmas.Option.{slice_get-get_or}
use Rattle.st_run_meaning.specs.States.{State}
use Rattle.st_sched.specs.declared.checks.ActiveCheck.{ActiveCheck}
use Rattle.st_sched.specs.Checks.{is_over}
use Rattle.st_sched.specs.Standing.{finished_in, number_at}
use Rattle.st_sched.specs.UnderWay.{IsHistory, Stands, with_retires}
use Rattle.st_sched.proofs.RunLemmas.{under_way_after, same_mutators, finished_from, rest_behind, joined_state, one_fewer}
use Rattle.st_sched.proofs.running.Running.+retire_finished.Goals as goal

pub retire_finished-requires-in-Retire : goal.retire_finished-requires-in-Retire
retire_finished-requires-in-Retire t c =
    let old = c.args.self.now in
    let p = c.requires.run.0 in
    let run = c.requires.run.1 in
    let within : c.args.index < length old.checks.items = omega (arith, c.if-index-len.false, c.len.ensures, old.checks.ok.0) in
    let fewer = one_fewer old.checks.items c.retire.new.self.checks.items c.args.index within c.retire.ensures.checks in
    let same = same_mutators p old c.retire.new.self c.args.m (number_at old.checks.items c.args.index ∷ []) run (c.retire.ensures.stands p run) in (
      omega (arith, c.decreases, fewer, within),
      (
        (p, under_way_after p old c.retire.new.self c.args.m (number_at old.checks.items c.args.index ∷ []) run (c.retire.ensures.stands p run) (c.retire.ensures.history p run)),
        omega (arith, c.requires.thread, same),
      ),
    )

pub returns-in-Cell-clause-stands : goal.returns-in-Cell-clause-stands
returns-in-Cell-clause-stands t c = λ p run.
    let checks = c.args.self.now.checks.items in
    let within : c.args.index < length checks = omega (arith, c.if-index-len.false, c.len.ensures, c.args.self.now.checks.ok.0) in
    let at : slice_get checks c.args.index ≡ Some c.index.result.now = slice_get-get_or checks c.args.index c.index.result.now within ∙ ap Some (sym c.index.ensures) in
    let over : is_over c.index.result.now.awaits ≡ false = ap is_over c.in-Cell.is in
    let same = finished_from checks c.args.index c.index.result.now false at over in
    subst (λ (ns : List ℕ). Stands run.shape p run.sizes (with_retires c.args.m ns run.state) c.retire_finished.new.self) (sym same) (c.retire_finished.ensures.stands p run)

pub returns-in-Cell-clause-history : goal.returns-in-Cell-clause-history
returns-in-Cell-clause-history t c = λ p run.
    let checks = c.args.self.now.checks.items in
    let within : c.args.index < length checks = omega (arith, c.if-index-len.false, c.len.ensures, c.args.self.now.checks.ok.0) in
    let at : slice_get checks c.args.index ≡ Some c.index.result.now = slice_get-get_or checks c.args.index c.index.result.now within ∙ ap Some (sym c.index.ensures) in
    let over : is_over c.index.result.now.awaits ≡ false = ap is_over c.in-Cell.is in
    let same = finished_from checks c.args.index c.index.result.now false at over in
    subst (λ (ns : List ℕ). IsHistory run.shape run.sizes (with_retires c.args.m ns run.state).journal) (sym same) (c.retire_finished.ensures.history p run)

pub returns-in-Retire-clause-stands : goal.returns-in-Retire-clause-stands
returns-in-Retire-clause-stands t c = λ p run.
    let old = c.args.self.now in
    let checks = old.checks.items in
    let new = c.retire.new.self in
    let n = number_at checks c.args.index in
    let within : c.args.index < length checks = omega (arith, c.if-index-len.false, c.len.ensures, old.checks.ok.0) in
    let at : slice_get checks c.args.index ≡ Some c.index.result.now = slice_get-get_or checks c.args.index c.index.result.now within ∙ ap Some (sym c.index.ensures) in
    let over : is_over c.index.result.now.awaits ≡ true = ap is_over c.in-Retire.is in
    let rest : drop c.args.index new.checks.items ≡ drop (c.args.index + 1) checks =
    ap (drop c.args.index) c.retire.ensures.checks ∙ rest_behind checks c.args.index within in
    let all : finished_in (drop c.args.index checks) ≡ n ∷ finished_in (drop c.args.index new.checks.items) =
    finished_from checks c.args.index c.index.result.now true at over ∙ ap (λ (cs : List ActiveCheck). n ∷ finished_in cs) (sym rest) in
    let later = under_way_after p old new c.args.m (n ∷ []) run (c.retire.ensures.stands p run) (c.retire.ensures.history p run) in
    subst (λ (s : State). Stands run.shape p run.sizes s c.retire_finished-in-Retire.new.self)
    (joined_state run.state c.args.m n (finished_in (drop c.args.index new.checks.items)) (finished_in (drop c.args.index checks)) all)
    (c.retire_finished-in-Retire.ensures.stands p later)

pub returns-in-Retire-clause-history : goal.returns-in-Retire-clause-history
returns-in-Retire-clause-history t c = λ p run.
    let old = c.args.self.now in
    let checks = old.checks.items in
    let new = c.retire.new.self in
    let n = number_at checks c.args.index in
    let within : c.args.index < length checks = omega (arith, c.if-index-len.false, c.len.ensures, old.checks.ok.0) in
    let at : slice_get checks c.args.index ≡ Some c.index.result.now = slice_get-get_or checks c.args.index c.index.result.now within ∙ ap Some (sym c.index.ensures) in
    let over : is_over c.index.result.now.awaits ≡ true = ap is_over c.in-Retire.is in
    let rest : drop c.args.index new.checks.items ≡ drop (c.args.index + 1) checks =
    ap (drop c.args.index) c.retire.ensures.checks ∙ rest_behind checks c.args.index within in
    let all : finished_in (drop c.args.index checks) ≡ n ∷ finished_in (drop c.args.index new.checks.items) =
    finished_from checks c.args.index c.index.result.now true at over ∙ ap (λ (cs : List ActiveCheck). n ∷ finished_in cs) (sym rest) in
    let later = under_way_after p old new c.args.m (n ∷ []) run (c.retire.ensures.stands p run) (c.retire.ensures.history p run) in
    subst (λ (s : State). IsHistory run.shape run.sizes s.journal)
    (joined_state run.state c.args.m n (finished_in (drop c.args.index new.checks.items)) (finished_in (drop c.args.index checks)) all)
    (c.retire_finished-in-Retire.ensures.history p later)
