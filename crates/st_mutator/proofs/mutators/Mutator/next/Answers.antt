use Rattle.std.proofs.Common.{Option, Some, None, sym, ◌∙◌, ap, ◌≡◌}
use Rattle.st_events.specs.declared.verdicts.End.{End}
use Rattle.st_mutator.specs.declared.machines.Machine.{Machine}
use Rattle.st_mutator.specs.Mutators.{Mutating, turn_of_want}
use Rattle.st_mutator.proofs.MutatorLemmas.{running, answered_request, answered_exactly, goes_on, ended_request, ended_narrowed, ended_goes_on}
use Rattle.st_mutator.proofs.mutators.Mutator.next.Goals as goal

pub returns-in-Some-clause-asks : goal.returns-in-Some-clause-asks
returns-in-Some-clause-asks c = λ p sizes thread words had small.
    let m = c.self.inside.machine in
    let seen : record { machine = m; ended = Some c.in-Some.end } ≡ c.args.self.now =
    ap {B = Mutating} (λ (o : Option End). record { machine = m; ended = o }) (sym c.in-Some.is) ∙ c.self.view_is in
    ended_request m c.args.self.now c.args.reply c.in-Some.end seen p sizes thread words had

pub returns-in-Some-clause-narrow : goal.returns-in-Some-clause-narrow
returns-in-Some-clause-narrow c = λ p sizes thread words had.
    let m = c.self.inside.machine in
    let seen : record { machine = m; ended = Some c.in-Some.end } ≡ c.args.self.now =
    ap {B = Mutating} (λ (o : Option End). record { machine = m; ended = o }) (sym c.in-Some.is) ∙ c.self.view_is in
    ended_narrowed m c.args.self.now c.args.reply c.in-Some.end seen p sizes thread words had

pub returns-in-Some-clause-goes_on : goal.returns-in-Some-clause-goes_on
returns-in-Some-clause-goes_on c = λ p sizes thread words had.
    let m = c.self.inside.machine in
    let seen : record { machine = m; ended = Some c.in-Some.end } ≡ c.args.self.now =
    ap {B = Mutating} (λ (o : Option End). record { machine = m; ended = o }) (sym c.in-Some.is) ∙ c.self.view_is in
    ended_goes_on m c.args.self.now c.args.reply c.in-Some.end seen p sizes thread words had

pub returns-clause-asks : goal.returns-clause-asks
returns-clause-asks c = λ p sizes thread words had small.
    let m = c.self.inside.machine in
    let seen : running m ≡ c.args.self.now =
    ap {B = Mutating} (λ (o : Option End). record { machine = m; ended = o }) (sym c.in-None.is) ∙ c.self.view_is in
    answered_exactly m c.resume-asked.new.self c.args.self.now c.args.reply c.resume-asked.result (turn_of_want c.want_of.result) seen c.resume-asked.ensures
    c.want_of.ensures p sizes thread words had small

pub returns-clause-narrow : goal.returns-clause-narrow
returns-clause-narrow c = λ p sizes thread words had.
    let m = c.self.inside.machine in
    let seen : running m ≡ c.args.self.now =
    ap {B = Mutating} (λ (o : Option End). record { machine = m; ended = o }) (sym c.in-None.is) ∙ c.self.view_is in
    answered_request m c.resume-asked.new.self c.args.self.now c.args.reply c.resume-asked.result (turn_of_want c.want_of.result) seen c.resume-asked.ensures
    c.want_of.ensures p sizes thread words had

pub returns-clause-goes_on : goal.returns-clause-goes_on
returns-clause-goes_on c = λ p sizes thread words had.
    let m = c.self.inside.machine in
    let seen : running m ≡ c.args.self.now =
    ap {B = Mutating} (λ (o : Option End). record { machine = m; ended = o }) (sym c.in-None.is) ∙ c.self.view_is in
    goes_on m c.resume-asked.new.self c.args.self.now c.args.reply c.resume-asked.result c.end_in-self-inside.result seen c.resume-asked.ensures
    c.end_in-self-inside.ensures p sizes thread words had
