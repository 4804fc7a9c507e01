use Rattle.std.proofs.Common.{ℕ, [], sym, ◌∙◌, ap, subst, ◌≡◌, ◌≤◌}
use Rattle.st_resolved.specs.declared.limits.TheConstants.{MOST_LOCALS}
use Rattle.st_resolved.specs.Views.{program_of}
use Rattle.st_mutator.specs.declared.machines.Machine.{Machine}
use Rattle.st_mutator.specs.Laying.{LaidProgram, lay_program}
use Rattle.st_mutator.specs.Mutators.{IsBetweenCalls, HasHad, begun}
use Rattle.st_mutator.proofs.MutatorLemmas.{running, begun_stands, begun_does, few_at_first}
use Rattle.st_mutator.proofs.mutators.Mutator.make.Goals as goal

pub begin-requires : goal.begin-requires
begin-requires c =
    subst (λ (laid : LaidProgram). laid.entry.locals ≤ MOST_LOCALS) c.in_ok-code.ensures (few_at_first (program_of c.args.program.now) c.args.m c.requires)

pub invariant_of-result : goal.invariant_of-result
invariant_of-result c =
    let p = program_of c.args.program.now in
    let is : begun (lay_program p c.args.m) c.args.objects c.args.events ≡ c.in_ok-machine.machine =
    ap (λ (laid : LaidProgram). begun laid c.args.objects c.args.events) c.in_ok-code.ensures ∙ sym c.in_ok-machine.ensures in
    subst (λ (m : Machine). IsBetweenCalls (running m)) is (begun_stands p c.args.m c.args.objects c.args.events c.requires)

pub returns : goal.returns
returns c = λ sizes o e.
    let p = program_of c.args.program.now in
    let is : begun (lay_program p c.args.m) c.args.objects c.args.events ≡ c.in_ok-machine.machine =
    ap (λ (laid : LaidProgram). begun laid c.args.objects c.args.events) c.in_ok-code.ensures ∙ sym c.in_ok-machine.ensures in
    subst (λ (m : Machine). HasHad p sizes c.args.m (running m) []) is (begun_does p sizes c.args.m c.args.objects c.args.events o e)
