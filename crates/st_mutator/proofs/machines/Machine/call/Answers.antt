use Rattle.std.proofs.Common.{ℕ, List, Option, Some, None, sym, ◌∙◌, ap, subst, ◌≡◌, ◌<◌, ◌≤◌, length, arith}
use Rattle.std.specs.Prelude.{slice_get}
use Rattle.st_events.specs.declared.verdicts.End.TheVariants.{EventsSpent, ProcDeep}
use Rattle.st_thread_meaning.specs.declared.limits.TheConstants.{MOST_OPEN_CALLS}
use Rattle.st_mutator.specs.declared.asking.Asked.TheVariants as asked
use Rattle.st_mutator.specs.declared.machines.Machine.{Machine}
use Rattle.st_mutator.specs.declared.nodes.Entry.{Entry}
use Rattle.st_mutator.specs.declared.nodes.Node.TheVariants.{Call}
use Rattle.st_mutator.specs.Standing.{IsStep, work_of, node_deed, fresh_at, entered_in}
use Rattle.st_mutator.proofs.CallLemmas.{charged, deep_step, call_spent, no_body_step, enter_step}
use Rattle.st_mutator.proofs.machines.Machine.call.Goals as goal

pub returns-then-len-ge-MOST_OPEN_CALLS : goal.returns-then-len-ge-MOST_OPEN_CALLS
returns-then-len-ge-MOST_OPEN_CALLS c =
    let m = c.args.self.now in
    deep_step m c.args.procedure c.args.count c.args.at c.args.next c.requires.standing (omega (arith, c.if-len-ge-MOST_OPEN_CALLS.true, c.len.ensures))

pub returns-then-not-pay : goal.returns-then-not-pay
returns-then-not-pay c =
    let m = c.args.self.now in
    subst (λ (x : Machine). IsStep (Some (asked.End EventsSpent)) x m.nodes m.entries (work_of m) (node_deed m (Call c.args.procedure c.args.count c.args.at c.args.next)))
    (sym c.if-not-pay.ensures.1)
    (call_spent m c.args.procedure c.args.count c.args.at c.args.next c.requires.standing
    (omega (arith, c.if-len-ge-MOST_OPEN_CALLS.false, c.len.ensures)) c.if-not-pay.ensures.0)

pub returns-in-None : goal.returns-in-None
returns-in-None c =
    let m = c.args.self.now in
    let there : c.go_to.new.self ≡ fresh_at c.args.next (charged m) = c.go_to.ensures ∙ ap (λ (x : Machine). fresh_at c.args.next x) c.if-not-pay.ensures.1 in
    let none : slice_get m.entries c.args.procedure ≡ None =
    ap (λ (x : Machine). slice_get x.entries c.args.procedure) (sym c.if-not-pay.ensures.1)
    ∙ ap (λ (i : ℕ). slice_get c.pay.new.self.entries i) (sym c.from.ensures) ∙ sym c.in-None.ensures.value in
    subst (λ (x : Machine). IsStep None x m.nodes m.entries (work_of m) (node_deed m (Call c.args.procedure c.args.count c.args.at c.args.next))) (sym there)
    (no_body_step m c.args.procedure c.args.count c.args.at c.args.next c.requires.standing c.requires.earlier
    (omega (arith, c.if-len-ge-MOST_OPEN_CALLS.false, c.len.ensures)) c.if-not-pay.ensures.0 none)

pub returns-in-Some : goal.returns-in-Some
returns-in-Some c =
    let m = c.args.self.now in
    let entry = c.in-Some.entry.now in
    let there : c.enter.new.self ≡ entered_in entry c.args.count c.args.next (charged m) =
    c.enter.ensures ∙ ap (λ (x : Machine). entered_in entry c.args.count c.args.next x) c.if-not-pay.ensures.1 in
    let some : slice_get m.entries c.args.procedure ≡ Some entry =
    ap (λ (x : Machine). slice_get x.entries c.args.procedure) (sym c.if-not-pay.ensures.1)
    ∙ ap (λ (i : ℕ). slice_get c.pay.new.self.entries i) (sym c.from.ensures) ∙ sym c.in-Some.ensures.value in
    subst (λ (x : Machine). IsStep None x m.nodes m.entries (work_of m) (node_deed m (Call c.args.procedure c.args.count c.args.at c.args.next))) (sym there)
    (enter_step m c.args.procedure c.args.count c.args.at c.args.next entry c.requires.standing c.requires.earlier
    (omega (arith, c.if-len-ge-MOST_OPEN_CALLS.false, c.len.ensures)) c.if-not-pay.ensures.0 some)
