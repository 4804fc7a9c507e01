use Rattle.std.proofs.Common.{arith, subst}
use Rattle.st_events.specs.declared.events.Event.{Event}
use Rattle.st_audit.specs.Balance.{CanNote}
use Rattle.st_audit.proofs.BooksLemmas.{counted_are_few, retire_is_counted}
use Rattle.st_audit.proofs.ledgers.Ledger.note.Goals as goal

pub change-requires-clause-kept : goal.change-requires-clause-kept
change-requires-clause-kept c = omega (arith, c.requires.balance.kept, counted_are_few c.args.self.now.active c.args.self.now.rows)

pub change-requires-then-done-clause-kept : goal.change-requires-then-done-clause-kept
change-requires-then-done-clause-kept c = omega (arith, c.requires.balance.kept, counted_are_few c.args.self.now.active c.args.self.now.rows)

pub retire-requires-clause-kept : goal.retire-requires-clause-kept
retire-requires-clause-kept c =
    let can = subst (λ (e : Event). CanNote e c.args.self.now) c.in-Retire.is c.requires.can in
    (retire_is_counted c.args.self.now c.in-Retire.number can.0 can.1 c.requires.balance).enough

pub retire-requires-clause-few : goal.retire-requires-clause-few
retire-requires-clause-few c = omega (arith, c.requires.balance.kept, counted_are_few c.args.self.now.active c.args.self.now.rows)

pub retire-requires-clause-rows : goal.retire-requires-clause-rows
retire-requires-clause-rows c = (subst (λ (e : Event). CanNote e c.args.self.now) c.in-Retire.is c.requires.can).2
