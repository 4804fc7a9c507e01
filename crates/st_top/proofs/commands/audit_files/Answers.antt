use Rattle.std.proofs.Common.{ℕ, List, Option, inl, inr, subst}
use Rattle.st_top.specs.Deeds.{IsOfJournal}
use Rattle.st_top.proofs.InputLemmas.{source_is_accepted}
use Rattle.st_top.proofs.RefusalLemmas.{later_cause_is_a_cause, go_on_twice}
use Rattle.st_top.proofs.commands.audit_files.Goals as goal

pub returns-in-Err-clause-cause : goal.returns-in-Err-clause-cause
returns-in-Err-clause-cause g c = inl (rw c.as_str.ensures at c.in-Err.ensures.cause)

pub returns-clause-cause : goal.returns-clause-cause
returns-clause-cause g c =
    inr (
      source_is_accepted _ c.in-Ok.typed.program (rw c.as_str.ensures at c.in-Ok.ensures.accepted),
      later_cause_is_a_cause _ _ _ _ _ c.read_program.ensures.files (rw c.as_str-2.ensures at c.in-Err-read_journal.ensures.cause),
    )

pub returns-clause-files : goal.returns-clause-files
returns-clause-files g c = go_on_twice c.read_program.ensures.files c.read_journal.ensures.files

pub returns-in-Ok-read_journal-clause-files : goal.returns-in-Ok-read_journal-clause-files
returns-in-Ok-read_journal-clause-files g c = go_on_twice c.read_program.ensures.files c.read_journal.ensures.files

pub returns-in_err-audit_journal-in-Ok-read_journal-clause-files : goal.returns-in_err-audit_journal-in-Ok-read_journal-clause-files
returns-in_err-audit_journal-in-Ok-read_journal-clause-files g c = go_on_twice c.read_program.ensures.files c.read_journal.ensures.files

pub returns-in-Ok-read_journal-clause-done : goal.returns-in-Ok-read_journal-clause-done
returns-in-Ok-read_journal-clause-done g c =
    let read = rw c.as_str-2.ensures at c.in-Ok-read_journal.ensures.read in
    let told = subst (λ (told : Option (List ℕ)). IsOfJournal told c.in-Ok-read_journal.told) (c.read_program.ensures.files.told c.args.journal.now) read in
    c.in_ok-audit_journal-in-Ok-read_journal.ensures _ _ (rw c.as_str.ensures at c.in-Ok.ensures.accepted) told
