use Rattle.std.proofs.Common.{◌≢◌, Some, None, refl, subst, rules}
use Rattle.st_audit.specs.declared.findings.Finding.TheVariants as found
use Rattle.st_audit.specs.Findings.{IsRightJournal, IsFinding}
use Rattle.st_events.specs.Terms.{ShapeLists}
use Rattle.st_journal.specs.Format.{FileLists}
use Rattle.st_resolved.specs.Terms.{Program as Numbers}
use Rattle.st_resolved.specs.Views.{program_of}
use Rattle.st_top.proofs.DoingLemmas.{holds_of_tree, journal_is_audited}
use Rattle.st_top.proofs.journals.audit_journal.Goals as goal

pub returns-in_ok-to_vec-in-Ok : goal.returns-in_ok-to_vec-in-Ok
returns-in_ok-to_vec-in-Ok c = λ source journal accepted read.
    let file = c.args.file.now in
    let there = rw (c.deref.ensures.value, c.deref-2.ensures.value) at c.in-Ok.ensures.ok in
    let here = subst (λ (f : FileLists). IsRightJournal c.args.typed.now.shape (program_of c.args.typed.now.resolved) f.sizes f.events f.verdicts) c.file.view_is there in
    let right = holds_of_tree c.args.typed.now.program _ _ (λ (s : ShapeLists) (p : Numbers). IsRightJournal s p file.sizes file.events file.verdicts)
    c.shape-shape.ensures.of_tree c.resolved-numbers.ensures.of_tree here in
    journal_is_audited source journal c.args.typed.now.program file None _ _ c.requires right (c.in_ok-to_vec-in-Ok.ensures.items_if_clones_equal (λ x y same. same)) refl accepted read

pub returns-in_ok-make_finding_line-in-Err : goal.returns-in_ok-make_finding_line-in-Err
returns-in_ok-make_finding_line-in-Err c = λ source journal accepted read.
    let file = c.args.file.now in
    let finding = c.in-Err.finding in
    let known : finding ≢ found.Memory = search rules in
    let there = rw (c.deref.ensures.value, c.deref-2.ensures.value) at (c.audit.ensures.found finding c.in-Err.is) in
    let here = subst (λ (f : FileLists). IsFinding c.args.typed.now.shape (program_of c.args.typed.now.resolved) f.sizes f.events f.verdicts finding) c.file.view_is there in
    let is_one = holds_of_tree c.args.typed.now.program _ _ (λ (s : ShapeLists) (p : Numbers). IsFinding s p file.sizes file.events file.verdicts finding)
    c.shape-shape.ensures.of_tree c.resolved-numbers.ensures.of_tree here in
    journal_is_audited source journal c.args.typed.now.program file (Some finding) _ _ c.requires (known, is_one) c.in_ok-make_finding_line-in-Err.ensures refl accepted read
