use Rattle.std.proofs.Common.{◌≡◌, ◌∙◌, ◌++◌, List, ℕ, [], ap}
use Rattle.st_journal.specs.declared.versions.TheConstants.{VERSION}
use Rattle.st_journal.specs.Format.{FileLists, line, version_words}
use Rattle.st_journal.proofs.WriteLemmas.{head_is_put, text_is_put_in_steps}
use Rattle.st_journal.proofs.writing.write.Goals as goal

pub returns-clause-text : goal.returns-clause-text
returns-clause-text c =
    let file : FileLists = record { sizes = c.args.sizes.now; events = c.args.events.now; verdicts = c.args.verdicts.now } in
    let first : c.put_version.new.out.items ≡ [] ++ line (version_words VERSION) =
    c.in_ok-put_version.ensures ∙ ap (λ (t : List ℕ). t ++ line (version_words VERSION)) c.new-out.ensures.items in
    text_is_put_in_steps file c.put_sizes.new.out.items c.put_events.new.out.items c.put_verdicts.new.out.items c.put_numbered.new.out.items
    (head_is_put [] c.put_version.new.out.items c.put_sizes.new.out.items c.args.sizes.now first c.in_ok-put_sizes.ensures)
    c.in_ok-put_events.ensures c.in_ok-put_verdicts.ensures c.in_ok-put_numbered.ensures
