use Rattle.st_limit_laws.proofs.WithinLemmas.{within_limits}
use Rattle.st_source.proofs.reading.typed_source.Goals as goal

pub check_types-requires : goal.check_types-requires
check_types-requires c =
    let h = c.in_ok-tree.ensures.tree in
    within_limits c.args.text.now h.tokens c.in_ok-tree.tree h.lexed h.parsed.spelled h.parsed.few_items
