use Rattle.std.proofs.Common.{◌∙◌}
use Rattle.st_top.proofs.ProgramLemmas.{numbers_have_the_places}
use Rattle.st_top.proofs.ReadingLemmas.{each_ok}
use Rattle.st_top.proofs.heads.collect_places.Goals as goal

pub returns : goal.returns
returns c = each_ok c.places_among.result _ _
    (λ places is. (rw (c.as_slice.ensures, c.resolved.ensures.resolved) at is) ∙ numbers_have_the_places c.args.typed.now.program c.args.typed.now.resolved c.resolved.ensures.of_tree)
    c.places_among.ensures
