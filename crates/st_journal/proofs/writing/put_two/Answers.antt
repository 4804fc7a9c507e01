use Rattle.std.proofs.Common.{◌++◌, ◌∙◌, ap, List, ℕ, ◌∷◌, []}
use Rattle.st_journal.specs.Spaced.{spaced}
use Rattle.st_journal.proofs.WriteLemmas.{line_is_spaced}
use Rattle.st_journal.proofs.writing.put_two.Goals as goal

pub returns : goal.returns
returns c =
    c.in_ok-push.ensures.items
    ∙ ap (λ (t : List ℕ). t ++ 10 ∷ [])
    (c.in_ok-put_numbers-2.ensures ∙ ap (λ (t : List ℕ). t ++ spaced c.args.more.now)
    (c.in_ok-put_numbers.ensures ∙ ap (λ (t : List ℕ). t ++ spaced c.args.numbers.now) c.in_ok-extend_from_slice.ensures.items))
    ∙ line_is_spaced c.args.out.now.items c.args.tag.now c.args.numbers.now c.args.more.now
