use Rattle.std.proofs.Common.{◌+◌, ◌∷◌, ◌∙◌, sym, ap, subst}
use Rattle.st_gate.specs.Others.{HasSeen, others_below}
use Rattle.st_gate.proofs.OtherLemmas.{closing_before, others_more, others_same}
use Rattle.st_gate.proofs.closing.see_number.Goals as goal

pub see_clear-requires-clause-closing : goal.see_clear-requires-clause-closing
see_clear-requires-clause-closing g c =
    let v = c.args.seat.now.view in
    let closing = closing_before v.terms.sizes.mutators v.gate.number c.args.k c.requires.within (λ own. c.if-k-number.true (own ∙ sym c.number.ensures.number)) in
    c.requires.seen.phase_is ∙ closing

pub returns-then-k-number-clause-seen : goal.returns-then-k-number-clause-seen
returns-then-k-number-clause-seen g c =
    let v = c.args.seat.now.view in
    subst (HasSeen c.see_clear.new.seat)
    (ap (λ xs. c.args.k ∷ xs) c.requires.seen.clear_is
    ∙ sym (others_more c.args.k v.gate.number (λ own. c.if-k-number.true (own ∙ sym c.number.ensures.number)))
    ∙ ap (others_below (c.args.k + 1)) (sym c.see_clear.ensures.later.number))
    c.see_clear.ensures.seen

pub returns-else-k-number-clause-seen : goal.returns-else-k-number-clause-seen
returns-else-k-number-clause-seen g c =
    subst (HasSeen c.args.seat.now) (sym (others_same c.args.k c.args.seat.now.view.gate.number (c.if-k-number.false ∙ c.number.ensures.number))) c.requires.seen
