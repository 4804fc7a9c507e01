use Rattle.std.proofs.Common.{◌≡◌, ◌∙◌, ap, subst, sym}
use Rattle.st_rule.specs.declared.views.Terms.{Terms}
use Rattle.st_rule.specs.Needs.{is_any}
use Rattle.st_barrier.specs.Keeping.{MayChange, event_of_change, lanes_in}
use Rattle.st_barrier.proofs.EventLemmas.{own_change_stays}
use Rattle.st_barrier.proofs.KeepLemmas.{found_stays}
use Rattle.st_barrier.proofs.NeedLemmas.{none_found}
use Rattle.st_barrier.proofs.events.draw_since_launch.Goals as goal

pub draw_and_keep-requires-clause-hand : goal.draw_and_keep-requires-clause-hand
draw_and_keep-requires-clause-hand g c =
    let needs = c.needing_checks-checks in
    found_stays c.args.seat.now needs.new.seat c.args.obj c.args.stamp c.args.field c.args.found needs.ensures.hand c.requires.hand

pub draw_and_keep-requires-clause-event : goal.draw_and_keep-requires-clause-event
draw_and_keep-requires-clause-event g c =
    let needs = c.needing_checks-checks in
    let told = c.change_event-event.ensures ∙ ap (λ m. event_of_change m c.args.obj c.args.field c.args.value c.args.found) c.number.ensures.number in
    subst (λ e. MayChange e c.args.obj c.args.stamp c.args.field c.args.value c.args.found needs.new.seat) (sym told)
    (own_change_stays c.args.seat.now needs.new.seat needs.ensures.stays c.args.obj c.args.stamp c.args.field c.args.value c.args.found c.requires.event)

pub draw_unneeded-requires-clause-hand : goal.draw_unneeded-requires-clause-hand
draw_unneeded-requires-clause-hand g c =
    let needs = c.needing_checks-checks in
    found_stays c.args.seat.now needs.new.seat c.args.obj c.args.stamp c.args.field c.args.found needs.ensures.hand c.requires.hand

pub draw_unneeded-requires-clause-event : goal.draw_unneeded-requires-clause-event
draw_unneeded-requires-clause-event g c =
    let needs = c.needing_checks-checks in
    own_change_stays c.args.seat.now needs.new.seat needs.ensures.stays c.args.obj c.args.stamp c.args.field c.args.value c.args.found c.requires.event

pub draw_unneeded-requires-clause-unneeded : goal.draw_unneeded-requires-clause-unneeded
draw_unneeded-requires-clause-unneeded g c =
    let needs = c.needing_checks-checks in
    let told : needs.new.seat.view.terms.sizes.lanes ≡ c.sizes.result.lanes =
    ap (λ (t : Terms). t.sizes.lanes) (needs.ensures.stays.terms ∙ c.requires.table.terms) ∙ ap (λ s. s.lanes) (sym c.sizes.ensures) in
    none_found c.args.stamp needs.result needs.new.seat needs.ensures.checks
    (ap (λ n. is_any (lanes_in needs.result n)) told ∙ sym c.is_any_needed.ensures ∙ c.if-is_any_needed.false)
