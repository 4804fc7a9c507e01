use Rattle.std.proofs.Common.{◌≡◌, subst, sym, true}
use Rattle.st_rule.specs.declared.views.Terms.{Terms}
use Rattle.st_rule.specs.Needs.{is_any}
use Rattle.st_barrier.specs.Keeping.{lanes_in}
use Rattle.st_barrier.proofs.EventLemmas.{change_stays}
use Rattle.st_barrier.proofs.KeepLemmas.{checks_kept}
use Rattle.st_barrier.proofs.events.draw_and_keep.Goals as goal

pub draw_needed-index-requires-clause-event : goal.draw_needed-index-requires-clause-event
draw_needed-index-requires-clause-event g c =
    let x = c.args.change in
    let loaded = c.load_fields-fields in
    change_stays c.args.seat.now loaded.new.seat loaded.ensures.board.stays x.event x.obj x.stamp x.field x.value c.args.found c.requires.event

pub draw_needed-index-requires-clause-checks : goal.draw_needed-index-requires-clause-checks
draw_needed-index-requires-clause-checks g c =
    let loaded = c.load_fields-fields in
    checks_kept c.args.seat.now loaded.new.seat loaded.ensures.board c.args.change.stamp c.args.checks.now c.requires.checks

pub draw_needed-index-requires-clause-some : goal.draw_needed-index-requires-clause-some
draw_needed-index-requires-clause-some g c =
    subst (λ (t : Terms). is_any (lanes_in c.args.checks.now t.sizes.lanes) ≡ true) (sym c.load_fields-fields.ensures.board.stays.terms) c.requires.some
