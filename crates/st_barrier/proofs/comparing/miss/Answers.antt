use Rattle.std.proofs.Common.{false, refl, subst, sym}
use Rattle.st_events.specs.declared.events.Event.TheVariants.{Cas}
use Rattle.st_rule.specs.Draws.{MayDraw}
use Rattle.st_barrier.specs.Calls.{MakesEvent}
use Rattle.st_barrier.proofs.EventLemmas.{undone_plain}
use Rattle.st_barrier.proofs.comparing.miss.Goals as goal

pub note-requires-clause-event : goal.note-requires-clause-event
note-requires-clause-event g c =
    subst (λ k. MayDraw c.args.seat.now.view (Cas k c.args.obj c.args.field c.args.expect c.args.value false) false) (sym c.number.ensures.number) c.requires.event

pub note-requires-clause-plain : goal.note-requires-clause-plain
note-requires-clause-plain g c = undone_plain c.number.result c.args.obj c.args.field c.args.expect c.args.value false refl

pub returns-clause-made : goal.returns-clause-made
returns-clause-made g c =
    subst (λ k. MakesEvent (Cas k c.args.obj c.args.field c.args.expect c.args.value false) c.args.seat.now c.note.new.seat) c.number.ensures.number c.note.ensures.made
