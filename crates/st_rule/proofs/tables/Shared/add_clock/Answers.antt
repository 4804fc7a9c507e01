use Rattle.std.proofs.Common.{◌∙◌, ℕ, ◌++◌, ◌+◌, ◌-◌, ◌%◌, ◌^◌, ◌∷◌, [], sym, ap, subst}
use Rattle.st_rule.specs.Keys.{told_by}
use Rattle.st_rule.specs.Views.{mutator_of}
use Rattle.st_rule.specs.declared.views.MutView.{MutView}
use Rattle.st_rule.specs.Draws.{MayDraw}
use Rattle.st_rule.proofs.DrawSteps.{draw_keeps}
use Rattle.st_rule.proofs.ObjectSeats.{draw_found, drawn_kept}
use Rattle.atomic_table.specs.Table.{Allows}
use Rattle.st_events.specs.declared.events.Event.{Event}
use Rattle.st_rule.specs.Plays.{Draws}
use Rattle.st_rule.specs.Rule.{IsSoundTable}
use Rattle.st_rule.specs.SeatValue.{KeepsSeat}
use Rattle.st_rule.proofs.tables.Shared.add_clock.Goals as goal

pub fetch_add-found-requires : goal.fetch_add-found-requires
fetch_add-found-requires g c =
    let told = told_by g.J.Judge.meant g.J.Judge.right c.args.self.now.table.shared.key in
    let slots = c.args.self.now.table.shared.table_id.slots in
    let me = c.seat.inside.seat.me in
    let same = ap (λ s. s.view) c.seat.view_is in
    let may = subst (λ (x : MutView). MayDraw x c.args.event c.args.copy) (sym same) c.requires.event in (
      ap (λ s. s.table) c.seat.view_is ∙ c.requires.table.table,
      c.clock_place-word.ensures.within,
      subst (λ (e : Event). Allows (IsSoundTable told) slots c.seat.inside.seat.id me c.clock_place-word.result
          (λ n. (n + c.ticket_and_index-added.result) % 2 ^ 64) (Draws e me)) (sym c.requires.picked)
          (draw_keeps told slots c.seat.inside.seat.id me (mutator_of me.0) (ap (λ m. m.0) c.seat.invariant.mutator)
          c.clock_place-word.result c.ticket_and_index-added.result c.args.event c.args.copy c.clock_place-word.ensures.place
          c.ticket_and_index-added.ensures may),
    )

pub invariant_of-seat : goal.invariant_of-seat
invariant_of-seat g c =
    let keeps = drawn_kept c.seat.invariant c.args.event c.args.copy
    (subst (λ (x : MutView). MayDraw x c.args.event c.args.copy) (sym (ap (λ s. s.view) c.seat.view_is)) c.requires.event) c.fetch_add-found.result
    (subst (λ (e : Event). Draws e c.seat.inside.seat.me c.fetch_add-found.result c.fetch_add-found.new.seat.me) c.requires.picked c.fetch_add-found.ensures.2)
    c.keep_entry.new.entries.items (c.keep_entry.ensures.items ∙ ap (λ t. c.seat.inside.entries.items ++ record { ticket = t; event = c.args.event } ∷ []) c.hi.ensures.half) in
    subst (λ (x : ℕ × ℕ). KeepsSeat c.fetch_add-found.new.seat.me c.seat.inside.number (c.seat.inside.spare - 1) (c.seat.inside.room - x.0) c.keep_entry.new.entries.items x.1)
    (λ i. (sym c.objects_made.ensures i, sym c.keep_entry.ensures.capacity i)) keeps

pub returns-clause-fair : goal.returns-clause-fair
returns-clause-fair g c = (invariant_of-seat g c).fair

pub returns-clause-view : goal.returns-clause-view
returns-clause-view g c =
    draw_found c.seat.invariant c.args.event c.fetch_add-found.result
    (subst (λ (e : Event). Draws e c.seat.inside.seat.me c.fetch_add-found.result c.fetch_add-found.new.seat.me) c.requires.picked c.fetch_add-found.ensures.2)
    c.args.seat.now.view (ap (λ s. s.view) c.seat.view_is)
