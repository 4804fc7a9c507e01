use Rattle.std.proofs.Common.{◌∙◌, ◌+◌, ◌-◌, length, sym, ap, subst, arith}
use Rattle.atomic_table.specs.Table.{Final, Seen}
use Rattle.st_layout.specs.Layout.{word_of}
use Rattle.st_layout.specs.Names.{ClockWord, AvailableWord}
use Rattle.st_events.specs.History.{epoch_of, active_checks, kept_rows}
use Rattle.st_rule.specs.declared.views.View.{View}
use Rattle.st_rule.specs.Ends.{IsHistoryOf, HasLogs}
use Rattle.st_rule.specs.Keys.{told_by}
use Rattle.st_rule.specs.Rows.{IsUnretired, rows_told, row_word}
use Rattle.st_rule.specs.Rule.{IsSoundTable}
use Rattle.st_rule.specs.Views.{mutator_of}
use Rattle.std.specs.Slots.{slots_items}
use Rattle.st_rule.proofs.BoardLemmas.{word_within}
use Rattle.st_rule.proofs.EndLemmas.{final_history, final_logs, final_clock, final_copies, final_few, final_idle, final_rows, final_no_rows}
use Rattle.st_rule.proofs.tables.Shared.close.Goals as goal

pub word-clock-requires : goal.word-clock-requires
word-clock-requires g c = let table = c.args.self in (
  word_within table.table.shared.key.sizes table.plan ClockWord _ _ table.fits table.plan_is tt c.clock_word.ensures (c.close_with-closed.ensures.counts.0 ∙ table.counted),
  c.close_with-closed.ensures.values.0,
)

pub word-available-requires : goal.word-available-requires
word-available-requires g c = let table = c.args.self in (
  word_within table.table.shared.key.sizes table.plan AvailableWord _ _ table.fits table.plan_is tt c.available_word.ensures (c.close_with-closed.ensures.counts.0 ∙ table.counted),
  c.close_with-closed.ensures.values.0,
)

pub of-requires : goal.of-requires
of-requires g c =
    let told = told_by g.J.Judge.meant g.J.Judge.right c.args.self.table.shared.key in
    let seat = c.into_parts-seat in
    let final = subst (λ (x : View). Final (Seen (IsSoundTable told) seat.result.0.id x) (slots_items c.close_with-closed.result.words) (slots_items c.close_with-closed.result.slots))
    (ap (λ m. m.0) seat.ensures.view) c.close_with-closed.ensures.values.2 in
    c.hi.ensures.half
    ∙ final_clock told seat.result.0.id c.args.main.view (c.requires.main ∙ ap (λ t. t.sizes.mutators) c.requires.table.terms) c.requires.joined
    (slots_items c.close_with-closed.result.words) (slots_items c.close_with-closed.result.slots) final _ c.word-clock.result
    (c.clock_word.ensures ∙ ap (λ p. word_of p ClockWord) c.args.self.plan_is) c.word-clock.ensures
    ∙ ap (λ m. length (mutator_of m.0).journal.seen) (sym seat.ensures.view) ∙ ap (λ x. length (mutator_of x.me.0).journal.seen) (sym c.of-picture.ensures)

pub returns-clause-seen : goal.returns-clause-seen
returns-clause-seen g c =
    c.of.ensures.history ∙ ap (λ x. (mutator_of x.me.0).journal.seen) c.of-picture.ensures ∙ ap (λ m. (mutator_of m.0).journal.seen) c.into_parts-seat.ensures.view

pub returns-clause-history : goal.returns-clause-history
returns-clause-history g c =
    let told = told_by g.J.Judge.meant g.J.Judge.right c.args.self.table.shared.key in
    let seat = c.into_parts-seat in
    let final = subst (λ (x : View). Final (Seen (IsSoundTable told) seat.result.0.id x) (slots_items c.close_with-closed.result.words) (slots_items c.close_with-closed.result.slots))
    (ap (λ m. m.0) seat.ensures.view) c.close_with-closed.ensures.values.2 in
    subst (IsHistoryOf told) (sym (returns-clause-seen g c))
    (final_history told seat.result.0.id c.args.main.view (c.requires.main ∙ ap (λ t. t.sizes.mutators) c.requires.table.terms) c.requires.joined
    (slots_items c.close_with-closed.result.words) (slots_items c.close_with-closed.result.slots) final)

pub returns-clause-logs : goal.returns-clause-logs
returns-clause-logs g c =
    let told = told_by g.J.Judge.meant g.J.Judge.right c.args.self.table.shared.key in
    let seat = c.into_parts-seat in
    let final = subst (λ (x : View). Final (Seen (IsSoundTable told) seat.result.0.id x) (slots_items c.close_with-closed.result.words) (slots_items c.close_with-closed.result.slots))
    (ap (λ m. m.0) seat.ensures.view) c.close_with-closed.ensures.values.2 in
    subst (λ es. HasLogs es c.args.main.view.hands.joined) (sym (returns-clause-seen g c))
    (final_logs told seat.result.0.id c.args.main.view (c.requires.main ∙ ap (λ t. t.sizes.mutators) c.requires.table.terms) c.requires.joined
    (slots_items c.close_with-closed.result.words) (slots_items c.close_with-closed.result.slots) final)

pub returns-clause-rows : goal.returns-clause-rows
returns-clause-rows g c = λ check k has none.
    let told = told_by g.J.Judge.meant g.J.Judge.right c.args.self.table.shared.key in
    let seat = c.into_parts-seat in
    let final = subst (λ (x : View). Final (Seen (IsSoundTable told) seat.result.0.id x) (slots_items c.close_with-closed.result.words) (slots_items c.close_with-closed.result.slots))
    (ap (λ m. m.0) seat.ensures.view) c.close_with-closed.ensures.values.2 in
    ap (λ rows. row_word rows check k) c.of.ensures.rows
    ∙ ap (λ x. row_word (rows_told c.args.self.plan (slots_items x.words)) check k) c.of-words.ensures
    ∙ ap (λ p. row_word (rows_told p (slots_items c.close_with-closed.result.words)) check k) c.args.self.plan_is
    ∙ final_rows told seat.result.0.id c.args.main.view (c.requires.main ∙ ap (λ t. t.sizes.mutators) c.requires.table.terms) c.requires.joined
    (slots_items c.close_with-closed.result.words) (slots_items c.close_with-closed.result.slots) final check k has (subst (λ es. IsUnretired es check) (returns-clause-seen g c) none)

pub returns-clause-unlaunched : goal.returns-clause-unlaunched
returns-clause-unlaunched g c = λ none check k has.
    let told = told_by g.J.Judge.meant g.J.Judge.right c.args.self.table.shared.key in
    let seat = c.into_parts-seat in
    let final = subst (λ (x : View). Final (Seen (IsSoundTable told) seat.result.0.id x) (slots_items c.close_with-closed.result.words) (slots_items c.close_with-closed.result.slots))
    (ap (λ m. m.0) seat.ensures.view) c.close_with-closed.ensures.values.2 in
    ap (λ rows. row_word rows check k) c.of.ensures.rows
    ∙ ap (λ x. row_word (rows_told c.args.self.plan (slots_items x.words)) check k) c.of-words.ensures
    ∙ ap (λ p. row_word (rows_told p (slots_items c.close_with-closed.result.words)) check k) c.args.self.plan_is
    ∙ final_no_rows told seat.result.0.id c.args.main.view (c.requires.main ∙ ap (λ t. t.sizes.mutators) c.requires.table.terms) c.requires.joined
    (slots_items c.close_with-closed.result.words) (slots_items c.close_with-closed.result.slots) final
    (ap (epoch_of told.terms.shape told.terms.sizes) (sym (returns-clause-seen g c)) ∙ none) check k has

pub free_copies-free-requires : goal.free_copies-free-requires
free_copies-free-requires g c =
    let told = told_by g.J.Judge.meant g.J.Judge.right c.args.self.table.shared.key in
    let seat = c.into_parts-seat in
    let final = subst (λ (x : View). Final (Seen (IsSoundTable told) seat.result.0.id x) (slots_items c.close_with-closed.result.words) (slots_items c.close_with-closed.result.slots))
    (ap (λ m. m.0) seat.ensures.view) c.close_with-closed.ensures.values.2 in
    final_few told seat.result.0.id c.args.main.view (c.requires.main ∙ ap (λ t. t.sizes.mutators) c.requires.table.terms) c.requires.joined
    (slots_items c.close_with-closed.result.words) (slots_items c.close_with-closed.result.slots) final _ c.word-available.result
    (c.available_word.ensures ∙ ap (λ p. word_of p AvailableWord) c.args.self.plan_is) c.word-available.ensures

pub returns-clause-copies : goal.returns-clause-copies
returns-clause-copies g c =
    let told = told_by g.J.Judge.meant g.J.Judge.right c.args.self.table.shared.key in
    let seat = c.into_parts-seat in
    let final = subst (λ (x : View). Final (Seen (IsSoundTable told) seat.result.0.id x) (slots_items c.close_with-closed.result.words) (slots_items c.close_with-closed.result.slots))
    (ap (λ m. m.0) seat.ensures.view) c.close_with-closed.ensures.values.2 in
    let counted = final_copies told seat.result.0.id c.args.main.view (c.requires.main ∙ ap (λ t. t.sizes.mutators) c.requires.table.terms) c.requires.joined
    (slots_items c.close_with-closed.result.words) (slots_items c.close_with-closed.result.slots) final
    _ c.word-available.result _ c.word-clock.result
    (c.available_word.ensures ∙ ap (λ p. word_of p AvailableWord) c.args.self.plan_is) c.word-available.ensures
    (c.clock_word.ensures ∙ ap (λ p. word_of p ClockWord) c.args.self.plan_is) c.word-clock.ensures in
    let free = c.of.ensures.free ∙ c.free_copies-free.ensures ∙ ap (λ k. c.word-available.result - k) c.lo.ensures.half in
    let seen = returns-clause-seen g c in
    (λ i. free i + length (kept_rows told.terms.shape told.terms.sizes (seen i))) ∙ counted

pub returns-clause-free : goal.returns-clause-free
returns-clause-free g c = λ none.
    let told = told_by g.J.Judge.meant g.J.Judge.right c.args.self.table.shared.key in
    let seat = c.into_parts-seat in
    let final = subst (λ (x : View). Final (Seen (IsSoundTable told) seat.result.0.id x) (slots_items c.close_with-closed.result.words) (slots_items c.close_with-closed.result.slots))
    (ap (λ m. m.0) seat.ensures.view) c.close_with-closed.ensures.values.2 in
    let kept = ap (kept_rows told.terms.shape told.terms.sizes) (returns-clause-seen g c) ∙ final_idle told seat.result.0.id c.args.main.view (c.requires.main ∙ ap (λ t. t.sizes.mutators) c.requires.table.terms) c.requires.joined
    (slots_items c.close_with-closed.result.words) (slots_items c.close_with-closed.result.slots) final
    (ap (active_checks told.terms.shape told.terms.sizes) (sym (returns-clause-seen g c)) ∙ none) in
    let none_kept = ap length kept in
    let counted = returns-clause-copies g c in
    omega (arith, none_kept, counted)
