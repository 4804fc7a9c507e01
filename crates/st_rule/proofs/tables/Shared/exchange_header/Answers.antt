use Rattle.std.proofs.Common.{◌∙◌, ◌+◌, ◌<◌, eqb, add-one, sym, ap, subst, arith}
use prog.Atomic.{either}
use Rattle.st_layout.specs.Layout.{word_of}
use Rattle.st_layout.specs.Names.{HeaderWord, cells_of}
use Rattle.st_layout.specs.Packed.{packed, high_half}
use Rattle.st_rule.specs.declared.views.MutView.{MutView}
use Rattle.st_rule.specs.declared.views.Terms.{Terms}
use Rattle.st_rule.specs.Board.{plan_of}
use Rattle.st_rule.specs.Draws.{MayLock}
use Rattle.st_rule.specs.Keys.{told_by}
use Rattle.st_rule.specs.Plays.{Locks, LocksWhere}
use Rattle.st_rule.specs.Rule.{IsSoundTable}
use Rattle.st_rule.specs.Views.{mutator_of}
use Rattle.st_rule.proofs.ActSteps.{lock_keeps}
use Rattle.st_rule.proofs.PackedLemmas.{high_packed}
use Rattle.st_rule.proofs.ReachLemmas.{lock_within}
use Rattle.st_rule.proofs.ObjectSeats.{allows_more, locks_where, where_locks, lock_kept, lock_found}
use Rattle.st_rule.proofs.tables.Shared.exchange_header.Goals as goal

pub header_place-word-requires : goal.header_place-word-requires
header_place-word-requires g c =
    subst (λ (t : Terms). c.args.obj < cells_of (plan_of t.sizes)) c.requires.table.terms (lock_within c.args.seat.now.view c.args.obj c.is_fair.ensures c.requires.object)

pub compare_exchange-requires : goal.compare_exchange-requires
compare_exchange-requires g c =
    let told = told_by g.J.Judge.meant g.J.Judge.right c.args.self.now.table.shared.key in
    let slots = c.args.self.now.table.shared.table_id.slots in
    let me = c.seat.inside.seat.me in
    let same = ap (λ s. s.view) c.seat.view_is in
    let v = mutator_of me.0 in
    let is = ap (λ m. m.0) c.seat.invariant.mutator in
    let may = subst (λ (x : MutView). MayLock x c.args.obj) (sym same) c.requires.object in
    let terms = ap (λ v. v.terms) same ∙ c.requires.table.terms in
    let place = c.header_place-word.result in
    let is_place = c.header_place-word.ensures.place in
    let within = subst (λ (t : Terms). c.args.obj < cells_of (plan_of t.sizes)) terms (lock_within v c.args.obj c.seat.invariant.fair may) in
    let mine = c.requires.own ∙ ap (λ k. packed c.args.stamp (k + 1)) (ap (λ v. v.gate.number) (sym same)) ∙ ap (packed c.args.stamp) (add-one v.gate.number) in
    let stamp = ap high_half c.requires.free ∙ high_packed c.args.stamp 0 (omega arith) in (
      ap (λ s. s.table) c.seat.view_is ∙ c.requires.table.table,
      c.header_place-word.ensures.within,
      allows_more (IsSoundTable told) slots c.seat.inside.seat.id me place (λ n. either (eqb n c.args.free) c.args.mine n)
          (Locks c.args.obj c.args.stamp me) (LocksWhere place (high_half c.args.free) me)
          (λ x after. locks_where c.args.obj c.args.stamp c.args.free place x me after v is
          (is_place ∙ ap (λ (t : Terms). word_of (plan_of t.sizes) (HeaderWord c.args.obj)) (sym terms)) stamp)
          (lock_keeps told slots c.seat.inside.seat.id me v is place c.args.obj c.args.stamp c.args.free c.args.mine is_place within c.requires.free mine
          (ap (λ v. v.gate.phase) same ∙ c.requires.phase) (ap (λ v. v.held) same ∙ c.requires.hand) may),
    )

pub invariant_of-seat : goal.invariant_of-seat
invariant_of-seat g c =
    lock_kept c.seat.invariant c.args.obj c.args.stamp c.compare_exchange.result
    (lock_within (mutator_of c.seat.inside.seat.me.0) c.args.obj c.seat.invariant.fair
    (subst (λ (x : MutView). MayLock x c.args.obj) (sym (ap (λ s. s.view) c.seat.view_is)) c.requires.object))
    (let me = c.seat.inside.seat.me in
    let same = ap (λ s. s.view) c.seat.view_is in
    let terms = ap (λ v. v.terms) same ∙ c.requires.table.terms in
    where_locks c.args.obj c.args.stamp c.args.free c.header_place-word.result c.compare_exchange.result me c.compare_exchange.new.seat.me (mutator_of me.0)
    (ap (λ m. m.0) c.seat.invariant.mutator)
    (c.header_place-word.ensures.place ∙ ap (λ (t : Terms). word_of (plan_of t.sizes) (HeaderWord c.args.obj)) (sym terms))
    (ap high_half c.requires.free ∙ high_packed c.args.stamp 0 (omega arith)) c.compare_exchange.ensures.2)

pub returns-clause-fair : goal.returns-clause-fair
returns-clause-fair g c = (invariant_of-seat g c).fair

pub returns-clause-view : goal.returns-clause-view
returns-clause-view g c =
    lock_found c.seat.invariant c.args.obj c.args.stamp c.compare_exchange.result
    (let me = c.seat.inside.seat.me in
    let same = ap (λ s. s.view) c.seat.view_is in
    let terms = ap (λ v. v.terms) same ∙ c.requires.table.terms in
    where_locks c.args.obj c.args.stamp c.args.free c.header_place-word.result c.compare_exchange.result me c.compare_exchange.new.seat.me (mutator_of me.0)
    (ap (λ m. m.0) c.seat.invariant.mutator)
    (c.header_place-word.ensures.place ∙ ap (λ (t : Terms). word_of (plan_of t.sizes) (HeaderWord c.args.obj)) (sym terms))
    (ap high_half c.requires.free ∙ high_packed c.args.stamp 0 (omega arith)) c.compare_exchange.ensures.2)
    c.args.seat.now.view (ap (λ s. s.view) c.seat.view_is)

pub returns-clause-found : goal.returns-clause-found
returns-clause-found g c =
    let me = c.seat.inside.seat.me in
    let locks = (let me = c.seat.inside.seat.me in
    let same = ap (λ s. s.view) c.seat.view_is in
    let terms = ap (λ v. v.terms) same ∙ c.requires.table.terms in
    where_locks c.args.obj c.args.stamp c.args.free c.header_place-word.result c.compare_exchange.result me c.compare_exchange.new.seat.me (mutator_of me.0)
    (ap (λ m. m.0) c.seat.invariant.mutator)
    (c.header_place-word.ensures.place ∙ ap (λ (t : Terms). word_of (plan_of t.sizes) (HeaderWord c.args.obj)) (sym terms))
    (ap high_half c.requires.free ∙ high_packed c.args.stamp 0 (omega arith)) c.compare_exchange.ensures.2) in
    ap (λ v. (mutator_of v).tally.found) (locks.becomes.view (mutator_of me.0) (ap (λ m. m.0) c.seat.invariant.mutator))
