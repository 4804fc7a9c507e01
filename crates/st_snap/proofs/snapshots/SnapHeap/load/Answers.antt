use Rattle.std.proofs.Common.{◌<◌, refl, ap, sym, subst, ◌∙◌}
use Rattle.st_snap.specs.Terms.{Load, Heap, word_at, world_after}
use Rattle.st_snap.specs.Snapshots.{Snapshots, HasSpare, lanes_now}
use Rattle.st_snap.proofs.HoldsLemmas.{holds_after_event}
use Rattle.st_events.proofs.LegalEvents.{load_is_legal}
use Rattle.st_snap.proofs.snapshots.SnapHeap.load.Goals as goal

pub invariant_of-self : goal.invariant_of-self
invariant_of-self c =
    let f = c.self.inside in
    let h = c.self.invariant in
    let spare : HasSpare (record { shape = f.shape; sizes = f.sizes; journal = f.journal.events }) = subst (λ (s : Snapshots). HasSpare s) (sym c.self.view_is) c.requires.spare in
    let thread : c.args.m < f.sizes.mutators = subst (λ (s : Snapshots). c.args.m < s.sizes.mutators) (sym c.self.view_is) c.requires.thread in
    let word = ap (λ (heap : Heap). word_at heap c.args.obj c.args.field) (sym c.self.invariant.tables.live.heap) ∙ c.load-value.ensures in
    holds_after_event f.shape f.sizes f.table f.table f.journal c.append.new.journal
    (Load c.args.m c.args.obj c.args.field c.load-value.result) h spare c.append.ensures.events c.append.ensures.spare
    (load_is_legal f.shape f.sizes (world_after f.shape f.sizes f.journal.events) c.args.m c.args.obj c.args.field c.load-value.result
    (record { thread = thread; word = word })) refl c.self.invariant.tables

pub returns-clause-legal : goal.returns-clause-legal
returns-clause-legal c = (invariant_of-self c).legal

pub returns-clause-lanes : goal.returns-clause-lanes
returns-clause-lanes c = sym (invariant_of-self c).lanes ∙ c.self.invariant.lanes ∙ ap lanes_now c.self.view_is
