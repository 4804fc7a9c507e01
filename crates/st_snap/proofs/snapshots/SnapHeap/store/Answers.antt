use Rattle.std.proofs.Common.{◌≡◌, ◌<◌, true, ap, sym, subst, ◌∙◌, IsSome}
use Rattle.st_snap.specs.Terms.{Store, Heap, word_at, world_after}
use Rattle.st_snap.specs.Snapshots.{Snapshots, HasSpare, heap_now, lanes_now, has_kind_of}
use Rattle.st_snap.proofs.HoldsLemmas.{holds_after_event, world_is_sound, cell_has_header}
use Rattle.st_events.proofs.LegalEvents.{store_is_legal}
use Rattle.st_snap.proofs.RepresentsChange.{change_is_represented}
use Rattle.st_snap.proofs.TableLemmas.{changed_same_lanes}
use Rattle.st_snap.proofs.snapshots.SnapHeap.store.Goals as goal

pub change-requires-clause-header : goal.change-requires-clause-header
change-requires-clause-header c =
    let cell = subst (λ (s : Snapshots). IsSome (word_at (heap_now s) c.args.obj c.args.field)) (sym c.self.view_is) c.requires.cell in
    cell_has_header c.self.inside.shape c.self.inside.sizes c.self.inside.table c.self.inside.journal c.args.obj c.args.field c.self.invariant
    (subst (λ (heap : Heap). IsSome (word_at heap c.args.obj c.args.field)) (sym c.self.invariant.tables.live.heap) cell)

pub invariant_of-self : goal.invariant_of-self
invariant_of-self c =
    let f = c.self.inside in
    let w = world_after f.shape f.sizes f.journal.events in
    let spare : HasSpare (record { shape = f.shape; sizes = f.sizes; journal = f.journal.events }) = subst (λ (s : Snapshots). HasSpare s) (sym c.self.view_is) c.requires.spare in
    let thread : c.args.m < f.sizes.mutators = subst (λ (s : Snapshots). c.args.m < s.sizes.mutators) (sym c.self.view_is) c.requires.thread in
    let cell = subst (λ (s : Snapshots). IsSome (word_at (heap_now s) c.args.obj c.args.field)) (sym c.self.view_is) c.requires.cell in
    let kind = subst (λ (s : Snapshots). has_kind_of s c.args.obj c.args.field c.args.value ≡ true) (sym c.self.view_is) c.requires.kind in
    holds_after_event f.shape f.sizes f.table c.change.new.self f.journal c.append.new.journal
    (Store c.args.m c.args.obj c.args.field c.args.value) c.self.invariant spare c.append.ensures.events c.append.ensures.spare
    (store_is_legal f.shape f.sizes w c.args.m c.args.obj c.args.field c.args.value (record { thread = thread; cell = cell; kind = kind }))
    (changed_same_lanes f.table c.change.new.self c.args.obj c.args.field c.args.value c.change.ensures)
    (change_is_represented f.shape f.sizes w f.table c.change.new.self c.args.obj c.args.field c.args.value
    (world_is_sound f.shape f.sizes f.table f.journal c.self.invariant) c.self.invariant.tables c.change.ensures)

pub returns-clause-legal : goal.returns-clause-legal
returns-clause-legal c = (invariant_of-self c).legal

pub returns-clause-lanes : goal.returns-clause-lanes
returns-clause-lanes c =
    sym (invariant_of-self c).lanes ∙ changed_same_lanes c.self.inside.table c.change.new.self c.args.obj c.args.field c.args.value c.change.ensures
    ∙ c.self.invariant.lanes ∙ ap lanes_now c.self.view_is
