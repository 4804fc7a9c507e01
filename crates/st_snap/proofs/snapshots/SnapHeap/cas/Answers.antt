use Rattle.std.proofs.Common.{◌≡◌, ◌<◌, true, ap, sym, subst, ◌∙◌, IsSome}
use Rattle.st_snap.specs.Terms.{Cas, Heap, word_at, world_after}
use Rattle.st_events.specs.Legal.{is_word}
use Rattle.st_snap.specs.Snapshots.{Snapshots, HasSpare, heap_now, lanes_now, has_kind_of}
use Rattle.st_snap.proofs.HoldsLemmas.{holds_after_event, world_is_sound, cell_has_header, cas_is_represented, cas_keeps_lanes}
use Rattle.st_events.proofs.LegalEvents.{cas_is_legal}
use Rattle.st_snap.proofs.snapshots.SnapHeap.cas.Goals as goal

pub change_where-done-requires-clause-header : goal.change_where-done-requires-clause-header
change_where-done-requires-clause-header c =
    let cell = subst (λ (s : Snapshots). IsSome (word_at (heap_now s) c.args.obj c.args.field)) (sym c.self.view_is) c.requires.cell in
    cell_has_header c.self.inside.shape c.self.inside.sizes c.self.inside.table c.self.inside.journal c.args.obj c.args.field c.self.invariant
    (subst (λ (heap : Heap). IsSome (word_at heap c.args.obj c.args.field)) (sym c.self.invariant.tables.live.heap) cell)

pub invariant_of-self : goal.invariant_of-self
invariant_of-self c =
    let f = c.self.inside in
    let w = world_after f.shape f.sizes f.journal.events in
    let done = c.change_where-done.result in
    let spare : HasSpare (record { shape = f.shape; sizes = f.sizes; journal = f.journal.events }) = subst (λ (s : Snapshots). HasSpare s) (sym c.self.view_is) c.requires.spare in
    let thread : c.args.m < f.sizes.mutators = subst (λ (s : Snapshots). c.args.m < s.sizes.mutators) (sym c.self.view_is) c.requires.thread in
    let cell = subst (λ (s : Snapshots). IsSome (word_at (heap_now s) c.args.obj c.args.field)) (sym c.self.view_is) c.requires.cell in
    let expect = subst (λ (s : Snapshots). has_kind_of s c.args.obj c.args.field c.args.expect ≡ true) (sym c.self.view_is) c.requires.expect in
    let kind = subst (λ (s : Snapshots). has_kind_of s c.args.obj c.args.field c.args.value ≡ true) (sym c.self.view_is) c.requires.kind in
    let is = c.change_where-done.ensures.done ∙ ap (λ (heap : Heap). is_word (word_at heap c.args.obj c.args.field) c.args.expect) c.self.invariant.tables.live.heap in
    holds_after_event f.shape f.sizes f.table c.change_where-done.new.self f.journal c.append.new.journal
    (Cas c.args.m c.args.obj c.args.field c.args.expect c.args.value done) c.self.invariant spare c.append.ensures.events c.append.ensures.spare
    (cas_is_legal f.shape f.sizes w c.args.m c.args.obj c.args.field c.args.expect c.args.value done (record { thread = thread; cell = cell; expected = expect; kind = kind; answer = is }))
    (cas_keeps_lanes f.table c.change_where-done.new.self c.args.obj c.args.field c.args.value done c.change_where-done.ensures.changed)
    (cas_is_represented f.shape f.sizes w f.table c.change_where-done.new.self c.args.m c.args.obj c.args.field c.args.expect c.args.value done
    (world_is_sound f.shape f.sizes f.table f.journal c.self.invariant) c.self.invariant.tables c.change_where-done.ensures.changed)

pub returns-clause-legal : goal.returns-clause-legal
returns-clause-legal c = (invariant_of-self c).legal

pub returns-clause-lanes : goal.returns-clause-lanes
returns-clause-lanes c =
    sym (invariant_of-self c).lanes
    ∙ cas_keeps_lanes c.self.inside.table c.change_where-done.new.self c.args.obj c.args.field c.args.value c.change_where-done.result
    c.change_where-done.ensures.changed ∙ c.self.invariant.lanes ∙ ap lanes_now c.self.view_is
