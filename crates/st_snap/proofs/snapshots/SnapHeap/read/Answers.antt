use Rattle.std.proofs.Common.{◌≡◌, ℕ, true, false, Option, Some, None, arith, refl, ap, ◌⊎◌, sym, subst, ◌∙◌, inl, inr, IsSome}
use Rattle.st_snap.specs.Terms.{Heap, word_at, world_after, Sizes, ShapeLists}
use Rattle.st_snap.specs.Snapshots.{Snapshots}
use Rattle.st_snap.specs.Table.{TableLists}
use Rattle.st_snap.specs.declared.lanes.Lane.{Lane}
use Rattle.st_snap.proofs.HoldsLemmas.{world_is_sound, lane_in_table, launch_is_known}
use Rattle.st_snap.proofs.snapshots.SnapHeap.read.Goals as goal
use Rattle.st_snap.specs.Table.{ReadsByForward}
use Rattle.st_snap.specs.Holds.{Holds}
use Rattle.st_snap.specs.Snapshots.{IsLaneOf, word_at_launch, is_lost_for}
use Rattle.st_events.specs.Journal.{Written}
use Rattle.st_snap.proofs.ReadLemmas.{read_is_right, live_unless_sent, sent_to_copies, object_is_still_there, object_has_place, cell_has_object, pasts_are_small, field_is_small}

-- what the fields show of the lane and the cell
lane-in :
    (c : goal.After-self)
    → IsLaneOf (record { shape = c.self.inside.shape; sizes = c.self.inside.sizes; journal = c.self.inside.journal.events }) c.args.lane.now
lane-in c = subst (λ (s : Snapshots). IsLaneOf s c.args.lane.now) (sym c.self.view_is) c.requires.lane

cell-in :
    (c : goal.After-self)
    → IsSome (word_at_launch (record { shape = c.self.inside.shape; sizes = c.self.inside.sizes; journal = c.self.inside.journal.events }) c.args.lane.now.number c.args.obj c.args.field)
cell-in c = subst (λ (s : Snapshots). IsSome (word_at_launch s c.args.lane.now.number c.args.obj c.args.field)) (sym c.self.view_is) c.requires.cell

pub read-requires-clause-header : goal.read-requires-clause-header
read-requires-clause-header c =
    let f = c.self.inside in
    let known = launch_is_known f.shape f.sizes f.journal.events c.args.lane.now.number c.args.obj c.args.field (cell-in c) in
    let cell : IsSome (word_at known.0.past c.args.obj c.args.field) = rw (← known.2) (cell-in c) in
    let now = object_is_still_there f.shape f.sizes (world_after f.shape f.sizes f.journal.events) c.args.obj c.args.lane.now.number known.0
    (world_is_sound f.shape f.sizes f.table f.journal c.self.invariant) known.1 (cell_has_object known.0.past c.args.obj c.args.field cell) in
    omega (
      arith,
      object_has_place f.table.heap c.args.obj (subst (λ (h : Heap). IsSome (h c.args.obj)) (sym c.self.invariant.tables.live.heap) now),
      c.self.invariant.tables.live.room,
      c.self.invariant.tables.live.header_room,
    )

pub read-requires-clause-field : goal.read-requires-clause-field
read-requires-clause-field c =
    let f = c.self.inside in
    let known = launch_is_known f.shape f.sizes f.journal.events c.args.lane.now.number c.args.obj c.args.field (cell-in c) in
    field_is_small known.0.past c.args.obj c.args.field
    (pasts_are_small f.shape f.sizes f.journal.events c.self.invariant.shape_fits c.self.invariant.legal c.args.lane.now.number known.0 known.1) (rw (← known.2) (cell-in c))

pub read-requires-clause-live : goal.read-requires-clause-live
read-requires-clause-live c =
    let f = c.self.inside in
    let known = launch_is_known f.shape f.sizes f.journal.events c.args.lane.now.number c.args.obj c.args.field (cell-in c) in
    live_unless_sent f.shape f.sizes (world_after f.shape f.sizes f.journal.events) f.table c.args.lane.now known.0 c.args.obj c.args.field
    (world_is_sound f.shape f.sizes f.table f.journal c.self.invariant) c.self.invariant.tables
    (lane_in_table f.shape f.sizes f.table f.journal c.args.lane.now c.self.invariant (lane-in c)) known.1 (rw (← known.2) (cell-in c))

pub read-requires-clause-copies : goal.read-requires-clause-copies
read-requires-clause-copies c =
    let f = c.self.inside in
    let known = launch_is_known f.shape f.sizes f.journal.events c.args.lane.now.number c.args.obj c.args.field (cell-in c) in
    let cell : IsSome (word_at known.0.past c.args.obj c.args.field) = rw (← known.2) (cell-in c) in
    sent_to_copies f.sizes (world_after f.shape f.sizes f.journal.events) f.table c.args.lane.now known.0 c.args.obj c.self.invariant.tables
    (lane_in_table f.shape f.sizes f.table f.journal c.args.lane.now c.self.invariant (lane-in c)) known.1 (cell_has_object known.0.past c.args.obj c.args.field cell)

-- the answer of the tables is right
right :
    (shape : ShapeLists) (sizes : Sizes) (t : TableLists) (journal : Written) (s : Snapshots) (lane : Lane) (obj field : ℕ) (answer : Option ℕ)
    → Holds shape sizes t journal
    → record { shape = shape; sizes = sizes; journal = journal.events } ≡ s
    → IsLaneOf s lane
    → IsSome (word_at_launch s lane.number obj field)
    → ReadsByForward t lane obj field answer
    → ((answer ≡ word_at_launch s lane.number obj field) × (is_lost_for s obj lane.number ≡ false)) ⊎ ((answer ≡ None) × (is_lost_for s obj lane.number ≡ true))
right shape sizes t journal s lane obj field answer h view is cell reads =
    let here = lane_in_table shape sizes t journal lane h (subst (λ (x : Snapshots). IsLaneOf x lane) (sym view) is) in
    let there = subst (λ (x : Snapshots). IsSome (word_at_launch x lane.number obj field)) (sym view) cell in
    let known = launch_is_known shape sizes journal.events lane.number obj field there in
    let a = read_is_right shape sizes (world_after shape sizes journal.events) t lane known.0 obj field answer
    (world_is_sound shape sizes t journal h) h.tables here known.1 (rw (← known.2) there) reads in
    elim a.cases [
      | inl y ↦ inl (y.0 ∙ sym known.2 ∙ ap (λ (x : Snapshots). word_at_launch x lane.number obj field) view, ap (λ (x : Snapshots). is_lost_for x obj lane.number) (sym view) ∙ y.1)
      | inr n ↦ inr (n.0, ap (λ (x : Snapshots). is_lost_for x obj lane.number) (sym view) ∙ n.1)
    ]

pub returns-in-Some-clause-word : goal.returns-in-Some-clause-word
returns-in-Some-clause-word c =
    let f = c.self.inside in
    elim (right f.shape f.sizes f.table f.journal c.args.self.now c.args.lane.now c.args.obj c.args.field
    (Some c.in-Some.word) c.self.invariant c.self.view_is c.requires.lane c.requires.cell c.in-Some.ensures) [ inl y ↦ sym y.0 | inr n ↦ (let none = n.0 in cc) ]

pub returns-in-Some-clause-lost : goal.returns-in-Some-clause-lost
returns-in-Some-clause-lost c =
    let f = c.self.inside in
    elim (right f.shape f.sizes f.table f.journal c.args.self.now c.args.lane.now c.args.obj c.args.field
    (Some c.in-Some.word) c.self.invariant c.self.view_is c.requires.lane c.requires.cell c.in-Some.ensures) [ inl y ↦ (λ e. cc, λ e. sym y.1 ∙ e) | inr n ↦ (let none = n.0 in cc) ]

pub returns-in-None-clause-lost : goal.returns-in-None-clause-lost
returns-in-None-clause-lost c =
    let f = c.self.inside in
    elim (right f.shape f.sizes f.table f.journal c.args.self.now c.args.lane.now c.args.obj c.args.field None c.self.invariant c.self.view_is
    c.requires.lane c.requires.cell c.in-None.ensures) [ inl y ↦ (let some = y.0 in let cell = rw (← some) at c.requires.cell in cc) | inr n ↦ (λ e. n.1, λ e. refl) ]
