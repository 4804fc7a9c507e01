use Rattle.std.proofs.Common.{◌≡◌, ◌≢◌, ◌≤◌, slice_get, slice_set, Some, None, ap, sym, subst, ◌∙◌}
use Rattle.st_snap.specs.Terms.{Retire, world_after, next, without}
use Rattle.st_snap.specs.Snapshots.{Snapshots, HasSpare}
use Rattle.st_snap.specs.Table.{TableLists}
use Rattle.st_snap.specs.Represents.{Represents}
use Rattle.st_snap.proofs.HoldsLemmas.{holds_after_event, world_is_sound, lane_in_table, lane_of_table}
use Rattle.st_snap.proofs.HeldLemmas.{retired_has_no_lane}
use Rattle.st_events.proofs.LegalEvents.{retire_is_legal}
use Rattle.st_snap.proofs.RepresentsSteps.{retire_is_represented}
use Rattle.st_snap.proofs.RowLemmas.{earlier_is_read}
use Rattle.st_snap.proofs.snapshots.SnapHeap.retire.Goals as goal
use Rattle.st_snap.specs.Snapshots.{IsLaneOf}
use Rattle.st_snap.proofs.LaneLemmas.{set_elsewhere, cleared_is_set, lanes_at_retire, between_is_active}
use Rattle.std.proofs.lemmas.Option.{slice_get_within}

pub retire-requires-clause-index : goal.retire-requires-clause-index
retire-requires-clause-index c =
    let f = c.self.inside in
    let here = lane_in_table f.shape f.sizes f.table f.journal c.args.lane c.self.invariant (subst (λ (s : Snapshots). IsLaneOf s c.args.lane) (sym c.self.view_is) c.requires.lane) in
    slice_get_within f.table.lanes c.args.lane.index (Some c.args.lane.number) here

pub retire-requires-clause-order : goal.retire-requires-clause-order
retire-requires-clause-order c = c.self.invariant.tables.pool.needed.order

pub retire-requires-clause-earlier : goal.retire-requires-clause-earlier
retire-requires-clause-earlier c =
    let f = c.self.inside in
    let w = world_after f.shape f.sizes f.journal.events in
    let lane = c.args.lane in
    let here = lane_in_table f.shape f.sizes f.table f.journal lane c.self.invariant (subst (λ (s : Snapshots). IsLaneOf s lane) (sym c.self.view_is) c.requires.lane) in
    let cleared = slice_set f.table.lanes lane.index None in
    let lanes = lanes_at_retire f.sizes w.active f.table.lanes lane.index lane.number c.self.invariant.tables.lanes
    (world_is_sound f.shape f.sizes f.table f.journal c.self.invariant).active.rising here in
    earlier_is_read w.epoch lane.number w.active cleared f.table.pool.versions
    (λ a u. between_is_active f.sizes (without lane.number w.active) cleared a u lanes) c.self.invariant.tables.pool.needed

pub invariant_of-self : goal.invariant_of-self
invariant_of-self c =
    let f = c.self.inside in
    let w = world_after f.shape f.sizes f.journal.events in
    let lane = c.args.lane in
    let spare : HasSpare (record { shape = f.shape; sizes = f.sizes; journal = f.journal.events }) = subst (λ (s : Snapshots). HasSpare s) (sym c.self.view_is) c.requires.spare in
    let thread = subst (λ (s : Snapshots). c.args.m ≤ s.sizes.mutators) (sym c.self.view_is) c.requires.thread in
    let here = lane_in_table f.shape f.sizes f.table f.journal lane c.self.invariant (subst (λ (s : Snapshots). IsLaneOf s lane) (sym c.self.view_is) c.requires.lane) in
    holds_after_event f.shape f.sizes f.table c.retire.new.self f.journal c.append.new.journal
    (Retire c.args.m lane.number) c.self.invariant spare c.append.ensures.events c.append.ensures.spare
    (retire_is_legal f.shape f.sizes w c.args.m lane.number (record { thread = thread; active = c.self.invariant.tables.lanes.are_active lane.index lane.number here }))
    (ap (λ (t : TableLists). t.lanes) c.retire.ensures ∙ cleared_is_set lane.number f.table.lanes lane.index here (λ j e. c.self.invariant.tables.lanes.once j lane.index lane.number e here))
    (subst (λ (t : TableLists). Represents f.sizes (next f.shape f.sizes w (Retire c.args.m lane.number)) t) (sym c.retire.ensures)
    (retire_is_represented f.shape f.sizes w f.table c.args.m lane.number lane.index (world_is_sound f.shape f.sizes f.table f.journal c.self.invariant) here c.self.invariant.tables))

pub returns-clause-legal : goal.returns-clause-legal
returns-clause-legal c = (invariant_of-self c).legal

pub returns-clause-gone : goal.returns-clause-gone
returns-clause-gone c =
    let f = c.self.inside in
    retired_has_no_lane f.shape f.sizes c.retire.new.self c.append.new.journal f.journal.events c.args.m c.args.lane.number (invariant_of-self c) c.append.ensures.events

pub returns-clause-others : goal.returns-clause-others
returns-clause-others c = λ other ne is.
    let f = c.self.inside in
    let lane = c.args.lane in
    let gone = lane_in_table f.shape f.sizes f.table f.journal lane c.self.invariant (subst (λ (s : Snapshots). IsLaneOf s lane) (sym c.self.view_is) c.requires.lane) in
    let here = lane_in_table f.shape f.sizes f.table f.journal other c.self.invariant (subst (λ (s : Snapshots). IsLaneOf s other) (sym c.self.view_is) is) in
    let apart : other.index ≢ lane.index = λ e. (let both : Some (Some other.number) ≡ Some (Some lane.number) = sym here ∙ ap (slice_get f.table.lanes) e ∙ gone in ne cc) in
    lane_of_table f.shape f.sizes c.retire.new.self c.append.new.journal other (invariant_of-self c)
    (ap (λ (t : TableLists). slice_get t.lanes other.index) c.retire.ensures
    ∙ set_elsewhere f.table.lanes lane.index None other.index (slice_get_within f.table.lanes lane.index (Some lane.number) gone) apart ∙ here)
