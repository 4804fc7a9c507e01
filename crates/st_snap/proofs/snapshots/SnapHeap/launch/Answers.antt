use Rattle.std.proofs.Common.{◌≡◌, ◌≢◌, length, ℕ, ◌+◌, ◌<◌, true, List, slice_get, slice_set, Option, Some, None, arith, refl, ap, sym, subst, ◌∙◌}
use Rattle.st_snap.specs.Terms.{Launch, world_after, next}
use Rattle.st_snap.specs.Lanes.{with_check_at}
use Rattle.st_snap.specs.Snapshots.{Snapshots, HasSpare, are_args_of, active_now}
use Rattle.st_snap.specs.Table.{TableLists}
use Rattle.st_snap.specs.declared.lanes.Lane.{Lane}
use Rattle.st_snap.specs.Represents.{Represents}
use Rattle.st_snap.proofs.HoldsLemmas.{holds_after_event, world_is_sound, epoch_is_small, newest_is_up_to_epoch, lane_in_table, lane_of_table}
use Rattle.st_snap.proofs.HeldLemmas.{next_has_no_lane}
use Rattle.st_events.proofs.LegalEvents.{launch_is_legal}
use Rattle.st_snap.proofs.RepresentsSteps.{launch_is_represented}
use Rattle.st_snap.proofs.snapshots.SnapHeap.launch.Goals as goal
use Rattle.st_snap.specs.Snapshots.{IsLaneOf}
use Rattle.st_snap.proofs.LaneLemmas.{first_idle_is_idle, all_active_where_none_idle, idle_lane_leaves_room, set_here, set_elsewhere}
use Rattle.std.proofs.lemmas.Option.{slice_get_within}

pub launch-requires-clause-epoch : goal.launch-requires-clause-epoch
launch-requires-clause-epoch c = epoch_is_small c.self.inside.shape c.self.inside.sizes c.self.inside.table c.self.inside.journal c.self.invariant

pub launch-requires-clause-newest : goal.launch-requires-clause-newest
launch-requires-clause-newest c = newest_is_up_to_epoch c.self.inside.shape c.self.inside.sizes c.self.inside.table c.self.inside.journal c.self.invariant

pub returns-in-None-clause-no_lane : goal.returns-in-None-clause-no_lane
returns-in-None-clause-no_lane c =
    let f = c.self.inside in
    let all = all_active_where_none_idle f.sizes (world_after f.shape f.sizes f.journal.events).active f.table.lanes c.self.invariant.tables.lanes c.in-None.ensures.0 in
    (λ _. subst (λ (s : Snapshots). length (active_now s) ≡ s.sizes.lanes) c.self.view_is all, λ _. refl)

pub invariant_of-self-2 : goal.invariant_of-self-2
invariant_of-self-2 c =
    let f = c.self.inside in
    let w = world_after f.shape f.sizes f.journal.events in
    let lane = c.in-Some.lane in
    let spare : HasSpare (record { shape = f.shape; sizes = f.sizes; journal = f.journal.events }) = subst (λ (s : Snapshots). HasSpare s) (sym c.self.view_is) c.requires.spare in
    let thread : c.args.m < f.sizes.mutators = subst (λ (s : Snapshots). c.args.m < s.sizes.mutators) (sym c.self.view_is) c.requires.thread in
    let site = subst (λ (s : Snapshots). c.args.site < length s.shape.checks) (sym c.self.view_is) c.requires.site in
    let args = subst (λ (s : Snapshots). are_args_of s c.args.site c.args.args ≡ true) (sym c.self.view_is) c.requires.args in
    let number : lane.number ≡ w.epoch + 1 = c.in-Some.ensures.1 ∙ ap (λ (n : ℕ). n + 1) c.self.invariant.tables.live.epoch in
    let free = idle_lane_leaves_room f.sizes w.active f.table.lanes lane.index c.self.invariant.tables.lanes c.in-Some.ensures.0 in
    let whole : c.launch.new.self ≡ record f.table { epoch = lane.number; lanes = slice_set f.table.lanes lane.index (Some lane.number) } =
    c.in-Some.ensures.2 ∙ ap (λ (n : ℕ). record f.table { epoch = n; lanes = slice_set f.table.lanes lane.index (Some n) }) (sym c.in-Some.ensures.1) in
    holds_after_event f.shape f.sizes f.table c.launch.new.self f.journal c.append.new.journal
    (Launch c.args.m c.args.site lane.number c.args.args) c.self.invariant spare c.append.ensures.events c.append.ensures.spare
    (launch_is_legal f.shape f.sizes w c.args.m lane.number c.args.site c.args.args (record { thread = thread; next_number = number; statement = site; arguments = args; lane = free }))
    (ap (λ (t : TableLists). t.lanes) whole ∙ ap (with_check_at lane.number f.table.lanes) (sym c.in-Some.ensures.0))
    (subst (λ (t : TableLists). Represents f.sizes (next f.shape f.sizes w (Launch c.args.m c.args.site lane.number c.args.args)) t) (sym whole)
    (launch_is_represented f.shape f.sizes w f.table c.args.m lane.number c.args.site lane.index c.args.args
    (world_is_sound f.shape f.sizes f.table f.journal c.self.invariant) number (first_idle_is_idle f.table.lanes lane.index c.in-Some.ensures.0) c.self.invariant.tables))

pub returns-clause-no_lane : goal.returns-clause-no_lane
returns-clause-no_lane c =
    let f = c.self.inside in
    let free = idle_lane_leaves_room f.sizes (world_after f.shape f.sizes f.journal.events).active f.table.lanes c.in-Some.lane.index c.self.invariant.tables.lanes c.in-Some.ensures.0 in
    let fewer = subst (λ (s : Snapshots). length (active_now s) < s.sizes.lanes) c.self.view_is free in
    (λ e. cc, λ e. absurd (omega (arith, fewer, e)))

pub returns-clause-legal : goal.returns-clause-legal
returns-clause-legal c = (invariant_of-self-2 c).legal

-- the lanes afterwards
lanes_after_launch :
    (t after : TableLists) (lane : Lane)
    → lane.number ≡ t.epoch + 1
    → after ≡ record t { epoch = t.epoch + 1; lanes = slice_set t.lanes lane.index (Some (t.epoch + 1)) }
    → after.lanes ≡ slice_set t.lanes lane.index (Some lane.number)
lanes_after_launch t after lane number whole = ap (λ (x : TableLists). x.lanes) whole ∙ ap (λ (n : ℕ). slice_set t.lanes lane.index (Some n)) (sym number)

pub returns-clause-lane : goal.returns-clause-lane
returns-clause-lane c =
    let f = c.self.inside in
    let lane = c.in-Some.lane in
    let idle = first_idle_is_idle f.table.lanes lane.index c.in-Some.ensures.0 in
    lane_of_table f.shape f.sizes c.launch.new.self c.append.new.journal lane (invariant_of-self-2 c)
    (ap (λ (ls : List (Option ℕ)). slice_get ls lane.index)
    (lanes_after_launch f.table c.launch.new.self lane c.in-Some.ensures.1 c.in-Some.ensures.2)
    ∙ set_here f.table.lanes lane.index (Some lane.number) (slice_get_within f.table.lanes lane.index None idle))

pub returns-clause-fresh : goal.returns-clause-fresh
returns-clause-fresh c =
    let f = c.self.inside in
    next_has_no_lane f.shape f.sizes f.table f.journal c.args.self.now c.in-Some.lane.number c.self.invariant c.self.view_is
    (c.in-Some.ensures.1 ∙ ap (λ (n : ℕ). n + 1) c.self.invariant.tables.live.epoch)

pub returns-clause-others : goal.returns-clause-others
returns-clause-others c = λ other is.
    let f = c.self.inside in
    let lane = c.in-Some.lane in
    let idle = first_idle_is_idle f.table.lanes lane.index c.in-Some.ensures.0 in
    let here = lane_in_table f.shape f.sizes f.table f.journal other c.self.invariant (subst (λ (s : Snapshots). IsLaneOf s other) (sym c.self.view_is) is) in
    let apart : other.index ≢ lane.index = λ e. (let both : Some (Some other.number) ≡ Some None = sym here ∙ ap (slice_get f.table.lanes) e ∙ idle in cc) in
    lane_of_table f.shape f.sizes c.launch.new.self c.append.new.journal other (invariant_of-self-2 c)
    (ap (λ (ls : List (Option ℕ)). slice_get ls other.index)
    (lanes_after_launch f.table c.launch.new.self lane c.in-Some.ensures.1 c.in-Some.ensures.2)
    ∙ set_elsewhere f.table.lanes lane.index (Some lane.number) other.index (slice_get_within f.table.lanes lane.index None idle) apart ∙ here)
