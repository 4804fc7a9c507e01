-- Which checks have no lane of the heap: the next one, and a retired one
use Rattle.std.proofs.Common.{◌≡◌, ℕ, ◌+◌, true, List, [], ◌∷◌, ◌++◌, ap, subst, arith, ◌∙◌}
use Rattle.st_snap.specs.Terms.{Event, Retire, Sizes, ShapeLists, World, world_after, is_among}
use Rattle.st_events.specs.Journal.{Written}
use Rattle.st_events.proofs.AmongLemmas.{among_without}
use Rattle.st_events.proofs.WorldLemmas.{world_after_one_more}
use Rattle.st_snap.specs.Snapshots.{Snapshots, HasNoLane}
use Rattle.st_snap.specs.Table.{TableLists}
use Rattle.st_snap.specs.Holds.{Holds}
use Rattle.st_snap.proofs.HoldsLemmas.{lane_in_table, world_is_sound}

-- what contracts see of the fields
abbrev pub seen_of : ShapeLists → Sizes → Written → Snapshots
seen_of shape sizes journal = record { shape = shape; sizes = sizes; journal = journal.events }

-- the number after the epoch is at no lane
pub next_has_no_lane :
    (shape : ShapeLists) (sizes : Sizes) (t : TableLists) (journal : Written) (s : Snapshots) (number : ℕ)
    → Holds shape sizes t journal
    → seen_of shape sizes journal ≡ s
    → number ≡ (world_after shape sizes journal.events).epoch + 1
    → HasNoLane s number
next_has_no_lane shape sizes t journal s number h view next = subst (λ (x : Snapshots). HasNoLane x number) view fresh
  where
    fresh : HasNoLane (seen_of shape sizes journal) number
    fresh = λ other is same.
        let active = h.tables.lanes.are_active other.index other.number (lane_in_table shape sizes t journal other h is) in
        let launched = (world_is_sound shape sizes t journal h).active.launched other.number active in
        omega (arith, launched.1, same, next)

-- a retired check is at no lane
pub retired_has_no_lane :
    (shape : ShapeLists) (sizes : Sizes) (t : TableLists) (journal : Written) (before : List Event) (m number : ℕ)
    → Holds shape sizes t journal
    → journal.events ≡ before ++ Retire m number ∷ []
    → HasNoLane (seen_of shape sizes journal) number
retired_has_no_lane shape sizes t journal before m number h more = λ other is same.
    let active = h.tables.lanes.are_active other.index other.number (lane_in_table shape sizes t journal other h is) in
    let same_world = ap (world_after shape sizes) more ∙ world_after_one_more shape sizes before (Retire m number) in
    let left = subst (λ (w : World). is_among w.active other.number ≡ true) same_world active in
    (among_without number (world_after shape sizes before).active other.number left).1 same
