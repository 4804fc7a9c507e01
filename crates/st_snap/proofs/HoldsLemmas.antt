-- The invariant of a snapshot heap, over one more event
use Rattle.std.proofs.Common.{◌≡◌, ℕ, ◌+◌, ◌-◌, ◌^◌, ◌<◌, ◌≤◌, List, [], ◌∷◌, ◌++◌, length, slice_get, Option, Some, None, Bool}
use Rattle.std.proofs.Common.{true, false, IsSome, refl, sym, ◌∙◌, ap, subst, arith, length-append}
use Rattle.std.proofs.Math.Nat.{mul-le-mul}
use Rattle.st_snap.specs.Terms.{Event, Sizes, ShapeLists, IsWithinLimits, AreWithinLimits, New, Load, Store, Cas, Launch, Retire}
use Rattle.st_snap.specs.Terms.{heap_of, word_at, World, Launched, next, world_from, world_after, first_world, IsLegal, IsLegalNext}
use Rattle.st_events.specs.Journal.{Written}
use Rattle.st_events.specs.Sound.{IsSoundWorld}
use Rattle.st_events.proofs.WorldLemmas.{world_after_one_more}
use Rattle.st_events.proofs.LegalLemmas.{empty_is_legal, one_more_is_legal}
use Rattle.st_events.proofs.SoundLemmas.{legal_is_sound}
use Rattle.st_snap.specs.Lanes.{lanes_from, lanes_after, next_lanes, newest_of}
use Rattle.st_snap.specs.declared.lanes.Lane.{Lane}
use Rattle.st_snap.specs.Snapshots.{event_room, IsLaneOf, word_then, word_at_launch}
use Rattle.st_snap.specs.Table.{TableLists, AreFirstTables, ChangesWhere}
use Rattle.st_snap.specs.Represents.{Represents}
use Rattle.st_snap.specs.Holds.{Holds}
use Rattle.st_snap.proofs.LaneLemmas.{newest_up_to}
use Rattle.st_snap.proofs.ReadLemmas.{object_has_place, cell_has_object}
use Rattle.st_snap.proofs.RepresentsSteps.{first_is_represented}
use Rattle.st_snap.proofs.RepresentsChange.{change_is_represented}
use Rattle.st_snap.proofs.TableLemmas.{changed_same_lanes}

lanes_from_both : (lanes : List (Option ℕ)) (es fs : List Event) → lanes_from lanes (es ++ fs) ≡ lanes_from (lanes_from lanes es) fs
lanes_from_both lanes [] fs = refl
lanes_from_both lanes (e ∷ es) fs = lanes_from_both (next_lanes lanes e) es fs

-- the lanes after one more event
pub lanes_after_one_more : (count : ℕ) (es : List Event) (e : Event) → lanes_after count (es ++ e ∷ []) ≡ next_lanes (lanes_after count es) e
lanes_after_one_more count es e = lanes_from_both _ es (e ∷ [])

-- before the first event
pub holds_at_first :
    (shape : ShapeLists) (sizes : Sizes) (t : TableLists) (journal : Written)
    → IsWithinLimits shape
    → AreWithinLimits sizes
    → AreFirstTables shape sizes t
    → journal.events ≡ []
    → event_room sizes ≤ journal.spare
    → Holds shape sizes t journal
holds_at_first shape sizes t journal fits within first empty spare = record {
  shape_fits = fits;
  sizes_fit = within;
  legal = subst (λ (es : List Event). IsLegal shape sizes es) (sym empty) (empty_is_legal shape sizes);
  within = rw empty (omega arith);
  reserved = omega (arith, spare);
  lanes = first.lanes ∙ ap (λ (es : List Event). lanes_after sizes.lanes es) (sym empty);
  tables = subst (λ (es : List Event). Represents sizes (world_after shape sizes es) t) (sym empty) (first_is_represented shape sizes t first);
}

-- what holds of the world
pub world_is_sound :
    (shape : ShapeLists) (sizes : Sizes) (t : TableLists) (journal : Written)
    → Holds shape sizes t journal
    → IsSoundWorld shape sizes (world_after shape sizes journal.events)
world_is_sound shape sizes t journal h = legal_is_sound shape sizes h.shape_fits journal.events h.legal

-- one more event
pub holds_after_event :
    (shape : ShapeLists) (sizes : Sizes) (t t' : TableLists) (journal journal' : Written) (e : Event)
    → Holds shape sizes t journal
    → length journal.events < event_room sizes
    → journal'.events ≡ journal.events ++ e ∷ []
    → journal'.spare ≡ journal.spare - 1
    → IsLegalNext shape sizes (world_after shape sizes journal.events) e
    → t'.lanes ≡ next_lanes t.lanes e
    → Represents sizes (next shape sizes (world_after shape sizes journal.events) e) t'
    → Holds shape sizes t' journal'
holds_after_event shape sizes t t' journal journal' e h room more spare legal lanes tables =
    let longer : length journal'.events ≡ length journal.events + 1 = ap length more ∙ length-append journal.events (e ∷ []) in
    record {
      shape_fits = h.shape_fits;
      sizes_fit = h.sizes_fit;
      legal = subst (λ (es : List Event). IsLegal shape sizes es) (sym more) (one_more_is_legal shape sizes journal.events e h.legal legal);
      within = omega (arith, longer, room);
      reserved = omega (arith, longer, room, spare, h.reserved);
      lanes = lanes ∙ ap (λ (ls : List (Option ℕ)). next_lanes ls e) h.lanes ∙ sym (lanes_after_one_more sizes.lanes journal.events e)
          ∙ ap (λ (es : List Event). lanes_after sizes.lanes es) (sym more);
      tables = subst (λ (es : List Event). Represents sizes (world_after shape sizes es) t') (sym more)
          (subst (λ (w : World). Represents sizes w t') (sym (world_after_one_more shape sizes journal.events e)) tables);
    }

-- a journal has fewer events than a number of 32 bits can count
pub room_is_small : (sizes : Sizes) → AreWithinLimits sizes → event_room sizes ≤ 8388608
room_is_small sizes w = mul-le-mul w.mutators w.events.1

-- no more checks were launched than there are events
epoch_is_below_events : (shape : ShapeLists) (sizes : Sizes) (w : World) (es : List Event) → (world_from shape sizes w es).epoch ≤ w.epoch + length es
epoch_is_below_events shape sizes w [] = omega arith
epoch_is_below_events shape sizes w (e ∷ es) = omega (arith, epoch_is_below_events shape sizes (next shape sizes w e) es, epoch_rises_by_one shape sizes w e)
  where
    epoch_rises_by_one : (shape : ShapeLists) (sizes : Sizes) (w : World) (e : Event) → (next shape sizes w e).epoch ≤ w.epoch + 1
    epoch_rises_by_one shape sizes w (New m obj class) = omega arith
    epoch_rises_by_one shape sizes w (Load m obj field value) = omega arith
    epoch_rises_by_one shape sizes w (Store m obj field value) = omega arith
    epoch_rises_by_one shape sizes w (Cas m obj field expect value true) = omega arith
    epoch_rises_by_one shape sizes w (Cas m obj field expect value false) = omega arith
    epoch_rises_by_one shape sizes w (Launch m site number args) = omega arith
    epoch_rises_by_one shape sizes w (Retire m number) = omega arith

-- the next epoch is a number of 32 bits
pub epoch_is_small : (shape : ShapeLists) (sizes : Sizes) (t : TableLists) (journal : Written) → Holds shape sizes t journal → t.epoch < 2 ^ 32 - 1
epoch_is_small shape sizes t journal h = omega (arith, h.tables.live.epoch, epoch_is_below_events shape sizes (first_world shape) journal.events, h.within, room_is_small sizes h.sizes_fit)

-- no check at a lane is above the epoch
pub newest_is_up_to_epoch :
    (shape : ShapeLists) (sizes : Sizes) (t : TableLists) (journal : Written)
    → Holds shape sizes t journal
    → newest_of t.lanes ≤ t.epoch
newest_is_up_to_epoch shape sizes t journal h =
    newest_up_to t.lanes t.epoch (λ lane n e. omega (arith, (world_is_sound shape sizes t journal h).active.launched n (h.tables.lanes.are_active lane n e), h.tables.live.epoch))

-- what a change of a cell asks of the tables
pub cell_has_header :
    (shape : ShapeLists) (sizes : Sizes) (t : TableLists) (journal : Written) (obj field : ℕ)
    → Holds shape sizes t journal
    → IsSome (word_at (heap_of t.heap) obj field)
    → obj < length t.headers
cell_has_header shape sizes t journal obj field h some =
    omega (arith, object_has_place t.heap obj (cell_has_object (heap_of t.heap) obj field some), h.tables.live.room, h.tables.live.header_room)

-- a Cas, done or not
pub cas_is_represented :
    (shape : ShapeLists) (sizes : Sizes) (w : World) (t t' : TableLists) (m obj field expect value : ℕ) (done : Bool)
    → IsSoundWorld shape sizes w
    → Represents sizes w t
    → ChangesWhere done t t' obj field value
    → Represents sizes (next shape sizes w (Cas m obj field expect value done)) t'
cas_is_represented shape sizes w t t' m obj field expect value true s r c = change_is_represented shape sizes w t t' obj field value s r c
cas_is_represented shape sizes w t t' m obj field expect value false s r c = subst (λ (x : TableLists). Represents sizes w x) (sym c) r

-- a Cas, done or not, leaves each check its lane
pub cas_keeps_lanes : (t t' : TableLists) (obj field value : ℕ) (done : Bool) → ChangesWhere done t t' obj field value → t'.lanes ≡ t.lanes
cas_keeps_lanes t t' obj field value true c = changed_same_lanes t t' obj field value c
cas_keeps_lanes t t' obj field value false c = ap (λ (x : TableLists). x.lanes) c

-- a lane that is handed in is that of an active check
pub lane_in_table :
    (shape : ShapeLists) (sizes : Sizes) (t : TableLists) (journal : Written) (lane : Lane)
    → Holds shape sizes t journal
    → IsLaneOf (record { shape = shape; sizes = sizes; journal = journal.events }) lane
    → slice_get t.lanes lane.index ≡ Some (Some lane.number)
lane_in_table shape sizes t journal lane h is = ap (λ (ls : List (Option ℕ)). slice_get ls lane.index) h.lanes ∙ is

-- and where a check has a lane of the table, that lane may be handed in
pub lane_of_table :
    (shape : ShapeLists) (sizes : Sizes) (t : TableLists) (journal : Written) (lane : Lane)
    → Holds shape sizes t journal
    → slice_get t.lanes lane.index ≡ Some (Some lane.number)
    → IsLaneOf (record { shape = shape; sizes = sizes; journal = journal.events }) lane
lane_of_table shape sizes t journal lane h e = ap (λ (ls : List (Option ℕ)). slice_get ls lane.index) (sym h.lanes) ∙ e

-- its launch stands in the world, and so does each object of the heap then
pub launch_is_known :
    (shape : ShapeLists) (sizes : Sizes) (journal : List Event) (n obj field : ℕ)
    → IsSome (word_at_launch (record { shape = shape; sizes = sizes; journal = journal }) n obj field)
    → (l : Launched) × ((world_after shape sizes journal).launched n ≡ Some l)
    × (word_at_launch (record { shape = shape; sizes = sizes; journal = journal }) n obj field ≡ word_at l.past obj field)
launch_is_known shape sizes journal n obj field some = cases ((world_after shape sizes journal).launched n) refl some
  where
    cases :
        (o : Option Launched)
        → (world_after shape sizes journal).launched n ≡ o
        → IsSome (word_then o obj field)
        → (l : Launched) × ((world_after shape sizes journal).launched n ≡ Some l) × (word_then ((world_after shape sizes journal).launched n) obj field ≡ word_at l.past obj field)
    cases None e i = cc
    cases (Some l) e i = (l, e, ap (λ (k : Option Launched). word_then k obj field) e)
