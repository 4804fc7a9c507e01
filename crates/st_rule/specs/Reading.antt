-- A check's read in three steps: what each makes of its lane's view, and the part of the rule on reads.
use Rattle.std.specs.Prelude.{◌≡◌, ◌≢◌, ℕ, ◌+◌, ◌<◌, ◌⊎◌, ◌==◌, ◌&&◌, not, Bool, true, false, List, suc, Option, Some, None, IsSome}
use Rattle.st_layout.specs.Packed.{high_half, low_half}
use Rattle.st_events.specs.declared.events.Event.{Event}
use Rattle.st_events.specs.Heap.{Heap, word_at}
use Rattle.st_events.specs.History.{heap_after}
use Rattle.st_events.specs.World.{World, Launched, world_after, is_among, is_lost}
use Rattle.st_rule.specs.declared.forwards.TheConstants.{LOST}
use Rattle.st_rule.specs.declared.views.HalfRead.{HalfRead}
use Rattle.st_rule.specs.declared.views.LaneView.{LaneView}
use Rattle.st_rule.specs.declared.views.Terms.{Terms}
use Rattle.st_rule.specs.declared.views.View.{View}
use Rattle.st_rule.specs.declared.views.View.TheVariants.{Lane}
use Rattle.st_rule.specs.Holding.{word_or_zero}
use Rattle.st_rule.specs.Parts.{Sits}
use Rattle.st_rule.specs.Turns.{counted_with}

-- the heap at the launch of the lane's check
abbrev pub past_of : LaneView → Heap
past_of u = heap_after u.terms.shape u.terms.sizes u.past

-- whether a forwarding word is the check's, and names a copy
abbrev pub names_copy : (check word : ℕ) → Bool
names_copy check word = (high_half word == check) && not (low_half word == LOST)

-- check field load: the first half of a read, by the object's own word
abbrev pub field_read : (object field word : ℕ) → LaneView → LaneView
field_read object field word u =
    record u { tally = counted_with word u.tally; read = Some (record { object = object; field = field; value = word; forward = None }) }

-- the read goes on with a forwarding word that names a copy, and is done with another
abbrev pub with_target : Bool → ℕ → Option HalfRead → Option HalfRead
with_target false word half = None
with_target true word None = None
with_target true word (Some r) = Some (record r { forward = Some word })

-- check forward load: the second half; the lane has then seen this list
abbrev pub forward_read : ℕ → List Event → LaneView → LaneView
forward_read word seen u =
    record u { tally = counted_with word u.tally; seen = seen; read = with_target (names_copy u.check word) word u.read }

-- check copy load: the read is done
abbrev pub copy_read : ℕ → LaneView → LaneView
copy_read word u = record u { tally = counted_with word u.tally; read = None }

-- a read that is half done: after the first half the value is that of the past, or the forwarding word is the check's; after the second half the
-- forwarding word still is the one that was loaded, which names a copy for the check
pub record IsHalfDone (u : LaneView) (r : HalfRead) (forward : ℕ) : Type 0 where
  pub stood : IsSome (word_at (past_of u) r.object r.field)
  pub first : r.forward ≡ None → (r.value ≡ word_or_zero (past_of u) r.object r.field) ⊎ (high_half forward ≡ u.check)
  pub second : (word : ℕ) → r.forward ≡ Some word → (forward ≡ word) × (names_copy u.check word ≡ true)

-- a lane's view: its check is active and has that lane, its past is the heap at the check's launch, and the list that it has seen has the launch
pub record IsReading (terms : Terms) (world : World) (lane : ℕ → ℕ) (forward : ℕ → ℕ → ℕ) (u : LaneView) : Type 0 where
  pub told : u.terms ≡ terms
  pub within : u.lane < terms.sizes.lanes
  pub active : is_among world.active u.check ≡ true
  pub has_lane : lane u.lane ≡ u.check
  pub launch : Launched
  pub launched : world.launched u.check ≡ Some launch
  pub past : launch.past ≡ past_of u
  pub known : (world_after terms.shape terms.sizes u.seen).launched u.check ≡ Some launch
  pub half : (r : HalfRead) → u.read ≡ Some r → IsHalfDone u r (forward r.object u.lane)

-- the part on reads
pub record ReadPart (terms : Terms) (world : World) (lane : ℕ → ℕ) (forward : ℕ → ℕ → ℕ) (views : List View) : Type 0 where
  pub reads : (id : ℕ) (u : LaneView) → Sits views id (Lane u) → IsReading terms world lane forward u

-- the first half of a read of the object is done
pub record IsFirstHalf (u : LaneView) (object : ℕ) : Type 0 where
  pub half : HalfRead
  pub read : u.read ≡ Some half
  pub unforwarded : half.forward ≡ None
  pub object_is : object ≡ half.object

-- what the forwarding word tells: of another epoch, that the value is that of the past; of the check's, that the version is lost in the list that the lane
-- has then seen, or which copy it is
pub record TellsOfVersion (u : LaneView) (r : HalfRead) (word : ℕ) (seen : List Event) : Type 0 where
  pub live : high_half word ≢ u.check → r.value ≡ word_or_zero (past_of u) r.object r.field
  pub lost : high_half word ≡ u.check → low_half word ≡ LOST → is_lost (world_after u.terms.shape u.terms.sizes seen).lost r.object u.check ≡ true
  pub copy : high_half word ≡ u.check → low_half word ≢ LOST → (c : ℕ) × (low_half word ≡ suc c) × (c < u.terms.sizes.copies)

-- both halves are done, and the forwarding word names this copy
pub record IsSecondHalf (u : LaneView) (copy field : ℕ) : Type 0 where
  pub half : HalfRead
  pub read : u.read ≡ Some half
  pub word : ℕ
  pub forwarded : half.forward ≡ Some word
  pub names : low_half word ≡ copy + 1
  pub field_is : field ≡ half.field
  pub within : copy < u.terms.sizes.copies
