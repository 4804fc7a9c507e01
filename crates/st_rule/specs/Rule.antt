-- The rule of the shared table: what holds between any two steps, whatever the threads do.
use Rattle.std.specs.Prelude.{ℕ, List, [], Option, None}
use Rattle.atomic_table.specs.Table.{State}
use Rattle.st_layout.specs.Names.{ClosingWord, ClockWord, EpochWord, AvailableWord, FlagWord, LaneWord, ClassWord, HeaderWord, ForwardWord, FieldWord}
use Rattle.st_layout.specs.Names.{CopyWord, FreeWord, RowWord}
use Rattle.st_layout.specs.Packed.{low_half}
use Rattle.st_events.specs.declared.events.Event.{Event}
use Rattle.st_events.specs.declared.verdicts.Verdict.{Verdict}
use Rattle.st_events.specs.Shape.{IsWithinLimits}
use Rattle.st_events.specs.Sizes.{AreWithinLimits}
use Rattle.st_events.specs.World.{World, world_after}
use Rattle.st_rule.specs.declared.views.Held.{Held}
use Rattle.st_rule.specs.declared.views.Phase.{Phase}
use Rattle.st_rule.specs.declared.views.Phase.TheVariants.{Outside}
use Rattle.st_rule.specs.declared.views.Terms.{Terms}
use Rattle.st_rule.specs.declared.views.MutView.{MutView}
use Rattle.st_rule.specs.declared.views.View.{View}
use Rattle.st_rule.specs.Board.{Board, Displays, plan_of}
use Rattle.st_rule.specs.Holding.{holding, flight_of}
use Rattle.st_rule.specs.Reading.{ReadPart}
use Rattle.st_rule.specs.Rows.{RowPart}
use Rattle.st_rule.specs.Versions.{LanePart, CopyPart, KeptPart}
use Rattle.st_rule.specs.declared.views.Flight.{Flight}
use Rattle.st_events.specs.declared.limits.Sizes.{Sizes}
use Rattle.st_rule.specs.Parts.{JournalPart, GatePart, BoardPart, LoadedPart, ObjectPart, HandPart, Seating}

-- what a table is told once: the terms, and which verdicts are right after which events
pub record Told : Type 1 where
  pub terms : Terms
  pub right : List Event → ℕ → Verdict → Type 0

-- all that the words and the views say together, at one moment
pub record Moment : Type 0 where
  -- what each word says
  pub board : Board
  -- the events drawn so far
  pub journal : List Event
  -- the phase of each number; Outside where no seat has it
  pub phase : ℕ → Phase
  -- what each number holds
  pub grip : ℕ → Option Held
  -- the low half of each object's header: 0, or one more than the number that holds it
  pub holder : ℕ → ℕ
  -- the seat of each number
  pub seat : ℕ → ℕ
  -- how many mutators' seats were split off
  pub split : ℕ
  -- the copy part of the clock when the pool was settled last
  pub since : ℕ
  -- the copy of the row that keeps a version of an object for a check; it changes with the draw alone
  pub copy_of : ℕ → ℕ → ℕ

-- what is in flight at each object, by what each number holds, and which number holds the object
abbrev pub flights_of : (ℕ → Option Held) → (ℕ → ℕ) → ℕ → Option Flight
flights_of grip holder object = flight_of (holding grip (holder object))

-- the parts on lanes, on copies and on whose they are, by the words of a board
abbrev pub LanesAt : Sizes → World → Board → (ℕ → Option Flight) → Type 0
LanesAt sizes world board flight =
    LanePart sizes world (λ l. board (LaneWord l)) (board AvailableWord) flight (λ o f. board (FieldWord o f)) (λ o l. board (ForwardWord o l))
    (λ c k. board (CopyWord c k)) (λ i. board (FreeWord i))

-- and the part on copies: which are free, and which were drawn and are whose
abbrev pub CopiesAt : Sizes → World → Board → ℕ → (ℕ → Option Flight) → Type 0
CopiesAt sizes world board since flight =
    CopyPart sizes world (λ l. board (LaneWord l)) (board AvailableWord) (low_half (board ClockWord)) since flight (λ o l. board (ForwardWord o l))
    (λ i. board (FreeWord i))

abbrev pub KeptAt : Sizes → World → Board → (ℕ → ℕ → ℕ) → (ℕ → Option Flight) → Type 0
KeptAt sizes world board copy_of flight =
    KeptPart sizes world (λ l. board (LaneWord l)) (board AvailableWord) (low_half (board ClockWord)) flight (λ o l. board (ForwardWord o l))
    (λ i. board (FreeWord i)) copy_of

-- the part on reads, by the words of a board
abbrev pub ReadsAt : Terms → World → Board → List View → Type 0
ReadsAt terms world board views = ReadPart terms world (λ l. board (LaneWord l)) (λ o l. board (ForwardWord o l)) views

-- all that the journal of the moment says
abbrev pub world_of : Terms → Moment → World
world_of terms m = world_after terms.shape terms.sizes m.journal

-- the words and the views are those of the moment, and every part holds
pub record HoldsAt (told : Told) (m : Moment) (words : List ℕ) (views : List View) : Type 0 where
  pub limits : AreWithinLimits told.terms.sizes
  pub shape_limits : IsWithinLimits told.terms.shape
  pub displayed : Displays (plan_of told.terms.sizes) words m.board
  pub journal_part : JournalPart told.terms m.journal (m.board ClockWord) m.split views
  pub gate_part : GatePart told.terms.sizes.mutators (λ n. m.board (FlagWord n)) (m.board ClosingWord) m.phase m.seat m.split m.journal views
  pub board_part : BoardPart told.terms.sizes (world_of told.terms m) (m.board EpochWord) (λ l. m.board (LaneWord l))
  pub loaded_part : LoadedPart (plan_of told.terms.sizes) m.board views
  pub object_part :
      ObjectPart told.terms.sizes (world_of told.terms m) m.phase m.grip m.holder (λ o. m.board (HeaderWord o)) (λ o. m.board (ClassWord o))
      (λ o f. m.board (FieldWord o f)) (λ o l. m.board (ForwardWord o l))
  pub lane_part : LanesAt told.terms.sizes (world_of told.terms m) m.board (flights_of m.grip m.holder)
  pub copy_part : CopiesAt told.terms.sizes (world_of told.terms m) m.board m.since (flights_of m.grip m.holder)
  pub kept_part : KeptAt told.terms.sizes (world_of told.terms m) m.board m.copy_of (flights_of m.grip m.holder)
  pub read_part : ReadsAt told.terms (world_of told.terms m) m.board views
  pub row_part : RowPart m.journal (λ check k. m.board (RowWord check k))
  pub hand_part : HandPart m.seat m.split m.journal views
  pub seating : Seating told.terms m.phase m.grip m.seat m.split views

-- the rule: there is such a moment
abbrev pub IsSoundTable : Told → State Unit View → Type 0
IsSoundTable told s = (m : Moment) × HoldsAt told m s.words s.views

-- the main thread's view at the start
abbrev pub first_view : Terms → MutView
first_view terms = record {
  terms = terms;
  tally = record { steps = 0; found = None };
  gate = record { number = terms.sizes.mutators; phase = Outside; clear = []; split = 0 };
  board = record { loaded = [] };
  journal = record { seen = []; entries = [] };
  held = None;
  hands = record { joined = [] };
}
