-- What a step tells its seat: the view afterwards, by the view before and the word found.
use Rattle.std.specs.Prelude.{◌≡◌, ℕ, ◌^◌, ◌<◌, ◌≤◌, List, [], ◌∷◌, ◌++◌, length, Some}
use mathlib.Core.List.{IsPrefix}
use Rattle.atomic_table.specs.Table.{Me}
use Rattle.st_events.specs.declared.events.Event.{Event}
use Rattle.st_events.specs.Legal.{IsLegal}
use Rattle.st_rule.specs.declared.views.MutView.{MutView}
use Rattle.st_rule.specs.declared.views.View.{View}
use Rattle.st_rule.specs.declared.views.View.TheVariants.{Mut}
use Rattle.st_layout.specs.Layout.{word_of}
use Rattle.st_layout.specs.Names.{EpochWord, AvailableWord, LaneWord, FreeWord}
use Rattle.st_events.specs.declared.limits.Sizes.{Sizes}
use Rattle.st_layout.specs.Packed.{high_half}
use Rattle.st_rule.specs.Draws.{drew, IsNextOf}
use Rattle.st_rule.specs.Entries.{own_entries}
use Rattle.st_rule.specs.Board.{plan_of}
use Rattle.st_rule.specs.declared.views.Held.{Held}
use Rattle.st_rule.specs.Turns.{looked_last, locked, board_loaded, field_found, forwarded, object_of_header, field_of_word, lane_of_word}

-- a seat and its view; no seat of this table holds a slot
abbrev pub Seated : Type 0
Seated = Me Unit View

-- the view becomes this function of the word found and of what it was
pub record Becomes (change : ℕ → MutView → MutView) (before : Seated) (word : ℕ) (after : Seated) : Type 0 where
  pub view : (v : MutView) → before.0 ≡ Mut v → after.0 ≡ Mut (change word v)
  pub slots : after.1 ≡ before.1

-- the same, where the step may also show the seat more of the journal: a legal list that goes on from what it has seen, and in which the seat's
-- own events are those that it has
pub record Learns (change : ℕ → List Event → MutView → MutView) (before : Seated) (word : ℕ) (after : Seated) : Type 0 where
  pub seen : List Event
  pub view : (v : MutView) → before.0 ≡ Mut v → after.0 ≡ Mut (change word seen v)
  pub goes_on : (v : MutView) → before.0 ≡ Mut v → IsPrefix v.journal.seen seen
  pub legal : (v : MutView) → before.0 ≡ Mut v → IsLegal v.terms.shape v.terms.sizes seen
  pub own : (v : MutView) → before.0 ≡ Mut v → own_entries v.gate.number 0 seen ≡ v.journal.entries
  pub slots : after.1 ≡ before.1

-- last look: the seat has then seen as many events as the clock counts tickets, which are all events of the journal
pub record LooksLast (before : Seated) (word : ℕ) (after : Seated) : Type 0 where
  pub learns : Learns looked_last before word after
  pub whole : high_half word ≡ length learns.seen

-- what a word of the board is at most: each is a half of a word, and the free list names copies
pub record IsBoardWord (sizes : Sizes) (place word : ℕ) : Type 0 where
  pub epoch : place ≡ word_of (plan_of sizes) EpochWord → word < 2 ^ 32
  pub lane : (l : ℕ) → l < sizes.lanes → place ≡ word_of (plan_of sizes) (LaneWord l) → word < 2 ^ 32
  pub available : place ≡ word_of (plan_of sizes) AvailableWord → word ≤ sizes.copies
  pub free : (i : ℕ) → i < sizes.copies → place ≡ word_of (plan_of sizes) (FreeWord i) → word < sizes.copies

-- board load: the word was found, and it is within what it may be
pub record LoadsBoard (place : ℕ) (before : Seated) (word : ℕ) (after : Seated) : Type 0 where
  pub becomes : Becomes (board_loaded place) before word after
  pub fits : (v : MutView) → before.0 ≡ Mut v → IsBoardWord v.terms.sizes place word

-- lock: the header was found, and where the object is the next one of the seat's region, that was 0
pub record Locks (object stamp : ℕ) (before : Seated) (word : ℕ) (after : Seated) : Type 0 where
  pub becomes : Becomes (locked object stamp) before word after
  pub fresh : (v : MutView) → before.0 ≡ Mut v → IsNextOf v object → word ≡ 0

-- the same, where the object's word says which it is
pub record LocksWhere (place stamp : ℕ) (before : Seated) (word : ℕ) (after : Seated) : Type 0 where
  pub locks : (v : MutView) → before.0 ≡ Mut v → Locks (object_of_header (plan_of v.terms.sizes) place) stamp before word after

-- field load of the held object, where the field's word says which it is
pub record FindsField (place : ℕ) (before : Seated) (word : ℕ) (after : Seated) : Type 0 where
  pub finds :
      (v : MutView) (h : Held) → before.0 ≡ Mut v → v.held ≡ Some h
      → Becomes (field_found (field_of_word (plan_of v.terms.sizes) h.object place)) before word after

-- forward store of the held object, where the forwarding word says whose lane it is
pub record StoresForward (place : ℕ) (before : Seated) (word : ℕ) (after : Seated) : Type 0 where
  pub stores :
      (v : MutView) (h : Held) → before.0 ≡ Mut v → v.held ≡ Some h
      → Becomes (λ _ u. forwarded (lane_of_word (plan_of v.terms.sizes) h.object place) u) before word after

-- draw: the events before were these, and with the event they are legal; the clock's ticket part was their number
pub record Draws (event : Event) (before : Seated) (word : ℕ) (after : Seated) : Type 0 where
  pub learns : Learns (drew event) before word after
  pub legal : (v : MutView) → before.0 ≡ Mut v → IsLegal v.terms.shape v.terms.sizes (learns.seen ++ event ∷ [])
  pub ticket : high_half word ≡ length learns.seen

-- a step of a seat, as contracts see it: some word was found, and the view is what that makes of it
pub record Finds (change : ℕ → MutView → MutView) (before after : MutView) : Type 0 where
  pub word : ℕ
  pub view : after ≡ change word before

-- the same, where the seat may have seen more of the journal
pub record FindsAndLearns (change : ℕ → List Event → MutView → MutView) (before after : MutView) : Type 0 where
  pub word : ℕ
  pub seen : List Event
  pub view : after ≡ change word seen before
  pub goes_on : IsPrefix before.journal.seen seen
  pub legal : IsLegal before.terms.shape before.terms.sizes seen
  pub own : own_entries before.gate.number 0 seen ≡ before.journal.entries

-- board load, as contracts see it: the word was found, and it is within what it may be
pub record FindsBoard (place : ℕ) (before after : MutView) : Type 0 where
  pub word : ℕ
  pub view : after ≡ board_loaded place word before
  pub fits : IsBoardWord before.terms.sizes place word

-- lock, as contracts see it: the header was found, and where the object is the next one of the seat's region, that was 0
pub record FindsLock (object stamp : ℕ) (before after : MutView) : Type 0 where
  pub finds : Finds (locked object stamp) before after
  pub fresh : IsNextOf before object → after.tally.found ≡ Some 0

-- a draw, as contracts see it: the events before it are those seen, or more; with the event they are legal, and its ticket is their number
pub record FindsAndDraws (event : Event) (before after : MutView) : Type 0 where
  pub finds : FindsAndLearns (drew event) before after
  pub legal : IsLegal before.terms.shape before.terms.sizes (finds.seen ++ event ∷ [])
  pub ticket : high_half finds.word ≡ length finds.seen
