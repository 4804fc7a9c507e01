-- What each step makes of the view of its seat.
use Rattle.std.specs.Prelude.{ℕ, zero, suc, ◌+◌, ◌-◌, ◌/◌, ◌==◌, ◌&&◌, ◌||◌, Bool, true, if◌then◌else◌, List, [], ◌∷◌, length}
use Rattle.std.specs.Prelude.{nat_lt, Option, Some, None}
use Rattle.st_layout.specs.declared.plans.Plan.{Plan}
use Rattle.st_layout.specs.declared.words.TheConstants.{FIRST_FLAG, CELL_WORDS}
use Rattle.st_layout.specs.Layout.{word_of, first_cell}
use Rattle.st_layout.specs.Names.{FieldWord, ForwardWord}
use Rattle.st_layout.specs.Packed.{packed}
use Rattle.st_events.specs.declared.events.Event.{Event}
use Rattle.st_events.specs.World.{is_among, without}
use Rattle.st_rule.specs.declared.views.Phase.{Phase}
use Rattle.st_rule.specs.declared.views.Phase.TheVariants.{Outside, Entering, Inside, Closing, Alone}
use Rattle.st_rule.specs.declared.views.Tally.{Tally}
use Rattle.st_rule.specs.declared.views.GateView.{GateView}
use Rattle.st_rule.specs.declared.views.BoardView.{BoardView}
use Rattle.st_rule.specs.declared.views.Held.{Held}
use Rattle.st_rule.specs.declared.views.Flight.{Flight}
use Rattle.st_rule.specs.declared.views.MutView.{MutView}
use Rattle.st_rule.specs.declared.views.View.{View}
use Rattle.st_rule.specs.declared.views.View.TheVariants.{Mut, Lane, Gone}

-- a step that stores is counted
abbrev pub counted : Tally → Tally
counted t = record { steps = t.steps + 1; found = t.found }

-- a step that loads, exchanges or adds is counted, and leaves the word that it found
abbrev pub counted_with : ℕ → Tally → Tally
counted_with word t = record { steps = t.steps + 1; found = Some word }

-- a split or a join is counted, and its load tells nothing
abbrev pub counted_blind : Tally → Tally
counted_blind t = record { steps = t.steps + 1; found = None }

-- whether each number below `count`, but for the closer's own, is among those that it saw clear
abbrev pub saw_below : ℕ → ℕ → List ℕ → Bool
saw_below zero number clear = true
saw_below (suc n) number clear = ((n == number) || is_among clear n) && saw_below n number clear

-- the phase of a closer that saw these flags clear: Alone once it saw every other number, the main thread's among them
abbrev pub closer_phase : ℕ → ℕ → List ℕ → Phase
closer_phase mutators number clear = if saw_below (suc mutators) number clear then Alone else Closing

-- the gate view of a closer that saw these flags clear
abbrev pub closing : ℕ → List ℕ → GateView → GateView
closing mutators clear g = record g { phase = closer_phase mutators g.number clear; clear = clear }

-- nothing was loaded of the board yet
abbrev pub no_board : BoardView
no_board = record { loaded = [] }

-- flag in: Outside to Entering; who is Outside holds nothing
abbrev pub flagged_in : MutView → MutView
flagged_in v = record v { tally = counted v.tally; gate = record v.gate { phase = Entering }; held = None }

-- look: Entering to Inside, where the closing word is 0; nothing was loaded of the board since then
abbrev pub looked_at : Bool → ℕ → MutView → MutView
looked_at is_open word v = record v {
  tally = counted_with word v.tally;
  gate = if is_open then record v.gate { phase = Inside } else v.gate;
  board = if is_open then no_board else v.board;
}

-- the same, by the word that the load found
abbrev pub looked : ℕ → MutView → MutView
looked word v = looked_at (word == 0) word v

-- flag out: Entering or Inside to Outside
abbrev pub flagged_out : MutView → MutView
flagged_out v = record v { tally = counted v.tally; gate = record v.gate { phase = Outside } }

-- close: Outside to Closing where the closing word was 0, and at once to Alone where there is no other number; the closer has
-- then seen this list
abbrev pub took : Bool → ℕ → List Event → MutView → MutView
took was_open word seen v = record v {
  tally = counted_with word v.tally;
  gate = if was_open then closing v.terms.sizes.mutators [] v.gate else v.gate;
  board = if was_open then no_board else v.board;
  journal = if was_open then record v.journal { seen = seen } else v.journal;
}

-- the same, by the word that the exchange found
abbrev pub took_gate : ℕ → List Event → MutView → MutView
took_gate word seen v = took (word == 0) word seen v

-- see: the flag of number `k` is seen where it is 0, and the closer is Alone once every other is; it has then seen this list
abbrev pub saw_flag : Bool → ℕ → ℕ → List Event → MutView → MutView
saw_flag is_clear k word seen v = record v {
  tally = counted_with word v.tally;
  gate = if is_clear then closing v.terms.sizes.mutators (k ∷ v.gate.clear) v.gate else v.gate;
  board = if is_clear then no_board else v.board;
  journal = if is_clear then record v.journal { seen = seen } else v.journal;
}

-- the same, by the word that the load found
abbrev pub saw : ℕ → ℕ → List Event → MutView → MutView
saw k word seen v = saw_flag (word == 0) k word seen v

-- open: Alone to Outside
abbrev pub gave_gate : MutView → MutView
gave_gate v = record v { tally = counted v.tally; gate = record v.gate { phase = Outside; clear = [] } }

-- last look: the clock's word, and the journal as it is then
abbrev pub looked_last : ℕ → List Event → MutView → MutView
looked_last word seen v = record v { tally = counted_with word v.tally; journal = record v.journal { seen = seen } }

-- board load: the word is one of those that were loaded since the seat went inside
abbrev pub board_loaded : ℕ → ℕ → MutView → MutView
board_loaded place word v = record v { tally = counted_with word v.tally; board = record { loaded = record { word = place; value = word } ∷ v.board.loaded } }

-- lock: where the header was this one, the object is held; none of its fields is loaded yet
abbrev pub locked_at : Bool → (object stamp word : ℕ) → MutView → MutView
locked_at was_free object stamp word v = record v {
  tally = counted_with word v.tally;
  held = if was_free then Some (record { object = object; stamp = stamp; loaded = []; flight = None }) else v.held;
}

-- the same, by the header that the exchange found: it was free with this stamp where it is just that
abbrev pub locked : (object stamp word : ℕ) → MutView → MutView
locked object stamp word v = locked_at (word == packed stamp 0) object stamp word v

-- unlock: nothing is held
abbrev pub unlocked : MutView → MutView
unlocked v = record v { tally = counted v.tally; held = None }

-- the hand with one more field loaded
abbrev pub with_field : (field word : ℕ) → Option Held → Option Held
with_field field word None = None
with_field field word (Some h) = Some (record h { loaded = record { field = field; value = word } ∷ h.loaded })

-- field load: the word is the field's while the object is held
abbrev pub field_found : (field word : ℕ) → MutView → MutView
field_found field word v = record v { tally = counted_with word v.tally; held = with_field field word v.held }

-- what is in flight, once its field or class word is written
abbrev pub landed : Option Flight → Option Flight
landed None = None
landed (Some x) = Some (record x { written = true })

-- the hand once the word of what is in flight is written; what was loaded of the fields before is not known any more
abbrev pub with_written : Option Held → Option Held
with_written None = None
with_written (Some h) = Some (record h { loaded = []; flight = landed h.flight })

-- field store and class store: only the header is left of what is in flight
abbrev pub word_written : MutView → MutView
word_written v = record v { tally = counted v.tally; held = with_written v.held }

-- the hand once one more word of the copy in flight is written
abbrev pub one_built : Option Flight → Option Flight
one_built None = None
one_built (Some x) = Some (record x { built = x.built + 1 })

-- and the hand that has it
abbrev pub with_built : Option Held → Option Held
with_built None = None
with_built (Some h) = Some (record h { flight = one_built h.flight })

-- copy store: one more word of the copy stands
abbrev pub copy_stored : MutView → MutView
copy_stored v = record v { tally = counted v.tally; held = with_built v.held }

-- the hand once the forwarding word of a lane is written
abbrev pub owed_less : ℕ → Option Flight → Option Flight
owed_less lane None = None
owed_less lane (Some x) = Some (record x { awaiting = without lane x.awaiting })

-- and the hand that has it
abbrev pub with_forward : ℕ → Option Held → Option Held
with_forward lane None = None
with_forward lane (Some h) = Some (record h { flight = owed_less lane h.flight })

-- forward store: the lane waits no more
abbrev pub forwarded : ℕ → MutView → MutView
forwarded lane v = record v { tally = counted v.tally; held = with_forward lane v.held }

-- the number whose flag a word is
abbrev pub number_of_flag : ℕ → ℕ
number_of_flag word = word - FIRST_FLAG

-- the object whose header a word is
abbrev pub object_of_header : Plan → ℕ → ℕ
object_of_header plan word = (word - first_cell plan) / CELL_WORDS

-- the field of an object that a word is
abbrev pub field_of_word : Plan → (object word : ℕ) → ℕ
field_of_word plan object word = word - word_of plan (FieldWord object 0)

-- the lane whose forwarding word of an object a word is
abbrev pub lane_of_word : Plan → (object word : ℕ) → ℕ
lane_of_word plan object word = word - word_of plan (ForwardWord object 0)

-- split, as the main thread sees it: one more mutator's seat is out
abbrev pub split_one : MutView → MutView
split_one v = record v { tally = counted_blind v.tally; gate = record v.gate { split = v.gate.split + 1 } }

-- split, as the new seat sees it: it is the next mutator's, Outside, has seen what the main thread has, and has no events
abbrev pub newcomer : MutView → MutView
newcomer v = record {
  terms = v.terms;
  tally = record { steps = 0; found = None };
  gate = record { number = v.gate.split; phase = Outside; clear = []; split = 0 };
  board = no_board;
  journal = record { seen = v.journal.seen; entries = [] };
  held = None;
  hands = record { joined = [] };
}

-- the longer of two lists, of which one begins the other
abbrev pub longer : List Event → List Event → List Event
longer xs ys = if nat_lt (length xs) (length ys) then ys else xs

-- join: the view keeps what the other one has seen and its entries, and has itself seen the longer list
abbrev pub joined_with : MutView → MutView → MutView
joined_with v u = record v {
  tally = counted_blind v.tally;
  journal = record v.journal { seen = longer v.journal.seen u.journal.seen };
  hands = record { joined = record { number = u.gate.number; seen = u.journal.seen; entries = u.journal.entries } ∷ v.hands.joined };
}

-- the same of views; only mutators' views are split or joined
abbrev pub left_of : View → View
left_of (Mut v) = Mut (split_one v)
left_of (Lane l) = Lane l
left_of Gone = Gone

-- the view of the seat that is split off
abbrev pub right_of : View → View
right_of (Mut v) = Mut (newcomer v)
right_of (Lane l) = Gone
right_of Gone = Gone

-- the view that two seats leave when the second is joined into the first
abbrev pub both_of : View → View → View
both_of (Mut v) (Mut u) = Mut (joined_with v u)
both_of x y = x
