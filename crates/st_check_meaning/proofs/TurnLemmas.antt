-- Following a course turn by turn, and that the cells are asked for in order.
use Rattle.std.proofs.Common.{ℕ, zero, suc, drop, refl, sym, subst}
use Rattle.st_events.specs.Heap.{Heap}
use Rattle.st_check_meaning.specs.Courses.{comes_to, ends_in, reads, uses_unit}
use Rattle.st_check_meaning.specs.Plain.{Followed, word_found, check_course, plain_value, cells_read}
use Rattle.st_check_meaning.specs.Turns.{Turn, asks, is_over, turn_of, turn_after, followed_from, words_of_first, IsTurnFor}
use Rattle.st_check_meaning.specs.Laws.{FollowByTurns, AskInOrder}

-- to follow is to take the first turn, and to follow from there
pub following_is_by_turns : FollowByTurns
following_is_by_turns heap (comes_to word) units = refl
following_is_by_turns heap (ends_in plain) units = refl
following_is_by_turns heap (reads obj field next) units = refl
following_is_by_turns heap (uses_unit next) zero = refl
following_is_by_turns heap (uses_unit next) (suc units) = following_is_by_turns heap (next tt) units

-- after the words of the first k cells the next cell is asked for, or it is over
abbrev AsksNext : Heap → ℕ → Turn → Followed → Type 0
AsksNext heap k turn f = IsTurnFor (drop k f.cells) f.value (turn_after (words_of_first heap k f.cells) turn)

turns_ask_in_order : (heap : Heap) (k : ℕ) (turn : Turn) → AsksNext heap k turn (followed_from heap turn)
turns_ask_in_order heap zero (asks obj field next units) = (next, units, refl)
turns_ask_in_order heap zero (is_over plain) = refl
turns_ask_in_order heap (suc k) (asks obj field next units) =
    subst (AsksNext heap k (turn_of (next (word_found heap obj field)) units)) (sym (following_is_by_turns heap (next (word_found heap obj field)) units))
    (turns_ask_in_order heap k (turn_of (next (word_found heap obj field)) units))
turns_ask_in_order heap (suc k) (is_over plain) = refl

-- a check asks for its cells in order
pub checks_ask_in_order : AskInOrder
unfolding plain_value cells_read
checks_ask_in_order p heap site args calls k =
    subst (AsksNext heap k (turn_of (check_course p site args) calls)) (sym (following_is_by_turns heap (check_course p site args) calls))
    (turns_ask_in_order heap k (turn_of (check_course p site args) calls))
