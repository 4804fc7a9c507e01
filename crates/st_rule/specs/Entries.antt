-- The own events of a number, each with its ticket, and what they cost.
use Rattle.std.specs.Prelude.{ℕ, zero, suc, ◌+◌, ◌*◌, nat_lt, if◌then◌else◌, List, [], ◌∷◌, length, filter}
use Rattle.std.specs.List.{sum_by}
use Rattle.st_events.specs.declared.events.Event.{Event}
use Rattle.st_events.specs.declared.heaps.TheConstants.{FIRST_OF_REGIONS}
use Rattle.st_events.specs.declared.limits.Sizes.{Sizes}
use Rattle.st_events.specs.History.{is_own, is_new}
pub use Rattle.st_events.specs.History.{charge_of}
use Rattle.st_rule.specs.declared.views.Entry.{Entry}
use Rattle.st_rule.specs.declared.views.MutView.{MutView}

-- the own events of a number among these events, of which the first has this ticket
abbrev pub own_entries : (number ticket : ℕ) → List Event → List Entry
own_entries number ticket [] = []
own_entries number ticket (e ∷ es) =
    if is_own number e then record { ticket = ticket; event = e } ∷ own_entries number (suc ticket) es else own_entries number (suc ticket) es

-- what entries took of the charge in all. A Retire takes nothing, and is nobody's own, so it is no entry: its Launch paid for it
abbrev pub charge_of_all : List Entry → ℕ
charge_of_all entries = sum_by (λ e. charge_of e.event) entries

-- what the own events of the numbers below this one took in all
abbrev pub charge_below : (count : ℕ) → List Event → ℕ
charge_below zero es = 0
charge_below (suc n) es = charge_below n es + charge_of_all (own_entries n 0 es)

-- how many objects an event makes
abbrev pub news_of : Event → ℕ
news_of e = if is_new e then 1 else 0

-- how many objects entries made
abbrev pub news_among : List Entry → ℕ
news_among entries = length (filter (λ e. is_new e.event) entries)

-- the charge that a number has in all; the main thread has none
abbrev pub whole_charge : Sizes → ℕ → ℕ
whole_charge sizes number = if nat_lt number sizes.mutators then sizes.events else 0

-- the objects that a number may make in all; the main thread makes none
abbrev pub whole_region : Sizes → ℕ → ℕ
whole_region sizes number = if nat_lt number sizes.mutators then sizes.objects else 0

-- the charge that the seat's own events took
abbrev pub charge_spent : MutView → ℕ
charge_spent v = charge_of_all v.journal.entries

-- the objects that the seat's own events made
abbrev pub objects_made : MutView → ℕ
objects_made v = news_among v.journal.entries

-- the next object of the seat's region
abbrev pub next_of : MutView → ℕ
next_of v = FIRST_OF_REGIONS + v.gate.number * v.terms.sizes.objects + objects_made v
