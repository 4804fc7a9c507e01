-- Lanes: which check each has after a journal, and which checks were launched in a span of epochs
use Rattle.std.specs.Prelude.{ℕ, ◌==◌, nat_lt, nat_le, Bool, true, false, ◌&&◌, if◌then◌else◌, List, [], ◌∷◌, map, position, slice_set, replicate}
use Rattle.std.specs.Prelude.{max, Option, Some, None}
use Rattle.st_snap.specs.Terms.{Event, New, Load, Store, Cas, Launch, Retire}

-- whether the lane has no check
abbrev pub is_idle : Option ℕ → Bool
is_idle None = true
is_idle (Some number) = false

-- whether the lane has this check
abbrev pub has_check : ℕ → Option ℕ → Bool
has_check number None = false
has_check number (Some n) = n == number

-- whether the number is above the first epoch, and not above the second
abbrev pub is_launched_within : ℕ → ℕ → ℕ → Bool
is_launched_within after upto number = nat_lt after number && nat_le number upto

-- whether the lane has a check that was launched after the first epoch, and up to the second
abbrev pub is_between : ℕ → ℕ → Option ℕ → Bool
is_between after upto None = false
is_between after upto (Some number) = is_launched_within after upto number

-- the newest check at a lane; 0 where there is none
abbrev pub newest_of : List (Option ℕ) → ℕ
newest_of [] = 0
newest_of (None ∷ lanes) = newest_of lanes
newest_of (Some number ∷ lanes) = max number (newest_of lanes)

-- the lanes with a check at the first that was idle
abbrev pub with_check_at : ℕ → List (Option ℕ) → Option ℕ → List (Option ℕ)
with_check_at number lanes None = lanes
with_check_at number lanes (Some index) = slice_set lanes index (Some number)

-- a lane once a check has left
abbrev pub cleared : ℕ → Option ℕ → Option ℕ
cleared number lane = if has_check number lane then None else lane

-- the lanes after one more event: a launched check takes the first idle lane, and leaves it when it is retired
abbrev pub next_lanes : List (Option ℕ) → Event → List (Option ℕ)
next_lanes lanes (New m obj class) = lanes
next_lanes lanes (Load m obj field value) = lanes
next_lanes lanes (Store m obj field value) = lanes
next_lanes lanes (Cas m obj field expect value done) = lanes
next_lanes lanes (Launch m site number args) = with_check_at number lanes (position is_idle lanes)
next_lanes lanes (Retire m number) = map (cleared number) lanes

-- the lanes after more events
abbrev pub lanes_from : List (Option ℕ) → List Event → List (Option ℕ)
lanes_from lanes [] = lanes
lanes_from lanes (e ∷ es) = lanes_from (next_lanes lanes e) es

-- which check has each of so many lanes after a journal
abbrev pub lanes_after : ℕ → List Event → List (Option ℕ)
lanes_after count es = lanes_from (replicate count None) es
