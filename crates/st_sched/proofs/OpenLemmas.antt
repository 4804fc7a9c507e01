-- A run before its first turn
use Rattle.std.proofs.Common.{◌≡◌, ℕ, zero, suc, ◌+◌, ◌*◌, ◌≤◌, List, [], ◌∷◌, ◌++◌, length, Some, slice_get, refl, sym, ap, subst, arith, vec_capacity}
use Rattle.std.specs.List.{All}
use Rattle.std.proofs.lemmas.List.Elements.{All-nil}
use Rattle.st_events.specs.declared.limits.Sizes.{Sizes}
use Rattle.st_events.specs.Sizes.{AreWithinLimits}
use Rattle.st_events.specs.Terms.{ShapeLists}
use Rattle.st_resolved.specs.Terms.{Program}
use Rattle.st_resolved.specs.WellFormed.{IsWellFormed}
use Rattle.st_snap.specs.Snapshots.{new_heap, event_room}
use Rattle.st_run_meaning.specs.States.{first_state}
use Rattle.st_run_meaning.proofs.SoundLemmas.{first_is_sound}
use Rattle.st_sched.specs.declared.running.Running.{Running}
use Rattle.st_sched.specs.declared.seats.Seat.{Seat}
use Rattle.st_sched.specs.Seats.{HasReplies}
use Rattle.st_sched.specs.Standing.{IsInMemory, AreChecks, AreVerdicts, IsIdleEval}
use Rattle.st_sched.specs.UnderWay.{AreSeats, IsOnTheWay}

-- one seat more
pub one_more_seat :
    (p : Program) (sizes : Sizes) (seats : List Seat) (new : Seat) (m : ℕ)
    → length seats ≡ m
    → ((k : ℕ) (seat : Seat) → slice_get seats k ≡ Some seat → HasReplies p sizes k [] seat)
    → HasReplies p sizes m [] new
    → (k : ℕ) (seat : Seat) → slice_get (seats ++ new ∷ []) k ≡ Some seat → HasReplies p sizes k [] seat
one_more_seat p sizes seats new m len each here = by seats (λ k. HasReplies p sizes k []) each (subst (λ (k : ℕ). HasReplies p sizes k [] new) (sym len) here)
  where
    by : (xs : List Seat) (P : ℕ → Seat → Type 0) → ((k : ℕ) (seat : Seat) → slice_get xs k ≡ Some seat → P k seat) → P (length xs) new
        → (k : ℕ) (seat : Seat) → slice_get (xs ++ new ∷ []) k ≡ Some seat → P k seat
    by [] P each last zero seat e = let same : new ≡ seat = cc in subst (P 0) same last
    by [] P each last (suc k) seat e = absurd (cc)
    by (x ∷ xs) P each last zero seat e = each zero seat e
    by (x ∷ xs) P each last (suc k) seat e = by xs (λ j. P (suc j)) (λ j y f. each (suc j) y f) last k seat e

-- the memory of a run that is opened
pub record IsOpened (p : Program) (sizes : Sizes) (r : Running) : Type 0 where
  pub seats : AreSeats p sizes [] r.seats.items
  pub checks : r.checks.items ≡ []
  pub check_room : sizes.lanes ≤ vec_capacity r.checks
  pub idle : All (IsIdleEval p sizes) r.idle.items
  pub idle_count : length r.idle.items ≡ sizes.lanes
  pub idle_room : sizes.lanes ≤ vec_capacity r.idle
  pub verdicts : r.verdicts.items ≡ []
  pub verdict_room : event_room sizes ≤ 2 * vec_capacity r.verdicts + 1
  pub ready_room : sizes.mutators + sizes.lanes ≤ vec_capacity r.ready
  pub ends : r.ends.items ≡ []
  pub end_room : sizes.mutators ≤ vec_capacity r.ends

no_verdicts : (shape : ShapeLists) (p : Program) (sizes : Sizes) (seed : ℕ) → AreVerdicts shape p sizes (first_state seed) []
no_verdicts shape p sizes seed = record { count = refl; retired = λ n one most gone. absurd (omega (arith, one, most)) }

-- a run that is opened stands for the first state of its seed, and may take its first turn
pub opened_is_on_the_way :
    (shape : ShapeLists) (p : Program) (sizes : Sizes) (seed : ℕ) (r : Running)
    → IsWellFormed shape p
    → AreWithinLimits sizes
    → r.heap ≡ new_heap shape sizes
    → r.x ≡ seed
    → IsOpened p sizes r
    → IsOnTheWay shape p sizes (first_state seed) r
opened_is_on_the_way shape p sizes seed r formed limits heap x h = record {
  state = first_state seed;
  formed = formed;
  limits = limits;
  x = x;
  stands = record {
    heap = heap;
    checks = subst (AreChecks shape p sizes (first_state seed)) (sym h.checks) (record { each = All-nil (IsInMemory shape p sizes (first_state seed)); in_order = refl });
    idle = h.idle;
    verdicts = subst (AreVerdicts shape p sizes (first_state seed)) (sym h.verdicts) (no_verdicts shape p sizes seed);
    room = (let none : length r.checks.items ≡ 0 = ap length h.checks in
        record {
          lanes = omega (arith, none, h.idle_count);
          checks = h.check_room;
          idle = h.idle_room;
          verdicts = h.verdict_room;
          ready = h.ready_room;
          ends = h.end_room;
          no_ends = h.ends;
        });
  };
  seats = h.seats;
  sound = first_is_sound shape p formed sizes seed;
  onward = λ end comes. comes;
}
