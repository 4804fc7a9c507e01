-- The threads in memory after a turn
use Rattle.std.proofs.Common.{◌≡◌, ◌≢◌, ℕ, zero, suc, ◌<◌, ◌^◌, List, [], ◌∷◌, ◌++◌, Option, Some, None, inl, inr, slice_get, slice_set, refl, sym, ◌∙◌, ap, subst, arith, IsSome}
use Rattle.std.proofs.lemmas.Bool.Decides.{eqb_tells}
use Rattle.std.proofs.lemmas.List.{length-set, map-append}
use Rattle.st_events.specs.declared.events.Event.{Event}
use Rattle.st_events.specs.declared.limits.Sizes.{Sizes}
use Rattle.st_events.specs.Sizes.{AreWithinLimits}
use Rattle.st_events.specs.Sound.{IsSoundWorld}
use Rattle.st_events.specs.Terms.{ShapeLists, Heap, Object, word_of, word_at, heap_after, world_after, own_events}
use Rattle.st_events.proofs.SoundLemmas.{legal_is_sound}
use Rattle.st_resolved.specs.Terms.{Program}
use Rattle.st_resolved.specs.WellFormed.{IsWellFormed}
use Rattle.st_thread_meaning.specs.Deeds.{Request, make, load, store, cas, launch}
use Rattle.st_thread_meaning.specs.Laws.{replies_of}
use Rattle.st_thread_meaning.specs.Threads.{Turn, asks_for, has_ended, reply_of}
use Rattle.st_thread_meaning.specs.Typed.{IsRightTurn}
use Rattle.st_thread_meaning.proofs.TypedJournals.{threads_ask_legally}
use Rattle.st_eval.specs.Laws.{HasSmallNumbers}
use Rattle.st_mutator.specs.Mutators.{narrow, narrowed, turn_of_want}
use Rattle.st_run_meaning.specs.States.{State}
use Rattle.st_run_meaning.specs.Agents.{request_of, mutator}
use Rattle.st_run_meaning.specs.SoundStates.{IsSoundState}
use Rattle.st_run_meaning.specs.Steps.{event_of, turn_of}
use Rattle.st_run_meaning.proofs.OwnLemmas.{own_after_turn, others_after_turn}
use Rattle.st_sched.specs.declared.seats.Seat.{Seat}
use Rattle.st_sched.specs.Seats.{HasReplies}
use Rattle.st_sched.specs.UnderWay.{AreSeats}
use Rattle.st_sched.proofs.CellLemmas.{objects_are_small}

-- ---- numbers of 32 bits

-- a small number is itself
narrow_is_same : (obj : ℕ) → obj < 2 ^ 32 → narrow obj ≡ obj
narrow_is_same obj small = omega (arith, small)

-- an object with a word has a small number
object_is_small : (heap : Heap) (obj field : ℕ) → HasSmallNumbers heap → IsSome (word_at heap obj field) → obj < 2 ^ 32
object_is_small heap obj field small some = by (heap obj) refl some
  where
    by : (o : Option Object) → heap obj ≡ o → IsSome (word_of o field) → obj < 2 ^ 32
    by None e i = absurd (cc)
    by (Some x) e i = small obj x e

right_is_narrow : (shape : ShapeLists) (heap : Heap) (turn : Turn) → HasSmallNumbers heap → IsRightTurn shape heap turn → narrowed turn ≡ turn
right_is_narrow shape heap (has_ended end) small right = refl
right_is_narrow shape heap (asks_for (make class)) small right = refl
right_is_narrow shape heap (asks_for (load obj field)) small right =
    ap (λ (o : ℕ). asks_for (load o field)) (narrow_is_same obj (object_is_small heap obj field small right))
right_is_narrow shape heap (asks_for (store obj field value)) small right =
    ap (λ (o : ℕ). asks_for (store o field value)) (narrow_is_same obj (object_is_small heap obj field small right.0))
right_is_narrow shape heap (asks_for (cas obj field expect value)) small right =
    ap (λ (o : ℕ). asks_for (cas o field expect value)) (narrow_is_same obj (object_is_small heap obj field small right.0))
right_is_narrow shape heap (asks_for (launch site args)) small right = refl

-- in a sound state what a thread in memory asks for is its request
pub seat_asks :
    (shape : ShapeLists) (p : Program) (sizes : Sizes) (s : State) (m : ℕ) (seats : List Seat) (seat : Seat)
    → IsWellFormed shape p
    → AreWithinLimits sizes
    → IsSoundState shape p sizes s
    → AreSeats p sizes s.journal seats
    → slice_get seats m ≡ Some seat
    → turn_of_want seat.want ≡ request_of p sizes s m
seat_asks shape p sizes s m seats seat formed limits sound h there =
    let world : IsSoundWorld shape sizes (world_after shape sizes s.journal) = legal_is_sound shape sizes formed.shape_fits s.journal sound.legal in
    let right : IsRightTurn shape (heap_after shape sizes s.journal) (request_of p sizes s m) =
    threads_ask_legally shape p sizes formed s.journal m (request_of p sizes s m) sound.legal (sound.led m) in
    (h.each m seat there).wants
    ∙ right_is_narrow shape (heap_after shape sizes s.journal) (request_of p sizes s m) (objects_are_small shape sizes (world_after shape sizes s.journal) limits world) right

-- ---- after a turn

get_set_here : (seats : List Seat) (m : ℕ) (seat found : Seat) → slice_get (slice_set seats m seat) m ≡ Some found → found ≡ seat
get_set_here [] m seat found e = absurd (cc)
get_set_here (x ∷ xs) zero seat found e = cc
get_set_here (x ∷ xs) (suc m) seat found e = get_set_here xs m seat found e

get_set_elsewhere : (seats : List Seat) (m k : ℕ) (seat : Seat) → k ≢ m → slice_get (slice_set seats m seat) k ≡ slice_get seats k
get_set_elsewhere [] m k seat differ = refl
get_set_elsewhere (x ∷ xs) zero zero seat differ = absurd (differ refl)
get_set_elsewhere (x ∷ xs) zero (suc k) seat differ = refl
get_set_elsewhere (x ∷ xs) (suc m) zero seat differ = refl
get_set_elsewhere (x ∷ xs) (suc m) (suc k) seat differ = get_set_elsewhere xs m k seat (λ same. differ (ap suc same))

-- one thread has had the reply to its request, and the others are as they were
pub seats_after_turn :
    (shape : ShapeLists) (p : Program) (sizes : Sizes) (s : State) (m : ℕ) (request : Request) (seats : List Seat) (seat : Seat)
    → request_of p sizes s m ≡ asks_for request
    → AreSeats p sizes s.journal seats
    → HasReplies p sizes m (replies_of (own_events m s.journal) ++ reply_of (event_of sizes (world_after shape sizes s.journal) m request) ∷ []) seat
    → AreSeats p sizes (turn_of shape p sizes s (mutator m)).journal (slice_set seats m seat)
seats_after_turn shape p sizes s m request seats seat asked h had = record {
  count = length-set seats m seat ∙ h.count;
  each = λ k found e. elim (eqb_tells k m) [ inl same ↦ mine k found e same.1 | inr differ ↦ others k found e differ.1 ];
}
  where
    event : Event
    event = event_of sizes (world_after shape sizes s.journal) m request

    later : List Event
    later = (turn_of shape p sizes s (mutator m)).journal

    replies : replies_of (own_events m later) ≡ replies_of (own_events m s.journal) ++ reply_of event ∷ []
    replies = ap replies_of (own_after_turn shape p sizes s m request asked) ∙ map-append reply_of (own_events m s.journal) (event ∷ [])

    mine : (k : ℕ) (found : Seat) → slice_get (slice_set seats m seat) k ≡ Some found → k ≡ m → HasReplies p sizes k (replies_of (own_events k later)) found
    mine k found e same =
        let at_m : slice_get (slice_set seats m seat) m ≡ Some found = subst (λ (j : ℕ). slice_get (slice_set seats m seat) j ≡ Some found) same e in
        let is : found ≡ seat = get_set_here seats m seat found at_m in
        subst (λ (j : ℕ). HasReplies p sizes j (replies_of (own_events j later)) found) (sym same)
        (subst (λ (x : Seat). HasReplies p sizes m (replies_of (own_events m later)) x) (sym is)
        (subst (λ (rs : List ℕ). HasReplies p sizes m rs seat) (sym replies) had))

    others : (k : ℕ) (found : Seat) → slice_get (slice_set seats m seat) k ≡ Some found → k ≢ m → HasReplies p sizes k (replies_of (own_events k later)) found
    others k found e differ =
        let there : slice_get seats k ≡ Some found = sym (get_set_elsewhere seats m k seat differ) ∙ e in
        subst (λ (es : List Event). HasReplies p sizes k (replies_of es) found) (sym (others_after_turn shape p sizes s m k differ)) (h.each k found there)
