-- A step keeps the room, needs nothing that is not there, and brings the evaluation nearer to its end.
use Rattle.std.proofs.Common.{◌≡◌, ◌≢◌, ◌≤◌, ℕ, suc, ◌+◌, ◌-◌, ◌*◌, ◌==◌, Bool, true, false, if◌then◌else◌}
use Rattle.std.proofs.Common.{List, [], ◌∷◌, length, take, drop, reverse, min, not, neg_ℤ, Option, Some, None, slice_get, refl, sym, ◌∙◌, subst, arith}
use Rattle.std.proofs.lemmas.List.{length-take, length-drop, length-reverse}
use Rattle.std.proofs.Math.Nat.{mul-le-mul_left}
use Rattle.st_events.specs.declared.shapes.TheConstants.{MOST_ARGS}
use Rattle.st_check_meaning.specs.declared.limits.TheConstants.{MOST_DEPTH}
use Rattle.st_check_meaning.specs.Courses.{Course, comes_to, ends_in, reads, uses_unit}
use Rattle.st_events.specs.declared.verdicts.Plain.TheVariants.{Null, Deep, Spent}
use Rattle.st_check_meaning.specs.Numbers.{is_true, number_of, word_of_truth, number_or_overflow}
use Rattle.st_check_meaning.specs.Meaning.{operate}
use Rattle.st_resolved.specs.Terms.{Term}
use Rattle.st_eval.specs.declared.frames.Span.{Span}
use Rattle.st_eval.specs.declared.instructions.Instruction.{Instruction}
use Rattle.st_eval.specs.declared.instructions.Instruction.TheVariants.{Push, Local, Shared, Field, Not, Minus, Binary, Both, Either, Test, Skip, Call}
use Rattle.st_eval.specs.Activations.{Activation, Activations, held_waiting, local_word, pushed, onward, past, entered, resumed}
use Rattle.st_eval.specs.Steps.{Step, goes_on, asks_for, ends, part, span_of, answered, called, acted, returned, stepped, step}
use Rattle.st_eval.specs.StraightCode.{top}
use Rattle.st_eval.specs.Bodies.{AreBodies}
use Rattle.st_eval.specs.Room.{growth, Holds, Wait, HasRoom, HasRooms, IsRunning, IsPaused, HasOneRoom, Needs, NeedsNext, NeedsStep}
use Rattle.st_eval.proofs.PartLemmas.{part_first, part_past}
use Rattle.st_eval.proofs.RestLemmas.{other_false}
use Rattle.st_eval.proofs.RoomLemmas.{body_room, growth_past, holds_from, waiting_hold}

-- what holds after a step
abbrev pub IsReady : List Instruction → ℕ → Step → Type 0
IsReady code most (goes_on s units) = IsRunning code most s
IsReady code most (asks_for obj field s units) = IsPaused code most s
IsReady code most (ends plain s) = HasRooms most s

-- what no step of one body changes
abbrev pub Else : List Instruction → ℕ → Activations → Type 0
Else code most s =
    Wait code most (length s.running.locals) s.waiting × (length s.waiting ≤ MOST_DEPTH) × ((MOST_DEPTH + 1) * most + MOST_ARGS ≤ s.words_room) × (MOST_DEPTH ≤ s.calls_room)

-- what has room has also all that concerns other bodies than the running one
pub else_of : (code : List Instruction) (most : ℕ) (s : Activations) (n : ℕ) → HasRoom code most s n → Else code most s
else_of code most s n h = (h.waiting, h.depth, h.words_room, h.calls_room)

-- with these words
abbrev with_words : Activations → List ℕ → Activations
with_words s words = record s { running = record s.running { words = words } }

-- room, from its parts
room_of :
    (code : List Instruction) (most : ℕ) (s : Activations) (n : ℕ)
    → Holds (part code s.running.place s.running.end) 0 n
    → n + growth (part code s.running.place s.running.end) ≤ most
    → Else code most s
    → HasRoom code most s n
room_of code most s n h g e =
    record { running = record { holds = h; grows = g }; waiting = e.0; depth = e.1; words_room = e.2; calls_room = e.3 }

-- room past some instructions
room_past :
    (code : List Instruction) (most : ℕ) (s : Activations) (count n : ℕ)
    → Holds (part code s.running.place s.running.end) count n
    → n + growth (part code s.running.place s.running.end) ≤ most
    → Else code most s
    → HasRoom code most (past count s) n
room_past code most s count n h g e =
    room_of code most (past count s) n
    (subst (λ is. Holds is 0 n) (sym (part_past code s.running.place s.running.end count)) (holds_from count (part code s.running.place s.running.end) n h))
    (subst (λ is. n + growth is ≤ most) (sym (part_past code s.running.place s.running.end count))
    (let k : growth (drop count (part code s.running.place s.running.end)) ≤ growth (part code s.running.place s.running.end) =
    growth_past count (part code s.running.place s.running.end) in
    omega arith))
    e

-- what an operator gives
answered_ready :
    (code : List Instruction) (most : ℕ) (c : Course ℕ) (s : Activations) (units : ℕ)
    → HasRoom code most s (suc (length s.running.words))
    → IsReady code most (answered c s units)
answered_ready code most (comes_to word) s units h = room_of code most (pushed word s) (suc (length s.running.words)) h.running.holds h.running.grows (else_of code most s _ h)
answered_ready code most (ends_in plain) s units h = (h.words_room, h.calls_room)
answered_ready code most (reads obj field next) s units h = (h.words_room, h.calls_room)
answered_ready code most (uses_unit next) s units h = (h.words_room, h.calls_room)

-- a call
called_ready :
    (code : List Instruction) (most : ℕ) (spans : List Span) (ts : List Term) (pred args : ℕ) (s : Activations) (units : ℕ)
    → AreBodies code most spans ts
    → 1 ≤ most
    → args ≤ length s.running.words
    → Holds (part code s.running.place s.running.end) 0 (suc (length s.running.words - args))
    → length s.running.words + (1 + growth (part code s.running.place s.running.end)) ≤ most
    → Else code most s
    → IsReady code most (called spans pred args s units)
called_ready code most spans ts pred args s units bodies some few h g e = by (length s.waiting == MOST_DEPTH) (units == 0) refl
  where
    kept : length (drop args s.running.words) ≡ length s.running.words - args
    kept = length-drop args s.running.words

    taken : length (reverse (take args s.running.words)) ≡ min args (length s.running.words)
    taken = length-reverse (take args s.running.words) ∙ length-take args s.running.words

    begins : Holds (part code (span_of spans pred).start (span_of spans pred).end) 0 0 × (0 + growth (part code (span_of spans pred).start (span_of spans pred).end) ≤ most)
    begins = body_room code most spans ts pred 0 bodies (let z : 0 ≤ 1 = omega arith in z) some

    waits : Wait code most (length (reverse (take args s.running.words))) (record s.running { words = drop args s.running.words } ∷ s.waiting)
    waits = (
      let k : length (drop args s.running.words) ≡ length s.running.words - args = kept in
          let t : length (reverse (take args s.running.words)) ≡ min args (length s.running.words) = taken in
          omega arith,
      record {
        holds = subst (λ n. Holds (part code s.running.place s.running.end) 0 (suc n)) (sym kept) h;
        grows = let k : length (drop args s.running.words) ≡ length s.running.words - args = kept in omega arith;
      },
      e.0,
    )

    by : (b d : Bool) → (length s.waiting == MOST_DEPTH) ≡ b
        → IsReady code most (if b then ends Deep s else (if d then ends Spent s else goes_on (entered (span_of spans pred) args s) (units - 1)))
    by true d k = (e.2, e.3)
    by false true k = (e.2, e.3)
    by false false k =
        room_of code most (entered (span_of spans pred) args s) 0 begins.0 begins.1 (
          waits,
          (let n : length s.waiting ≢ MOST_DEPTH = other_false (length s.waiting) MOST_DEPTH k in let m : length s.waiting ≤ MOST_DEPTH = e.1 in omega arith),
          e.2,
          e.3,
        )

-- an instruction
acted_ready :
    (code : List Instruction) (most : ℕ) (spans : List Span) (ts : List Term) (i : Instruction) (s : Activations) (words : List ℕ) (units : ℕ)
    → AreBodies code most spans ts
    → 1 ≤ most
    → Holds (i ∷ part code s.running.place s.running.end) 0 (length words)
    → length words + growth (i ∷ part code s.running.place s.running.end) ≤ most
    → Else code most s
    → IsReady code most (acted spans i (with_words s words) units)
acted_ready code most spans ts (Push word) s words units bodies some h g e =
    room_of code most (with_words s (word ∷ words)) (suc (length words)) h (omega arith) e
acted_ready code most spans ts (Local local) s words units bodies some h g e =
    room_of code most (pushed (local_word s local) (with_words s words)) (suc (length words)) h (omega arith) e
acted_ready code most spans ts (Shared field) s words units bodies some h g e =
    room_of code most (with_words s words) (suc (length words)) h (omega arith) e
acted_ready code most spans ts (Field field at) s [] units bodies some h g e = absurd (omega (arith, h.0))
acted_ready code most spans ts (Field field at) s (x ∷ xs) units bodies some h g e = by (x == 0)
  where
    by : (b : Bool) → IsReady code most (if b then ends (Null at) (with_words s xs) else asks_for x field (with_words s xs) units)
    by true = (e.2, e.3)
    by false = room_of code most (with_words s xs) (suc (length xs)) h.1 (omega arith) e
acted_ready code most spans ts Not s [] units bodies some h g e = absurd (omega (arith, h.0))
acted_ready code most spans ts Not s (x ∷ xs) units bodies some h g e =
    room_of code most (pushed (word_of_truth (not (is_true x))) (with_words s xs)) (suc (length xs)) h.1 (omega arith) e
acted_ready code most spans ts (Minus at) s [] units bodies some h g e = absurd (omega (arith, h.0))
acted_ready code most spans ts (Minus at) s (x ∷ xs) units bodies some h g e =
    answered_ready code most (number_or_overflow (neg_ℤ (number_of x)) at) (with_words s xs) units
    (room_of code most (with_words s xs) (suc (length xs)) h.1 (omega arith) e)
acted_ready code most spans ts (Binary operator at) s [] units bodies some h g e = absurd (omega (arith, h.0))
acted_ready code most spans ts (Binary operator at) s (x ∷ []) units bodies some h g e = absurd (omega (arith, h.0))
acted_ready code most spans ts (Binary operator at) s (x ∷ y ∷ ys) units bodies some h g e =
    answered_ready code most (operate operator y x at) (with_words s ys) units
    (room_of code most (with_words s ys) (suc (length ys)) h.1 (omega arith) e)
acted_ready code most spans ts (Both count) s [] units bodies some h g e = absurd (omega (arith, h.0))
acted_ready code most spans ts (Both count) s (x ∷ xs) units bodies some h g e = by (is_true x)
  where
    by : (b : Bool) → IsReady code most (if b then goes_on (with_words s xs) units else goes_on (past count (with_words s (0 ∷ xs))) units)
    by true = room_of code most (with_words s xs) (length xs) h.1 (omega arith) e
    by false = room_past code most (with_words s (0 ∷ xs)) count (suc (length xs)) h.2 (omega arith) e
acted_ready code most spans ts (Either count) s [] units bodies some h g e = absurd (omega (arith, h.0))
acted_ready code most spans ts (Either count) s (x ∷ xs) units bodies some h g e = by (is_true x)
  where
    by : (b : Bool) → IsReady code most (if b then goes_on (past count (with_words s (1 ∷ xs))) units else goes_on (with_words s xs) units)
    by true = room_past code most (with_words s (1 ∷ xs)) count (suc (length xs)) h.2 (omega arith) e
    by false = room_of code most (with_words s xs) (length xs) h.1 (omega arith) e
acted_ready code most spans ts (Test count) s [] units bodies some h g e = absurd (omega (arith, h.0))
acted_ready code most spans ts (Test count) s (x ∷ xs) units bodies some h g e = by (is_true x)
  where
    by : (b : Bool) → IsReady code most (if b then goes_on (with_words s xs) units else goes_on (past count (with_words s xs)) units)
    by true = room_of code most (with_words s xs) (length xs) h.1 (omega arith) e
    by false = room_past code most (with_words s xs) count (length xs) h.2 (omega arith) e
acted_ready code most spans ts (Skip count) s words units bodies some h g e =
    room_past code most (with_words s words) count (length words) h (omega arith) e
acted_ready code most spans ts (Call pred args) s words units bodies some h g e =
    called_ready code most spans ts pred args (with_words s words) units bodies some h.0 h.1 g e

-- the end of a body
returned_ready :
    (code : List Instruction) (most : ℕ) (running : Activation) (waiting : List Activation) (a b units : ℕ)
    → Else code most (record { running = running; waiting = waiting; words_room = a; calls_room = b })
    → IsReady code most
    (returned (resumed (record { running = running; waiting = waiting; words_room = a; calls_room = b }))
    (record { running = running; waiting = waiting; words_room = a; calls_room = b }) units)
returned_ready code most running [] a b units e = (e.2, e.3)
returned_ready code most running (caller ∷ waiting) a b units e =
    let w : Wait code most (length running.locals) (caller ∷ waiting) = e.0 in
    let d : suc (length waiting) ≤ MOST_DEPTH = e.1 in
    room_of code most (pushed (top running.words) (record { running = caller; waiting = waiting; words_room = a; calls_room = b })) (suc (length caller.words))
    w.1.holds w.1.grows (w.2, omega arith, e.2, e.3)

-- a step keeps the room
pub step_ready :
    (code : List Instruction) (most : ℕ) (spans : List Span) (ts : List Term) (s : Activations) (units : ℕ)
    → AreBodies code most spans ts
    → 1 ≤ most
    → IsRunning code most s
    → IsReady code most (step code spans s units)
step_ready code most spans ts s units bodies some h = by (slice_get (part code s.running.place s.running.end) 0) refl
  where
    by : (o : Option Instruction) → slice_get (part code s.running.place s.running.end) 0 ≡ o → IsReady code most (stepped spans o s units)
    by None k = returned_ready code most s.running s.waiting s.words_room s.calls_room units (else_of code most s _ h)
    by (Some i) k =
        acted_ready code most spans ts i (onward s) s.running.words units bodies some
        (subst (λ is. Holds is 0 (length s.running.words)) (part_first code s.running.place s.running.end i k) h.running.holds)
        (subst (λ is. length s.running.words + growth is ≤ most) (part_first code s.running.place s.running.end i k) h.running.grows)
        (else_of code most s _ h)

-- room for one word more
pub one_room :
    (code : List Instruction) (most : ℕ) (s : Activations)
    → Else code most s
    → suc (length s.running.words) ≤ most
    → HasOneRoom s
one_room code most s e few =
    let w : length s.running.locals + held_waiting s.waiting ≤ length s.waiting * most + MOST_ARGS =
    waiting_hold code most (length s.running.locals) s.waiting e.0 in
    let d : most * length s.waiting ≤ most * MOST_DEPTH = mul-le-mul_left most e.1 in
    let r : (MOST_DEPTH + 1) * most + MOST_ARGS ≤ s.words_room = e.2 in
    omega arith

-- what an instruction needs is there
acted_needs :
    (code : List Instruction) (most : ℕ) (i : Instruction) (s : Activations) (words : List ℕ)
    → Holds (i ∷ part code s.running.place s.running.end) 0 (length words)
    → length words + growth (i ∷ part code s.running.place s.running.end) ≤ most
    → Else code most s
    → Needs i (with_words s words)
acted_needs code most (Push word) s words h g e = one_room code most (with_words s words) e (omega arith)
acted_needs code most (Local local) s words h g e = one_room code most (with_words s words) e (omega arith)
acted_needs code most (Shared field) s words h g e = tt
acted_needs code most (Field field at) s words h g e = tt
acted_needs code most Not s [] h g e = absurd (omega (arith, h.0))
acted_needs code most Not s (x ∷ xs) h g e = one_room code most (with_words s xs) e (omega arith)
acted_needs code most (Minus at) s [] h g e = absurd (omega (arith, h.0))
acted_needs code most (Minus at) s (x ∷ xs) h g e = one_room code most (with_words s xs) e (omega arith)
acted_needs code most (Binary operator at) s [] h g e = absurd (omega (arith, h.0))
acted_needs code most (Binary operator at) s (x ∷ []) h g e = absurd (omega (arith, h.0))
acted_needs code most (Binary operator at) s (x ∷ y ∷ ys) h g e = one_room code most (with_words s ys) e (omega arith)
acted_needs code most (Both count) s [] h g e = absurd (omega (arith, h.0))
acted_needs code most (Both count) s (x ∷ xs) h g e = one_room code most (with_words s xs) e (omega arith)
acted_needs code most (Either count) s [] h g e = absurd (omega (arith, h.0))
acted_needs code most (Either count) s (x ∷ xs) h g e = one_room code most (with_words s xs) e (omega arith)
acted_needs code most (Test count) s words h g e = tt
acted_needs code most (Skip count) s words h g e = tt
acted_needs code most (Call pred args) s words h g e =
    (h.0, λ n. let d : length s.waiting ≤ MOST_DEPTH = e.1 in let c : MOST_DEPTH ≤ s.calls_room = e.3 in omega arith)

-- and what the end of a body needs
returned_needs :
    (code : List Instruction) (most : ℕ) (running : Activation) (waiting : List Activation) (a b : ℕ)
    → Else code most (record { running = running; waiting = waiting; words_room = a; calls_room = b })
    → NeedsNext None (record { running = running; waiting = waiting; words_room = a; calls_room = b })
returned_needs code most running [] a b e = tt
returned_needs code most running (caller ∷ waiting) a b e =
    let w : Wait code most (length running.locals) (caller ∷ waiting) = e.0 in
    let d : suc (length waiting) ≤ MOST_DEPTH = e.1 in
    let g : suc (length caller.words) + growth (part code caller.place caller.end) ≤ most = w.1.grows in
    one_room code most (record { running = caller; waiting = waiting; words_room = a; calls_room = b }) (w.2, omega arith, e.2, e.3) (omega arith)

-- what a step needs is there
pub step_needs :
    (code : List Instruction) (most : ℕ) (s : Activations)
    → IsRunning code most s
    → NeedsStep code s
step_needs code most s h = by (slice_get (part code s.running.place s.running.end) 0) refl
  where
    by : (f : Option Instruction) → slice_get (part code s.running.place s.running.end) 0 ≡ f → NeedsNext f s
    by None k = returned_needs code most s.running s.waiting s.words_room s.calls_room (else_of code most s _ h)
    by (Some i) k =
        acted_needs code most i (onward s) s.running.words
        (subst (λ is. Holds is 0 (length s.running.words)) (part_first code s.running.place s.running.end i k) h.running.holds)
        (subst (λ is. length s.running.words + growth is ≤ most) (part_first code s.running.place s.running.end i k) h.running.grows)
        (else_of code most s _ h)
