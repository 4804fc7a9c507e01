-- A step brings an evaluation nearer to its end.
use Rattle.std.proofs.Common.{◌≡◌, ◌≢◌, ◌≤◌, ◌<◌, ℕ, suc, ◌+◌, ◌-◌, ◌*◌, ◌==◌, Bool, true, false, if◌then◌else◌}
use Rattle.std.proofs.Common.{List, [], ◌∷◌, length, drop, Option, Some, None, slice_get, refl, ◌∙◌, ap, subst, arith, neg_ℤ}
use Rattle.std.proofs.lemmas.List.{length-drop}
use Rattle.st_events.specs.declared.verdicts.Plain.TheVariants.{Null, Deep, Spent}
use Rattle.st_check_meaning.specs.declared.limits.TheConstants.{MOST_DEPTH}
use Rattle.st_check_meaning.specs.Courses.{Course, comes_to, ends_in, reads, uses_unit}
use Rattle.st_check_meaning.specs.Numbers.{is_true, number_of, number_or_overflow}
use Rattle.st_check_meaning.specs.Meaning.{operate}
use Rattle.st_eval.specs.declared.frames.Span.{Span}
use Rattle.st_eval.specs.declared.instructions.Instruction.{Instruction}
use Rattle.st_eval.specs.declared.instructions.Instruction.TheVariants.{Push, Local, Shared, Field, Not, Minus, Binary, Both, Either, Test, Skip, Call}
use Rattle.st_eval.specs.Activations.{Activation, Activations, top_word, pushed, popped, onward, past, entered, resumed}
use Rattle.st_eval.specs.Steps.{Step, goes_on, asks_for, ends, part, span_of, answered, called, acted, returned, stepped, step}
use Rattle.st_eval.specs.Weights.{weight}
use Rattle.st_eval.proofs.PartLemmas.{part_first, part_past, part_length}
use Rattle.st_eval.proofs.RestLemmas.{other_false}

-- where a step goes on, less is left
abbrev pub Falls : List Instruction → ℕ → Step → Type 0
Falls code bound (goes_on s units) = weight code s units < bound
Falls code bound (asks_for obj field s units) = Unit {0}
Falls code bound (ends plain s) = Unit {0}

-- past instructions no more is left
past_falls : (code : List Instruction) (s : Activations) (count units : ℕ) → weight code (past count s) units ≤ weight code s units
past_falls code s count units =
    let e : length (part code (past count s).running.place s.running.end) ≡ length (drop count (part code s.running.place s.running.end)) =
    ap length (part_past code s.running.place s.running.end count) in
    let d : length (drop count (part code s.running.place s.running.end)) ≡ length (part code s.running.place s.running.end) - count =
    length-drop count (part code s.running.place s.running.end) in
    omega arith

answered_falls :
    (code : List Instruction) (bound : ℕ) (c : Course ℕ) (s : Activations) (units : ℕ)
    → weight code s units < bound
    → Falls code bound (answered c s units)
answered_falls code bound (comes_to word) s units h = h
answered_falls code bound (ends_in plain) s units h = tt
answered_falls code bound (reads obj field next) s units h = tt
answered_falls code bound (uses_unit next) s units h = tt

one_more : (n k u : ℕ) → u ≡ suc n → u * k ≡ n * k + k
one_more n k u e = ap (λ x. x * k) e ∙ omega arith

-- a call uses a unit, which weighs more than any body
called_falls :
    (code : List Instruction) (spans : List Span) (pred args : ℕ) (s : Activations) (units : ℕ)
    → Falls code (suc (weight code s units)) (called spans pred args s units)
called_falls code spans pred args s units = by (length s.waiting == MOST_DEPTH) (units == 0) refl
  where
    begun : length (part code (span_of spans pred).start (span_of spans pred).end) ≤ length code
    begun = part_length code (span_of spans pred).start (span_of spans pred).end

    by : (b d : Bool) → (units == 0) ≡ d
        → Falls code (suc (weight code s units)) (if b then ends Deep s else (if d then ends Spent s else goes_on (entered (span_of spans pred) args s) (units - 1)))
    by true d k = tt
    by false true k = tt
    by false false k =
        let n : units ≢ 0 = other_false units 0 k in
        let l : length (part code (span_of spans pred).start (span_of spans pred).end) ≤ length code = begun in
        let m : units * (length code + 2) ≡ (units - 1) * (length code + 2) + (length code + 2) = one_more (units - 1) (length code + 2) units (omega arith) in
        omega arith

-- an instruction
acted_falls :
    (code : List Instruction) (spans : List Span) (i : Instruction) (s : Activations) (units : ℕ)
    → Falls code (suc (weight code s units)) (acted spans i s units)
acted_falls code spans (Push word) s units = omega arith
acted_falls code spans (Local local) s units = omega arith
acted_falls code spans (Shared field) s units = tt
acted_falls code spans (Field field at) s units = by (top_word s == 0)
  where
    by : (b : Bool) → Falls code (suc (weight code s units)) (if b then ends (Null at) (popped s) else asks_for (top_word s) field (popped s) units)
    by true = tt
    by false = tt
acted_falls code spans Not s units = omega arith
acted_falls code spans (Minus at) s units =
    answered_falls code (suc (weight code s units)) (number_or_overflow (neg_ℤ (number_of (top_word s))) at) (popped s) units (omega arith)
acted_falls code spans (Binary operator at) s units =
    answered_falls code (suc (weight code s units)) (operate operator (top_word (popped s)) (top_word s) at) (popped (popped s)) units (omega arith)
acted_falls code spans (Both count) s units = by (is_true (top_word s))
  where
    by : (b : Bool) → Falls code (suc (weight code s units)) (if b then goes_on (popped s) units else goes_on (past count (pushed 0 (popped s))) units)
    by true = omega arith
    by false = let h : weight code (past count (pushed 0 (popped s))) units ≤ weight code (pushed 0 (popped s)) units = past_falls code (pushed 0 (popped s)) count units in omega arith
acted_falls code spans (Either count) s units = by (is_true (top_word s))
  where
    by : (b : Bool) → Falls code (suc (weight code s units)) (if b then goes_on (past count (pushed 1 (popped s))) units else goes_on (popped s) units)
    by true = let h : weight code (past count (pushed 1 (popped s))) units ≤ weight code (pushed 1 (popped s)) units = past_falls code (pushed 1 (popped s)) count units in omega arith
    by false = omega arith
acted_falls code spans (Test count) s units = by (is_true (top_word s))
  where
    by : (b : Bool) → Falls code (suc (weight code s units)) (if b then goes_on (popped s) units else goes_on (past count (popped s)) units)
    by true = omega arith
    by false = let h : weight code (past count (popped s)) units ≤ weight code (popped s) units = past_falls code (popped s) count units in omega arith
acted_falls code spans (Skip count) s units =
    let h : weight code (past count s) units ≤ weight code s units = past_falls code s count units in omega arith
acted_falls code spans (Call pred args) s units = called_falls code spans pred args s units

-- the end of a body
returned_falls :
    (code : List Instruction) (running : Activation) (waiting : List Activation) (a b units : ℕ)
    → Falls code (weight code (record { running = running; waiting = waiting; words_room = a; calls_room = b }) units)
    (returned (resumed (record { running = running; waiting = waiting; words_room = a; calls_room = b }))
    (record { running = running; waiting = waiting; words_room = a; calls_room = b }) units)
returned_falls code running [] a b units = tt
returned_falls code running (caller ∷ waiting) a b units = omega arith

-- a step
pub step_falls :
    (code : List Instruction) (spans : List Span) (s : Activations) (units : ℕ)
    → Falls code (weight code s units) (step code spans s units)
step_falls code spans s units = by (slice_get (part code s.running.place s.running.end) 0) refl
  where
    by : (o : Option Instruction) → slice_get (part code s.running.place s.running.end) 0 ≡ o → Falls code (weight code s units) (stepped spans o s units)
    by None k = returned_falls code s.running s.waiting s.words_room s.calls_room units
    by (Some i) k =
        subst (λ n. Falls code n (acted spans i (onward s) units))
        (let e : length (part code s.running.place s.running.end) ≡ suc (length (part code (s.running.place + 1) s.running.end)) =
        ap length (part_first code s.running.place s.running.end i k) in
        let w : suc (weight code (onward s) units) ≡ weight code s units = omega arith in w)
        (acted_falls code spans i (onward s) units)
