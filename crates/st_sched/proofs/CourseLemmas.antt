-- What a check does from one read to the next
use Rattle.std.proofs.Common.{◌≡◌, ℕ, zero, suc, ◌+◌, ◌<◌, ◌^◌, List, [], ◌∷◌, Some, None, drop, slice_get, refl, sym, ◌∙◌, ap, arith}
use Rattle.st_events.specs.declared.limits.Sizes.{Sizes}
use Rattle.st_events.specs.declared.verdicts.Verdict.TheVariants.{Plain as Value, Abandoned}
use Rattle.st_events.specs.Terms.{Heap, Launched}
use Rattle.st_resolved.specs.Terms.{Program}
use Rattle.st_check_meaning.specs.Plain.{Cell as CellRead, Followed, after_reading, word_found, followed, check_course, cells_read, plain_value}
use Rattle.st_check_meaning.specs.Turns.{Turn, turn_of, followed_from}
use Rattle.st_check_meaning.proofs.TurnLemmas.{following_is_by_turns}
use Rattle.st_thread_meaning.specs.Right.{words_of}
use Rattle.st_eval.specs.declared.evals.Eval.{Eval}
use Rattle.st_eval.specs.Evaluations.{AsksFor, turn_by}
use Rattle.st_run_meaning.specs.States.{has_read}
use Rattle.st_run_meaning.specs.Agents.{cells_of}
use Rattle.st_sched.specs.declared.checks.Awaits.{Awaits}
use Rattle.st_sched.specs.declared.checks.Awaits.TheVariants.{Cell, Retire}
use Rattle.st_sched.specs.Checks.{AwaitsTurn}
use Rattle.st_sched.specs.Standing.{left_of, whole_of, without_first, HasCome}

-- each of the cells is of an object with a number of 32 bits
abbrev pub AreSmall : List CellRead → Type 0
AreSmall cells = (k : ℕ) (cell : CellRead) → slice_get cells k ≡ Some cell → cell.obj < 2 ^ 32

-- what a turn that asks does is left to do
turn_is_left :
    (p : Program) (past : Heap) (turn : Turn) (obj field : ℕ) (e : Eval)
    → AsksFor p turn obj field e
    → AreSmall (followed_from past turn).cells
    → followed_from past turn ≡ left_of p past obj field e
turn_is_left p past turn obj field e a small =
    let w = word_found past a.object field in
    let one : followed_from past turn ≡ after_reading a.object field (followed past (a.next w) a.units) = ap (followed_from past) a.asks_it in
    let two : followed past (a.next w) a.units ≡ followed_from past (turn_by p e w) =
    following_is_by_turns past (a.next w) a.units ∙ ap (followed_from past) (sym (a.goes_on w)) in
    let first : slice_get (followed_from past turn).cells 0 ≡ Some (record { obj = a.object; field = field }) = ap (λ (f : Followed). slice_get f.cells 0) one in
    let same : obj ≡ a.object = a.number (small 0 (record { obj = a.object; field = field }) first) in
    one ∙ ap (after_reading a.object field) two ∙ ap (λ (o : ℕ). left_of p past o field e) (sym same)

-- an element of what is left after the first ones
get_of_rest : {X : Type 0} (xs : List X) (k j : ℕ) → slice_get (drop k xs) j ≡ slice_get xs (k + j)
get_of_rest xs zero j = let same : j ≡ 0 + j = omega arith in ap (slice_get xs) same
get_of_rest [] (suc k) j = refl
get_of_rest (x ∷ xs) (suc k) j = let same : suc (k + j) ≡ suc k + j = omega arith in get_of_rest xs k j ∙ ap (slice_get (x ∷ xs)) same

-- where nothing is left there is no next one
none_is_next : {X : Type 0} (xs : List X) (k : ℕ) → drop k xs ≡ [] → slice_get xs k ≡ None
none_is_next [] k e = refl
none_is_next (x ∷ xs) zero e = absurd (cc)
none_is_next (x ∷ xs) (suc k) e = none_is_next xs k e

-- the first of what is left is the next one, and the others are left after it
pub first_of_rest : {X : Type 0} (xs : List X) (k : ℕ) (x : X) (rest : List X) → x ∷ rest ≡ drop k xs → (slice_get xs k ≡ Some x) × (rest ≡ drop (suc k) xs)
first_of_rest [] zero x rest e = absurd (cc)
first_of_rest [] (suc k) x rest e = absurd (cc)
first_of_rest (y ∷ ys) zero x rest e = (cc, cc)
first_of_rest (y ∷ ys) (suc k) x rest e = first_of_rest ys k x rest e

-- a check that goes on as a turn does, which is what comes after its first k reads, has come so far
pub turn_has_come :
    (p : Program) (sizes : Sizes) (launch : Launched) (turn : Turn) (awaits : Awaits) (e : Eval) (k : ℕ)
    → AwaitsTurn p turn awaits e
    → followed_from launch.past turn ≡ without_first k (whole_of p sizes launch)
    → AreSmall (cells_of p sizes (Some launch))
    → HasCome p sizes launch e awaits (has_read k)
turn_has_come p sizes launch turn (Cell obj field) e k a same small =
    sym (turn_is_left p launch.past turn obj field e a (λ j cell h.
    small (k + j) cell (sym (get_of_rest (cells_of p sizes (Some launch)) k j) ∙ ap (λ (f : Followed). slice_get f.cells j) (sym same) ∙ h))) ∙ same
turn_has_come p sizes launch turn (Retire (Value plain)) e k a same small =
    let over : followed_from launch.past turn ≡ record { cells = []; value = plain } = ap (followed_from launch.past) a in
    let empty : drop k (cells_of p sizes (Some launch)) ≡ [] = ap (λ (f : Followed). f.cells) (sym same ∙ over) in
    let value : (whole_of p sizes launch).value ≡ plain = ap (λ (f : Followed). f.value) (sym same ∙ over) in
    (none_is_next (cells_of p sizes (Some launch)) k empty, ap Value (sym value))
turn_has_come p sizes launch turn (Retire (Abandoned obj)) e k a same small = absurd a

-- the first turn of a check is its whole evaluation
pub first_turn_is_whole :
    (p : Program) (sizes : Sizes) (launch : Launched)
    → followed_from launch.past (turn_of (check_course p launch.site (words_of launch.args)) sizes.calls) ≡ without_first 0 (whole_of p sizes launch)
unfolding cells_read plain_value
first_turn_is_whole p sizes launch = sym (following_is_by_turns launch.past (check_course p launch.site (words_of launch.args)) sizes.calls)

-- a check that waits for a cell after its first k reads: it is the next cell, and by the word found there the check goes on as after one read more
pub record AwaitsNext (p : Program) (sizes : Sizes) (launch : Launched) (obj field : ℕ) (e : Eval) (k : ℕ) : Type 0 where
  pub cell : slice_get (cells_of p sizes (Some launch)) k ≡ Some (record { obj = obj; field = field })
  pub onward : followed_from launch.past (turn_by p e (word_found launch.past obj field)) ≡ without_first (suc k) (whole_of p sizes launch)

-- a check that waits for a cell, and before which it read k, has this cell as the next of all that it reads, and goes on from the one after
pub next_of_come :
    (p : Program) (sizes : Sizes) (launch : Launched) (obj field : ℕ) (e : Eval) (k : ℕ)
    → left_of p launch.past obj field e ≡ without_first k (whole_of p sizes launch)
    → AwaitsNext p sizes launch obj field e k
next_of_come p sizes launch obj field e k come =
    let f = followed_from launch.past (turn_by p e (word_found launch.past obj field)) in
    let cells : record { obj = obj; field = field } ∷ f.cells ≡ drop k (cells_of p sizes (Some launch)) = ap (λ (g : Followed). g.cells) come in
    let value : f.value ≡ (whole_of p sizes launch).value = ap (λ (g : Followed). g.value) come in
    let parts = first_of_rest (cells_of p sizes (Some launch)) k (record { obj = obj; field = field }) f.cells cells in
    record { cell = parts.0; onward = λ i. record { cells = parts.1 i; value = value i } }
