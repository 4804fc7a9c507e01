-- The first words, one entry of the free list after another.
use Rattle.std.proofs.Common.{◌≡◌, ◌≢◌, ℕ, zero, suc, ◌+◌, ◌<◌, ◌==◌, nat_lt, Bool, true, false, if◌then◌else◌, List, get_or}
use Rattle.std.proofs.Common.{set, sym, refl, ap, subst, ◌∙◌, arith, eq-eqb, ne_eqb}
use Rattle.std.specs.Prelude.{replicate}
use Rattle.std.proofs.lemmas.Bool.Decides.{nat_tests}
use Rattle.std.proofs.lemmas.List.{length-replicate}
use mathlib.Core.Logic.{dite}
use native.Mathlib.Decide.{ℕ_discrete}
use Rattle.st_layout.specs.declared.plans.Plan.{Plan}
use Rattle.st_layout.specs.Limits.{IsWithinLimits}
use Rattle.st_layout.specs.Names.{WordName, ClosingWord, ClockWord, EpochWord, AvailableWord}
use Rattle.st_layout.specs.Names.{FreeWord, HasWord}
use Rattle.st_layout.specs.Layout.{word_of, words_of}
use Rattle.st_rule.specs.Board.{Board, Displays, written, first_board}
use Rattle.st_rule.proofs.BoardLemmas.{store_displays}

-- the first board, with the first `count` entries of the free list
abbrev pub board_up_to : Plan → ℕ → Board
board_up_to plan count AvailableWord = plan.copies
board_up_to plan count (FreeWord index) = if nat_lt index count then index else 0
board_up_to plan count name = 0

-- boards that say the same are displayed by the same words
pub displays_same : (plan : Plan) (words : List ℕ) (b b' : Board) → ((name : WordName) → HasWord plan name → b name ≡ b' name) → Displays plan words b → Displays plan words b'
displays_same plan words b b' same d = record { count = d.count; says = λ name has. d.says name has ∙ same name has }

less_is : (i n : ℕ) → i < n → nat_lt i n ≡ true
less_is i n h = grind (arith, nat_tests)

if_all : (b : Bool) (i : ℕ) → b ≡ true → (if b then i else 0) ≡ i
if_all true i e = refl
if_all false i e = absurd cc

-- no entry is below 0
if_none : (index : ℕ) → zero ≡ (if nat_lt index 0 then index else 0)
if_none index = grind (arith, nat_tests)

zeros : (n i : ℕ) → get_or (replicate n zero) i zero ≡ zero
zeros zero i = refl
zeros (suc n) zero = refl
zeros (suc n) (suc i) = zeros n i

-- before the first entry
first_same : (plan : Plan) (name : WordName) → HasWord plan name → written AvailableWord plan.copies (λ _. 0) name ≡ board_up_to plan 0 name
first_same plan ClosingWord has = refl
first_same plan ClockWord has = refl
first_same plan EpochWord has = refl
first_same plan AvailableWord has = refl
first_same plan (FreeWord index) has = if_none index
first_same plan name has = refl

-- a table of zeros in which the available word alone is written has the free list's length, and of the list nothing yet
pub none_written :
    (plan : Plan) → IsWithinLimits plan → (count : ℕ) → count ≡ words_of plan → (word : ℕ) → word ≡ word_of plan AvailableWord
    → Displays plan (set (replicate count 0) word plan.copies) (board_up_to plan 0)
none_written plan fits count is_count word is_word =
    let d : Displays plan (replicate count 0) (λ _. 0) = record { count = length-replicate count 0 ∙ is_count; says = λ name has. zeros count (word_of plan name) } in
    subst (λ i. Displays plan (set (replicate count 0) i plan.copies) (board_up_to plan 0)) (sym is_word)
    (displays_same plan (set (replicate count 0) (word_of plan AvailableWord) plan.copies) (written AvailableWord plan.copies (λ _. 0)) (board_up_to plan 0) (first_same plan)
    (store_displays plan fits (replicate count 0) (λ _. 0) AvailableWord plan.copies tt d))

-- one entry more
tests_same : (index count : ℕ) → index ≢ count → (if nat_lt index count then index else 0) ≡ (if nat_lt index (count + 1) then index else 0)
tests_same index count apart = ap (λ b. if b then index else 0) (let same : nat_lt index count ≡ nat_lt index (count + 1) = grind (arith, nat_tests, apart) in same)

entry_same : (index count : ℕ) → (if index == count then count else (if nat_lt index count then index else 0)) ≡ (if nat_lt index (count + 1) then index else 0)
entry_same index count = dite (ℕ_discrete index count)
    (λ same. rw (eq-eqb index count same, less_is index (count + 1) (omega (arith, same))) (sym same))
    (λ apart. rw (ne_eqb index count apart) (tests_same index count apart))

next_same : (plan : Plan) (count : ℕ) (name : WordName) → HasWord plan name → written (FreeWord count) count (board_up_to plan count) name ≡ board_up_to plan (count + 1) name
next_same plan count (FreeWord index) has = entry_same index count
next_same plan count name has = refl

-- with one index of the free list more, the words say one index more of it
pub one_written :
    (plan : Plan) → IsWithinLimits plan → (words : List ℕ) (index : ℕ) → index < plan.copies → (word : ℕ) → word ≡ word_of plan (FreeWord index)
    → Displays plan words (board_up_to plan index)
    → Displays plan (set words word index) (board_up_to plan (index + 1))
one_written plan fits words index within word is_word d =
    subst (λ i. Displays plan (set words i index) (board_up_to plan (index + 1))) (sym is_word)
    (displays_same plan (set words (word_of plan (FreeWord index)) index) (written (FreeWord index) index (board_up_to plan index)) (board_up_to plan (index + 1)) (next_same plan index)
    (store_displays plan fits words (board_up_to plan index) (FreeWord index) index within d))

-- all entries
last_same : (plan : Plan) (name : WordName) → HasWord plan name → board_up_to plan plan.copies name ≡ first_board plan name
last_same plan (FreeWord index) has = if_all (nat_lt index plan.copies) index (less_is index plan.copies has)
last_same plan ClosingWord has = refl
last_same plan name has = refl

-- with every index written the words are those of the start
pub all_written : (plan : Plan) (words : List ℕ) → Displays plan words (board_up_to plan plan.copies) → Displays plan words (first_board plan)
all_written plan words d = displays_same plan words (board_up_to plan plan.copies) (first_board plan) (last_same plan) d
