-- Words and the board: a load changes nothing, and a store of one word writes one name.
use Rattle.std.proofs.Common.{◌≡◌, ◌≢◌, ℕ, ◌*◌, ◌/◌, ◌<◌, ◌≤◌, ◌==◌, ◌&&◌, Bool, true, false, if◌then◌else◌, List, length, set}
use Rattle.std.proofs.Common.{get_or, sym, refl, ap, subst, ◌∙◌, arith, mul-le-mul, length-set, get_or-set_other, get_or-set_same, eq-eqb}
use Rattle.std.proofs.lemmas.List.{set-get_or}
use Rattle.std.proofs.lemmas.Bool.Decides.{nat_tests}
use Rattle.st_events.specs.declared.limits.Sizes.{Sizes}
use Rattle.st_events.specs.Sizes.{AreWithinLimits}
use Rattle.st_layout.specs.declared.plans.Plan.{Plan}
use Rattle.st_layout.specs.Limits.{IsWithinLimits}
use Rattle.st_layout.specs.Names.{WordName, ClosingWord, ClockWord, EpochWord, AvailableWord, FlagWord, LaneWord, ClassWord, HeaderWord}
use Rattle.st_layout.specs.Names.{ForwardWord, FieldWord, CopyWord, FreeWord, RowWord, HasWord}
use Rattle.st_layout.specs.Layout.{word_of, words_of}
use Rattle.st_layout.proofs.Distinct.{words_distinct}
use Rattle.st_layout.proofs.Bounds.{words_below}
use Rattle.std.specs.Cmp.Derive.{both_true}
use Rattle.st_events.specs.declared.limits.TheConstants.{MOST_MUTATORS, MOST_EVENTS}
use Rattle.st_layout.specs.declared.limits.TheConstants.{MOST_ROWS}
use Rattle.st_rule.specs.Board.{Board, Displays, same_name, written, plan_of}

-- names of one kind with the same two numbers are the same
both : (kind : ℕ → ℕ → WordName) {a b c d : ℕ} → a ≡ b → c ≡ d → kind a c ≡ kind b d
both kind first second = cc

one : (a b : ℕ) → (a == b) ≡ true → a ≡ b
one a b e = grind (arith, nat_tests)

two : (a b c d : ℕ) → ((a == b) && (c == d)) ≡ true → (a ≡ b) × (c ≡ d)
two a b c d e = (grind (arith, nat_tests), grind (arith, nat_tests))

-- names that the test calls one are one
pub same_name_is_one : (a b : WordName) → same_name a b ≡ true → a ≡ b
same_name_is_one ClosingWord ClosingWord e = refl
same_name_is_one ClockWord ClockWord e = refl
same_name_is_one EpochWord EpochWord e = refl
same_name_is_one AvailableWord AvailableWord e = refl
same_name_is_one (FlagWord a) (FlagWord b) e = ap FlagWord (one a b e)
same_name_is_one (LaneWord a) (LaneWord b) e = ap LaneWord (one a b e)
same_name_is_one (ClassWord a) (ClassWord b) e = ap ClassWord (one a b e)
same_name_is_one (HeaderWord a) (HeaderWord b) e = ap HeaderWord (one a b e)
same_name_is_one (ForwardWord a c) (ForwardWord b d) e = let p = two a b c d e in both ForwardWord p.0 p.1
same_name_is_one (FieldWord a c) (FieldWord b d) e = let p = two a b c d e in both FieldWord p.0 p.1
same_name_is_one (CopyWord a c) (CopyWord b d) e = let p = two a b c d e in both CopyWord p.0 p.1
same_name_is_one (FreeWord a) (FreeWord b) e = ap FreeWord (one a b e)
same_name_is_one (RowWord a c) (RowWord b d) e = let p = two a b c d e in both RowWord p.0 p.1
same_name_is_one a b e = absurd cc

self : (a : ℕ) → (a == a) ≡ true
self a = eq-eqb a a refl

-- each name is one with itself
pub same_name_self : (a : WordName) → same_name a a ≡ true
same_name_self ClosingWord = refl
same_name_self ClockWord = refl
same_name_self EpochWord = refl
same_name_self AvailableWord = refl
same_name_self (FlagWord a) = self a
same_name_self (LaneWord a) = self a
same_name_self (ClassWord a) = self a
same_name_self (HeaderWord a) = self a
same_name_self (ForwardWord a c) = both_true (self a) (self c)
same_name_self (FieldWord a c) = both_true (self a) (self c)
same_name_self (CopyWord a c) = both_true (self a) (self c)
same_name_self (FreeWord a) = self a
same_name_self (RowWord a c) = both_true (self a) (self c)

false_is_no_true : false ≡ true → ⊥
false_is_no_true e = absurd cc

rows_fit : (mutators events : ℕ) → mutators ≤ MOST_MUTATORS → events ≤ MOST_EVENTS → mutators * (events / 2) ≤ MOST_ROWS
rows_fit mutators events m e = mul-le-mul m (let h : events / 2 ≤ 524288 = omega arith in h)

-- the plan of a run's sizes is within the limits
pub plan_fits : (sizes : Sizes) → AreWithinLimits sizes → IsWithinLimits (plan_of sizes)
plan_fits sizes fits = record {
  mutators = fits.mutators;
  lanes = fits.lanes;
  objects = fits.objects;
  copies = fits.copies;
  rows = rows_fit sizes.mutators sizes.events fits.mutators fits.events.1;
}

-- a load leaves the words as they are
pub load_displays : (plan : Plan) (words : List ℕ) (board : Board) (i : ℕ) → Displays plan words board → Displays plan (set words i (get_or words i 0)) board
load_displays plan words board i d = subst (λ ws. Displays plan ws board) (sym (set-get_or words i 0)) d

says_written :
    (plan : Plan) → IsWithinLimits plan → (words : List ℕ) (board : Board) (name : WordName) (value : ℕ)
    → HasWord plan name
    → Displays plan words board
    → (other : WordName) → HasWord plan other
    → (same : Bool) → same_name other name ≡ same
    → get_or (set words (word_of plan name) value) (word_of plan other) 0 ≡ (if same then value else board other)
says_written plan fits words board name value has d other has' true is =
    let e : other ≡ name = same_name_is_one other name is in
    let within : word_of plan name < length words = subst (λ n. word_of plan name < n) (sym d.count) (words_below plan fits name has) in
    ap (λ o. get_or (set words (word_of plan name) value) (word_of plan o) 0) e ∙ get_or-set_same words (word_of plan name) value 0 within
says_written plan fits words board name value has d other has' false is =
    let apart : word_of plan other ≢ word_of plan name = λ e. false_is_no_true (sym is ∙ ap (same_name other) (sym (words_distinct plan fits other name has' has e)) ∙ same_name_self other) in
    get_or-set_other words (word_of plan name) (word_of plan other) value 0 apart ∙ d.says other has'

-- a store of a word writes its name
pub store_displays :
    (plan : Plan) → IsWithinLimits plan → (words : List ℕ) (board : Board) (name : WordName) (value : ℕ)
    → HasWord plan name
    → Displays plan words board
    → Displays plan (set words (word_of plan name) value) (written name value board)
store_displays plan fits words board name value has d = record {
  count = length-set words (word_of plan name) value ∙ d.count;
  says = λ other has'. says_written plan fits words board name value has d other has' (same_name other name) refl;
}

-- a name's word is one of the table's
pub word_within :
    (sizes : Sizes) (plan : Plan) (name : WordName) (word count : ℕ)
    → AreWithinLimits sizes → plan ≡ plan_of sizes
    → HasWord (plan_of sizes) name
    → word ≡ word_of plan name
    → count ≡ words_of plan
    → word < count
word_within sizes plan name word count fits is_plan has is_word is_count =
    let below = words_below (plan_of sizes) (plan_fits sizes fits) name has in
    let w : word ≡ word_of (plan_of sizes) name = is_word ∙ ap (λ p. word_of p name) is_plan in
    let n : count ≡ words_of (plan_of sizes) = is_count ∙ ap words_of is_plan in
    subst (λ (p : ℕ × ℕ). p.0 < p.1) (λ k. (sym w k, sym n k)) below

-- a table has a word
pub some_word : (sizes : Sizes) (plan : Plan) (count : ℕ) → AreWithinLimits sizes → plan ≡ plan_of sizes → count ≡ words_of plan → 0 < count
unfolding word_of
some_word sizes plan count fits is_plan is_count = word_within sizes plan ClosingWord 0 count fits is_plan tt refl is_count
