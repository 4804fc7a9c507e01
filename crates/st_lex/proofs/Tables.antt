-- The marks, against the classes of bytes.
use Rattle.std.proofs.Common.{◌≡◌, ℕ, Bool, true, false, not, ◌&&◌, ◌||◌, List, [], ◌∷◌, refl}
use Rattle.std.specs.Prelude.{◌==◌, nat_eq, slice_index}
use Rattle.std.specs.List.{list_all, list_any}
use Rattle.std.specs.Str.{bytes_eq}
use Rattle.std.proofs.lemmas.Bool.{true≢false, and_parts, not-true, eqb-true}
use Rattle.st_lex.specs.declared.words.TheConstants.{SINGLE_MARKS, DOUBLE_MARKS}
use Rattle.st_lex.specs.Bytes.{is_newline, is_blank, is_letter, is_digit}
use Rattle.st_lex.specs.Spellings.{is_single_mark, is_double_mark}
use Rattle.st_lex.proofs.Runs.{false_where_not_true}

-- a byte that passes a test is none of a list of bytes that all fail it
not_among : (p : ℕ → Bool) (xs : List ℕ) → list_all (λ m. not (p m)) xs ≡ true → (b : ℕ) → p b ≡ true
    → list_any (λ m. m == b) xs ≡ false
not_among p [] fail b pass = refl
not_among p (x ∷ xs) fail b pass =
    let parts = and_parts (not (p x)) (list_all (λ m. not (p m)) xs) fail in
    let differs : (x == b) ≡ false = false_where_not_true (x == b) (λ e.
    let same = eqb-true x b e in absurd (true≢false (rw (← pass) (rw (← same) (not-true (p x) parts.0))))) in
    rw (differs, not_among p xs parts.1 b pass) refl

-- the same of pairs of bytes, by the first of each
not_first : (p : ℕ → Bool) (xs : List (List ℕ)) → list_all (λ m. not (p (slice_index m 0))) xs ≡ true → (a b : ℕ) → p a ≡ true
    → list_any (λ m. bytes_eq m (a ∷ b ∷ [])) xs ≡ false
not_first p [] fail a b pass = refl
not_first p ([] ∷ xs) fail a b pass = not_first p xs (and_parts (not (p 0)) (list_all (λ m. not (p (slice_index m 0))) xs) fail).1 a b pass
not_first p ((x ∷ m) ∷ xs) fail a b pass =
    let parts = and_parts (not (p x)) (list_all (λ m. not (p (slice_index m 0))) xs) fail in
    let differs : nat_eq x a ≡ false = false_where_not_true (nat_eq x a) (λ e.
    let same = eqb-true x a e in absurd (true≢false (rw (← pass) (rw (← same) (not-true (p x) parts.0))))) in
    rw (differs, not_first p xs parts.1 a b pass) refl

-- the bytes of tokens that are no marks, and blanks
abbrev pub is_other : ℕ → Bool
is_other b = is_letter b || is_digit b || is_blank b

-- the first byte of another token is no mark of one byte
pub single_no : (b : ℕ) → is_other b ≡ true → is_single_mark b ≡ false
unfolding is_single_mark
single_no = not_among is_other SINGLE_MARKS refl

-- the first byte of another token begins no mark of two bytes
pub double_no : (a b : ℕ) → is_other a ≡ true → is_double_mark a b ≡ false
unfolding is_double_mark
double_no = not_first is_other DOUBLE_MARKS refl

and_no : (b : Bool) → (b && false) ≡ false
and_no true = refl
and_no false = refl

-- the same of pairs of bytes, by the second of each
not_second : (p : ℕ → Bool) (xs : List (List ℕ)) → list_all (λ m. not (p (slice_index m 1))) xs ≡ true → (a b : ℕ) → p b ≡ true
    → list_any (λ m. bytes_eq m (a ∷ b ∷ [])) xs ≡ false
not_second p [] fail a b pass = refl
not_second p ([] ∷ xs) fail a b pass = not_second p xs (and_parts (not (p 0)) (list_all (λ m. not (p (slice_index m 1))) xs) fail).1 a b pass
not_second p ((x ∷ []) ∷ xs) fail a b pass =
    rw (and_no (nat_eq x a), not_second p xs (and_parts (not (p 0)) (list_all (λ m. not (p (slice_index m 1))) xs) fail).1 a b pass) refl
not_second p ((x ∷ y ∷ m) ∷ xs) fail a b pass =
    let parts = and_parts (not (p y)) (list_all (λ m. not (p (slice_index m 1))) xs) fail in
    let differs : nat_eq y b ≡ false = false_where_not_true (nat_eq y b) (λ e.
    let same = eqb-true y b e in absurd (true≢false (rw (← pass) (rw (← same) (not-true (p y) parts.0))))) in
    rw (differs, and_no (nat_eq x a), not_second p xs parts.1 a b pass) refl

-- a newline ends no mark of two bytes
pub second_no : (a b : ℕ) → is_newline b ≡ true → is_double_mark a b ≡ false
unfolding is_double_mark
second_no = not_second is_newline DOUBLE_MARKS refl
