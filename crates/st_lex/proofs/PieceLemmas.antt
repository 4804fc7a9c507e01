-- What the piece at the front of a text means, in the words of the definition of tokens.
use Rattle.std.proofs.Common.{◌≡◌, ℕ, zero, suc, ◌<◌, ◌≤◌, Bool, true, false, not, ◌⊎◌, inl, inr, List, [], ◌∷◌, length, take, refl, arith, pos}
use Rattle.std.specs.Prelude.{nat_le, slice_index, if◌then◌else◌}
use Rattle.std.specs.List.{prefix_len, list_all}
use Rattle.std.proofs.Math.Numerals.{one-add}
use Rattle.std.proofs.lemmas.Bool.{true≢false, and_parts, and_from, leb-true, leb-false}
use Rattle.std.proofs.lemmas.Bool.Decides.{nat_tests}
use Rattle.std.proofs.lemmas.List.Sums.{prefix_len-le-length}
use Rattle.std.proofs.lemmas.List.Folds.{length-prefix_len}
use Rattle.st_lex.specs.Terms.{TokenKind, Fault, Piece, LARGEST_NUMBER}
use Rattle.st_lex.specs.Terms.fault
use Rattle.st_lex.specs.Terms.kind
use Rattle.st_lex.specs.Terms.piece
use Rattle.st_lex.specs.Bytes.{is_newline, is_blank, is_letter, is_digit, is_name_byte, is_comment_byte, opens_comment}
use Rattle.st_lex.specs.Spellings.{is_name, is_keyword, is_number, decimal, is_single_mark, is_double_mark, is_mark, is_spelling, HasForm}
use Rattle.st_lex.specs.Reading.{front_piece, token_piece, word_piece, number_piece, mark_piece}
use Rattle.st_lex.proofs.Runs.{chosen, false_where_not_true, run_passes, run_longest, all_weaker}
use Rattle.st_lex.proofs.Tables.{is_other, single_no, double_no, second_no}

-- ---- spellings by their first byte

no_name : (b : ℕ) (z : List ℕ) (n : ℕ) → is_letter b ≡ false → is_name (take n (b ∷ z)) ≡ false
no_name b z zero h = refl
no_name b z (suc n) h = rw h refl

no_number : (b : ℕ) (z : List ℕ) (n : ℕ) → is_digit b ≡ false → is_number (take n (b ∷ z)) ≡ false
no_number b z zero h = refl
no_number b z (suc n) h = rw h refl

no_mark : (b : ℕ) (z : List ℕ) (n : ℕ) → is_other b ≡ true → is_mark (take n (b ∷ z)) ≡ false
no_mark b z zero h = refl
no_mark b z (suc zero) h = single_no b h
no_mark b [] (suc (suc n)) h = single_no b h
no_mark b (c ∷ z) (suc (suc zero)) h = double_no b c h
no_mark b (c ∷ []) (suc (suc (suc n))) h = double_no b c h
no_mark b (c ∷ d ∷ z) (suc (suc (suc n))) h = refl

no_spelling : (bytes : List ℕ) → is_name bytes ≡ false → is_number bytes ≡ false → is_mark bytes ≡ false
    → is_spelling bytes ≡ false
unfolding is_spelling
no_spelling bytes a b c = rw (a, b, c) refl

-- letters, digits and blanks are apart, and none ends a line but the newline
pub letter_apart : (b : ℕ) → is_letter b ≡ true → (is_digit b ≡ false) × (is_blank b ≡ false)
letter_apart b h = (grind (arith, nat_tests), grind (arith, nat_tests))

digit_apart : (b : ℕ) → is_digit b ≡ true → (is_letter b ≡ false) × (is_blank b ≡ false)
digit_apart b h = (grind (arith, nat_tests), grind (arith, nat_tests))

name_flat : (b : ℕ) → is_name_byte b ≡ true → is_comment_byte b ≡ true
name_flat b h = grind (arith, nat_tests)

digit_flat : (b : ℕ) → is_digit b ≡ true → is_comment_byte b ≡ true
digit_flat b h = grind (arith, nat_tests)

-- a letter stands in no mark
pub letter_other : (b : ℕ) → is_letter b ≡ true → is_other b ≡ true
letter_other b h = rw h refl

-- a digit stands in no mark
pub digit_other : (b : ℕ) → is_digit b ≡ true → is_other b ≡ true
digit_other b h = rw ((digit_apart b h).0, h) refl

-- a blank stands in no mark
pub blank_other : (b : ℕ) → is_blank b ≡ true → is_other b ≡ true
blank_other b h = grind (arith, nat_tests)

-- ---- what a piece means

-- no more bytes from the front are spelled as a token
abbrev pub NoLonger : List ℕ → ℕ → Type 0
NoLonger z len = (more : ℕ) → len < more → more ≤ length z → is_spelling (take more z) ≡ false

-- so many bytes of one line stand at the front
pub record Stands (z : List ℕ) (len : ℕ) : Type 0 where
  pub some : 1 ≤ len
  pub within : len ≤ length z
  pub flat : list_all is_comment_byte (take len z) ≡ true

-- a blank, or a whole comment
abbrev pub GapForm : List ℕ → ℕ → Type 0
GapForm z len = ((len ≡ 1) × (is_blank (slice_index z 0) ≡ true)) ⊎ ((len ≡ prefix_len is_comment_byte z) × (opens_comment z ≡ true))

-- so many bytes at the front are a token of the kind, and no more are spelled as one
pub record TokenForm (z : List ℕ) (kind : TokenKind) (len : ℕ) : Type 0 where
  pub form : HasForm kind (take len z)
  pub longest : NoLonger z len

-- a number above the largest stands at the front
pub record LongForm (z : List ℕ) : Type 0 where
  pub len : ℕ
  pub some : 1 ≤ len
  pub within : len ≤ length z
  pub digits : is_number (take len z) ≡ true
  pub longest : NoLonger z len
  pub above : LARGEST_NUMBER < decimal (take len z)

-- no blank and no comment
pub record Solid (z : List ℕ) : Type 0 where
  pub no_blank : is_blank (slice_index z 0) ≡ false
  pub no_comment : opens_comment z ≡ false

-- no token stands at the front, for this fault
abbrev pub WrongForm : List ℕ → Fault → Type 0
WrongForm z fault.BadByte = NoLonger z 0
WrongForm z fault.LongNumber = LongForm z

-- what a piece says of the front of a text
unfoldable pub Means : List ℕ → Piece → Type 0
Means z piece.Newline = is_newline (slice_index z 0) ≡ true
Means z (piece.Gap len) = Stands z len × GapForm z len
Means z (piece.Found kind len) = Stands z len × TokenForm z kind len × Solid z
Means z (piece.Wrong fault) = WrongForm z fault × Solid z

-- ---- words

run_some : (p : ℕ → Bool) (b : ℕ) (z : List ℕ) → p b ≡ true → 1 ≤ prefix_len p (b ∷ z)
run_some p b z h = rw h (omega arith)

run_stands : (p : ℕ → Bool) → ((x : ℕ) → p x ≡ true → is_comment_byte x ≡ true) → (b : ℕ) (z : List ℕ) → p b ≡ true
    → Stands (b ∷ z) (prefix_len p (b ∷ z))
run_stands p flat b z h = record {
  some = run_some p b z h;
  within = prefix_len-le-length p (b ∷ z);
  flat = all_weaker p is_comment_byte flat (take (prefix_len p (b ∷ z)) (b ∷ z)) (run_passes p (b ∷ z));
}

-- a run is spelled by its test, and a longer slice is not
run_first : (p : ℕ → Bool) (b : ℕ) (z : List ℕ) → p b ≡ true
    → (n : ℕ) × (prefix_len p (b ∷ z) ≡ suc n) × (list_all p (take n z) ≡ true)
run_first p b z h =
    let e : prefix_len p (b ∷ z) ≡ suc (prefix_len p z) = rw h (one-add (prefix_len p z)) in
    (prefix_len p z, e, run_passes p z)

letter_continues : (b : ℕ) → is_letter b ≡ true → is_name_byte b ≡ true
letter_continues b h = rw h refl

name_spelled : (b : ℕ) (z : List ℕ) → is_letter b ≡ true → is_name (take (prefix_len is_name_byte (b ∷ z)) (b ∷ z)) ≡ true
name_spelled b z h =
    let run = run_first is_name_byte b z (letter_continues b h) in
    rw run.1 (and_from (is_letter b) (list_all is_name_byte (take run.0 z)) h run.2)

name_longest : (b : ℕ) (z : List ℕ) → is_letter b ≡ true → NoLonger (b ∷ z) (prefix_len is_name_byte (b ∷ z))
name_longest b z h zero longer within = absurd (omega arith)
name_longest b z h (suc more) longer within =
    let no_run : is_name (b ∷ take more z) ≡ false = false_where_not_true (is_name (b ∷ take more z)) (λ named.
    let parts = and_parts (is_letter b) (list_all is_name_byte (take more z)) named in
    let passes = and_from (is_name_byte b) (list_all is_name_byte (take more z)) (letter_continues b h) parts.1 in
    let bound : suc more ≤ prefix_len is_name_byte (b ∷ z) = run_longest is_name_byte (b ∷ z) (suc more) within passes in
    omega arith) in
    no_spelling (b ∷ take more z) no_run (no_number b z (suc more) (letter_apart b h).0) (no_mark b z (suc more) (letter_other b h))

word_means : (b : ℕ) (z : List ℕ) → Solid (b ∷ z) → is_letter b ≡ true
    → Means (b ∷ z) (word_piece (take (prefix_len is_name_byte (b ∷ z)) (b ∷ z)))
unfolding Means
word_means b z solid h =
    let run = prefix_len is_name_byte (b ∷ z) in
    let bytes = take run (b ∷ z) in
    let len : length bytes ≡ run = length-prefix_len is_name_byte (b ∷ z) in
    let named = name_spelled b z h in
    rw len (
      run_stands is_name_byte name_flat b z (letter_continues b h),
      record {
        form = chosen (λ k. HasForm k bytes) (is_keyword bytes) kind.Key kind.Word (λ e. (named, e)) (λ e. (named, e));
        longest = name_longest b z h;
      },
      solid,
    )

-- ---- numbers

number_spelled : (b : ℕ) (z : List ℕ) → is_digit b ≡ true → is_number (take (prefix_len is_digit (b ∷ z)) (b ∷ z)) ≡ true
number_spelled b z h =
    let run = run_first is_digit b z h in
    rw run.1 (and_from (is_digit b) (list_all is_digit (take run.0 z)) h run.2)

number_longest : (b : ℕ) (z : List ℕ) → is_digit b ≡ true → NoLonger (b ∷ z) (prefix_len is_digit (b ∷ z))
number_longest b z h zero longer within = absurd (omega arith)
number_longest b z h (suc more) longer within =
    let no_run : is_number (b ∷ take more z) ≡ false = false_where_not_true (is_number (b ∷ take more z)) (λ passes.
    let bound : suc more ≤ prefix_len is_digit (b ∷ z) = run_longest is_digit (b ∷ z) (suc more) within passes in
    omega arith) in
    no_spelling (b ∷ take more z) (no_name b z (suc more) (digit_apart b h).0) no_run (no_mark b z (suc more) (digit_other b h))

number_means : (b : ℕ) (z : List ℕ) → Solid (b ∷ z) → is_digit b ≡ true
    → Means (b ∷ z) (number_piece (take (prefix_len is_digit (b ∷ z)) (b ∷ z)))
unfolding Means
number_means b z solid h =
    let run = prefix_len is_digit (b ∷ z) in
    let digits = take run (b ∷ z) in
    let len : length digits ≡ run = length-prefix_len is_digit (b ∷ z) in
    let spelled = number_spelled b z h in
    let stands = run_stands is_digit digit_flat b z h in
    rw len (chosen (Means (b ∷ z)) (nat_le (decimal digits) LARGEST_NUMBER) (piece.Found (kind.Number (pos (decimal digits))) run)
    (piece.Wrong fault.LongNumber)
    (λ e. (stands, record { form = (spelled, refl, leb-true (decimal digits) LARGEST_NUMBER e); longest = number_longest b z h }, solid))
    (λ e. (
      record {
        len = run;
        some = stands.some;
        within = stands.within;
        digits = spelled;
        longest = number_longest b z h;
        above = leb-false (decimal digits) LARGEST_NUMBER e;
      },
      solid,
    )))

-- ---- marks

-- a byte that no name and no number begins with
abbrev pub IsMarkLike : ℕ → Type 0
IsMarkLike b = (is_letter b ≡ false) × (is_digit b ≡ false)

mark_longest : (b : ℕ) (z : List ℕ) (n : ℕ) → is_letter b ≡ false → is_digit b ≡ false → is_mark (take n (b ∷ z)) ≡ false
    → is_spelling (take n (b ∷ z)) ≡ false
mark_longest b z n letter digit mark = no_spelling (take n (b ∷ z)) (no_name b z n letter) (no_number b z n digit) mark

-- no mark is longer than two bytes
no_long_mark : (b : ℕ) (z : List ℕ) (n : ℕ) → 2 < n → n ≤ length (b ∷ z) → is_mark (take n (b ∷ z)) ≡ false
no_long_mark b z zero more within = absurd (omega arith)
no_long_mark b z (suc zero) more within = absurd (omega arith)
no_long_mark b z (suc (suc zero)) more within = absurd (omega arith)
no_long_mark b [] (suc (suc (suc n))) more within = absurd (omega arith)
no_long_mark b (c ∷ []) (suc (suc (suc n))) more within = absurd (omega arith)
no_long_mark b (c ∷ d ∷ z) (suc (suc (suc n))) more within = refl

no_two : (b c : ℕ) (z : List ℕ) (n : ℕ) → is_double_mark b c ≡ false → 1 < n → n ≤ length (b ∷ c ∷ z)
    → is_mark (take n (b ∷ c ∷ z)) ≡ false
no_two b c z zero pair more within = absurd (omega arith)
no_two b c z (suc zero) pair more within = absurd (omega arith)
no_two b c z (suc (suc zero)) pair more within = pair
no_two b c z (suc (suc (suc n))) pair more within = no_long_mark b (c ∷ z) (suc (suc (suc n))) (omega arith) within

none_at_all : (b : ℕ) (z : List ℕ) (n : ℕ) → is_single_mark b ≡ false
    → ((m : ℕ) → 1 < m → m ≤ length (b ∷ z) → is_mark (take m (b ∷ z)) ≡ false) → n ≤ length (b ∷ z)
    → is_mark (take n (b ∷ z)) ≡ false
none_at_all b z zero single longer within = refl
none_at_all b z (suc zero) single longer within = single
none_at_all b z (suc (suc n)) single longer within = longer (suc (suc n)) (omega arith) within

-- a newline is a blank
pub newline_blank : (b : ℕ) → is_newline b ≡ true → is_blank b ≡ true
newline_blank b h = grind (arith, nat_tests)

single_flat : (b : ℕ) → is_single_mark b ≡ true → is_comment_byte b ≡ true
single_flat b h = elim (is_newline b) as (λ t. is_newline b ≡ t → not t ≡ true) [
  | true ↦ λ e. absurd (true≢false (rw (← h) (single_no b (blank_other b (newline_blank b e)))))
  | false ↦ λ e. refl
] refl

comment_byte : (b : ℕ) → (is_newline b ≡ true → ⊥) → is_comment_byte b ≡ true
comment_byte b h = rw (false_where_not_true (is_newline b) h) refl

double_flat : (a b : ℕ) → is_double_mark a b ≡ true → (is_comment_byte a ≡ true) × (is_comment_byte b ≡ true)
double_flat a b h = (
  comment_byte a (λ e. true≢false (rw (← h) (double_no a b (blank_other a (newline_blank a e))))),
  comment_byte b (λ e. true≢false (rw (← h) (second_no a b e))),
)

one_stands : (b : ℕ) (z : List ℕ) → is_comment_byte b ≡ true → Stands (b ∷ z) 1
one_stands b z h = record { some = omega arith; within = omega arith; flat = rw h refl }

single_means : (b : ℕ) (z : List ℕ) → Solid (b ∷ z) → IsMarkLike b
    → ((m : ℕ) → 1 < m → m ≤ length (b ∷ z) → is_mark (take m (b ∷ z)) ≡ false)
    → Means (b ∷ z) (if is_single_mark b then piece.Found kind.Mark 1 else piece.Wrong fault.BadByte)
unfolding Means
single_means b z solid like longer = chosen (Means (b ∷ z)) (is_single_mark b) (piece.Found kind.Mark 1) (piece.Wrong fault.BadByte)
    (λ e. (one_stands b z (single_flat b e), record { form = e; longest = λ m more within. mark_longest b z m like.0 like.1 (longer m more within) }, solid))
    (λ e. (λ m more within. mark_longest b z m like.0 like.1 (none_at_all b z m e longer within), solid))

mark_means : (b : ℕ) (z : List ℕ) → Solid (b ∷ z) → IsMarkLike b → Means (b ∷ z) (mark_piece (b ∷ z))
unfolding Means
mark_means b [] solid like = single_means b [] solid like (λ m more within. absurd (omega arith))
mark_means b (c ∷ z) solid like = chosen (Means (b ∷ c ∷ z)) (is_double_mark b c) (piece.Found kind.Mark 2)
    (if is_single_mark b then piece.Found kind.Mark 1 else piece.Wrong fault.BadByte)
    (λ e. let flat = double_flat b c e in (
      record { some = omega arith; within = omega arith; flat = rw (flat.0, flat.1) refl },
      record { form = e; longest = λ m more within. mark_longest b (c ∷ z) m like.0 like.1 (no_long_mark b (c ∷ z) m more within) },
      solid,
    ))
    (λ e. single_means b (c ∷ z) solid like (λ m more within. no_two b c z m e more within))

-- ---- blanks and comments

comment_stands : (b : ℕ) (z : List ℕ) → is_newline b ≡ false → Stands (b ∷ z) (prefix_len is_comment_byte (b ∷ z))
comment_stands b z h = run_stands is_comment_byte (λ x e. e) b z (rw h refl)

token_means : (b : ℕ) (z : List ℕ) → Solid (b ∷ z) → Means (b ∷ z) (token_piece (b ∷ z))
unfolding token_piece
token_means b z solid =
    chosen (Means (b ∷ z)) (is_letter b) (word_piece (take (prefix_len is_name_byte (b ∷ z)) (b ∷ z)))
    (if is_digit b then number_piece (take (prefix_len is_digit (b ∷ z)) (b ∷ z)) else mark_piece (b ∷ z))
    (λ letter. word_means b z solid letter)
    (λ no_letter. chosen (Means (b ∷ z)) (is_digit b) (number_piece (take (prefix_len is_digit (b ∷ z)) (b ∷ z))) (mark_piece (b ∷ z))
    (λ digit. number_means b z solid digit)
    (λ no_digit. mark_means b z solid (no_letter, no_digit)))

-- the piece at the front of a text that is not empty means what it says
pub front_means : (b : ℕ) (z : List ℕ) → Means (b ∷ z) (front_piece (b ∷ z))
unfolding front_piece Means
front_means b z =
    chosen (Means (b ∷ z)) (is_newline b) piece.Newline
    (if is_blank b then piece.Gap 1 else (if opens_comment (b ∷ z) then piece.Gap (prefix_len is_comment_byte (b ∷ z)) else token_piece (b ∷ z)))
    (λ newline. newline)
    (λ no_newline. chosen (Means (b ∷ z)) (is_blank b) (piece.Gap 1)
    (if opens_comment (b ∷ z) then piece.Gap (prefix_len is_comment_byte (b ∷ z)) else token_piece (b ∷ z))
    (λ blank. (one_stands b z (rw no_newline refl), inl (refl, blank)))
    (λ no_blank. chosen (Means (b ∷ z)) (opens_comment (b ∷ z)) (piece.Gap (prefix_len is_comment_byte (b ∷ z))) (token_piece (b ∷ z))
    (λ opens. (comment_stands b z no_newline, inr (refl, opens)))
    (λ closed. token_means b z (record { no_blank = no_blank; no_comment = closed }))))
