-- The place after a newline, and after bytes of one line.
use Rattle.std.proofs.Common.{◌≡◌, ℕ, zero, suc, ◌+◌, ◌-◌, ◌<◌, ◌≤◌, true, false, List, ◌∷◌, length, take, drop, get_or, refl, ap, ◌∙◌, arith}
use Rattle.std.specs.List.{suffix_len, after_last, list_all}
use Rattle.std.proofs.lemmas.Bool.{and_parts, not-true}
use Rattle.std.proofs.lemmas.List.{length-drop, drop_more}
use Rattle.std.proofs.lemmas.List.Sums.{suffix_len-le-length, suffix_len-take_yes, suffix_len-take_no, count_by_more_yes, count_by_more_no}
use Rattle.st_lex.specs.Bytes.{is_newline, is_comment_byte}
use Rattle.st_lex.specs.Places.{line_at, column_at, place_at}

length_of_after_last : (xs : List ℕ) → length (after_last is_newline xs) ≡ suffix_len is_comment_byte xs
length_of_after_last xs = omega (arith, length-drop (length xs - suffix_len is_comment_byte xs) xs, suffix_len-le-length is_comment_byte xs)

-- a text begins at line 1, column 1
pub place_at_start : (text : List ℕ) → place_at text 0 ≡ record { line = 1; column = 1 }
unfolding line_at column_at
place_at_start text = refl

column_is : (text : List ℕ) (offset : ℕ) → column_at text offset ≡ 1 + suffix_len is_comment_byte (take offset text)
unfolding column_at
column_is text offset = ap (λ n. 1 + n) (length_of_after_last (take offset text))

last_back : (text : List ℕ) (offset : ℕ)
    → suffix_len is_comment_byte (take (offset + 1 - 1) text) ≡ suffix_len is_comment_byte (take offset text)
last_back text offset = let e : offset + 1 - 1 ≡ offset = omega arith in ap (λ n. suffix_len is_comment_byte (take n text)) e

at_back : (text : List ℕ) (offset : ℕ) → get_or text (offset + 1 - 1) 0 ≡ get_or text offset 0
at_back text offset = let e : offset + 1 - 1 ≡ offset = omega arith in ap (λ n. get_or text n 0) e

-- the newline ends its line
pub newline_ends_its_line : (text : List ℕ) (offset : ℕ) → offset < length text → is_newline (get_or text offset 0) ≡ true
    → line_at text (offset + 1) ≡ line_at text offset + 1
unfolding line_at
newline_ends_its_line text offset within newline = omega (arith, count_by_more_yes is_newline text offset 0 within newline)

-- after a newline comes column 1
pub newline_starts_a_column : (text : List ℕ) (offset : ℕ) → offset < length text → is_newline (get_or text offset 0) ≡ true
    → column_at text (offset + 1) ≡ 1
newline_starts_a_column text offset within newline =
    let ends : is_comment_byte (get_or text (offset + 1 - 1) 0) ≡ false = rw (at_back text offset, newline) refl in
    omega (arith, column_is text (offset + 1), suffix_len-take_no is_comment_byte text (offset + 1) 0 (omega arith) (omega arith) ends)

-- any other byte is one column
line_flat : (text : List ℕ) (offset : ℕ) → offset < length text → is_comment_byte (get_or text offset 0) ≡ true
    → line_at text (offset + 1) ≡ line_at text offset
unfolding line_at
line_flat text offset within flat = omega (arith, count_by_more_no is_newline text offset 0 within (not-true (is_newline (get_or text offset 0)) flat))

column_flat : (text : List ℕ) (offset : ℕ) → offset < length text → is_comment_byte (get_or text offset 0) ≡ true
    → column_at text (offset + 1) ≡ column_at text offset + 1
column_flat text offset within flat =
    let goes : is_comment_byte (get_or text (offset + 1 - 1) 0) ≡ true = rw (at_back text offset) flat in
    omega (
      arith,
      column_is text (offset + 1),
      column_is text offset,
      last_back text offset,
      suffix_len-take_yes is_comment_byte text (offset + 1) 0 (omega arith) (omega arith) goes,
    )

abbrev Moves : List ℕ → ℕ → ℕ → Type 0
Moves text offset len = (line_at text (offset + len) ≡ line_at text offset) × (column_at text (offset + len) ≡ column_at text offset + len)

-- bytes of one line are so many columns
pub place_flat : (text : List ℕ) (offset len : ℕ) → offset + len ≤ length text
    → list_all is_comment_byte (take len (drop offset text)) ≡ true → Moves text offset len
place_flat text offset zero within flat =
    let e : offset + 0 ≡ offset = omega arith in
    (ap (line_at text) e, ap (column_at text) e ∙ (omega arith))
place_flat text offset (suc len) within flat =
    let here : offset < length text = omega arith in
    let cells = drop_more text offset 0 here in
    let flat' : list_all is_comment_byte (take (suc len) (get_or text offset 0 ∷ drop (offset + 1) text)) ≡ true = rw cells at flat in
    let parts = and_parts (is_comment_byte (get_or text offset 0)) (list_all is_comment_byte (take len (drop (offset + 1) text))) flat' in
    let rest : Moves text (offset + 1) len = place_flat text (offset + 1) len (omega arith) parts.1 in
    let e : offset + suc len ≡ offset + 1 + len = omega arith in (
      ap (line_at text) e ∙ rest.0 ∙ line_flat text offset here parts.0,
      ap (column_at text) e ∙ rest.1 ∙ (let one = column_flat text offset here parts.0 in omega arith),
    )
