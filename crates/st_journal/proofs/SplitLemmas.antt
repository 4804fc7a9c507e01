-- Laws of words and of the lines that they make: words without blanks are found again.
use Rattle.std.proofs.Common.{◌≡◌, ℕ, ◌^◌, ◌<◌, Bool, true, false, ltb, leb, eqb, List, [], ◌∷◌, ◌++◌, map, Some}
use Rattle.std.proofs.Common.{refl, ap, ◌∙◌, append_assoc, arith}
use Rattle.std.specs.Fmt.{decimal}
use Rattle.std.specs.List.{All, list_all, join_with_byte}
use Rattle.std.specs.Char.{is_ascii_digit}
use Rattle.std.specs.Str.{all_ascii_digits}
use Rattle.std.proofs.lemmas.Bool.{and_parts, and_from, ltb-true, leb-true, lt-ltb, ne_eqb}
use Rattle.std.proofs.lemmas.Fmt.{digits_decimal}
use Rattle.std.proofs.lemmas.List.Elements.{All-head, All-tail, All-cons, All-nil}
use Rattle.std.proofs.lemmas.List.Folds.{list_all-append}
use Rattle.std.proofs.lemmas.List.Splits.{slice_split_none, slice_split_at, join_with_byte-slice_split}
use Rattle.st_journal.specs.Format.{newline, line, numbered, IsWord}
use Rattle.st_journal.specs.Reading.{content}
use Rattle.st_journal.specs.Words.{cut, is_byte, words_in}
use Rattle.st_journal.proofs.LineLemmas.{some_parts}
use Rattle.st_journal.proofs.NumberLemmas.{decimals}

-- a byte above the blank, so neither a blank nor a newline
abbrev pub is_plain : ℕ → Bool
is_plain b = ltb 32 b

-- a byte above the newline
abbrev pub is_inner : ℕ → Bool
is_inner b = ltb 10 b

-- neither a blank nor a newline stands in this word
abbrev pub IsPlain : List ℕ → Type 0
IsPlain word = list_all is_plain word ≡ true

-- each byte of the text is above the newline, so the text is within one line
abbrev pub IsInner : List ℕ → Type 0
IsInner text = list_all is_inner text ≡ true

digit_is_plain : (b : ℕ) → is_ascii_digit b ≡ true → is_plain b ≡ true
digit_is_plain b e = let parts = and_parts (leb 48 b) (leb b 57) e in lt-ltb 32 b (omega (arith, leb-true 48 b parts.0))

-- digits are neither blanks nor newlines
pub digits_are_plain : (word : List ℕ) → all_ascii_digits word ≡ true → IsPlain word
digits_are_plain [] e = refl
digits_are_plain (b ∷ word) e =
    let parts = and_parts (is_ascii_digit b) (all_ascii_digits word) e in
    and_from (is_plain b) (list_all is_plain word) (digit_is_plain b parts.0) (digits_are_plain word parts.1)

-- the decimal text of a number has no blank and no newline in it
pub decimal_is_plain : (n : ℕ) → n < 2 ^ 64 → IsPlain (decimal n)
decimal_is_plain n fits = digits_are_plain (decimal n) (digits_decimal decimals n fits)

-- numbers after a tag
pub numbers_are_plain : (numbers : List ℕ) → All IsWord numbers → All IsPlain (map decimal numbers)
numbers_are_plain [] fit = All-nil IsPlain
numbers_are_plain (n ∷ numbers) fit =
    All-cons IsPlain (decimal n) (map decimal numbers) (decimal_is_plain n (All-head IsWord n numbers fit)) (numbers_are_plain numbers (All-tail IsWord n numbers fit))

-- the words of a line of numbers have no blank and no newline in them
pub numbered_are_plain : (tag : List ℕ) (numbers : List ℕ) → IsPlain tag → All IsWord numbers → All IsPlain (numbered tag numbers)
numbered_are_plain tag numbers plain fit = All-cons IsPlain tag (map decimal numbers) plain (numbers_are_plain numbers fit)

plain_has_no_blank : (word : List ℕ) → IsPlain word → All (λ b. is_byte 32 b ≡ false) word
plain_has_no_blank [] plain = All-nil (λ b. is_byte 32 b ≡ false)
plain_has_no_blank (b ∷ word) plain =
    let parts = and_parts (is_plain b) (list_all is_plain word) plain in
    All-cons (λ b. is_byte 32 b ≡ false) b word (ne_eqb b 32 (λ e. omega (arith, ltb-true 32 b parts.0, e))) (plain_has_no_blank word parts.1)

-- words that are joined are found again
pub words_are_found : (word : List ℕ) (words : List (List ℕ)) → All IsPlain (word ∷ words) → words_in (join_with_byte 32 (word ∷ words)) ≡ word ∷ words
words_are_found word [] plain = slice_split_none (is_byte 32) word (plain_has_no_blank word (All-head IsPlain word [] plain))
words_are_found word (next ∷ words) plain =
    slice_split_at (is_byte 32) word 32 (join_with_byte 32 (next ∷ words)) (plain_has_no_blank word (All-head IsPlain word (next ∷ words) plain)) refl
    ∙ ap (λ (rest : List (List ℕ)). word ∷ rest) (words_are_found next words (All-tail IsPlain word (next ∷ words) plain))

-- and what is found is joined to the same
pub found_words_join : (text : List ℕ) → join_with_byte 32 (words_in text) ≡ text
found_words_join text = join_with_byte-slice_split 32 text

plain_is_inner : (word : List ℕ) → IsPlain word → IsInner word
plain_is_inner [] plain = refl
plain_is_inner (b ∷ word) plain =
    let parts = and_parts (is_plain b) (list_all is_plain word) plain in
    and_from (is_inner b) (list_all is_inner word) (lt-ltb 10 b (omega (arith, ltb-true 32 b parts.0))) (plain_is_inner word parts.1)

joined_is_inner : (words : List (List ℕ)) → All IsPlain words → IsInner (join_with_byte 32 words)
joined_is_inner [] plain = refl
joined_is_inner (word ∷ []) plain = plain_is_inner word (All-head IsPlain word [] plain)
joined_is_inner (word ∷ next ∷ words) plain =
    list_all-append is_inner word (32 ∷ join_with_byte 32 (next ∷ words))
    ∙ and_from (list_all is_inner word) (list_all is_inner (32 ∷ join_with_byte 32 (next ∷ words))) (plain_is_inner word (All-head IsPlain word (next ∷ words) plain))
    (joined_is_inner (next ∷ words) (All-tail IsPlain word (next ∷ words) plain))

-- what stands before the first newline
pub inner_is_cut : (text more : List ℕ) → IsInner text → cut newline (text ++ newline ∷ more) ≡ some_parts text more
inner_is_cut [] more inner = refl
inner_is_cut (b ∷ text) more inner =
    let parts = and_parts (is_inner b) (list_all is_inner text) inner in
    let other : eqb b newline ≡ false = ne_eqb b newline (λ e. omega (arith, ltb-true 10 b parts.0, e)) in
    rw (other, inner_is_cut text more parts.1) refl

-- a line of plain words: its content, and the words of that
pub line_is_cut : (words : List (List ℕ)) (more : List ℕ) → All IsPlain words → cut newline (line words ++ more) ≡ some_parts (join_with_byte 32 words) more
line_is_cut words more plain =
    ap (cut newline) (append_assoc (join_with_byte 32 words) (newline ∷ []) more) ∙ inner_is_cut (join_with_byte 32 words) more (joined_is_inner words plain)

-- before the end of a line of such words stand the words, joined with blanks
pub content_of_line : (words : List (List ℕ)) → All IsPlain words → content (line words) ≡ Some (join_with_byte 32 words)
unfolding content
content_of_line words plain = rw (inner_is_cut (join_with_byte 32 words) [] (joined_is_inner words plain)) refl
