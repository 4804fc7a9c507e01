-- Reading a text, a piece at a time.
use Rattle.std.proofs.Common.{◌≡◌, ℕ, zero, suc, ◌+◌, ◌-◌, ◌<◌, ◌≤◌, List, [], ◌∷◌, ◌++◌}
use Rattle.std.proofs.Common.{length, drop, get_or, refl, ap, sym, ◌∙◌, subst, arith, append_assoc}
use Rattle.std.specs.Prelude.{Result, Ok, Err}
use Rattle.std.proofs.lemmas.List.{drop_more, drop_all, drop-drop}
use Rattle.st_lex.specs.Terms.{Token, Piece}
use Rattle.st_lex.specs.Terms.piece
use Rattle.st_lex.specs.Reading.{Stop, front_piece, token_at, with_first, reads_on, read_rest, read_tokens}
use Rattle.st_lex.proofs.PieceLemmas.{Means, front_means}

-- what is read from an offset on
unfoldable pub reading : List ℕ → ℕ → Result (List Token) Stop
reading text offset = read_rest text 0 offset (drop offset text)

-- from the start on the whole text is read
pub reading_all : (text : List ℕ) → reading text 0 ≡ read_tokens text
unfolding reading read_tokens
reading_all text = refl

-- from the end on there is nothing to read
pub reading_end : (text : List ℕ) (offset : ℕ) → length text ≤ offset → reading text offset ≡ Ok []
unfolding reading
reading_end text offset h = ap (read_rest text 0 offset) (drop_all offset text h)

rest_later : (text : List ℕ) (left offset : ℕ) (z : List ℕ)
    → read_rest text left offset z ≡ read_rest text 0 (offset + left) (drop left z)
rest_later text zero offset z = let e : offset ≡ offset + 0 = omega arith in ap (λ p. read_rest text 0 p z) e
rest_later text (suc left) offset [] = refl
rest_later text (suc left) offset (b ∷ z) =
    let e : offset + 1 + left ≡ offset + suc left = omega arith in
    rest_later text left (offset + 1) z ∙ ap (λ p. read_rest text 0 p (drop left z)) e

-- the rest after a piece is read from the offset after it
rest_after : (text : List ℕ) (offset len : ℕ) → 1 ≤ len
    → read_rest text (len - 1) (offset + 1) (drop (offset + 1) text) ≡ reading text (offset + len)
unfolding reading
rest_after text offset len some =
    let e : offset + 1 + (len - 1) ≡ offset + len = omega arith in
    rest_later text (len - 1) (offset + 1) (drop (offset + 1) text)
    ∙ ap (read_rest text 0 (offset + 1 + (len - 1))) (drop-drop (len - 1) (offset + 1) text)
    ∙ ap (λ p. read_rest text 0 p (drop p text)) e

same_on : (text : List ℕ) (offset : ℕ) (z : List ℕ) (p : Piece) (f g : ℕ → Result (List Token) Stop) → Means z p
    → ((len : ℕ) → 1 ≤ len → f len ≡ g len) → reads_on text offset p f ≡ reads_on text offset p g
unfolding Means
same_on text offset z piece.Newline f g means same = same 1 (omega arith)
same_on text offset z (piece.Gap len) f g means same = same len means.0.some
same_on text offset z (piece.Found kind len) f g means same = ap (with_first (token_at text offset kind len)) (same len means.0.some)
same_on text offset z (piece.Wrong fault) f g means same = refl

-- the piece at an offset means what it says of the rest of the text
pub piece_means : (text : List ℕ) (offset : ℕ) → offset < length text → Means (drop offset text) (front_piece (drop offset text))
piece_means text offset within =
    subst (λ z. Means z (front_piece z)) (sym (drop_more text offset 0 within)) (front_means (get_or text offset 0) (drop (offset + 1) text))

opened : (text : List ℕ) (offset b : ℕ) (z : List ℕ) → drop offset text ≡ b ∷ z
    → reading text offset ≡ reads_on text offset (front_piece (b ∷ z)) (λ len. read_rest text (len - 1) (offset + 1) z)
unfolding reading
opened text offset b z e = ap (read_rest text 0 offset) e

-- what is read from an offset on begins with the piece there
pub reading_step : (text : List ℕ) (offset : ℕ) → offset < length text
    → reading text offset ≡ reads_on text offset (front_piece (drop offset text)) (λ len. reading text (offset + len))
reading_step text offset within =
    let cells = drop_more text offset 0 within in
    opened text offset (get_or text offset 0) (drop (offset + 1) text) cells
    ∙ ap (λ z. reads_on text offset (front_piece z) (λ len. read_rest text (len - 1) (offset + 1) (drop (offset + 1) text))) (sym cells)
    ∙ same_on text offset (drop offset text) (front_piece (drop offset text))
    (λ len. read_rest text (len - 1) (offset + 1) (drop (offset + 1) text)) (λ len. reading text (offset + len))
    (piece_means text offset within) (rest_after text offset)

-- tokens before what is read
abbrev pub with_front : List Token → Result (List Token) Stop → Result (List Token) Stop
with_front front (Ok tokens) = Ok (front ++ tokens)
with_front front (Err stop) = Err stop

-- tokens so far and a token that is found are the tokens so far
pub with_front_one : (front : List Token) (token : Token) (read : Result (List Token) Stop)
    → with_front front (with_first token read) ≡ with_front (front ++ token ∷ []) read
with_front_one front token (Ok tokens) = ap Ok (sym (append_assoc front (token ∷ []) tokens))
with_front_one front token (Err stop) = refl

-- no tokens so far
pub with_front_none : (read : Result (List Token) Stop) → with_front [] read ≡ read
with_front_none (Ok tokens) = refl
with_front_none (Err stop) = refl
