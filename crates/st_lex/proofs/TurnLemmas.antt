-- One turn of the lexer: the piece at the cursor, what is read after it, and the place after it.
use Rattle.std.proofs.Common.{◌++◌, ◌∷◌, ◌≡◌, ℕ, ◌+◌, ◌-◌, ◌<◌, ◌≤◌, true, List, []}
use Rattle.std.proofs.Common.{append-nil, length, take, drop, get_or, refl, ap, sym, ◌∙◌, subst, arith}
use Rattle.std.specs.Prelude.{Result, Ok, Err, slice_index}
use Rattle.std.proofs.lemmas.List.{length-drop, take_rest}
use Rattle.st_lex.specs.Terms.{Site, Token, TokenKind, Fault, Piece}
use Rattle.st_lex.specs.Terms.fault
use Rattle.st_lex.specs.Terms.piece
use Rattle.st_lex.specs.declared.cursors.Cursor.{Cursor}
use Rattle.st_lex.specs.Bytes.{is_newline}
use Rattle.st_lex.specs.Places.{line_at, column_at, place_at}
use Rattle.st_lex.specs.Reading.{Stop, TellsStop, front_piece, token_at, with_first, reads_on, read_tokens}
use Rattle.st_lex.specs.Errors.{error_at}
use Rattle.st_lex.proofs.PieceLemmas.{Means, Stands}
use Rattle.st_lex.proofs.GapLemmas.{first_at}
use Rattle.st_lex.proofs.ReadLemmas.{reading, reading_all, reading_end, reading_step, piece_means, with_front, with_front_none, with_front_one}
use Rattle.st_lex.proofs.PlaceLemmas.{place_at_start, newline_ends_its_line, newline_starts_a_column, place_flat}

step_to : (text : List ℕ) (offset : ℕ) (p : Piece) → offset < length text → front_piece (drop offset text) ≡ p
    → reading text offset ≡ reads_on text offset p (λ len. reading text (offset + len))
step_to text offset p inside e = reading_step text offset inside ∙ ap (λ q. reads_on text offset q (λ len. reading text (offset + len))) e

means_to : (text : List ℕ) (offset : ℕ) (p : Piece) → offset < length text → front_piece (drop offset text) ≡ p
    → Means (drop offset text) p
means_to text offset p inside e = subst (Means (drop offset text)) e (piece_means text offset inside)

-- past a newline: what is read, and the next line
pub record NewlineTurn (text : List ℕ) (offset : ℕ) : Type 0 where
  pub read : reading text offset ≡ reading text (offset + 1)
  pub line : line_at text (offset + 1) ≡ line_at text offset + 1
  pub column : column_at text (offset + 1) ≡ 1

-- a turn past a newline
pub newline_turn : (text : List ℕ) (offset : ℕ) → offset < length text → front_piece (drop offset text) ≡ piece.Newline
    → NewlineTurn text offset
unfolding Means
newline_turn text offset inside e =
    let means : is_newline (slice_index (drop offset text) 0) ≡ true = means_to text offset piece.Newline inside e in
    let ends : is_newline (get_or text offset 0) ≡ true = subst (λ b. is_newline b ≡ true) (first_at text offset) means in
    record {
      read = step_to text offset piece.Newline inside e;
      line = newline_ends_its_line text offset inside ends;
      column = newline_starts_a_column text offset inside ends;
    }

-- bytes of one line
pub record FlatTurn (text : List ℕ) (offset len : ℕ) : Type 0 where
  pub some : 1 ≤ len
  pub within : offset + len ≤ length text
  pub line : line_at text (offset + len) ≡ line_at text offset
  pub column : column_at text (offset + len) ≡ column_at text offset + len

flat_turn : (text : List ℕ) (offset len : ℕ) → offset < length text → Stands (drop offset text) len → FlatTurn text offset len
flat_turn text offset len inside stands =
    let size = stands.within in
    let within : offset + len ≤ length text = omega (arith, length-drop offset text) in
    let moves = place_flat text offset len within stands.flat in
    record { some = stands.some; within = within; line = moves.0; column = moves.1 }

-- a turn past a blank or a comment
pub gap_turn : (text : List ℕ) (offset len : ℕ) → offset < length text → front_piece (drop offset text) ≡ piece.Gap len
    → FlatTurn text offset len
unfolding Means
gap_turn text offset len inside e = flat_turn text offset len inside (means_to text offset (piece.Gap len) inside e).0

-- blanks and comments add nothing to what is read
pub gap_read : (text : List ℕ) (offset len : ℕ) → offset < length text → front_piece (drop offset text) ≡ piece.Gap len
    → reading text offset ≡ reading text (offset + len)
gap_read text offset len inside e = step_to text offset (piece.Gap len) inside e

-- a turn past a token
pub found_turn : (text : List ℕ) (offset : ℕ) (kind : TokenKind) (len : ℕ) → offset < length text
    → front_piece (drop offset text) ≡ piece.Found kind len → FlatTurn text offset len
unfolding Means
found_turn text offset kind len inside e = flat_turn text offset len inside (means_to text offset (piece.Found kind len) inside e).0

-- a token that is found comes first in what is read from its offset on
pub found_read : (text : List ℕ) (offset : ℕ) (kind : TokenKind) (len : ℕ) → offset < length text
    → front_piece (drop offset text) ≡ piece.Found kind len
    → reading text offset ≡ with_first (token_at text offset kind len) (reading text (offset + len))
found_read text offset kind len inside e = step_to text offset (piece.Found kind len) inside e

-- a fault ends what is read
pub wrong_read : (text : List ℕ) (offset : ℕ) (f : Fault) → offset < length text → front_piece (drop offset text) ≡ piece.Wrong f
    → reading text offset ≡ Err (record { offset = offset; fault = f })
wrong_read text offset f inside e = step_to text offset (piece.Wrong f) inside e

-- ---- the loop

-- the tokens so far and those of the rest are the tokens of the text, and the cursor has its place
pub record IsAt (text : List ℕ) (tokens : List Token) (cursor : Cursor) : Type 0 where
  pub whole : with_front tokens (reading text cursor.offset) ≡ read_tokens text
  pub within : cursor.offset ≤ length text
  pub line_is : cursor.place.line ≡ line_at text cursor.offset
  pub column_is : cursor.place.column ≡ column_at text cursor.offset
  pub line : cursor.place.line ≤ cursor.offset + 1
  pub column : cursor.place.column ≤ cursor.offset + 1

-- the cursor at an offset, a line and a column
abbrev pub cursor_at : ℕ → ℕ → ℕ → Cursor
cursor_at offset line column = record { offset = offset; place = record { line = line; column = column } }

-- the loop begins with no tokens, at the start
pub at_start : (text : List ℕ) → IsAt text [] (cursor_at 0 1 1)
at_start text = record {
  whole = with_front_none (reading text 0) ∙ reading_all text;
  within = omega arith;
  line_is = ap (λ (s : Site). s.line) (sym (place_at_start text));
  column_is = ap (λ (s : Site). s.column) (sym (place_at_start text));
  line = omega arith;
  column = omega arith;
}

-- the piece that the code sees
front_is : (text : List ℕ) (offset : ℕ) (p : Piece) → p ≡ front_piece (take (length text - offset) (drop offset text))
    → front_piece (drop offset text) ≡ p
front_is text offset p seen = sym (seen ∙ ap front_piece (take_rest text offset))

abbrev Sees : List ℕ → Cursor → Piece → Type 0
Sees text cursor p = p ≡ front_piece (take (length text - cursor.offset) (drop cursor.offset text))

-- a turn past a newline keeps what the loop knows
pub at_newline : (text : List ℕ) (tokens : List Token) (cursor : Cursor) → IsAt text tokens cursor → cursor.offset < length text
    → Sees text cursor piece.Newline → IsAt text tokens (cursor_at (cursor.offset + 1) (cursor.place.line + 1) 1)
at_newline text tokens cursor at inside seen =
    let turn = newline_turn text cursor.offset inside (front_is text cursor.offset piece.Newline seen) in
    let line = at.line in let line_is = at.line_is in let turned = turn.line in let column = turn.column in
    record {
      whole = ap (with_front tokens) (sym turn.read) ∙ at.whole;
      within = omega arith;
      line_is = omega arith;
      column_is = omega arith;
      line = omega arith;
      column = omega arith;
    }

flat_at : (text : List ℕ) (before after : List Token) (cursor : Cursor) (len : ℕ) → IsAt text before cursor
    → FlatTurn text cursor.offset len
    → with_front after (reading text (cursor.offset + len)) ≡ with_front before (reading text cursor.offset)
    → IsAt text after (cursor_at (cursor.offset + len) cursor.place.line (cursor.place.column + len))
flat_at text before after cursor len at turn read =
    let line = at.line in let line_is = at.line_is in let column = at.column in let column_is = at.column_is in
    let turned = turn.line in let moved = turn.column in let some = turn.some in
    record {
      whole = read ∙ at.whole;
      within = turn.within;
      line_is = omega arith;
      column_is = omega arith;
      line = omega arith;
      column = omega arith;
    }

-- a turn past a blank or a comment keeps it
pub at_gap : (text : List ℕ) (tokens : List Token) (cursor : Cursor) (len : ℕ) → IsAt text tokens cursor
    → cursor.offset < length text → Sees text cursor (piece.Gap len)
    → IsAt text tokens (cursor_at (cursor.offset + len) cursor.place.line (cursor.place.column + len))
at_gap text tokens cursor len at inside seen =
    let e = front_is text cursor.offset (piece.Gap len) seen in
    flat_at text tokens tokens cursor len at (gap_turn text cursor.offset len inside e)
    (ap (with_front tokens) (sym (gap_read text cursor.offset len inside e)))

-- the token of the cursor
abbrev pub cursor_token : Cursor → TokenKind → ℕ → Token
cursor_token cursor kind len = record { kind = kind; start = cursor.offset; end = cursor.offset + len; site = cursor.place }

-- the cursor's place is that of its offset
place_is : (text : List ℕ) (tokens : List Token) (cursor : Cursor) → IsAt text tokens cursor
    → cursor.place ≡ place_at text cursor.offset
place_is text tokens cursor at =
    ap (λ (l : ℕ). record { line = l; column = cursor.place.column }) at.line_is
    ∙ ap (λ (k : ℕ). record { line = line_at text cursor.offset; column = k }) at.column_is

token_same : (text : List ℕ) (tokens : List Token) (cursor : Cursor) (kind : TokenKind) (len : ℕ) → IsAt text tokens cursor
    → cursor_token cursor kind len ≡ token_at text cursor.offset kind len
token_same text tokens cursor kind len at =
    ap (λ (p : Site). record { kind = kind; start = cursor.offset; end = cursor.offset + len; site = p }) (place_is text tokens cursor at)

-- a turn past a token keeps it, with the token appended
pub at_found : (text : List ℕ) (tokens : List Token) (cursor : Cursor) (kind : TokenKind) (len : ℕ) → IsAt text tokens cursor
    → cursor.offset < length text → Sees text cursor (piece.Found kind len)
    → IsAt text (tokens ++ cursor_token cursor kind len ∷ []) (cursor_at (cursor.offset + len) cursor.place.line (cursor.place.column + len))
at_found text tokens cursor kind len at inside seen =
    let e = front_is text cursor.offset (piece.Found kind len) seen in
    let token = cursor_token cursor kind len in
    let read = reading text (cursor.offset + len) in
    flat_at text tokens (tokens ++ token ∷ []) cursor len at (found_turn text cursor.offset kind len inside e)
    (sym (with_front_one tokens token read)
    ∙ ap (λ (t : Token). with_front tokens (with_first t read)) (token_same text tokens cursor kind len at)
    ∙ ap (with_front tokens) (sym (found_read text cursor.offset kind len inside e)))

-- where the code's piece ends
pub gap_fits : (text : List ℕ) (offset len : ℕ) → offset < length text
    → piece.Gap len ≡ front_piece (take (length text - offset) (drop offset text)) → FlatTurn text offset len
gap_fits text offset len inside seen = gap_turn text offset len inside (front_is text offset (piece.Gap len) seen)

-- where the code's token ends
pub found_fits : (text : List ℕ) (offset : ℕ) (kind : TokenKind) (len : ℕ) → offset < length text
    → piece.Found kind len ≡ front_piece (take (length text - offset) (drop offset text)) → FlatTurn text offset len
found_fits text offset kind len inside seen = found_turn text offset kind len inside (front_is text offset (piece.Found kind len) seen)

-- the answers

-- at the end of the text the tokens are all
pub at_end : (text : List ℕ) (tokens : List Token) (cursor : Cursor) → IsAt text tokens cursor → length text ≤ cursor.offset
    → read_tokens text ≡ Ok tokens
at_end text tokens cursor at beyond = sym at.whole ∙ ap (with_front tokens) (reading_end text cursor.offset beyond) ∙ ap Ok (append-nil tokens)

tells : (text : List ℕ) (offset : ℕ) (f : Fault) (read : Result (List Token) Stop)
    → read ≡ Err (record { offset = offset; fault = f }) → TellsStop text (error_at f (place_at text offset)) read
tells text offset fault.BadByte read e = (offset, e, refl)
tells text offset fault.LongNumber read e = (offset, e, refl)

-- at a fault the error tells it, at its place
pub at_wrong : (text : List ℕ) (tokens : List Token) (cursor : Cursor) (f : Fault) → IsAt text tokens cursor
    → cursor.offset < length text → Sees text cursor (piece.Wrong f) → TellsStop text (error_at f cursor.place) (read_tokens text)
at_wrong text tokens cursor f at inside seen =
    let place = place_is text tokens cursor at in
    subst (λ (s : Site). TellsStop text (error_at f s) (read_tokens text)) (sym place)
    (tells text cursor.offset f (read_tokens text)
    (sym at.whole ∙ ap (with_front tokens) (wrong_read text cursor.offset f inside (front_is text cursor.offset (piece.Wrong f) seen))))
