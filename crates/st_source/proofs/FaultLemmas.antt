-- A text has at most one place at which no token stands, and none where it has tokens.
use Rattle.std.proofs.Common.{◌≡◌, ℕ, List, refl, ap, sym, ◌∙◌}
use Rattle.st_events.specs.declared.events.Site.{Site}
use Rattle.st_lex.specs.declared.errors.Fault.{Fault}
use Rattle.st_lex.specs.declared.errors.Fault.TheVariants as fault
use Rattle.st_lex.specs.declared.kinds.Token.{Token}
use Rattle.st_lex.specs.Errors.{StopsAt, error_at}
use Rattle.st_lex.specs.Places.{place_at}
use Rattle.st_lex.specs.Tokens.{IsTokensOf}
use Rattle.st_lex.proofs.Exact as lexed
use Rattle.st_source.specs.Refused.{HasLexFault}
use Rattle.st_source.specs.Terms.{LexError}
use Rattle.st_source.specs.Terms.lex

-- a fault of the lexer is one, and excludes every list of tokens
one_stop : (text : List ℕ) (f g : Fault) (a b : Site) → StopsAt text f a → StopsAt text g b → error_at f a ≡ error_at g b
one_stop text f g a b h k =
    let same = lexed.one_stop text h.offset k.offset f g h.first k.first in
    let places : a ≡ b = h.place ∙ ap (place_at text) same.0 ∙ sym k.place in
    ap (λ x. error_at x a) same.1 ∙ ap (error_at g) places

-- a text has at most one place at which no token stands, and one fault there
pub one_lex_fault : (text : List ℕ) (a b : LexError) → HasLexFault text a → HasLexFault text b → a ≡ b
one_lex_fault text lex.Memory b h k = absurd h
one_lex_fault text (lex.BadByte a) lex.Memory h k = absurd k
one_lex_fault text (lex.BadByte a) (lex.BadByte b) h k = one_stop text fault.BadByte fault.BadByte a b h k
one_lex_fault text (lex.BadByte a) (lex.LongNumber b) h k = one_stop text fault.BadByte fault.LongNumber a b h k
one_lex_fault text (lex.LongNumber a) lex.Memory h k = absurd k
one_lex_fault text (lex.LongNumber a) (lex.BadByte b) h k = one_stop text fault.LongNumber fault.BadByte a b h k
one_lex_fault text (lex.LongNumber a) (lex.LongNumber b) h k = one_stop text fault.LongNumber fault.LongNumber a b h k

-- a text that has such a place has no tokens
pub no_tokens : (text : List ℕ) (tokens : List Token) (why : LexError) → HasLexFault text why → IsTokensOf text tokens → ⊥
no_tokens text tokens lex.Memory h k = h
no_tokens text tokens (lex.BadByte at) h k = lexed.not_both text tokens h.offset fault.BadByte k h.first
no_tokens text tokens (lex.LongNumber at) h k = lexed.not_both text tokens h.offset fault.LongNumber k h.first
