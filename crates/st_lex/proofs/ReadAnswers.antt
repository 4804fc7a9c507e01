-- What the call answers, in the words of the definition of tokens.
use Rattle.std.proofs.Common.{ℕ, List, subst}
use Rattle.std.specs.Prelude.{Result, Ok, Err, IfOk, IsErrOf}
use Rattle.st_lex.specs.Terms.{Site, Token, LexError}
use Rattle.st_lex.specs.Terms.error
use Rattle.st_lex.specs.Terms.fault
use Rattle.st_lex.specs.Errors.{StopsAt}
use Rattle.st_lex.specs.Reading.{GivesRead, read_tokens}
use Rattle.st_lex.specs.Tokens.{IsTokensOf}
use Rattle.st_lex.proofs.Exact.{read_is_tokens, read_is_fault}

pub list_is : {X : Type 0} (view : X → List Token) (text : List ℕ) (result : Result X LexError)
    → GivesRead view text result (read_tokens text) → IfOk result (λ x. IsTokensOf text (view x))
list_is view text (Ok x) gives = read_is_tokens text (view x) gives
list_is view text (Err e) gives = tt

pub bad_byte_is : {X : Type 0} (view : X → List Token) (text : List ℕ) (result : Result X LexError)
    → GivesRead view text result (read_tokens text) → (at : Site) → IsErrOf result (error.BadByte at)
    → StopsAt text fault.BadByte at
bad_byte_is view text result gives at is =
    let told = subst (λ r. GivesRead view text r (read_tokens text)) is gives in
    record { offset = told.0; first = read_is_fault text told.0 fault.BadByte told.1; place = told.2 }

pub long_number_is : {X : Type 0} (view : X → List Token) (text : List ℕ) (result : Result X LexError)
    → GivesRead view text result (read_tokens text) → (at : Site) → IsErrOf result (error.LongNumber at)
    → StopsAt text fault.LongNumber at
long_number_is view text result gives at is =
    let told = subst (λ r. GivesRead view text r (read_tokens text)) is gives in
    record { offset = told.0; first = read_is_fault text told.0 fault.LongNumber told.1; place = told.2 }
