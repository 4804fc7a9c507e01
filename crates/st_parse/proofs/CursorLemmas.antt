-- The terminals that are left, by the tokens.
use Rattle.std.proofs.Common.{◌≡◌, ℕ, ◌+◌, ◌<◌, ◌≤◌, List, [], ◌∷◌, length, map, drop, get_or, Ok, ap, sym, ◌∙◌}
use Rattle.std.proofs.lemmas.List.{drop_all, drop_more, drop-map}
use Rattle.st_lex.specs.declared.kinds.Token.{Token}
use Rattle.st_grammar.specs.Terminals.{Terminal, terminal_of, terminals_of}
use Rattle.st_grammar_laws.specs.Reading.{take_any}

-- those from a token on begin with its terminal
pub from_token : (text : List ℕ) (tokens : List Token) (k : ℕ) (token : Token) → k < length tokens → token ≡ get_or tokens k token
    → drop k (terminals_of text tokens) ≡ terminal_of text token ∷ drop (k + 1) (terminals_of text tokens)
from_token text tokens k token within here =
    drop-map (terminal_of text) k tokens
    ∙ ap (map (terminal_of text)) (drop_more tokens k token within)
    ∙ ap (λ t. terminal_of text t ∷ map (terminal_of text) (drop (k + 1) tokens)) (sym here)
    ∙ ap (λ ts. terminal_of text token ∷ ts) (sym (drop-map (terminal_of text) (k + 1) tokens))

-- after the last token there is none
pub past_tokens : (text : List ℕ) (tokens : List Token) (k : ℕ) → length tokens ≤ k → drop k (terminals_of text tokens) ≡ []
past_tokens text tokens k past = drop-map (terminal_of text) k tokens ∙ ap (map (terminal_of text)) (drop_all k tokens past)

-- the next terminal is taken where it is there
pub next_taken : (ts us : List Terminal) (t : Terminal) → ts ≡ t ∷ us → take_any ts ≡ Ok (t, us)
unfolding take_any
next_taken ts us t here = ap take_any here
