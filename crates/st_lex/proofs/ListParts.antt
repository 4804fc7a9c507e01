-- The parts of a list of tokens.
use Rattle.std.proofs.Common.{ℕ, List, [], ◌∷◌, ◌++◌, length}
use Rattle.std.specs.List.{AllByRecursion}
use Rattle.st_lex.specs.Terms.{Token}
use Rattle.st_lex.specs.Tokens.{IsGap, IsToken, AreTokensApart, IsTokensOf}

each_from : (text : List ℕ) (front back : List Token) (token : Token) → AllByRecursion (IsToken text) (front ++ token ∷ back)
    → IsToken text token
each_from text [] back token each = each.0
each_from text (t ∷ front) back token each = each_from text front back token each.1

-- each token of a text stands in it
pub each_token : (text : List ℕ) (front back : List Token) (token : Token) → IsTokensOf text (front ++ token ∷ back)
    → IsToken text token
each_token text front back token h = each_from text front back token h.each

gap_from : (text : List ℕ) (from to : ℕ) (front back : List Token) (token next : Token)
    → AreTokensApart text from (front ++ token ∷ next ∷ back) to → IsGap text token.end next.start
gap_from text from to [] back token next apart = apart.1.0
gap_from text from to (t ∷ front) back token next apart = gap_from text t.end to front back token next apart.1

-- between two neighbours is a gap
pub each_gap : (text : List ℕ) (front back : List Token) (token next : Token) → IsTokensOf text (front ++ token ∷ next ∷ back)
    → IsGap text token.end next.start
each_gap text front back token next h = gap_from text 0 (length text) front back token next h.apart
