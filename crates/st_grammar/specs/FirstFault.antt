-- Where the terminals of a text first go wrong.
use Rattle.std.specs.Prelude.{◌≡◌, ℕ, suc, ◌<◌, ◌≤◌, List, [], ◌∷◌, ◌++◌, length, take, drop}
use Rattle.st_ast.specs.declared.declarations.Program.{Program}
use Rattle.st_events.specs.declared.events.Site.{Site}
use Rattle.st_lex.specs.declared.kinds.Token.{Token}
use Rattle.st_lex.specs.Places.{place_at}
use Rattle.st_grammar.specs.Grammar.{Parses}
use Rattle.st_grammar.specs.Terminals.{Terminal, terminals_of}

-- a text of the grammar begins with these terminals
pub record BeginsText (ts : List Terminal) : Type 0 where
  pub more : List Terminal
  pub tree : Program
  pub spelled : Parses (ts ++ more) tree

-- The terminals before the index begin a text of the grammar, and with the terminal at the index they begin none. Where
-- there is no such terminal, the index is the number of the terminals. They are no text.
pub record IsFirstFault (ts : List Terminal) (index : ℕ) : Type 0 where
  pub within : index ≤ length ts
  pub before : BeginsText (take index ts)
  pub here : index < length ts → BeginsText (take (suc index) ts) → ⊥
  pub no_text : (tree : Program) → Parses ts tree → ⊥

-- the place of the first of the tokens that are left, or the place after the last byte of the text
abbrev pub place_from : List ℕ → List Token → Site
place_from text [] = place_at text (length text)
place_from text (token ∷ tokens) = token.site

-- the place is that of the first token such that the tokens up to it begin no text of the grammar, or the place after the
-- last byte where there is no such token
pub record IsUnexpected (text : List ℕ) (tokens : List Token) (at : Site) : Type 0 where
  pub index : ℕ
  pub fault : IsFirstFault (terminals_of text tokens) index
  pub place : at ≡ place_from text (drop index tokens)
