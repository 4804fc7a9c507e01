-- What `parse` answers, in the terms of the grammar and the limits.
use Rattle.std.proofs.Common.{◌≡◌, ◌≢◌, ℕ, List, [], ◌∷◌, length, map, drop, Option, Some, None, Result, Ok, Err, refl, ap, sym, subst, ◌∙◌}
use Rattle.std.specs.Prelude.{IfOk, IsErrOf}
use Rattle.std.proofs.lemmas.List.{drop-map}
use Rattle.st_events.specs.declared.events.Site.{Site}
use Rattle.st_ast.specs.declared.declarations.Program.{Program}
use Rattle.st_lex.specs.declared.kinds.Token.{Token}
use Rattle.st_parse.specs.declared.errors.ParseError.{ParseError}
use Rattle.st_parse.specs.declared.errors.ParseError.TheVariants as error
use Rattle.st_grammar.specs.declared.counts.What.{What}
use Rattle.st_grammar.specs.declared.token_limits.Over.{Over}
use Rattle.st_grammar.specs.declared.token_limits.Over.TheVariants as over
use Rattle.st_grammar.specs.Counts as counts
use Rattle.st_grammar.specs.Counts.{IsFirstExcess, IsWithinCounts, items_of, first_excess}
use Rattle.st_grammar.specs.FirstFault.{IsUnexpected, IsFirstFault, place_from}
use Rattle.st_grammar.specs.Grammar.{Parses}
use Rattle.st_parse.specs.Outcomes.{IsProgramOf, StopsUnexpected, HasTooMany, place_of, error_of, counted_by, counted, read_by, read, then_counted, limited_by, answer, IsButForMemory}
use Rattle.st_grammar_laws.specs.Reading.{Outcome, program}
use Rattle.st_grammar.specs.Terminals.{Terminal, terminal_of, terminals_of}
use Rattle.st_grammar.specs.TokenLimits as limits
use Rattle.st_grammar.specs.TokenLimits.{IsWithinTokenLimits, IsFirstOver, first_over}
use Rattle.st_grammar_laws.proofs.Exact.{one_tree, read_is_program, stops_at_fault, LeftAt}
use Rattle.st_grammar.proofs.FirstLemmas.{none_within, some_first}
use Rattle.st_grammar_laws.proofs.WithinLemmas.{within_reads}

-- what an answer says
abbrev pub Meant : List ℕ → List Token → Result Program ParseError → Type 0
Meant text tokens (Ok p) = IsProgramOf text tokens p
Meant text tokens (Err error.Memory) = Unit {0}
Meant text tokens (Err (error.Unexpected at)) = StopsUnexpected text tokens at
Meant text tokens (Err (error.TooMany what at)) = HasTooMany text tokens what at
Meant text tokens (Err (error.TooDeep at)) = IsFirstOver (terminals_of text tokens) over.Deep at
Meant text tokens (Err (error.TooLong at)) = IsFirstOver (terminals_of text tokens) over.Long at

first_over_meant : (text : List ℕ) (tokens : List Token) (why : Over) (at : Site) → IsFirstOver (terminals_of text tokens) why at → Meant text tokens (Err (error_of why at))
first_over_meant text tokens over.Deep at h = h
first_over_meant text tokens over.Long at h = h

counted_meant : (text : List ℕ) (tokens : List Token) (p : Program) → Parses (terminals_of text tokens) p → IsWithinTokenLimits (terminals_of text tokens) → Meant text tokens (counted p)
unfolding counted first_excess
counted_meant text tokens p spelled few = by (first_excess (items_of p)) refl
  where
    by : (o : Option (What × Site)) → first_excess (items_of p) ≡ o → Meant text tokens (counted_by p o)
    by None e = record { spelled = spelled; few_tokens = few; few_items = none_within counts.excess counts.counted counts.at_start (items_of p) e }
    by (Some x) e = record {
      tree = p;
      spelled = spelled;
      few_tokens = few;
      first = some_first counts.excess counts.counted counts.at_start (items_of p) (x.0, x.1) e;
    }

place_of_tokens : (text : List ℕ) (tokens : List Token) → place_of text (terminals_of text tokens) ≡ place_from text tokens
place_of_tokens text [] = refl
place_of_tokens text (token ∷ tokens) = refl

dropped : (text : List ℕ) (k : ℕ) (tokens : List Token) → drop k (terminals_of text tokens) ≡ terminals_of text (drop k tokens)
dropped text k tokens = drop-map (terminal_of text) k tokens

unexpected_meant : (text : List ℕ) (tokens : List Token) (left : List Terminal) → IsWithinTokenLimits (terminals_of text tokens)
    → LeftAt (terminals_of text tokens) left → StopsUnexpected text tokens (place_of text left)
unexpected_meant text tokens left few h = record {
  few_tokens = few;
  unexpected = record {
    index = h.index;
    fault = h.fault;
    place = ap (place_of text) (h.left ∙ dropped text h.index tokens) ∙ place_of_tokens text (drop h.index tokens);
  };
}

read_meant : (text : List ℕ) (tokens : List Token) → first_over (terminals_of text tokens) ≡ None → Meant text tokens (then_counted (read text (terminals_of text tokens)))
unfolding read first_over
read_meant text tokens none = by (program (terminals_of text tokens)) refl
  where
    few : IsWithinTokenLimits (terminals_of text tokens)
    few = none_within limits.excess limits.counted limits.at_start (terminals_of text tokens) none

    by : (o : Outcome Program) → program (terminals_of text tokens) ≡ o → Meant text tokens (then_counted (read_by text o))
    by (Ok p) e = counted_meant text tokens p.0 (read_is_program (terminals_of text tokens) p.1 p.0 e).0 few
    by (Err left) e = unexpected_meant text tokens left few (stops_at_fault (terminals_of text tokens) left (within_reads (terminals_of text tokens) none) e)

answer_meant : (text : List ℕ) (tokens : List Token) → Meant text tokens (answer text (terminals_of text tokens))
unfolding answer first_over
answer_meant text tokens = by (first_over (terminals_of text tokens)) refl
  where
    by : (o : Option (Over × Site)) → first_over (terminals_of text tokens) ≡ o → Meant text tokens (limited_by text (terminals_of text tokens) o)
    by None e = read_meant text tokens e
    by (Some x) e = first_over_meant text tokens x.0 x.1 (some_first limits.excess limits.counted limits.at_start (terminals_of text tokens) (x.0, x.1) e)

-- an answer that is the right one, unless memory ran out, means what it says
pub told : (text : List ℕ) (tokens : List Token) (r : Result Program ParseError) → IsButForMemory r (answer text (terminals_of text tokens)) → Meant text tokens r
told text tokens (Err error.Memory) h = tt
told text tokens (Ok p) h = subst (Meant text tokens) (sym h) (answer_meant text tokens)
told text tokens (Err (error.Unexpected at)) h = subst (Meant text tokens) (sym h) (answer_meant text tokens)
told text tokens (Err (error.TooMany what at)) h = subst (Meant text tokens) (sym h) (answer_meant text tokens)
told text tokens (Err (error.TooDeep at)) h = subst (Meant text tokens) (sym h) (answer_meant text tokens)
told text tokens (Err (error.TooLong at)) h = subst (Meant text tokens) (sym h) (answer_meant text tokens)

-- what the answer means, for the clause `tree`: an answer with a tree has the program of the text
pub told_tree : (text : List ℕ) (tokens : List Token) (r : Result Program ParseError) → Meant text tokens r → IfOk r (λ p. IsProgramOf text tokens p)
told_tree text tokens (Ok p) m = m
told_tree text tokens (Err why) m = tt

-- what a refusal says excludes every program
refused : (text : List ℕ) (tokens : List Token) (why : ParseError) → Meant text tokens (Err why) → why ≢ error.Memory → (p : Program) → IsProgramOf text tokens p → ⊥
refused text tokens error.Memory m other p h = other refl
refused text tokens (error.Unexpected at) m other p h = m.unexpected.fault.no_text p h.spelled
refused text tokens (error.TooMany what at) m other p h =
    let same : m.tree ≡ p = one_tree (terminals_of text tokens) m.tree p m.spelled h.spelled in
    let few : IsWithinCounts m.tree = subst IsWithinCounts (sym same) h.few_items in
    let clash = sym m.first.excess_here ∙ few m.first.before m.first.after m.first.here m.first.split in absurd cc
refused text tokens (error.TooDeep at) m other p h = let clash = sym m.excess_here ∙ h.few_tokens m.before m.after m.here m.split in absurd cc
refused text tokens (error.TooLong at) m other p h = let clash = sym m.excess_here ∙ h.few_tokens m.before m.after m.here m.split in absurd cc

-- what the answer means, for the clause `no_tree`: after an error other than want of memory no tree is the program of the text
pub told_no_tree : (text : List ℕ) (tokens : List Token) (r : Result Program ParseError) → Meant text tokens r
    → (why : ParseError) → IsErrOf r why → why ≢ error.Memory → (p : Program) → IsProgramOf text tokens p → ⊥
told_no_tree text tokens r m why is other p h = refused text tokens why (subst (Meant text tokens) is m) other p h

-- what the answer means, for the clauses of the faults: an answer with this error means what the error says
pub told_error : (text : List ℕ) (tokens : List Token) (r : Result Program ParseError) → Meant text tokens r → (why : ParseError) → IsErrOf r why → Meant text tokens (Err why)
told_error text tokens r m why is = subst (Meant text tokens) is m
