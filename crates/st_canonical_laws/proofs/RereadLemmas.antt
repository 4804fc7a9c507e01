-- What the calls answer to a canonical text.
use Rattle.std.proofs.Common.{◌≡◌, ℕ, List, ap, sym, ◌∙◌, subst}
use Rattle.st_events.specs.declared.events.Site.{Site}
use Rattle.st_ast.specs.declared.declarations.Program.{Program}
use Rattle.st_ast.specs.Lines.{canonical_text}
use Rattle.st_lex.specs.declared.errors.Fault.{Fault}
use Rattle.st_lex.specs.declared.kinds.Token.{Token}
use Rattle.st_lex.specs.Errors.{StopsAt}
use Rattle.st_lex.specs.Tokens.{IsTokensOf}
use Rattle.st_lex.proofs.Exact.{one_list, not_both}
use Rattle.st_parse.specs.Outcomes.{IsProgramOf}
use Rattle.st_grammar_laws.proofs.Exact.{one_tree}
use Rattle.st_grammar.specs.Terminals.{terminals_of}
use Rattle.st_canonical_laws.specs.Placeless.{bare}
use Rattle.st_canonical_laws.specs.Trees.{IsOfGrammar, ReadsBack}
use Rattle.st_canonical_laws.proofs.Law.{reads_back}

-- it has no fault
pub no_fault : (p : Program) → IsOfGrammar p → (text : List ℕ) → text ≡ canonical_text p → (fault : Fault) (at : Site) → StopsAt text fault at → ⊥
no_fault p g text e fault at s =
    let r : ReadsBack p = reads_back p g in
    not_both text r.tokens s.offset fault (subst (λ t. IsTokensOf t r.tokens) (sym e) r.listed) s.first

module _ (p : Program) (g : IsOfGrammar p) (lexed text : List ℕ) (list tokens : List Token) (first : lexed ≡ canonical_text p) (second : text ≡ canonical_text p)
    (listed : IsTokensOf lexed list) (same : tokens ≡ list) where
  back : ReadsBack p
  back = reads_back p g

  abbrev tokens_are : tokens ≡ back.tokens
  tokens_are = same ∙ one_list (canonical_text p) list back.tokens (subst (λ t. IsTokensOf t list) first listed) back.listed

  -- there is a tree
  pub no_error : ((tree : Program) → IsProgramOf text tokens tree → ⊥) → ⊥
  no_error h =
      let at_text : IsProgramOf text back.tokens back.tree = subst (λ t. IsProgramOf t back.tokens back.tree) (sym second) back.spelled in
      h back.tree (subst (λ l. IsProgramOf text l back.tree) (sym tokens_are) at_text)

  -- and it is the same but for places
  pub same_tree : (tree : Program) → IsProgramOf text tokens tree → bare tree ≡ bare p
  same_tree tree h =
      let here : IsProgramOf (canonical_text p) back.tokens tree = subst (λ l. IsProgramOf (canonical_text p) l tree) tokens_are
      (subst (λ t. IsProgramOf t tokens tree) second h) in
      ap bare (one_tree (terminals_of (canonical_text p) back.tokens) tree back.tree here.spelled back.spelled.spelled) ∙ back.same
