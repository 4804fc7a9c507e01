-- Each text is accepted or refused, not both, with one program or one fault that is told.
use Rattle.std.proofs.Common.{◌≡◌, ℕ, ◌<◌, ◌≤◌, Bool, true, false, nat_lt, List, [], ◌∷◌, length, ◌⊎◌, inl, inr, Option, Some, None, Result, Ok, Err}
use Rattle.std.proofs.Common.{refl, ap, sym, subst, ◌∙◌, arith, rules}
use Rattle.st_events.specs.declared.events.Site.{Site}
use Rattle.st_ast.specs.declared.declarations.Program.{Program}
use Rattle.st_lex.specs.declared.errors.Fault.{Fault}
use Rattle.st_lex.specs.declared.errors.Fault.TheVariants as fault
use Rattle.st_lex.specs.declared.kinds.Token.{Token}
use Rattle.st_lex.specs.declared.limits.TheConstants.{MOST_SOURCE_BYTES}
use Rattle.st_lex.specs.Places.{place_at}
use Rattle.st_lex.specs.Tokens.{IsTokensOf, IsFaultOf}
use Rattle.st_lex.proofs.Exact.{one_list, some_reading}
use Rattle.st_grammar.specs.declared.counts.What.{What}
use Rattle.st_grammar.specs.declared.token_limits.Over.{Over}
use Rattle.st_grammar.specs.declared.token_limits.Over.TheVariants as over
use Rattle.st_grammar.specs.Counts.{items_of, first_excess}
use Rattle.st_grammar.specs.Grammar.{Parses}
use Rattle.st_grammar.specs.Terminals.{Terminal, terminals_of}
use Rattle.st_grammar.specs.TokenLimits.{first_over}
use Rattle.st_grammar_laws.specs.Reading.{Outcome, program}
use Rattle.st_grammar_laws.proofs.Exact.{one_tree}
use Rattle.st_parse.specs.Outcomes.{IsProgramOf, error_of, counted_by, counted, read_by, read, then_counted, limited_by, answer, IsButForMemory}
use Rattle.st_parse.specs.Faults.{HasParseFault}
use Rattle.st_parse.proofs.FaultLemmas.{one_parse_fault, no_program}
use Rattle.st_parse.proofs.OutcomeLemmas.{Meant, told}
use Rattle.st_types.specs.Rules.{faults_of}
use Rattle.st_source.specs.Accepted.{IsTreeOf, IsSourceOf, IsAccepted}
use Rattle.st_source.specs.Refused.{HasNoTree, BreaksRule, IsRefusedFor}
use Rattle.st_source.specs.Terms.{ParseError, TypeError, SourceError}
use Rattle.st_source.specs.Terms.lex
use Rattle.st_source.specs.Terms.parse
use Rattle.st_source.specs.Terms.error
use Rattle.st_source.proofs.FaultLemmas.{one_lex_fault, no_tokens}

-- a text has one tree
one_tree_of : (text : List ℕ) (a b : Program) → IsTreeOf text a → IsTreeOf text b → a ≡ b
one_tree_of text a b h k =
    let same : k.tokens ≡ h.tokens = one_list text k.tokens h.tokens k.lexed h.lexed in
    one_tree (terminals_of text h.tokens) a b h.parsed.spelled (subst (λ ts. Parses (terminals_of text ts) b) same k.parsed.spelled)

-- a text is the source of at most one tree
pub one_program : (text : List ℕ) (a b : Program) → IsSourceOf text a → IsSourceOf text b → a ≡ b
one_program text a b h k = one_tree_of text a b h.spelled k.spelled

-- a stage that refuses a text leaves nothing to the next
no_tree : (text : List ℕ) (why : ParseError) (p : Program) → HasNoTree text why → IsTreeOf text p → ⊥
no_tree text why p h k =
    let same : k.tokens ≡ h.tokens = one_list text k.tokens h.tokens k.lexed h.lexed in
    no_program text h.tokens why p h.fault (subst (λ ts. IsProgramOf text ts p) same k.parsed)

abbrev head_or : TypeError → List TypeError → TypeError
head_or d [] = d
head_or d (e ∷ es) = e

no_fault : (why : TypeError) (later : List TypeError) → [] ≡ why ∷ later → ⊥
no_fault why later e = cc

-- no text is both a source and refused
pub not_both : (text : List ℕ) (tree : Program) (why : SourceError) → IsSourceOf text tree → IsRefusedFor text why → ⊥
not_both text tree error.Memory h k = k
not_both text tree error.TooLong h k = omega (arith, h.spelled.short, k)
not_both text tree (error.Lex why) h k = no_tokens text h.spelled.tokens why k.fault h.spelled.lexed
not_both text tree (error.Parse why) h k = no_tree text why tree k h.spelled
not_both text tree (error.Types why) h k =
    let same : tree ≡ k.tree = one_tree_of text tree k.tree h.spelled k.spelled in
    no_fault why k.later (sym h.rules ∙ ap faults_of same ∙ k.first)

-- of a text that is too long nothing else is told
too_long : (text : List ℕ) → MOST_SOURCE_BYTES < length text → length text ≤ MOST_SOURCE_BYTES → ⊥
too_long text h k = omega (arith, h, k)

one_broken_rule : (text : List ℕ) (a b : TypeError) → BreaksRule text a → BreaksRule text b → a ≡ b
one_broken_rule text a b h k =
    let same : h.tree ≡ k.tree = one_tree_of text h.tree k.tree h.spelled k.spelled in
    ap (head_or a) (sym h.first ∙ ap faults_of same ∙ k.first)

-- a text is refused for at most one reason
pub one_refusal : (text : List ℕ) (a b : SourceError) → IsRefusedFor text a → IsRefusedFor text b → a ≡ b
one_refusal text error.Memory b h k = absurd h
one_refusal text error.TooLong error.Memory h k = absurd k
one_refusal text error.TooLong error.TooLong h k = refl
one_refusal text error.TooLong (error.Lex b) h k = absurd (too_long text h k.short)
one_refusal text error.TooLong (error.Parse b) h k = absurd (too_long text h k.short)
one_refusal text error.TooLong (error.Types b) h k = absurd (too_long text h k.spelled.short)
one_refusal text (error.Lex a) error.Memory h k = absurd k
one_refusal text (error.Lex a) error.TooLong h k = absurd (too_long text k h.short)
one_refusal text (error.Lex a) (error.Lex b) h k = ap error.Lex (one_lex_fault text a b h.fault k.fault)
one_refusal text (error.Lex a) (error.Parse b) h k = absurd (no_tokens text k.tokens a h.fault k.lexed)
one_refusal text (error.Lex a) (error.Types b) h k = absurd (no_tokens text k.spelled.tokens a h.fault k.spelled.lexed)
one_refusal text (error.Parse a) error.Memory h k = absurd k
one_refusal text (error.Parse a) error.TooLong h k = absurd (too_long text k h.short)
one_refusal text (error.Parse a) (error.Lex b) h k = absurd (no_tokens text h.tokens b k.fault h.lexed)
one_refusal text (error.Parse a) (error.Parse b) h k =
    let same : k.tokens ≡ h.tokens = one_list text k.tokens h.tokens k.lexed h.lexed in
    ap error.Parse (one_parse_fault text h.tokens a b h.fault (subst (λ ts. HasParseFault text ts b) same k.fault))
one_refusal text (error.Parse a) (error.Types b) h k = absurd (no_tree text a k.tree h k.spelled)
one_refusal text (error.Types a) error.Memory h k = absurd k
one_refusal text (error.Types a) error.TooLong h k = absurd (too_long text k h.spelled.short)
one_refusal text (error.Types a) (error.Lex b) h k = absurd (no_tokens text h.spelled.tokens b k.fault h.spelled.lexed)
one_refusal text (error.Types a) (error.Parse b) h k = absurd (no_tree text b h.tree k h.spelled)
one_refusal text (error.Types a) (error.Types b) h k = ap error.Types (one_broken_rule text a b h k)

-- the parser's answer is never want of memory, but where its code runs
abbrev IsMemory : Result Program ParseError → Type 0
IsMemory r = r ≡ Err parse.Memory

counted_is_told : (p : Program) (o : Option (What × Site)) → IsMemory (counted_by p o) → ⊥
counted_is_told p None e = cc
counted_is_told p (Some x) e = cc

read_is_told : (text : List ℕ) (o : Outcome Program) → IsMemory (then_counted (read_by text o)) → ⊥
unfolding counted
read_is_told text (Ok p) e = counted_is_told p.0 (first_excess (items_of p.0)) e
read_is_told text (Err left) e = cc

over_is_told : (why : Over) (at : Site) → error_of why at ≡ parse.Memory → ⊥
over_is_told over.Deep at e = cc
over_is_told over.Long at e = cc

abbrev error_or : ParseError → Result Program ParseError → ParseError
error_or d (Ok p) = d
error_or d (Err why) = why

limited_is_told : (text : List ℕ) (ts : List Terminal) (o : Option (Over × Site)) → IsMemory (limited_by text ts o) → ⊥
unfolding read
limited_is_told text ts None e = read_is_told text (program ts) e
limited_is_told text ts (Some x) e = over_is_told x.0 x.1 (ap (error_or parse.Memory) e)

answer_is_told : (text : List ℕ) (ts : List Terminal) → IsMemory (answer text ts) → ⊥
unfolding answer
answer_is_told text ts e = limited_is_told text ts (first_over ts) e

answers_itself : (r : Result Program ParseError) → IsButForMemory r r
answers_itself (Ok p) = refl
answers_itself (Err parse.Memory) = tt
answers_itself (Err (parse.Unexpected at)) = refl
answers_itself (Err (parse.TooMany what at)) = refl
answers_itself (Err (parse.TooDeep at)) = refl
answers_itself (Err (parse.TooLong at)) = refl

abbrev Verdict : List ℕ → Type 0
Verdict text = IsAccepted text ⊎ ((why : SourceError) × IsRefusedFor text why)

-- a tree keeps the rules, or breaks one
of_tree : (text : List ℕ) (tree : Program) → IsTreeOf text tree → Verdict text
of_tree text tree h = by (faults_of tree) refl
  where
    by : (faults : List TypeError) → faults_of tree ≡ faults → Verdict text
    by [] e = inl (record { tree = tree; source = record { spelled = h; rules = e } })
    by (why ∷ later) e = inr (error.Types why, record { tree = tree; spelled = h; later = later; first = e })

-- tokens have a tree, or a fault
of_tokens : (text : List ℕ) (tokens : List Token) → length text ≤ MOST_SOURCE_BYTES → IsTokensOf text tokens → Verdict text
of_tokens text tokens short h = by (answer text (terminals_of text tokens)) refl (told text tokens (answer text (terminals_of text tokens)) (answers_itself (answer text (terminals_of text tokens))))
  where
    by : (r : Result Program ParseError) → answer text (terminals_of text tokens) ≡ r → Meant text tokens (answer text (terminals_of text tokens)) → Verdict text
    by (Ok p) e m = of_tree text p (record { short = short; tokens = tokens; lexed = h; parsed = subst (Meant text tokens) e m })
    by (Err parse.Memory) e m = absurd (answer_is_told text (terminals_of text tokens) e)
    by (Err (parse.Unexpected at)) e m =
        inr (error.Parse (parse.Unexpected at), record { short = short; tokens = tokens; lexed = h; fault = subst (Meant text tokens) e m })
    by (Err (parse.TooMany what at)) e m =
        inr (error.Parse (parse.TooMany what at), record { short = short; tokens = tokens; lexed = h; fault = subst (Meant text tokens) e m })
    by (Err (parse.TooDeep at)) e m =
        inr (error.Parse (parse.TooDeep at), record { short = short; tokens = tokens; lexed = h; fault = subst (Meant text tokens) e m })
    by (Err (parse.TooLong at)) e m =
        inr (error.Parse (parse.TooLong at), record { short = short; tokens = tokens; lexed = h; fault = subst (Meant text tokens) e m })

no_token_at : (text : List ℕ) (offset : ℕ) (f : Fault) → length text ≤ MOST_SOURCE_BYTES → IsFaultOf text offset f → Verdict text
no_token_at text offset fault.BadByte short h =
    inr (error.Lex (lex.BadByte (place_at text offset)), record { short = short; fault = record { offset = offset; first = h; place = refl } })
no_token_at text offset fault.LongNumber short h =
    inr (error.Lex (lex.LongNumber (place_at text offset)), record { short = short; fault = record { offset = offset; first = h; place = refl } })

of_short : (text : List ℕ) → length text ≤ MOST_SOURCE_BYTES → Verdict text
of_short text short = by (some_reading text)
  where
    by : ((tokens : List Token) × IsTokensOf text tokens) ⊎ ((offset : ℕ) × (f : Fault) × IsFaultOf text offset f) → Verdict text
    by (inl x) = of_tokens text x.0 short x.1
    by (inr x) = no_token_at text x.0 x.1 short x.2

-- each text is accepted or refused
pub some_verdict : (text : List ℕ) → Verdict text
some_verdict text = by (nat_lt MOST_SOURCE_BYTES (length text)) refl
  where
    by : (b : Bool) → nat_lt MOST_SOURCE_BYTES (length text) ≡ b → Verdict text
    by true is = inr (error.TooLong, search (rules, is))
    by false is = of_short text (search (rules, is))
