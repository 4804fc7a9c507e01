-- Tokens have at most one fault, of one kind and at one place, and none where they have a program.
use Rattle.std.proofs.Common.{◌≡◌, ◌≢◌, ℕ, List, [], ◌∷◌, ◌++◌, fold, Option, Some, None, Err, refl, ap, sym, subst, ◌∙◌}
use Rattle.st_events.specs.declared.events.Site.{Site}
use Rattle.st_ast.specs.declared.declarations.Program.{Program}
use Rattle.st_lex.specs.declared.kinds.Token.{Token}
use Rattle.st_grammar.specs.declared.counts.What.{What}
use Rattle.st_grammar.specs.declared.token_limits.Over.{Over}
use Rattle.st_grammar.specs.declared.token_limits.Over.TheVariants as over
use Rattle.st_grammar.specs.Counts as counts
use Rattle.st_grammar.specs.Counts.{IsFirstExcess, items_of}
use Rattle.st_grammar.specs.Firsts.{or_else, first_from}
use Rattle.st_grammar.specs.Firsts as firsts
use Rattle.st_grammar.specs.Terminals.{Terminal, terminals_of}
use Rattle.st_grammar.specs.TokenLimits as limits
use Rattle.st_grammar.specs.TokenLimits.{IsWithinTokenLimits, IsFirstOver}
use Rattle.st_grammar_laws.proofs.Exact.{one_tree, one_place}
use Rattle.st_parse.specs.declared.errors.ParseError.{ParseError}
use Rattle.st_parse.specs.declared.errors.ParseError.TheVariants as parse
use Rattle.st_parse.specs.Faults.{HasParseFault}
use Rattle.st_parse.specs.Outcomes.{IsProgramOf, HasTooMany, error_of}
use Rattle.st_parse.proofs.OutcomeLemmas.{Meant, told_no_tree}

-- the first in excess is found
first_is : {S T O : Type 0} (excess : S → T → Option O) (next : S → T → S) (counts : S) (before after : List T) (here : T) (over : O)
    → firsts.AreWithin excess next counts before → excess (fold next counts before) here ≡ Some over
    → first_from excess next counts (before ++ here ∷ after) ≡ Some over
first_is excess next counts [] after here over within e = ap (λ o. or_else o (first_from excess next (next counts here) after)) e
first_is excess next counts (b ∷ bs) after here over within e =
    ap (λ o. or_else o (first_from excess next (next counts b) (bs ++ here ∷ after))) (within [] bs b refl)
    ∙ first_is excess next (next counts b) bs after here over (λ before later x split. within (b ∷ before) later x (ap (λ l. b ∷ l) split)) e

-- what is there, or else the other
abbrev given : {O : Type 0} → O → Option O → O
given d None = d
given d (Some o) = o

-- so there is one
one_first : {S T O : Type 0} (excess : S → T → Option O) (next : S → T → S) (counts : S) (ts : List T) (x y : O)
    → firsts.IsFirst excess next counts ts x → firsts.IsFirst excess next counts ts y → x ≡ y
one_first excess next counts ts x y h k =
    let one : first_from excess next counts ts ≡ Some x =
    ap (first_from excess next counts) h.split ∙ first_is excess next counts h.before h.after h.here x h.within h.excess_here in
    let two : first_from excess next counts ts ≡ Some y =
    ap (first_from excess next counts) k.split ∙ first_is excess next counts k.before k.after k.here y k.within k.excess_here in
    ap (given x) (sym one ∙ two)

-- tokens above a limit
one_over : (ts : List Terminal) (w v : Over) (a b : Site) → IsFirstOver ts w a → IsFirstOver ts v b → error_of w a ≡ error_of v b
one_over ts w v a b h k = ap (λ x. error_of x.0 x.1) (one_first limits.excess limits.counted limits.at_start ts (w, a) (v, b) h k)

-- tokens within the limits have none above one
not_over : (ts : List Terminal) (w : Over) (a : Site) → IsWithinTokenLimits ts → IsFirstOver ts w a → ⊥
not_over ts w a few h = let clash = sym h.excess_here ∙ few h.before h.after h.here h.split in absurd cc

-- items above a limit
one_excess : (text : List ℕ) (tokens : List Token) (w v : What) (a b : Site) → HasTooMany text tokens w a → HasTooMany text tokens v b
    → parse.TooMany w a ≡ parse.TooMany v b
one_excess text tokens w v a b h k =
    let same : k.tree ≡ h.tree = one_tree (terminals_of text tokens) k.tree h.tree k.spelled h.spelled in
    let moved : IsFirstExcess h.tree v b = subst (λ p. IsFirstExcess p v b) same k.first in
    ap (λ x. parse.TooMany x.0 x.1) (one_first counts.excess counts.counted counts.at_start (items_of h.tree) (w, a) (v, b) h.first moved)

-- tokens have at most one fault: of which kind it is and where is told by them alone
pub one_parse_fault : (text : List ℕ) (tokens : List Token) (a b : ParseError) → HasParseFault text tokens a → HasParseFault text tokens b → a ≡ b
one_parse_fault text tokens parse.Memory b h k = absurd h
one_parse_fault text tokens (parse.Unexpected a) parse.Memory h k = absurd k
one_parse_fault text tokens (parse.Unexpected a) (parse.Unexpected b) h k = ap parse.Unexpected (one_place text tokens a b h.unexpected k.unexpected)
one_parse_fault text tokens (parse.Unexpected a) (parse.TooMany v b) h k = absurd (h.unexpected.fault.no_text k.tree k.spelled)
one_parse_fault text tokens (parse.Unexpected a) (parse.TooDeep b) h k = absurd (not_over (terminals_of text tokens) over.Deep b h.few_tokens k)
one_parse_fault text tokens (parse.Unexpected a) (parse.TooLong b) h k = absurd (not_over (terminals_of text tokens) over.Long b h.few_tokens k)
one_parse_fault text tokens (parse.TooMany w a) parse.Memory h k = absurd k
one_parse_fault text tokens (parse.TooMany w a) (parse.Unexpected b) h k = absurd (k.unexpected.fault.no_text h.tree h.spelled)
one_parse_fault text tokens (parse.TooMany w a) (parse.TooMany v b) h k = one_excess text tokens w v a b h k
one_parse_fault text tokens (parse.TooMany w a) (parse.TooDeep b) h k = absurd (not_over (terminals_of text tokens) over.Deep b h.few_tokens k)
one_parse_fault text tokens (parse.TooMany w a) (parse.TooLong b) h k = absurd (not_over (terminals_of text tokens) over.Long b h.few_tokens k)
one_parse_fault text tokens (parse.TooDeep a) parse.Memory h k = absurd k
one_parse_fault text tokens (parse.TooDeep a) (parse.Unexpected b) h k = absurd (not_over (terminals_of text tokens) over.Deep a k.few_tokens h)
one_parse_fault text tokens (parse.TooDeep a) (parse.TooMany v b) h k = absurd (not_over (terminals_of text tokens) over.Deep a k.few_tokens h)
one_parse_fault text tokens (parse.TooDeep a) (parse.TooDeep b) h k = one_over (terminals_of text tokens) over.Deep over.Deep a b h k
one_parse_fault text tokens (parse.TooDeep a) (parse.TooLong b) h k = one_over (terminals_of text tokens) over.Deep over.Long a b h k
one_parse_fault text tokens (parse.TooLong a) parse.Memory h k = absurd k
one_parse_fault text tokens (parse.TooLong a) (parse.Unexpected b) h k = absurd (not_over (terminals_of text tokens) over.Long a k.few_tokens h)
one_parse_fault text tokens (parse.TooLong a) (parse.TooMany v b) h k = absurd (not_over (terminals_of text tokens) over.Long a k.few_tokens h)
one_parse_fault text tokens (parse.TooLong a) (parse.TooDeep b) h k = one_over (terminals_of text tokens) over.Long over.Deep a b h k
one_parse_fault text tokens (parse.TooLong a) (parse.TooLong b) h k = one_over (terminals_of text tokens) over.Long over.Long a b h k

-- a fault of the parser excludes every program
parse_means : (text : List ℕ) (tokens : List Token) (why : ParseError) → HasParseFault text tokens why → Meant text tokens (Err why)
parse_means text tokens parse.Memory h = tt
parse_means text tokens (parse.Unexpected at) h = h
parse_means text tokens (parse.TooMany what at) h = h
parse_means text tokens (parse.TooDeep at) h = h
parse_means text tokens (parse.TooLong at) h = h

-- want of memory is no fault of the tokens
pub no_memory_fault : (text : List ℕ) (tokens : List Token) (why : ParseError) → HasParseFault text tokens why → why ≢ parse.Memory
no_memory_fault text tokens why h e = subst (HasParseFault text tokens) e h

-- tokens that have a fault have no tree
pub no_program : (text : List ℕ) (tokens : List Token) (why : ParseError) (p : Program) → HasParseFault text tokens why → IsProgramOf text tokens p → ⊥
no_program text tokens why p h k =
    told_no_tree text tokens (Err why) (parse_means text tokens why h) why refl (no_memory_fault text tokens why h) p k
