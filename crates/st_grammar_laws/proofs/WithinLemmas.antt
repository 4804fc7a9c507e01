-- Where no token is above a limit, the readers have depth enough.
use Rattle.std.proofs.Common.{◌≡◌, ℕ, zero, suc, pred, ◌+◌, ◌-◌, ◌≤◌, ◌<◌, Bool, true, false, cond, nat_lt}
use Rattle.std.proofs.Common.{if◌then◌else◌, List, [], ◌∷◌, length, Option, Some, None, refl, ap, sym, subst, ◌∙◌, arith, rules}
use Rattle.st_events.specs.declared.events.Site.{Site}
use Rattle.st_ast.specs.declared.limits.TheConstants.{MOST_OPEN_BRACES}
use Rattle.st_grammar.specs.declared.limits.TheConstants.{MOST_TOKENS_BETWEEN}
use Rattle.st_grammar.specs.declared.sorts.Sort.{Sort}
use Rattle.st_grammar.specs.declared.sorts.Sort.TheVariants as sort
use Rattle.st_grammar.specs.declared.token_limits.Over.{Over}
use Rattle.st_grammar.specs.declared.token_limits.TokenCounts.{TokenCounts}
use Rattle.st_grammar.specs.Firsts.{or_else, first_from}
use Rattle.st_grammar.specs.Terminals.{Terminal}
use Rattle.st_grammar.specs.TokenLimits.{at_start, counted, counted_by, excess, excess_by, first_over}
use Rattle.st_grammar.proofs.FirstLemmas.{none_of}
use Rattle.st_grammar_laws.proofs.LimitLemmas.{step, Within, within_end, within_more}
use Rattle.st_grammar_laws.proofs.WordLemmas.{separates, span}

-- a token that is not in excess had room
room : {O : Type 0} (m n : ℕ) (x : O) → (if nat_lt m n then None else Some x) ≡ None → m < n
room m n x e = by (nat_lt m n) refl e
  where
    by : (b : Bool) → nat_lt m n ≡ b → (if b then None else Some x) ≡ None → m < n
    by true is e = search (rules, is)
    by false is e = absurd cc

abbrev counts : ℕ → ℕ → TokenCounts
counts braces since = record { braces = braces; since = since }

-- what is kept by one token that is not in excess
record Keeps (braces since : ℕ) (s : Sort) : Type 0 where
  few : step braces s ≤ MOST_OPEN_BRACES
  same : (counted_by (counts braces since) s).braces ≡ step braces s
  short : (counted_by (counts braces since) s).since ≤ MOST_TOKENS_BETWEEN
  before : (rest : ℕ) → (counted_by (counts braces since) s).since + rest ≤ MOST_TOKENS_BETWEEN → since + cond (separates s) 0 (suc rest) ≤ MOST_TOKENS_BETWEEN

one_less : (n : ℕ) → n - 1 ≡ pred n
one_less zero = omega arith
one_less (suc n) = omega arith

pred_few : (n : ℕ) → n ≤ MOST_OPEN_BRACES → pred n ≤ MOST_OPEN_BRACES
pred_few zero h = h
pred_few (suc n) h = omega (arith, h)

keeps : (s : Sort) (site : Site) (braces since : ℕ) → since ≤ MOST_TOKENS_BETWEEN → braces ≤ MOST_OPEN_BRACES → excess_by (counts braces since) site s ≡ None → Keeps braces since s
keeps sort.OpenBrace site braces since a b e =
    let less : braces < MOST_OPEN_BRACES = room braces MOST_OPEN_BRACES _ e in
    record { few = omega (arith, less); same = omega arith; short = omega arith; before = λ rest h. omega (arith, a) }
keeps sort.CloseBrace site braces since a b e =
    record { few = pred_few braces b; same = one_less braces; short = omega arith; before = λ rest h. omega (arith, a) }
keeps sort.Semicolon site braces since a b e =
    record { few = b; same = refl; short = omega arith; before = λ rest h. omega (arith, a) }
keeps s site braces since a b e =
    let less : since < MOST_TOKENS_BETWEEN = room since MOST_TOKENS_BETWEEN _ e in
    record { few = b; same = refl; short = omega (arith, less); before = λ rest h. omega (arith, h) }

-- the tokens up to the next separator fit, and the braces do
record Fits (braces since : ℕ) (ts : List Terminal) : Type 0 where
  few : since + span ts ≤ MOST_TOKENS_BETWEEN
  kept : Within MOST_TOKENS_BETWEEN MOST_OPEN_BRACES braces ts

fits_from : (braces since : ℕ) (ts : List Terminal) → since ≤ MOST_TOKENS_BETWEEN → braces ≤ MOST_OPEN_BRACES
    → first_from excess counted (counts braces since) ts ≡ None → Fits braces since ts
fits_from braces since [] a b e = record { few = omega (arith, a); kept = within_end }
fits_from braces since (t ∷ ts) a b e =
    let parts = none_of (excess (counts braces since) t) (first_from excess counted (counted (counts braces since) t) ts) e in
    let k = keeps t.sort t.site braces since a b parts.0 in
    let onward = (counted_by (counts braces since) t.sort).since in
    let rest : Fits (step braces t.sort) onward ts = fits_from (step braces t.sort) onward ts k.short k.few
    (ap (λ (n : ℕ). first_from excess counted (counts n onward) ts) (sym k.same) ∙ parts.1) in
    let few : since + span (t ∷ ts) ≤ MOST_TOKENS_BETWEEN = k.before (span ts) rest.few in
    record { few = few; kept = within_more (omega (arith, few)) k.few rest.kept }

-- tokens of which none is above a limit keep the limits from the beginning
pub within_reads : (ts : List Terminal) → first_over ts ≡ None → Within MOST_TOKENS_BETWEEN MOST_OPEN_BRACES 0 ts
unfolding first_over
within_reads ts e = (fits_from 0 0 ts (omega arith) (omega arith) e).kept
