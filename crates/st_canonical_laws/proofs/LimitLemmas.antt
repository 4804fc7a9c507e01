-- Limits on tokens and counts, token by token; places do not matter.
use Rattle.std.proofs.Common.{◌≡◌, Bool, true, false, List, [], ◌∷◌, ◌++◌, map, fold, Option, Some, None, refl, ap, sym, ◌∙◌, subst}
use Rattle.std.specs.Prelude.{if◌then◌else◌, nat_lt}
use Rattle.st_events.specs.declared.events.Site.{Site}
use Rattle.st_grammar.specs.declared.limits.TheConstants.{MOST_TOKENS_BETWEEN}
use Rattle.st_ast.specs.declared.limits.TheConstants.{MOST_OPEN_BRACES}
use Rattle.st_grammar.specs.declared.sorts.Sort.{Sort}
use Rattle.st_grammar.specs.declared.sorts.Sort.TheVariants as sort
use Rattle.st_grammar.specs.declared.token_limits.Over.{Over}
use Rattle.st_grammar.specs.declared.token_limits.Over.TheVariants as over
use Rattle.st_grammar.specs.declared.token_limits.TokenCounts.{TokenCounts}
use Rattle.st_grammar.specs.Firsts as firsts
use Rattle.st_grammar.specs.Firsts.{or_else, first_from}
use Rattle.st_grammar.specs.TokenLimits.{counted_by, counted, excess_by, excess}
use Rattle.st_grammar.specs.Terminals.{Terminal}
use Rattle.st_grammar.proofs.FirstLemmas.{none_within}
use Rattle.st_canonical_laws.proofs.TextLemmas.{head_or, tail_of}
use Rattle.st_canonical_laws.proofs.Written.{blank}

-- ---- any limit, token by token

module _ {S T O : Type 0} (excess : S → T → Option O) (next : S → T → S) where
  abbrev pub Each : S → List T → Type 0
  Each c [] = Unit {0}
  Each c (t ∷ ts) = (excess c t ≡ None) × Each (next c t) ts

  pub each_from : (c : S) (ts : List T) → firsts.AreWithin excess next c ts → Each c ts
  each_from c [] h = tt
  each_from c (t ∷ ts) h = (h [] ts t refl, each_from (next c t) ts (λ before after x split. h (t ∷ before) after x (ap (λ l. t ∷ l) split)))

  no_first : (c : S) (ts : List T) → Each c ts → first_from excess next c ts ≡ None
  no_first c [] h = refl
  no_first c (t ∷ ts) h = ap (λ o. or_else o (first_from excess next (next c t) ts)) h.0 ∙ no_first (next c t) ts h.1

  pub each_to : (c : S) (ts : List T) → Each c ts → firsts.AreWithin excess next c ts
  each_to c ts h = none_within excess next c ts (no_first c ts h)

  pub each_front : (c : S) (ts us : List T) → Each c (ts ++ us) → Each c ts
  each_front c [] us h = tt
  each_front c (t ∷ ts) us h = (h.0, each_front (next c t) ts us h.1)

  pub each_back : (c : S) (ts us : List T) → Each c (ts ++ us) → Each (fold next c ts) us
  each_back c [] us h = h
  each_back c (t ∷ ts) us h = each_back (next c t) ts us h.1

  pub each_both : (c : S) (ts us : List T) → Each c ts → Each (fold next c ts) us → Each c (ts ++ us)
  each_both c [] us h k = k
  each_both c (t ∷ ts) us h k = (h.0, each_both (next c t) ts us h.1 k)

  pub fold_on : (c : S) (ts us : List T) → fold next c (ts ++ us) ≡ fold next (fold next c ts) us
  fold_on c [] us = refl
  fold_on c (t ∷ ts) us = fold_on (next c t) ts us

-- ---- limits on tokens

if_none : (b : Bool) (x y : Over × Site) → (if b then None else Some x) ≡ None → (if b then None else Some y) ≡ None
if_none true x y h = refl
if_none false x y h = absurd cc

excess_anywhere : (c : TokenCounts) (s : Sort) (a b : Site) → excess_by c a s ≡ None → excess_by c b s ≡ None
excess_anywhere c sort.OpenBrace a b h = if_none (nat_lt c.braces MOST_OPEN_BRACES) (over.Deep, a) (over.Deep, b) h
excess_anywhere c sort.CloseBrace a b h = refl
excess_anywhere c sort.Semicolon a b h = refl
excess_anywhere c s a b h = if_none (nat_lt c.since MOST_TOKENS_BETWEEN) (over.Long, a) (over.Long, b) h

-- the same but for places
pub limits_same : (c : TokenCounts) (ts us : List Terminal) → map blank us ≡ map blank ts → Each excess counted c ts → Each excess counted c us
limits_same c [] [] e h = tt
limits_same c [] (u ∷ us) e h = absurd cc
limits_same c (t ∷ ts) [] e h = absurd cc
limits_same c (t ∷ ts) (u ∷ us) e h =
    let same : u.sort ≡ t.sort = ap (λ (l : List Terminal). (head_or (blank u) l).sort) e in (
      ap (excess_by c u.site) same ∙ excess_anywhere c t.sort t.site u.site h.0,
      subst (λ k. Each excess counted k us) (sym (ap (counted_by c) same)) (limits_same (counted c t) ts us (ap tail_of e) h.1),
    )
