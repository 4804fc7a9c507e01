-- The limits on tokens: at most so many braces open at a time, and at most so many tokens between two neighbours of `;`, `{` and `}`.
use Rattle.std.specs.Prelude.{ℕ, ◌+◌, ◌-◌, if◌then◌else◌, nat_lt, List, Option, Some, None}
use Rattle.st_events.specs.declared.events.Site.{Site}
use Rattle.st_ast.specs.declared.limits.TheConstants.{MOST_OPEN_BRACES}
use Rattle.st_grammar.specs.declared.limits.TheConstants.{MOST_TOKENS_BETWEEN}
use Rattle.st_grammar.specs.declared.sorts.Sort.{Sort}
use Rattle.st_grammar.specs.declared.sorts.Sort.TheVariants as sort
use Rattle.st_grammar.specs.declared.token_limits.Over.{Over}
use Rattle.st_grammar.specs.declared.token_limits.Over.TheVariants as over
use Rattle.st_grammar.specs.declared.token_limits.TokenCounts.{TokenCounts}
use Rattle.st_grammar.specs.Firsts as firsts
use Rattle.st_grammar.specs.Firsts.{first_from}
use Rattle.st_grammar.specs.Terminals.{Terminal}

-- before the first token no brace is open and no token is counted
abbrev pub at_start : TokenCounts
at_start = record { braces = 0; since = 0 }

-- the counts after one more token; a `}` with no brace open counts for nothing
abbrev pub counted_by : TokenCounts → Sort → TokenCounts
counted_by counts sort.OpenBrace = record { braces = counts.braces + 1; since = 0 }
counted_by counts sort.CloseBrace = record { braces = counts.braces - 1; since = 0 }
counted_by counts sort.Semicolon = record { braces = counts.braces; since = 0 }
counted_by counts _ = record { braces = counts.braces; since = counts.since + 1 }

-- the counts after one more terminal, of which only the sort counts
abbrev pub counted : TokenCounts → Terminal → TokenCounts
counted counts t = counted_by counts t.sort

-- of a token of this sort at this place: a `{` is too deep where the most braces are open; each other but `}` and `;` is too long after the most tokens
abbrev pub excess_by : TokenCounts → Site → Sort → Option (Over × Site)
excess_by counts site sort.OpenBrace = if nat_lt counts.braces MOST_OPEN_BRACES then None else Some (over.Deep, site)
excess_by counts site sort.CloseBrace = None
excess_by counts site sort.Semicolon = None
excess_by counts site _ = if nat_lt counts.since MOST_TOKENS_BETWEEN then None else Some (over.Long, site)

-- why one more token is above a limit, with its place
abbrev pub excess : TokenCounts → Terminal → Option (Over × Site)
excess counts t = excess_by counts t.site t.sort

-- no token is above a limit
abbrev pub IsWithinTokenLimits : List Terminal → Type 0
IsWithinTokenLimits ts = firsts.AreWithin excess counted at_start ts

-- the first token above a limit is so for this reason and stands here
abbrev pub IsFirstOver : List Terminal → Over → Site → Type 0
IsFirstOver ts why at = firsts.IsFirst excess counted at_start ts (why, at)

-- the first of these terminals that is above a limit, by going over them once
unfoldable pub first_over : List Terminal → Option (Over × Site)
first_over ts = first_from excess counted at_start ts
