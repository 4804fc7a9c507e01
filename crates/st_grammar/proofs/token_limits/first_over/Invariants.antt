use Rattle.std.proofs.Common.{◌≡◌, drop}
use Rattle.st_grammar.specs.Firsts.{first_from}
use Rattle.st_grammar.specs.Terminals.{terminals_of}
use Rattle.st_grammar.specs.TokenLimits.{first_over, excess, counted}
use Rattle.st_grammar.proofs.token_limits.first_over.Given as goal

abbrev pub invariant-loop-token : goal.invariant-loop-token
invariant-loop-token l = first_over (terminals_of l.text l.tokens) ≡ first_from excess counted l.counts (terminals_of l.text (drop l.token-index l.tokens))
