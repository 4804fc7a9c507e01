-- The threads are compared one after another, and the first stray stays.
use Rattle.std.proofs.Common.{ℕ, ◌+◌, ◌<◌, ◌≤◌, List, length, Option, Some, None, sym, subst, arith}
use Rattle.std.specs.Option.{option_or}
use borrow.Author.Count.{below_more}
use Rattle.st_events.specs.declared.events.Event.{Event}
use Rattle.st_events.specs.declared.limits.Sizes.{Sizes}
use Rattle.st_events.specs.Terms.{own_events}
use Rattle.st_resolved.specs.Terms.{Program}
use Rattle.st_audit.specs.declared.strays.Stray.{Stray}
use Rattle.st_audit.specs.Differences.{IsFirstDifference, IsTrace}
use Rattle.st_audit.specs.Findings.{IsComparedAlone, AreComparedUpTo, AreCompared}

-- what was found of the threads so far, and else of the next, is what is found of one more
pub one_thread_more :
    (p : Program) (sizes : Sizes) (es : List Event) (thread : ℕ) (found next : Option Stray)
    → thread < length p.threads
    → AreComparedUpTo p sizes es thread found
    → IsComparedAlone p sizes thread es next
    → AreComparedUpTo p sizes es (thread + 1) (option_or found next)
one_thread_more p sizes es thread (Some stray) next lt were alone = were
one_thread_more p sizes es thread None None lt were alone = below_more (λ (k : ℕ). IsTrace p sizes es k) thread were alone
one_thread_more p sizes es thread None (Some stray) lt were alone = record {
  before = λ earlier below. were earlier (omega (arith, below, alone.0));
  is_thread = omega (arith, lt, alone.0);
  first = subst (λ (k : ℕ). IsFirstDifference p sizes k (own_events k es) stray.event) (sym alone.0) alone.1;
}

-- what is found of as many threads as there are is found of all
pub all_threads :
    (p : Program) (sizes : Sizes) (es : List Event) (count : ℕ) (found : Option Stray)
    → length p.threads ≤ count
    → AreComparedUpTo p sizes es count found
    → AreCompared p sizes es found
all_threads p sizes es count None all were = λ thread lt. were thread (omega (arith, lt, all))
all_threads p sizes es count (Some stray) all were = were
