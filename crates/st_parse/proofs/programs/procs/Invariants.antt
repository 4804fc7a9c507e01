use Rattle.std.proofs.Common.{◌≡◌, ◌≤◌, length}
use Rattle.st_grammar_laws.specs.Reading as spec
use Rattle.st_grammar.specs.declared.sorts.Sort.TheVariants as sort
use Rattle.st_parse.proofs.programs.procs.Given as goal

abbrev pub invariant-loop-alloc : goal.invariant-loop-alloc
invariant-loop-alloc l = spec.many (spec.is_sort sort.Proc) spec.proc l.fn.cursor ≡ spec.turns (spec.is_sort sort.Proc) (spec.one_more spec.proc) l.found l.cursor

abbrev pub decreases-loop-alloc : goal.decreases-loop-alloc
decreases-loop-alloc l = length l.cursor
