use Rattle.std.proofs.Common.{◌≡◌, ◌≤◌, length}
use Rattle.st_grammar_laws.specs.Reading as spec
use Rattle.st_grammar.specs.declared.sorts.Sort.TheVariants as sort
use Rattle.st_parse.proofs.declarations.fields.Given as goal

abbrev pub invariant-loop-alloc : goal.invariant-loop-alloc
invariant-loop-alloc l = record {
  same : spec.many (spec.is_sort sort.Name) spec.field l.fn.cursor ≡ spec.turns (spec.is_sort sort.Name) (spec.one_more spec.field) l.found l.cursor;
  no_longer : length l.cursor ≤ length l.fn.cursor;
}

abbrev pub decreases-loop-alloc : goal.decreases-loop-alloc
decreases-loop-alloc l = length l.cursor
