use Rattle.std.proofs.Common.{◌≡◌, ◌<◌, length}
use Rattle.st_grammar_laws.specs.Reading as spec
use Rattle.st_grammar.specs.declared.sorts.Sort.TheVariants as sort
use Rattle.st_parse.proofs.declarations.listed_params.Given as goal

abbrev pub invariant-loop-alloc : goal.invariant-loop-alloc
invariant-loop-alloc l = record {
  same : spec.listed spec.param l.fn.cursor ≡ spec.turns (spec.is_sort sort.Comma) (spec.one_more (spec.after_comma spec.param)) l.found l.cursor;
  shorter : length l.cursor < length l.fn.cursor;
}

abbrev pub decreases-loop-alloc : goal.decreases-loop-alloc
decreases-loop-alloc l = length l.cursor
