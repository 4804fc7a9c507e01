use Rattle.std.proofs.Common.{◌≡◌, ◌≤◌, length}
use Rattle.st_grammar_laws.specs.Reading as spec
use Rattle.st_parse.proofs.places.fields_after.Given as goal

abbrev pub invariant-loop-alloc : goal.invariant-loop-alloc
invariant-loop-alloc l = record {
  same : spec.fields_after l.initial.object l.initial.cursor ≡ spec.fields_after l.object l.cursor;
  no_longer : length l.cursor ≤ length l.initial.cursor;
}

abbrev pub decreases-loop-alloc : goal.decreases-loop-alloc
decreases-loop-alloc l = length l.cursor
