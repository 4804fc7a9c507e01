use Rattle.std.proofs.Common.{◌≡◌, refl, sym, ◌∙◌, true, false, length, ◌≤◌, rules, arith}
use Rattle.st_grammar.specs.declared.sorts.Sort.TheVariants as sort
use Rattle.st_grammar_laws.specs.Reading.{is_sort, sees, field_after, fields_after}
use Rattle.st_grammar.specs.Sorts.{same_sort}
use Rattle.st_parse.proofs.ReadsLemmas.{reads_ok, reads_err, loop_stops, handed_on}
use Rattle.st_parse.proofs.Turns.{no_turn, turn_taken}
use Rattle.st_parse.proofs.places.fields_after.Goals as goal

pub returns-in_err-object-clause-reads : goal.returns-in_err-object-clause-reads
unfolding fields_after sees same_sort
returns-in_err-object-clause-reads c =
    handed_on (λ e. e) _ c.from_residual.result _ _ c.from_residual.ensures.1
    (loop_stops (is_sort sort.Dot) field_after c.loop-alloc.object c.loop-alloc.cursor _ _ _
    refl c.loop-alloc.invariant.same (sym c.sees.ensures ∙ c.loop-alloc-test.true) c.in_err-object.ensures.reads)

pub loop-alloc-preserved : goal.loop-alloc-preserved
unfolding fields_after sees same_sort
loop-alloc-preserved c = record {
  same = c.loop-alloc.invariant.same ∙ turn_taken (is_sort sort.Dot) field_after c.loop-alloc.object c.in_ok-object.object c.loop-alloc.cursor c.field_after.new.cursor
      (sym c.sees.ensures ∙ c.loop-alloc-test.true) c.in_ok-object.ensures.reads c.in_ok-object.ensures.shorter;
  no_longer = omega (arith, c.loop-alloc.invariant.no_longer, c.in_ok-object.ensures.shorter);
}

pub returns-clause-reads : goal.returns-clause-reads
unfolding fields_after sees same_sort
returns-clause-reads c =
    c.loop-alloc.invariant.same ∙ no_turn (is_sort sort.Dot) field_after c.loop-alloc.object c.loop-alloc.cursor (sym c.sees.ensures ∙ c.loop-alloc-test.false)
