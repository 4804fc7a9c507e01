use Rattle.std.proofs.Common.{◌≡◌, true, false, [], ◌∷◌, ◌++◌, refl, ap, sym, subst, ◌∙◌, arith}
use Rattle.st_grammar.specs.declared.sorts.Sort.TheVariants as sort
use Rattle.st_grammar_laws.specs.Reading as spec
use Rattle.st_grammar_laws.specs.Reading.{is_sort, one_more, sees}
use Rattle.st_grammar.specs.Sorts.{same_sort}
use Rattle.st_parse.proofs.ReadsLemmas.{handed_on, loop_stops, more_made, more_stops, many_begins, listed_begins}
use Rattle.st_parse.proofs.Turns.{no_turn, turn_taken}
use Rattle.st_parse.proofs.declarations.fields.Goals as goal

pub loop-alloc-init : goal.loop-alloc-init
loop-alloc-init c = record {
  same = many_begins (is_sort sort.Name) spec.field c.new-found.result c.args.cursor.now c.new-found.ensures;
  no_longer = omega arith;
}

pub returns-in_err-field-clause-reads : goal.returns-in_err-field-clause-reads
unfolding sees same_sort
returns-in_err-field-clause-reads c =
    handed_on (λ found. found) _ c.from_residual.result _ _ c.from_residual.ensures.1
    (loop_stops (is_sort sort.Name) (one_more spec.field) c.loop-alloc.found c.loop-alloc.cursor _ _ _
    refl c.loop-alloc.invariant.same (sym c.sees.ensures ∙ c.loop-alloc-test.true) (more_stops spec.field c.loop-alloc.found c.loop-alloc.cursor c.field.new.cursor _ c.in_err-field.ensures.reads))

pub loop-alloc-preserved : goal.loop-alloc-preserved
unfolding sees same_sort
loop-alloc-preserved c = record {
  same = c.loop-alloc.invariant.same ∙ turn_taken (is_sort sort.Name) (one_more spec.field) c.loop-alloc.found c.push.new.self c.loop-alloc.cursor c.field.new.cursor
      (sym c.sees.ensures ∙ c.loop-alloc-test.true)
      (more_made spec.field c.loop-alloc.found c.push.new.self c.in_ok-field.field-0 c.loop-alloc.cursor c.field.new.cursor c.in_ok-field.ensures.reads c.in_ok-push.ensures.ok)
      c.in_ok-field.ensures.shorter;
  no_longer = omega (arith, c.loop-alloc.invariant.no_longer, c.in_ok-field.ensures.shorter);
}

pub returns-clause-reads : goal.returns-clause-reads
unfolding sees same_sort
returns-clause-reads c = c.loop-alloc.invariant.same ∙ no_turn (is_sort sort.Name) _ c.loop-alloc.found c.loop-alloc.cursor (sym c.sees.ensures ∙ c.loop-alloc-test.false)
