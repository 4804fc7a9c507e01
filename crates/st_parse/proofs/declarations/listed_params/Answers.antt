use Rattle.std.proofs.Common.{◌≡◌, true, false, [], ◌∷◌, ◌++◌, refl, ap, sym, subst, ◌∙◌, arith}
use Rattle.st_grammar.specs.declared.sorts.Sort.TheVariants as sort
use Rattle.st_grammar_laws.specs.Reading as spec
use Rattle.st_grammar_laws.specs.Reading.{is_sort, one_more, sees}
use Rattle.st_grammar.specs.Sorts.{same_sort}
use Rattle.st_parse.proofs.ReadsLemmas.{handed_on, loop_stops, more_made, more_stops, many_begins, listed_begins}
use Rattle.st_parse.proofs.Turns.{no_turn, turn_taken}
use Rattle.st_grammar_laws.specs.Reading.{after_comma}
use Rattle.st_parse.specs.Reads.{StopsAt}
use Rattle.st_parse.proofs.ReadsLemmas.{listed_stops}
use Rattle.st_parse.proofs.declarations.listed_params.Goals as goal

pub returns-in_err-param-clause-reads : goal.returns-in_err-param-clause-reads
returns-in_err-param-clause-reads c =
    handed_on (λ found. found) _ c.from_residual.result _ _ c.from_residual.ensures.1
    (listed_stops spec.param c.args.cursor.now c.param.new.cursor _ c.in_err-param.ensures.reads)

pub loop-alloc-init : goal.loop-alloc-init
loop-alloc-init c = record {
  same = listed_begins spec.param c.in_ok-param.field-0 c.push.new.self c.args.cursor.now c.param.new.cursor c.in_ok-param.ensures.reads
      (c.in_ok-push.ensures.ok ∙ ap (λ l. l ++ c.in_ok-param.field-0 ∷ []) c.new-found.ensures);
  shorter = c.in_ok-param.ensures.shorter;
}

pub returns-in_err-next_param-clause-reads : goal.returns-in_err-next_param-clause-reads
unfolding sees same_sort
returns-in_err-next_param-clause-reads c =
    handed_on (λ found. found) _ c.from_residual-in_err-next_param.result _ _ c.from_residual-in_err-next_param.ensures.1
    (loop_stops (is_sort sort.Comma) (one_more (after_comma spec.param)) c.loop-alloc.found c.loop-alloc.cursor _ _ _
    refl c.loop-alloc.invariant.same (sym c.sees.ensures ∙ c.loop-alloc-test.true)
    (more_stops (after_comma spec.param) c.loop-alloc.found c.loop-alloc.cursor c.next_param.new.cursor _ c.in_err-next_param.ensures.reads))

pub loop-alloc-preserved : goal.loop-alloc-preserved
unfolding sees same_sort
loop-alloc-preserved c = record {
  same = c.loop-alloc.invariant.same
      ∙ turn_taken (is_sort sort.Comma) (one_more (after_comma spec.param)) c.loop-alloc.found c.push-in-loop-alloc.new.self c.loop-alloc.cursor c.next_param.new.cursor
      (sym c.sees.ensures ∙ c.loop-alloc-test.true)
      (more_made (after_comma spec.param) c.loop-alloc.found c.push-in-loop-alloc.new.self c.in_ok-next_param.field-0 c.loop-alloc.cursor c.next_param.new.cursor
      c.in_ok-next_param.ensures.reads c.in_ok-push-2.ensures.ok)
      c.in_ok-next_param.ensures.shorter;
  shorter = omega (arith, c.loop-alloc.invariant.shorter, c.in_ok-next_param.ensures.shorter);
}

pub returns-clause-reads : goal.returns-clause-reads
unfolding sees same_sort
returns-clause-reads c =
    c.loop-alloc.invariant.same ∙ no_turn (is_sort sort.Comma) _ c.loop-alloc.found c.loop-alloc.cursor (sym c.sees.ensures ∙ c.loop-alloc-test.false)
