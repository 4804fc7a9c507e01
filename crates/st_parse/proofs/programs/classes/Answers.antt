use Rattle.std.proofs.Common.{◌≡◌, true, false, [], ◌∷◌, ◌++◌, refl, ap, sym, subst, ◌∙◌, arith}
use Rattle.st_grammar.specs.declared.sorts.Sort.TheVariants as sort
use Rattle.st_grammar_laws.specs.Reading as spec
use Rattle.st_grammar_laws.specs.Reading.{is_sort, one_more, sees}
use Rattle.st_grammar.specs.Sorts.{same_sort}
use Rattle.st_parse.proofs.ReadsLemmas.{handed_on, loop_stops, more_made, more_stops, many_begins, listed_begins}
use Rattle.st_parse.proofs.Turns.{no_turn, turn_taken}
use Rattle.st_parse.proofs.programs.classes.Goals as goal

pub loop-alloc-init : goal.loop-alloc-init
loop-alloc-init c = many_begins (is_sort sort.Class) spec.class c.new-found.result c.args.cursor.now c.new-found.ensures

pub returns-in_err-class : goal.returns-in_err-class
unfolding sees same_sort
returns-in_err-class c =
    handed_on (λ found. found) _ c.from_residual.result _ _ c.from_residual.ensures.1
    (loop_stops (is_sort sort.Class) (one_more spec.class) c.loop-alloc.found c.loop-alloc.cursor _ _ _
    refl c.loop-alloc.invariant (sym c.sees.ensures ∙ c.loop-alloc-test.true) (more_stops spec.class c.loop-alloc.found c.loop-alloc.cursor c.class.new.cursor _ c.in_err-class.ensures.reads))

pub loop-alloc-preserved : goal.loop-alloc-preserved
unfolding sees same_sort
loop-alloc-preserved c =
    c.loop-alloc.invariant ∙ turn_taken (is_sort sort.Class) (one_more spec.class) c.loop-alloc.found c.push.new.self c.loop-alloc.cursor c.class.new.cursor
    (sym c.sees.ensures ∙ c.loop-alloc-test.true)
    (more_made spec.class c.loop-alloc.found c.push.new.self c.in_ok-class.field-0 c.loop-alloc.cursor c.class.new.cursor c.in_ok-class.ensures.reads c.in_ok-push.ensures.ok)
    c.in_ok-class.ensures.shorter

pub returns : goal.returns
unfolding sees same_sort
returns c = c.loop-alloc.invariant ∙ no_turn (is_sort sort.Class) _ c.loop-alloc.found c.loop-alloc.cursor (sym c.sees.ensures ∙ c.loop-alloc-test.false)
