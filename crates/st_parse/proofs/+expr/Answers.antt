use Rattle.std.proofs.Common.{◌≡◌, true, false, [], ◌∷◌, ◌++◌, refl, ap, sym, subst, ◌∙◌, rules, arith}
use Rattle.std.specs.Option.{is_some}
use Rattle.st_grammar_laws.specs.declared.levels.Level.TheVariants as level
use Rattle.st_grammar.specs.declared.sorts.Sort.TheVariants as sort
use Rattle.st_grammar.specs.Operators.{chained}
use Rattle.st_grammar_laws.specs.Reading.{nested, choice, unary, link, operand_of, is_operator, is_sort, sees, one_more, after_comma}
use Rattle.st_parse.specs.Reads.{Reads}
use Rattle.st_grammar.specs.Sorts.{same_sort}
use Rattle.st_grammar.specs.Terminals.{next_sort}
use Rattle.st_parse.proofs.NestedLemmas.{nested_whole, nested_prefixed, no_operator, linked_begins}
use Rattle.st_parse.proofs.ReadsLemmas.{memory_gone, handed_on, loop_stops, more_made, more_stops, listed_begins}
use Rattle.st_parse.proofs.Turns.{no_turn, turn_taken}
use Rattle.st_parse.proofs.+expr.Goals as goal

pub primaries::named-returns-in_err-local-clause-reads : goal.primaries::named-returns-in_err-local-clause-reads
primaries::named-returns-in_err-local-clause-reads n c =
    memory_gone (λ e. e) _ c.from_residual-in_err-local.result _ c.from_residual-in_err-local.ensures.1

pub expressions::nested-returns-in-Whole-clause-reads : goal.expressions::nested-returns-in-Whole-clause-reads
expressions::nested-returns-in-Whole-clause-reads n c =
    subst (λ r. Reads (λ e. e) (r c.args.cursor.now) c.choice.result c.choice.new.cursor)
    (sym (ap (nested c.args.depth) c.in-Whole.is ∙ nested_whole c.args.depth c.if-depth-eq0.false)) c.choice.ensures.reads

pub expressions::nested-returns-in-Prefixed-clause-reads : goal.expressions::nested-returns-in-Prefixed-clause-reads
expressions::nested-returns-in-Prefixed-clause-reads n c =
    subst (λ r. Reads (λ e. e) (r c.args.cursor.now) c.unary.result c.unary.new.cursor)
    (sym (ap (nested c.args.depth) c.in-Prefixed.is ∙ nested_prefixed c.args.depth c.if-depth-eq0.false)) c.unary.ensures.reads

pub chains::linked-loop-alloc-init : goal.chains::linked-loop-alloc-init
chains::linked-loop-alloc-init n c = record {
  same = linked_begins (nested c.args.depth) c.args.chain _ c.in_ok-left.left c.args.cursor.now c.operand.new.cursor c.in_ok-left.ensures.reads;
  shorter = c.in_ok-left.ensures.shorter;
}

pub chains::linked-returns-in_err-left-2-clause-reads : goal.chains::linked-returns-in_err-left-2-clause-reads
chains::linked-returns-in_err-left-2-clause-reads n c =
    let asked : is_operator c.args.chain (next_sort c.loop-alloc.cursor) ≡ true =
    ap (is_operator c.args.chain) (sym c.next_sort.ensures) ∙ ap is_some (sym c.operator.ensures) ∙ sym c.is_some.ensures ∙ c.loop-alloc-test.true in
    handed_on (λ e. e) _ c.from_residual-in_err-left-2.result _ _ c.from_residual-in_err-left-2.ensures.1
    (loop_stops (is_operator c.args.chain) (link (nested c.args.depth) c.args.chain (operand_of (nested c.args.depth) c.args.chain)) c.loop-alloc.left c.loop-alloc.cursor _ _ _
    (no_operator c.args.chain) c.loop-alloc.invariant.same asked c.in_err-left-2.ensures.reads)

pub chains::linked-loop-alloc-preserved : goal.chains::linked-loop-alloc-preserved
chains::linked-loop-alloc-preserved n c =
    let asked : is_operator c.args.chain (next_sort c.loop-alloc.cursor) ≡ true =
    ap (is_operator c.args.chain) (sym c.next_sort.ensures) ∙ ap is_some (sym c.operator.ensures) ∙ sym c.is_some.ensures ∙ c.loop-alloc-test.true in
    record {
      same = c.loop-alloc.invariant.same
          ∙ turn_taken (is_operator c.args.chain) (link (nested c.args.depth) c.args.chain (operand_of (nested c.args.depth) c.args.chain)) c.loop-alloc.left c.in_ok-left-2.left
          c.loop-alloc.cursor c.link.new.cursor asked c.in_ok-left-2.ensures.reads c.in_ok-left-2.ensures.shorter;
      shorter = omega (arith, c.loop-alloc.invariant.shorter, c.in_ok-left-2.ensures.shorter);
    }

pub chains::linked-returns-clause-reads : goal.chains::linked-returns-clause-reads
chains::linked-returns-clause-reads n c =
    let over : is_operator c.args.chain (next_sort c.loop-alloc.cursor) ≡ false =
    ap (is_operator c.args.chain) (sym c.next_sort.ensures) ∙ ap is_some (sym c.operator.ensures) ∙ sym c.is_some.ensures ∙ c.loop-alloc-test.false in
    c.loop-alloc.invariant.same ∙ no_turn (is_operator c.args.chain) _ c.loop-alloc.left c.loop-alloc.cursor over

pub arguments::series-loop-alloc-init : goal.arguments::series-loop-alloc-init
arguments::series-loop-alloc-init n c = record {
  same = listed_begins (nested c.args.depth level.Whole) c.in_ok-nested.field-0 c.push.new.self c.args.cursor.now c.nested.new.cursor c.in_ok-nested.ensures.reads
      (c.in_ok-push.ensures.ok ∙ ap (λ l. l ++ c.in_ok-nested.field-0 ∷ []) c.new-found.ensures);
  shorter = c.in_ok-nested.ensures.shorter;
}

pub arguments::series-returns-in_err-after_comma-clause-reads : goal.arguments::series-returns-in_err-after_comma-clause-reads
unfolding sees same_sort
arguments::series-returns-in_err-after_comma-clause-reads n c =
    handed_on (λ found. found) _ c.from_residual-in_err-after_comma.result _ _ c.from_residual-in_err-after_comma.ensures.1
    (loop_stops (is_sort sort.Comma) (one_more (after_comma (nested c.args.depth level.Whole))) c.loop-alloc.found c.loop-alloc.cursor _ _ _
    refl c.loop-alloc.invariant.same (sym c.sees.ensures ∙ c.loop-alloc-test.true)
    (more_stops (after_comma (nested c.args.depth level.Whole)) c.loop-alloc.found c.loop-alloc.cursor c.after_comma.new.cursor _ c.in_err-after_comma.ensures.reads))

pub arguments::series-loop-alloc-preserved : goal.arguments::series-loop-alloc-preserved
unfolding sees same_sort
arguments::series-loop-alloc-preserved n c = record {
  same = c.loop-alloc.invariant.same
      ∙ turn_taken (is_sort sort.Comma) (one_more (after_comma (nested c.args.depth level.Whole))) c.loop-alloc.found c.push-in-loop-alloc.new.self
      c.loop-alloc.cursor c.after_comma.new.cursor (sym c.sees.ensures ∙ c.loop-alloc-test.true)
      (more_made (after_comma (nested c.args.depth level.Whole)) c.loop-alloc.found c.push-in-loop-alloc.new.self c.in_ok-after_comma.field-0
      c.loop-alloc.cursor c.after_comma.new.cursor c.in_ok-after_comma.ensures.reads c.in_ok-push-2.ensures.ok) c.in_ok-after_comma.ensures.shorter;
  shorter = omega (arith, c.loop-alloc.invariant.shorter, c.in_ok-after_comma.ensures.shorter);
}

pub arguments::series-returns-clause-reads : goal.arguments::series-returns-clause-reads
unfolding sees same_sort
arguments::series-returns-clause-reads n c =
    c.loop-alloc.invariant.same ∙ no_turn (is_sort sort.Comma) _ c.loop-alloc.found c.loop-alloc.cursor (sym c.sees.ensures ∙ c.loop-alloc-test.false)
