use Rattle.std.proofs.Common.{◌+◌, ◌++◌, ◌∷◌, [], Some, sym, ◌∙◌, ap, map, drop, get_or, arith}
use Rattle.std.proofs.lemmas.List.{map-append}
use Rattle.st_ast.specs.declared.statements.Stmt.TheVariants as stmts
use Rattle.st_resolved.specs.Views.{command_of}
use Rattle.st_types.specs.Stepwise.{step}
use Rattle.st_types.specs.Tallies.{tally_all, tally}
use Rattle.st_types.specs.Scopes.{scope_view}
use Rattle.st_types.specs.Typing.{seen_of}
use Rattle.st_types.specs.Walks.{reached_of, stepped_at}
use Rattle.st_types.proofs.BlockLemmas.{steps_go, steps_end}
use Rattle.st_types.proofs.GrowthLemmas.{behind_statement, behind_statements, behind_block, room_for_first, room_for_second}
use Rattle.st_types.proofs.StepEquations.{if_without_else}
use Rattle.st_types.proofs.TallyLemmas.{tally_goes, tally_of_if, tally_of_while}
use Rattle.st_types.proofs.WeightLemmas.{weight, weight_all, weight_within, first_weighs_less, other_weighs_less, body_weighs_less}
use Rattle.st_types.proofs.statements.+statements.Goals as goal

pub block-close-requires : goal.block-close-requires
block-close-requires t c =
    let more = behind_statements c.args.program.now c.args.statements.now c.args.walk.now c.statements_in.new.walk c.in_ok-done.done c.in_ok-done.ensures in
    omega (arith, c.len-before.ensures, more.locals, c.args.walk.now.locals.ok.0)

pub statements_in-loop-statement-preserved : goal.statements_in-loop-statement-preserved
statements_in-loop-statement-preserved t c =
    let p = c.args.program.now in
    let ss = c.args.statements.now in
    let i = c.loop-statement.statement-index in
    let d = c.statement-item.result in
    let before = c.loop-statement.walk in
    let after = c.typed_statement.new.walk in
    let front = map command_of c.loop-statement.done.items in
    let here = ap (λ s. step p s (reached_of before)) (sym c.statement-item.is) ∙ c.in_ok-typed_statement.ensures in
    let joined = c.in_ok-push.ensures.items ∙ ap (λ s. c.loop-statement.done.items ++ s ∷ []) c.into_inner.ensures in
    record {
      walked =
          rw (joined, map-append command_of c.loop-statement.done.items (c.in_ok-typed_statement.field-0 ∷ []))
          (steps_go (step p) front ss i d (reached_of before) (stepped_at after c.in_ok-typed_statement.field-0) c.loop-statement-test.true here ∙ c.loop-statement.invariant.walked);
      room = room_for_second before after (tally (get_or ss i d)) (tally_all (drop (i + 1) ss))
          (rw (tally_goes ss i d c.loop-statement-test.true) at c.loop-statement.invariant.room)
          (behind_statement p (get_or ss i d) before after c.in_ok-typed_statement.field-0 here);
    }

pub statements_in-returns : goal.statements_in-returns
statements_in-returns t c =
    rw c.from_vec.ensures
    (sym c.loop-statement.invariant.walked
    ∙ steps_end (step c.args.program.now) (map command_of c.loop-statement.done.items) c.args.statements.now
    c.loop-statement.statement-index (reached_of c.loop-statement.walk) c.loop-statement-test.false)

pub typed_statement-block-requires : goal.typed_statement-block-requires
typed_statement-block-requires t c =
    let room = rw (c.in-If.is, tally_of_if c.in-If.cond c.in-If.then c.in-If.other c.in-If.site) at c.requires.room in
    let less = first_weighs_less c.in-If.cond c.in-If.then c.in-If.other c.in-If.site in
    (omega (arith, less, c.decreases, ap weight c.in-If.is, ap weight_all c.as_slice-in-If.ensures), (c.requires.names, rw c.as_slice-in-If.ensures (room_for_first c.args.walk.now _ _ room)))

pub typed_statement-block-requires-in-Some : goal.typed_statement-block-requires-in-Some
typed_statement-block-requires-in-Some t c =
    let room = rw (c.in-If.is, c.in-Some.is, tally_of_if c.in-If.cond c.in-If.then (Some c.in-Some.other) c.in-If.site) at c.requires.room in
    let behind = behind_block c.args.program.now c.in-If.then c.as_slice-in-If.result.now c.args.walk.now c.block.new.walk c.in_ok-then-in-If.then
    c.as_slice-in-If.ensures c.in_ok-then-in-If.ensures in
    let less = other_weighs_less c.in-If.cond c.in-If.then c.in-Some.other c.in-If.site in
    let is = c.in-If.is ∙ ap (λ other. stmts.If c.in-If.cond c.in-If.then other c.in-If.site) c.in-Some.is in (
      omega (arith, less, c.decreases, ap weight is, ap weight_all c.as_slice-in-Some.ensures),
      (c.requires.names, rw c.as_slice-in-Some.ensures (room_for_second c.args.walk.now c.block.new.walk _ _ room behind)),
    )

pub typed_statement-block-requires-in-While : goal.typed_statement-block-requires-in-While
typed_statement-block-requires-in-While t c =
    let room = rw (c.in-While.is, tally_of_while c.in-While.cond c.in-While.body c.in-While.site) at c.requires.room in
    let less = body_weighs_less c.in-While.cond c.in-While.body c.in-While.site in
    (omega (arith, less, c.decreases, ap weight c.in-While.is, ap weight_all c.as_slice-in-While.ensures), (c.requires.names, rw c.as_slice-in-While.ensures room))

pub typed_statement-returns-in-None : goal.typed_statement-returns-in-None
typed_statement-returns-in-None t c =
    rw (c.in-If.is, c.in-None.is)
    (if_without_else c.args.program.now c.in-If.cond c.in-If.then c.as_slice-in-If.result.now c.in-If.site c.args.walk.now c.block.new.walk
    (scope_view c.scope-in-If.result) (seen_of c.in_ok-test-in-If.test) c.in_ok-then-in-If.then c.new.result c.if_statement-in-None.result
    c.scope-in-If.ensures.view c.in_ok-test-in-If.ensures c.as_slice-in-If.ensures c.in_ok-then-in-If.ensures c.new.ensures c.if_statement-in-None.ensures)

pub statements_in-typed_statement-requires : goal.statements_in-typed_statement-requires
statements_in-typed_statement-requires t c =
    let ss = c.args.statements.now in
    let i = c.loop-statement.statement-index in
    let less = weight_within ss i c.statement-item.result c.loop-statement-test.true in
    let room = rw (tally_goes ss i c.statement-item.result c.loop-statement-test.true) at c.loop-statement.invariant.room in (
      omega (arith, less, c.decreases, ap weight c.statement-item.is),
      (c.requires.names, rw c.statement-item.is (room_for_first c.loop-statement.walk _ _ room)),
    )
