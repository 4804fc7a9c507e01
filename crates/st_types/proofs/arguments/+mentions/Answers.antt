use Rattle.std.proofs.Common.{◌+◌, drop, map, ◌∙◌, ap}
use Rattle.std.specs.List.{flat_map}
use Rattle.st_types.specs.Scopes.{local_view}
use Rattle.st_types.specs.Statements.{mentions, numbers_of}
use Rattle.st_types.proofs.ArgumentLemmas.{numbers_of_append, mentions_go, mentions_of_call, mentions_of_binary, mentions_of_cond}
use Rattle.st_types.proofs.arguments.+mentions.Goals as goal

pub add_all-loop-e-preserved : goal.add_all-loop-e-preserved
add_all-loop-e-preserved t c =
    let locals = map local_view c.args.locals.now in
    let es = c.args.es.now in
    let i = c.loop-e.e-index in
    ap (numbers_of locals (flat_map mentions (drop (i + 1) es))) (c.in_ok-add_mentioned.ensures ∙ ap (λ e. numbers_of locals (mentions e) c.loop-e.numbers.items) c.e-item.is)
    ∙ mentions_go locals es i c.e-item.result c.loop-e.numbers.items c.loop-e-test.true ∙ c.loop-e.invariant

pub add_mentioned-returns-in-Call : goal.add_mentioned-returns-in-Call
add_mentioned-returns-in-Call t c =
    rw (c.in-Call.is, mentions_of_call c.in-Call.name c.in-Call.args c.in-Call.site, ← c.as_slice-in-Call.ensures) c.add_all.ensures

pub add_mentioned-returns-in_ok-add_mentioned-in-Binary : goal.add_mentioned-returns-in_ok-add_mentioned-in-Binary
add_mentioned-returns-in_ok-add_mentioned-in-Binary t c =
    let locals = map local_view c.args.locals.now in
    rw (
      c.in-Binary.is,
      mentions_of_binary c.in-Binary.op c.in-Binary.left c.in-Binary.right c.in-Binary.site,
      numbers_of_append locals (mentions c.in-Binary.left) (mentions c.in-Binary.right) c.args.numbers.now.items,
      ← c.get-in-Binary.ensures,
      ← c.in_ok-add_mentioned-in-Binary.ensures,
      ← c.get-in-Binary-2.ensures,
    ) c.add_mentioned-in-Binary-2.ensures

pub add_mentioned-returns-in_ok-add_mentioned-in-Cond-2 : goal.add_mentioned-returns-in_ok-add_mentioned-in-Cond-2
add_mentioned-returns-in_ok-add_mentioned-in-Cond-2 t c =
    let locals = map local_view c.args.locals.now in
    rw (
      c.in-Cond.is,
      mentions_of_cond c.in-Cond.test c.in-Cond.yes c.in-Cond.no c.in-Cond.site,
      numbers_of_append locals (mentions c.in-Cond.test) _ c.args.numbers.now.items,
      numbers_of_append locals (mentions c.in-Cond.yes) (mentions c.in-Cond.no) _,
      ← c.get-in-Cond.ensures,
      ← c.in_ok-add_mentioned-in-Cond.ensures,
      ← c.get-in-Cond-2.ensures,
      ← c.in_ok-add_mentioned-in-Cond-2.ensures,
      ← c.get-in-Cond-3.ensures,
    ) c.add_mentioned-in-Cond-3.ensures
