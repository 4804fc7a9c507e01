use Rattle.std.proofs.Common.{refl, ap, ◌∙◌, map, length}
use Rattle.st_types.specs.declared.scopes.Local.{Local}
use Rattle.st_types.specs.Routines.{routed_at}
use Rattle.st_types.specs.Statements.{known_kind}
use Rattle.st_types.specs.Walks.{launched_of}
use Rattle.st_types.proofs.CheckedLemmas.{gives_fault}
use Rattle.st_types.proofs.RoutineLemmas.{body_is, body_fails, begun}
use Rattle.st_types.proofs.routines.body.Goals as goal

pub returns-in_err-statements : goal.returns-in_err-statements
returns-in_err-statements c =
    gives_fault (routed_at c.replace.new.dest) c.from_residual-in_err-statements.result _ c.in_err-statements.field-0.0 c.from_residual-in_err-statements.ensures.1
    (body_fails c.args.program.now c.args.params.now c.args.statements.now (map launched_of c.args.checks.now.items)
    (record { locals = c.in_ok-param_locals.field-0; checks = c.replace.result }) c.in_err-statements.field-0.0
    (begun c.args.program.now c.args.params.now c.args.checks.now c.in_ok-param_locals.field-0 c.replace.result c.in_ok-param_locals.ensures c.replace.ensures.value)
    c.in_err-statements.ensures)

pub returns : goal.returns
returns c =
    body_is c.args.program.now c.args.params.now c.args.statements.now (map launched_of c.args.checks.now.items)
    (record { locals = c.in_ok-param_locals.field-0; checks = c.replace.result }) c.statements_in.new.walk c.in_ok-statements.statements c.from_vec-locals.result
    (length c.args.params.now)
    (begun c.args.program.now c.args.params.now c.args.checks.now c.in_ok-param_locals.field-0 c.replace.result c.in_ok-param_locals.ensures c.replace.ensures.value)
    c.in_ok-statements.ensures
    (c.from_vec-locals.ensures ∙ (c.in_ok-kinds_of.ensures ∙ ap (map (λ (l : Local). known_kind l.kind)) c.deref.ensures.value)) refl
