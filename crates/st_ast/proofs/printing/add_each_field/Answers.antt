use Rattle.std.proofs.Common.{rules, append-nil}
use Rattle.st_ast.specs.Lines.{field_line}
use Rattle.std.proofs.Common.{◌∷◌, []}
use Rattle.st_ast.proofs.WrittenLemmas.{lines_none, lines_step}
use Rattle.st_ast.proofs.printing.add_each_field.Goals as goal

pub loop-field-init : goal.loop-field-init
loop-field-init c = search (rules, append-nil, lines_none)

pub loop-field-preserved : goal.loop-field-preserved
loop-field-preserved c =
    lines_step (λ field. field_line field ∷ []) c.args.fields.now c.loop-field.field-index c.field-item.result c.args.text.now.items c.loop-field.text.items c.add_field.new.text.items
    c.loop-field-test.true c.field-item.is c.loop-field.invariant c.in_ok-add_field.ensures
