use Rattle.std.proofs.Common.{rules, append-nil}
use Rattle.st_ast.specs.Lines.{class_lines}
use Rattle.st_ast.proofs.WrittenLemmas.{lines_none, lines_step}
use Rattle.st_ast.proofs.printing.add_classes.Goals as goal

pub loop-class-init : goal.loop-class-init
loop-class-init c = search (rules, append-nil, lines_none)

pub loop-class-preserved : goal.loop-class-preserved
loop-class-preserved c =
    lines_step class_lines c.args.classes.now c.loop-class.class-index c.class-item.result c.args.text.now.items c.loop-class.text.items c.add_class.new.text.items
    c.loop-class-test.true c.class-item.is c.loop-class.invariant c.in_ok-add_class.ensures
