use Rattle.std.specs.Prelude.{codes}
use Rattle.st_ast.specs.Lines.{proc_words}
use Rattle.st_ast.proofs.WrittenLemmas.{head_in_parts}
use Rattle.st_ast.proofs.printing.add_proc_head.Goals as goal

pub returns : goal.returns
returns c =
    head_in_parts c.end_line.result (proc_words c.args.proc.now) (codes "{") c.args.text.now.items c.add_proc_words.new.text.items
    c.end_line.new.text.items c.in_ok-add_proc_words.ensures c.end_line.ensures
