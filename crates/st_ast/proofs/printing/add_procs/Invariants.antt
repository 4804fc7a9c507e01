use Rattle.std.proofs.Common.{◌≡◌, ◌++◌, take}
use Rattle.std.specs.List.{flat_map}
use Rattle.st_ast.specs.Lines as spec
use Rattle.st_ast.specs.Lines.{lines_text}
use Rattle.st_ast.proofs.printing.add_procs.Given as goal

abbrev pub invariant-loop-proc : goal.invariant-loop-proc
invariant-loop-proc l = l.text.items ≡ l.initial.text.items ++ lines_text (flat_map spec.proc_lines (take l.proc-index l.procs))
