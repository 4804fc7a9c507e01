use Rattle.std.proofs.Common.{◌≡◌, ◌++◌, take}
use Rattle.std.specs.List.{flat_map}
use Rattle.st_ast.specs.Lines as spec
use Rattle.st_ast.specs.Lines.{lines_text}
use Rattle.st_ast.proofs.printing.add_threads.Given as goal

abbrev pub invariant-loop-thread : goal.invariant-loop-thread
invariant-loop-thread l = l.text.items ≡ l.initial.text.items ++ lines_text (flat_map spec.thread_lines (take l.thread-index l.threads))
