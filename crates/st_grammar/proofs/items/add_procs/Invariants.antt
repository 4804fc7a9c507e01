use Rattle.std.proofs.Common.{◌≡◌, ◌++◌, take}
use Rattle.std.specs.List.{flat_map}
use Rattle.st_grammar.specs.Counts as spec
use Rattle.st_grammar.proofs.items.add_procs.Given as goal

abbrev pub invariant-loop-proc : goal.invariant-loop-proc
invariant-loop-proc l = l.items.items ≡ l.initial.items.items ++ flat_map spec.proc_items (take l.proc-index l.procs)
