use Rattle.std.proofs.Common.{◌≡◌, ◌++◌, take}
use Rattle.std.specs.List.{flat_map}
use Rattle.st_grammar.specs.Counts as spec
use Rattle.st_grammar.proofs.items.add_threads.Given as goal

abbrev pub invariant-loop-thread : goal.invariant-loop-thread
invariant-loop-thread l = l.items.items ≡ l.initial.items.items ++ flat_map spec.thread_items (take l.thread-index l.threads)
