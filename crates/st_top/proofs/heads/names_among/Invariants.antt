use Rattle.std.proofs.Common.{◌≡◌, map, take}
use Rattle.st_top.proofs.heads.names_among.Given as goal

-- the names of the threads so far
abbrev pub invariant-loop-thread : goal.invariant-loop-thread
invariant-loop-thread l = map (λ name. name.now) l.names.items ≡ map (λ thread. thread.name) (take l.thread-index l.threads)
