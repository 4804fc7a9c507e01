use Rattle.st_resolved.specs.Views.{program_of}
use Rattle.st_audit.specs.Findings.{AreComparedUpTo}
use Rattle.st_audit.proofs.strays.first_stray.Given as goal

-- the threads before this one were compared
abbrev pub invariant-loop-thread : goal.invariant-loop-thread
invariant-loop-thread l = AreComparedUpTo (program_of l.program) l.sizes l.events l.thread l.found
