use Rattle.st_resolved.specs.Views.{program_of}
use Rattle.st_audit.proofs.DifferenceLemmas.{IsComparedUpTo}
use Rattle.st_audit.proofs.differences.first_difference.Given as goal

-- the own events before this one were compared
abbrev pub invariant-loop-event : goal.invariant-loop-event
invariant-loop-event l = IsComparedUpTo (program_of l.program) l.sizes l.m l.events l.event-index l.thread l.want l.count
