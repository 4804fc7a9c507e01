use Rattle.std.proofs.Common.{◌+◌, Option, sym, subst, arith}
use Rattle.st_resolved.specs.Views.{program_of}
use Rattle.st_audit.specs.declared.strays.Stray.{Stray}
use Rattle.st_audit.specs.Findings.{AreComparedUpTo}
use Rattle.st_audit.proofs.StrayLemmas.{one_thread_more, all_threads}
use Rattle.st_audit.proofs.strays.first_stray.Goals as goal

pub loop-thread-preserved : goal.loop-thread-preserved
loop-thread-preserved c =
    subst (λ (o : Option Stray). AreComparedUpTo (program_of c.args.program.now) c.args.sizes.now c.args.events.now (c.loop-thread.thread + 1) o) (sym c.first_of-found.ensures)
    (one_thread_more (program_of c.args.program.now) c.args.sizes.now c.args.events.now c.loop-thread.thread c.loop-thread.found c.in_ok-stray.stray
    (omega (arith, c.loop-thread-test.true, c.requires.threads)) c.loop-thread.invariant c.in_ok-stray.ensures)

pub returns : goal.returns
returns c =
    all_threads (program_of c.args.program.now) c.args.sizes.now c.args.events.now c.loop-thread.thread c.loop-thread.found
    (omega (arith, c.loop-thread-test.false, c.requires.threads)) c.loop-thread.invariant
