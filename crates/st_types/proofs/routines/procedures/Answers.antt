use Rattle.std.proofs.Common.{map}
use Rattle.st_resolved.specs.Views.{routine_of}
use Rattle.st_types.specs.Limits.{proc_tally}
use Rattle.st_types.specs.Routines.{routed_all_at}
use Rattle.st_types.specs.Rules.{walk_proc}
use Rattle.st_types.specs.Walks.{launched_of}
use Rattle.st_types.proofs.CheckedLemmas.{gives_fault}
use Rattle.st_types.proofs.RoutineLemmas.{procs_count, room_goes, routed_are, routed_fails, walked_goes}
use Rattle.st_types.proofs.routines.procedures.Goals as goal

pub loop-i-preserved : goal.loop-i-preserved
loop-i-preserved c = record {
  walked = walked_goes (walk_proc c.args.program.now) c.loop-i.done.items c.push.new.self.items c.in_ok-procedure.field-0 c.as_slice-procs.result.now c.loop-i.i
      c.index-procs-i.result c.loop-i.checks c.procedure.new.checks _ c.loop-i-test.true c.index-procs-i.is c.in_ok-procedure.ensures c.in_ok-push.ensures.items
      c.loop-i.invariant.walked;
  room = room_goes (walk_proc c.args.program.now) proc_tally c.in_ok-procedure.field-0 c.as_slice-procs.result.now c.loop-i.i c.index-procs-i.result c.loop-i.checks
      c.procedure.new.checks (procs_count c.args.program.now) c.loop-i-test.true c.index-procs-i.is c.in_ok-procedure.ensures c.loop-i.invariant.room;
}

pub returns-in_err-procedure : goal.returns-in_err-procedure
returns-in_err-procedure c =
    gives_fault (routed_all_at c.procedure.new.checks) c.from_residual.result _ c.in_err-procedure.field-0.0 c.from_residual.ensures.1
    (routed_fails (walk_proc c.args.program.now) (map routine_of c.loop-i.done.items) c.as_slice-procs.result.now c.args.program.now.procs c.loop-i.i c.index-procs-i.result
    (map launched_of c.loop-i.checks.items) (map launched_of c.args.checks.now.items) c.in_err-procedure.field-0.0 c.loop-i-test.true c.index-procs-i.is
    c.as_slice-procs.ensures c.in_err-procedure.ensures c.loop-i.invariant.walked)

pub returns : goal.returns
returns c =
    routed_are (walk_proc c.args.program.now) c.as_slice-procs.result.now c.args.program.now.procs c.loop-i.i c.loop-i.done.items c.from_vec.result c.loop-i.checks
    (map launched_of c.args.checks.now.items) c.loop-i-test.false c.as_slice-procs.ensures c.from_vec.ensures c.loop-i.invariant.walked
