use Rattle.st_types.specs.Outcomes.{bodies_of}
use Rattle.st_types.proofs.CheckedLemmas.{gives_fault}
use Rattle.st_types.proofs.OutcomeLemmas.{bodies_are, procs_fail, room_for_procs, room_for_threads, threads_fail}
use Rattle.st_types.proofs.checking.all_bodies.Goals as goal

pub procedures-requires-clause-room : goal.procedures-requires-clause-room
procedures-requires-clause-room c = room_for_procs c.args.program.now c.new-checks.result c.requires c.new-checks.ensures.items

pub threads-requires-clause-room : goal.threads-requires-clause-room
threads-requires-clause-room c =
    room_for_threads c.args.program.now c.new-checks.result c.procedures.new.checks c.in_ok-procs.procs c.requires c.new-checks.ensures.items c.in_ok-procs.ensures

pub returns-in_err-procs : goal.returns-in_err-procs
returns-in_err-procs c =
    gives_fault bodies_of c.from_residual.result _ c.in_err-procs.field-0.0 c.from_residual.ensures.1
    (procs_fail c.args.program.now c.new-checks.result c.in_err-procs.field-0.0 c.new-checks.ensures.items c.in_err-procs.ensures)

pub returns-in_err-threads : goal.returns-in_err-threads
returns-in_err-threads c =
    gives_fault bodies_of c.from_residual-in_err-threads.result _ c.in_err-threads.field-0.0 c.from_residual-in_err-threads.ensures.1
    (threads_fail c.args.program.now c.new-checks.result c.procedures.new.checks c.in_ok-procs.procs c.in_err-threads.field-0.0 c.new-checks.ensures.items c.in_ok-procs.ensures
    c.in_err-threads.ensures)

pub returns : goal.returns
returns c =
    bodies_are c.args.program.now c.new-checks.result c.procedures.new.checks c.threads.new.checks c.in_ok-procs.procs c.in_ok-threads.threads c.new-checks.ensures.items
    c.in_ok-procs.ensures c.in_ok-threads.ensures
