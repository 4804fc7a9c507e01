use Rattle.std.proofs.Common.{ap, arith}
use Rattle.st_resolved.specs.Views.{program_of}
use Rattle.st_snap.specs.Snapshots.{Snapshots}
use Rattle.st_sched.specs.Standing.{finished_in}
use Rattle.st_sched.proofs.BeginLemmas.{can_launch_after, fresh_after}
use Rattle.st_sched.proofs.RunLemmas.{under_way_after}
use Rattle.st_sched.proofs.running.Running.launch.Goals as goal

pub retire_all-requires : goal.retire_all-requires
retire_all-requires c =
    let h = c.requires.launch in
    let same = ap (λ (s : Snapshots). s.sizes.mutators) h.run.stands.heap in
    record { run = (program_of c.args.program.now, c.requires.run); thread = omega (arith, h.thread, same) }

pub begin_check-requires : goal.begin_check-requires
begin_check-requires c =
    record {
      launch = can_launch_after (program_of c.args.program.now) c.args.m c.args.site c.args.args c.args.self.now c.retire_all.new.self c.requires.launch
          (c.retire_all.ensures.stands (program_of c.args.program.now) c.requires.launch.run)
          (c.retire_all.ensures.history (program_of c.args.program.now) c.requires.launch.run);
    }

pub returns-clause-stands : goal.returns-clause-stands
returns-clause-stands c = λ t fresh.
    let p = program_of c.args.program.now in
    let fin = finished_in c.args.self.now.checks.items in
    c.begin_check.ensures.stands
    (under_way_after p c.args.self.now c.retire_all.new.self c.args.m fin t (c.retire_all.ensures.stands p t) (c.retire_all.ensures.history p t))
    (fresh_after p c.args.self.now c.args.m fin t fresh)
