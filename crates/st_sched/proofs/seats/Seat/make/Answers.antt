use Rattle.std.proofs.Common.{refl, []}
use Rattle.st_sched.proofs.seats.Seat.make.Goals as goal

pub returns : goal.returns
returns c =
    let had = c.in_ok-thread.ensures c.args.sizes.now refl refl in
    record {
      had = c.next-want.ensures.goes_on _ c.args.sizes.now c.args.m [] had;
      wants = c.next-want.ensures.narrow _ c.args.sizes.now c.args.m [] had;
    }
