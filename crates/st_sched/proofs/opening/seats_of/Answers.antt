use Rattle.std.proofs.Common.{◌≡◌, List, length, slice_get, sym, arith, ap, ◌∙◌}
use Rattle.st_resolved.specs.Views.{program_of}
use Rattle.st_sched.specs.declared.seats.Seat.{Seat}
use Rattle.st_sched.proofs.OpenLemmas.{one_more_seat}
use Rattle.st_sched.proofs.opening.seats_of.Goals as goal

pub loop-m-preserved : goal.loop-m-preserved
loop-m-preserved c =
    let len : length c.loop-m.seats.items ≡ c.loop-m.m = omega (arith, c.loop-m.invariant.len, c.loop-m.seats.ok.0) in
    record {
      each = λ k seat e.
          one_more_seat (program_of c.args.program.now) c.args.sizes.now c.loop-m.seats.items c.in_ok-make.field-0 c.loop-m.m len c.loop-m.invariant.each c.in_ok-make.ensures k seat
          (ap (λ (xs : List Seat). slice_get xs k) (sym c.push_reserved.ensures.items) ∙ e);
      len = omega (arith, c.push_reserved.ensures.len, c.loop-m.invariant.len);
      capacity = omega (arith, c.push_reserved.ensures.capacity, c.loop-m.invariant.capacity);
    }
