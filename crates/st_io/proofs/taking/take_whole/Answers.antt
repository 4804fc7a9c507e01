use Rattle.std.proofs.Common.{◌≡◌, length, arith}
use Rattle.std.proofs.KnownBytes.{Keeps-refl}
use Rattle.st_io.proofs.TakingLemmas.{nothing_was_taken, takings_add_up, buffer_grew_within_the_limit}
use Rattle.st_io.proofs.taking.take_whole.Goals as goal

pub loop-round-init : goal.loop-round-init
loop-round-init g c = rw c.requires (record {
  takes = nothing_was_taken (omega arith) (Keeps-refl _);
  within = omega arith;
  grown = omega arith;
})

pub loop-round-preserved : goal.loop-round-preserved
loop-round-preserved g c =
    let held : c.len.result ≡ length c.loop-round.into.items = omega arith in
    let next = rw held at c.in_ok-turn.ensures.takes in
    record {
      takes = takings_add_up c.loop-round.invariant.takes next;
      within = omega (arith, buffer_grew_within_the_limit next, c.loop-round.invariant.within);
      grown = omega (arith, c.loop-round.invariant.grown, c.in_ok-turn.ensures.grows);
    }
