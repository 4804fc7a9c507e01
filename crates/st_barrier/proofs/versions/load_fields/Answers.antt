use Rattle.std.proofs.Common.{◌<◌, ◌∙◌, arith}
use Rattle.std.proofs.lemmas.List.{length-set}
use Rattle.std.specs.Prelude.{length}
use Rattle.st_barrier.proofs.KeepLemmas.{board_then, fields_more}
use Rattle.st_barrier.proofs.versions.load_fields.Goals as goal

pub loop-place-preserved : goal.loop-place-preserved
loop-place-preserved g c =
    let was = c.loop-place.invariant in
    let seat = c.loop-place.seat in
    let one = c.load_unless_found in
    let stays = one.ensures.board.stays in
    let x = c.args.change in
    let room : c.loop-place.place < length c.loop-place.fields = omega (arith, c.loop-place-test.true, c.loop-place.auto.place-end, was.room) in
    record {
      table = record { table = stays.table ∙ was.table.table; terms = stays.terms ∙ was.table.terms };
      fair = one.ensures.fair;
      board = board_then c.args.seat.now seat one.new.seat was.board one.ensures.board;
      room = length-set c.loop-place.fields c.loop-place.place one.result ∙ was.room;
      hand = fields_more x.obj x.stamp x.field c.args.found c.loop-place.fields c.loop-place.place one.result seat one.new.seat room was.hand one.ensures.field;
    }
