use Rattle.std.proofs.Common.{length, ◌+◌, ◌*◌, ◌<◌, slice_index_or, arith, refl, ap}
use Rattle.st_snap.specs.Table.{TableLists, stamped}
use Rattle.std.proofs.lemmas.List.{get_or_read}
use Rattle.st_snap.proofs.ListLemmas.{set_is_adjusted, read_is_found}
use Rattle.st_snap.proofs.tables.Table.make_object.Goals as goal

pub returns : goal.returns
returns c =
    let obj = 2 + c.args.m * c.args.objects + c.index-count.result.now in
    let made = ap (λ (t : TableLists). length t.made) c.self.view_is in
    let thread : c.args.m < length c.self.inside.made.items = omega (arith, c.requires.thread) in
    let count = get_or_read c.self.inside.made.items c.args.m c.index-count.result.now thread c.index-count.ensures 0 in
    let same_count = ap (λ (t : TableLists). slice_index_or t.made c.args.m 0) c.self.view_is in
    let headers = ap (λ (t : TableLists). length t.headers) c.self.view_is in
    let within : obj < length c.self.inside.headers.items = omega (arith, c.requires.heap, c.requires.headers) in
    let put = set_is_adjusted (stamped c.self.inside.epoch) c.self.inside.headers.items obj c.index_mut-2.result.now within c.index_mut-2.ensures.value in
    rw (← c.self.view_is) record {
      count = c.index-count.result.now;
      found = read_is_found c.self.inside.made.items c.args.m c.index-count.result.now thread c.index-count.ensures;
      number = refl;
      heap = c.put_new.ensures.put;
      room = c.put_new.ensures.room;
      rest = rw put refl;
    }
