use Rattle.std.proofs.Common.{◌≡◌, length, ◌<◌, arith, refl, ap, sym, subst, ◌∙◌, IsSome}
use Rattle.std.proofs.lemmas.List.{length-set}
use Rattle.st_events.specs.Heap.{Heap, with_word, heap_of, word_at}
use Rattle.st_snap.specs.Table.{TableLists, stamped}
use Rattle.st_snap.proofs.ListLemmas.{set_is_adjusted}
use Rattle.st_snap.proofs.StayLemmas.{set_keeps_cells}
use Rattle.st_snap.proofs.tables.Table.write.Goals as goal

pub index_mut-requires : goal.index_mut-requires
index_mut-requires c =
    let headers = ap (λ (t : TableLists). length t.headers) c.self.view_is in
    omega (arith, c.requires.header, c.self.inside.headers.ok.0)

pub returns-clause-cell : goal.returns-clause-cell
returns-clause-cell c =
    let f = c.self.inside in
    let before = subst (λ (t : TableLists). IsSome (word_at (heap_of t.heap) c.args.obj c.args.field)) (sym c.self.view_is) c.requires.cell in
    subst (λ (heap : Heap). IsSome (word_at heap c.args.obj c.args.field)) (sym c.set.ensures.set)
    (set_keeps_cells (heap_of f.heap) c.args.obj c.args.field c.args.value c.args.obj c.args.field before)

pub returns-clause-headers : goal.returns-clause-headers
returns-clause-headers c = length-set c.self.inside.headers.items c.args.obj _ ∙ ap (λ (t : TableLists). length t.headers) c.self.view_is

pub returns-clause-writes : goal.returns-clause-writes
returns-clause-writes c =
    let headers = ap (λ (t : TableLists). length t.headers) c.self.view_is in
    let within : c.args.obj < length c.self.inside.headers.items = omega (arith, c.requires.header) in
    let heap : c.self.inside.heap ≡ c.args.self.now.heap = ap (λ (t : TableLists). t.heap) c.self.view_is in
    let put = set_is_adjusted (stamped c.self.inside.epoch) c.self.inside.headers.items c.args.obj c.index_mut.result.now within c.index_mut.ensures.value in
    record {
      heap = c.set.ensures.set ∙ ap (λ hs. with_word (heap_of hs) c.args.obj c.args.field c.args.value) heap;
      room = c.set.ensures.room ∙ ap length heap;
      rest = rw (← c.self.view_is) (rw put refl);
    }
