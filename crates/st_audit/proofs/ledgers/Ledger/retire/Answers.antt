use Rattle.std.proofs.Common.{◌<◌, ◌≤◌, ◌^◌, length, sym, subst, arith}
use Rattle.st_audit.specs.Ledgers.{Books}
use Rattle.st_audit.proofs.BooksLemmas.{few_since}
use Rattle.st_audit.proofs.ledgers.Ledger.retire.Goals as goal

pub overflow_add-self : goal.overflow_add-self
overflow_add-self c =
    let left : c.count_since-left.result ≤ length c.self.inside.rows.items =
    rw c.count_since-left.ensures (few_since c.args.number (record {
      copies = c.self.inside.copies;
      epoch = c.self.inside.epoch;
      stamps = c.self.inside.stamps.items;
      active = c.drop_number.new.numbers.items;
      rows = c.self.inside.rows.items;
      before = c.self.inside.before.items;
      kept = c.self.inside.kept;
    })) in
    let rows : length c.self.inside.rows.items < 2 ^ 32 = subst (λ (b : Books). length b.rows < 2 ^ 32) (sym c.self.view_is) c.requires.rows in
    let kept : c.self.inside.kept ≤ length c.self.inside.rows.items = subst (λ (b : Books). b.kept ≤ length b.rows) (sym c.self.view_is) c.requires.few in
    omega (arith, left, rows, kept)
