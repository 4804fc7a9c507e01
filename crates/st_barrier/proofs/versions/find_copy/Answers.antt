use Rattle.std.proofs.Common.{◌<◌, ◌∙◌, sym, arith}
use Rattle.st_barrier.proofs.KeepLemmas.{available_keeps_epoch, available_keeps_lanes, free_keeps_epoch, free_keeps_lanes, free_keeps_available, epoch_then, lanes_then}
use Rattle.st_barrier.proofs.NeedLemmas.{lt_true, lt_false}
use Rattle.st_barrier.proofs.versions.find_copy.Goals as goal

pub returns-then-reaches_copy-clause-epoch : goal.returns-then-reaches_copy-clause-epoch
returns-then-reaches_copy-clause-epoch g c =
    let first = c.load_available-available in
    let a = c.args.seat.now in
    let b = first.new.seat in
    let d = c.load_free.new.seat in
    let lt : c.args.index < b.view.terms.sizes.copies = omega (arith, lt_true c.args.index first.result (sym c.reaches_copy.ensures ∙ c.if-reaches_copy.true), first.ensures.within) in
    epoch_then a b d (available_keeps_epoch first.result a b c.requires.fair first.ensures.word)
    (free_keeps_epoch c.args.index c.load_free.result b d first.ensures.fair lt c.load_free.ensures.word)

pub returns-then-reaches_copy-clause-lanes : goal.returns-then-reaches_copy-clause-lanes
returns-then-reaches_copy-clause-lanes g c =
    let first = c.load_available-available in
    let a = c.args.seat.now in
    let b = first.new.seat in
    let d = c.load_free.new.seat in
    let lt : c.args.index < b.view.terms.sizes.copies = omega (arith, lt_true c.args.index first.result (sym c.reaches_copy.ensures ∙ c.if-reaches_copy.true), first.ensures.within) in
    lanes_then a b d first.ensures.word.stays (available_keeps_lanes first.result a b c.requires.fair first.ensures.word)
    (free_keeps_lanes c.args.index c.load_free.result b d first.ensures.fair lt c.load_free.ensures.word)

pub returns-then-reaches_copy-clause-copy : goal.returns-then-reaches_copy-clause-copy
returns-then-reaches_copy-clause-copy g c =
    let first = c.load_available-available in
    let a = c.args.seat.now in
    let b = first.new.seat in
    let d = c.load_free.new.seat in
    let lt : c.args.index < b.view.terms.sizes.copies = omega (arith, lt_true c.args.index first.result (sym c.reaches_copy.ensures ∙ c.if-reaches_copy.true), first.ensures.within) in
    record {
      available = first.result;
      loaded = free_keeps_available c.args.index c.load_free.result b d first.ensures.fair lt c.load_free.ensures.word first.result first.ensures.word.loaded;
      below = lt_true c.args.index first.result (sym c.reaches_copy.ensures ∙ c.if-reaches_copy.true);
      named = c.load_free.ensures.word.loaded;
      within = c.load_free.ensures.within;
    }

pub returns-else-reaches_copy-clause-epoch : goal.returns-else-reaches_copy-clause-epoch
returns-else-reaches_copy-clause-epoch g c =
    let first = c.load_available-available in
    available_keeps_epoch first.result c.args.seat.now first.new.seat c.requires.fair first.ensures.word

pub returns-else-reaches_copy-clause-lanes : goal.returns-else-reaches_copy-clause-lanes
returns-else-reaches_copy-clause-lanes g c =
    let first = c.load_available-available in
    available_keeps_lanes first.result c.args.seat.now first.new.seat c.requires.fair first.ensures.word

pub returns-else-reaches_copy-clause-copy : goal.returns-else-reaches_copy-clause-copy
returns-else-reaches_copy-clause-copy g c =
    let first = c.load_available-available in
    record {
      available = first.result;
      loaded = first.ensures.word.loaded;
      beyond = lt_false c.args.index first.result (sym c.reaches_copy.ensures ∙ c.if-reaches_copy.false);
    }
