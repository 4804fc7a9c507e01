use Rattle.std.proofs.Common.{◌≡◌, ◌<◌, not, length, get_or, take, Bool, refl, arith, ap, sym, ◌∙◌, append-nil}
use Rattle.std.proofs.lemmas.List.Filters.{FiltersInPlace-more_no, FiltersInPlace-more_set}
use Rattle.st_snap.specs.declared.pools.Version.{Version}
use Rattle.st_snap.specs.PoolLists.{is_version_read}
use Rattle.st_snap.proofs.PoolLemmas.{unread_is_given_back, read_is_not_given_back, filter_not_passing, in_place_at_first, in_place_as_before}
use Rattle.st_snap.proofs.pools.give_back.Goals as goal
use Rattle.st_snap.proofs.pools.give_back.Goals.{then-is_read, else-is_read}

pub loop-index-init : goal.loop-index-init
loop-index-init c =
    let read = is_version_read c.args.lanes.now in
    record {
      place = in_place_at_first read c.args.kept.now.items c.args.start (omega (arith, c.requires.start, c.args.kept.now.ok.0)) c.requires.read;
      free = rw (filter_not_passing read (take c.args.start c.args.kept.now.items) c.requires.read) (sym (append-nil c.args.free.now.items));
      len = omega arith;
      free_room = refl;
      kept_room = refl;
    }

pub loop-index-preserved : goal.loop-index-preserved
loop-index-preserved c =
    let read = is_version_read c.args.lanes.now in
    let unread : Version → Bool = λ v. not (is_version_read c.args.lanes.now v) in
    let inv = c.loop-index.invariant in
    let v = c.index.result.now in
    let i = c.loop-index.index in
    let K = c.args.kept.now.items in
    let within : i < length K = omega (arith, c.loop-index-test.true, c.len-index-end.ensures, c.args.kept.now.ok.0) in
    let here : get_or K i v ≡ v = in_place_as_before read K c.loop-index.kept.items c.loop-index.end i v inv.place c.index.ensures in
    let long : i < length c.loop-index.kept.items = omega (arith, within, inv.place.long) in
    elim c.if-is_read.branch [
      | then-is_read w ↦ record {
        place = rw (w.kept-is, w.end-is) (FiltersInPlace-more_set inv.place long (sym c.is_read.ensures ∙ w.if-is_read.true) c.index.ensures);
        free = rw (w.free-is, inv.free) (read_is_not_given_back unread c.args.free.now.items K i v within here (ap not (sym c.is_read.ensures ∙ w.if-is_read.true)));
        len = rw w.free-is (omega (arith, inv.len));
        free_room = rw w.free-is inv.free_room;
        kept_room = rw w.kept-is inv.kept_room;
      }
      | else-is_read w ↦ record {
        place = rw (w.kept-is, w.end-is) (FiltersInPlace-more_no inv.place long (sym c.is_read.ensures ∙ w.if-is_read.false) c.index.ensures);
        free = rw (w.free-is, w.push_reserved.ensures.items, inv.free)
            (unread_is_given_back unread c.args.free.now.items K i v within here (ap not (sym c.is_read.ensures ∙ w.if-is_read.false)));
        len = rw w.free-is (omega (arith, w.push_reserved.ensures.len, inv.len));
        free_room = rw w.free-is (w.push_reserved.ensures.capacity ∙ inv.free_room);
        kept_room = rw w.kept-is inv.kept_room;
      }
    ]
