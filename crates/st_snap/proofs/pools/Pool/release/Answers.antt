use Rattle.std.proofs.Common.{◌≡◌, ◌<◌, true, List, take, subst, sym, arith, ◌∙◌}
use Rattle.std.specs.List.{All, Contains}
use Rattle.st_snap.specs.declared.pools.Version.{Version}
use Rattle.st_snap.specs.Pool.{PoolVersions, KeptVersion, AreInOrder, is_read}
use Rattle.st_snap.specs.PoolLists.{kept_of, is_version_read, AreVersionsInOrder}
use Rattle.st_snap.proofs.PoolLemmas.{releasing_uses_as_many, releasing_keeps_count, filter_of_mapped, versions_in_order, earlier_are_read}
use Rattle.st_snap.proofs.pools.Pool.release.Goals as goal

pub count_earlier-start-requires : goal.count_earlier-start-requires
count_earlier-start-requires c =
    subst (λ (kept : List Version). AreVersionsInOrder kept) (sym c.as_slice.ensures.value)
    (versions_in_order c.self.inside.words.items c.self.inside.kept.items (subst (λ (p : PoolVersions). AreInOrder p.versions) (sym c.self.view_is) c.requires.order))

pub give_back-requires-clause-read : goal.give_back-requires-clause-read
give_back-requires-clause-read c =
    earlier_are_read c.self.inside.words.items c.self.inside.kept.items c.args.lanes.now c.args.since c.count_earlier-start.result
    (subst (λ (p : PoolVersions). (k : KeptVersion) → Contains p.versions k → k.version.upto < c.args.since → is_read c.args.lanes.now k ≡ true) (sym c.self.view_is) c.requires.earlier)
    (subst (λ (kept : List Version). All (λ (v : Version). v.upto < c.args.since) (take c.count_earlier-start.result kept)) c.as_slice.ensures.value c.count_earlier-start.ensures.earlier)

pub invariant_of-self : goal.invariant_of-self
invariant_of-self c =
    let inv = c.self.invariant in
    let read = is_version_read c.args.lanes.now in
    record {
      small = c.self.invariant.small;
      free_fits = omega (arith, c.give_back.ensures.free_room);
      kept_fits = omega (arith, c.give_back.ensures.kept_room);
      all = rw (c.give_back.ensures.free, c.give_back.ensures.kept) (releasing_keeps_count read c.self.inside.free.items c.self.inside.kept.items ∙ c.self.invariant.all);
      once = λ k. rw (c.give_back.ensures.free, c.give_back.ensures.kept) (releasing_uses_as_many read c.self.inside.free.items c.self.inside.kept.items k ∙ c.self.invariant.once k);
    }

pub returns-clause-versions : goal.returns-clause-versions
returns-clause-versions c = rw (← c.self.view_is, c.give_back.ensures.kept) (filter_of_mapped (kept_of c.self.inside.words.items) (is_read c.args.lanes.now) c.self.inside.kept.items)
