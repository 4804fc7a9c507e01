use Rattle.std.proofs.Common.{◌≡◌, ◌+◌, ◌≤◌, ◌++◌, not, map, filter, take, vec_len, vec_capacity}
use Rattle.std.proofs.lemmas.List.Filters.{FiltersInPlace}
use Rattle.st_snap.specs.declared.pools.Version.{Version}
use Rattle.st_snap.specs.PoolLists.{is_version_read}
use Rattle.st_snap.proofs.pools.give_back.Given as goal

abbrev pub invariant-loop-index : goal.invariant-loop-index
invariant-loop-index l = record {
  place : FiltersInPlace (is_version_read l.lanes) l.initial.kept.items l.kept.items l.end l.index;
  free : l.free.items ≡ l.initial.free.items ++ map (λ (v : Version). v.copy) (filter (λ v. not (is_version_read l.lanes v)) (take l.index l.initial.kept.items));
  len : vec_len l.free ≤ vec_len l.initial.free + l.index;
  free_room : vec_capacity l.free ≡ vec_capacity l.initial.free;
  kept_room : vec_capacity l.kept ≡ vec_capacity l.initial.kept;
}
