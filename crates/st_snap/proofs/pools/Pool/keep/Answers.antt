use Rattle.std.proofs.Common.{◌≡◌, ◌<◌, ◌++◌, ◌∷◌, [], length, arith, refl, ap, ◌∙◌, length-append, length-set}
use Rattle.st_snap.specs.declared.pools.Version.{Version}
use Rattle.st_snap.specs.PoolLists.{kept_of}
use Rattle.st_snap.proofs.PoolLemmas.{keeping_uses_as_many, free_is_copy, free_is_unused, keeping_adds_version}
use Rattle.std.proofs.lemmas.List.{length-map}
use Rattle.st_snap.proofs.pools.Pool.keep.Goals as goal

pub index_mut-requires : goal.index_mut-requires
index_mut-requires c =
    let n = length c.self.inside.words.items in
    let once = c.self.invariant.once c.in-Some.copy in
    let taken : c.self.inside.free.items ≡ c.pop.new.self.items ++ c.in-Some.copy ∷ [] = c.in-Some.ensures.items in
    let lt : c.in-Some.copy < n = free_is_copy n c.pop.new.self.items c.self.inside.kept.items c.in-Some.copy (rw taken at once) in
    omega (arith, c.self.inside.words.ok.0)

pub invariant_of-self-2 : goal.invariant_of-self-2
invariant_of-self-2 c =
    let version : Version = record { obj = c.args.obj; after = c.args.after; upto = c.args.upto; copy = c.in-Some.copy } in
    let taken : c.self.inside.free.items ≡ c.pop.new.self.items ++ c.in-Some.copy ∷ [] = c.in-Some.ensures.items in
    let same = length-set c.self.inside.words.items c.in-Some.copy c.args.words in
    let pushed = c.push_reserved.ensures.items in
    let inv = c.self.invariant in
    record {
      small = omega (arith, same);
      free_fits = omega (arith, same, c.in-Some.ensures.capacity);
      kept_fits = omega (arith, same, c.push_reserved.ensures.capacity);
      all = rw (same, pushed) (omega (arith, length-append c.self.inside.kept.items (version ∷ []), ap length taken, length-append c.pop.new.self.items (c.in-Some.copy ∷ [])));
      once = λ k. rw (same, pushed) (keeping_uses_as_many c.self.inside.free.items c.pop.new.self.items c.self.inside.kept.items version k taken ∙ c.self.invariant.once k);
    }

pub returns : goal.returns
returns c =
    let version : Version = record { obj = c.args.obj; after = c.args.after; upto = c.args.upto; copy = c.in-Some.copy } in
    let n = length c.self.inside.words.items in
    let once = c.self.invariant.once c.in-Some.copy in
    let taken : c.self.inside.free.items ≡ c.pop.new.self.items ++ c.in-Some.copy ∷ [] = c.in-Some.ensures.items in
    let lt : c.in-Some.copy < n = free_is_copy n c.pop.new.self.items c.self.inside.kept.items c.in-Some.copy (rw taken at once) in
    let none = free_is_unused n c.pop.new.self.items c.self.inside.kept.items c.in-Some.copy (rw taken at once) in
    let kept = keeping_adds_version c.self.inside.words.items c.self.inside.kept.items version c.args.words lt none in
    let all = c.self.invariant.all in
    rw (← c.self.view_is) (
      omega (arith, length-map c.self.inside.kept.items (kept_of c.self.inside.words.items), all, ap length taken, length-append c.pop.new.self.items (c.in-Some.copy ∷ [])),
      lt,
      rw (length-set c.self.inside.words.items c.in-Some.copy c.args.words, c.push_reserved.ensures.items, kept) refl,
    )
