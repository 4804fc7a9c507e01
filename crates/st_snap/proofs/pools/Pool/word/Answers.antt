use Rattle.std.proofs.Common.{[], arith, sym, ◌∙◌, subst, ap, get_or}
use Rattle.std.specs.List.{Contains}
use Rattle.std.proofs.lemmas.List.{get_or_read}
use Rattle.st_snap.specs.Pool.{PoolVersions}
use Rattle.st_snap.proofs.PoolLemmas.{words_of_kept}
use Rattle.st_snap.proofs.pools.Pool.word.Goals as goal

pub returns : goal.returns
returns c = λ kept among copy.
    let P : PoolVersions → Type 0 = λ p. Contains p.versions kept in
    let words = words_of_kept c.self.inside.words.items c.self.inside.kept.items kept (subst P (sym c.self.view_is) among) in
    let here = get_or_read c.self.inside.words.items c.args.copy c.index.result.now
    (let size = ap (λ (p : PoolVersions). p.size) c.self.view_is in omega (arith, c.requires.copy)) c.index.ensures [] in
    ap (λ ws. get_or ws c.args.field 0) here ∙ ap (λ ws. get_or ws c.args.field 0) (sym (words ∙ ap (λ k. get_or c.self.inside.words.items k []) copy))
