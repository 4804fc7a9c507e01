use Rattle.std.proofs.Common.{◌≡◌, length, ◌<◌, arith, refl, ap, inl, inr}
use Rattle.st_snap.specs.Table.{TableLists, sent}
use Rattle.st_snap.proofs.HeaderLemmas.{headers_of_same_parts}
use Rattle.st_snap.proofs.ListLemmas.{set_is_adjusted, read_is_found}
use Rattle.st_snap.proofs.tables.Table.keep_version.Goals as goal

pub returns-then-stamp-newest-clause-version : goal.returns-then-stamp-newest-clause-version
returns-then-stamp-newest-clause-version c =
    let headers = ap (λ (t : TableLists). length t.headers) c.self.view_is in
    let within : c.args.obj < length c.self.inside.headers.items = omega (arith, c.requires.header) in
    let changed : c.forward_to.new.self ≡ sent c.keep-target.result c.self.inside.lanes c.index_mut.result.now =
    headers_of_same_parts c.forward_to.new.self (sent c.keep-target.result c.self.inside.lanes c.index_mut.result.now) c.forward_to.ensures.stamp c.forward_to.ensures.forward in
    let put = set_is_adjusted (sent c.keep-target.result c.self.inside.lanes) c.self.inside.headers.items c.args.obj c.index_mut.result.now within c.index_mut.ensures.value in
    rw (← c.self.view_is) record {
      header = c.index.result.now;
      found = read_is_found c.self.inside.headers.items c.args.obj c.index.result.now within c.index.ensures;
      cases = inl (record {
        needed = omega (arith, c.if-stamp-newest.true, c.newest.ensures);
        target = c.keep-target.result;
        words = c.words-words.result;
        has = c.words-words.ensures;
        kept = c.keep-target.ensures;
        rest = rw (changed, put) refl;
      });
    }

pub returns-else-stamp-newest-clause-version : goal.returns-else-stamp-newest-clause-version
returns-else-stamp-newest-clause-version c =
    let headers = ap (λ (t : TableLists). length t.headers) c.self.view_is in
    let within : c.args.obj < length c.self.inside.headers.items = omega (arith, c.requires.header) in
    rw (← c.self.view_is) record {
      header = c.index.result.now;
      found = read_is_found c.self.inside.headers.items c.args.obj c.index.result.now within c.index.ensures;
      cases = inr (omega (arith, c.if-stamp-newest.false, c.newest.ensures), refl);
    }
