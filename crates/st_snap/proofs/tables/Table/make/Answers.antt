use Rattle.std.proofs.Common.{rules, ◌≡◌, ℕ, slice_get, replicate, Some, arith, refl, ap, sym, ◌∙◌}
use Rattle.st_snap.specs.declared.headers.Header.{Header}
use Rattle.st_snap.specs.declared.headers.Forward.{Forward}
use Rattle.st_snap.specs.declared.headers.Target.TheVariants.{Gone}
use Rattle.st_snap.specs.Table.{object_room}
use Rattle.st_snap.proofs.ListLemmas.{replicated_is_one}
use Rattle.st_snap.proofs.tables.Table.make.Goals as goal

pub returns : goal.returns
returns c =
    let n = object_room c.args.sizes.now in
    let never : Forward = record { epoch = 0; target = Gone } in
    let untouched : Header = record { stamp = 0; forward = replicate 8 never } in
    let all : c.in_ok-vec.field-0.items ≡ replicate n untouched = search rules in
    let header : (obj : ℕ) (h : Header) → slice_get c.in_ok-vec.field-0.items obj ≡ Some h → h ≡ untouched =
    λ obj h e. replicated_is_one n untouched obj h (ap (λ hs. slice_get hs obj) (sym all) ∙ e) in
    record {
      heap = c.in_ok-make.ensures.first;
      room = c.in_ok-make.ensures.room;
      header_room = omega (arith, c.in_ok-vec.ensures.len, c.in_ok-vec.field-0.ok.0);
      headers = λ obj h e. ap (λ (x : Header). x.stamp) (header obj h e);
      forward = λ obj lane h f e g. ap (λ (x : Forward). x.epoch) (replicated_is_one 8 never lane f (ap (λ (x : Header). slice_get x.forward lane) (sym (header obj h e)) ∙ g));
      made = search rules;
      epoch = refl;
      lanes = c.in_ok-make-2.ensures;
      pool = c.in_ok-make-3.ensures;
    }
