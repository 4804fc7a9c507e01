-- Locals that are known no more: how far a loop over them has come.
use Rattle.std.proofs.Common.{◌≡◌, ℕ, ◌<◌, zero, suc, List, [], ◌∷◌, ◌++◌, map, length, take, drop, get_or, set, false, refl, ap, arith}
use Rattle.std.proofs.Common.{◌≤◌, ◌-◌, ◌∙◌, append-nil, length-append}
use Rattle.std.proofs.lemmas.List.{length-drop, drop_all, take_all, length-map, length-take-le, with_items_is, map-append, take-map, drop-map}
use Rattle.std.specs.Prelude.{Vec}
use Rattle.std.specs.Vec.{with_items}
use Rattle.std.specs.declared.alloc.Global.{Global}
use borrow.Rule.Slice.PartMut.{post_of}
use Rattle.st_types.specs.declared.scopes.Local.{Local}
use Rattle.st_types.specs.Names as views
use Rattle.st_types.specs.Scopes.{local_view}
use Rattle.st_types.specs.Statements.{forgotten}

-- the first so many of the locals are known no more
abbrev pub AreForgotten : ℕ → List Local → List Local → Type 0
AreForgotten i old new = map local_view new ≡ map forgotten (map local_view (take i old)) ++ map local_view (drop i old)

abbrev first_forgotten : List views.Local → List views.Local
first_forgotten [] = []
first_forgotten (l ∷ ls) = forgotten l ∷ ls

-- a turn of the loop: the local at the index is known no more, so one more is forgotten
pub forget_one : (old new : List Local) (i : ℕ) (d : Local) → i < length new → AreForgotten i old new
    → AreForgotten (suc i) old (set new i (record (get_or new i d) { is_known = false }))
forget_one old [] i d h k = absurd (omega arith)
forget_one [] (x ∷ new) zero d h k = cc
forget_one [] (x ∷ new) (suc i) d h k = cc
forget_one (y ∷ old) (x ∷ new) zero d h k = ap first_forgotten k
forget_one (y ∷ old) (x ∷ new) (suc i) d h k =
    let more = forget_one old new i d (omega arith) (cc) in
    cc

-- where the last of the locals are known no more
pub closed_from : (v : Vec Local Global) (locals back : List Local) (before : ℕ) → locals ≡ v.items → before ≤ length v.items
    → map local_view back ≡ map forgotten (map local_view (take (length locals - before) (drop before locals)))
    → map local_view (with_items v (take before locals ++ (back ++ post_of before (length locals - before) locals))).items
    ≡ take before (map local_view v.items) ++ map forgotten (drop before (map local_view v.items))
closed_from v locals back before e within h =
    let same : length (drop before locals) ≡ length locals - before = length-drop before locals in
    let none : post_of before (length locals - before) locals ≡ [] = drop_all (length locals - before) (drop before locals) (omega (arith, same)) in
    let all : take (length locals - before) (drop before locals) ≡ drop before locals = take_all (length locals - before) (drop before locals) (omega (arith, same)) in
    let views : map local_view back ≡ map forgotten (map local_view (drop before locals)) = h ∙ ap (λ ls. map forgotten (map local_view ls)) all in
    let long : length back ≡ length (drop before locals) = simp length-map at (ap length views) in
    let size : length locals ≡ length v.items = ap length e in
    let front : length (take before locals) ≡ before = length-take-le before locals (omega arith) in
    let whole : length (take before locals ++ back) ≡ v.len = omega (arith, length-append (take before locals) back, v.ok.0) in
    rw (none, append-nil back, with_items_is v (take before locals ++ back) whole, map-append local_view (take before locals) back, views, e, take-map, drop-map) refl
