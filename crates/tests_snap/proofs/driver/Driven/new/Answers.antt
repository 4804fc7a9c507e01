use Rattle.std.proofs.Common.{◌≡◌, ℕ, List, [], ◌∷◌, ◌++◌, slice_get, Option, arith, ap, sym, subst, ◌∙◌}
use Rattle.st_events.specs.declared.events.Event.TheVariants.{New}
use Rattle.st_events.proofs.AmongLemmas.{same_numbers}
use Rattle.st_snap.specs.declared.lanes.Lane.{Lane}
use Rattle.tests_snap.specs.Drive.{IsDriven}
use Rattle.tests_snap.proofs.DriveLemmas.{driven_with_all_lanes, driven_after_new, no_length_is_empty}
use Rattle.tests_snap.proofs.driver.Driven.new.Goals as goal

pub invariant_of-self-2 : goal.invariant_of-self-2
invariant_of-self-2 c =
    let f = c.self.inside in
    let object : ℕ × ℕ = (c.new-obj.result, f.width) in
    let none = same_numbers _ 0 (sym c.is_empty.ensures ∙ c.if-not-is_empty.false) in
    let empty : f.checks.items ≡ [] = no_length_is_empty f.checks.items (omega (arith, none, f.checks.ok.0)) in
    let d = driven_with_all_lanes f.heap c.new-obj.new.self
    (New c.args.m c.new-obj.result 1) f.sizes f.width f.objects.items f.checks.items c.self.invariant c.new-obj.ensures.event
    c.new-obj.ensures.legal (λ lane is. ap (λ (ls : List (Option ℕ)). slice_get ls lane.index) c.new-obj.ensures.lanes ∙ is) in
    let more : c.push_reserved.new.self.items ≡ f.objects.items ++ object ∷ [] =
    c.push_reserved.ensures.items ∙ ap (λ (known : List (ℕ × ℕ)). known ++ object ∷ []) c.reserve.ensures.items in
    subst (λ (known : List (ℕ × ℕ)). IsDriven c.new-obj.new.self f.sizes f.width known f.checks.items) (sym more)
    (subst (λ (held : List Lane). IsDriven c.new-obj.new.self f.sizes f.width (f.objects.items ++ object ∷ []) held) (sym empty)
    (driven_after_new f.heap c.new-obj.new.self f.sizes f.width c.args.m c.new-obj.result f.objects.items
    (subst (λ (held : List Lane). IsDriven c.new-obj.new.self f.sizes f.width f.objects.items held) empty d) c.self.invariant.shape c.new-obj.ensures.event))
