use Rattle.std.proofs.Common.{[], ◌∷◌, ◌∙◌, ap}
use Rattle.st_types.specs.Rules.{field_kinds}
use Rattle.st_types.proofs.OutcomeLemmas.{made_goes}
use Rattle.st_types.proofs.checking.class_kinds.Goals as goal

pub loop-class-preserved : goal.loop-class-preserved
loop-class-preserved c =
    let p = c.args.program.now in
    made_goes (λ kinds. kinds.items) (λ class. field_kinds p class.fields) (field_kinds p p.shared ∷ []) c.loop-class.classes.items c.push-in-loop-class.new.self.items
    c.in_ok-field_kinds-2.field-0 c.as_slice-declared.result.now c.loop-class.class-index c.class-item.result c.loop-class-test.true c.class-item.is c.in_ok-push-2.ensures.items
    (c.in_ok-field_kinds-2.ensures ∙ ap (field_kinds p) c.as_slice-in-loop-class.ensures) c.loop-class.invariant
