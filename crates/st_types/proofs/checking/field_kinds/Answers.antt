use Rattle.st_types.specs.Names.{kind_of}
use Rattle.st_types.specs.Statements.{known_kind}
use Rattle.st_types.proofs.OutcomeLemmas.{collected_goes}
use Rattle.st_types.proofs.checking.field_kinds.Goals as goal

pub loop-field-preserved : goal.loop-field-preserved
loop-field-preserved c =
    collected_goes (λ f. known_kind (kind_of c.args.program.now f.kind)) c.loop-field.kinds.items c.push.new.self.items c.known_kind.result c.args.fields.now
    c.loop-field.field-index c.field-item.result c.loop-field-test.true c.field-item.is c.in_ok-push.ensures.items (cc) c.loop-field.invariant
