use Rattle.std.proofs.Common.{Err, ◌∙◌, ap, refl}
use Rattle.st_lex.specs.declared.errors.Fault.TheVariants as fault
use Rattle.st_canonical_laws.proofs.RereadLemmas.{no_fault, no_error, same_tree}
use Rattle.st_canonical_laws.proofs.rereading.reread.Goals as goal

pub unreachable-requires : goal.unreachable-requires
unreachable-requires c =
    no_fault c.args.program.now c.requires.grammar c.deref.result.now (c.deref.ensures.value ∙ c.in_ok-text.ensures) fault.BadByte
    c.in-Err-BadByte.field-0-0 (c.in-Err-BadByte.ensures.bad_byte c.in-Err-BadByte.field-0-0 (ap Err c.in-Err-BadByte.field-0-is))

pub unreachable-requires-in-Err-LongNumber : goal.unreachable-requires-in-Err-LongNumber
unreachable-requires-in-Err-LongNumber c =
    no_fault c.args.program.now c.requires.grammar c.deref.result.now (c.deref.ensures.value ∙ c.in_ok-text.ensures) fault.LongNumber
    c.in-Err-LongNumber.field-0-0 (c.in-Err-LongNumber.ensures.long_number c.in-Err-LongNumber.field-0-0 (ap Err c.in-Err-LongNumber.field-0-is))

pub returns-in-Ok-parse : goal.returns-in-Ok-parse
returns-in-Ok-parse c =
    same_tree c.args.program.now c.requires.grammar c.deref.result.now c.deref-2.result.now c.in-Ok.list.items c.deref-3.result.now
    (c.deref.ensures.value ∙ c.in_ok-text.ensures) (c.deref-2.ensures.value ∙ c.in_ok-text.ensures) c.in-Ok.ensures.tokens c.deref-3.ensures.value
    c.in-Ok-parse.again c.in-Ok-parse.ensures.tree

pub unreachable-requires-in-Err-Unexpected : goal.unreachable-requires-in-Err-Unexpected
unreachable-requires-in-Err-Unexpected c =
    no_error c.args.program.now c.requires.grammar c.deref.result.now c.deref-2.result.now c.in-Ok.list.items c.deref-3.result.now
    (c.deref.ensures.value ∙ c.in_ok-text.ensures) (c.deref-2.ensures.value ∙ c.in_ok-text.ensures) c.in-Ok.ensures.tokens c.deref-3.ensures.value
    (c.in-Err-Unexpected.ensures.no_tree c.in-Err-Unexpected.field-0 refl (λ memory. let is = c.in-Err-Unexpected.field-0-is in cc))

pub unreachable-requires-in-Err-TooMany : goal.unreachable-requires-in-Err-TooMany
unreachable-requires-in-Err-TooMany c =
    no_error c.args.program.now c.requires.grammar c.deref.result.now c.deref-2.result.now c.in-Ok.list.items c.deref-3.result.now
    (c.deref.ensures.value ∙ c.in_ok-text.ensures) (c.deref-2.ensures.value ∙ c.in_ok-text.ensures) c.in-Ok.ensures.tokens c.deref-3.ensures.value
    (c.in-Err-TooMany.ensures.no_tree c.in-Err-TooMany.field-0 refl (λ memory. let is = c.in-Err-TooMany.field-0-is in cc))

pub unreachable-requires-in-Err-TooDeep : goal.unreachable-requires-in-Err-TooDeep
unreachable-requires-in-Err-TooDeep c =
    no_error c.args.program.now c.requires.grammar c.deref.result.now c.deref-2.result.now c.in-Ok.list.items c.deref-3.result.now
    (c.deref.ensures.value ∙ c.in_ok-text.ensures) (c.deref-2.ensures.value ∙ c.in_ok-text.ensures) c.in-Ok.ensures.tokens c.deref-3.ensures.value
    (c.in-Err-TooDeep.ensures.no_tree c.in-Err-TooDeep.field-0 refl (λ memory. let is = c.in-Err-TooDeep.field-0-is in cc))

pub unreachable-requires-in-Err-TooLong : goal.unreachable-requires-in-Err-TooLong
unreachable-requires-in-Err-TooLong c =
    no_error c.args.program.now c.requires.grammar c.deref.result.now c.deref-2.result.now c.in-Ok.list.items c.deref-3.result.now
    (c.deref.ensures.value ∙ c.in_ok-text.ensures) (c.deref-2.ensures.value ∙ c.in_ok-text.ensures) c.in-Ok.ensures.tokens c.deref-3.ensures.value
    (c.in-Err-TooLong.ensures.no_tree c.in-Err-TooLong.field-0 refl (λ memory. let is = c.in-Err-TooLong.field-0-is in cc))
