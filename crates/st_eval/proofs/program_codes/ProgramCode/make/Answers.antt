use Rattle.std.proofs.Common.{◌∙◌, sym, subst}
use Rattle.st_resolved.specs.Views.{program_of}
use Rattle.st_eval.specs.Bodies.{IsCodeOf}
use Rattle.st_eval.proofs.BodyLemmas.{code_made}
use Rattle.st_eval.proofs.program_codes.ProgramCode.make.Goals as goal

pub returns : goal.returns
returns c =
    subst (λ code. IsCodeOf (program_of c.args.program.now)
    (record { instructions = code; checks = c.in_ok-checks.checks; preds = c.in_ok-preds.preds; most_words = c.lay_preds.new.most }))
    (sym (c.in_ok-instructions.ensures ∙ c.as_slice-3.ensures))
    (code_made c.args.program.now c.as_slice.result.now c.as_slice-2.result.now c.new-code.result c.lay_checks.new.code c.lay_preds.new.code
    c.lay_checks.new.most c.lay_preds.new.most c.in_ok-checks.checks c.in_ok-preds.preds
    c.as_slice.ensures c.as_slice-2.ensures c.in_ok-checks.ensures c.in_ok-preds.ensures)
