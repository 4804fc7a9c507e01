use Rattle.st_types.specs.Outcomes.{resolved_of, resolved_at}
use Rattle.st_types.specs.Rules.{faults_of}
use Rattle.std.proofs.Common.{ap}
use Rattle.st_types.specs.TypedPrograms.{TypedView}
use Rattle.st_types.proofs.CheckedLemmas.{no_faults}
use Rattle.st_types.proofs.OutcomeLemmas.{first_told, nothing_given}
use Rattle.st_types.proofs.TypedLemmas.{typed_is}
use Rattle.st_types.proofs.checking.check_types.Goals as goal

pub make-requires : goal.make-requires
make-requires c = typed_is c.args.p c.in_ok-numbered.numbered c.requires c.in_ok-numbered.ensures

pub returns-in_err-numbered : goal.returns-in_err-numbered
returns-in_err-numbered c = record {
  ok = nothing_given _ c.from_residual.result c.in_err-numbered.field-0.0 c.from_residual.ensures.1;
  err = first_told c.from_residual.result (faults_of c.args.p) (resolved_of c.args.p) c.in_err-numbered.field-0.0 c.from_residual.ensures.1 c.in_err-numbered.ensures;
}

pub returns : goal.returns
returns c = record {
  ok = (
    ap (λ (t : TypedView). t.program) c.make.ensures,
    no_faults (faults_of c.args.p) (resolved_of c.args.p) (resolved_at c.in_ok-numbered.numbered) c.in_ok-numbered.ensures,
  );
  err = tt;
}
