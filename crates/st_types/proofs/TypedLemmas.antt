-- A tree without faults is typed, with its resolution and its shape.
use Rattle.std.proofs.Common.{◌≡◌, ◌≤◌, length, Ok, ap, sym, subst, arith}
use Rattle.std.proofs.lemmas.List.{length-map}
use Rattle.st_ast.specs.declared.declarations.Program.{Program}
use Rattle.st_events.specs.declared.shapes.TheConstants.{MOST_CHECKS}
use Rattle.st_events.specs.Shape as shapes
use Rattle.st_resolved.specs.Views.{check_of}
use Rattle.st_types.specs.declared.checking.Numbered.{Numbered}
use Rattle.st_types.specs.Checked.{verdict}
use Rattle.st_types.specs.Limits.{IsWithinLimits}
use Rattle.st_types.specs.Outcomes.{Whole, resolved_at, resolved_of}
use Rattle.st_types.specs.Rules.{faults_of, resolution, walked_threads}
use Rattle.st_types.specs.Statements.{Launched}
use Rattle.st_types.specs.TypedPrograms.{IsTyped}
use Rattle.st_types.proofs.CheckedLemmas.{no_faults, value_is}
use Rattle.st_types.proofs.OutcomeLemmas.{few_checks}
use Rattle.st_types.proofs.ShapeLemmas.{shape_fits}

few_in : (p : Program) (n : Numbered) → IsWithinLimits p → resolved_of p ≡ resolved_at n → length n.resolved.checks ≤ MOST_CHECKS
unfolding resolution
few_in p n h same =
    omega (
      arith,
      few_checks p h,
      length-map (walked_threads p).checks (λ (l : Launched). l.check),
      length-map n.resolved.checks check_of,
      ap (λ (w : Whole). length w.program.checks) same,
    )

-- where no fault is told, the tree is typed
pub typed_is : (p : Program) (n : Numbered) → IsWithinLimits p → verdict (faults_of p) (resolved_of p) ≡ Ok (resolved_at n)
    → IsTyped (record { program = p; resolved = n.resolved; shape = n.shape })
typed_is p n h k =
    let none = no_faults (faults_of p) (resolved_of p) (resolved_at n) k in
    let same : resolved_of p ≡ resolved_at n = value_is (faults_of p) (resolved_of p) (resolved_at n) k in
    record {
      limits = h;
      rules = none;
      resolves = ap (λ (w : Whole). w.program) (sym same);
      shaped = ap (λ (w : Whole). w.shape) (sym same);
      few_checks = few_in p n h same;
      fits = subst shapes.IsWithinLimits (ap (λ (w : Whole). w.shape) same) (shape_fits p h none);
    }
