-- An active check in memory: what it does next, as a turn of its evaluation.
use Rattle.std.specs.Prelude.{◌≡◌, Bool, true, false}
use Rattle.st_events.specs.declared.verdicts.Verdict.TheVariants.{Plain as Value, Abandoned}
use Rattle.st_resolved.specs.Terms.{Program}
use Rattle.st_check_meaning.specs.Turns.{Turn, is_over as has_value}
use Rattle.st_eval.specs.declared.evals.Eval.{Eval}
use Rattle.st_eval.specs.Evaluations.{AsksFor}
use Rattle.st_sched.specs.declared.checks.Awaits.{Awaits}
use Rattle.st_sched.specs.declared.checks.Awaits.TheVariants.{Cell, Retire}

-- whether it has a verdict
abbrev pub is_over : Awaits → Bool
is_over (Cell obj field) = false
is_over (Retire verdict) = true

-- it does what the turn does: it waits for the turn's cell and goes on as the turn does, or it has the turn's value
abbrev pub AwaitsTurn : Program → Turn → Awaits → Eval → Type 0
AwaitsTurn p turn (Cell obj field) e = AsksFor p turn obj field e
AwaitsTurn p turn (Retire (Value plain)) e = turn ≡ has_value plain
AwaitsTurn p turn (Retire (Abandoned obj)) e = ⊥
