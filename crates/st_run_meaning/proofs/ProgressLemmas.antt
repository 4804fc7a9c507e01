-- How far a check has come stays so
use Rattle.std.proofs.Common.{◌≡◌, ℕ, zero, suc, ◌≤◌, ◌==◌, Bool, true, false, List, [], ◌∷◌, length, slice_get, Option, Some, None, refl, sym, subst, arith}
use Rattle.std.proofs.lemmas.Option.{slice_get_within}
use Rattle.st_events.specs.declared.limits.Sizes.{Sizes}
use Rattle.st_events.specs.Terms.{Launched}
use Rattle.st_events.proofs.AmongLemmas.{or_first, or_second, same_number}
use Rattle.st_resolved.specs.Terms.{Program}
use Rattle.st_check_meaning.specs.Plain.{Cell}
use Rattle.st_thread_meaning.specs.Right.{has_cell_of}
use Rattle.st_run_meaning.specs.States.{Progress, has_read, abandoned_at}
use Rattle.st_run_meaning.specs.Agents.{cells_of, cell_after}
use Rattle.st_run_meaning.specs.Steps.{one_more, progress_after}
use Rattle.st_run_meaning.specs.SoundStates.{IsSoundProgress}

-- where what is known of the launch stays, and no lost version is found again
pub progress_stays :
    (p : Program) (sizes : Sizes) (before later : Option Launched) (lost more : ℕ → Bool) (q : Progress)
    → ((launch : Launched) → before ≡ Some launch → later ≡ Some launch)
    → ((obj : ℕ) → lost obj ≡ true → more obj ≡ true)
    → IsSoundProgress (cells_of p sizes before) lost q
    → IsSoundProgress (cells_of p sizes later) more q
progress_stays p sizes None later lost more (has_read k) known kept h = omega (arith, h)
progress_stays p sizes None later lost more (abandoned_at obj) known kept h = let none : false ≡ true = h.1 in cc
progress_stays p sizes (Some launch) later lost more (has_read k) known kept h =
    subst (λ (o : Option Launched). k ≤ length (cells_of p sizes o)) (sym (known launch refl)) h
progress_stays p sizes (Some launch) later lost more (abandoned_at obj) known kept h = (
  kept obj h.0,
  subst (λ (o : Option Launched). has_cell_of obj (cells_of p sizes o) ≡ true) (sym (known launch refl)) h.1,
)

-- a cell of the list
cell_is_of : (cells : List Cell) (k : ℕ) (cell : Cell) → slice_get cells k ≡ Some cell → has_cell_of cell.obj cells ≡ true
cell_is_of [] k cell e = absurd (cc)
cell_is_of (c ∷ cells) zero cell e =
    let same : c ≡ cell = cc in subst (λ (x : Cell). has_cell_of x.obj (c ∷ cells) ≡ true) same (or_first (c.obj == c.obj) (has_cell_of c.obj cells) (same_number c.obj))
cell_is_of (c ∷ cells) (suc k) cell e = or_second (c.obj == cell.obj) (has_cell_of cell.obj cells) (cell_is_of cells k cell e)

-- a read
pub read_keeps_progress :
    (cells : List Cell) (lost : ℕ → Bool) (q : Progress)
    → IsSoundProgress cells lost q
    → IsSoundProgress cells lost (progress_after q (cell_after q cells) lost)
read_keeps_progress cells lost (abandoned_at obj) h = h
read_keeps_progress cells lost (has_read k) h = by (slice_get cells k) refl
  where
    at_cell : (cell : Cell) → slice_get cells k ≡ Some cell → (b : Bool) → lost cell.obj ≡ b
        → IsSoundProgress cells lost (elim b [ true ↦ abandoned_at cell.obj | false ↦ one_more (has_read k) ])
    at_cell cell e true gone = (gone, cell_is_of cells k cell e)
    at_cell cell e false there = omega (arith, slice_get_within cells k cell e)

    by : (found : Option Cell) → slice_get cells k ≡ found → IsSoundProgress cells lost (progress_after (has_read k) found lost)
    by None e = h
    by (Some cell) e = at_cell cell e (lost cell.obj) refl
