-- Following a course: it depends on the cells read alone, and a safe course reads only cells that exist.
use Rattle.std.proofs.Common.{◌≡◌, ℕ, zero, suc, List, All, unwrap_or, refl, sym, ◌∙◌, ap, subst}
use Rattle.std.proofs.lemmas.List.Elements.{All-head, All-tail, All-cons, All-nil}
use Rattle.st_events.specs.Heap.{Heap, word_at}
use Rattle.st_events.specs.Shape.{ShapeLists}
use Rattle.st_check_meaning.specs.Courses.{Course, comes_to, ends_in, reads, uses_unit}
use Rattle.st_check_meaning.specs.Plain.{Cell, after_reading, word_found, followed}
use Rattle.st_check_meaning.specs.Safe.{IsSafe}
use Rattle.st_check_meaning.specs.Laws.{IsSameAt, IsTypedCell}

-- where another heap has the same at each cell read, following is the same there
pub followed_same :
    (heap other : Heap) (c : Course ℕ) (units : ℕ)
    → All (IsSameAt heap other) (followed heap c units).cells
    → followed other c units ≡ followed heap c units
followed_same heap other (comes_to word) units h = refl
followed_same heap other (ends_in plain) units h = refl
followed_same heap other (reads obj field next) units h =
    let cell : Cell = record { obj = obj; field = field } in
    let later : List Cell = (followed heap (next (word_found heap obj field)) units).cells in
    let here : word_at other obj field ≡ word_at heap obj field = All-head (IsSameAt heap other) cell later h in
    let same : word_found other obj field ≡ word_found heap obj field = ap (λ x. unwrap_or x 0) here in
    ap (λ (word : ℕ). after_reading obj field (followed other (next word) units)) same
    ∙ ap (after_reading obj field) (followed_same heap other (next (word_found heap obj field)) units (All-tail (IsSameAt heap other) cell later h))
followed_same heap other (uses_unit next) zero h = refl
followed_same heap other (uses_unit next) (suc units) h = followed_same heap other (next tt) units h

-- a safe course reads cells that exist, with words of their kinds
pub safe_reads_exist :
    (shape : ShapeLists) (heap : Heap) (P : ℕ → Type 0) (c : Course ℕ) (units : ℕ)
    → IsSafe shape heap P c
    → All (IsTypedCell shape heap) (followed heap c units).cells
safe_reads_exist shape heap P (comes_to word) units h = All-nil (IsTypedCell shape heap)
safe_reads_exist shape heap P (ends_in plain) units h = All-nil (IsTypedCell shape heap)
safe_reads_exist shape heap P (reads obj field next) units h =
    let same : word_found heap obj field ≡ h.0 = ap (λ x. unwrap_or x 0) h.1.found in
    All-cons (IsTypedCell shape heap) (record { obj = obj; field = field }) (followed heap (next (word_found heap obj field)) units).cells
    (record { word = h.0; holds = h.1 })
    (safe_reads_exist shape heap P (next (word_found heap obj field)) units (subst (λ (word : ℕ). IsSafe shape heap P (next word)) (sym same) h.2))
safe_reads_exist shape heap P (uses_unit next) zero h = All-nil (IsTypedCell shape heap)
safe_reads_exist shape heap P (uses_unit next) (suc units) h = safe_reads_exist shape heap P (next tt) units h
