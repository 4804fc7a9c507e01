-- The objects of the cells that a check reads on a typed heap.
use Rattle.std.proofs.Common.{◌≡◌, ◌<◌, ◌^◌, ℕ, zero, suc, List, [], ◌∷◌, Option, Some, None, slice_get, refl, subst}
use Rattle.std.specs.List.{AllByRecursion}
use Rattle.std.proofs.lemmas.List.Elements.{recursion_from_All}
use Rattle.st_events.specs.Heap.{Heap, Object, word_of}
use Rattle.st_check_meaning.specs.Plain.{Cell, cells_read}
use Rattle.st_check_meaning.specs.Laws.{IsTypedCell}
use Rattle.st_check_meaning.proofs.CheckLemmas.{checks_read_cells_that_exist}
use Rattle.st_eval.specs.Laws.{HasSmallNumbers, TellEachObject}

-- what holds of all holds of each
each_of : (P : Cell → Type 0) (cells : List Cell) (k : ℕ) (cell : Cell) → AllByRecursion P cells → slice_get cells k ≡ Some cell → P cell
each_of P [] k cell h e = cc
each_of P (c ∷ cells) zero cell h e = let same : c ≡ cell = cc in subst P same h.0
each_of P (c ∷ cells) (suc k) cell h e = each_of P cells k cell h.1 e

-- an object with a word has a small number
small_number :
    (heap : Heap) (obj field word : ℕ) (o : Option Object)
    → HasSmallNumbers heap
    → heap obj ≡ o
    → word_of o field ≡ Some word
    → obj < 2 ^ 32
small_number heap obj field word None small is found = cc
small_number heap obj field word (Some x) small is found = small obj x is

-- each cell that a check reads on a typed heap is there, so its object has a number of 32 bits
pub objects_are_told : TellEachObject
objects_are_told shape p heap site kinds args calls k cell right typed small e fit at =
    let cells = recursion_from_All (IsTypedCell shape heap) (cells_read p heap site args calls)
    (checks_read_cells_that_exist shape p heap site kinds args calls right typed e fit) in
    let there : IsTypedCell shape heap cell = each_of (IsTypedCell shape heap) (cells_read p heap site args calls) k cell cells at in
    small_number heap cell.obj cell.field there.word (heap cell.obj) small refl there.holds.found
