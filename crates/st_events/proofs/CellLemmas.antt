-- The vector of cells as a heap
use Rattle.std.proofs.Common.{◌≡◌, ℕ, ◌<◌, List, length, map, take, get_or, Option, Some, None, refl, sym, ◌∙◌, ap, arith, replicate}
use Rattle.std.specs.Option.{option_flatten, option_map}
use Rattle.std.specs.Prelude.{slice_set}
use Rattle.std.proofs.lemmas.List.{map-set, length-map, get_or-map}
use Rattle.std.proofs.lemmas.Option.{slice_get-get_or}
use Rattle.st_events.specs.declared.heaps.TheConstants.{SHARED_OBJECT}
use Rattle.st_events.specs.declared.heaps.Cell.{Cell}
use Rattle.st_events.specs.Terms.{ShapeLists, Object, heap_of, with_object, with_word, set_word, fresh, first_heap}
use Rattle.st_events.specs.HeapCell.{object_of, object_with}
use Rattle.st_events.proofs.HeapLemmas.{heap_of_object_put, heap_of_word_set, heap_of_first, map_of_replicate, set_then_take, absent}

-- an object put into a cell
pub cells_with_object :
    (cells : List Cell) (obj : ℕ) (cell : Cell) (x : Object)
    → obj < length (map object_of cells)
    → object_of cell ≡ Some x
    → heap_of (map object_of (slice_set cells obj cell)) ≡ with_object (heap_of (map object_of cells)) obj x
cells_with_object cells obj cell x h e =
    ap heap_of (map-set object_of cells obj cell ∙ ap (λ (y : Option Object). slice_set (map object_of cells) obj y) e) ∙ heap_of_object_put (map object_of cells) obj x h

-- what stands at a cell's number
pub heap_of_cells :
    (cells : List Cell) (obj : ℕ) (cell : Cell)
    → obj < length cells
    → cell ≡ get_or cells obj cell
    → heap_of (map object_of cells) obj ≡ object_of cell
heap_of_cells cells obj cell h e =
    ap option_flatten (slice_get-get_or (map object_of cells) obj (object_of cell) (omega (arith, length-map cells object_of)))
    ∙ get_or-map object_of cells obj cell (object_of cell) h ∙ ap object_of (sym e)

object_with_word_set :
    (class : Option ℕ) (words : List ℕ) (field value : ℕ)
    → object_with class (slice_set words field value) ≡ option_map (set_word field value) (object_with class words)
object_with_word_set None words field value = refl
object_with_word_set (Some c) words field value = refl

-- a word set in a cell
pub cell_with_word_set :
    (cell : Cell) (field value : ℕ)
    → object_of (record cell { words = slice_set cell.words field value }) ≡ option_map (set_word field value) (object_of cell)
cell_with_word_set cell field value =
    ap (object_with cell.class) (set_then_take cell.fields cell.words field value) ∙ object_with_word_set cell.class (take cell.fields cell.words) field value

-- a word set in one of the cells
pub cells_with_word :
    (cells : List Cell) (obj field value : ℕ) (cell : Cell)
    → obj < length cells
    → cell ≡ get_or cells obj cell
    → heap_of (map object_of (slice_set cells obj (record cell { words = slice_set cell.words field value }))) ≡ with_word (heap_of (map object_of cells)) obj field value
cells_with_word cells obj field value cell h e =
    let here = heap_of_cells cells obj cell h e in
    let put = map-set object_of cells obj (record cell { words = slice_set cell.words field value })
    ∙ ap (λ (y : Option Object). slice_set (map object_of cells) obj y) (cell_with_word_set cell field value ∙ ap (option_map (set_word field value)) (sym here)) in
    ap heap_of put ∙ heap_of_word_set (map object_of cells) obj field value (omega (arith, length-map cells object_of))

-- the cells before the first event
pub first_cells :
    (shape : ShapeLists) (cells : List Cell) (n : ℕ) (nothing cell : Cell)
    → cells ≡ replicate n nothing
    → object_of nothing ≡ absent
    → SHARED_OBJECT < n
    → object_of cell ≡ Some (fresh shape 0)
    → heap_of (map object_of (slice_set cells SHARED_OBJECT cell)) ≡ first_heap shape
first_cells shape cells n nothing cell is none h e =
    ap heap_of (map-set object_of cells SHARED_OBJECT cell ∙ ap (λ (y : Option Object). slice_set (map object_of cells) SHARED_OBJECT y) e
    ∙ ap (λ (objects : List (Option Object)). slice_set objects SHARED_OBJECT (Some (fresh shape 0)))
    (ap (map object_of) is ∙ map_of_replicate object_of n nothing ∙ ap (replicate n) none)) ∙ heap_of_first shape n h
