-- What keeping a version leaves as it was
use Rattle.std.proofs.Common.{◌≡◌, ℕ, length, IsSome, ap, subst, ◌∙◌, inl, inr}
use Rattle.st_snap.specs.Table.{TableLists, KeepsVersion, Writes, Changes, Makes, adjust, sent, stamped}
use Rattle.st_snap.specs.Terms.{heap_of, word_at, with_word, ShapeLists}
use Rattle.st_snap.proofs.ListLemmas.{adjusting_keeps_length}

-- keeping a version leaves the heap as it is
pub kept_same_heap : (before after : TableLists) (obj : ℕ) → KeepsVersion before after obj → after.heap ≡ before.heap
kept_same_heap before after obj k = elim k.cases [ inl y ↦ ap (λ (t : TableLists). t.heap) y.rest | inr n ↦ ap (λ (t : TableLists). t.heap) n.1 ]

-- and the epoch
pub kept_same_epoch : (before after : TableLists) (obj : ℕ) → KeepsVersion before after obj → after.epoch ≡ before.epoch
kept_same_epoch before after obj k = elim k.cases [ inl y ↦ ap (λ (t : TableLists). t.epoch) y.rest | inr n ↦ ap (λ (t : TableLists). t.epoch) n.1 ]

-- and as many headers
pub kept_header_room : (before after : TableLists) (obj : ℕ) → KeepsVersion before after obj → length after.headers ≡ length before.headers
kept_header_room before after obj k = elim k.cases [
  | inl y ↦ ap (λ (t : TableLists). length t.headers) y.rest ∙ adjusting_keeps_length (sent y.target before.lanes) before.headers obj
  | inr n ↦ ap (λ (t : TableLists). length t.headers) n.1
]

-- a cell is there still once a version is kept
pub kept_cell :
    (before after : TableLists) (obj field : ℕ)
    → KeepsVersion before after obj
    → IsSome (word_at (heap_of before.heap) obj field)
    → IsSome (word_at (heap_of after.heap) obj field)
kept_cell before after obj field k is = rw (kept_same_heap before after obj k) is

-- a version is kept, and then a word is written
pub changes :
    (before between after : TableLists) (obj field value : ℕ)
    → KeepsVersion before between obj
    → Writes between after obj field value
    → Changes before after obj field value
changes before between after obj field value version writes =
    let heap = kept_same_heap before between obj version in
    record {
      between = between;
      version = version;
      heap = writes.heap ∙ ap (λ h. with_word (heap_of h) obj field value) heap;
      room = writes.room ∙ ap length heap;
      rest = subst (λ (epoch : ℕ). after ≡ record between { heap = after.heap; headers = adjust (stamped epoch) between.headers obj })
          (kept_same_epoch before between obj version) writes.rest;
    }

kept_same_lanes : (before after : TableLists) (obj : ℕ) → KeepsVersion before after obj → after.lanes ≡ before.lanes
kept_same_lanes before after obj k = elim k.cases [ inl y ↦ ap (λ (t : TableLists). t.lanes) y.rest | inr n ↦ ap (λ (t : TableLists). t.lanes) n.1 ]

-- a change leaves the lanes
pub changed_same_lanes : (before after : TableLists) (obj field value : ℕ) → Changes before after obj field value → after.lanes ≡ before.lanes
changed_same_lanes before after obj field value c = ap (λ (t : TableLists). t.lanes) c.rest ∙ kept_same_lanes before c.between obj c.version

-- a new object leaves the lanes
pub made_same_lanes :
    (shape : ShapeLists) (objects : ℕ) (before after : TableLists) (m class obj : ℕ)
    → Makes shape objects before after m class obj
    → after.lanes ≡ before.lanes
made_same_lanes shape objects before after m class obj k = ap (λ (t : TableLists). t.lanes) k.rest
