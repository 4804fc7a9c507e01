-- The words of a small plan, how many the largest has, and the halves of a word. Code and definitions take the same places of the parts:
-- without these lines a changed one would change both, and no proof would tell.
use Rattle.std.proofs.Common.{◌≡◌, refl}
use Rattle.st_layout.specs.declared.plans.Plan.{Plan}
use Rattle.st_layout.specs.Layout.{words_of, word_of}
use Rattle.st_layout.specs.Packed.{packed, high_half, low_half}
use Rattle.st_layout.specs.Names.{ClosingWord, ClockWord, EpochWord, AvailableWord, FlagWord, LaneWord, ClassWord, HeaderWord}
use Rattle.st_layout.specs.Names.{ForwardWord, FieldWord, CopyWord, FreeWord, RowWord}

-- ---- the words of a small plan

abbrev small_plan : Plan
small_plan = record { mutators = 2; lanes = 2; objects = 4; copies = 3; rows = 10 }

-- the single words, flags 0 to 2, lanes 0 and 1
board : (word_of small_plan ClosingWord ≡ 0) × (word_of small_plan ClockWord ≡ 1) × (word_of small_plan EpochWord ≡ 2)
    × (word_of small_plan AvailableWord ≡ 3) × (word_of small_plan (FlagWord 0) ≡ 4) × (word_of small_plan (LaneWord 0) ≡ 7)
unfolding word_of
board = (refl, refl, refl, refl, refl, refl)

-- the shared object's cell, which follows cell 0
shared_cell : (word_of small_plan (ClassWord 1) ≡ 33) × (word_of small_plan (HeaderWord 1) ≡ 34)
    × (word_of small_plan (ForwardWord 1 0) ≡ 35) × (word_of small_plan (FieldWord 1 0) ≡ 43)
unfolding word_of
shared_cell = (refl, refl, refl, refl)

-- the first copy, free word and row, and the end
rest : (word_of small_plan (CopyWord 0 0) ≡ 249) × (word_of small_plan (FreeWord 0) ≡ 288)
    × (word_of small_plan (RowWord 1 0) ≡ 291) × (words_of small_plan ≡ 321)
unfolding word_of words_of
rest = (refl, refl, refl, refl)

-- ---- the largest plan

abbrev largest_plan : Plan
largest_plan = record { mutators = 8; lanes = 8; objects = 16384; copies = 1048576; rows = 4194304 }

largest : words_of largest_plan ≡ 30408773
unfolding words_of
largest = refl

-- ---- two halves in one word

halves : (packed 7 4294967295 ≡ 34359738367) × (high_half 34359738367 ≡ 7) × (low_half 34359738367 ≡ 4294967295)
halves = (refl, refl, refl)
