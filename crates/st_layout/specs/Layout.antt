-- Which number the word of a name has. The parts of a table stand one after another, in the order of this file.
use Rattle.std.specs.Prelude.{◌≡◌, ℕ, ◌+◌, ◌-◌, ◌*◌, ◌<◌}
use Rattle.st_layout.specs.declared.plans.Plan.{Plan}
use Rattle.st_layout.specs.declared.words.TheConstants.{CLOSING_WORD, CLOCK_WORD, EPOCH_WORD, AVAILABLE_WORD, FIRST_FLAG}
use Rattle.st_layout.specs.declared.words.TheConstants.{CLASS_INDEX, HEADER_INDEX, FORWARDS_INDEX, FIELDS_INDEX, CELL_WORDS, COPY_WORDS, ROW_WORDS}
use Rattle.st_layout.specs.Names.{WordName, ClosingWord, ClockWord, EpochWord, AvailableWord, FlagWord, LaneWord, ClassWord, HeaderWord}
use Rattle.st_layout.specs.Names.{ForwardWord, FieldWord, CopyWord, FreeWord, RowWord, HasWord, cells_of}

-- the lane words follow the flags, one for each mutator and one for main
abbrev pub first_lane : (plan : Plan) → ℕ
first_lane plan = FIRST_FLAG + (plan.mutators + 1)

-- the cells follow the lane words
abbrev pub first_cell : (plan : Plan) → ℕ
first_cell plan = first_lane plan + plan.lanes

-- the copies follow the cells
abbrev pub first_copy : (plan : Plan) → ℕ
first_copy plan = first_cell plan + cells_of plan * CELL_WORDS

-- the free words follow the copies
abbrev pub first_free : (plan : Plan) → ℕ
first_free plan = first_copy plan + plan.copies * COPY_WORDS

-- the rows follow the free words, one for each copy
abbrev pub first_row : (plan : Plan) → ℕ
first_row plan = first_free plan + plan.copies

-- the table ends with the rows
unfoldable pub words_of : (plan : Plan) → ℕ
words_of plan = first_row plan + plan.rows * ROW_WORDS

-- the word of a name
unfoldable pub word_of : Plan → WordName → ℕ
word_of plan ClosingWord = CLOSING_WORD
word_of plan ClockWord = CLOCK_WORD
word_of plan EpochWord = EPOCH_WORD
word_of plan AvailableWord = AVAILABLE_WORD
word_of plan (FlagWord number) = FIRST_FLAG + number
word_of plan (LaneWord lane) = first_lane plan + lane
word_of plan (ClassWord object) = first_cell plan + object * CELL_WORDS + CLASS_INDEX
word_of plan (HeaderWord object) = first_cell plan + object * CELL_WORDS + HEADER_INDEX
word_of plan (ForwardWord object lane) = first_cell plan + object * CELL_WORDS + FORWARDS_INDEX + lane
word_of plan (FieldWord object field) = first_cell plan + object * CELL_WORDS + FIELDS_INDEX + field
word_of plan (CopyWord copy index) = first_copy plan + copy * COPY_WORDS + index
word_of plan (FreeWord index) = first_free plan + index
word_of plan (RowWord check index) = first_row plan + (check - 1) * ROW_WORDS + index

-- no two names have one word
abbrev pub HasDistinctWords : Plan → Type 0
HasDistinctWords plan = (a b : WordName) → HasWord plan a → HasWord plan b → word_of plan a ≡ word_of plan b → a ≡ b

-- each name's word is one of the first `count`
abbrev pub HasWordsBelow : Plan → ℕ → Type 0
HasWordsBelow plan count = (name : WordName) → HasWord plan name → word_of plan name < count
