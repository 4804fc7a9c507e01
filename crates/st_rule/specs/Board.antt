-- What the words of the table say, each by its name. Nothing above this file sees a word's number but through its name.
use Rattle.std.specs.Prelude.{◌≡◌, ℕ, ◌*◌, ◌/◌, ◌==◌, ◌&&◌, Bool, true, false, if◌then◌else◌, List, length, slice_index}
use Rattle.st_events.specs.declared.limits.Sizes.{Sizes}
use Rattle.st_layout.specs.declared.plans.Plan.{Plan}
use Rattle.st_layout.specs.Names.{WordName, ClosingWord, ClockWord, EpochWord, AvailableWord, FlagWord, LaneWord, ClassWord, HeaderWord}
use Rattle.st_layout.specs.Names.{ForwardWord, FieldWord, CopyWord, FreeWord, RowWord, HasWord}
use Rattle.st_layout.specs.Layout.{word_of, words_of}
use Rattle.st_rule.specs.declared.views.Phase.{Phase}
use Rattle.st_rule.specs.declared.views.Phase.TheVariants.{Inside, Alone}

-- the value of each word
abbrev pub Board : Type 0
Board = WordName → ℕ

-- whether two names are one
abbrev pub same_name : WordName → WordName → Bool
same_name ClosingWord ClosingWord = true
same_name ClockWord ClockWord = true
same_name EpochWord EpochWord = true
same_name AvailableWord AvailableWord = true
same_name (FlagWord a) (FlagWord b) = a == b
same_name (LaneWord a) (LaneWord b) = a == b
same_name (ClassWord a) (ClassWord b) = a == b
same_name (HeaderWord a) (HeaderWord b) = a == b
same_name (ForwardWord a c) (ForwardWord b d) = (a == b) && (c == d)
same_name (FieldWord a c) (FieldWord b d) = (a == b) && (c == d)
same_name (CopyWord a c) (CopyWord b d) = (a == b) && (c == d)
same_name (FreeWord a) (FreeWord b) = a == b
same_name (RowWord a c) (RowWord b d) = (a == b) && (c == d)
same_name a b = false

-- the board with one word written
abbrev pub written : WordName → ℕ → Board → Board
written name value board = λ other. if same_name other name then value else board other

-- the plan of the table for the sizes of a run: a launch costs 2 of its mutator's charge, and each check has a row
abbrev pub plan_of : Sizes → Plan
plan_of sizes = record {
  mutators = sizes.mutators;
  lanes = sizes.lanes;
  objects = sizes.objects;
  copies = sizes.copies;
  rows = sizes.mutators * (sizes.events / 2);
}

-- the words are those of the plan, and each says what the board has at its name
pub record Displays (plan : Plan) (words : List ℕ) (board : Board) : Type 0 where
  pub count : length words ≡ words_of plan
  pub says : (name : WordName) → HasWord plan name → slice_index words (word_of plan name) ≡ board name

-- the board at the start: the free list has all copies, each at its own index, and every other word is 0
abbrev pub first_board : Plan → Board
first_board plan AvailableWord = plan.copies
first_board plan (FreeWord index) = index
first_board plan name = 0

-- the words of which a seat in this phase may keep what it has loaded: only a closer changes the board and the check rows, and only who is inside or alone the rest
abbrev pub stays_loaded : Phase → WordName → Bool
stays_loaded Inside EpochWord = true
stays_loaded Inside AvailableWord = true
stays_loaded Inside (LaneWord lane) = true
stays_loaded Inside (FreeWord index) = true
stays_loaded Alone EpochWord = true
stays_loaded Alone AvailableWord = true
stays_loaded Alone (LaneWord lane) = true
stays_loaded Alone (FreeWord index) = true
stays_loaded Alone ClockWord = true
stays_loaded Alone (CopyWord copy index) = true
stays_loaded Alone (ForwardWord object lane) = true
stays_loaded Alone (RowWord check index) = true
stays_loaded phase name = false
