-- Words of 64 bits: what a heap, a launch and the events that bring values are made of.
use Rattle.std.specs.Prelude.{◌≡◌, ℕ, ◌^◌, ◌<◌, All, Some}
use Rattle.st_events.specs.declared.events.Event.{Event}
use Rattle.st_events.specs.declared.events.Event.TheVariants.{New, Load, Store, Cas, Launch, Retire}
use Rattle.st_events.specs.Heap.{Heap, word_at}
use Rattle.st_events.specs.World.{Launched}

-- a word has 64 bits
abbrev pub IsWord : ℕ → Type 0
IsWord word = word < 2 ^ 64

-- the values that an event brings are words
abbrev pub BringsWords : Event → Type 0
BringsWords (New m obj class) = Unit {0}
BringsWords (Load m obj field value) = IsWord value
BringsWords (Store m obj field value) = IsWord value
BringsWords (Cas m obj field expect value done) = IsWord expect × IsWord value
BringsWords (Launch m site number args) = All IsWord args.words
BringsWords (Retire m number) = Unit {0}

-- each cell of the heap holds a word
abbrev pub HoldsWords : Heap → Type 0
HoldsWords heap = (obj field word : ℕ) → word_at heap obj field ≡ Some word → IsWord word

-- the heap before the launch holds words, and the arguments are words
pub record IsLaunchOfWords (launch : Launched) : Type 0 where
  pub past : HoldsWords launch.past
  pub args : All IsWord launch.args.words
