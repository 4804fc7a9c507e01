-- Room: how many words a body needs at most, so that no word is pushed without room, and none is taken that is not there.
use Rattle.std.specs.Prelude.{◌≢◌, ℕ, zero, suc, ◌+◌, ◌-◌, ◌*◌, ◌<◌, ◌≤◌, List, [], ◌∷◌, length, slice_get, Option, Some, None}
use Rattle.st_events.specs.declared.shapes.TheConstants.{MOST_ARGS}
use Rattle.st_check_meaning.specs.declared.limits.TheConstants.{MOST_DEPTH}
use Rattle.st_eval.specs.declared.frames.Span.{Span}
use Rattle.st_eval.specs.declared.instructions.Instruction.{Instruction}
use Rattle.st_eval.specs.declared.instructions.Instruction.TheVariants.{Push, Local, Shared, Field, Not, Minus, Binary, Both, Either, Test, Skip, Call}
use Rattle.st_eval.specs.Activations.{Activation, Activations, held_in_all, popped, onward, resumed}
use Rattle.st_eval.specs.Steps.{part}

-- one less, from 1 on
abbrev pub one_less : ℕ → ℕ
one_less zero = zero
one_less (suc n) = n

-- the instruction leaves one word more than it takes; all others leave no more than they take
abbrev pub grown : Instruction → ℕ
grown (Push word) = 1
grown (Local local) = 1
grown (Shared field) = 1
grown (Call pred args) = 1
grown i = 0

-- by how much code makes the words of a body more, at most
abbrev pub growth : List Instruction → ℕ
growth [] = 0
growth (i ∷ is) = grown i + growth is

-- code from so many words on, where so many of its first instructions are passed over, takes no word that is not there
abbrev pub Holds : List Instruction → ℕ → ℕ → Type 0
Holds [] skip words = Unit {0}
Holds (i ∷ is) (suc skip) words = Holds is skip words
Holds (Push word ∷ is) zero words = Holds is 0 (suc words)
Holds (Local local ∷ is) zero words = Holds is 0 (suc words)
Holds (Shared field ∷ is) zero words = Holds is 0 (suc words)
Holds (Field field at ∷ is) zero words = (1 ≤ words) × Holds is 0 words
Holds (Not ∷ is) zero words = (1 ≤ words) × Holds is 0 words
Holds (Minus at ∷ is) zero words = (1 ≤ words) × Holds is 0 words
Holds (Binary operator at ∷ is) zero words = (2 ≤ words) × Holds is 0 (one_less words)
Holds (Both count ∷ is) zero words = (1 ≤ words) × Holds is 0 (one_less words) × Holds is count words
Holds (Either count ∷ is) zero words = (1 ≤ words) × Holds is 0 (one_less words) × Holds is count words
Holds (Test count ∷ is) zero words = (1 ≤ words) × Holds is 0 (one_less words) × Holds is count (one_less words)
Holds (Skip count ∷ is) zero words = Holds is count words
Holds (Call pred args ∷ is) zero words = (args ≤ words) × Holds is 0 (suc (words - args))

-- a body: from any words on it takes none that is not there, and it never has more than so many, the first reply of a check included
pub record IsBody (code : List Instruction) (most : ℕ) (span : Span) : Type 0 where
  pub holds : (words : ℕ) → Holds (part code span.start span.end) 0 words
  pub grows : suc (growth (part code span.start span.end)) ≤ most

-- a body that goes on from so many words on
pub record IsBodyAt (code : List Instruction) (most : ℕ) (a : Activation) (words : ℕ) : Type 0 where
  pub holds : Holds (part code a.place a.end) 0 words
  pub grows : words + growth (part code a.place a.end) ≤ most

-- bodies that wait for a word, above which so many locals lie: what a caller has, with what the body above took of it, is within the most
abbrev pub Wait : List Instruction → ℕ → ℕ → List Activation → Type 0
Wait code most locals [] = locals ≤ MOST_ARGS
Wait code most locals (a ∷ rest) =
    (length a.words + locals ≤ most) × IsBodyAt code most a (suc (length a.words)) × Wait code most (length a.locals) rest

-- the memory that was taken for any evaluation
abbrev pub HasRooms : ℕ → Activations → Type 0
HasRooms most s = ((MOST_DEPTH + 1) * most + MOST_ARGS ≤ s.words_room) × (MOST_DEPTH ≤ s.calls_room)

-- an evaluation whose running body has so many words: there is room for all that it may push
pub record HasRoom (code : List Instruction) (most : ℕ) (s : Activations) (words : ℕ) : Type 0 where
  pub running : IsBodyAt code most s.running words
  pub waiting : Wait code most (length s.running.locals) s.waiting
  pub depth : length s.waiting ≤ MOST_DEPTH
  pub words_room : (MOST_DEPTH + 1) * most + MOST_ARGS ≤ s.words_room
  pub calls_room : MOST_DEPTH ≤ s.calls_room

-- the body runs
abbrev pub IsRunning : List Instruction → ℕ → Activations → Type 0
IsRunning code most s = HasRoom code most s (length s.running.words)

-- the body waits for a word
abbrev pub IsPaused : List Instruction → ℕ → Activations → Type 0
IsPaused code most s = HasRoom code most s (suc (length s.running.words))

-- there is room for one more word
abbrev pub HasOneRoom : Activations → Type 0
HasOneRoom s = held_in_all s < s.words_room

-- what an instruction needs of the stack
abbrev pub Needs : Instruction → Activations → Type 0
Needs (Push word) s = HasOneRoom s
Needs (Local local) s = HasOneRoom s
Needs (Shared field) s = Unit {0}
Needs (Field field at) s = Unit {0}
Needs Not s = HasOneRoom (popped s)
Needs (Minus at) s = HasOneRoom (popped s)
Needs (Binary operator at) s = HasOneRoom (popped (popped s))
Needs (Both count) s = HasOneRoom (popped s)
Needs (Either count) s = HasOneRoom (popped s)
Needs (Test count) s = Unit {0}
Needs (Skip count) s = Unit {0}
Needs (Call pred args) s = (args ≤ length s.running.words) × (length s.waiting ≢ MOST_DEPTH → length s.waiting < s.calls_room)

-- what the end of a body needs of the stack, and else its next instruction
abbrev pub NeedsNext : Option Instruction → Activations → Type 0
NeedsNext None s = elim (resumed s) [ None ↦ Unit {0} | Some after ↦ HasOneRoom after ]
NeedsNext (Some i) s = Needs i (onward s)

-- what the next step needs
abbrev pub NeedsStep : List Instruction → Activations → Type 0
NeedsStep code s = NeedsNext (slice_get (part code s.running.place s.running.end) 0) s
