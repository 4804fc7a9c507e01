-- Bodies that are being evaluated, each with its locals and its words: one runs, the others wait for the predicates that they call.
use Rattle.std.specs.Prelude.{◌≡◌, ℕ, ◌+◌, ◌-◌, ◌≤◌, min, Bool, true, false, List, [], ◌∷◌, length, take, drop, reverse, unwrap_or, slice_get, Option, Some, None}
use Rattle.st_eval.specs.declared.frames.Frame.{Frame}
use Rattle.st_eval.specs.declared.frames.Span.{Span}
use Rattle.st_eval.specs.StraightCode.{top, below}

-- a body that is being evaluated: the place of its next instruction, the end of its code, its locals, and its words, the top first
pub record Activation : Type 0 where
  pub place : ℕ
  pub end : ℕ
  pub locals : List ℕ
  pub words : List ℕ

-- the one that runs, and those that wait, the last caller first; how many words there is room for in all, and how many may wait
pub record Activations : Type 0 where
  pub running : Activation
  pub waiting : List Activation
  pub words_room : ℕ
  pub calls_room : ℕ

-- the words of one body, its locals among them
abbrev pub held : Activation → ℕ
held a = length a.words + length a.locals

-- the words of all that wait
abbrev pub held_waiting : List Activation → ℕ
held_waiting [] = 0
held_waiting (a ∷ rest) = held a + held_waiting rest

-- all words
abbrev pub held_in_all : Activations → ℕ
held_in_all s = held s.running + held_waiting s.waiting

-- the top word; 0 where there is none
abbrev pub top_word : Activations → ℕ
top_word s = top s.running.words

-- the word of a local; 0 where there is none, which a well-formed program never meets
abbrev pub local_word : Activations → ℕ → ℕ
local_word s local = unwrap_or (slice_get s.running.locals local) 0

-- a word more
abbrev pub pushed : ℕ → Activations → Activations
pushed word s = record s { running = record s.running { words = word ∷ s.running.words } }

-- without the top word
abbrev pub popped : Activations → Activations
popped s = record s { running = record s.running { words = below s.running.words } }

-- one instruction further
abbrev pub onward : Activations → Activations
onward s = record s { running = record s.running { place = s.running.place + 1 } }

-- past so many instructions, at most to the end
abbrev pub past : ℕ → Activations → Activations
past count s = record s { running = record s.running { place = s.running.place + min count (s.running.end - s.running.place) } }

-- a body begins, with so many of the top words as its locals; the one that ran waits
abbrev pub entered : Span → ℕ → Activations → Activations
entered span args s =
    record s {
      running = record { place = span.start; end = span.end; locals = reverse (take args s.running.words); words = [] };
      waiting = record s.running { words = drop args s.running.words } ∷ s.waiting;
    }

-- the one that runs is gone, and the last caller runs; nothing where none waits
abbrev pub resumed : Activations → Option Activations
resumed s = elim s.waiting [ [] ↦ None | a ∷ rest ↦ Some (record s { running = a; waiting = rest }) ]

-- a body alone, with these locals
abbrev pub alone : Span → List ℕ → Activations → Activations
alone span locals s = record s { running = record { place = span.start; end = span.end; locals = locals; words = [] }; waiting = [] }

-- no body yet
abbrev pub unused : ℕ → ℕ → Activations
unused words calls =
    record { running = record { place = 0; end = 0; locals = []; words = [] }; waiting = []; words_room = words; calls_room = calls }

-- a frame, where these are the words from the top down
abbrev pub activation_of : Frame → List ℕ → Activation
activation_of f words =
    record { place = f.place; end = f.end; locals = reverse (take f.locals (drop f.words words)); words = take f.words words }

-- the words below those of a frame
abbrev pub words_below : Frame → List ℕ → List ℕ
words_below f words = drop f.locals (drop f.words words)

-- frames that wait, the last caller first
abbrev pub activations_of : List Frame → List ℕ → List Activation
activations_of [] words = []
activations_of (f ∷ fs) words = activation_of f words ∷ activations_of fs (words_below f words)

-- frames have all these words among them
abbrev pub Share : List Frame → List ℕ → Type 0
Share [] words = length words ≤ 0
Share (f ∷ fs) words = (f.words ≤ length words) × (f.locals ≤ length (drop f.words words)) × Share fs (words_below f words)

-- what a stack stands for: the frame that runs; those that wait and the words, the newest last; and the room for each
abbrev pub stacked : Frame → List Frame → List ℕ → ℕ → ℕ → Activations
stacked running waiting words words_room calls_room =
    record {
      running = activation_of running (reverse words);
      waiting = activations_of (reverse waiting) (words_below running (reverse words));
      words_room = words_room;
      calls_room = calls_room;
    }

-- the frames share the words
abbrev pub IsStack : Frame → List Frame → List ℕ → Type 0
IsStack running waiting words = Share (running ∷ reverse waiting) (reverse words)

-- whether a caller went on: then it is the state after that, else nothing changed
abbrev pub ResumeIs : Bool → Activations → Activations → Option Activations → Type 0
ResumeIs true now before (Some after) = now ≡ after
ResumeIs false now before None = now ≡ before
ResumeIs answer now before state = ⊥
