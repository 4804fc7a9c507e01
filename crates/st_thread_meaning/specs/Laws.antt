-- Laws of what threads do, and of right verdicts.
use Rattle.std.specs.Prelude.{◌≡◌, ℕ, ◌+◌, ◌*◌, ◌≤◌, List, [], ◌∷◌, ◌++◌, length, map, filter}
use Rattle.st_events.specs.declared.events.Event.{Event}
use Rattle.st_events.specs.declared.limits.Sizes.{Sizes}
use Rattle.st_events.specs.declared.verdicts.End.{End}
use Rattle.st_events.specs.declared.verdicts.Verdict.{Verdict}
use Rattle.st_events.specs.History.{heap_after, own_events, charge_of, charge_of_all, is_new, objects_of}
use Rattle.st_events.specs.Judge.{IsJudge}
use Rattle.st_events.specs.Legal.{IsLegal}
use Rattle.st_events.specs.Shape.{ShapeLists, IsWithinLimits}
use Rattle.st_resolved.specs.Terms.{Term, a_while, Block, Program}
use Rattle.st_thread_meaning.specs.Deeds.{Request, Deed, Means, cost_of}
use Rattle.st_thread_meaning.specs.Statements.{term_deed, one_turn, command_deed, block_deed}
use Rattle.st_thread_meaning.specs.Threads.{Turn, asks_for, call_within, next_request, reply_of, IsAnswerTo, LeadTo, Follows}
use Rattle.st_resolved.specs.WellFormed.{IsWellFormed}
use Rattle.st_thread_meaning.specs.Right.{IsRightVerdict, IsPlain}
use Rattle.st_thread_meaning.specs.Typed.{IsRightTurn}

-- a loop is a turn, and the loop again where its condition is true
abbrev pub LoopByTurns : Type 0
LoopByTurns =
    (p : Program) (depth : ℕ) (test : Term) (body : Block) (locals : List ℕ) (means : Means) (rest : List ℕ → Means → Deed)
    → command_deed p (call_within p depth) (a_while test body) locals means rest
    ≡ one_turn (term_deed test) (block_deed p (call_within p depth) body)
    (λ changed behind. command_deed p (call_within p depth) (a_while test body) changed behind rest) locals means rest

-- the replies that a thread has from its events
abbrev pub replies_of : List Event → List ℕ
replies_of es = map reply_of es

-- a thread's events say what it does next, by their replies; its first event answers what it does first, and each event more answers
-- what it does after the events before
pub record LeadByReplies : Type 0 where
  pub now :
      (p : Program) (sizes : Sizes) (thread : ℕ) (es : List Event) (turn : Turn)
      → LeadTo p sizes thread es turn
      → next_request p sizes thread (replies_of es) ≡ turn
  pub first : (p : Program) (sizes : Sizes) (thread : ℕ) → LeadTo p sizes thread [] (next_request p sizes thread [])
  pub grow :
      (p : Program) (sizes : Sizes) (thread : ℕ) (es : List Event) (e : Event) (turn : Turn)
      → LeadTo p sizes thread es turn
      → IsAnswerTo e turn
      → LeadTo p sizes thread (es ++ e ∷ []) (next_request p sizes thread (replies_of (es ++ e ∷ [])))
  pub before :
      (p : Program) (sizes : Sizes) (thread : ℕ) (es fs : List Event) (e : Event) (turn : Turn)
      → LeadTo p sizes thread (es ++ e ∷ fs) turn
      → LeadTo p sizes thread es (next_request p sizes thread (replies_of es)) × IsAnswerTo e (next_request p sizes thread (replies_of es))

-- a thread has one end: events that follow its code to an end follow it to no other, and no event follows them
pub record HaveOneEnd : Type 0 where
  pub one :
      (p : Program) (sizes : Sizes) (thread : ℕ) (es : List Event) (end other : End)
      → Follows p sizes thread es end
      → Follows p sizes thread es other
      → end ≡ other
  pub last :
      (p : Program) (sizes : Sizes) (thread : ℕ) (es fs : List Event) (e : Event) (end : End) (turn : Turn)
      → Follows p sizes thread es end
      → LeadTo p sizes thread (es ++ e ∷ fs) turn
      → ⊥

-- an event takes of the charge what the request that it answers costs; a thread's events take no more than its charge in all, and it makes
-- no more objects than its region has
pub record KeepWithinMeans : Type 0 where
  pub cost : (e : Event) (request : Request) → IsAnswerTo e (asks_for request) → charge_of e ≡ cost_of request
  pub charge :
      (p : Program) (sizes : Sizes) (thread : ℕ) (es : List Event) (turn : Turn)
      → LeadTo p sizes thread es turn
      → charge_of_all es ≤ sizes.events
  pub room :
      (p : Program) (sizes : Sizes) (thread : ℕ) (es : List Event) (turn : Turn)
      → LeadTo p sizes thread es turn
      → length (filter is_new es) ≤ sizes.objects

-- the right verdicts of a program make a judge: only a launched check has one, and what is right for a legal journal is right for every
-- legal journal that has it as a prefix
abbrev pub JudgeByHeaps : Type 0
JudgeByHeaps = (shape : ShapeLists) (p : Program) → IsWithinLimits shape → IsJudge shape (IsRightVerdict shape p)

-- where the pool has a copy of each object and one more, for each lane, a right verdict is no loss of a version
abbrev pub AbandonNothingWithCopies : Type 0
AbandonNothingWithCopies =
    (shape : ShapeLists) (p : Program) (sizes : Sizes) → IsWithinLimits shape
    → (es : List Event) (number : ℕ) (verdict : Verdict)
    → IsLegal shape sizes es
    → sizes.lanes * (objects_of es + 1) ≤ sizes.copies
    → IsRightVerdict shape p sizes es number verdict
    → IsPlain verdict

-- what a thread of a well-formed program asks for next, after its own events in a legal journal, is legal on the journal's heap
abbrev pub AskLegally : Type 0
AskLegally =
    (shape : ShapeLists) (p : Program) (sizes : Sizes) → IsWellFormed shape p
    → (es : List Event) (thread : ℕ) (turn : Turn)
    → IsLegal shape sizes es
    → LeadTo p sizes thread (own_events thread es) turn
    → IsRightTurn shape (heap_after shape sizes es) turn
