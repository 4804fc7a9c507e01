-- What nodes do: a node's meaning is that of the nodes that it names, and they are earlier ones. What comes behind the end of code is
-- given, as `rest`.
use Rattle.std.specs.Prelude.{◌≡◌, ℕ, zero, suc, ◌==◌, true, false, not, List, [], ◌∷◌, ◌++◌, reverse, take, drop, replicate, neg_ℤ}
use Rattle.std.specs.Prelude.{Option, Some, None, unwrap_or, slice_get, slice_set}
use Rattle.st_events.specs.declared.events.Site.{Site}
use Rattle.st_events.specs.declared.verdicts.End.TheVariants.{Finished, Null, EventsSpent, ProcDeep}
use Rattle.st_check_meaning.specs.Numbers.{number_of, word_of_truth, is_true, number_or_overflow}
use Rattle.st_check_meaning.specs.Meaning.{operate, field_of}
use Rattle.st_thread_meaning.specs.declared.limits.TheConstants.{TURN_COST, CALL_COST}
use Rattle.st_thread_meaning.specs.Deeds.{Request, store, cas, launch, Deed, ends, Means, paying, asking}
use Rattle.st_thread_meaning.specs.Statements.{evaluating, new_deed, args_of, ProcCalls}
use Rattle.st_mutator.specs.declared.nodes.Next.{Next}
use Rattle.st_mutator.specs.declared.nodes.Next.TheVariants.{At, Last}
use Rattle.st_mutator.specs.declared.nodes.Node.{Node}
use Rattle.st_mutator.specs.declared.nodes.Node.TheVariants.{Push, Pop, Local, Field, Not, Minus, Binary, Branch, Set, New, Store, Cas, Launch, While, Call}
use Rattle.st_mutator.specs.declared.nodes.Entry.{Entry}
use Rattle.st_mutator.specs.Stacked.{top, below}

-- what comes behind code: a deed, from the operands, the locals and the means that are left
abbrev pub Rest : Type 0
Rest = List ℕ → List ℕ → Means → Deed

-- what code does, from operands, locals and means on, and then what comes behind it
abbrev pub Meaning : Type 0
Meaning = List ℕ → List ℕ → Means → Rest → Deed

-- null has no fields: of it an event is a fault, before it is paid for
abbrev pub unless_null : ℕ → Site → Request → Means → (ℕ → Means → Deed) → Deed
unless_null obj at request means rest = elim (obj == 0) [ true ↦ ends (Null at) | false ↦ asking request means rest ]

-- a loop with at most so many turns: the code of its condition leaves a truth on top
abbrev pub code_turns : ℕ → Meaning → Meaning → List ℕ → Means → (List ℕ → Means → Deed) → Deed
code_turns zero test body locals means rest = ends EventsSpent
code_turns (suc more) test body locals means rest =
    paying TURN_COST means (λ paid.
    test [] locals paid (λ ops same left.
    elim (is_true (top ops)) [ true ↦ body [] same left (λ _ changed behind. code_turns more test body changed behind rest) | false ↦ rest same left ]))

-- what a node does, where it is known what comes at each node that it names, and what a call does
abbrev pub node_meaning : ProcCalls → (Next → Meaning) → Node → Meaning
node_meaning calls go (Push word next) ops locals means rest = go next (word ∷ ops) locals means rest
node_meaning calls go (Pop next) ops locals means rest = go next (below ops) locals means rest
node_meaning calls go (Local local next) ops locals means rest = go next (unwrap_or (slice_get locals local) 0 ∷ ops) locals means rest
node_meaning calls go (Field field at next) ops locals means rest =
    evaluating (field_of (top ops) field at) means (λ word left. go next (word ∷ below ops) locals left rest)
node_meaning calls go (Not next) ops locals means rest = go next (word_of_truth (not (is_true (top ops))) ∷ below ops) locals means rest
node_meaning calls go (Minus at next) ops locals means rest =
    evaluating (number_or_overflow (neg_ℤ (number_of (top ops))) at) means (λ word left. go next (word ∷ below ops) locals left rest)
node_meaning calls go (Binary operator at next) ops locals means rest =
    evaluating (operate operator (top (below ops)) (top ops) at) means (λ word left. go next (word ∷ below (below ops)) locals left rest)
node_meaning calls go (Branch when_true when_false) ops locals means rest =
    elim (is_true (top ops)) [ true ↦ go when_true (below ops) locals means rest | false ↦ go when_false (below ops) locals means rest ]
node_meaning calls go (Set local next) ops locals means rest = go next (below ops) (slice_set locals local (top ops)) means rest
node_meaning calls go (New class at next) ops locals means rest = new_deed class at means (λ obj left. go next (obj ∷ ops) locals left rest)
node_meaning calls go (Store field at next) ops locals means rest =
    unless_null (top (below ops)) at (store (top (below ops)) field (top ops)) means (λ _ left. go next (below (below ops)) locals left rest)
node_meaning calls go (Cas field at next) ops locals means rest =
    unless_null (top (below (below ops))) at (cas (top (below (below ops))) field (top (below ops)) (top ops)) means
    (λ done left. go next (done ∷ below (below (below ops))) locals left rest)
node_meaning calls go (Launch site count next) ops locals means rest =
    asking (launch site (args_of (reverse (take count ops)))) means (λ _ left. go next [] locals left rest)
node_meaning calls go (While test body next) ops locals means rest =
    code_turns means.charge (go test) (go body) locals means (λ changed left. go next [] changed left rest)
node_meaning calls go (Call procedure count at next) ops locals means rest =
    calls procedure (reverse (take count ops)) at means (λ left. go next [] locals left rest)

-- where there is no node the thread is finished; no node names such a place
abbrev pub nowhere : Meaning
nowhere ops locals means rest = ends Finished

-- what comes at a place
abbrev pub going : List Meaning → Next → Meaning
going meanings Last ops locals means rest = rest ops locals means
going meanings (At index) ops locals means rest = (unwrap_or (slice_get meanings index) nowhere) ops locals means rest

-- the meanings of nodes behind others whose meanings are known
abbrev pub meanings_onto : ProcCalls → List Meaning → List Node → List Meaning
meanings_onto calls meanings [] = meanings
meanings_onto calls meanings (node ∷ nodes) = meanings_onto calls (meanings ++ node_meaning calls (going meanings) node ∷ []) nodes

-- what code does from a place on
unfoldable pub code_meaning : ProcCalls → List Node → Next → Meaning
code_meaning calls nodes = going (meanings_onto calls [] nodes)

-- the body of a procedure, if there is one
abbrev pub entered : (Next → Meaning) → Option Entry → List ℕ → Means → (Means → Deed) → Deed
entered go None words means rest = rest means
entered go (Some entry) words means rest =
    go entry.first [] (take entry.locals (words ++ replicate entry.locals 0)) means (λ _ _ left. rest left)

-- a call of a procedure in this code, where so many more may be open
unfoldable pub code_calls : List Node → List Entry → ℕ → ProcCalls
code_calls nodes entries zero called words at means rest = ends (ProcDeep at)
code_calls nodes entries (suc depth) called words at means rest =
    paying CALL_COST means (λ left. entered (code_meaning (code_calls nodes entries depth) nodes) (slice_get entries called) words left rest)
