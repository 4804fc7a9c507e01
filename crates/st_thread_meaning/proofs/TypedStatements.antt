-- Statements, procedures and threads of a well-formed program are typed on a typed heap
use Rattle.std.proofs.Common.{◌≡◌, ℕ, zero, suc, ◌+◌, ◌-◌, ◌<◌, ◌≤◌, ◌==◌, ◌&&◌, ◌||◌, nat_lt, nat_le, Bool, true, false, List, [], ◌∷◌, ◌++◌, length, take, drop, refl, sym, ◌∙◌, ap, subst, arith}
use Rattle.std.proofs.Common.{Option, Some, None, IsSome, All, map}
use Rattle.std.specs.Prelude.{slice_get, slice_set, replicate, unwrap_or}
use Rattle.std.specs.List.{list_all}
use Rattle.std.proofs.lemmas.List.{take_all, take-append-le, length-replicate, append-nil, length-map}
use Rattle.std.proofs.lemmas.Option.{slice_get_within}
use Rattle.st_events.specs.declared.events.Args.{Args}
use Rattle.st_events.specs.declared.events.Site.{Site}
use Rattle.st_events.specs.declared.heaps.TheConstants.{SHARED_OBJECT}
use Rattle.st_events.specs.declared.shapes.Kind.{Kind}
use Rattle.st_events.specs.declared.shapes.Kind.TheVariants.{Int, Bool as Truth, Ref}
use Rattle.st_events.specs.declared.shapes.TheConstants.{MOST_ARGS}
use Rattle.st_events.specs.declared.verdicts.End.TheVariants.{Finished, Null, HeapFull, EventsSpent}
use Rattle.st_events.specs.Heap.{Heap, class_at, word_at}
use Rattle.st_events.specs.Kind.{AreKindsWithin}
use Rattle.st_events.specs.Legal.{fits_cell, has_kind, have_kinds, args_fit, is_of_class, kind_of_field}
use Rattle.st_events.specs.Shape.{ShapeLists, kinds_of, IsWithinLimits}
use Rattle.st_events.specs.Sound.{IsTypedHeap}
use Rattle.st_events.proofs.AmongLemmas.{same_number}
use Rattle.st_events.proofs.KeptLemmas.{and_parts, and_both}
use Rattle.st_resolved.specs.Kinds.{HasKind, HaveKinds, StoresKind, GivesKind}
use Rattle.st_resolved.specs.Terms.{Term, Target, to_shared, to_field, Source, from_term, from_new, from_cas}
use Rattle.st_resolved.specs.Terms.{Command, a_set, a_put, an_if, a_while, a_proc_call, a_launch, Block, no_commands, command_then, Routine, CheckStatement, Program}
use Rattle.st_resolved.specs.WellFormed.{IsWellFormed, IsRightRoutine, IsRightCommand, IsRightBlock, TakesLocals, param_kinds, plain_setting}
use Rattle.st_check_meaning.specs.Meaning.{course_of, courses_of}
use Rattle.st_check_meaning.specs.Numbers.{is_true}
use Rattle.st_check_meaning.specs.Safe.{IsOfKind, AreOfKinds}
use Rattle.st_check_meaning.proofs.CheckLemmas.{element_found}
use Rattle.st_check_meaning.proofs.CourseLemmas.{cell_is_there, local_has_kind}
use Rattle.st_thread_meaning.specs.declared.limits.TheConstants.{TURN_COST, CALL_COST, MOST_OPEN_CALLS}
use Rattle.st_thread_meaning.specs.Deeds.{Request, make, load, store, cas, launch, Deed, ends, asks, Means, paying, cost_of, asking}
use Rattle.st_thread_meaning.specs.Statements.{evaluating, no_calls, term_deed, object_deed, target_deed, new_deed, source_deed, values_of, names_of, args_of, Steps, turns, ProcCalls, command_deed}
use Rattle.st_thread_meaning.specs.Statements.{block_deed}
use Rattle.st_thread_meaning.specs.Threads.{first_locals, body_deed, call_within, thread_deed}
use Rattle.st_thread_meaning.specs.Typed.{GoesOn, IsTyped, IsRightRequest, IsRightReply}
use Rattle.st_thread_meaning.proofs.KindLemmas.{goes_on_itself, goes_on_further, kind_stays, kinds_stay, some_word, cell_stays, kind_of_field_stays, fits_stays, fits_of_kind, kind_at_class}
use Rattle.st_thread_meaning.proofs.KindLemmas.{kinds_set, kinds_in_front, filled_of_kinds}
use Rattle.st_thread_meaning.proofs.TypedCourses.{Behind, later_behind, asking_is_typed, evaluating_is_typed, OfKind, class_of_reference, term_is_typed, AreWordsOf, terms_are_typed}

paying_is_typed :
    (shape : ShapeLists) (cost : ℕ) (heap : Heap) (means : Means) (rest : Means → Deed)
    → ((left : Means) → IsTyped shape (rest left) heap)
    → IsTyped shape (paying cost means rest) heap
paying_is_typed shape cost heap means rest h = by (nat_lt means.charge cost)
  where
    by : (t : Bool) → IsTyped shape (elim t [ true ↦ ends EventsSpent | false ↦ rest (record means { charge = means.charge - cost }) ]) heap
    by true = tt
    by false = h (record means { charge = means.charge - cost })

branch_is_typed : (shape : ShapeLists) (t : Bool) (a b : Deed) (heap : Heap) → IsTyped shape a heap → IsTyped shape b heap → IsTyped shape (elim t [ true ↦ a | false ↦ b ]) heap
branch_is_typed shape true a b heap h k = h
branch_is_typed shape false a b heap h k = k

term_deed_is_typed :
    (shape : ShapeLists) (kinds : List Kind) (t : Term) (kind : Kind) (locals : List ℕ) (heap : Heap) (means : Means) (rest : ℕ → Means → Deed)
    → IsTypedHeap shape heap
    → AreOfKinds heap kinds locals
    → HasKind (plain_setting shape kinds) t kind
    → Behind shape heap (OfKind kind) rest
    → IsTyped shape (term_deed t locals means rest) heap
term_deed_is_typed shape kinds t kind locals heap means rest typed fit h k =
    evaluating_is_typed shape (OfKind kind) (course_of no_calls t locals) heap means rest typed (term_is_typed shape kinds locals heap typed fit t kind h) k

-- ---- targets

-- the object of a target whose field has this kind
abbrev IsObjectFor : ShapeLists → Target → Kind → Heap → ℕ → Type 0
IsObjectFor shape (to_shared field) kind heap obj = (obj ≡ SHARED_OBJECT) × (slice_get (kinds_of shape 0) field ≡ Some kind)
IsObjectFor shape (to_field object field at) kind heap obj = (class : ℕ) × IsOfKind heap (Ref class) obj × (slice_get (kinds_of shape class) field ≡ Some kind)

object_for_stays :
    (shape : ShapeLists) (target : Target) (kind : Kind) (a b : Heap) (obj : ℕ)
    → GoesOn shape a b
    → IsObjectFor shape target kind a obj
    → IsObjectFor shape target kind b obj
object_for_stays shape (to_shared field) kind a b obj g h = h
object_for_stays shape (to_field object field at) kind a b obj g h = (h.0, kind_stays shape a b (Ref h.0) obj g h.1, h.2)

object_is_typed :
    (shape : ShapeLists) (kinds : List Kind) (target : Target) (kind : Kind) (locals : List ℕ) (heap : Heap) (means : Means) (rest : ℕ → Means → Deed)
    → IsTypedHeap shape heap
    → AreOfKinds heap kinds locals
    → StoresKind (plain_setting shape kinds) target kind
    → Behind shape heap (IsObjectFor shape target kind) rest
    → IsTyped shape (object_deed target locals means rest) heap
object_is_typed shape kinds (to_shared field) kind locals heap means rest typed fit h k = k heap (goes_on_itself shape heap typed) SHARED_OBJECT (refl, h) means
object_is_typed shape kinds (to_field object field at) kind locals heap means rest typed fit h k =
    term_deed_is_typed shape kinds object (Ref h.0) locals heap means rest typed fit h.1 (λ later g obj of_kind left. k later g obj (h.0, of_kind, h.2) left)

-- a cell of this kind is there
record IsCellFor (shape : ShapeLists) (heap : Heap) (obj field : ℕ) (kind : Kind) : Type 0 where
  some : IsSome (word_at heap obj field)
  of_kind : kind_of_field shape (heap obj) field ≡ Some kind

cell_for : (shape : ShapeLists) (heap : Heap) (obj class field : ℕ) (kind : Kind) → IsTypedHeap shape heap → class_at heap obj ≡ Some class
    → slice_get (kinds_of shape class) field ≡ Some kind → IsCellFor shape heap obj field kind
cell_for shape heap obj class field kind typed e f =
    let cell = cell_is_there shape heap obj class field kind typed e f in
    record { some = some_word heap obj field cell.word cell.here.found; of_kind = kind_at_class shape heap obj class field kind e f }

target_is_typed :
    (shape : ShapeLists) (target : Target) (kind : Kind) (obj : ℕ) (request : ℕ → ℕ → Request) (heap : Heap) (means : Means) (rest : ℕ → Means → Deed)
    → IsTypedHeap shape heap
    → IsObjectFor shape target kind heap obj
    → ((o field : ℕ) → IsCellFor shape heap o field kind → IsRightRequest shape heap (request o field))
    → ((o field : ℕ) → Behind shape heap (λ later reply. IsRightReply shape later (request o field) reply) rest)
    → IsTyped shape (target_deed target obj request means rest) heap
target_is_typed shape (to_shared field) kind obj request heap means rest typed h right k =
    asking_is_typed shape (request obj field) heap means rest
    (right obj field (cell_for shape heap obj 0 field kind typed (subst (λ (o : ℕ). class_at heap o ≡ Some 0) (sym h.0) typed.shared) h.1)) (k obj field)
target_is_typed shape (to_field object field at) kind obj request heap means rest typed h right k = by (obj == 0) refl
  where
    by : (t : Bool) → (obj == 0) ≡ t → IsTyped shape (elim t [ true ↦ ends (Null at) | false ↦ asking (request obj field) means rest ]) heap
    by true e = tt
    by false e =
        asking_is_typed shape (request obj field) heap means rest
        (right obj field (cell_for shape heap obj h.0 field kind typed (class_of_reference heap obj h.0 e h.1) h.2)) (k obj field)

-- ---- what stands to the right of `=`

reference_of_class : (heap : Heap) (obj class : ℕ) → class_at heap obj ≡ Some class → IsOfKind heap (Ref class) obj
reference_of_class heap obj class e =
    or_right (obj == 0) (is_of_class (class_at heap obj) class) (ap (λ (o : Option ℕ). is_of_class o class) e ∙ same_number class)
  where
    or_right : (a b : Bool) → b ≡ true → (a || b) ≡ true
    or_right true b h = refl
    or_right false b h = h

at_most_one : (n : ℕ) → n ≤ 1 → nat_le n 1 ≡ true
at_most_one zero h = refl
at_most_one (suc zero) h = refl
at_most_one (suc (suc n)) h = absurd (omega (arith, h))

source_is_typed :
    (shape : ShapeLists) (kinds : List Kind) (source : Source) (kind : Kind) (locals : List ℕ) (heap : Heap) (means : Means) (rest : ℕ → Means → Deed)
    → IsTypedHeap shape heap
    → AreOfKinds heap kinds locals
    → GivesKind (plain_setting shape kinds) source kind
    → Behind shape heap (OfKind kind) rest
    → IsTyped shape (source_deed source locals means rest) heap
source_is_typed shape kinds (from_term t) kind locals heap means rest typed fit h k = term_deed_is_typed shape kinds t kind locals heap means rest typed fit h k
source_is_typed shape kinds (from_new class at) kind locals heap means rest typed fit h k = by (means.room == 0)
  where
    by : (t : Bool) → IsTyped shape (elim t [ true ↦ ends (HeapFull at) | false ↦ asking (make class) means (λ obj left. rest obj (record left { room = left.room - 1 })) ]) heap
    by true = tt
    by false =
        asking_is_typed shape (make class) heap means (λ obj left. rest obj (record left { room = left.room - 1 })) (h.0, h.1)
        (λ later g reply fits left.
        k later g reply (subst (λ (x : Kind). IsOfKind later x reply) (sym h.2) (reference_of_class later reply class fits)) (record left { room = left.room - 1 }))
source_is_typed shape kinds (from_cas target expect value) kind locals heap means rest typed fit h k =
    object_is_typed shape kinds target h.0 locals heap means _ typed fit h.1 (λ l1 g1 obj o1 m1.
    term_deed_is_typed shape kinds expect h.0 locals l1 m1 _ g1.typed (kinds_stay shape heap l1 kinds locals g1 fit) h.2 (λ l2 g2 expected e2 m2.
    term_deed_is_typed shape kinds value h.0 locals l2 m2 _ g2.typed (kinds_stay shape l1 l2 kinds locals g2 (kinds_stay shape heap l1 kinds locals g1 fit)) h.3 (λ l3 g3 word w3 m3.
    target_is_typed shape target h.0 obj (λ o field. cas o field expected word) l3 m3 rest g3.typed
    (object_for_stays shape target h.0 l2 l3 obj g3 (object_for_stays shape target h.0 l1 l2 obj g2 o1))
    (λ o field cell. (
      cell.some,
      fits_of_kind shape l3 o field h.0 expected cell.of_kind (kind_stays shape l2 l3 h.0 expected g3 e2),
      fits_of_kind shape l3 o field h.0 word cell.of_kind w3,
    ))
    (λ o field last g reply few left.
    k last (goes_on_further shape heap l1 last g1 (goes_on_further shape l1 l2 last g2 (goes_on_further shape l2 l3 last g3 g))) reply
    (subst (λ (x : Kind). IsOfKind last x reply) (sym h.4) (at_most_one reply few)) left))))

-- ---- launches

values_of_kinds :
    (heap : Heap) (locals : List Kind) (words : List ℕ) (names : List ℕ) (kinds : List Kind)
    → AreOfKinds heap locals words
    → TakesLocals locals names kinds
    → AreOfKinds heap kinds (values_of words names) × (length names ≡ length kinds)
values_of_kinds heap locals words [] [] fit h = (refl, refl)
values_of_kinds heap locals words [] (kind ∷ kinds) fit h = absurd h
values_of_kinds heap locals words (name ∷ names) [] fit h = absurd h
values_of_kinds heap locals words (name ∷ names) (kind ∷ kinds) fit h =
    let rest = values_of_kinds heap locals words names kinds fit h.1 in (
      and_both (has_kind heap kind (unwrap_or (slice_get words name) 0)) (have_kinds heap kinds (values_of words names))
          (local_has_kind heap locals words name kind fit h.0) rest.0,
      ap suc rest.1,
    )

zeros : (n : ℕ) → list_all (λ word. word == 0) (replicate n 0) ≡ true
zeros zero = refl
zeros (suc n) = zeros n

-- of few enough words the rest are zeros
rest_is_zero : (words : List ℕ) (most : ℕ) → length words ≤ most → (n : ℕ)
    → most ≤ length words + n
    → list_all (λ word. word == 0) (drop (length words) (take most (words ++ replicate n 0))) ≡ true
rest_is_zero [] most h n k = taken most n
  where
    taken : (a b : ℕ) → list_all (λ word. word == 0) (take a (replicate b 0)) ≡ true
    taken zero b = refl
    taken (suc a) zero = refl
    taken (suc a) (suc b) = taken a b
rest_is_zero (w ∷ words) zero h n k = absurd (omega (arith, h))
rest_is_zero (w ∷ words) (suc most) h n k = rest_is_zero words most (omega (arith, h)) n (omega (arith, k))

kinds_of_first : (heap : Heap) (kinds : List Kind) (words : List ℕ) (most : ℕ) → length kinds ≤ most → AreOfKinds heap kinds words → AreOfKinds heap kinds (take most words)
kinds_of_first heap [] words most h fit = refl
kinds_of_first heap (kind ∷ kinds) words zero h fit = absurd (omega (arith, h))
kinds_of_first heap (kind ∷ kinds) [] (suc most) h fit = absurd (cc)
kinds_of_first heap (kind ∷ kinds) (w ∷ words) (suc most) h fit =
    let parts = and_parts (has_kind heap kind w) (have_kinds heap kinds words) fit in
    and_both (has_kind heap kind w) (have_kinds heap kinds (take most words)) parts.0 (kinds_of_first heap kinds words most (omega (arith, h)) parts.1)

-- words of the kinds of a statement's arguments are arguments that fit it
args_are_right :
    (shape : ShapeLists) (heap : Heap) (site : ℕ) (kinds : List Kind) (words : List ℕ)
    → slice_get shape.checks site ≡ Some kinds
    → length kinds ≤ MOST_ARGS
    → AreOfKinds heap kinds words
    → length words ≡ length kinds
    → IsRightRequest shape heap (launch site (args_of words))
args_are_right shape heap site kinds words e few fit count = (
  slice_get_within shape.checks site kinds e,
  ap (λ (o : Option (List Kind)). args_fit heap o (args_of words)) e
      ∙ and_both (length words == length kinds) _ (ap (λ (n : ℕ). n == length kinds) count ∙ same_number (length kinds))
      (and_both (have_kinds heap kinds (take MOST_ARGS (words ++ replicate MOST_ARGS 0))) _
      (kinds_of_first heap kinds (words ++ replicate MOST_ARGS 0) MOST_ARGS few (kinds_in_front heap kinds words (replicate MOST_ARGS 0) fit))
      (rest_is_zero words MOST_ARGS (omega (arith, count, few)) MOST_ARGS (omega arith))),
)

-- ---- statements

-- locals of these kinds
abbrev LocalsOf : List Kind → Heap → List ℕ → Type 0
LocalsOf kinds heap locals = AreOfKinds heap kinds locals

-- a call with arguments of its parameters' kinds, and what is typed behind it
abbrev CallsAreTyped : ShapeLists → Program → ProcCalls → Type 0
CallsAreTyped shape p calls =
    (called : ℕ) (r : Routine) (words : List ℕ) (at : Site) (heap : Heap) (means : Means) (rest : Means → Deed)
    → slice_get p.procs called ≡ Some r
    → IsTypedHeap shape heap
    → AreWordsOf (param_kinds r) heap words
    → ((later : Heap) → GoesOn shape heap later → (left : Means) → IsTyped shape (rest left) later)
    → IsTyped shape (calls called words at means rest) heap

abbrev StepsAreTyped : ShapeLists → List Kind → Steps → Type 0
StepsAreTyped shape kinds steps =
    (locals : List ℕ) (heap : Heap) (means : Means) (rest : List ℕ → Means → Deed)
    → IsTypedHeap shape heap
    → AreOfKinds heap kinds locals
    → Behind shape heap (LocalsOf kinds) rest
    → IsTyped shape (steps locals means rest) heap

turns_are_typed :
    (shape : ShapeLists) (kinds : List Kind) (test : Term) (body : Steps)
    → HasKind (plain_setting shape kinds) test Truth
    → StepsAreTyped shape kinds body
    → (n : ℕ)
    → StepsAreTyped shape kinds (turns n (term_deed test) body)
turns_are_typed shape kinds test body h k zero locals heap means rest typed fit behind = tt
turns_are_typed shape kinds test body h k (suc n) locals heap means rest typed fit behind =
    paying_is_typed shape TURN_COST heap means (λ paid. term_deed test locals paid chosen) (λ paid.
    term_deed_is_typed shape kinds test Truth locals heap paid chosen typed fit h (λ later g word of_kind left.
    let fits = kinds_stay shape heap later kinds locals g fit in
    let then = later_behind shape heap later (LocalsOf kinds) rest g behind in
    branch_is_typed shape (is_true word) (body locals left again) (rest locals left) later
    (k locals later left again g.typed fits (λ last g' changed changed_fit more.
    turns_are_typed shape kinds test body h k n changed last more rest g'.typed changed_fit (later_behind shape later last (LocalsOf kinds) rest g' then)))
    (behind later g locals fits left)))
  where
    again : List ℕ → Means → Deed
    again changed more = turns n (term_deed test) body changed more rest

    chosen : ℕ → Means → Deed
    chosen word left = elim (is_true word) [ true ↦ body locals left again | false ↦ rest locals left ]

mutual
  command_is_typed :
      (shape : ShapeLists) (p : Program) (calls : ProcCalls) (kinds : List Kind)
      → IsWithinLimits shape
      → CallsAreTyped shape p calls
      → (c : Command)
      → IsRightCommand shape p kinds c
      → StepsAreTyped shape kinds (command_deed p calls c)
  command_is_typed shape p calls kinds limits hc (a_set local source) h locals heap means rest typed fit behind =
      source_is_typed shape kinds source h.0 locals heap means _ typed fit h.2 (λ later g word of_kind left.
      behind later g (slice_set locals local word) (kinds_set later kinds locals local h.0 word (kinds_stay shape heap later kinds locals g fit) h.1 of_kind) left)
  command_is_typed shape p calls kinds limits hc (a_put target source) h locals heap means rest typed fit behind =
      object_is_typed shape kinds target h.0 locals heap means _ typed fit h.1 (λ l1 g1 obj o1 m1.
      source_is_typed shape kinds source h.0 locals l1 m1 _ g1.typed (kinds_stay shape heap l1 kinds locals g1 fit) h.2 (λ l2 g2 word w2 m2.
      target_is_typed shape target h.0 obj (λ o field. store o field word) l2 m2 _ g2.typed (object_for_stays shape target h.0 l1 l2 obj g2 o1)
      (λ o field cell. (cell.some, fits_of_kind shape l2 o field h.0 word cell.of_kind w2))
      (λ o field last g reply _ left.
      let whole = goes_on_further shape heap l1 last g1 (goes_on_further shape l1 l2 last g2 g) in
      behind last whole locals (kinds_stay shape heap last kinds locals whole fit) left)))
  command_is_typed shape p calls kinds limits hc (an_if test first second) h locals heap means rest typed fit behind =
      term_deed_is_typed shape kinds test Truth locals heap means _ typed fit h.0 (λ later g word of_kind left.
      let fits = kinds_stay shape heap later kinds locals g fit in
      let then = later_behind shape heap later (LocalsOf kinds) rest g behind in
      branch_is_typed shape (is_true word) (block_deed p calls first locals left rest) (block_deed p calls second locals left rest) later
      (block_is_typed shape p calls kinds limits hc first h.1 locals later left rest g.typed fits then)
      (block_is_typed shape p calls kinds limits hc second h.2 locals later left rest g.typed fits then))
  command_is_typed shape p calls kinds limits hc (a_while test body) h locals heap means rest typed fit behind =
      turns_are_typed shape kinds test (block_deed p calls body) h.0 (block_is_typed shape p calls kinds limits hc body h.1) means.charge locals heap means rest typed fit behind
  command_is_typed shape p calls kinds limits hc (a_proc_call called args at) h locals heap means rest typed fit behind =
      evaluating_is_typed shape (AreWordsOf (param_kinds h.0)) (courses_of no_calls args locals) heap means _ typed
      (terms_are_typed shape kinds locals heap typed fit args (param_kinds h.0) h.2) (λ later g words words_fit left.
      hc called h.0 words at later left (λ more. rest locals more) h.1 g.typed words_fit (λ last g' more.
      let whole = goes_on_further shape heap later last g g' in behind last whole locals (kinds_stay shape heap last kinds locals whole fit) more))
  command_is_typed shape p calls kinds limits hc (a_launch site) h locals heap means rest typed fit behind =
      let check = h.0 in
      let few : length h.1 ≤ MOST_ARGS = (element_found (AreKindsWithin MOST_ARGS (length shape.classes)) shape.checks site h.1 limits.arguments h.3).0 in
      let values = values_of_kinds heap kinds locals check.args h.1 fit h.4 in
      let names : names_of (slice_get p.checks site) ≡ check.args =
      ap names_of h.2 ∙ take_all MOST_ARGS check.args (omega (arith, values.1, few)) in
      let right : IsRightRequest shape heap (launch site (args_of (values_of locals check.args))) =
      args_are_right shape heap site h.1 (values_of locals check.args) h.3 few values.0 (omega (arith, values.1, length-map check.args (λ name. unwrap_or (slice_get locals name) 0))) in
      asking_is_typed shape (launch site (args_of (values_of locals (names_of (slice_get p.checks site))))) heap means (λ _ left. rest locals left)
      (subst (λ (ns : List ℕ). IsRightRequest shape heap (launch site (args_of (values_of locals ns)))) (sym names) right)
      (λ later g reply _ left. behind later g locals (kinds_stay shape heap later kinds locals g fit) left)

  block_is_typed :
      (shape : ShapeLists) (p : Program) (calls : ProcCalls) (kinds : List Kind)
      → IsWithinLimits shape
      → CallsAreTyped shape p calls
      → (b : Block)
      → IsRightBlock shape p kinds b
      → StepsAreTyped shape kinds (block_deed p calls b)
  block_is_typed shape p calls kinds limits hc no_commands h locals heap means rest typed fit behind = behind heap (goes_on_itself shape heap typed) locals fit means
  block_is_typed shape p calls kinds limits hc (command_then c cs) h locals heap means rest typed fit behind =
      command_is_typed shape p calls kinds limits hc c h.0 locals heap means _ typed fit (λ later g changed changed_fit left.
      block_is_typed shape p calls kinds limits hc cs h.1 changed later left rest g.typed changed_fit (later_behind shape heap later (LocalsOf kinds) rest g behind))

-- the body of a right routine
body_is_typed :
    (shape : ShapeLists) (p : Program) (calls : ProcCalls)
    → IsWithinLimits shape
    → CallsAreTyped shape p calls
    → (r : Routine) → IsRightRoutine shape p r
    → (words : List ℕ) (heap : Heap) (means : Means) (rest : Means → Deed)
    → IsTypedHeap shape heap
    → AreWordsOf (param_kinds r) heap words
    → ((later : Heap) → GoesOn shape heap later → (left : Means) → IsTyped shape (rest left) later)
    → IsTyped shape (body_deed p calls (Some r) words means rest) heap
body_is_typed shape p calls limits hc r right words heap means rest typed fit behind =
    block_is_typed shape p calls r.locals limits hc r.block right.block (first_locals r words) heap means (λ _ left. rest left) typed
    (filled_of_kinds heap r.locals r.params words (length r.locals) fit.kinds_fit fit.count (omega arith))
    (λ later g _ _ left. behind later g left)

-- a call is typed, however many more may be open: by induction on that number
pub calls_are_typed : (shape : ShapeLists) (p : Program) → IsWellFormed shape p → (depth : ℕ) → CallsAreTyped shape p (call_within p depth)
unfolding call_within
calls_are_typed shape p right zero called r words at heap means rest e typed fit behind = tt
calls_are_typed shape p right (suc depth) called r words at heap means rest e typed fit behind =
    paying_is_typed shape CALL_COST heap means (λ left. body_deed p (call_within p depth) (slice_get p.procs called) words left rest) (λ left.
    subst (λ (o : Option Routine). IsTyped shape (body_deed p (call_within p depth) o words left rest) heap) (sym e)
    (body_is_typed shape p (call_within p depth) right.shape_fits (calls_are_typed shape p right depth) r
    (element_found (IsRightRoutine shape p) p.procs called r right.procs e) words heap left rest typed fit behind))

-- a thread has no parameters
no_words : (heap : Heap) (r : Routine) → r.params ≡ 0 → AreWordsOf (param_kinds r) heap []
no_words heap r e = subst (λ (n : ℕ). AreWordsOf (take n r.locals) heap []) (sym e) (record { kinds_fit = refl; count = refl })

-- a thread of a well-formed program, on any typed heap
pub thread_is_typed :
    (shape : ShapeLists) (p : Program) → IsWellFormed shape p
    → (objects events thread : ℕ) (heap : Heap)
    → IsTypedHeap shape heap
    → IsTyped shape (thread_deed p objects events thread) heap
unfolding thread_deed
thread_is_typed shape p right objects events thread heap typed = by (slice_get p.threads thread) refl
  where
    start : Means
    start = record { charge = events; room = objects }

    by : (o : Option Routine) → slice_get p.threads thread ≡ o → IsTyped shape (body_deed p (call_within p MOST_OPEN_CALLS) o [] start (λ _. ends Finished)) heap
    by None e = tt
    by (Some r) e =
        body_is_typed shape p (call_within p MOST_OPEN_CALLS) right.shape_fits (calls_are_typed shape p right MOST_OPEN_CALLS) r
        (element_found (IsRightRoutine shape p) p.threads thread r right.threads e) [] heap start (λ _. ends Finished) typed
        (no_words heap r (element_found (λ (x : Routine). x.params ≡ 0) p.threads thread r right.no_params e)) (λ later g left. tt)
