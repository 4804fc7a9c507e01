-- What code does at a place is what its node does there, and it looks at what comes behind with no more charge
use Rattle.std.proofs.Common.{◌≡◌, ℕ, zero, suc, ◌+◌, ◌-◌, ◌<◌, ◌≤◌, ◌==◌, Bool, true, false, List, [], ◌∷◌, ◌++◌, length, refl, sym, ◌∙◌, ap, subst, arith}
use Rattle.std.proofs.Common.{append_assoc, length-append, Option, Some, None, unwrap_or}
use Rattle.std.specs.Prelude.{slice_get, slice_set, take, reverse, neg_ℤ, not}
use Rattle.std.proofs.lemmas.List.{append-nil}
use Rattle.std.proofs.lemmas.Option.{slice_get_within}
use Rattle.st_events.specs.declared.events.Site.{Site}
use Rattle.st_events.specs.declared.verdicts.End.TheVariants.{Finished, Null, EventsSpent}
use Rattle.st_check_meaning.specs.Numbers.{number_of, word_of_truth, is_true, number_or_overflow}
use Rattle.st_check_meaning.specs.Meaning.{operate, field_of}
use Rattle.st_thread_meaning.specs.declared.limits.TheConstants.{TURN_COST, CALL_COST}
use Rattle.st_thread_meaning.specs.Deeds.{Request, store, cas, launch, Deed, ends, Means, paying, asking}
use Rattle.st_thread_meaning.specs.Statements.{evaluating, new_deed, args_of, ProcCalls}
use Rattle.st_thread_meaning.proofs.LoopLemmas.{SameBelow, branches_same, paid, paying_same, paying_spent, asking_same, evaluating_same, new_same, CallsLookBelow}
use Rattle.st_mutator.specs.declared.nodes.Next.{Next}
use Rattle.st_mutator.specs.declared.nodes.Next.TheVariants.{At, Last}
use Rattle.st_mutator.specs.declared.nodes.Node.{Node}
use Rattle.st_mutator.specs.declared.nodes.Node.TheVariants.{Push, Pop, Local, Field, Not, Minus, Binary, Branch, Set, New, Store, Cas, Launch, While, Call}
use Rattle.st_mutator.specs.declared.nodes.Entry.{Entry}
use Rattle.st_mutator.specs.Running.{Rest, Meaning, unless_null, code_turns, node_meaning, nowhere, going, meanings_onto, code_meaning, entered, code_calls}
use Rattle.st_mutator.specs.Stacked.{top, below}
use Rattle.st_mutator.specs.Standing.{rank, places_of, AreBelow}

-- meanings of nodes behind others
pub onto_both :
    (calls : ProcCalls) (ms : List Meaning) (nodes more : List Node)
    → meanings_onto calls ms (nodes ++ more) ≡ meanings_onto calls (meanings_onto calls ms nodes) more
onto_both calls ms [] more = refl
onto_both calls ms (node ∷ nodes) more = onto_both calls (ms ++ node_meaning calls (going ms) node ∷ []) nodes more

-- there is one meaning for each node, behind those that were there
pub onto_length :
    (calls : ProcCalls) (ms : List Meaning) (nodes : List Node)
    → length (meanings_onto calls ms nodes) ≡ length ms + length nodes
onto_length calls ms [] = omega arith
onto_length calls ms (node ∷ nodes) =
    omega (arith, onto_length calls (ms ++ node_meaning calls (going ms) node ∷ []) nodes, length-append ms (node_meaning calls (going ms) node ∷ []))

-- they begin with those before
pub onto_front :
    (calls : ProcCalls) (ms : List Meaning) (nodes : List Node)
    → (more : List Meaning) × (meanings_onto calls ms nodes ≡ ms ++ more)
onto_front calls ms [] = ([], sym (append-nil ms))
onto_front calls ms (node ∷ nodes) =
    let m = node_meaning calls (going ms) node in
    let rest = onto_front calls (ms ++ m ∷ []) nodes in
    (m ∷ rest.0, rest.1 ∙ append_assoc ms (m ∷ []) rest.0)

-- what stands at an index of the first list stands there in both together
pub front_get : {X : Type 0} (xs ys : List X) (k : ℕ) → k < length xs → slice_get (xs ++ ys) k ≡ slice_get xs k
front_get [] ys k h = absurd (omega (arith, h))
front_get (x ∷ xs) ys zero h = refl
front_get (x ∷ xs) ys (suc k) h = front_get xs ys k (omega (arith, h))

-- behind a list of so many items comes the item that follows it
pub seam_get : {X : Type 0} (xs : List X) (y : X) (ys : List X) (k : ℕ) → length xs ≡ k → slice_get (xs ++ y ∷ ys) k ≡ Some y
seam_get [] y ys zero e = refl
seam_get [] y ys (suc k) e = absurd (omega (arith, e))
seam_get (x ∷ xs) y ys zero e = absurd (omega (arith, e))
seam_get (x ∷ xs) y ys (suc k) e = seam_get xs y ys k (omega (arith, e))

-- what comes at a place is the same whatever stands behind it
pub going_front : (ms more : List Meaning) (next : Next) → rank next ≤ length ms → going (ms ++ more) next ≡ going ms next
going_front ms more Last h = refl
going_front ms more (At index) h = ap (λ (o : Option Meaning). unwrap_or o nowhere) (front_get ms more index (omega (arith, h)))

-- at each place the same comes
abbrev pub SameAt : (Next → Meaning) → (Next → Meaning) → List Next → Type 0
SameAt go other [] = Unit {0}
SameAt go other (next ∷ more) = (go next ≡ other next) × SameAt go other more

-- what a node does depends on what comes at the places that it names
pub node_same :
    (calls : ProcCalls) (go other : Next → Meaning) (node : Node)
    → SameAt go other (places_of node)
    → node_meaning calls go node ≡ node_meaning calls other node
node_same calls go other (Push word next) h = ap {B = Meaning} (λ (k : Meaning) ops locals means rest. k (word ∷ ops) locals means rest) h.0
node_same calls go other (Pop next) h = ap {B = Meaning} (λ (k : Meaning) ops locals means rest. k (below ops) locals means rest) h.0
node_same calls go other (Local local next) h =
    ap {B = Meaning} (λ (k : Meaning) ops locals means rest. k (unwrap_or (slice_get locals local) 0 ∷ ops) locals means rest) h.0
node_same calls go other (Field field at next) h =
    ap {B = Meaning} (λ (k : Meaning) ops locals means rest. evaluating (field_of (top ops) field at) means (λ word left. k (word ∷ below ops) locals left rest)) h.0
node_same calls go other (Not next) h =
    ap {B = Meaning} (λ (k : Meaning) ops locals means rest. k (word_of_truth (not (is_true (top ops))) ∷ below ops) locals means rest) h.0
node_same calls go other (Minus at next) h =
    ap {B = Meaning} (λ (k : Meaning) ops locals means rest.
    evaluating (number_or_overflow (neg_ℤ (number_of (top ops))) at) means (λ word left. k (word ∷ below ops) locals left rest)) h.0
node_same calls go other (Binary operator at next) h =
    ap {B = Meaning} (λ (k : Meaning) ops locals means rest.
    evaluating (operate operator (top (below ops)) (top ops) at) means (λ word left. k (word ∷ below (below ops)) locals left rest)) h.0
node_same calls go other (Branch when_true when_false) h =
    ap {B = Meaning} (λ (k : Meaning) ops locals means rest.
    elim (is_true (top ops)) [ true ↦ k (below ops) locals means rest | false ↦ go when_false (below ops) locals means rest ]) h.0
    ∙ ap {B = Meaning} (λ (k : Meaning) ops locals means rest.
    elim (is_true (top ops)) [ true ↦ other when_true (below ops) locals means rest | false ↦ k (below ops) locals means rest ]) h.1.0
node_same calls go other (Set local next) h = ap {B = Meaning} (λ (k : Meaning) ops locals means rest. k (below ops) (slice_set locals local (top ops)) means rest) h.0
node_same calls go other (New class at next) h =
    ap {B = Meaning} (λ (k : Meaning) ops locals means rest. new_deed class at means (λ obj left. k (obj ∷ ops) locals left rest)) h.0
node_same calls go other (Store field at next) h =
    ap {B = Meaning} (λ (k : Meaning) ops locals means rest.
    unless_null (top (below ops)) at (store (top (below ops)) field (top ops)) means (λ _ left. k (below (below ops)) locals left rest)) h.0
node_same calls go other (Cas field at next) h =
    ap {B = Meaning} (λ (k : Meaning) ops locals means rest.
    unless_null (top (below (below ops))) at (cas (top (below (below ops))) field (top (below ops)) (top ops)) means
    (λ done left. k (done ∷ below (below (below ops))) locals left rest)) h.0
node_same calls go other (Launch site count next) h =
    ap {B = Meaning} (λ (k : Meaning) ops locals means rest. asking (launch site (args_of (reverse (take count ops)))) means (λ _ left. k [] locals left rest)) h.0
node_same calls go other (While test body next) h =
    ap {B = Meaning} (λ (k : Meaning) ops locals means rest. code_turns means.charge k (go body) locals means (λ changed left. go next [] changed left rest)) h.0
    ∙ ap {B = Meaning} (λ (k : Meaning) ops locals means rest. code_turns means.charge (other test) k locals means (λ changed left. go next [] changed left rest)) h.1.0
    ∙ ap {B = Meaning} (λ (k : Meaning) ops locals means rest. code_turns means.charge (other test) (other body) locals means (λ changed left. k [] changed left rest)) h.1.1.0
node_same calls go other (Call procedure count at next) h =
    ap {B = Meaning} (λ (k : Meaning) ops locals means rest. calls procedure (reverse (take count ops)) at means (λ left. k [] locals left rest)) h.0

-- a list with what stands at an index
pub record IsSplit {X : Type 0} (xs : List X) (index : ℕ) (x : X) : Type 0 where
  pub before : List X
  pub after : List X
  pub parts : xs ≡ before ++ x ∷ after
  pub at : length before ≡ index

-- a list in which something stands at an index falls into what is before it, this item, and what is after it
pub split_at : {X : Type 0} (xs : List X) (index : ℕ) (x : X) → slice_get xs index ≡ Some x → IsSplit xs index x
split_at [] index x e = absurd (cc)
split_at (y ∷ ys) zero x e = record { before = []; after = ys; parts = let same : y ≡ x = cc in ap (λ z. z ∷ ys) same; at = refl }
split_at (y ∷ ys) (suc index) x e =
    let rest = split_at ys index x e in
    record { before = y ∷ rest.before; after = rest.after; parts = ap (λ zs. y ∷ zs) rest.parts; at = ap suc rest.at }

same_within :
    (ms more : List Meaning) (most : ℕ) (places : List Next)
    → most ≤ length ms
    → AreBelow (suc most) places
    → SameAt (going ms) (going (ms ++ more)) places
same_within ms more most [] h within = tt
same_within ms more most (next ∷ places) h within =
    (sym (going_front ms more next (omega (arith, within.0, h))), same_within ms more most places h within.1)

-- at the place of a node comes what the node does
pub code_at :
    (calls : ProcCalls) (nodes : List Node) (index : ℕ) (node : Node)
    → slice_get nodes index ≡ Some node
    → AreBelow (suc index) (places_of node)
    → code_meaning calls nodes (At index) ≡ node_meaning calls (code_meaning calls nodes) node
unfolding code_meaning
code_at calls nodes index node e within = by (split_at nodes index node e)
  where
    by : IsSplit nodes index node → going (meanings_onto calls [] nodes) (At index) ≡ node_meaning calls (going (meanings_onto calls [] nodes)) node
    by s =
        let front : List Meaning = meanings_onto calls [] s.before in
        let here : Meaning = node_meaning calls (going front) node in
        let rest = onto_front calls (front ++ here ∷ []) s.after in
        let long : length front ≡ index = omega (arith, onto_length calls [] s.before, s.at) in
        let whole : meanings_onto calls [] nodes ≡ front ++ here ∷ rest.0 =
        ap (meanings_onto calls []) s.parts ∙ onto_both calls [] s.before (node ∷ s.after) ∙ rest.1 ∙ append_assoc front (here ∷ []) rest.0 in
        let found : going (front ++ here ∷ rest.0) (At index) ≡ here = ap (λ (o : Option Meaning). unwrap_or o nowhere) (seam_get front here rest.0 index long) in
        ap (λ (ms : List Meaning). going ms (At index)) whole
        ∙ found
        ∙ node_same calls (going front) (going (front ++ here ∷ rest.0)) node (same_within front (here ∷ rest.0) index (places_of node) (omega (arith, long)) within)
        ∙ ap (λ (ms : List Meaning). node_meaning calls (going ms) node) (sym whole)

-- ---- what comes behind is looked at with no more charge

-- two continuations that do the same wherever no more than so much charge is left
abbrev pub SameRest : ℕ → Rest → Rest → Type 0
SameRest charge rest other = (ops locals : List ℕ) (means : Means) → means.charge ≤ charge → rest ops locals means ≡ other ops locals means

-- a meaning that depends on what comes behind it only where no more charge is left than it began with
abbrev pub LooksNoFurther : Meaning → Type 0
LooksNoFurther m = (ops locals : List ℕ) (means : Means) (rest other : Rest) → SameRest means.charge rest other → m ops locals means rest ≡ m ops locals means other

-- with less charge
less_rest : (few many : ℕ) (rest other : Rest) → few ≤ many → SameRest many rest other → SameRest few rest other
less_rest few many rest other le h ops locals means le' = h ops locals means (omega (arith, le, le'))

-- what comes behind the condition of a loop: where it is true the body and then the loop again, else what is behind the loop
abbrev pub turn_after : Meaning → (List ℕ → Means → Deed) → (List ℕ → Means → Deed) → Rest
turn_after body again rest ops locals means =
    elim (is_true (top ops)) [ true ↦ body [] locals means (λ _ changed behind. again changed behind) | false ↦ rest locals means ]

code_turn_same :
    (test body : Meaning) → LooksNoFurther test → LooksNoFurther body
    → (again another : List ℕ → Means → Deed) (locals : List ℕ) (means : Means) (rest other : List ℕ → Means → Deed)
    → SameBelow (means.charge - TURN_COST) again another
    → SameBelow means.charge rest other
    → paying TURN_COST means (λ spent. test [] locals spent (turn_after body again rest))
    ≡ paying TURN_COST means (λ spent. test [] locals spent (turn_after body another other))
code_turn_same test body ht hb again another locals means rest other ha h =
    paying_same TURN_COST means (λ spent. test [] locals spent (turn_after body again rest)) (λ spent. test [] locals spent (turn_after body another other))
    (ht [] locals (paid TURN_COST means) (turn_after body again rest) (turn_after body another other) (λ ops same left le.
    branches_same (is_true (top ops)) (body [] same left (λ _ c b. again c b)) (body [] same left (λ _ c b. another c b)) (rest same left) (other same left)
    (hb [] same left (λ _ c b. again c b) (λ _ c b. another c b) (λ _ c b le'. ha c b (omega (arith, le, le'))))
    (h same left (omega (arith, le)))))

-- a loop depends on what is behind it only where no more charge is left than it began with
pub code_turns_same :
    (test body : Meaning) → LooksNoFurther test → LooksNoFurther body
    → (n : ℕ) (locals : List ℕ) (means : Means) (rest other : List ℕ → Means → Deed)
    → SameBelow means.charge rest other
    → code_turns n test body locals means rest ≡ code_turns n test body locals means other
code_turns_same test body ht hb zero locals means rest other h = refl
code_turns_same test body ht hb (suc n) locals means rest other h =
    code_turn_same test body ht hb (λ c b. code_turns n test body c b rest) (λ c b. code_turns n test body c b other) locals means rest other
    (λ c b le. code_turns_same test body ht hb n c b rest other (λ x m le'. h x m (omega (arith, le, le')))) h

-- as many turns as there is charge are enough: more of them change nothing
pub code_turns_enough :
    (test body : Meaning) → LooksNoFurther test → LooksNoFurther body
    → (n k : ℕ) (locals : List ℕ) (means : Means) (rest : List ℕ → Means → Deed)
    → means.charge ≤ n
    → means.charge ≤ k
    → code_turns n test body locals means rest ≡ code_turns k test body locals means rest
code_turns_enough test body ht hb zero zero locals means rest le1 le2 = refl
code_turns_enough test body ht hb zero (suc k) locals means rest le1 le2 =
    sym (paying_spent TURN_COST means (λ spent. test [] locals spent (turn_after body (λ c b. code_turns k test body c b rest) rest)) (omega (arith, le1)))
code_turns_enough test body ht hb (suc n) zero locals means rest le1 le2 =
    paying_spent TURN_COST means (λ spent. test [] locals spent (turn_after body (λ c b. code_turns n test body c b rest) rest)) (omega (arith, le2))
code_turns_enough test body ht hb (suc n) (suc k) locals means rest le1 le2 =
    code_turn_same test body ht hb (λ c b. code_turns n test body c b rest) (λ c b. code_turns k test body c b rest) locals means rest rest
    (λ c b le. code_turns_enough test body ht hb n k c b rest (omega (arith, le, le1)) (omega (arith, le, le2))) (λ x m le. refl)

-- a loop with as many turns as charge is a turn, and the loop again
pub code_turns_unroll :
    (test body : Meaning) → LooksNoFurther test → LooksNoFurther body
    → (locals : List ℕ) (means : Means) (rest : List ℕ → Means → Deed)
    → code_turns means.charge test body locals means rest
    ≡ paying TURN_COST means (λ spent. test [] locals spent (turn_after body (λ c b. code_turns b.charge test body c b rest) rest))
code_turns_unroll test body ht hb locals means rest =
    code_turns_enough test body ht hb means.charge (suc means.charge) locals means rest (omega arith) (omega arith)
    ∙ code_turn_same test body ht hb (λ c b. code_turns means.charge test body c b rest) (λ c b. code_turns b.charge test body c b rest) locals means rest rest
    (λ c b le. code_turns_enough test body ht hb means.charge b.charge c b rest (omega (arith, le)) (omega arith)) (λ x m le. refl)

unless_null_same :
    (obj : ℕ) (at : Site) (request : Request) (means : Means) (rest other : ℕ → Means → Deed)
    → SameBelow means.charge rest other
    → unless_null obj at request means rest ≡ unless_null obj at request means other
unless_null_same obj at request means rest other h =
    branches_same (obj == 0) (ends (Null at)) (ends (Null at)) (asking request means rest) (asking request means other) refl (asking_same request means rest other h)

-- a node, where it is so of each place that it names
pub node_looks :
    (calls : ProcCalls) (go : Next → Meaning)
    → CallsLookBelow calls
    → ((next : Next) → LooksNoFurther (go next))
    → (node : Node)
    → LooksNoFurther (node_meaning calls go node)
node_looks calls go hc hg (Push word next) ops locals means rest other h = hg next (word ∷ ops) locals means rest other h
node_looks calls go hc hg (Pop next) ops locals means rest other h = hg next (below ops) locals means rest other h
node_looks calls go hc hg (Local local next) ops locals means rest other h = hg next (unwrap_or (slice_get locals local) 0 ∷ ops) locals means rest other h
node_looks calls go hc hg (Field field at next) ops locals means rest other h =
    evaluating_same (field_of (top ops) field at) means (λ word left. go next (word ∷ below ops) locals left rest) (λ word left. go next (word ∷ below ops) locals left other)
    (λ word left le. hg next (word ∷ below ops) locals left rest other (less_rest left.charge means.charge rest other le h))
node_looks calls go hc hg (Not next) ops locals means rest other h = hg next (word_of_truth (not (is_true (top ops))) ∷ below ops) locals means rest other h
node_looks calls go hc hg (Minus at next) ops locals means rest other h =
    evaluating_same (number_or_overflow (neg_ℤ (number_of (top ops))) at) means (λ word left. go next (word ∷ below ops) locals left rest)
    (λ word left. go next (word ∷ below ops) locals left other)
    (λ word left le. hg next (word ∷ below ops) locals left rest other (less_rest left.charge means.charge rest other le h))
node_looks calls go hc hg (Binary operator at next) ops locals means rest other h =
    evaluating_same (operate operator (top (below ops)) (top ops) at) means (λ word left. go next (word ∷ below (below ops)) locals left rest)
    (λ word left. go next (word ∷ below (below ops)) locals left other)
    (λ word left le. hg next (word ∷ below (below ops)) locals left rest other (less_rest left.charge means.charge rest other le h))
node_looks calls go hc hg (Branch when_true when_false) ops locals means rest other h =
    branches_same (is_true (top ops)) (go when_true (below ops) locals means rest) (go when_true (below ops) locals means other)
    (go when_false (below ops) locals means rest) (go when_false (below ops) locals means other)
    (hg when_true (below ops) locals means rest other h) (hg when_false (below ops) locals means rest other h)
node_looks calls go hc hg (Set local next) ops locals means rest other h = hg next (below ops) (slice_set locals local (top ops)) means rest other h
node_looks calls go hc hg (New class at next) ops locals means rest other h =
    new_same class at means (λ obj left. go next (obj ∷ ops) locals left rest) (λ obj left. go next (obj ∷ ops) locals left other)
    (λ obj left le. hg next (obj ∷ ops) locals left rest other (less_rest left.charge means.charge rest other le h))
node_looks calls go hc hg (Store field at next) ops locals means rest other h =
    unless_null_same (top (below ops)) at (store (top (below ops)) field (top ops)) means (λ _ left. go next (below (below ops)) locals left rest)
    (λ _ left. go next (below (below ops)) locals left other)
    (λ _ left le. hg next (below (below ops)) locals left rest other (less_rest left.charge means.charge rest other le h))
node_looks calls go hc hg (Cas field at next) ops locals means rest other h =
    unless_null_same (top (below (below ops))) at (cas (top (below (below ops))) field (top (below ops)) (top ops)) means
    (λ done left. go next (done ∷ below (below (below ops))) locals left rest) (λ done left. go next (done ∷ below (below (below ops))) locals left other)
    (λ done left le. hg next (done ∷ below (below (below ops))) locals left rest other (less_rest left.charge means.charge rest other le h))
node_looks calls go hc hg (Launch site count next) ops locals means rest other h =
    asking_same (launch site (args_of (reverse (take count ops)))) means (λ _ left. go next [] locals left rest) (λ _ left. go next [] locals left other)
    (λ _ left le. hg next [] locals left rest other (less_rest left.charge means.charge rest other le h))
node_looks calls go hc hg (While test body next) ops locals means rest other h =
    code_turns_same (go test) (go body) (hg test) (hg body) means.charge locals means (λ c b. go next [] c b rest) (λ c b. go next [] c b other)
    (λ c b le. hg next [] c b rest other (less_rest b.charge means.charge rest other le h))
node_looks calls go hc hg (Call procedure count at next) ops locals means rest other h =
    hc procedure (reverse (take count ops)) at means (λ left. go next [] locals left rest) (λ left. go next [] locals left other)
    (λ left le. hg next [] locals left rest other (less_rest left.charge means.charge rest other le h))

-- so it is at each place, where it is so of each meaning
abbrev pub AllLook : List Meaning → Type 0
AllLook [] = Unit {0}
AllLook (m ∷ ms) = LooksNoFurther m × AllLook ms

going_looks : (ms : List Meaning) → AllLook ms → (next : Next) → LooksNoFurther (going ms next)
going_looks ms h Last ops locals means rest other k = k ops locals means (omega arith)
going_looks ms h (At index) ops locals means rest other k = by ms index h ops locals means rest other k
  where
    by : (ns : List Meaning) (i : ℕ) → AllLook ns → LooksNoFurther (unwrap_or (slice_get ns i) nowhere)
    by [] i a o l m r s q = refl
    by (n ∷ ns) zero a o l m r s q = a.0 o l m r s q
    by (n ∷ ns) (suc i) a o l m r s q = by ns i a.1 o l m r s q

all_look_both : (ms : List Meaning) (m : Meaning) → AllLook ms → LooksNoFurther m → AllLook (ms ++ m ∷ [])
all_look_both [] m h k = (k, tt)
all_look_both (x ∷ xs) m h k = (h.0, all_look_both xs m h.1 k)

onto_looks : (calls : ProcCalls) → CallsLookBelow calls → (ms : List Meaning) (nodes : List Node) → AllLook ms → AllLook (meanings_onto calls ms nodes)
onto_looks calls hc ms [] h = h
onto_looks calls hc ms (node ∷ nodes) h =
    onto_looks calls hc (ms ++ node_meaning calls (going ms) node ∷ []) nodes
    (all_look_both ms (node_meaning calls (going ms) node) h (node_looks calls (going ms) hc (going_looks ms h) node))

-- code looks at what comes behind it with no more charge than it began with, where calls do so
pub code_looks : (calls : ProcCalls) → CallsLookBelow calls → (nodes : List Node) (next : Next) → LooksNoFurther (code_meaning calls nodes next)
unfolding code_meaning
code_looks calls hc nodes next = going_looks (meanings_onto calls [] nodes) (onto_looks calls hc [] nodes tt) next

entered_same :
    (go : Next → Meaning) → ((next : Next) → LooksNoFurther (go next))
    → (o : Option Entry) (words : List ℕ) (means : Means) (rest other : Means → Deed)
    → ((left : Means) → left.charge ≤ means.charge → rest left ≡ other left)
    → entered go o words means rest ≡ entered go o words means other
entered_same go hg None words means rest other h = h means (omega arith)
entered_same go hg (Some entry) words means rest other h = hg entry.first [] _ means (λ _ _ left. rest left) (λ _ _ left. other left) (λ _ _ left le. h left le)

-- a call looks at what comes behind it with no more charge than it began with, however many calls are open
pub code_calls_look : (nodes : List Node) (entries : List Entry) (depth : ℕ) → CallsLookBelow (code_calls nodes entries depth)
unfolding code_calls
code_calls_look nodes entries zero called words at means rest other h = refl
code_calls_look nodes entries (suc depth) called words at means rest other h =
    paying_same CALL_COST means
    (λ left. entered (code_meaning (code_calls nodes entries depth) nodes) (slice_get entries called) words left rest)
    (λ left. entered (code_meaning (code_calls nodes entries depth) nodes) (slice_get entries called) words left other)
    (entered_same (code_meaning (code_calls nodes entries depth) nodes)
    (code_looks (code_calls nodes entries depth) (code_calls_look nodes entries depth) nodes)
    (slice_get entries called) words (paid CALL_COST means) rest other (λ left le. h left (omega (arith, le))))
