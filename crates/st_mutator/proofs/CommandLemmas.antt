-- The code of statements does what they do
use Rattle.std.proofs.Common.{◌≡◌, ℕ, zero, suc, ◌+◌, ◌<◌, ◌≤◌, Bool, true, false, List, [], ◌∷◌, ◌++◌, length, take, reverse, refl, sym, ◌∙◌, ap, subst, arith}
use Rattle.std.proofs.Common.{append_assoc, length-append}
use Rattle.std.specs.Prelude.{map, slice_get, slice_set, unwrap_or}
use Rattle.std.proofs.lemmas.List.{append-nil, reverse-append, reverse-reverse, take_all, length-reverse}
use mathlib.Core.Path.{fun_ext}
use Rattle.st_events.specs.declared.events.Args.{Args}
use Rattle.st_events.specs.declared.events.Site.{Site}
use Rattle.st_events.specs.declared.heaps.TheConstants.{SHARED_OBJECT}
use Rattle.st_events.specs.declared.verdicts.End.TheVariants.{EventsSpent}
use Rattle.st_resolved.specs.Terms.{Term, Terms, no_terms, term_then, Target, to_shared, to_field, Source, from_term, from_new, from_cas}
use Rattle.st_resolved.specs.Terms.{Command, a_set, a_put, an_if, a_while, a_proc_call, a_launch, Block, no_commands, command_then, Program}
use Rattle.st_check_meaning.specs.Courses.{Course, comes_to, and_then}
use Rattle.st_check_meaning.specs.Numbers.{is_true}
use Rattle.st_check_meaning.specs.Meaning.{course_of, courses_of}
use Rattle.st_thread_meaning.specs.declared.limits.TheConstants.{TURN_COST}
use Rattle.st_thread_meaning.specs.Deeds.{Request, store, cas, launch, Deed, ends, Means, paying, asking}
use Rattle.st_thread_meaning.specs.Statements.{evaluating, no_calls, term_deed, object_deed, source_deed, values_of, names_of, args_of, one_turn, turns, ProcCalls, command_deed, block_deed, new_deed}
use Rattle.st_thread_meaning.proofs.LoopLemmas.{evaluating_same}
use Rattle.st_mutator.specs.declared.nodes.Next.{Next}
use Rattle.st_mutator.specs.declared.nodes.Next.TheVariants.{At, Last}
use Rattle.st_mutator.specs.declared.nodes.Node.{Node}
use Rattle.st_mutator.specs.declared.nodes.Node.TheVariants as node
use Rattle.st_mutator.specs.Stacked.{top, below}
use Rattle.st_mutator.specs.Running.{Rest, Meaning, unless_null, code_turns, node_meaning, going, code_meaning}
use Rattle.st_mutator.specs.Standing.{rank, places_of, AreBelow, AreOrdered}
use Rattle.st_mutator.specs.Laying.{Laid, put, count_of, lay_term, lay_terms, lay_names, field_of_target, place_of_target, lay_object, lay_source, lay_command, lay_block}
use Rattle.st_mutator.proofs.CodeLemmas.{turn_after}
use Rattle.st_mutator.proofs.LayLemmas.{Grows, grows_same, grows_both, grows_length, grows_keeps, IsLaid, put_is_laid, laid_before, laid_as, evaluating_then, same_meaning}
use Rattle.st_mutator.proofs.TermLemmas.{after_term, IsLaidFor, one_node, two_pieces, piece_as, branching, term_is_laid}

-- ---- targets and what stands to the right of `=`

abbrev after_object : Target → Meaning → Meaning
after_object target k ops locals means rest = object_deed target locals means (λ obj left. k (obj ∷ ops) locals left rest)

object_is_laid :
    (target : Target) (next : Next) (nodes : List Node) → AreOrdered nodes → rank next ≤ length nodes
    → IsLaidFor (lay_object target next nodes) nodes next (after_object target)
object_is_laid (to_shared field) next nodes o h = one_node (node.Push SHARED_OBJECT next) nodes next (after_object (to_shared field)) o (omega (arith, h), tt) (λ calls. refl)
object_is_laid (to_field object field at) next nodes o h = term_is_laid object next nodes o h

abbrev after_source : Source → Meaning → Meaning
after_source source k ops locals means rest = source_deed source locals means (λ word left. k (word ∷ ops) locals left rest)

abbrev cas_step : ℕ → Site → Meaning → Meaning
cas_step field at k ops locals means rest =
    unless_null (top (below (below ops))) at (cas (top (below (below ops))) field (top (below ops)) (top ops)) means
    (λ done left. k (done ∷ below (below (below ops))) locals left rest)

cas_means :
    (target : Target) (expect value : Term) (k : Meaning)
    → after_object target (after_term expect (after_term value (cas_step (field_of_target target) (place_of_target target) k)))
    ≡ after_source (from_cas target expect value) k
cas_means (to_shared field) expect value k = refl
cas_means (to_field object field at) expect value k = refl

source_is_laid :
    (source : Source) (next : Next) (nodes : List Node) → AreOrdered nodes → rank next ≤ length nodes
    → IsLaidFor (lay_source source next nodes) nodes next (after_source source)
source_is_laid (from_term t) next nodes o h = term_is_laid t next nodes o h
source_is_laid (from_new class at) next nodes o h =
    one_node (node.New class at next) nodes next (after_source (from_new class at)) o (omega (arith, h), tt) (λ calls. refl)
source_is_laid (from_cas target expect value) next nodes o h =
    let field = field_of_target target in
    let at = place_of_target target in
    let exchange = put (node.Cas field at next) nodes in
    let e = one_node (node.Cas field at next) nodes next (cas_step field at) o (omega (arith, h), tt) (λ calls. refl) in
    let word = lay_term value exchange.first exchange.nodes in
    let w = two_pieces exchange word nodes next (cas_step field at) (after_term value) e (term_is_laid value exchange.first exchange.nodes e.ordered e.within) in
    let expected = lay_term expect word.first word.nodes in
    let x = two_pieces word expected nodes next (λ k. after_term value (cas_step field at k)) (after_term expect) w (term_is_laid expect word.first word.nodes w.ordered w.within) in
    piece_as (lay_object target expected.first expected.nodes) nodes next
    (λ k. after_object target (after_term expect (after_term value (cas_step field at k)))) (after_source (from_cas target expect value))
    (two_pieces expected (lay_object target expected.first expected.nodes) nodes next (λ k. after_term expect (after_term value (cas_step field at k))) (after_object target) x
    (object_is_laid target expected.first expected.nodes x.ordered x.within))
    (cas_means target expect value)

-- ---- arguments

abbrev after_terms : Terms → Meaning → Meaning
after_terms no_terms k = k
after_terms (term_then t ts) k = after_term t (after_terms ts k)

terms_are_laid :
    (args : Terms) (next : Next) (nodes : List Node) → AreOrdered nodes → rank next ≤ length nodes
    → IsLaidFor (lay_terms args next nodes) nodes next (after_terms args)
terms_are_laid no_terms next nodes o h = record { grows = grows_same nodes; ordered = o; within = h; means = λ calls. refl }
terms_are_laid (term_then t ts) next nodes o h =
    let rest = lay_terms ts next nodes in
    let r = terms_are_laid ts next nodes o h in
    two_pieces rest (lay_term t rest.first rest.nodes) nodes next (after_terms ts) (after_term t) r (term_is_laid t rest.first rest.nodes r.ordered r.within)

abbrev call_step : ProcCalls → ℕ → ℕ → Site → Meaning → Meaning
call_step calls called count at k ops locals means rest = calls called (reverse (take count ops)) at means (λ left. k [] locals left rest)

all_taken : (words : List ℕ) → reverse (take (length words + 0) (reverse words)) ≡ words ++ []
all_taken words =
    ap reverse (take_all (length words + 0) (reverse words) (omega (arith, length-reverse words))) ∙ reverse-reverse words ∙ sym (append-nil words)

one_longer : (words : List ℕ) (word : ℕ) → word ∷ reverse words ≡ reverse (words ++ word ∷ [])
one_longer words word = sym (reverse-append words (word ∷ []))

-- the words of arguments are pushed and taken in their order
args_are_taken :
    (args : Terms) (before : List ℕ) (calls : ProcCalls) (called : ℕ) (at : Site) (k : Meaning) (locals : List ℕ) (means : Means) (rest : Rest)
    → after_terms args (call_step calls called (length before + count_of args) at k) (reverse before) locals means rest
    ≡ evaluating (courses_of no_calls args locals) means (λ words left. calls called (before ++ words) at left (λ behind. k [] locals behind rest))
args_are_taken no_terms before calls called at k locals means rest =
    ap (λ (words : List ℕ). calls called words at means (λ left. k [] locals left rest)) (all_taken before)
args_are_taken (term_then t ts) before calls called at k locals means rest =
    evaluating_same (course_of no_calls t locals) means _ _ (λ word left le.
    ap (λ (ops : List ℕ). after_terms ts (call_step calls called (length before + suc (count_of ts)) at k) ops locals left rest) (one_longer before word)
    ∙ ap (λ (n : ℕ). after_terms ts (call_step calls called n at k) (reverse (before ++ word ∷ [])) locals left rest) (longer before word (count_of ts))
    ∙ args_are_taken ts (before ++ word ∷ []) calls called at k locals left rest
    ∙ evaluating_same (courses_of no_calls ts locals) left _ _ (λ words last le'.
    ap (λ (all : List ℕ). calls called all at last (λ behind. k [] locals behind rest)) (append_assoc before (word ∷ []) words))
    ∙ sym (evaluating_then (courses_of no_calls ts locals) (λ words. comes_to (word ∷ words)) left
    (λ words last. calls called (before ++ words) at last (λ behind. k [] locals behind rest))))
    ∙ sym (evaluating_then (course_of no_calls t locals) (λ word. and_then (courses_of no_calls ts locals) (λ words. comes_to (word ∷ words))) means
    (λ words last. calls called (before ++ words) at last (λ behind. k [] locals behind rest)))
  where
    longer : (words : List ℕ) (word n : ℕ) → length words + suc n ≡ length (words ++ word ∷ []) + n
    longer words word n = omega (arith, length-append words (word ∷ []))

-- with none before
none_more : (n : ℕ) → n ≡ length {A = ℕ} [] + n
none_more n = omega arith

-- ---- launches

abbrev after_names : List ℕ → Meaning → Meaning
after_names [] k = k
after_names (name ∷ names) k = λ ops locals means rest. after_names names k (unwrap_or (slice_get locals name) 0 ∷ ops) locals means rest

names_are_laid :
    (names : List ℕ) (next : Next) (nodes : List Node) → AreOrdered nodes → rank next ≤ length nodes
    → IsLaidFor (lay_names names next nodes) nodes next (after_names names)
names_are_laid [] next nodes o h = record { grows = grows_same nodes; ordered = o; within = h; means = λ calls. refl }
names_are_laid (name ∷ names) next nodes o h =
    let rest = lay_names names next nodes in
    let r = names_are_laid names next nodes o h in
    let step : Meaning → Meaning = λ k ops locals means behind. k (unwrap_or (slice_get locals name) 0 ∷ ops) locals means behind in
    two_pieces rest (put (node.Local name rest.first) rest.nodes) nodes next (after_names names) step r
    (one_node (node.Local name rest.first) rest.nodes rest.first step r.ordered (omega (arith, r.within), tt) (λ calls. refl))

abbrev launch_step : ℕ → ℕ → Meaning → Meaning
launch_step site count k ops locals means rest = asking (launch site (args_of (reverse (take count ops)))) means (λ _ left. k [] locals left rest)

names_are_taken :
    (names before : List ℕ) (site : ℕ) (k : Meaning) (locals : List ℕ) (means : Means) (rest : Rest)
    → after_names names (launch_step site (length before + length names) k) (reverse before) locals means rest
    ≡ asking (launch site (args_of (before ++ values_of locals names))) means (λ _ left. k [] locals left rest)
names_are_taken [] before site k locals means rest =
    ap (λ (words : List ℕ). asking (launch site (args_of words)) means (λ _ left. k [] locals left rest)) (all_taken before)
names_are_taken (name ∷ names) before site k locals means rest =
    let word = unwrap_or (slice_get locals name) 0 in
    ap (λ (ops : List ℕ). after_names names (launch_step site (length before + suc (length names)) k) ops locals means rest) (one_longer before word)
    ∙ ap (λ (n : ℕ). after_names names (launch_step site n k) (reverse (before ++ word ∷ [])) locals means rest) (longer before word (length names))
    ∙ names_are_taken names (before ++ word ∷ []) site k locals means rest
    ∙ ap (λ (words : List ℕ). asking (launch site (args_of words)) means (λ _ left. k [] locals left rest)) (append_assoc before (word ∷ []) (values_of locals names))
  where
    longer : (words : List ℕ) (word n : ℕ) → length words + suc n ≡ length (words ++ word ∷ []) + n
    longer words word n = omega (arith, length-append words (word ∷ []))

-- ---- statements, which begin without operands

-- what code does from its beginning on
abbrev pub Begin : Type 0
Begin = List ℕ → Means → Rest → Deed

-- what code does from a place on, with no operands
abbrev pub begin : ProcCalls → List Node → Next → Begin
begin calls nodes next locals means rest = code_meaning calls nodes next [] locals means rest

-- a piece of code is laid behind nodes, and from its beginning on it means this
pub record IsBegun (laid : Laid) (nodes : List Node) (meaning : ProcCalls → Begin) : Type 0 where
  pub grows : Grows nodes laid.nodes
  pub ordered : AreOrdered laid.nodes
  pub within : rank laid.first ≤ length laid.nodes
  pub means : (calls : ProcCalls) → begin calls laid.nodes laid.first ≡ meaning calls

begun_by :
    (laid : Laid) (nodes : List Node) (inner : ProcCalls → Meaning) (meaning : ProcCalls → Begin)
    → IsLaid laid nodes inner
    → ((calls : ProcCalls) → ◌≡◌ {A = Begin} (λ locals means rest. inner calls [] locals means rest) (meaning calls))
    → IsBegun laid nodes meaning
begun_by laid nodes inner meaning h same = record {
  grows = h.grows;
  ordered = h.ordered;
  within = h.within;
  means = λ calls. ap {B = Begin} (λ (m : Meaning) locals means rest. m [] locals means rest) (h.means calls) ∙ same calls;
}

-- what the statement does, and then what begins behind it
abbrev pub after_command : Program → ProcCalls → Command → Begin → Begin
after_command p calls c k locals means rest = command_deed p calls c locals means (λ changed left. k changed left rest)

-- what the statements do, and then what begins behind them
abbrev pub after_block : Program → ProcCalls → Block → Begin → Begin
after_block p calls b k locals means rest = block_deed p calls b locals means (λ changed left. k changed left rest)

-- beginnings that do the same are the same
same_begin : (b c : Begin) → ((locals : List ℕ) (means : Means) (rest : Rest) → b locals means rest ≡ c locals means rest) → b ≡ c
same_begin b c h = fun_ext (λ locals. fun_ext (λ means. fun_ext (λ rest. h locals means rest)))

abbrev set_step : ℕ → Meaning → Meaning
set_step local k ops locals means rest = k (below ops) (slice_set locals local (top ops)) means rest

abbrev store_step : ℕ → Site → Meaning → Meaning
store_step field at k ops locals means rest =
    unless_null (top (below ops)) at (store (top (below ops)) field (top ops)) means (λ _ left. k (below (below ops)) locals left rest)

store_means :
    (p : Program) (calls : ProcCalls) (target : Target) (source : Source) (k : Meaning)
    → ◌≡◌ {A = Begin}
    (λ locals means rest. after_object target (after_source source (store_step (field_of_target target) (place_of_target target) k)) [] locals means rest)
    (after_command p calls (a_put target source) (λ locals means rest. k [] locals means rest))
store_means p calls (to_shared field) source k = refl
store_means p calls (to_field object field at) source k = refl

-- a loop over code is the loop over what the code means
loops_are_same :
    (n : ℕ) (test : Term) (body : Begin) (last : Meaning) (inner : Meaning) (locals : List ℕ) (means : Means) (rest : List ℕ → Means → Deed)
    → ◌≡◌ {A = Begin} (λ l m r. inner [] l m r) body
    → code_turns n (after_term test (λ ops l m r. r ops l m)) inner locals means rest
    ≡ turns n (term_deed test) (λ l m r. body l m (λ _ changed behind. r changed behind)) locals means rest
loops_are_same zero test body last inner locals means rest same = refl
loops_are_same (suc n) test body last inner locals means rest same =
    let again : List ℕ → Means → Deed = λ c b. code_turns n (after_term test (λ ops l m r. r ops l m)) inner c b rest in
    let once_more : List ℕ → Means → Deed = λ c b. turns n (term_deed test) (λ l m r. body l m (λ _ changed behind. r changed behind)) c b rest in
    let ends_alike : again ≡ once_more = fun_ext (λ c. fun_ext (λ b. loops_are_same n test body last inner c b rest same)) in
    ap (λ (x : Begin). one_turn (term_deed test) (λ l m r. x l m (λ _ changed behind. r changed behind)) again locals means rest) same
    ∙ ap (λ (k : List ℕ → Means → Deed). one_turn (term_deed test) (λ l m r. body l m (λ _ changed behind. r changed behind)) k locals means rest) ends_alike

-- the end of code goes on with what is behind
last_means : (calls : ProcCalls) (nodes : List Node) → code_meaning calls nodes Last ≡ (λ ops locals means rest. rest ops locals means)
unfolding code_meaning
last_means calls nodes = refl

-- nothing is done any more: what comes behind the code goes on, without operands
abbrev pub at_end : Begin
at_end locals means rest = rest [] locals means

mutual
  pub command_is_begun :
      (p : Program) (c : Command) (next : Next) (nodes : List Node)
      → AreOrdered nodes
      → rank next ≤ length nodes
      → IsBegun (lay_command p.checks c next nodes) nodes (λ calls. after_command p calls c (begin calls nodes next))
  command_is_begun p (a_set local source) next nodes o h =
      let set = put (node.Set local next) nodes in
      let s = one_node (node.Set local next) nodes next (set_step local) o (omega (arith, h), tt) (λ calls. refl) in
      begun_by (lay_source source set.first set.nodes) nodes (λ calls. after_source source (set_step local (code_meaning calls nodes next)))
      (λ calls. after_command p calls (a_set local source) (begin calls nodes next))
      (two_pieces set (lay_source source set.first set.nodes) nodes next (set_step local) (after_source source) s (source_is_laid source set.first set.nodes s.ordered s.within))
      (λ calls. refl)
  command_is_begun p (a_put target source) next nodes o h =
      let field = field_of_target target in
      let at = place_of_target target in
      let write = put (node.Store field at next) nodes in
      let s = one_node (node.Store field at next) nodes next (store_step field at) o (omega (arith, h), tt) (λ calls. refl) in
      let word = lay_source source write.first write.nodes in
      let w = two_pieces write word nodes next (store_step field at) (after_source source) s (source_is_laid source write.first write.nodes s.ordered s.within) in
      begun_by (lay_object target word.first word.nodes) nodes (λ calls. after_object target (after_source source (store_step field at (code_meaning calls nodes next))))
      (λ calls. after_command p calls (a_put target source) (begin calls nodes next))
      (two_pieces word (lay_object target word.first word.nodes) nodes next (λ k. after_source source (store_step field at k)) (after_object target) w
      (object_is_laid target word.first word.nodes w.ordered w.within))
      (λ calls. store_means p calls target source (code_meaning calls nodes next))
  command_is_begun p (an_if test first other) next nodes o h =
      let second = lay_block p.checks other next nodes in
      let s = block_is_begun p other next nodes o h in
      let body = lay_block p.checks first next second.nodes in
      let b = block_is_begun p first next second.nodes s.ordered (omega (arith, h, grows_length nodes second.nodes s.grows)) in
      let fork = put (node.Branch body.first second.first) body.nodes in
      let f = put_is_laid (node.Branch body.first second.first) body.nodes b.ordered
      (omega (arith, b.within), (omega (arith, s.within, grows_length second.nodes body.nodes b.grows), tt)) in
      let whole = lay_term test fork.first fork.nodes in
      let t = term_is_laid test fork.first fork.nodes f.ordered f.within in
      let chosen : Begin → Begin → Begin =
      λ x y locals means rest. term_deed test locals means (λ word left. elim (is_true word) [ true ↦ x locals left rest | false ↦ y locals left rest ]) in
      record {
        grows = grows_both nodes fork.nodes whole.nodes (grows_both nodes body.nodes fork.nodes (grows_both nodes second.nodes body.nodes s.grows b.grows) f.grows) t.grows;
        ordered = t.ordered;
        within = t.within;
        means = λ calls.
            ap {B = Begin} (λ (m : Meaning) locals means rest. m [] locals means rest)
            (t.means calls ∙ ap (after_term test) (f.means calls))
            ∙ ap (λ (x : Begin). chosen x (begin calls body.nodes second.first))
            (b.means calls ∙ ap {B = Begin} (λ (m : Meaning). after_block p calls first (λ l ms r. m [] l ms r)) (grows_keeps nodes second.nodes next s.grows h calls))
            ∙ ap (λ (y : Begin). chosen (after_block p calls first (begin calls nodes next)) y)
            (ap {B = Begin} (λ (m : Meaning) l ms r. m [] l ms r) (grows_keeps second.nodes body.nodes second.first b.grows s.within calls) ∙ s.means calls);
      }
  command_is_begun p (a_while test body) next nodes o h =
      let inner = lay_block p.checks body Last nodes in
      let b = block_is_begun p body Last nodes o (omega arith) in
      let condition = lay_term test Last inner.nodes in
      let t = term_is_laid test Last inner.nodes b.ordered (omega arith) in
      let loop = put (node.While condition.first inner.first next) condition.nodes in
      let w = put_is_laid (node.While condition.first inner.first next) condition.nodes t.ordered (
        omega (arith, t.within),
        (
          omega (arith, b.within, grows_length inner.nodes condition.nodes t.grows),
          (omega (arith, h, grows_length nodes inner.nodes b.grows, grows_length inner.nodes condition.nodes t.grows), tt),
        ),
      ) in
      let grown : Grows nodes condition.nodes = grows_both nodes inner.nodes condition.nodes b.grows t.grows in
      record {
        grows = grows_both nodes condition.nodes loop.nodes grown w.grows;
        ordered = w.ordered;
        within = w.within;
        means = λ calls.
            let inner_code : Meaning = code_meaning calls condition.nodes inner.first in
            let body_is : ◌≡◌ {A = Begin} (λ l m r. inner_code [] l m r) (after_block p calls body at_end) =
            ap {B = Begin} (λ (m : Meaning) l ms r. m [] l ms r) (grows_keeps inner.nodes condition.nodes inner.first t.grows b.within calls)
            ∙ b.means calls
            ∙ ap {B = Begin} (λ (m : Meaning). after_block p calls body (λ l ms r. m [] l ms r)) (last_means calls nodes) in
            let test_is : code_meaning calls condition.nodes condition.first ≡ after_term test (λ ops l m r. r ops l m) =
            t.means calls ∙ ap (after_term test) (last_means calls inner.nodes) in
            ap {B = Begin} (λ (m : Meaning) locals means rest. m [] locals means rest) (w.means calls)
            ∙ ap {B = Begin} (λ (m : Meaning) locals means rest.
            code_turns means.charge m inner_code locals means (λ changed left. code_meaning calls condition.nodes next [] changed left rest)) test_is
            ∙ ap {B = Begin} (λ (m : Meaning) locals means rest.
            code_turns means.charge (after_term test (λ ops l ms r. r ops l ms)) inner_code locals means (λ changed left. m [] changed left rest))
            (grows_keeps nodes condition.nodes next grown h calls)
            ∙ same_begin _ _ (λ locals means rest.
            loops_are_same means.charge test (after_block p calls body at_end) inner_code inner_code locals means (λ changed left. begin calls nodes next changed left rest) body_is);
      }
  command_is_begun p (a_proc_call called args at) next nodes o h =
      let call = put (node.Call called (count_of args) at next) nodes in
      let c = put_is_laid (node.Call called (count_of args) at next) nodes o (omega (arith, h), tt) in
      let whole = lay_terms args call.first call.nodes in
      begun_by whole nodes (λ calls. after_terms args (call_step calls called (count_of args) at (code_meaning calls nodes next)))
      (λ calls. after_command p calls (a_proc_call called args at) (begin calls nodes next))
      (laid_before call whole nodes (λ calls. call_step calls called (count_of args) at (code_meaning calls nodes next)) (λ _ m. after_terms args m) c
      (terms_are_laid args call.first call.nodes c.ordered c.within))
      (λ calls. same_begin _ _ (λ locals means rest.
      ap (λ (n : ℕ). after_terms args (call_step calls called n at (code_meaning calls nodes next)) [] locals means rest) (none_more (count_of args))
      ∙ args_are_taken args [] calls called at (code_meaning calls nodes next) locals means rest))
  command_is_begun p (a_launch site) next nodes o h =
      let names = names_of (slice_get p.checks site) in
      let check = put (node.Launch site (length names) next) nodes in
      let c = one_node (node.Launch site (length names) next) nodes next (launch_step site (length names)) o (omega (arith, h), tt) (λ calls. refl) in
      let whole = lay_names names check.first check.nodes in
      begun_by whole nodes (λ calls. after_names names (launch_step site (length names) (code_meaning calls nodes next)))
      (λ calls. after_command p calls (a_launch site) (begin calls nodes next))
      (two_pieces check whole nodes next (launch_step site (length names)) (after_names names) c (names_are_laid names check.first check.nodes c.ordered c.within))
      (λ calls. same_begin _ _ (λ locals means rest.
      ap (λ (n : ℕ). after_names names (launch_step site n (code_meaning calls nodes next)) [] locals means rest) (none_more (length names))
      ∙ names_are_taken names [] site (code_meaning calls nodes next) locals means rest))

  pub block_is_begun :
      (p : Program) (b : Block) (next : Next) (nodes : List Node)
      → AreOrdered nodes
      → rank next ≤ length nodes
      → IsBegun (lay_block p.checks b next nodes) nodes (λ calls. after_block p calls b (begin calls nodes next))
  block_is_begun p no_commands next nodes o h = record { grows = grows_same nodes; ordered = o; within = h; means = λ calls. refl }
  block_is_begun p (command_then c cs) next nodes o h =
      let rest = lay_block p.checks cs next nodes in
      let r = block_is_begun p cs next nodes o h in
      let whole = lay_command p.checks c rest.first rest.nodes in
      let w = command_is_begun p c rest.first rest.nodes r.ordered r.within in
      record {
        grows = grows_both nodes rest.nodes whole.nodes r.grows w.grows;
        ordered = w.ordered;
        within = w.within;
        means = λ calls. w.means calls ∙ ap (after_command p calls c) (r.means calls);
      }
