-- The code of an expression pushes its word, by the same loads and faults
use Rattle.std.proofs.Common.{◌≡◌, ℕ, zero, suc, ◌+◌, ◌<◌, ◌≤◌, ◌==◌, Bool, true, false, List, [], ◌∷◌, ◌++◌, length, refl, sym, ◌∙◌, ap, subst, arith}
use Rattle.std.specs.Prelude.{not, slice_get, unwrap_or, neg_ℤ}
use Rattle.st_events.specs.declared.heaps.TheConstants.{SHARED_OBJECT}
use Rattle.st_events.specs.declared.events.Site.{Site}
use Rattle.st_resolved.specs.Terms.{Term, a_number, a_truth, a_null, a_local, a_shared, a_field, a_not, a_minus, a_binary, a_both, an_either, a_cond, a_call}
use Rattle.st_resolved.specs.Terms.{Terms, no_terms, term_then}
use Rattle.st_check_meaning.specs.Courses.{Course, comes_to, and_then}
use Rattle.st_check_meaning.specs.Numbers.{number_of, word_of_number, word_of_truth, is_true, number_or_overflow}
use Rattle.st_check_meaning.specs.Meaning.{course_of, courses_of, truth, operate, read_cell, field_of}
use Rattle.st_thread_meaning.specs.Deeds.{Deed, Means}
use Rattle.st_thread_meaning.specs.Statements.{evaluating, no_calls, term_deed, ProcCalls}
use Rattle.st_thread_meaning.proofs.LoopLemmas.{evaluating_same, SameBelow}
use Rattle.st_mutator.specs.declared.nodes.Next.{Next}
use Rattle.st_mutator.specs.declared.nodes.Next.TheVariants.{At, Last}
use Rattle.st_mutator.specs.declared.nodes.Node.{Node}
use Rattle.st_mutator.specs.declared.nodes.Node.TheVariants as node
use Rattle.st_mutator.specs.Stacked.{top, below}
use Rattle.st_mutator.specs.Running.{Rest, Meaning, node_meaning, code_meaning}
use Rattle.st_mutator.specs.Standing.{rank, places_of, AreBelow, AreOrdered}
use Rattle.st_mutator.specs.Laying.{Laid, put, put_both, put_either, put_shared, no_place, lay_term, lay_dropped}
use Rattle.st_mutator.proofs.LayLemmas.{Grows, grows_same, grows_both, grows_length, grows_keeps, IsLaid, put_is_laid, laid_before, laid_as, evaluating_then, same_meaning}

-- the word of a term is pushed, and then this comes
abbrev pub after_term : Term → Meaning → Meaning
after_term t k ops locals means rest = term_deed t locals means (λ word left. k (word ∷ ops) locals left rest)

-- the words of arguments are dropped, and then this comes
abbrev pub after_dropped : Terms → Meaning → Meaning
after_dropped args k ops locals means rest = evaluating (courses_of no_calls args locals) means (λ _ left. k ops locals left rest)

-- what is laid in front of a place
abbrev pub IsLaidFor : Laid → List Node → Next → (Meaning → Meaning) → Type 0
IsLaidFor laid nodes next outer = IsLaid laid nodes (λ calls. outer (code_meaning calls nodes next))

-- one node in front of a place
pub one_node :
    (n : Node) (nodes : List Node) (next : Next) (outer : Meaning → Meaning)
    → AreOrdered nodes
    → AreBelow (suc (length nodes)) (places_of n)
    → ((calls : ProcCalls) → node_meaning calls (code_meaning calls nodes) n ≡ outer (code_meaning calls nodes next))
    → IsLaidFor (put n nodes) nodes next outer
one_node n nodes next outer ordered places same =
    laid_as (put n nodes) nodes (λ calls. node_meaning calls (code_meaning calls nodes) n) (λ calls. outer (code_meaning calls nodes next))
    (put_is_laid n nodes ordered places) same

-- a piece in front of a piece
pub two_pieces :
    (a b : Laid) (nodes : List Node) (next : Next) (inner outer : Meaning → Meaning)
    → IsLaidFor a nodes next inner
    → IsLaidFor b a.nodes a.first outer
    → IsLaidFor b nodes next (λ k. outer (inner k))
two_pieces a b nodes next inner outer h k =
    laid_before a b nodes (λ calls. inner (code_meaning calls nodes next)) (λ _ m. outer m) h k

-- said in another way
pub piece_as :
    (a : Laid) (nodes : List Node) (next : Next) (outer other : Meaning → Meaning)
    → IsLaidFor a nodes next outer
    → ((k : Meaning) → outer k ≡ other k)
    → IsLaidFor a nodes next other
piece_as a nodes next outer other h same =
    laid_as a nodes (λ calls. outer (code_meaning calls nodes next)) (λ calls. other (code_meaning calls nodes next)) h (λ calls. same (code_meaning calls nodes next))

-- a branch by the top
abbrev pub branching : Meaning → Meaning → Meaning
branching yes_code no_code ops locals means rest =
    elim (is_true (top ops)) [ true ↦ yes_code (below ops) locals means rest | false ↦ no_code (below ops) locals means rest ]

-- pieces on both sides of a branch, laid one after the other in front of one place
pub branch_pieces :
    (a b : Laid) (nodes : List Node) (next : Next) (first second : Meaning → Meaning)
    → rank next ≤ length nodes
    → IsLaidFor a nodes next second
    → IsLaidFor b a.nodes next first
    → IsLaidFor (put (node.Branch b.first a.first) b.nodes) nodes next (λ k. branching (first k) (second k))
branch_pieces a b nodes next first second here h k =
    let branch = put_is_laid (node.Branch b.first a.first) b.nodes k.ordered
    (omega (arith, k.within), (omega (arith, h.within, grows_length a.nodes b.nodes k.grows), tt)) in
    record {
      grows = grows_both nodes b.nodes (b.nodes ++ node.Branch b.first a.first ∷ []) (grows_both nodes a.nodes b.nodes h.grows k.grows) branch.grows;
      ordered = branch.ordered;
      within = branch.within;
      means = λ calls.
          branch.means calls
          ∙ ap (λ (m : Meaning). branching m (code_meaning calls b.nodes a.first)) (k.means calls ∙ ap first (grows_keeps nodes a.nodes next h.grows here calls))
          ∙ ap (λ (m : Meaning). branching (first (code_meaning calls nodes next)) m) (grows_keeps a.nodes b.nodes a.first k.grows h.within calls ∙ h.means calls);
    }

-- the same with the sides in the other order
pub branch_pieces_turned :
    (a b : Laid) (nodes : List Node) (next : Next) (first second : Meaning → Meaning)
    → rank next ≤ length nodes
    → IsLaidFor a nodes next first
    → IsLaidFor b a.nodes next second
    → IsLaidFor (put (node.Branch a.first b.first) b.nodes) nodes next (λ k. branching (first k) (second k))
branch_pieces_turned a b nodes next first second here h k =
    let branch = put_is_laid (node.Branch a.first b.first) b.nodes k.ordered
    (omega (arith, h.within, grows_length a.nodes b.nodes k.grows), (omega (arith, k.within), tt)) in
    record {
      grows = grows_both nodes b.nodes (b.nodes ++ node.Branch a.first b.first ∷ []) (grows_both nodes a.nodes b.nodes h.grows k.grows) branch.grows;
      ordered = branch.ordered;
      within = branch.within;
      means = λ calls.
          branch.means calls
          ∙ ap (λ (m : Meaning). branching m (code_meaning calls b.nodes b.first)) (grows_keeps a.nodes b.nodes a.first k.grows h.within calls ∙ h.means calls)
          ∙ ap (λ (m : Meaning). branching (first (code_meaning calls nodes next)) m) (k.means calls ∙ ap second (grows_keeps nodes a.nodes next h.grows here calls));
    }

-- a choice between courses is a choice between what they do
choice_deed :
    (t : Bool) (c d : Course ℕ) (means : Means) (rest : ℕ → Means → Deed)
    → ◌≡◌ {A = Deed} (evaluating (elim t [ true ↦ c | false ↦ d ]) means rest) (elim t [ true ↦ evaluating c means rest | false ↦ evaluating d means rest ])
choice_deed true c d means rest = refl
choice_deed false c d means rest = refl

-- a word is pushed, and then this comes
abbrev pushing : ℕ → Meaning → Meaning
pushing word k ops locals means rest = k (word ∷ ops) locals means rest

mutual
  pub term_is_laid :
      (t : Term) (next : Next) (nodes : List Node)
      → AreOrdered nodes
      → rank next ≤ length nodes
      → IsLaidFor (lay_term t next nodes) nodes next (after_term t)
  term_is_laid (a_number value) next nodes o h = one_node (node.Push (word_of_number value) next) nodes next (after_term (a_number value)) o (omega (arith, h), tt) (λ calls. refl)
  term_is_laid (a_truth value) next nodes o h = one_node (node.Push (word_of_truth value) next) nodes next (after_term (a_truth value)) o (omega (arith, h), tt) (λ calls. refl)
  term_is_laid a_null next nodes o h = one_node (node.Push 0 next) nodes next (after_term a_null) o (omega (arith, h), tt) (λ calls. refl)
  term_is_laid (a_local local) next nodes o h = one_node (node.Local local next) nodes next (after_term (a_local local)) o (omega (arith, h), tt) (λ calls. refl)
  term_is_laid (a_shared field) next nodes o h =
      let l = one_node (node.Field field no_place next) nodes next
      (λ k ops locals means rest. evaluating (field_of (top ops) field no_place) means (λ word left. k (word ∷ below ops) locals left rest)) o (omega (arith, h), tt) (λ calls. refl) in
      let load = put (node.Field field no_place next) nodes in
      let p = one_node (node.Push SHARED_OBJECT load.first) load.nodes load.first (λ k ops locals means rest. k (SHARED_OBJECT ∷ ops) locals means rest)
      l.ordered (omega (arith, l.within), tt) (λ calls. refl) in
      piece_as (put_shared field next nodes) nodes next
      (λ k ops locals means rest. evaluating (field_of SHARED_OBJECT field no_place) means (λ word left. k (word ∷ ops) locals left rest)) (after_term (a_shared field))
      (two_pieces load (put_shared field next nodes) nodes next
      (λ k ops locals means rest. evaluating (field_of (top ops) field no_place) means (λ word left. k (word ∷ below ops) locals left rest))
      (λ k ops locals means rest. k (SHARED_OBJECT ∷ ops) locals means rest) l p) (λ k. refl)
  term_is_laid (a_field object field at) next nodes o h =
      let load = put (node.Field field at next) nodes in
      let step : Meaning → Meaning = λ k ops locals means rest. evaluating (field_of (top ops) field at) means (λ word left. k (word ∷ below ops) locals left rest) in
      let l = one_node (node.Field field at next) nodes next step o (omega (arith, h), tt) (λ calls. refl) in
      piece_as (lay_term object load.first load.nodes) nodes next (λ k. after_term object (step k)) (after_term (a_field object field at))
      (two_pieces load (lay_term object load.first load.nodes) nodes next step (after_term object) l (term_is_laid object load.first load.nodes l.ordered l.within))
      (λ k. same_meaning _ _ (λ ops locals means rest.
      sym (evaluating_then (course_of no_calls object locals) (λ obj. field_of obj field at) means (λ word left. k (word ∷ ops) locals left rest))))
  term_is_laid (a_not inner) next nodes o h =
      let turn = put (node.Not next) nodes in
      let step : Meaning → Meaning = λ k ops locals means rest. k (word_of_truth (not (is_true (top ops))) ∷ below ops) locals means rest in
      let l = one_node (node.Not next) nodes next step o (omega (arith, h), tt) (λ calls. refl) in
      piece_as (lay_term inner turn.first turn.nodes) nodes next (λ k. after_term inner (step k)) (after_term (a_not inner))
      (two_pieces turn (lay_term inner turn.first turn.nodes) nodes next step (after_term inner) l (term_is_laid inner turn.first turn.nodes l.ordered l.within))
      (λ k. same_meaning _ _ (λ ops locals means rest.
      sym (evaluating_then (course_of no_calls inner locals) (λ word. truth (not (is_true word))) means (λ word left. k (word ∷ ops) locals left rest))))
  term_is_laid (a_minus inner at) next nodes o h =
      let turn = put (node.Minus at next) nodes in
      let step : Meaning → Meaning = λ k ops locals means rest. evaluating (number_or_overflow (neg_ℤ (number_of (top ops))) at) means (λ word left. k (word ∷ below ops) locals left rest) in
      let l = one_node (node.Minus at next) nodes next step o (omega (arith, h), tt) (λ calls. refl) in
      piece_as (lay_term inner turn.first turn.nodes) nodes next (λ k. after_term inner (step k)) (after_term (a_minus inner at))
      (two_pieces turn (lay_term inner turn.first turn.nodes) nodes next step (after_term inner) l (term_is_laid inner turn.first turn.nodes l.ordered l.within))
      (λ k. same_meaning _ _ (λ ops locals means rest.
      sym (evaluating_then (course_of no_calls inner locals) (λ word. number_or_overflow (neg_ℤ (number_of word)) at) means (λ word left. k (word ∷ ops) locals left rest))))
  term_is_laid (a_binary operator left right at) next nodes o h =
      let both = put (node.Binary operator at next) nodes in
      let step : Meaning → Meaning =
      λ k ops locals means rest. evaluating (operate operator (top (below ops)) (top ops) at) means (λ word after. k (word ∷ below (below ops)) locals after rest) in
      let l = one_node (node.Binary operator at next) nodes next step o (omega (arith, h), tt) (λ calls. refl) in
      let second = lay_term right both.first both.nodes in
      let r = two_pieces both second nodes next step (after_term right) l (term_is_laid right both.first both.nodes l.ordered l.within) in
      piece_as (lay_term left second.first second.nodes) nodes next (λ k. after_term left (after_term right (step k))) (after_term (a_binary operator left right at))
      (two_pieces second (lay_term left second.first second.nodes) nodes next (λ k. after_term right (step k)) (after_term left) r (term_is_laid left second.first second.nodes r.ordered r.within))
      (λ k. same_meaning _ _ (λ ops locals means rest.
      sym (evaluating_then (course_of no_calls left locals) (λ a. and_then (course_of no_calls right locals) (λ b. operate operator a b at)) means (λ word after. k (word ∷ ops) locals after rest)
      ∙ evaluating_same (course_of no_calls left locals) means _ _ (λ a mid le.
      evaluating_then (course_of no_calls right locals) (λ b. operate operator a b at) mid (λ word after. k (word ∷ ops) locals after rest)))))
  term_is_laid (a_both left right) next nodes o h =
      let second = lay_term right next nodes in
      let r = term_is_laid right next nodes o h in
      let word = put (node.Push 0 next) second.nodes in
      let w = one_node (node.Push 0 next) second.nodes next (pushing 0) r.ordered (omega (arith, h, grows_length nodes second.nodes r.grows), tt) (λ calls. refl) in
      let branch = put_both next second in
      let b = branch_pieces_turned second word nodes next (after_term right) (pushing 0) h r w in
      piece_as (lay_term left branch.first branch.nodes) nodes next (λ k. after_term left (branching (after_term right k) (pushing 0 k))) (after_term (a_both left right))
      (two_pieces branch (lay_term left branch.first branch.nodes) nodes next (λ k. branching (after_term right k) (pushing 0 k)) (after_term left) b
      (term_is_laid left branch.first branch.nodes b.ordered b.within))
      (λ k. same_meaning _ _ (λ ops locals means rest.
      sym (evaluating_then (course_of no_calls left locals) (λ a. elim (is_true a) [ true ↦ course_of no_calls right locals | false ↦ truth false ]) means
      (λ x after. k (x ∷ ops) locals after rest)
      ∙ evaluating_same (course_of no_calls left locals) means _ _ (λ a mid le.
      choice_deed (is_true a) (course_of no_calls right locals) (truth false) mid (λ x after. k (x ∷ ops) locals after rest)))))
  term_is_laid (an_either left right) next nodes o h =
      let second = lay_term right next nodes in
      let r = term_is_laid right next nodes o h in
      let word = put (node.Push 1 next) second.nodes in
      let w = one_node (node.Push 1 next) second.nodes next (pushing 1) r.ordered (omega (arith, h, grows_length nodes second.nodes r.grows), tt) (λ calls. refl) in
      let branch = put_either next second in
      let b = branch_pieces second word nodes next (pushing 1) (after_term right) h r w in
      piece_as (lay_term left branch.first branch.nodes) nodes next (λ k. after_term left (branching (pushing 1 k) (after_term right k))) (after_term (an_either left right))
      (two_pieces branch (lay_term left branch.first branch.nodes) nodes next (λ k. branching (pushing 1 k) (after_term right k)) (after_term left) b
      (term_is_laid left branch.first branch.nodes b.ordered b.within))
      (λ k. same_meaning _ _ (λ ops locals means rest.
      sym (evaluating_then (course_of no_calls left locals) (λ a. elim (is_true a) [ true ↦ truth true | false ↦ course_of no_calls right locals ]) means
      (λ x after. k (x ∷ ops) locals after rest)
      ∙ evaluating_same (course_of no_calls left locals) means _ _ (λ a mid le.
      choice_deed (is_true a) (truth true) (course_of no_calls right locals) mid (λ x after. k (x ∷ ops) locals after rest)))))
  term_is_laid (a_cond test left right) next nodes o h =
      let second = lay_term right next nodes in
      let r = term_is_laid right next nodes o h in
      let first = lay_term left next second.nodes in
      let l = term_is_laid left next second.nodes r.ordered (omega (arith, h, grows_length nodes second.nodes r.grows)) in
      let branch = put (node.Branch first.first second.first) first.nodes in
      let b = branch_pieces second first nodes next (after_term left) (after_term right) h r l in
      piece_as (lay_term test branch.first branch.nodes) nodes next (λ k. after_term test (branching (after_term left k) (after_term right k))) (after_term (a_cond test left right))
      (two_pieces branch (lay_term test branch.first branch.nodes) nodes next (λ k. branching (after_term left k) (after_term right k)) (after_term test) b
      (term_is_laid test branch.first branch.nodes b.ordered b.within))
      (λ k. same_meaning _ _ (λ ops locals means rest.
      sym (evaluating_then (course_of no_calls test locals) (λ a. elim (is_true a) [ true ↦ course_of no_calls left locals | false ↦ course_of no_calls right locals ]) means
      (λ x after. k (x ∷ ops) locals after rest)
      ∙ evaluating_same (course_of no_calls test locals) means _ _ (λ a mid le.
      choice_deed (is_true a) (course_of no_calls left locals) (course_of no_calls right locals) mid (λ x after. k (x ∷ ops) locals after rest)))))
  term_is_laid (a_call pred args) next nodes o h =
      let word = put (node.Push 0 next) nodes in
      let w = one_node (node.Push 0 next) nodes next (pushing 0) o (omega (arith, h), tt) (λ calls. refl) in
      piece_as (lay_dropped args word.first word.nodes) nodes next (λ k. after_dropped args (pushing 0 k)) (after_term (a_call pred args))
      (two_pieces word (lay_dropped args word.first word.nodes) nodes next (pushing 0) (after_dropped args) w (dropped_is_laid args word.first word.nodes w.ordered w.within))
      (λ k. same_meaning _ _ (λ ops locals means rest.
      sym (evaluating_then (courses_of no_calls args locals) (λ words. no_calls pred words) means (λ x after. k (x ∷ ops) locals after rest))))

  pub dropped_is_laid :
      (args : Terms) (next : Next) (nodes : List Node)
      → AreOrdered nodes
      → rank next ≤ length nodes
      → IsLaidFor (lay_dropped args next nodes) nodes next (after_dropped args)
  dropped_is_laid no_terms next nodes o h = record { grows = grows_same nodes; ordered = o; within = h; means = λ calls. refl }
  dropped_is_laid (term_then t ts) next nodes o h =
      let rest = lay_dropped ts next nodes in
      let r = dropped_is_laid ts next nodes o h in
      let pop = put (node.Pop rest.first) rest.nodes in
      let step : Meaning → Meaning = λ k ops locals means behind. k (below ops) locals means behind in
      let p = one_node (node.Pop rest.first) rest.nodes rest.first step r.ordered (omega (arith, r.within), tt) (λ calls. refl) in
      let q = two_pieces rest pop nodes next (after_dropped ts) step r p in
      piece_as (lay_term t pop.first pop.nodes) nodes next (λ k. after_term t (step (after_dropped ts k))) (after_dropped (term_then t ts))
      (two_pieces pop (lay_term t pop.first pop.nodes) nodes next (λ k. step (after_dropped ts k)) (after_term t) q (term_is_laid t pop.first pop.nodes q.ordered q.within))
      (λ k. same_meaning _ _ (λ ops locals means behind.
      sym (evaluating_then (course_of no_calls t locals) (λ word. and_then (courses_of no_calls ts locals) (λ words. comes_to (word ∷ words))) means (λ _ after. k ops locals after behind)
      ∙ evaluating_same (course_of no_calls t locals) means _ _ (λ word mid le.
      evaluating_then (courses_of no_calls ts locals) (λ words. comes_to (word ∷ words)) mid (λ _ after. k ops locals after behind)))))
