-- Room: the code of a term takes no word that is not there, and a step keeps the room that there is.
use Rattle.std.proofs.Common.{◌≡◌, ◌≤◌, ℕ, zero, suc, ◌+◌, ◌-◌, ◌*◌}
use Rattle.std.proofs.Common.{List, [], ◌∷◌, ◌++◌, length, drop}
use Rattle.std.proofs.Common.{sym, ◌∙◌, ap, subst, arith, append_assoc}
use Rattle.std.proofs.lemmas.List.{append-nil}
use Rattle.st_events.specs.declared.shapes.TheConstants.{MOST_ARGS}
use Rattle.st_resolved.specs.Terms.{Term, a_number, a_truth, a_null, a_local, a_shared, a_field, a_not, a_minus, a_binary, a_both, an_either, a_cond, a_call}
use Rattle.st_resolved.specs.Terms.{Terms, no_terms, term_then}
use Rattle.st_eval.specs.declared.frames.Span.{Span}
use Rattle.st_eval.specs.declared.instructions.Instruction.{Instruction}
use Rattle.st_eval.specs.declared.instructions.Instruction.TheVariants.{Field, Not, Minus, Binary, Both, Either, Test, Skip, Call}
use Rattle.st_eval.specs.StraightCode.{code_of, codes_of, count_of}
use Rattle.st_eval.specs.Activations.{Activation, held_waiting}
use Rattle.st_eval.specs.Steps.{part, span_of}
use Rattle.st_eval.specs.Bodies.{AreBodies}
use Rattle.st_eval.specs.Room.{growth, Holds, Wait}

-- passing over code
holds_past :
    (is rest : List Instruction) (words : ℕ)
    → Holds rest 0 words
    → Holds (is ++ rest) (length is) words
holds_past [] rest words h = h
holds_past (i ∷ is) rest words h = holds_past is rest words h

-- passing over code and one instruction more
holds_past_one :
    (is : List Instruction) (i : Instruction) (rest : List Instruction) (words : ℕ)
    → Holds rest 0 words
    → Holds (is ++ i ∷ rest) (suc (length is)) words
holds_past_one [] i rest words h = h
holds_past_one (j ∷ is) i rest words h = holds_past_one is i rest words h

-- the code of a term, and then code that holds from one word more on
mutual
  pub term_holds :
      (t : Term) (rest : List Instruction) (words : ℕ)
      → Holds rest 0 (suc words)
      → Holds (code_of t ++ rest) 0 words
  term_holds (a_number value) rest words h = h
  term_holds (a_truth value) rest words h = h
  term_holds a_null rest words h = h
  term_holds (a_local local) rest words h = h
  term_holds (a_shared field) rest words h = h
  term_holds (a_field object field at) rest words h =
      subst (λ is. Holds is 0 words) (sym (append_assoc (code_of object) (Field field at ∷ []) rest))
      (term_holds object (Field field at ∷ rest) words (omega arith, h))
  term_holds (a_not inner) rest words h =
      subst (λ is. Holds is 0 words) (sym (append_assoc (code_of inner) (Not ∷ []) rest))
      (term_holds inner (Not ∷ rest) words (omega arith, h))
  term_holds (a_minus inner at) rest words h =
      subst (λ is. Holds is 0 words) (sym (append_assoc (code_of inner) (Minus at ∷ []) rest))
      (term_holds inner (Minus at ∷ rest) words (omega arith, h))
  term_holds (a_binary operator left right at) rest words h =
      subst (λ is. Holds is 0 words)
      (sym (append_assoc (code_of left) (code_of right ++ Binary operator at ∷ []) rest
      ∙ ap (λ is. code_of left ++ is) (append_assoc (code_of right) (Binary operator at ∷ []) rest)))
      (term_holds left (code_of right ++ Binary operator at ∷ rest) words
      (term_holds right (Binary operator at ∷ rest) (suc words) (omega arith, h)))
  term_holds (a_both left right) rest words h =
      subst (λ is. Holds is 0 words) (sym (append_assoc (code_of left) (Both (length (code_of right)) ∷ code_of right) rest))
      (term_holds left (Both (length (code_of right)) ∷ (code_of right ++ rest)) words
      (omega arith, term_holds right rest words h, holds_past (code_of right) rest (suc words) h))
  term_holds (an_either left right) rest words h =
      subst (λ is. Holds is 0 words) (sym (append_assoc (code_of left) (Either (length (code_of right)) ∷ code_of right) rest))
      (term_holds left (Either (length (code_of right)) ∷ (code_of right ++ rest)) words
      (omega arith, term_holds right rest words h, holds_past (code_of right) rest (suc words) h))
  term_holds (a_cond test left right) rest words h =
      subst (λ is. Holds is 0 words)
      (sym (append_assoc (code_of test) (Test (suc (length (code_of left))) ∷ (code_of left ++ Skip (length (code_of right)) ∷ code_of right)) rest
      ∙ ap (λ is. code_of test ++ Test (suc (length (code_of left))) ∷ is) (append_assoc (code_of left) (Skip (length (code_of right)) ∷ code_of right) rest)))
      (term_holds test (Test (suc (length (code_of left))) ∷ (code_of left ++ Skip (length (code_of right)) ∷ (code_of right ++ rest))) words (
        omega arith,
        term_holds left (Skip (length (code_of right)) ∷ (code_of right ++ rest)) words (holds_past (code_of right) rest (suc words) h),
        holds_past_one (code_of left) (Skip (length (code_of right))) (code_of right ++ rest) words (term_holds right rest words h),
      ))
  term_holds (a_call pred args) rest words h =
      subst (λ is. Holds is 0 words) (sym (append_assoc (codes_of args) (Call pred (count_of args) ∷ []) rest))
      (terms_hold args (Call pred (count_of args) ∷ rest) words
      (omega arith, subst (λ n. Holds rest 0 (suc n)) (let e : words ≡ count_of args + words - count_of args = omega arith in e) h))

  pub terms_hold :
      (ts : Terms) (rest : List Instruction) (words : ℕ)
      → Holds rest 0 (count_of ts + words)
      → Holds (codes_of ts ++ rest) 0 words
  terms_hold no_terms rest words h = subst (λ n. Holds rest 0 n) (let e : 0 + words ≡ words = omega arith in e) h
  terms_hold (term_then t ts) rest words h =
      subst (λ is. Holds is 0 words) (sym (append_assoc (code_of t) (codes_of ts) rest))
      (term_holds t (codes_of ts ++ rest) words
      (terms_hold ts rest (suc words)
      (subst (λ n. Holds rest 0 n) (let e : suc (count_of ts) + words ≡ count_of ts + suc words = omega arith in e) h)))

-- the code of a body holds from any words on
pub body_holds : (t : Term) (words : ℕ) → Holds (code_of t) 0 words
body_holds t words = subst (λ is. Holds is 0 words) (append-nil (code_of t)) (term_holds t [] words tt)

-- where a body's code stands, if there is such a body, it may begin with so few words
pub body_room :
    (code : List Instruction) (most : ℕ) (spans : List Span) (ts : List Term) (k words : ℕ)
    → AreBodies code most spans ts
    → words ≤ 1
    → 1 ≤ most
    → Holds (part code (span_of spans k).start (span_of spans k).end) 0 words
    × (words + growth (part code (span_of spans k).start (span_of spans k).end) ≤ most)
body_room code most [] [] k words h few some = (tt, let e : words + 0 ≤ most = omega arith in e)
body_room code most [] (t ∷ ts) k words h few some = absurd h
body_room code most (s ∷ spans) [] k words h few some = absurd h
body_room code most (s ∷ spans) (t ∷ ts) zero words h few some =
    let r : suc (growth (code_of t)) ≤ most = h.2 in (
      subst (λ is. Holds is 0 words) (sym h.1) (body_holds t words),
      subst (λ is. words + growth is ≤ most) (sym h.1) (omega arith),
    )
body_room code most (s ∷ spans) (t ∷ ts) (suc k) words h few some = body_room code most spans ts k words h.3 few some

-- what code makes of words, past some of it
pub growth_past : (n : ℕ) (is : List Instruction) → growth (drop n is) ≤ growth is
growth_past zero is = let e : growth is ≤ growth is = omega arith in e
growth_past (suc n) [] = let e : 0 ≤ 0 = omega arith in e
growth_past (suc n) (i ∷ is) = let e : growth (drop n is) ≤ growth is = growth_past n is in omega arith

-- code that holds past some of it
pub holds_from : (n : ℕ) (is : List Instruction) (words : ℕ) → Holds is n words → Holds (drop n is) 0 words
holds_from zero is words h = h
holds_from (suc n) [] words h = tt
holds_from (suc n) (i ∷ is) words h = holds_from n is words h

-- what is held by those that wait, with the locals above them
pub waiting_hold :
    (code : List Instruction) (most locals : ℕ) (waiting : List Activation)
    → Wait code most locals waiting
    → locals + held_waiting waiting ≤ length waiting * most + MOST_ARGS
waiting_hold code most locals [] h = let e : locals ≤ MOST_ARGS = h in omega arith
waiting_hold code most locals (a ∷ rest) h =
    let p : length a.words + locals ≤ most = h.0 in
    let i : length a.locals + held_waiting rest ≤ length rest * most + MOST_ARGS = waiting_hold code most (length a.locals) rest h.2 in
    let m : suc (length rest) * most ≡ most + length rest * most = omega arith in
    omega arith
