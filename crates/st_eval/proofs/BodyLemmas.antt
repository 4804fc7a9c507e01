-- The code of a program, body by body.
use Rattle.std.proofs.Common.{◌≡◌, ◌≤◌, ◌<◌, ℕ, zero, suc, ◌+◌, List, [], ◌∷◌, ◌++◌, length, take, drop, map, get_or, slice_get}
use Rattle.std.proofs.Common.{refl, sym, ◌∙◌, ap, subst, arith, append_assoc, length-append, add-one}
use Rattle.std.proofs.lemmas.List.{take_all, take-append-le, map-append}
use Rattle.std.proofs.Math.Seq.{drop-append_seam, drop-cons, take-suc}
use Rattle.st_resolved.specs.declared.programs.Check.{Check}
use Rattle.st_resolved.specs.declared.programs.Pred.{Pred}
use Rattle.st_resolved.specs.declared.programs.Resolved.{Resolved}
use Rattle.st_resolved.specs.Terms.{Term, Predicate}
use Rattle.st_resolved.specs.Views.{term_of, check_of, predicate_of, program_of}
use Rattle.st_check_meaning.specs.Meaning.{Calls, body_course}
use Rattle.st_eval.specs.declared.frames.Span.{Span}
use Rattle.st_eval.specs.declared.instructions.Instruction.{Instruction}
use Rattle.st_eval.specs.StraightCode.{code_of, code_course}
use Rattle.st_eval.specs.Steps.{part, span_of}
use Rattle.st_eval.specs.Room.{growth, grown}
use Rattle.st_eval.specs.Bodies.{AreBodies, LaysBodies, IsCodeOf, check_bodies, predicate_bodies}
use Rattle.st_eval.proofs.CodeLemmas.{whole_code_runs}

-- one instruction more
pub growth_further :
    (more : ℕ) (code : List Instruction) (k : ℕ) (d : Instruction)
    → k < length code
    → more + growth (drop k code) ≡ growth code
    → more + grown (get_or code k d) + growth (drop (k + 1) code) ≡ growth code
growth_further more code k d h before =
    let e : growth (drop k code) ≡ grown (get_or code k d) + growth (drop (k + 1) code) =
    ap growth (drop-cons code k d h) ∙ ap (λ n. grown (get_or code k d) + growth (drop n code)) (sym (add-one k)) in
    omega arith

-- a part of the front of code
part_front : (code more : List Instruction) (start end : ℕ) → end ≤ length code → part (code ++ more) start end ≡ part code start end
part_front code more start end h = ap (drop start) (take-append-le end code more h)

-- the part that was added
part_added : (code more : List Instruction) → part (code ++ more) (length code) (length (code ++ more)) ≡ more
part_added code more =
    let e : length (code ++ more) ≤ length (code ++ more) = omega arith in
    ap (drop (length code)) (take_all (length (code ++ more)) (code ++ more) e) ∙ drop-append_seam code more

-- code that is added, and more room, leave bodies where they are
pub bodies_kept :
    (code more : List Instruction) (most most' : ℕ) (spans : List Span) (ts : List Term)
    → most ≤ most'
    → AreBodies code most spans ts
    → AreBodies (code ++ more) most' spans ts
bodies_kept code more most most' [] [] h k = tt
bodies_kept code more most most' [] (t ∷ ts) h k = absurd k
bodies_kept code more most most' (span ∷ spans) [] h k = absurd k
bodies_kept code more most most' (span ∷ spans) (t ∷ ts) h k =
    let e : length (code ++ more) ≡ length code + length more = length-append code more in
    let w : span.end ≤ length code = k.0 in
    let r : suc (growth (code_of t)) ≤ most = k.2 in
    (omega arith, part_front code more span.start span.end k.0 ∙ k.1, omega arith, bodies_kept code more most most' spans ts h k.3)

-- a body more
bodies_more :
    (code : List Instruction) (most : ℕ) (spans : List Span) (ts : List Term) (span : Span) (t : Term)
    → AreBodies code most spans ts
    → span.end ≤ length code
    → part code span.start span.end ≡ code_of t
    → suc (growth (code_of t)) ≤ most
    → AreBodies code most (spans ++ span ∷ []) (ts ++ t ∷ [])
bodies_more code most [] [] span t h within is room = (within, is, room, tt)
bodies_more code most [] (u ∷ ts) span t h within is room = absurd h
bodies_more code most (s ∷ spans) [] span t h within is room = absurd h
bodies_more code most (s ∷ spans) (u ∷ ts) span t h within is room =
    (h.0, h.1, h.2, bodies_more code most spans ts span t h.3 within is room)

-- a body is laid
pub laid :
    (before now after : List Instruction) (most_before most most_after : ℕ) (spans spans' : List Span) (ts : List Term) (t : Term)
    → LaysBodies before now most_before most spans ts
    → after ≡ now ++ code_of t
    → spans' ≡ spans ++ record { start = length now; end = length after } ∷ []
    → most ≤ most_after
    → suc (growth (code_of t)) ≤ most_after
    → LaysBodies before after most_before most_after spans' (ts ++ t ∷ [])
laid before now after most_before most most_after spans spans' ts t l grew placed more room =
    subst (λ xs. LaysBodies before xs most_before most_after spans' (ts ++ t ∷ [])) (sym grew)
    (record {
      added = l.added ++ code_of t;
      grew = ap (λ xs. xs ++ code_of t) l.grew ∙ append_assoc before l.added (code_of t);
      more = let m : most_before ≤ most = l.more in omega arith;
      bodies = subst (λ ss. AreBodies (now ++ code_of t) most_after ss (ts ++ t ∷ [])) (sym (placed ∙ ap (λ xs. spans ++ record { start = length now; end = length xs } ∷ []) grew))
          (bodies_more (now ++ code_of t) most_after spans ts (record { start = length now; end = length (now ++ code_of t) }) t
          (bodies_kept now (code_of t) most most_after spans ts more l.bodies) (omega arith) (part_added now (code_of t)) room);
    })

-- the first check statements, one more
pub checks_further :
    (checks : List Check) (i : ℕ) (k : Check)
    → i < length checks
    → k ≡ get_or checks i k
    → check_bodies (map check_of (take (i + 1) checks)) ≡ check_bodies (map check_of (take i checks)) ++ term_of k.body ∷ []
checks_further checks i k h is =
    ap (λ n. check_bodies (map check_of (take n checks))) (add-one i)
    ∙ ap (λ xs. check_bodies (map check_of xs)) (take-suc checks i k h)
    ∙ ap (λ x. check_bodies (map check_of (take i checks ++ x ∷ []))) (sym is)
    ∙ ap check_bodies (map-append check_of (take i checks) (k ∷ []))
    ∙ map-append (λ c. c.body) (map check_of (take i checks)) (check_of k ∷ [])

-- the first predicates, one more
pub preds_further :
    (preds : List Pred) (i : ℕ) (q : Pred)
    → i < length preds
    → q ≡ get_or preds i q
    → predicate_bodies (map predicate_of (take (i + 1) preds)) ≡ predicate_bodies (map predicate_of (take i preds)) ++ term_of q.body ∷ []
preds_further preds i q h is =
    ap (λ n. predicate_bodies (map predicate_of (take n preds))) (add-one i)
    ∙ ap (λ xs. predicate_bodies (map predicate_of xs)) (take-suc preds i q h)
    ∙ ap (λ x. predicate_bodies (map predicate_of (take i preds ++ x ∷ []))) (sym is)
    ∙ ap predicate_bodies (map-append predicate_of (take i preds) (q ∷ []))
    ∙ map-append (λ p. p.body) (map predicate_of (take i preds)) (predicate_of q ∷ [])

-- the code of a program, from that of its check statements and that of its predicates
pub code_made :
    (p : Resolved) (ks : List Check) (qs : List Pred) (start first all : List Instruction) (m n : ℕ) (checks preds : List Span)
    → ks ≡ p.checks
    → qs ≡ p.preds
    → LaysBodies start first 1 m checks (check_bodies (map check_of ks))
    → LaysBodies first all m n preds (predicate_bodies (map predicate_of qs))
    → IsCodeOf (program_of p) (record { instructions = all; checks = checks; preds = preds; most_words = n })
code_made p ks qs start first all m n checks preds e f g h =
    record {
      checks = subst (λ (xs : List Check). AreBodies all n checks (check_bodies (map check_of xs))) e
          (subst (λ xs. AreBodies xs n checks (check_bodies (map check_of ks))) (sym h.grew)
          (bodies_kept first h.added m n checks (check_bodies (map check_of ks)) h.more g.bodies));
      preds = subst (λ (xs : List Pred). AreBodies all n preds (predicate_bodies (map predicate_of xs))) f h.bodies;
      some = let a : 1 ≤ m = g.more in let b : m ≤ n = h.more in omega arith;
    }

-- where a predicate's code stands, it is that of its body
pub body_is :
    (code : List Instruction) (most : ℕ) (spans : List Span) (preds : List Predicate) (calls : Calls) (pred : ℕ) (words : List ℕ)
    → AreBodies code most spans (predicate_bodies preds)
    → body_course calls (slice_get preds pred) words
    ≡ code_course calls words (part code (span_of spans pred).start (span_of spans pred).end) 0 []
body_is code most [] [] calls pred words h = refl
body_is code most [] (q ∷ preds) calls pred words h = absurd h
body_is code most (s ∷ spans) [] calls pred words h = absurd h
body_is code most (s ∷ spans) (q ∷ preds) calls zero words h =
    sym (ap (λ is. code_course calls words is 0 []) h.1 ∙ whole_code_runs calls words q.body)
body_is code most (s ∷ spans) (q ∷ preds) calls (suc pred) words h = body_is code most spans preds calls pred words h.3
