-- Who is chosen can take a turn
use Rattle.std.proofs.Common.{◌≡◌, ℕ, zero, suc, ◌+◌, ◌<◌, ◌≤◌, ◌==◌, ◌/◌, ◌%◌, ◌^◌, Bool, true, false, not, ◌⊎◌, inl, inr, List, [], ◌∷◌}
use Rattle.std.proofs.Common.{◌++◌, length, map, slice_get, Some, None, refl, sym, ◌∙◌, subst, arith, get_or, mod-lt}
use Rattle.std.specs.List.{range_with_len}
use Rattle.std.proofs.lemmas.Bool.Decides.{eqb_tells}
use Rattle.std.proofs.lemmas.Option.{slice_get-get_or}
use Rattle.st_events.specs.declared.limits.Sizes.{Sizes}
use Rattle.st_events.specs.Terms.{ShapeLists, active_checks, is_among}
use Rattle.st_events.proofs.AmongLemmas.{or_cases, or_first, or_second, same_number, same_numbers, among_passing}
use Rattle.st_resolved.specs.Terms.{Program}
use Rattle.st_run_meaning.specs.declared.limits.TheConstants.{LOW_BITS}
use Rattle.st_run_meaning.specs.States.{State}
use Rattle.st_run_meaning.specs.Agents.{request_of, has_finished, unfinished_checks, can_launch, can_turn, ready_mutators, Agent, mutator, check, agents, number_after, next_agent}

-- the numbers of a range are its numbers
pub among_range : (a n k : ℕ) → is_among (range_with_len a n) k ≡ true → (a ≤ k) × (k < a + n)
among_range a zero k h = absurd (cc)
among_range a (suc n) k h = by (or_cases (a == k) (is_among (range_with_len (a + 1) n) k) h) (λ there. among_range (a + 1) n k there)
  where
    by : (((a == k) ≡ true) ⊎ (is_among (range_with_len (a + 1) n) k ≡ true)) → (is_among (range_with_len (a + 1) n) k ≡ true → (a + 1 ≤ k) × (k < a + 1 + n))
        → (a ≤ k) × (k < a + suc n)
    by (inl same) rest = let e : a ≡ k = same_numbers a k same in (omega (arith, e), omega (arith, e))
    by (inr there) rest = let r = rest there in (omega (arith, r.0), omega (arith, r.1))

-- a number between the ends of a range is one of its numbers
pub range_has : (a n k : ℕ) → a ≤ k → k < a + n → is_among (range_with_len a n) k ≡ true
range_has a zero k le lt = absurd (omega (arith, le, lt))
range_has a (suc n) k le lt = by (λ more. range_has (a + 1) n k more (omega (arith, lt))) (a == k) refl
  where
    by : (a + 1 ≤ k → is_among (range_with_len (a + 1) n) k ≡ true) → (b : Bool) → (a == k) ≡ b → is_among (range_with_len a (suc n)) k ≡ true
    by rest true e = or_first (a == k) (is_among (range_with_len (a + 1) n) k) e
    by rest false e = or_second (a == k) (is_among (range_with_len (a + 1) n) k) (rest (above e))
      where
        above : (a == k) ≡ false → a + 1 ≤ k
        above differ = elim (eqb_tells a k) [ inl same ↦ (let f : true ≡ false = sym same.0 ∙ differ in cc) | inr other ↦ omega (arith, le, other.1) ]

-- what is an agent
abbrev pub IsReady : ShapeLists → Program → Sizes → State → Agent → Type 0
IsReady shape p sizes s (mutator m) = (m < sizes.mutators) × (can_turn (request_of p sizes s m) (can_launch shape p sizes s) ≡ true)
IsReady shape p sizes s (check n) = (is_among (active_checks shape sizes s.journal) n ≡ true) × (has_finished shape p sizes s n ≡ false)

-- an element of one list's images and then another's is an image of one of the two
of_images :
    (P : Agent → Type 0) (ms ns : List ℕ)
    → ((m : ℕ) → is_among ms m ≡ true → P (mutator m))
    → ((n : ℕ) → is_among ns n ≡ true → P (check n))
    → (i : ℕ) (a : Agent)
    → slice_get (map mutator ms ++ map check ns) i ≡ Some a
    → P a
of_images P [] [] hm hn i a e = absurd (cc)
of_images P [] (n ∷ ns) hm hn zero a e = let same : check n ≡ a = cc in subst P same (hn n (or_first (n == n) (is_among ns n) (same_number n)))
of_images P [] (n ∷ ns) hm hn (suc i) a e = of_images P [] ns hm (λ k h. hn k (or_second (n == k) (is_among ns k) h)) i a e
of_images P (m ∷ ms) ns hm hn zero a e = let same : mutator m ≡ a = cc in subst P same (hm m (or_first (m == m) (is_among ms m) (same_number m)))
of_images P (m ∷ ms) ns hm hn (suc i) a e = of_images P ms ns (λ k h. hm k (or_second (m == k) (is_among ms k) h)) hn i a e

not_finished : (b : Bool) → not b ≡ true → b ≡ false
not_finished true h = cc
not_finished false h = refl

-- who is chosen is an agent
pub chosen_is_ready : (shape : ShapeLists) (p : Program) (sizes : Sizes) (s : State) (a : Agent) → next_agent shape p sizes s ≡ Some a → IsReady shape p sizes s a
chosen_is_ready shape p sizes s a e =
    of_images (IsReady shape p sizes s) (ready_mutators shape p sizes s) (unfinished_checks shape p sizes s)
    (λ m h.
    let i = among_passing (λ k. can_turn (request_of p sizes s k) (can_launch shape p sizes s)) (range_with_len 0 sizes.mutators) m h in
    let r = among_range 0 sizes.mutators m i.0 in (omega (arith, r.1), i.1))
    (λ n h.
    let i = among_passing (λ k. not (has_finished shape p sizes s k)) (active_checks shape sizes s.journal) n h in
    (i.0, not_finished (has_finished shape p sizes s n) i.1))
    ((number_after s.x / 2 ^ LOW_BITS) % length (agents shape p sizes s)) a e

-- where nobody is chosen there is nobody
none_chosen : (i : ℕ) (xs : List Agent) → slice_get xs (i % length xs) ≡ None → xs ≡ []
none_chosen i [] e = refl
none_chosen i (x ∷ xs) e =
    let within : i % length (x ∷ xs) < length (x ∷ xs) = mod-lt i (omega arith) in
    let there : slice_get (x ∷ xs) (i % length (x ∷ xs)) ≡ Some (get_or (x ∷ xs) (i % length (x ∷ xs)) x) = slice_get-get_or (x ∷ xs) (i % length (x ∷ xs)) x within in
    let f : None ≡ Some (get_or (x ∷ xs) (i % length (x ∷ xs)) x) = sym e ∙ there in cc

images_are_none : (ms ns : List ℕ) → map mutator ms ++ map check ns ≡ [] → (ms ≡ []) × (ns ≡ [])
images_are_none [] [] e = (refl, refl)
images_are_none [] (n ∷ ns) e = absurd (cc)
images_are_none (m ∷ ms) ns e = absurd (cc)

-- where nobody is chosen, no mutator can take a turn and every active check has finished
pub none_is_ready :
    (shape : ShapeLists) (p : Program) (sizes : Sizes) (s : State)
    → next_agent shape p sizes s ≡ None
    → (ready_mutators shape p sizes s ≡ []) × (unfinished_checks shape p sizes s ≡ [])
none_is_ready shape p sizes s e =
    images_are_none (ready_mutators shape p sizes s) (unfinished_checks shape p sizes s)
    (none_chosen (number_after s.x / 2 ^ LOW_BITS) (agents shape p sizes s) e)
