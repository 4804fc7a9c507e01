-- A run comes to one end
use Rattle.std.proofs.Common.{◌≡◌, ℕ, zero, suc, ◌+◌, ◌-◌, ◌<◌, ◌≤◌, ◌==◌, Bool, true, false, ◌⊎◌, inl, inr, List, [], ◌∷◌, length, slice_get}
use Rattle.std.proofs.Common.{Option, Some, None, refl, sym, ◌∙◌, ap, subst, length-append, arith}
use Rattle.std.specs.List.{sum_by, range_with_len}
use Rattle.std.specs.Prelude.{is_none}
use Rattle.std.proofs.lemmas.Bool.Decides.{eqb_tells}
use Rattle.std.proofs.lemmas.List.Sums.{sum_by-cons}
use Rattle.std.proofs.lemmas.Option.{slice_get_within}
use Rattle.st_events.specs.declared.limits.Sizes.{Sizes}
use Rattle.st_events.specs.Terms.{ShapeLists, is_among, is_lost, launch_of, lost_pairs, active_checks, own_events, world_after}
use Rattle.st_events.proofs.AmongLemmas.{or_cases, or_first, or_second, same_number, same_numbers}
use Rattle.st_events.proofs.WorldLemmas.{at_same, at_other}
use Rattle.st_resolved.specs.Terms.{Program}
use Rattle.st_check_meaning.specs.Plain.{Cell}
use Rattle.st_thread_meaning.specs.Deeds.{Request}
use Rattle.st_thread_meaning.specs.Threads.{Turn, asks_for, has_ended}
use Rattle.st_thread_meaning.proofs.FollowLemmas.{events_lead_by_replies}
use Rattle.st_thread_meaning.proofs.MeansLemmas.{events_are_within_charge}
use Rattle.st_run_meaning.specs.States.{Progress, has_read, abandoned_at, State, first_state}
use Rattle.st_run_meaning.specs.Agents.{request_of, cells_of, cell_after, cell_asked, can_launch, can_turn, Agent, mutator, check, next_agent}
use Rattle.st_run_meaning.specs.Steps.{event_of, one_more, progress_after, turn_of}
use Rattle.st_run_meaning.specs.Runs.{ComesTo, is_over, by_turn, ran_of, reads_left, all_reads_left, all_events_left, after_turn, checks_first, state_within, scheduled_run}
use Rattle.st_run_meaning.specs.Laws.{ComeToOneEnd}
use Rattle.st_run_meaning.proofs.AgentLemmas.{range_has, IsReady, chosen_is_ready}
use Rattle.st_run_meaning.proofs.OwnLemmas.{own_after_turn, others_after_turn, AreLed, turn_leads}

-- a run comes from a state to one end alone
one_end : (shape : ShapeLists) (p : Program) (sizes : Sizes) (s end other : State) → ComesTo shape p sizes s end → ComesTo shape p sizes s other → end ≡ other
one_end shape p sizes s end other (is_over s1 none) (is_over s2 none') = refl
one_end shape p sizes s end other (is_over s1 none) (by_turn s2 t a some d) = cc
one_end shape p sizes s end other (by_turn s1 t a some c) (is_over s2 none) = cc
one_end shape p sizes s end other (by_turn s1 t a some c) (by_turn s2 u b some' d) =
    let same : a ≡ b = cc in
    one_end shape p sizes (turn_of shape p sizes s b) end other (subst (λ (x : Agent). ComesTo shape p sizes (turn_of shape p sizes s x) end) same c) d

-- ---- sums

-- no part is more, and so the sum is not
pub sum_stays : (f g : ℕ → ℕ) (ns : List ℕ) → ((k : ℕ) → is_among ns k ≡ true → g k ≤ f k) → sum_by g ns ≤ sum_by f ns
sum_stays f g [] le = omega arith
sum_stays f g (n ∷ ns) le =
    omega (arith, sum_by-cons f n ns, sum_by-cons g n ns, le n (or_first (n == n) (is_among ns n) (same_number n)), sum_stays f g ns (λ k h. le k (or_second (n == k) (is_among ns k) h)))

-- no part is more and one is less, and so the sum is less
pub sum_falls :
    (f g : ℕ → ℕ) (ns : List ℕ) (m : ℕ)
    → ((k : ℕ) → is_among ns k ≡ true → g k ≤ f k)
    → is_among ns m ≡ true
    → g m < f m
    → sum_by g ns < sum_by f ns
sum_falls f g [] m le h lt = absurd (cc)
sum_falls f g (n ∷ ns) m le h lt =
    by (or_cases (n == m) (is_among ns m) h) (sum_stays f g ns (λ k there. le k (or_second (n == k) (is_among ns k) there)))
    (λ there. sum_falls f g ns m (λ k h'. le k (or_second (n == k) (is_among ns k) h')) there lt)
  where
    first : g n ≤ f n
    first = le n (or_first (n == n) (is_among ns n) (same_number n))

    by : (((n == m) ≡ true) ⊎ (is_among ns m ≡ true)) → sum_by g ns ≤ sum_by f ns → (is_among ns m ≡ true → sum_by g ns < sum_by f ns)
        → sum_by g (n ∷ ns) < sum_by f (n ∷ ns)
    by (inl same) rest others =
        let e : n ≡ m = same_numbers n m same in
        let less : g n < f n = subst (λ (k : ℕ). g k < f k) (sym e) lt in omega (arith, sum_by-cons f n ns, sum_by-cons g n ns, less, rest)
    by (inr there) rest others = omega (arith, sum_by-cons f n ns, sum_by-cons g n ns, first, others there)

-- ---- what each turn lowers

-- how many events a thread can still make
abbrev events_left : Sizes → State → ℕ → ℕ
events_left sizes s m = sizes.events - length (own_events m s.journal)

-- a turn of a mutator leaves it one event less
less_events :
    (shape : ShapeLists) (p : Program) (sizes : Sizes) (s : State) (m : ℕ) (request : Request)
    → AreLed p sizes s
    → request_of p sizes s m ≡ asks_for request
    → events_left sizes (turn_of shape p sizes s (mutator m)) m < events_left sizes s m
less_events shape p sizes s m request led asked =
    let e = event_of sizes (world_after shape sizes s.journal) m request in
    let own = own_events m (turn_of shape p sizes s (mutator m)).journal in
    let charge = events_are_within_charge p sizes m own (request_of p sizes (turn_of shape p sizes s (mutator m)) m) (turn_leads shape p sizes s (mutator m) led m) in
    let one : length own ≡ length (own_events m s.journal) + 1 = ap length (own_after_turn shape p sizes s m request asked) ∙ length-append (own_events m s.journal) (e ∷ []) in
    omega (arith, charge, one)

-- the turn of a mutator that can take one leaves fewer events to make
pub events_fall :
    (shape : ShapeLists) (p : Program) (sizes : Sizes) (s : State) (m : ℕ)
    → AreLed p sizes s
    → IsReady shape p sizes s (mutator m)
    → all_events_left sizes (turn_of shape p sizes s (mutator m)) < all_events_left sizes s
events_fall shape p sizes s m led ready = by (request_of p sizes s m) refl ready.1
  where
    later : State
    later = turn_of shape p sizes s (mutator m)

    by : (t : Turn) → request_of p sizes s m ≡ t → can_turn t (can_launch shape p sizes s) ≡ true → all_events_left sizes later < all_events_left sizes s
    by (has_ended end) e can = absurd (cc)
    by (asks_for request) e can =
        let less : events_left sizes later m < events_left sizes s m = less_events shape p sizes s m request led e in
        sum_falls (events_left sizes s) (events_left sizes later) (range_with_len 0 sizes.mutators) m
        (λ k h. elim (eqb_tells k m) [
          | inl same ↦ subst (λ (j : ℕ). events_left sizes later j ≤ events_left sizes s j) (sym same.1) (omega (arith, less))
          | inr differ ↦ (let still : own_events k later.journal ≡ own_events k s.journal = others_after_turn shape p sizes s m k differ.1 in
              let same : length (own_events k later.journal) ≡ length (own_events k s.journal) = ap length still in omega (arith, same))
        ]) (range_has 0 sizes.mutators m (omega arith) (omega (arith, ready.0))) less

-- how many reads a check has left
abbrev left_of : ShapeLists → Program → Sizes → State → ℕ → ℕ
left_of shape p sizes s n = reads_left (s.progress n) (cells_of p sizes (launch_of shape sizes s.journal n))

-- a read leaves a check one read less
less_reads :
    (cells : List Cell) (lost : ℕ → Bool) (q : Progress)
    → is_none (cell_after q cells) ≡ false
    → reads_left (progress_after q (cell_after q cells) lost) cells < reads_left q cells
less_reads cells lost (abandoned_at obj) h = absurd (cc)
less_reads cells lost (has_read k) h = by (slice_get cells k) refl h
  where
    at_cell : (cell : Cell) → k < length cells → (b : Bool) → reads_left (elim b [ true ↦ abandoned_at cell.obj | false ↦ one_more (has_read k) ]) cells < length cells - k
    at_cell cell within true = omega (arith, within)
    at_cell cell within false = omega (arith, within)

    by : (found : Option Cell) → slice_get cells k ≡ found → is_none found ≡ false → reads_left (progress_after (has_read k) found lost) cells < length cells - k
    by None e f = absurd (cc)
    by (Some cell) e f = at_cell cell (slice_get_within cells k cell e) (lost cell.obj)

-- the turn of a check that has not finished leaves fewer reads to do
pub reads_fall :
    (shape : ShapeLists) (p : Program) (sizes : Sizes) (s : State) (n : ℕ)
    → IsReady shape p sizes s (check n)
    → all_reads_left shape p sizes (turn_of shape p sizes s (check n)) < all_reads_left shape p sizes s
reads_fall shape p sizes s n ready =
    sum_falls (left_of shape p sizes s) (left_of shape p sizes later) (active_checks shape sizes s.journal) n
    (λ k h. elim (eqb_tells k n) [
      | inl same ↦ subst (λ (j : ℕ). left_of shape p sizes later j ≤ left_of shape p sizes s j) (sym same.1) (omega (arith, less))
      | inr differ ↦ (let still : left_of shape p sizes later k ≡ left_of shape p sizes s k =
          ap (λ (q : Progress). reads_left q (cells_of p sizes (launch_of shape sizes s.journal k))) (at_other n read s.progress k differ.1) in omega (arith, still))
    ]) ready.0 less
  where
    later : State
    later = turn_of shape p sizes s (check n)

    read : Progress
    read = progress_after (s.progress n) (cell_asked shape p sizes s n) (λ obj. is_lost (lost_pairs shape sizes s.journal) obj n)

    less : left_of shape p sizes later n < left_of shape p sizes s n
    less =
        let cells = cells_of p sizes (launch_of shape sizes s.journal n) in
        subst (λ (q : Progress). reads_left q cells < reads_left (s.progress n) cells) (sym (at_same n read s.progress))
        (less_reads cells (λ obj. is_lost (lost_pairs shape sizes s.journal) obj n) (s.progress n) ready.1)

-- ---- there is an end

-- where the rest comes to an end after each turn of a mutator, so does all with turns of checks before it
checks_come_to_end :
    (shape : ShapeLists) (p : Program) (sizes : Sizes) (rest : State → State) (most : ℕ)
    → ((s : State) → AreLed p sizes s → all_events_left sizes s < most → ComesTo shape p sizes s (rest s))
    → (reads : ℕ) (s : State)
    → AreLed p sizes s
    → all_events_left sizes s < most + 1
    → all_reads_left shape p sizes s < reads
    → ComesTo shape p sizes s (checks_first shape p sizes rest reads s)
checks_come_to_end shape p sizes rest most h zero s led few fewer = absurd (omega (arith, fewer))
checks_come_to_end shape p sizes rest most h (suc reads) s led few fewer =
    by (λ t l a b. checks_come_to_end shape p sizes rest most h reads t l a b) (next_agent shape p sizes s) refl
  where
    by :
        ((t : State) → AreLed p sizes t → all_events_left sizes t < most + 1 → all_reads_left shape p sizes t < reads → ComesTo shape p sizes t (checks_first shape p sizes rest reads t))
        → (a : Option Agent)
        → next_agent shape p sizes s ≡ a
        → ComesTo shape p sizes s (after_turn shape p sizes (checks_first shape p sizes rest reads) rest s a)
    by again None e = is_over s e
    by again (Some (check n)) e =
        let ready = chosen_is_ready shape p sizes s (check n) e in
        by_turn s (checks_first shape p sizes rest reads (turn_of shape p sizes s (check n))) (check n) e
        (again (turn_of shape p sizes s (check n)) (turn_leads shape p sizes s (check n) led) few (omega (arith, fewer, reads_fall shape p sizes s n ready)))
    by again (Some (mutator m)) e =
        let ready = chosen_is_ready shape p sizes s (mutator m) e in
        by_turn s (rest (turn_of shape p sizes s (mutator m))) (mutator m) e
        (h (turn_of shape p sizes s (mutator m)) (turn_leads shape p sizes s (mutator m) led) (omega (arith, few, events_fall shape p sizes s m led ready)))

comes_within :
    (shape : ShapeLists) (p : Program) (sizes : Sizes) (most : ℕ) (s : State)
    → AreLed p sizes s
    → all_events_left sizes s < most
    → ComesTo shape p sizes s (state_within shape p sizes most s)
comes_within shape p sizes zero s led few = absurd (omega (arith, few))
comes_within shape p sizes (suc most) s led few =
    checks_come_to_end shape p sizes (state_within shape p sizes most) most (λ t l less. comes_within shape p sizes most t l less)
    (all_reads_left shape p sizes s + 1) s led (omega (arith, few)) (omega arith)

-- the state to which the run from a seed comes
abbrev end_from : ShapeLists → Program → Sizes → ℕ → State
end_from shape p sizes seed = state_within shape p sizes (all_events_left sizes (first_state seed) + 1) (first_state seed)

-- each turn lowers the events or the reads that are left, so from every seed the turns come to an end
pub run_comes_to_end : (shape : ShapeLists) (p : Program) (sizes : Sizes) (seed : ℕ) → ComesTo shape p sizes (first_state seed) (end_from shape p sizes seed)
run_comes_to_end shape p sizes seed =
    comes_within shape p sizes (all_events_left sizes (first_state seed) + 1) (first_state seed) (λ thread. events_lead_by_replies.first p sizes thread) (omega arith)

run_is_left : (shape : ShapeLists) (p : Program) (sizes : Sizes) (seed : ℕ) (end : State) → ComesTo shape p sizes (first_state seed) end
    → scheduled_run shape p sizes seed ≡ ran_of shape p sizes end
unfolding scheduled_run
run_is_left shape p sizes seed end comes =
    ap (ran_of shape p sizes) (one_end shape p sizes (first_state seed) (end_from shape p sizes seed) end (run_comes_to_end shape p sizes seed) comes)

-- there is an end; who is next is fixed by the state, so there is no other; and the run is read off it
pub runs_come_to_one_end : ComeToOneEnd
runs_come_to_one_end = record {
  some = λ shape p sizes seed. (end_from shape p sizes seed, run_comes_to_end shape p sizes seed);
  one = λ shape p sizes s end other c d. one_end shape p sizes s end other c d;
  run = λ shape p sizes seed end comes. run_is_left shape p sizes seed end comes;
}
