-- Laws of the launched checks: how they grow by one event.
use Rattle.std.proofs.Common.{◌≡◌, ℕ, ◌+◌, ◌<◌, true, false, Some, None, take, get_or, List, [], ◌∷◌, ◌++◌, length}
use Rattle.std.proofs.Common.{refl, sym, ap, ◌∙◌, arith}
use Rattle.std.specs.List.{enumerate_from, filter_map}
use Rattle.std.proofs.lemmas.List.{append-nil, length-append, take_more}
use Rattle.std.proofs.lemmas.List.Elements.{filter-append, filter_map-append}
use Rattle.st_events.specs.declared.events.Event.{Event}
use Rattle.st_events.specs.declared.events.Site.{Site}
use Rattle.st_events.specs.declared.verdicts.Verdict.{Verdict}
use Rattle.st_events.specs.History.{is_own, own_events}
use Rattle.st_report.specs.declared.checks.LaunchedCheck.{LaunchedCheck}
use Rattle.st_report.specs.Checks.{check_in, checks_of}

-- one element more has the next number
pub one_more_has_the_next_number : {X : Type 0} (n : ℕ) (xs : List X) (x : X) → enumerate_from n (xs ++ x ∷ []) ≡ enumerate_from n xs ++ (length xs + n, x) ∷ []
one_more_has_the_next_number n [] x = let e : n ≡ 0 + n = omega arith in ap (λ k. (k, x) ∷ []) e
one_more_has_the_next_number n (y ∷ ys) x =
    let e : length ys + (n + 1) ≡ length (y ∷ ys) + n = omega arith in
    ap (λ zs. (n, y) ∷ zs) (one_more_has_the_next_number (n + 1) ys x ∙ ap (λ k. enumerate_from (n + 1) ys ++ (k, x) ∷ []) e)

-- an event of another thread, or a Retire
own_of_another : (thread : ℕ) (e : Event) → is_own thread e ≡ false → own_events thread (e ∷ []) ≡ []
own_of_another thread e other = rw other refl

own_of_the_thread : (thread : ℕ) (e : Event) → is_own thread e ≡ true → own_events thread (e ∷ []) ≡ e ∷ []
own_of_the_thread thread e own = rw own refl

own_of_more : (thread : ℕ) (journal : List Event) (i : ℕ) (d : Event) → i < length journal
    → own_events thread (take (i + 1) journal) ≡ own_events thread (take i journal) ++ own_events thread (get_or journal i d ∷ [])
own_of_more thread journal i d within =
    ap (own_events thread) (take_more journal i d within) ∙ filter-append (is_own thread) (take i journal) (get_or journal i d ∷ [])

-- an event of another thread, or a Retire, adds nothing to the thread's own events
pub another_adds_nothing : (thread : ℕ) (journal : List Event) (i : ℕ) (d : Event) → i < length journal → is_own thread (get_or journal i d) ≡ false
    → own_events thread (take (i + 1) journal) ≡ own_events thread (take i journal)
another_adds_nothing thread journal i d within other =
    own_of_more thread journal i d within
    ∙ ap (λ (es : List Event). own_events thread (take i journal) ++ es) (own_of_another thread (get_or journal i d) other)
    ∙ append-nil (own_events thread (take i journal))

-- an event of the thread comes behind its own events so far
pub an_own_one_is_added : (thread : ℕ) (journal : List Event) (i : ℕ) (d : Event) → i < length journal → is_own thread (get_or journal i d) ≡ true
    → own_events thread (take (i + 1) journal) ≡ own_events thread (take i journal) ++ get_or journal i d ∷ []
an_own_one_is_added thread journal i d within own =
    own_of_more thread journal i d within
    ∙ ap (λ (es : List Event). own_events thread (take i journal) ++ es) (own_of_the_thread thread (get_or journal i d) own)

-- the checks of one own event more
checks_of_more : (thread : ℕ) (places : List Site) (verdicts : List Verdict) (journal : List Event) (i : ℕ) (d : Event) (own : ℕ)
    → i < length journal → is_own thread (get_or journal i d) ≡ true → own ≡ length (own_events thread (take i journal)) + 1
    → checks_of thread places verdicts (take (i + 1) journal)
    ≡ checks_of thread places verdicts (take i journal) ++ filter_map (check_in places verdicts) ((own, get_or journal i d) ∷ [])
checks_of_more thread places verdicts journal i d own within is_mine counted =
    let so_far : List Event = own_events thread (take i journal) in
    ap (λ (es : List Event). filter_map (check_in places verdicts) (enumerate_from 1 es)) (an_own_one_is_added thread journal i d within is_mine)
    ∙ ap (filter_map (check_in places verdicts)) (one_more_has_the_next_number 1 so_far (get_or journal i d))
    ∙ filter_map-append (check_in places verdicts) (enumerate_from 1 so_far) ((length so_far + 1, get_or journal i d) ∷ [])
    ∙ ap (λ (n : ℕ). checks_of thread places verdicts (take i journal) ++ filter_map (check_in places verdicts) ((n, get_or journal i d) ∷ [])) (sym counted)

-- a launch of the thread, with its place and verdict, comes behind the thread's checks so far
pub a_check_is_added : (thread : ℕ) (places : List Site) (verdicts : List Verdict) (journal : List Event) (i : ℕ) (d : Event) (own : ℕ) (check : LaunchedCheck) (old now : List LaunchedCheck)
    → i < length journal → is_own thread (get_or journal i d) ≡ true → own ≡ length (own_events thread (take i journal)) + 1
    → check_in places verdicts (own, get_or journal i d) ≡ Some check → old ≡ checks_of thread places verdicts (take i journal) → now ≡ old ++ check ∷ []
    → now ≡ checks_of thread places verdicts (take (i + 1) journal)
a_check_is_added thread places verdicts journal i d own check old now within is_mine counted launches so_far is =
    is ∙ ap (λ (cs : List LaunchedCheck). cs ++ check ∷ []) so_far
    ∙ sym (checks_of_more thread places verdicts journal i d own within is_mine counted ∙ rw launches refl)

-- an event of the thread that launches no check leaves the thread's checks as they were
pub no_check_is_added : (thread : ℕ) (places : List Site) (verdicts : List Verdict) (journal : List Event) (i : ℕ) (d : Event) (own : ℕ) (now : List LaunchedCheck)
    → i < length journal → is_own thread (get_or journal i d) ≡ true → own ≡ length (own_events thread (take i journal)) + 1
    → check_in places verdicts (own, get_or journal i d) ≡ None → now ≡ checks_of thread places verdicts (take i journal)
    → now ≡ checks_of thread places verdicts (take (i + 1) journal)
no_check_is_added thread places verdicts journal i d own now within is_mine counted launches so_far =
    so_far ∙ sym (append-nil (checks_of thread places verdicts (take i journal)))
    ∙ sym (checks_of_more thread places verdicts journal i d own within is_mine counted ∙ rw launches refl)

-- own events are counted
pub an_own_one_counts : (thread : ℕ) (journal : List Event) (i : ℕ) (d : Event) (own : ℕ) → i < length journal → is_own thread (get_or journal i d) ≡ true
    → own ≡ length (own_events thread (take i journal)) → own + 1 ≡ length (own_events thread (take (i + 1) journal))
an_own_one_counts thread journal i d own within mine counted =
    ap (λ (n : ℕ). n + 1) counted
    ∙ sym (ap length (an_own_one_is_added thread journal i d within mine) ∙ length-append (own_events thread (take i journal)) (get_or journal i d ∷ []))

-- an event of another thread leaves the count of the thread's own events as it was
pub another_counts_nothing : (thread : ℕ) (journal : List Event) (i : ℕ) (d : Event) (own : ℕ) → i < length journal → is_own thread (get_or journal i d) ≡ false
    → own ≡ length (own_events thread (take i journal)) → own ≡ length (own_events thread (take (i + 1) journal))
another_counts_nothing thread journal i d own within other counted = counted ∙ sym (ap length (another_adds_nothing thread journal i d within other))

-- an event of another thread leaves the thread's checks as they were
pub another_adds_no_check : (thread : ℕ) (places : List Site) (verdicts : List Verdict) (journal : List Event) (i : ℕ) (d : Event) (now : List LaunchedCheck)
    → i < length journal → is_own thread (get_or journal i d) ≡ false → now ≡ checks_of thread places verdicts (take i journal)
    → now ≡ checks_of thread places verdicts (take (i + 1) journal)
another_adds_no_check thread places verdicts journal i d now within other so_far =
    so_far ∙ sym (ap (λ (es : List Event). filter_map (check_in places verdicts) (enumerate_from 1 es)) (another_adds_nothing thread journal i d within other))
