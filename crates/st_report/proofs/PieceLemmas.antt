-- Laws of lines that are put one after another.
use Rattle.std.proofs.Common.{◌≡◌, ℕ, ◌+◌, ◌<◌, Bor, get_or, map, take, List, [], ◌∷◌, ◌++◌, length}
use Rattle.std.proofs.Common.{sym, ap, ◌∙◌, append_assoc, arith}
use Rattle.std.specs.List.{enumerate_from, flat_map}
use Rattle.std.proofs.lemmas.Grind.{flat_map-append}
use Rattle.std.proofs.lemmas.List.{append-nil, length-map, length-take-le, map-append, take_more}
use Rattle.st_events.specs.declared.events.Event.{Event}
use Rattle.st_events.specs.declared.events.Site.{Site}
use Rattle.st_events.specs.declared.verdicts.Verdict.{Verdict}
use Rattle.st_report.specs.declared.checks.LaunchedCheck.{LaunchedCheck}
use Rattle.st_report.specs.Checks.{checks_of}
use Rattle.st_report.specs.Report.{check_lines}
use Rattle.st_report.proofs.CheckLemmas.{one_more_has_the_next_number}

-- one element more adds its piece
pub one_piece_more : {X : Type 0} (f : X → List ℕ) (xs : List X) (x : X) (old so_far now : List ℕ)
    → so_far ≡ old ++ flat_map f xs → now ≡ so_far ++ f x → now ≡ old ++ flat_map f (xs ++ x ∷ [])
one_piece_more f xs x old so_far now before after =
    after ∙ ap (λ (t : List ℕ). t ++ f x) before ∙ append_assoc old (flat_map f xs) (f x)
    ∙ ap (λ (t : List ℕ). old ++ t) (ap (λ (t : List ℕ). flat_map f xs ++ t) (sym (append-nil (f x))) ∙ sym (flat_map-append f xs (x ∷ [])))

-- the piece of the next element makes the text of one element more
pub next_piece : {X : Type 0} (f : X → List ℕ) (xs : List X) (i : ℕ) (d : X) (old so_far now : List ℕ) → i < length xs
    → so_far ≡ old ++ flat_map f (take i xs) → now ≡ so_far ++ f (get_or xs i d) → now ≡ old ++ flat_map f (take (i + 1) xs)
next_piece f xs i d old so_far now within before after =
    one_piece_more f (take i xs) (get_or xs i d) old so_far now before after
    ∙ ap (λ (seen : List _). old ++ flat_map f seen) (sym (take_more xs i d within))

abbrev seen : List (Bor (List ℕ)) → List (List ℕ)
seen names = map (λ name. name.now) names

-- the same of names in memory with their numbers
pub next_name : (f : ℕ × List ℕ → List ℕ) (names : List (Bor (List ℕ))) (i : ℕ) (d : Bor (List ℕ)) (old so_far now : List ℕ) → i < length names
    → so_far ≡ old ++ flat_map f (enumerate_from 0 (seen (take i names))) → now ≡ so_far ++ f (i, (get_or names i d).now)
    → now ≡ old ++ flat_map f (enumerate_from 0 (seen (take (i + 1) names)))
next_name f names i d old so_far now within before after =
    let there : length (seen (take i names)) + 0 ≡ i = omega (arith, length-map (take i names) (λ (name : Bor (List ℕ)). name.now), length-take-le i names (omega arith)) in
    let more : enumerate_from 0 (seen (take (i + 1) names)) ≡ enumerate_from 0 (seen (take i names)) ++ (i, (get_or names i d).now) ∷ [] =
    ap (λ (ns : List (Bor (List ℕ))). enumerate_from 0 (seen ns)) (take_more names i d within)
    ∙ ap (enumerate_from 0) (map-append (λ (name : Bor (List ℕ)). name.now) (take i names) (get_or names i d ∷ []))
    ∙ one_more_has_the_next_number 0 (seen (take i names)) (get_or names i d).now
    ∙ ap (λ (n : ℕ). enumerate_from 0 (seen (take i names)) ++ (n, (get_or names i d).now) ∷ []) there in
    one_piece_more f (enumerate_from 0 (seen (take i names))) (i, (get_or names i d).now) old so_far now before after
    ∙ ap (λ (ns : List (ℕ × List ℕ)). old ++ flat_map f ns) (sym more)

-- a first piece, and the rest
pub one_after_another : (old first rest now later : List ℕ) → now ≡ old ++ first → later ≡ now ++ rest → later ≡ old ++ (first ++ rest)
one_after_another old first rest now later one two = two ∙ ap (λ (t : List ℕ). t ++ rest) one ∙ append_assoc old first rest

-- three parts, from nothing
pub three_parts : (none a b c x y z : List ℕ) → none ≡ [] → x ≡ none ++ a → y ≡ x ++ b → z ≡ y ++ c → z ≡ a ++ (b ++ c)
three_parts none a b c x y z begins one two three =
    three ∙ ap (λ (t : List ℕ). t ++ c) (two ∙ ap (λ (t : List ℕ). t ++ b) (one ∙ ap (λ (t : List ℕ). t ++ a) begins)) ∙ append_assoc a b c

-- the next thread's checks
pub next_thread : (places : List Site) (verdicts : List Verdict) (journal : List Event) (names : List (Bor (List ℕ))) (i : ℕ) (d : Bor (List ℕ)) (checks : List LaunchedCheck)
    (old so_far now : List ℕ) → i < length names
    → so_far ≡ old ++ flat_map (λ thread. check_lines thread.1 (checks_of thread.0 places verdicts journal)) (enumerate_from 0 (seen (take i names)))
    → checks ≡ checks_of i places verdicts journal → now ≡ so_far ++ check_lines (get_or names i d).now checks
    → now ≡ old ++ flat_map (λ thread. check_lines thread.1 (checks_of thread.0 places verdicts journal)) (enumerate_from 0 (seen (take (i + 1) names)))
next_thread places verdicts journal names i d checks old so_far now within before are after =
    next_name (λ thread. check_lines thread.1 (checks_of thread.0 places verdicts journal)) names i d old so_far now within before
    (after ∙ ap (λ (cs : List LaunchedCheck). so_far ++ check_lines (get_or names i d).now cs) are)
