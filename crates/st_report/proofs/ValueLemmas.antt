-- The line of the JSON report is the text of its value, and a newline.
use Rattle.std.proofs.Common.{◌≡◌, ◌∙◌, ℕ, refl, ap, sym, List, [], ◌∷◌, ◌++◌, append_assoc, map, codes, false}
use Rattle.std.specs.List.{enumerate_from, flat_map, zip}
use Rattle.serde_json.specs.Data.{Data, array, object, member, no_members, Items}
use Rattle.serde_json.specs.Written.{compact_text, items_text}
use Rattle.serde_json.proofs.OnLiterals.{serde_json_on_literals}
use Rattle.st_events.specs.declared.events.Event.{Event}
use Rattle.st_events.specs.declared.events.Site.{Site}
use Rattle.st_events.specs.declared.verdicts.End.{End}
use Rattle.st_events.specs.declared.verdicts.Verdict.{Verdict}
use Rattle.st_events.specs.Ran.{RanLists}
use Rattle.st_report.specs.declared.checks.LaunchedCheck.{LaunchedCheck}
use Rattle.st_report.specs.Checks.{checks_of}
use Rattle.st_report.specs.Json.{check_json, check_items, count_json, joined, json_line, json_text, thread_json}
use Rattle.st_report.specs.JsonValue.{items_of, check_value, check_values, thread_value, count_value, report_value}
use Rattle.st_report.proofs.JsonLemmas.{check_text, thread_text, count_text}

-- the text of an array is that of its items, with a comma between two
items_are_joined : (values : List Data) → items_text false (items_of values) ≡ joined (map compact_text values) ++ 93 ∷ []
items_are_joined [] = refl
items_are_joined (value ∷ []) = refl
items_are_joined (value ∷ next ∷ values) =
    ap (λ (t : List ℕ). compact_text value ++ (44 ∷ t)) (items_are_joined (next ∷ values))
    ∙ sym (append_assoc (compact_text value) (44 ∷ joined (map compact_text (next ∷ values))) (93 ∷ []))

-- the texts of two lists of values, one after the other
texts_append : (one more : List Data) → map compact_text (one ++ more) ≡ map compact_text one ++ map compact_text more
texts_append [] more = refl
texts_append (value ∷ one) more = ap (λ (t : List (List ℕ)). compact_text value ∷ t) (texts_append one more)

-- the texts of a thread's launches
texts_of_checks : (thread : List ℕ) (checks : List LaunchedCheck) → map compact_text (map (check_value thread) checks) ≡ map (check_json thread) checks
texts_of_checks thread [] = refl
texts_of_checks thread (check ∷ checks) = λ i. check_text thread check i ∷ texts_of_checks thread checks i

-- the texts of all launches
texts_of_all_checks : (threads : List (List ℕ)) (places : List Site) (verdicts : List Verdict) (journal : List Event)
    → map compact_text (check_values threads places verdicts journal) ≡ check_items threads places verdicts journal
texts_of_all_checks threads places verdicts journal = go (enumerate_from 0 threads)
  where
    go : (numbered : List (ℕ × List ℕ))
        → map compact_text (flat_map (λ thread. map (check_value thread.1) (checks_of thread.0 places verdicts journal)) numbered)
        ≡ flat_map (λ thread. map (check_json thread.1) (checks_of thread.0 places verdicts journal)) numbered
    go [] = refl
    go (one ∷ more) =
        texts_append (map (check_value one.1) (checks_of one.0 places verdicts journal))
        (flat_map (λ thread. map (check_value thread.1) (checks_of thread.0 places verdicts journal)) more)
        ∙ (λ i. texts_of_checks one.1 (checks_of one.0 places verdicts journal) i ++ go more i)

-- the texts of the threads
texts_of_threads : (threads : List (List ℕ × End)) → map compact_text (map thread_value threads) ≡ map thread_json threads
texts_of_threads [] = refl
texts_of_threads (thread ∷ threads) = λ i. thread_text thread.0 thread.1 i ∷ texts_of_threads threads i

-- two arrays are closed by a bracket each, the object by a brace, and the line by a newline
all_is_closed : (k₁ checks k₂ counts k₃ threads : List ℕ)
    → (k₁ ++ ((checks ++ 93 ∷ []) ++ (k₂ ++ (counts ++ (k₃ ++ ((threads ++ 93 ∷ []) ++ 125 ∷ [])))))) ++ 10 ∷ []
    ≡ k₁ ++ (checks ++ ((93 ∷ k₂) ++ (counts ++ (k₃ ++ (threads ++ 93 ∷ 125 ∷ 10 ∷ [])))))
all_is_closed k₁ checks k₂ counts k₃ threads = simp append_assoc

-- an object of three members, of which the first and the last are arrays
line_of_value : (first last : Items) (middle : Data) (checks counts threads : List ℕ)
    → items_text false first ≡ checks ++ 93 ∷ []
    → compact_text middle ≡ counts
    → items_text false last ≡ threads ++ 93 ∷ []
    → compact_text (object (member (codes "checks") (array first) (member (codes "counts") middle (member (codes "threads") (array last) no_members)))) ++ codes "\n"
    ≡ json_line checks counts threads
unfolding serde_json_on_literals
line_of_value first last middle checks counts threads one two three =
    rw (one, two, three) (all_is_closed (codes "{\"checks\":[") checks (codes ",\"counts\":") counts (codes ",\"threads\":[") threads)

-- the line is the text of the report's value, and a newline
line_is_of_the_value : (threads : List (List ℕ)) (places : List Site) (ran : RanLists)
    → compact_text (report_value threads places ran) ++ codes "\n" ≡ json_text threads places ran
unfolding report_value json_text
line_is_of_the_value threads places ran =
    line_of_value (items_of (check_values threads places ran.verdicts ran.journal)) (items_of (map thread_value (zip threads ran.ends))) (count_value ran.verdicts)
    (joined (check_items threads places ran.verdicts ran.journal)) (count_json ran.verdicts) (joined (map thread_json (zip threads ran.ends)))
    (items_are_joined (check_values threads places ran.verdicts ran.journal)
    ∙ ap (λ (t : List (List ℕ)). joined t ++ 93 ∷ []) (texts_of_all_checks threads places ran.verdicts ran.journal))
    (count_text ran.verdicts)
    (items_are_joined (map thread_value (zip threads ran.ends)) ∙ ap (λ (t : List (List ℕ)). joined t ++ 93 ∷ []) (texts_of_threads (zip threads ran.ends)))

-- so what is the line is the text of the value, and a newline
pub line_tells_the_value : (line : List ℕ) (threads : List (List ℕ)) (places : List Site) (ran : RanLists)
    → line ≡ json_text threads places ran → line ≡ compact_text (report_value threads places ran) ++ codes "\n"
line_tells_the_value line threads places ran is = is ∙ sym (line_is_of_the_value threads places ran)
