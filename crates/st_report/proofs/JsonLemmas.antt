-- The texts of the values of the JSON report.
use Rattle.std.proofs.Common.{◌≡◌, ◌∙◌, ℕ, ◌+◌, ◌-◌, ◌<◌, Bool, true, false, refl, ap, sym, List, [], ◌∷◌, ◌++◌, Bor, arith, append_assoc, cond, get_or, length, map, take}
use Rattle.std.specs.List.{enumerate_from, flat_map}
use Rattle.std.proofs.lemmas.Grind.{flat_map-append}
use Rattle.std.proofs.lemmas.List.{append-nil, length-append}
use Rattle.std.proofs.Math.Seq.{take-append_seam}
use Rattle.std.proofs.lemmas.List.Folds.{flat_map-map}
use Rattle.std.proofs.lemmas.Str.{IsUtf8-from_is_utf8, is_utf8-from_IsUtf8}
use Rattle.std.specs.Prelude.{count_by}
use Rattle.std.specs.Str.{is_utf8, IsUtf8}
use Rattle.serde_json.specs.Written.{compact_text}
use Rattle.serde_json.proofs.OnLiterals.{serde_json_on_literals}
use Rattle.st_events.specs.declared.events.Site.{Site}
use Rattle.st_events.specs.declared.verdicts.End.{End}
use Rattle.st_events.specs.declared.verdicts.Verdict.{Verdict}
use Rattle.st_events.specs.declared.events.Event.{Event}
use Rattle.st_report.specs.declared.checks.LaunchedCheck.{LaunchedCheck}
use Rattle.st_report.specs.Checks.{checks_of}
use Rattle.st_report.proofs.PieceLemmas.{next_name}
use Rattle.st_report.specs.Counts.{is_holds, is_fails, is_other_verdict}
use Rattle.st_report.specs.Json.{before_comma, check_items, checks_before_commas, joined, json_line, check_json, check_object, count_json, count_object, name_text, thread_json, thread_object}
use Rattle.st_texts.specs.Texts.{verdict_text, end_text}

-- the value of a launch is written as its text in the report
pub check_text : (thread : List ℕ) (check : LaunchedCheck) → compact_text (check_object check.event check.place (name_text thread) (verdict_text check.verdict)) ≡ check_json thread check
unfolding serde_json_on_literals
check_text thread check = refl

-- the value of a thread's end is written as its text in the report
pub thread_text : (thread : List ℕ) (end : End) → compact_text (thread_object (end_text end) (name_text thread)) ≡ thread_json (thread, end)
unfolding serde_json_on_literals
thread_text thread end = refl

-- the value of the counts is written as their text in the report
pub count_text : (verdicts : List Verdict)
    → compact_text (count_object (length verdicts) (count_by is_fails verdicts) (count_by is_holds verdicts) (count_by is_other_verdict verdicts)) ≡ count_json verdicts
unfolding serde_json_on_literals
count_text verdicts = refl

-- a name that is text is told whole, another as nothing
pub name_is_text : (name : List ℕ) → IsUtf8 name → name ≡ name_text name
name_is_text name text = rw (is_utf8-from_IsUtf8 name text) refl

-- bytes that are no UTF-8 are told as an empty name
pub name_is_no_text : (name : List ℕ) → (IsUtf8 name → ⊥) → [] ≡ name_text name
name_is_no_text name never = go (is_utf8 name) (IsUtf8-from_is_utf8 name)
  where
    go : (b : Bool) → (b ≡ true → IsUtf8 name) → [] ≡ cond b name []
    go true is_text = absurd (never (is_text refl))
    go false is_text = refl

-- items with a comma behind each are the joined items and a comma
joined_before_comma : (item : List ℕ) (items : List (List ℕ)) → flat_map before_comma (item ∷ items) ≡ joined (item ∷ items) ++ 44 ∷ []
joined_before_comma item [] = append-nil (item ++ 44 ∷ [])
joined_before_comma item (next ∷ items) =
    ap (λ (t : List ℕ). (item ++ 44 ∷ []) ++ t) (joined_before_comma next items) ∙ append_assoc item (44 ∷ []) (joined (next ∷ items) ++ 44 ∷ [])
    ∙ sym (append_assoc item (44 ∷ joined (next ∷ items)) (44 ∷ []))

-- without the last comma
pub last_comma_goes : (items : List (List ℕ)) (list : List ℕ) → list ≡ flat_map before_comma items → take (length list - 1) list ≡ joined items
last_comma_goes [] list is = rw is refl
last_comma_goes (item ∷ items) list is =
    let whole : list ≡ joined (item ∷ items) ++ 44 ∷ [] = is ∙ joined_before_comma item items in
    rw whole (ap (λ (n : ℕ). take n (joined (item ∷ items) ++ 44 ∷ [])) (omega (arith, length-append (joined (item ∷ items)) (44 ∷ []))) ∙ take-append_seam (joined (item ∷ items)) (44 ∷ []))

-- the checks of all threads, with commas
pub checks_with_commas : (threads : List (List ℕ)) (places : List Site) (verdicts : List Verdict) (journal : List Event)
    → flat_map (λ thread. checks_before_commas thread.1 (checks_of thread.0 places verdicts journal)) (enumerate_from 0 threads) ≡ flat_map before_comma (check_items threads places verdicts journal)
checks_with_commas threads places verdicts journal = go (enumerate_from 0 threads)
  where
    go : (numbered : List (ℕ × List ℕ))
        → flat_map (λ thread. checks_before_commas thread.1 (checks_of thread.0 places verdicts journal)) numbered
        ≡ flat_map before_comma (flat_map (λ thread. map (check_json thread.1) (checks_of thread.0 places verdicts journal)) numbered)
    go [] = refl
    go (one ∷ more) =
        ap (λ (t : List ℕ). checks_before_commas one.1 (checks_of one.0 places verdicts journal) ++ t) (go more)
        ∙ ap (λ (t : List ℕ). t ++ flat_map before_comma (flat_map (λ thread. map (check_json thread.1) (checks_of thread.0 places verdicts journal)) more))
        (sym (flat_map-map before_comma (check_json one.1) (checks_of one.0 places verdicts journal)))
        ∙ sym (flat_map-append before_comma (map (check_json one.1) (checks_of one.0 places verdicts journal))
        (flat_map (λ thread. map (check_json thread.1) (checks_of thread.0 places verdicts journal)) more))

-- the next thread's checks
pub next_checks : (places : List Site) (verdicts : List Verdict) (journal : List Event) (names : List (Bor (List ℕ))) (i : ℕ) (d : Bor (List ℕ)) (checks : List LaunchedCheck)
    (old so_far now : List ℕ) → i < length names
    → so_far ≡ old ++ flat_map (λ thread. checks_before_commas thread.1 (checks_of thread.0 places verdicts journal)) (enumerate_from 0 (map (λ name. name.now) (take i names)))
    → checks ≡ checks_of i places verdicts journal → now ≡ so_far ++ checks_before_commas (get_or names i d).now checks
    → now ≡ old ++ flat_map (λ thread. checks_before_commas thread.1 (checks_of thread.0 places verdicts journal)) (enumerate_from 0 (map (λ name. name.now) (take (i + 1) names)))
next_checks places verdicts journal names i d checks old so_far now within before are after =
    next_name (λ thread. checks_before_commas thread.1 (checks_of thread.0 places verdicts journal)) names i d old so_far now within before
    (after ∙ ap (λ (cs : List LaunchedCheck). so_far ++ checks_before_commas (get_or names i d).now cs) are)

-- a list of items with a comma behind each, after its last comma is gone
pub list_closed : (items : List (List ℕ)) (len : ℕ) (new list front all : List ℕ) → front ≡ [] → list ≡ front ++ all → all ≡ flat_map before_comma items → len ≡ length list
    → new ≡ take (len - 1) list → new ≡ joined items
list_closed items len new list front all nothing is commas long cut =
    cut ∙ ap (λ (n : ℕ). take (n - 1) list) long ∙ last_comma_goes items list (is ∙ ap (λ (t : List ℕ). t ++ all) nothing ∙ commas)

member_then : (x k v r now : List ℕ) → now ≡ x ++ (k ++ v) → now ++ r ≡ x ++ (k ++ (v ++ r))
member_then x k v r now is = ap (λ (t : List ℕ). t ++ r) is ∙ append_assoc x (k ++ v) r ∙ ap (λ (t : List ℕ). x ++ t) (append_assoc k v r)

-- three members from nothing, and what ends them
pub four_parts : (none k₁ v₁ k₂ v₂ k₃ v₃ end a b c d : List ℕ) → none ≡ [] → a ≡ none ++ (k₁ ++ v₁) → b ≡ a ++ (k₂ ++ v₂) → c ≡ b ++ (k₃ ++ v₃) → d ≡ c ++ end
    → d ≡ k₁ ++ (v₁ ++ (k₂ ++ (v₂ ++ (k₃ ++ (v₃ ++ end)))))
four_parts none k₁ v₁ k₂ v₂ k₃ v₃ end a b c d nothing one two three four =
    four ∙ member_then b k₃ v₃ end c three ∙ member_then a k₂ v₂ (k₃ ++ (v₃ ++ end)) b two ∙ member_then none k₁ v₁ (k₂ ++ (v₂ ++ (k₃ ++ (v₃ ++ end)))) a one
    ∙ ap (λ (t : List ℕ). t ++ (k₁ ++ (v₁ ++ (k₂ ++ (v₂ ++ (k₃ ++ (v₃ ++ end))))))) nothing

-- a line of parts that are known
pub line_is : (line x y z checks counts threads : List ℕ) → line ≡ json_line x y z → x ≡ checks → y ≡ counts → z ≡ threads → line ≡ json_line checks counts threads
line_is line x y z checks counts threads is one two three =
    is ∙ ap (λ (t : List ℕ). json_line t y z) one ∙ ap (λ (t : List ℕ). json_line checks t z) two ∙ ap (json_line checks counts) three
