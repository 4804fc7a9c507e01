-- Reading rows: what is read is written so, what is written is read, and the first bad line is told by the lines up to it.
use Rattle.std.proofs.Common.{◌≡◌, ℕ, suc, ◌+◌, ◌-◌, ◌^◌, ◌<◌, ◌≤◌, Bool, true, false, take, List, [], ◌∷◌, ◌++◌, length, Option, Some, None, Result, Ok, Err}
use Rattle.std.proofs.Common.{refl, sym, ap, subst, ◌∙◌, append_assoc, arith}
use Rattle.std.specs.List.{All, enumerate_from}
use Rattle.std.proofs.lemmas.List.{append-nil, length-append, length-map, take_all, take_at}
use Rattle.std.proofs.lemmas.List.Elements.{All-head, All-tail}
use Rattle.st_journal.specs.declared.errors.JournalError.{JournalError}
use Rattle.st_journal.specs.declared.errors.JournalError.TheVariants as journal
use Rattle.st_journal.specs.Terms.{Event, Verdict}
use Rattle.st_journal.specs.Format.{line, event_words, verdict_words, FitsFields, FitsVerdict, IsHalf}
use Rattle.st_journal.specs.Reading.{content}
use Rattle.st_journal.specs.Rows.{RowLists, with_event, with_verdict, after_step, ended, line_step, rows_in}
use Rattle.st_journal.specs.Words.{◌>>=◌}
use Rattle.st_journal.proofs.RowLemmas.{step_is}
use Rattle.st_journal.proofs.StepLemmas.{event_lines, numbered_lines, rows_lines, last_line, FitsRows, Ends, line_adds, line_ends, event_step, verdict_step, end_step}

abbrev Read : Type 0
Read = Result RowLists JournalError

abbrev done : RowLists → Read
done rows = Ok rows

abbrev bad : ℕ → Read
bad n = Err (journal.BadLine n)

abbrev Further : Type 0
Further = RowLists → Read

-- where the step at a line is told: what comes of it, where it comes to a value or to a bad line
abbrev Step : Type 0
Step = Option (RowLists × Bool)

-- the step at a line is that of its content
step_at : (rows : RowLists) (whole : List ℕ) (found : Option (List ℕ)) (after : RowLists) (is_last : Bool)
    → (found >>= line_step rows) ≡ step_is after is_last → (text : List ℕ) × (found ≡ Some text) × (line_step rows text ≡ step_is after is_last)
step_at rows whole (Some text) after is_last e = (text, refl, e)
step_at rows whole None after is_last e = absurd cc

-- ---- what is read is written so

-- these are the lines of these rows and of their counts, and all of them fit
pub record Spelled (before : List (List ℕ)) (rows : RowLists) : Type 0 where
  pub lines : before ≡ rows_lines rows ++ last_line rows ∷ []
  pub fits : FitsRows rows
  pub few_events : IsHalf (length rows.events)
  pub few_verdicts : IsHalf (length rows.verdicts)

ended_ok : (n : ℕ) (rows all : RowLists) (rest : List (List ℕ)) → ended n rows rest ≡ done all → (rows ≡ all) × (rest ≡ [])
ended_ok n rows all [] e = (cc, refl)
ended_ok n rows all (l ∷ rest) e = absurd cc

spelled_after : (n : ℕ) (rows all : RowLists) (whole : List ℕ) (rest : List (List ℕ)) (step : Step)
    → (content whole >>= line_step rows) ≡ step → FitsRows rows
    → ((after : RowLists) → FitsRows after → rows_in (n + 1) after rest ≡ done all → Spelled (rows_lines after ++ rest) all)
    → after_step step n rest (λ more. rows_in (n + 1) more rest) ≡ done all → Spelled (rows_lines rows ++ whole ∷ rest) all
spelled_after n rows all whole rest None is fits further e = absurd cc
spelled_after n rows all whole rest (Some (after, false)) is fits further e =
    let at = step_at rows whole (content whole) after false is in
    let adds = line_adds rows after whole at.0 at.1 fits at.2 in
    let same : rows_lines after ++ rest ≡ rows_lines rows ++ whole ∷ rest =
    ap (λ (ls : List (List ℕ)). ls ++ rest) adds.0 ∙ append_assoc (rows_lines rows) (whole ∷ []) rest in
    subst (λ (ls : List (List ℕ)). Spelled ls all) same (further after adds.1 e)
spelled_after n rows all whole rest (Some (after, true)) is fits further e =
    let at = step_at rows whole (content whole) after true is in
    let ends = line_ends rows after whole at.0 at.1 at.2 in
    let over = ended_ok n after all rest e in
    subst (λ (r : RowLists). Spelled (rows_lines rows ++ whole ∷ rest) r) (ends.same ∙ over.0) (record {
      lines = ap (λ (ls : List (List ℕ)). rows_lines rows ++ whole ∷ ls) over.1 ∙ ap (λ (l : List ℕ). rows_lines rows ++ l ∷ []) ends.spelled;
      fits = fits;
      few_events = ends.few_events;
      few_verdicts = ends.few_verdicts;
    })

-- where lines are read to the end, the lines of the rows before and these are the lines of all rows with their counts
pub rows_are_spelled : (n : ℕ) (rows all : RowLists) (lines : List (List ℕ)) → FitsRows rows → rows_in n rows lines ≡ done all → Spelled (rows_lines rows ++ lines) all
unfolding rows_in
rows_are_spelled n rows all [] fits e = absurd cc
rows_are_spelled n rows all (whole ∷ rest) fits e =
    spelled_after n rows all whole rest (content whole >>= line_step rows) refl fits (λ after more. rows_are_spelled (n + 1) after all rest more) e

-- ---- what is written is read

at_a_row : (n : ℕ) (rows after : RowLists) (whole : List ℕ) (rest : List (List ℕ)) → (content whole >>= line_step rows) ≡ step_is after false
    → rows_in n rows (whole ∷ rest) ≡ rows_in (n + 1) after rest
unfolding rows_in
at_a_row n rows after whole rest is = rw is refl

at_the_end : (n : ℕ) (rows after : RowLists) (whole : List ℕ) (rest : List (List ℕ)) → (content whole >>= line_step rows) ≡ step_is after true
    → rows_in n rows (whole ∷ rest) ≡ ended n after rest
unfolding rows_in
at_the_end n rows after whole rest is = rw is refl

abbrev with_events : RowLists → List Event → RowLists
with_events rows events = record { events = rows.events ++ events; verdicts = rows.verdicts }

abbrev with_verdicts : RowLists → List Verdict → RowLists
with_verdicts rows verdicts = record { events = rows.events; verdicts = rows.verdicts ++ verdicts }

more_rows : (a b : RowLists) → a.events ≡ b.events → a.verdicts ≡ b.verdicts → a ≡ b
more_rows a b es vs = λ i. record { events = es i; verdicts = vs i }

-- some line number
abbrev ReadsOn : RowLists → List (List ℕ) → RowLists → List (List ℕ) → Type 0
ReadsOn rows lines after rest = (n : ℕ) → (m : ℕ) × (rows_in n rows lines ≡ rows_in m after rest)

events_are_read : (rows : RowLists) (events : List Event) (rest : List (List ℕ)) → rows.verdicts ≡ [] → All FitsFields events
    → ReadsOn rows (event_lines events ++ rest) (with_events rows events) rest
events_are_read rows [] rest none fit n =
    (n, ap (λ (r : RowLists). rows_in n r rest) (more_rows rows (with_events rows []) (sym (append-nil rows.events)) refl))
events_are_read rows (e ∷ events) rest none fit n =
    let one = at_a_row n rows (with_event rows e) (line (event_words e)) (event_lines events ++ rest) (event_step rows e none (All-head FitsFields e events fit)) in
    let others = events_are_read (with_event rows e) events rest none (All-tail FitsFields e events fit) (n + 1) in
    let same : with_events (with_event rows e) events ≡ with_events rows (e ∷ events) =
    more_rows (with_events (with_event rows e) events) (with_events rows (e ∷ events)) (append_assoc rows.events (e ∷ []) events) refl in
    (others.0, one ∙ others.1 ∙ ap (λ (r : RowLists). rows_in others.0 r rest) same)

verdicts_are_read : (rows : RowLists) (k : ℕ) (verdicts : List Verdict) (rest : List (List ℕ)) → k ≡ length rows.verdicts + 1 → IsHalf (length rows.verdicts + length verdicts)
    → All FitsVerdict verdicts → ReadsOn rows (numbered_lines (enumerate_from k verdicts) ++ rest) (with_verdicts rows verdicts) rest
verdicts_are_read rows k [] rest next few fit n =
    (n, ap (λ (r : RowLists). rows_in n r rest) (more_rows rows (with_verdicts rows []) refl (sym (append-nil rows.verdicts))))
verdicts_are_read rows k (v ∷ verdicts) rest next few fit n =
    let longer : length (rows.verdicts ++ v ∷ []) ≡ length rows.verdicts + 1 = length-append rows.verdicts (v ∷ []) in
    let one = at_a_row n rows (with_verdict rows v) (line (verdict_words (k, v))) (numbered_lines (enumerate_from (k + 1) verdicts) ++ rest)
    (verdict_step rows k v next (omega (arith, next, few)) (All-head FitsVerdict v verdicts fit)) in
    let others = verdicts_are_read (with_verdict rows v) (k + 1) verdicts rest (omega (arith, next, longer)) (omega (arith, few, longer)) (All-tail FitsVerdict v verdicts fit) (n + 1) in
    let same : with_verdicts (with_verdict rows v) verdicts ≡ with_verdicts rows (v ∷ verdicts) =
    more_rows (with_verdicts (with_verdict rows v) verdicts) (with_verdicts rows (v ∷ verdicts)) refl (append_assoc rows.verdicts (v ∷ []) verdicts) in
    (others.0, one ∙ others.1 ∙ ap (λ (r : RowLists). rows_in others.0 r rest) same)

abbrev nothing : RowLists
nothing = record { events = []; verdicts = [] }

-- the lines of rows and of their counts are read to the end, as these rows
pub rows_are_read : (n : ℕ) (rows : RowLists) → FitsRows rows → IsHalf (length rows.events) → IsHalf (length rows.verdicts)
    → rows_in n nothing (rows_lines rows ++ last_line rows ∷ []) ≡ done rows
rows_are_read n rows fits few_events few_verdicts =
    let end : List (List ℕ) = last_line rows ∷ [] in
    let told : List (List ℕ) = numbered_lines (enumerate_from 1 rows.verdicts) in
    let some : RowLists = record { events = rows.events; verdicts = [] } in
    let first = events_are_read nothing rows.events (told ++ end) refl fits.events n in
    let second = verdicts_are_read some 1 rows.verdicts end refl (omega (arith, few_verdicts)) fits.verdicts first.0 in
    ap (rows_in n nothing) (append_assoc (event_lines rows.events) told end) ∙ first.1 ∙ second.1
    ∙ at_the_end second.0 rows rows (last_line rows) [] (end_step rows few_events few_verdicts)

-- ---- the first bad line

-- it is not before the lines that are read
pub bad_is_not_before : (n : ℕ) (rows : RowLists) (lines : List (List ℕ)) (k : ℕ) → rows_in n rows lines ≡ bad k → n ≤ k
unfolding rows_in
bad_is_not_before n rows [] k e = let same : n ≡ k = cc in omega arith
bad_is_not_before n rows (whole ∷ rest) k e = not_before_after (content whole >>= line_step rows) (λ after. bad_is_not_before (n + 1) after rest k) e
  where
    not_before_after : (step : Step) → ((after : RowLists) → rows_in (n + 1) after rest ≡ bad k → n + 1 ≤ k)
        → after_step step n rest (λ more. rows_in (n + 1) more rest) ≡ bad k → n ≤ k
    not_before_after None further e = let same : n ≡ k = cc in omega arith
    not_before_after (Some (after, false)) further e = let more : n + 1 ≤ k = further after e in omega arith
    not_before_after (Some (after, true)) further e = ended_not_before rest e
      where
        ended_not_before : (rest : List (List ℕ)) → ended n after rest ≡ bad k → n ≤ k
        ended_not_before [] e = absurd cc
        ended_not_before (l ∷ rest) e = let same : n + 1 ≡ k = cc in omega arith

-- and depends on no line after it
ended_alike : (n k : ℕ) (rows : RowLists) (rest other : List (List ℕ)) → take (k + 1 - (n + 1)) rest ≡ take (k + 1 - (n + 1)) other
    → ended n rows rest ≡ bad k → ended n rows other ≡ bad k
ended_alike n k rows [] other alike e = absurd cc
ended_alike n k rows (l ∷ rest) [] alike e =
    let same : n + 1 ≡ k = cc in
    let one : k + 1 - (n + 1) ≡ 1 = omega arith in
    absurd (some_is_none l rest (rw one at alike))
  where
    some_is_none : (l : List ℕ) (rest : List (List ℕ)) → take 1 (l ∷ rest) ≡ take 1 [] → ⊥
    some_is_none l rest e = cc
ended_alike n k rows (l ∷ rest) (m ∷ other) alike e = e

tail_alike : (j : ℕ) (a b : List ℕ) (rest other : List (List ℕ)) → take (suc j) (a ∷ rest) ≡ take (suc j) (b ∷ other) → (a ≡ b) × (take j rest ≡ take j other)
tail_alike j a b rest other e = (cc, cc)

alike_after : (n k : ℕ) (rest other : List (List ℕ)) (step : Step)
    → ((after : RowLists) → rows_in (n + 1) after rest ≡ bad k → rows_in (n + 1) after other ≡ bad k)
    → take (k + 1 - (n + 1)) rest ≡ take (k + 1 - (n + 1)) other
    → after_step step n rest (λ more. rows_in (n + 1) more rest) ≡ bad k → after_step step n other (λ more. rows_in (n + 1) more other) ≡ bad k
alike_after n k rest other None further alike e = e
alike_after n k rest other (Some (after, false)) further alike e = further after e
alike_after n k rest other (Some (after, true)) further alike e = ended_alike n k after rest other alike e

-- that reading stops at line k depends on no line after k
pub bad_line_is_local : (n : ℕ) (rows : RowLists) (lines others : List (List ℕ)) (k : ℕ) → take (k + 1 - n) lines ≡ take (k + 1 - n) others
    → rows_in n rows lines ≡ bad k → rows_in n rows others ≡ bad k
unfolding rows_in
bad_line_is_local n rows [] [] k alike e = e
bad_line_is_local n rows [] (m ∷ others) k alike e =
    let same : n ≡ k = cc in
    let one : k + 1 - n ≡ 1 = omega arith in
    absurd (none_is_some m others (rw one at alike))
  where
    none_is_some : (m : List ℕ) (others : List (List ℕ)) → take 1 [] ≡ take 1 (m ∷ others) → ⊥
    none_is_some m others e = cc
bad_line_is_local n rows (l ∷ lines) [] k alike e =
    let later : n ≤ k = bad_is_not_before n rows (l ∷ lines) k e in
    let more : k + 1 - n ≡ suc (k - n) = omega arith in
    absurd (some_is_none (k - n) l lines (rw more at alike))
  where
    some_is_none : (j : ℕ) (l : List ℕ) (lines : List (List ℕ)) → take (suc j) (l ∷ lines) ≡ take (suc j) [] → ⊥
    some_is_none j l lines e = cc
bad_line_is_local n rows (l ∷ lines) (m ∷ others) k alike e =
    let later : n ≤ k = bad_is_not_before n rows (l ∷ lines) k e in
    let more : k + 1 - n ≡ suc (k + 1 - (n + 1)) = omega arith in
    let parts = tail_alike (k + 1 - (n + 1)) l m lines others (rw more at alike) in
    ap (λ (x : List ℕ). after_step (content x >>= line_step rows) n others (λ more. rows_in (n + 1) more others)) (sym parts.0)
    ∙ alike_after n k lines others (content l >>= line_step rows) (λ after. bad_line_is_local (n + 1) after lines others k parts.1) parts.1 e

-- the lines before it begin the lines of some rows
pub record Begun (lines : List (List ℕ)) (shown : ℕ) : Type 0 where
  pub rows : RowLists
  pub fits : FitsRows rows
  pub few_events : IsHalf (length rows.events)
  pub few_verdicts : IsHalf (length rows.verdicts)
  pub alike : take shown (rows_lines rows ++ last_line rows ∷ []) ≡ take shown lines

abbrev FewLines : RowLists → List (List ℕ) → Type 0
FewLines rows lines = length (rows_lines rows) + length lines < 2 ^ 32

few_rows : (rows : RowLists) (lines : List (List ℕ)) → FewLines rows lines → IsHalf (length rows.events) × IsHalf (length rows.verdicts)
few_rows rows lines few =
    let both : length (rows_lines rows) ≡ length (event_lines rows.events) + length (numbered_lines (enumerate_from 1 rows.verdicts)) =
    length-append (event_lines rows.events) (numbered_lines (enumerate_from 1 rows.verdicts)) in
    let es : length (event_lines rows.events) ≡ length rows.events = length-map rows.events (λ (event : Event). line (event_words event)) in
    let vs : length (numbered_lines (enumerate_from 1 rows.verdicts)) ≡ length rows.verdicts =
    length-map (enumerate_from 1 rows.verdicts) (λ (verdict : ℕ × Verdict). line (verdict_words verdict)) ∙ length-enumerate 1 rows.verdicts in
    (omega (arith, few, both, es, vs), omega (arith, few, both, es, vs))
  where
    length-enumerate : (n : ℕ) (xs : List Verdict) → length (enumerate_from n xs) ≡ length xs
    length-enumerate n [] = refl
    length-enumerate n (x ∷ xs) = ap suc (length-enumerate (n + 1) xs)

-- at the first line that is bad
begun_here : (n k : ℕ) (rows : RowLists) (lines : List (List ℕ)) → FitsRows rows → n ≡ length (rows_lines rows) + 3 → FewLines rows lines
    → n ≡ k → Begun (rows_lines rows ++ lines) (k - 3)
begun_here n k rows lines fits place few same =
    let some = few_rows rows lines few in
    let shown : length (rows_lines rows) ≡ k - 3 = omega (arith, place, same) in
    record {
      rows = rows;
      fits = fits;
      few_events = some.0;
      few_verdicts = some.1;
      alike = take_at (rows_lines rows) (last_line rows ∷ []) (k - 3) shown ∙ sym (take_at (rows_lines rows) lines (k - 3) shown);
    }

-- behind the counts
begun_whole : (n k : ℕ) (rows after : RowLists) (whole : List ℕ) (rest : List (List ℕ)) → FitsRows rows → n ≡ length (rows_lines rows) + 3 → FewLines rows (whole ∷ rest)
    → Ends rows whole after → ended n after rest ≡ bad k → Begun (rows_lines rows ++ whole ∷ rest) (k - 3)
begun_whole n k rows after whole [] fits place few ends e = absurd cc
begun_whole n k rows after whole (l ∷ rest) fits place few ends e =
    let next : n + 1 ≡ k = cc in
    let shown : length (rows_lines rows ++ last_line rows ∷ []) ≡ k - 3 = omega (arith, place, next, length-append (rows_lines rows) (last_line rows ∷ [])) in
    let seen : rows_lines rows ++ whole ∷ l ∷ rest ≡ (rows_lines rows ++ last_line rows ∷ []) ++ l ∷ rest =
    ap (λ (w : List ℕ). rows_lines rows ++ w ∷ l ∷ rest) ends.spelled ∙ sym (append_assoc (rows_lines rows) (last_line rows ∷ []) (l ∷ rest)) in
    record {
      rows = rows;
      fits = fits;
      few_events = ends.few_events;
      few_verdicts = ends.few_verdicts;
      alike = take_all (k - 3) (rows_lines rows ++ last_line rows ∷ []) (omega (arith, shown))
          ∙ sym (ap (take (k - 3)) seen ∙ take_at (rows_lines rows ++ last_line rows ∷ []) (l ∷ rest) (k - 3) shown);
    }

begun_after : (n k : ℕ) (rows : RowLists) (whole : List ℕ) (rest : List (List ℕ)) (step : Step)
    → (content whole >>= line_step rows) ≡ step → FitsRows rows → n ≡ length (rows_lines rows) + 3 → FewLines rows (whole ∷ rest)
    → ((after : RowLists) → FitsRows after → n + 1 ≡ length (rows_lines after) + 3 → FewLines after rest
    → rows_in (n + 1) after rest ≡ bad k → Begun (rows_lines after ++ rest) (k - 3))
    → after_step step n rest (λ more. rows_in (n + 1) more rest) ≡ bad k → Begun (rows_lines rows ++ whole ∷ rest) (k - 3)
begun_after n k rows whole rest None is fits place few further e = let same : n ≡ k = cc in begun_here n k rows (whole ∷ rest) fits place few same
begun_after n k rows whole rest (Some (after, false)) is fits place few further e =
    let at = step_at rows whole (content whole) after false is in
    let adds = line_adds rows after whole at.0 at.1 fits at.2 in
    let same : rows_lines after ++ rest ≡ rows_lines rows ++ whole ∷ rest =
    ap (λ (ls : List (List ℕ)). ls ++ rest) adds.0 ∙ append_assoc (rows_lines rows) (whole ∷ []) rest in
    let longer : length (rows_lines after) ≡ length (rows_lines rows) + 1 = ap length adds.0 ∙ length-append (rows_lines rows) (whole ∷ []) in
    subst (λ (ls : List (List ℕ)). Begun ls (k - 3)) same (further after adds.1 (omega (arith, place, longer)) (omega (arith, few, longer)) e)
begun_after n k rows whole rest (Some (after, true)) is fits place few further e =
    let at = step_at rows whole (content whole) after true is in
    begun_whole n k rows after whole rest fits place few (line_ends rows after whole at.0 at.1 at.2) e

-- where reading stops at line k, the lines before it are the first of some rows with their counts
pub bad_line_is_begun : (n : ℕ) (rows : RowLists) (lines : List (List ℕ)) (k : ℕ) → FitsRows rows → n ≡ length (rows_lines rows) + 3
    → length (rows_lines rows) + length lines < 2 ^ 32 → rows_in n rows lines ≡ bad k → Begun (rows_lines rows ++ lines) (k - 3)
unfolding rows_in
bad_line_is_begun n rows [] k fits place few e = let same : n ≡ k = cc in begun_here n k rows [] fits place few same
bad_line_is_begun n rows (whole ∷ rest) k fits place few e =
    begun_after n k rows whole rest (content whole >>= line_step rows) refl fits place few
    (λ after fits_after place_after few_after more. bad_line_is_begun (n + 1) after rest k fits_after place_after few_after more) e

-- no other error comes
pub error_is_a_line : (n : ℕ) (rows : RowLists) (lines : List (List ℕ)) (error : JournalError) → rows_in n rows lines ≡ Err error → (k : ℕ) × (error ≡ journal.BadLine k)
unfolding rows_in
error_is_a_line n rows [] error e = (n, cc)
error_is_a_line n rows (whole ∷ rest) error e = line_after (content whole >>= line_step rows) (λ after. error_is_a_line (n + 1) after rest error) e
  where
    line_after : (step : Step) → ((after : RowLists) → rows_in (n + 1) after rest ≡ Err error → (k : ℕ) × (error ≡ journal.BadLine k))
        → after_step step n rest (λ more. rows_in (n + 1) more rest) ≡ Err error → (k : ℕ) × (error ≡ journal.BadLine k)
    line_after None further e = (n, cc)
    line_after (Some (after, false)) further e = further after e
    line_after (Some (after, true)) further e = ended_at rest e
      where
        ended_at : (rest : List (List ℕ)) → ended n after rest ≡ Err error → (k : ℕ) × (error ≡ journal.BadLine k)
        ended_at [] e = absurd cc
        ended_at (l ∷ rest) e = (n + 1, cc)
