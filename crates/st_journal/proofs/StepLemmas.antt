-- What a line adds to the rows so far, in the words of the format.
use Rattle.std.proofs.Common.{◌≡◌, ℕ, ◌+◌, ◌^◌, Bool, true, false, cond, eqb, List, [], ◌∷◌, ◌++◌, length, map, Option, Some, None}
use Rattle.std.proofs.Common.{refl, sym, ap, subst, ◌∙◌, append_assoc, arith, inl, inr}
use Rattle.std.specs.Prelude.{codes}
use Rattle.std.specs.Fmt.{decimal}
use Rattle.std.specs.List.{All, enumerate_from, join_with_byte}
use Rattle.std.specs.Str.{bytes_eq}
use Rattle.std.proofs.lemmas.Bool.{eqb-true, eq-eqb, true≢false, false≢true}
use Rattle.std.proofs.lemmas.List.{append-nil, map-append, nil_from_length}
use Rattle.std.proofs.lemmas.List.Elements.{All-cons, All-push}
use Rattle.st_events.specs.declared.verdicts.Plain.TheVariants as plain
use Rattle.st_events.specs.declared.verdicts.Verdict.TheVariants as verdict
use Rattle.st_journal.specs.declared.rows.Row.{Row}
use Rattle.st_journal.specs.declared.rows.Row.TheVariants as row
use Rattle.st_journal.specs.Terms.{Event, New, Load, Store, Cas, Launch, Retire, Verdict}
use Rattle.st_journal.specs.Format.{newline, line, numbered, event_words, verdict_words, FitsFields, FitsVerdict, IsHalf, IsWord}
use Rattle.st_journal.specs.Reading.{before_end, content, half, half_in, verdict_in, verdict_row_in, end_row_in, event_in, numbered_row_in, row_in}
use Rattle.st_journal.specs.Rows.{RowLists, with_event, with_verdict, put_row, line_step}
use Rattle.st_journal.specs.Words.{◌>>=◌, cut, numbers_in, words_in}
use Rattle.st_journal.proofs.EventLemmas.{step_of, below_step, below_again, choice, tested, words_same, numbers_are_written, written_are_read, event_takes}
use Rattle.st_journal.proofs.LineLemmas.{Parts, cut_gives}
use Rattle.st_journal.proofs.RowLemmas.{step_is}
use Rattle.st_journal.proofs.SplitLemmas.{IsPlain, numbered_are_plain, decimal_is_plain, words_are_found, found_words_join, content_of_line}
use Rattle.st_journal.proofs.VerdictLemmas.{half_is_written, half_is_read, parts_of, verdict_is_written, verdict_is_read, verdict_is_plain}
use Rattle.st_journal.proofs.WrittenLemmas.{half_is_word, event_is_plain, event_is_read, words2}

-- ---- the words of a row

-- the words of the line that tells a row
abbrev pub row_words : Row → List (List ℕ)
row_words (row.Event event) = event_words event
row_words (row.Verdict number verdict) = codes "V" ∷ decimal number ∷ parts_of verdict
row_words (row.End events verdicts) = numbered (codes "end") (events ∷ verdicts ∷ [])

-- each number of the row fits the type of its field
abbrev pub FitsRow : Row → Type 0
FitsRow (row.Event event) = FitsFields event
FitsRow (row.Verdict number verdict) = IsHalf number × FitsVerdict verdict
FitsRow (row.End events verdicts) = IsHalf events × IsHalf verdicts

abbrev Told : List (List ℕ) → Row → Type 0
Told words r = (words ≡ row_words r) × FitsRow r

abbrev verdict_row : ℕ → Verdict → Option Row
verdict_row number verdict = Some (row.Verdict number verdict)

abbrev end_row : ℕ → ℕ → Option Row
end_row events verdicts = Some (row.End events verdicts)

abbrev event_row : Event → Option Row
event_row event = Some (row.Event event)

verdict_row_is_written : (words : List (List ℕ)) (r : Row) → verdict_row_in words ≡ Some r → Told (codes "V" ∷ words) r
unfolding verdict_row_in
verdict_row_is_written [] r e = absurd cc
verdict_row_is_written (number ∷ words) r e =
    let a = step_of (half_in number) (λ n. verdict_in words >>= λ v. verdict_row n v) r e in
    let b = step_of (verdict_in words) (λ v. verdict_row a.0 v) r a.2 in
    let is : row.Verdict a.0 b.0 ≡ r = cc (b.2) in
    let n = half_is_written number a.0 a.1 in
    let v = verdict_is_written words b.0 b.1 in
    subst (Told (codes "V" ∷ number ∷ words)) is
    (ap (λ (k : List ℕ). codes "V" ∷ k ∷ words) n.0 ∙ ap (λ (ws : List (List ℕ)). codes "V" ∷ decimal a.0 ∷ ws) v.0, (n.1, v.1))

end_row_is_written : (numbers : List ℕ) (r : Row) → end_row_in numbers ≡ Some r → Told (numbered (codes "end") numbers) r
unfolding end_row_in
end_row_is_written (events ∷ verdicts ∷ []) r e =
    let a = below_step (2 ^ 32) events (λ n. half verdicts >>= λ v. end_row n v) r e in
    let b = below_step (2 ^ 32) verdicts (λ v. end_row events v) r a.1 in
    let is : row.End events verdicts ≡ r = cc (b.1) in
    subst (Told (numbered (codes "end") (events ∷ verdicts ∷ []))) is (refl, (a.0, b.0))
end_row_is_written _ r e = absurd cc

numbered_row_is_written : (tag : List ℕ) (numbers : List ℕ) (r : Row) → All IsWord numbers → numbered_row_in tag numbers ≡ Some r → Told (numbered tag numbers) r
unfolding numbered_row_in
numbered_row_is_written tag numbers r fit e =
    elim (choice (bytes_eq tag (codes "end")) (end_row_in numbers) (event_in tag numbers >>= event_row) r e) [
      | inl end ↦ subst (λ (t : List ℕ). Told (numbered t numbers) r) (sym (words_same tag (codes "end") end.0)) (end_row_is_written numbers r end.1)
      | inr other ↦
          let a = step_of (event_in tag numbers) event_row r other in
          let is : row.Event a.0 ≡ r = cc (a.2) in
          subst (Told (numbered tag numbers)) is (event_takes tag numbers a.0 fit a.1)
    ]

-- words that are read as a row are the words of this row, and it fits
pub row_is_written : (words : List (List ℕ)) (r : Row) → row_in words ≡ Some r → (words ≡ row_words r) × FitsRow r
unfolding row_in
row_is_written [] r e = absurd cc
row_is_written (tag ∷ words) r e =
    elim (choice (bytes_eq tag (codes "V")) (verdict_row_in words) (numbers_in words >>= numbered_row_in tag) r e) [
      | inl v ↦ subst (λ (t : List ℕ). Told (t ∷ words) r) (sym (words_same tag (codes "V") v.0)) (verdict_row_is_written words r v.1)
      | inr other ↦
          let a = step_of (numbers_in words) (numbered_row_in tag) r other in
          let w = numbers_are_written words a.0 a.1 in
          let told = numbered_row_is_written tag a.0 r w.1 a.2 in
          (ap (λ (ws : List (List ℕ)). tag ∷ ws) w.0 ∙ told.0, told.1)
    ]

-- the words of a row that fits are read as this row
pub row_is_read : (r : Row) → FitsRow r → row_in (row_words r) ≡ Some r
unfolding row_in verdict_row_in numbered_row_in end_row_in
row_is_read (row.Event event) fits = event_is_read event fits
row_is_read (row.Verdict number verdict) fits = rw (half_is_read number fits.0, verdict_is_read verdict fits.1) refl
row_is_read (row.End events verdicts) fits =
    rw (
      written_are_read (events ∷ verdicts ∷ []) (words2 events verdicts (half_is_word events fits.0) (half_is_word verdicts fits.1)),
      below_again (2 ^ 32) events fits.0,
      below_again (2 ^ 32) verdicts fits.1,
    ) refl

-- the words of a row that fits have no blank and no newline in them
pub row_is_plain : (r : Row) → FitsRow r → All IsPlain (row_words r)
row_is_plain (row.Event event) fits = event_is_plain event fits
row_is_plain (row.Verdict number verdict) fits =
    All-cons IsPlain (codes "V") (decimal number ∷ parts_of verdict) refl
    (All-cons IsPlain (decimal number) (parts_of verdict) (decimal_is_plain number (half_is_word number fits.0)) (verdict_is_plain verdict fits.1))
row_is_plain (row.End events verdicts) fits =
    numbered_are_plain (codes "end") (events ∷ verdicts ∷ []) refl (words2 events verdicts (half_is_word events fits.0) (half_is_word verdicts fits.1))

-- some words, which are found in what they make
any_words_found : (words : List (List ℕ)) → (words ≡ [] → ⊥) → All IsPlain words → words_in (join_with_byte 32 words) ≡ words
any_words_found [] some plain = absurd (some refl)
any_words_found (word ∷ words) some plain = words_are_found word words plain

event_has_words : (e : Event) → event_words e ≡ [] → ⊥
event_has_words (New m obj class) e = cc
event_has_words (Load m obj field value) e = cc
event_has_words (Store m obj field value) e = cc
event_has_words (Cas m obj field expect value done) e = cc
event_has_words (Launch m site number args) e = cc
event_has_words (Retire m number) e = cc

row_has_words : (r : Row) → row_words r ≡ [] → ⊥
row_has_words (row.Event event) e = event_has_words event e
row_has_words (row.Verdict number verdict) e = cc
row_has_words (row.End events verdicts) e = cc

-- ---- a line and its row

-- what stands before the end of a line makes the line
ends : (parts : Parts) (text : List ℕ) → before_end parts ≡ Some text → (parts.0 ≡ text) × (parts.1 ≡ [])
ends (first, []) text e = (cc, refl)
ends (first, b ∷ rest) text e = absurd cc

-- a line with an end is what stands before the end, and a newline
pub content_makes_the_line : (whole text : List ℕ) → content whole ≡ Some text → whole ≡ text ++ newline ∷ []
unfolding content
content_makes_the_line whole text e =
    let a = step_of (cut newline whole) before_end text e in
    let p = ends a.0 text a.2 in
    (cut_gives newline whole a.0.0 a.0.1 a.1).parts ∙ ap (λ (f : List ℕ). f ++ newline ∷ a.0.1) p.0 ∙ ap (λ (r : List ℕ). text ++ newline ∷ r) p.1

-- a line that is read as a row is the line that the words of this row make
pub row_makes_the_line : (whole text : List ℕ) (r : Row) → content whole ≡ Some text → row_in (words_in text) ≡ Some r → (whole ≡ line (row_words r)) × FitsRow r
row_makes_the_line whole text r is reads =
    let told = row_is_written (words_in text) r reads in
    (content_makes_the_line whole text is ∙ ap (λ (t : List ℕ). t ++ newline ∷ []) (sym (found_words_join text) ∙ ap (join_with_byte 32) told.0), told.1)

-- the line of a row that fits has an end, and the words before it are read as this row
pub row_is_found : (r : Row) → FitsRow r → (content (line (row_words r)) ≡ Some (join_with_byte 32 (row_words r))) × (row_in (words_in (join_with_byte 32 (row_words r))) ≡ Some r)
row_is_found r fits =
    let plain = row_is_plain r fits in
    (content_of_line (row_words r) plain, ap row_in (any_words_found (row_words r) (row_has_words r) plain) ∙ row_is_read r fits)

-- the words of a verdict with its number, and those without blanks, make one line
pub verdict_line_is : (number : ℕ) (v : Verdict) → line (row_words (row.Verdict number v)) ≡ line (verdict_words (number, v))
verdict_line_is number (verdict.Plain plain.Holds) = refl
verdict_line_is number (verdict.Plain plain.Fails) = refl
verdict_line_is number (verdict.Plain (plain.Null place)) = refl
verdict_line_is number (verdict.Plain (plain.Divide place)) = refl
verdict_line_is number (verdict.Plain (plain.Overflow place)) = refl
verdict_line_is number (verdict.Plain plain.Spent) = refl
verdict_line_is number (verdict.Plain plain.Deep) = refl
verdict_line_is number (verdict.Abandoned obj) = refl

-- ---- the lines of the rows so far

-- the lines of events
abbrev pub event_lines : List Event → List (List ℕ)
event_lines events = map (λ event. line (event_words event)) events

-- the lines of verdicts that have their numbers
abbrev pub numbered_lines : List (ℕ × Verdict) → List (List ℕ)
numbered_lines verdicts = map (λ verdict. line (verdict_words verdict)) verdicts

-- the lines of the rows so far: those of the events, then those of the verdicts with numbers from 1
abbrev pub rows_lines : RowLists → List (List ℕ)
rows_lines rows = event_lines rows.events ++ numbered_lines (enumerate_from 1 rows.verdicts)

-- the line that tells how many events and verdicts these rows have
abbrev pub last_line : RowLists → List ℕ
last_line rows = line (numbered (codes "end") (length rows.events ∷ length rows.verdicts ∷ []))

-- each number of these events and verdicts fits the type of its field
pub record FitsRows (rows : RowLists) : Type 0 where
  pub events : All FitsFields rows.events
  pub verdicts : All FitsVerdict rows.verdicts

-- one more has the next number
pub next_number : {X : Type 0} (n : ℕ) (xs : List X) (x : X) → enumerate_from n (xs ++ x ∷ []) ≡ enumerate_from n xs ++ (length xs + n, x) ∷ []
next_number n [] x = let e : n ≡ 0 + n = omega arith in ap (λ k. (k, x) ∷ []) e
next_number n (y ∷ ys) x =
    let e : length ys + (n + 1) ≡ length (y ∷ ys) + n = omega arith in
    ap (λ zs. (n, y) ∷ zs) (next_number (n + 1) ys x ∙ ap (λ k. enumerate_from (n + 1) ys ++ (k, x) ∷ []) e)

event_adds_its_line : (rows : RowLists) (e : Event) → rows.verdicts ≡ [] → rows_lines (with_event rows e) ≡ rows_lines rows ++ line (event_words e) ∷ []
event_adds_its_line rows e none =
    let bare : (es : List Event) → event_lines es ++ numbered_lines (enumerate_from 1 rows.verdicts) ≡ event_lines es =
    λ es. ap (λ (vs : List Verdict). event_lines es ++ numbered_lines (enumerate_from 1 vs)) none ∙ append-nil (event_lines es) in
    bare (rows.events ++ e ∷ []) ∙ map-append (λ (event : Event). line (event_words event)) rows.events (e ∷ [])
    ∙ ap (λ (ls : List (List ℕ)). ls ++ line (event_words e) ∷ []) (sym (bare rows.events))

verdict_adds_its_line : (rows : RowLists) (v : Verdict) → rows_lines (with_verdict rows v) ≡ rows_lines rows ++ line (verdict_words (length rows.verdicts + 1, v)) ∷ []
verdict_adds_its_line rows v =
    ap (λ (vs : List (ℕ × Verdict)). event_lines rows.events ++ numbered_lines vs) (next_number 1 rows.verdicts v)
    ∙ ap (λ (ls : List (List ℕ)). event_lines rows.events ++ ls)
    (map-append (λ (verdict : ℕ × Verdict). line (verdict_words verdict)) (enumerate_from 1 rows.verdicts) ((length rows.verdicts + 1, v) ∷ []))
    ∙ sym (append_assoc (event_lines rows.events) (numbered_lines (enumerate_from 1 rows.verdicts)) (line (verdict_words (length rows.verdicts + 1, v)) ∷ []))

-- what a line that is no last one adds
abbrev Adds : RowLists → List ℕ → RowLists → Type 0
Adds rows whole after = (rows_lines after ≡ rows_lines rows ++ whole ∷ []) × FitsRows after

abbrev pair : RowLists → Bool → RowLists × Bool
pair rows is_last = (rows, is_last)

same_pair : (a b : RowLists) (s t : Bool) → step_is a s ≡ step_is b t → (a ≡ b) × (s ≡ t)
same_pair a b s t e =
    let p : pair a s ≡ pair b t = cc in
    (ap (λ (x : RowLists × Bool). x.0) p, ap (λ (x : RowLists × Bool). x.1) p)

row_adds : (rows after : RowLists) (r : Row) → FitsRow r → FitsRows rows → put_row rows r ≡ step_is after false → Adds rows (line (row_words r)) after
unfolding put_row
row_adds rows after (row.Event e) fits so_far put =
    let t = tested (eqb (length rows.verdicts) 0) (step_is (with_event rows e) false) (pair after false) put in
    let is = same_pair (with_event rows e) after false false t.1 in
    let none : rows.verdicts ≡ [] = nil_from_length rows.verdicts (eqb-true (length rows.verdicts) 0 t.0) in
    subst (λ (x : RowLists). (rows_lines x ≡ rows_lines rows ++ line (event_words e) ∷ []) × FitsRows x) is.0
    (event_adds_its_line rows e none, record { events = All-push FitsFields rows.events e so_far.events fits; verdicts = so_far.verdicts })
row_adds rows after (row.Verdict number v) fits so_far put =
    let t = tested (eqb number (length rows.verdicts + 1)) (step_is (with_verdict rows v) false) (pair after false) put in
    let is = same_pair (with_verdict rows v) after false false t.1 in
    let next : number ≡ length rows.verdicts + 1 = eqb-true number (length rows.verdicts + 1) t.0 in
    let spelled : line (row_words (row.Verdict number v)) ≡ line (verdict_words (length rows.verdicts + 1, v)) =
    verdict_line_is number v ∙ ap (λ (n : ℕ). line (verdict_words (n, v))) next in
    subst (λ (x : RowLists). (rows_lines x ≡ rows_lines rows ++ line (row_words (row.Verdict number v)) ∷ []) × FitsRows x) is.0 (
      verdict_adds_its_line rows v ∙ ap (λ (l : List ℕ). rows_lines rows ++ l ∷ []) (sym spelled),
      record { events = so_far.events; verdicts = All-push FitsVerdict rows.verdicts v so_far.verdicts fits.1 },
    )
row_adds rows after (row.End events verdicts) fits so_far put =
    let t = tested (eqb events (length rows.events)) (cond (eqb verdicts (length rows.verdicts)) (step_is rows true) None) (pair after false) put in
    let u = tested (eqb verdicts (length rows.verdicts)) (step_is rows true) (pair after false) t.1 in
    let is = same_pair rows after true false u.1 in absurd (true≢false is.1)

-- a line that is taken and is not the last is the one that stands behind the lines so far
pub line_adds : (rows after : RowLists) (whole text : List ℕ) → content whole ≡ Some text → FitsRows rows → line_step rows text ≡ step_is after false
    → (rows_lines after ≡ rows_lines rows ++ whole ∷ []) × FitsRows after
unfolding line_step
line_adds rows after whole text is so_far step =
    let a = step_of (row_in (words_in text)) (put_row rows) (pair after false) step in
    let made = row_makes_the_line whole text a.0 is a.1 in
    let adds : Adds rows (line (row_words a.0)) after = row_adds rows after a.0 made.1 so_far a.2 in
    (adds.0 ∙ ap (λ (l : List ℕ). rows_lines rows ++ l ∷ []) (sym made.0), adds.1)

-- what the last line tells
pub record Ends (rows : RowLists) (whole : List ℕ) (after : RowLists) : Type 0 where
  pub same : rows ≡ after
  pub spelled : whole ≡ last_line rows
  pub few_events : IsHalf (length rows.events)
  pub few_verdicts : IsHalf (length rows.verdicts)

row_ends : (rows after : RowLists) (r : Row) → FitsRow r → put_row rows r ≡ step_is after true → Ends rows (line (row_words r)) after
unfolding put_row
row_ends rows after (row.Event e) fits put =
    let t = tested (eqb (length rows.verdicts) 0) (step_is (with_event rows e) false) (pair after true) put in
    let is = same_pair (with_event rows e) after false true t.1 in absurd (false≢true is.1)
row_ends rows after (row.Verdict number v) fits put =
    let t = tested (eqb number (length rows.verdicts + 1)) (step_is (with_verdict rows v) false) (pair after true) put in
    let is = same_pair (with_verdict rows v) after false true t.1 in absurd (false≢true is.1)
row_ends rows after (row.End events verdicts) fits put =
    let t = tested (eqb events (length rows.events)) (cond (eqb verdicts (length rows.verdicts)) (step_is rows true) None) (pair after true) put in
    let u = tested (eqb verdicts (length rows.verdicts)) (step_is rows true) (pair after true) t.1 in
    let is = same_pair rows after true true u.1 in
    let all : events ≡ length rows.events = eqb-true events (length rows.events) t.0 in
    let each : verdicts ≡ length rows.verdicts = eqb-true verdicts (length rows.verdicts) u.0 in
    record {
      same = is.0;
      spelled = ap (λ (n : ℕ). line (numbered (codes "end") (n ∷ verdicts ∷ []))) all ∙ ap (λ (n : ℕ). line (numbered (codes "end") (length rows.events ∷ n ∷ []))) each;
      few_events = subst IsHalf all fits.0;
      few_verdicts = subst IsHalf each fits.1;
    }

-- a line that is taken as the last tells the counts of the rows so far, which stay as they are
pub line_ends : (rows after : RowLists) (whole text : List ℕ) → content whole ≡ Some text → line_step rows text ≡ step_is after true → Ends rows whole after
unfolding line_step
line_ends rows after whole text is step =
    let a = step_of (row_in (words_in text)) (put_row rows) (pair after true) step in
    let made = row_makes_the_line whole text a.0 is a.1 in
    let ends = row_ends rows after a.0 made.1 a.2 in
    record { same = ends.same; spelled = made.0 ∙ ends.spelled; few_events = ends.few_events; few_verdicts = ends.few_verdicts }

-- ---- the step at a line of the format

-- before the first verdict the line of an event is taken, and adds this event
pub event_step : (rows : RowLists) (e : Event) → rows.verdicts ≡ [] → FitsFields e → (content (line (event_words e)) >>= line_step rows) ≡ step_is (with_event rows e) false
unfolding line_step put_row
event_step rows e none fits =
    let found = row_is_found (row.Event e) fits in
    rw (found.0, found.1, none) refl

-- the line of a verdict with the next number is taken, and adds this verdict
pub verdict_step : (rows : RowLists) (n : ℕ) (v : Verdict) → n ≡ length rows.verdicts + 1 → IsHalf n → FitsVerdict v
    → (content (line (verdict_words (n, v))) >>= line_step rows) ≡ step_is (with_verdict rows v) false
unfolding line_step put_row
verdict_step rows n v next few fits =
    let found = row_is_found (row.Verdict n v) (few, fits) in
    let same : eqb n (length rows.verdicts + 1) ≡ true = eq-eqb n (length rows.verdicts + 1) next in
    ap (λ (l : List ℕ). content l >>= line_step rows) (sym (verdict_line_is n v)) ∙ rw (found.0, found.1, same) refl

-- the line with the counts of the rows so far is taken as the last
pub end_step : (rows : RowLists) → IsHalf (length rows.events) → IsHalf (length rows.verdicts) → (content (last_line rows) >>= line_step rows) ≡ step_is rows true
unfolding line_step put_row
end_step rows few_events few_verdicts =
    let found = row_is_found (row.End (length rows.events) (length rows.verdicts)) (few_events, few_verdicts) in
    rw (found.0, found.1, eq-eqb (length rows.events) (length rows.events) refl, eq-eqb (length rows.verdicts) (length rows.verdicts) refl) refl
