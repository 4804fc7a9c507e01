-- Reading a file from its lines: what is read is of the format, what is of the format is read, and the first bad line is the first.
use Rattle.std.proofs.Common.{◌≡◌, ℕ, ◌+◌, ◌-◌, ◌⊎◌, take, map, List, [], ◌∷◌, ◌++◌, Option, Some, None, Result, Ok, Err}
use Rattle.std.proofs.Common.{refl, sym, ap, subst, ◌∙◌, append_assoc, arith, inl, inr}
use Rattle.std.specs.Prelude.{codes}
use Rattle.std.specs.Fmt.{decimal}
use Rattle.std.specs.List.{enumerate_from, join_with_byte}
use Rattle.std.proofs.lemmas.List.Elements.{All-nil}
use Rattle.st_journal.specs.declared.errors.JournalError.{JournalError}
use Rattle.st_journal.specs.declared.errors.JournalError.TheVariants as journal
use Rattle.st_journal.specs.declared.reading.TheConstants.{VERSION_LINE, SIZES_LINE, FIRST_ROW}
use Rattle.st_journal.specs.declared.versions.TheConstants.{VERSION}
use Rattle.st_journal.specs.Terms.{Sizes, AreWithinLimits}
use Rattle.st_journal.specs.Format.{FileLists, IsFile, FitsFields, FitsVerdict, newline, line, event_words, verdict_words, version_words, sizes_words, file_lines}
use Rattle.st_journal.specs.Reading.{content, line_or_bad, sizes_in}
use Rattle.st_journal.specs.Rows.{◌>=>◌, RowLists, no_rows, rows_in, version_in, told_at, file_of, file_with, sized_file, file_in}
use Rattle.st_journal.specs.Words.{words_in}
use Rattle.st_journal.proofs.HeadLemmas.{first_line_of, first_line_is, known_version_is, version_is_known, version_is_plain}
use Rattle.st_journal.proofs.HeadLemmas.{sizes_are_written, sizes_are_read, sizes_are_plain}
use Rattle.st_journal.proofs.RowLemmas.{First}
use Rattle.st_journal.proofs.RowsTheorems.{rows_are_spelled, rows_are_read, bad_line_is_local}
use Rattle.st_journal.proofs.SplitLemmas.{words_are_found, found_words_join, content_of_line}
use Rattle.st_journal.proofs.StepLemmas.{content_makes_the_line, rows_lines, last_line, FitsRows}

abbrev Read : Type 0
Read = Result FileLists JournalError

-- reading has come to the end, with this file
abbrev pub done : FileLists → Read
done file = Ok file

-- reading has stopped, with this error
abbrev pub fails : JournalError → Read
fails error = Err error

-- ---- one step after another

ok_step : {A B : Type 0} (r : Result A JournalError) (f : A → Result B JournalError) (y : B) → (r >=> f) ≡ Ok y → (x : A) × (r ≡ Ok x) × (f x ≡ Ok y)
ok_step (Ok x) f y e = (x, refl, e)
ok_step (Err error) f y e = absurd cc

-- an error of two steps is the error of the first, or the first went well and it is the error of the second
pub error_step : {A B : Type 0} (r : Result A JournalError) (f : A → Result B JournalError) (error : JournalError) → (r >=> f) ≡ Err error
    → (r ≡ Err error) ⊎ ((x : A) × (r ≡ Ok x) × (f x ≡ Err error))
error_step (Ok x) f error e = inr (x, refl, e)
error_step (Err other) f error e = let same : other ≡ error = cc in inl (ap (λ (x : JournalError). Err x) same)

-- a line that is taken told something
pub told_some : {X : Type 0} (n : ℕ) (found : Option X) (x : X) → told_at n found ≡ Ok x → found ≡ Some x
told_some n None x e = absurd cc
told_some n (Some y) x e = let same : y ≡ x = cc in ap Some same

-- the one error at a line that tells nothing is that this line is bad
pub told_error : {X : Type 0} (n : ℕ) (found : Option X) (error : JournalError) → told_at n found ≡ Err error → error ≡ journal.BadLine n
told_error n None error e = cc
told_error n (Some y) error e = absurd cc

-- ---- what is read is of the format

-- the lines of a file, by its rows
pub lines_by_rows : (z : Sizes) (rows : RowLists) → file_lines (file_of z rows) ≡ line (version_words VERSION) ∷ line (sizes_words z) ∷ (rows_lines rows ++ last_line rows ∷ [])
unfolding file_lines
lines_by_rows z rows =
    ap (λ (ls : List (List ℕ)). line (version_words VERSION) ∷ line (sizes_words z) ∷ ls)
    (sym (append_assoc (map (λ event. line (event_words event)) rows.events) (map (λ verdict. line (verdict_words verdict)) (enumerate_from 1 rows.verdicts)) (last_line rows ∷ [])))

-- a line in which words are found is the line that these words make
pub words_make_the_line : (whole text : List ℕ) (words : List (List ℕ)) → content whole ≡ Some text → words_in text ≡ words → whole ≡ line words
words_make_the_line whole text words is found =
    content_makes_the_line whole text is ∙ ap (λ (t : List ℕ). t ++ newline ∷ []) (sym (found_words_join text) ∙ ap (join_with_byte 32) found)

-- before the first event and verdict there is nothing that could not fit
pub no_rows_fit : FitsRows no_rows
no_rows_fit = record { events = All-nil FitsFields; verdicts = All-nil FitsVerdict }

-- these are the lines of this file, and it has a text
abbrev pub OfFormat : List (List ℕ) → FileLists → Type 0
OfFormat lines file = IsFile file × (lines ≡ file_lines file)

-- lines that are read to the end as a file are the lines of this file
pub read_is_of_the_format : (lines : List (List ℕ)) (file : FileLists) → file_in lines ≡ done file → OfFormat lines file
unfolding file_in
read_is_of_the_format lines file e =
    let a = ok_step (line_or_bad VERSION_LINE lines) (λ (first : First). version_in (words_in first.0) >=> λ known. sized_file first.1) file e in
    let b = ok_step (version_in (words_in a.0.0)) (λ known. sized_file a.0.1) file a.2 in
    let c = ok_step (line_or_bad SIZES_LINE a.0.1) (λ (second : First). told_at SIZES_LINE (sizes_in (words_in second.0)) >=> λ sizes. file_with sizes second.1) file b.2 in
    let d = ok_step (told_at SIZES_LINE (sizes_in (words_in c.0.0))) (λ (sizes : Sizes). file_with sizes c.0.1) file c.2 in
    let r = ok_step (rows_in FIRST_ROW no_rows c.0.1) (λ (rows : RowLists). done (file_of d.0 rows)) file d.2 in
    let first = first_line_of VERSION_LINE lines a.0.0 a.0.1 a.1 in
    let second = first_line_of SIZES_LINE a.0.1 c.0.0 c.0.1 c.1 in
    let version : first.0 ≡ line (version_words VERSION) = words_make_the_line first.0 a.0.0 (version_words VERSION) first.2 (known_version_is (words_in a.0.0) b.1) in
    let sizes = sizes_are_written (words_in c.0.0) d.0 (told_some SIZES_LINE (sizes_in (words_in c.0.0)) d.0 d.1) in
    let sized : second.0 ≡ line (sizes_words d.0) = words_make_the_line second.0 c.0.0 (sizes_words d.0) second.2 sizes.0 in
    let rows = rows_are_spelled FIRST_ROW no_rows r.0 c.0.1 no_rows_fit r.1 in
    let is : file_of d.0 r.0 ≡ file = cc (r.2) in
    subst (OfFormat lines) is (
      record { sizes = sizes.1; events = rows.fits.events; verdicts = rows.fits.verdicts; few_events = rows.few_events; few_verdicts = rows.few_verdicts },
      first.1 ∙ ap (λ (ls : List (List ℕ)). first.0 ∷ ls) (second.1 ∙ ap (λ (ls : List (List ℕ)). second.0 ∷ ls) rows.lines)
          ∙ ap (λ (l : List ℕ). l ∷ second.0 ∷ (rows_lines r.0 ++ last_line r.0 ∷ [])) version
          ∙ ap (λ (l : List ℕ). line (version_words VERSION) ∷ l ∷ (rows_lines r.0 ++ last_line r.0 ∷ [])) sized
          ∙ sym (lines_by_rows d.0 r.0),
    )

-- ---- what is of the format is read

rows_of : FileLists → RowLists
rows_of file = record { events = file.events; verdicts = file.verdicts }

version_is_read : (rest : List (List ℕ)) → file_in (line (version_words VERSION) ∷ rest) ≡ sized_file rest
unfolding file_in
version_is_read rest =
    rw (
      first_line_is VERSION_LINE (line (version_words VERSION)) (join_with_byte 32 (version_words VERSION)) rest (content_of_line (version_words VERSION) version_is_plain),
      words_are_found (codes "strobe") (codes "journal" ∷ decimal VERSION ∷ []) version_is_plain,
      version_is_known,
    ) refl

sizes_line_is_read : (z : Sizes) (rest : List (List ℕ)) → AreWithinLimits z → sized_file (line (sizes_words z) ∷ rest) ≡ file_with z rest
sizes_line_is_read z rest fits =
    let plain = sizes_are_plain z fits in
    rw (
      first_line_is SIZES_LINE (line (sizes_words z)) (join_with_byte 32 (sizes_words z)) rest (content_of_line (sizes_words z) plain),
      words_are_found (codes "sizes") (map decimal (z.mutators ∷ z.lanes ∷ z.objects ∷ z.copies ∷ z.events ∷ z.calls ∷ [])) plain,
      sizes_are_read z fits,
    ) refl

-- the lines of a file that has a text are read to the end, as this file
pub the_format_is_read : (file : FileLists) → IsFile file → file_in (file_lines file) ≡ done file
the_format_is_read file is =
    let rows : RowLists = record { events = file.events; verdicts = file.verdicts } in
    ap file_in (lines_by_rows file.sizes rows)
    ∙ version_is_read (line (sizes_words file.sizes) ∷ (rows_lines rows ++ last_line rows ∷ []))
    ∙ sizes_line_is_read file.sizes (rows_lines rows ++ last_line rows ∷ []) is.sizes
    ∙ ap (λ (r : Result RowLists JournalError). r >=> λ rows. done (file_of file.sizes rows))
    (rows_are_read FIRST_ROW rows (record { events = is.events; verdicts = is.verdicts }) is.few_events is.few_verdicts)

-- ---- the first bad line depends on no line after it

-- after the first two lines, too: that line k is bad depends on no line after it
pub with_alike : (z : Sizes) (lines others : List (List ℕ)) (k : ℕ) → take (k - 2) lines ≡ take (k - 2) others
    → file_with z lines ≡ fails (journal.BadLine k) → file_with z others ≡ fails (journal.BadLine k)
with_alike z lines others k alike e = elim (error_step (rows_in FIRST_ROW no_rows lines) (λ (rows : RowLists). done (file_of z rows)) (journal.BadLine k) e) [
  | inl bad ↦
      let there : k - 2 ≡ k + 1 - 3 = omega arith in
      let same = bad_line_is_local FIRST_ROW no_rows lines others k (rw there at alike) bad in
      ap (λ (r : Result RowLists JournalError). r >=> λ rows. done (file_of z rows)) same
  | inr ok ↦ absurd (ok_is_no_error z ok.0 k ok.2)
]
  where
    ok_is_no_error : (z : Sizes) (rows : RowLists) (k : ℕ) → done (file_of z rows) ≡ fails (journal.BadLine k) → ⊥
    ok_is_no_error z rows k e = cc

-- a bad line after the second is one that the reading of rows stops at
pub bad_of_with : (z : Sizes) (lines : List (List ℕ)) (k : ℕ) → file_with z lines ≡ fails (journal.BadLine k) → rows_in FIRST_ROW no_rows lines ≡ Err (journal.BadLine k)
bad_of_with z lines k e = elim (error_step (rows_in FIRST_ROW no_rows lines) (λ (rows : RowLists). done (file_of z rows)) (journal.BadLine k) e) [
  | inl bad ↦ bad
  | inr ok ↦ absurd (ok_is_no_error z ok.0 k ok.2)
]
  where
    ok_is_no_error : (z : Sizes) (rows : RowLists) (k : ℕ) → done (file_of z rows) ≡ fails (journal.BadLine k) → ⊥
    ok_is_no_error z rows k e = cc
