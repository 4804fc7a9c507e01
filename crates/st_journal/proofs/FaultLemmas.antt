-- The first line that is not of the format: no line after it matters, and the lines before it begin some file.
use Rattle.std.proofs.Common.{◌≡◌, ℕ, suc, ◌-◌, ◌^◌, ◌<◌, ◌≤◌, true, take, List, [], ◌∷◌, length, Some, Result, Ok, Err}
use Rattle.std.proofs.Common.{refl, ap, subst, ◌∙◌, arith, inl, inr}
use Rattle.std.specs.Prelude.{codes}
use Rattle.std.specs.Fmt.{decimal}
use Rattle.std.specs.List.{join_with_byte}
use Rattle.std.proofs.lemmas.List.Elements.{All-nil}
use Rattle.st_journal.specs.declared.errors.JournalError.{JournalError}
use Rattle.st_journal.specs.declared.errors.JournalError.TheVariants as journal
use Rattle.st_journal.specs.declared.reading.TheConstants.{VERSION_LINE, SIZES_LINE, FIRST_ROW}
use Rattle.st_journal.specs.declared.versions.TheConstants.{VERSION}
use Rattle.st_journal.specs.Terms.{Sizes, AreWithinLimits}
use Rattle.st_journal.specs.Format.{FileLists, IsFile, FitsFields, FitsVerdict, line, version_words, sizes_words, file_lines}
use Rattle.st_journal.specs.Reading.{line_or_bad, sizes_in}
use Rattle.st_journal.specs.Rows.{◌>=>◌, RowLists, no_rows, rows_in, version_in, told_at, file_of, file_with, sized_file, file_in}
use Rattle.st_journal.specs.Words.{is_number, words_in}
use Rattle.st_journal.proofs.FileLemmas.{done, fails, error_step, told_some, told_error, lines_by_rows, words_make_the_line, no_rows_fit, with_alike, bad_of_with}
use Rattle.st_journal.proofs.HeadLemmas.{first_line_of, first_line_is, first_lines_alike, first_error, errors_alike, known_version_is}
use Rattle.st_journal.proofs.HeadLemmas.{other_version_is, version_is_other, version_error, other_is_plain, sizes_are_written}
use Rattle.st_journal.proofs.RowLemmas.{First, first_is}
use Rattle.st_journal.proofs.RowsTheorems.{bad_is_not_before, bad_line_is_begun, error_is_a_line}
use Rattle.st_journal.proofs.SplitLemmas.{words_are_found, content_of_line}

abbrev bad : ℕ → JournalError
bad k = journal.BadLine k

line_number : (j k : ℕ) → bad j ≡ bad k → j ≡ k
line_number j k e = cc

-- ---- no line after it matters

abbrev after_second : First → Result FileLists JournalError
after_second second = told_at SIZES_LINE (sizes_in (words_in second.0)) >=> λ sizes. file_with sizes second.1

sized_alike : (lines others : List (List ℕ)) (k : ℕ) → take (k - 1) lines ≡ take (k - 1) others → sized_file lines ≡ fails (bad k) → sized_file others ≡ fails (bad k)
sized_alike lines others k alike e = elim (error_step (line_or_bad SIZES_LINE lines) after_second (bad k) e) [
  | inl none ↦
      let two : k ≡ 2 = line_number k 2 (first_error SIZES_LINE lines (bad k) none) in
      let one : k - 1 ≡ 1 = omega arith in
      let same = errors_alike SIZES_LINE 0 lines others (bad k) (rw one at alike) none in
      rw same refl
  | inr second ↦ elim (error_step (told_at SIZES_LINE (sizes_in (words_in second.0.0))) (λ (sizes : Sizes). file_with sizes second.0.1) (bad k) second.2) [
    | inl untold ↦
        let two : k ≡ 2 = line_number k 2 (told_error SIZES_LINE (sizes_in (words_in second.0.0)) (bad k) untold) in
        let one : k - 1 ≡ 1 = omega arith in
        let more = first_lines_alike SIZES_LINE 0 lines others second.0.0 second.0.1 (rw one at alike) second.1 in
        rw (more.1, untold) refl
    | inr sizes ↦
        let later : 3 ≤ k = bad_is_not_before FIRST_ROW no_rows second.0.1 k (bad_of_with sizes.0 second.0.1 k sizes.2) in
        let next : k - 1 ≡ suc (k - 2) = omega arith in
        let more = first_lines_alike SIZES_LINE (k - 2) lines others second.0.0 second.0.1 (rw next at alike) second.1 in
        rw (more.1, sizes.1) (with_alike sizes.0 second.0.1 more.0 k more.2 sizes.2)
  ]
]

sized_not_before : (lines : List (List ℕ)) (k : ℕ) → sized_file lines ≡ fails (bad k) → 2 ≤ k
sized_not_before lines k e = elim (error_step (line_or_bad SIZES_LINE lines) after_second (bad k) e) [
  | inl none ↦ let two : k ≡ 2 = line_number k 2 (first_error SIZES_LINE lines (bad k) none) in omega arith
  | inr second ↦ elim (error_step (told_at SIZES_LINE (sizes_in (words_in second.0.0))) (λ (sizes : Sizes). file_with sizes second.0.1) (bad k) second.2) [
    | inl untold ↦ let two : k ≡ 2 = line_number k 2 (told_error SIZES_LINE (sizes_in (words_in second.0.0)) (bad k) untold) in omega arith
    | inr sizes ↦
        let later : 3 ≤ k = bad_is_not_before FIRST_ROW no_rows second.0.1 k (bad_of_with sizes.0 second.0.1 k sizes.2) in omega arith
  ]
]

version_bad : (words : List (List ℕ)) (k : ℕ) → version_in words ≡ Err (bad k) → k ≡ 1
version_bad words k e = elim (version_error words (bad k) e) [
  | inl one ↦ line_number k 1 one
  | inr other ↦ absurd (apart k other)
]
  where
    apart : (k : ℕ) → bad k ≡ journal.BadVersion → ⊥
    apart k e = cc

-- whether reading stops as bad at line k depends on the first k lines alone
pub file_alike : (lines others : List (List ℕ)) (k : ℕ) → take k lines ≡ take k others → file_in lines ≡ fails (bad k) → file_in others ≡ fails (bad k)
unfolding file_in
file_alike lines others k alike e = elim (error_step (line_or_bad VERSION_LINE lines) (λ (first : First). version_in (words_in first.0) >=> λ known. sized_file first.1) (bad k) e) [
  | inl none ↦
      let one : k ≡ 1 = line_number k 1 (first_error VERSION_LINE lines (bad k) none) in
      let same = errors_alike VERSION_LINE 0 lines others (bad k) (rw one at alike) none in
      rw same refl
  | inr first ↦ elim (error_step (version_in (words_in first.0.0)) (λ known. sized_file first.0.1) (bad k) first.2) [
    | inl wrong ↦
        let one : k ≡ 1 = version_bad (words_in first.0.0) k wrong in
        let more = first_lines_alike VERSION_LINE 0 lines others first.0.0 first.0.1 (rw one at alike) first.1 in
        rw (more.1, wrong) refl
    | inr known ↦
        let later : 2 ≤ k = sized_not_before first.0.1 k known.2 in
        let next : k ≡ suc (k - 1) = omega arith in
        let more = first_lines_alike VERSION_LINE (k - 1) lines others first.0.0 first.0.1 (subst (λ (n : ℕ). take n lines ≡ take n others) next alike) first.1 in
        rw (more.1, known.1) (sized_alike first.0.1 more.0 k more.2 known.2)
  ]
]

-- ---- the lines before it begin some file

abbrev least_sizes : Sizes
least_sizes = record { mutators = 0; lanes = 1; objects = 1; copies = 0; events = 1; calls = 0 }

abbrev least_file : FileLists
least_file = file_of least_sizes no_rows

least_is_file : IsFile least_file
least_is_file = record {
  sizes = record { mutators = omega arith; lanes = (omega arith, omega arith); objects = (omega arith, omega arith); copies = omega arith; events = (omega arith, omega arith); calls = omega arith };
  events = All-nil FitsFields;
  verdicts = All-nil FitsVerdict;
  few_events = omega arith;
  few_verdicts = omega arith;
}

-- some file of the format has the same first lines as these, as many as are shown
pub record BeginsFile (lines : List (List ℕ)) (shown : ℕ) : Type 0 where
  pub file : FileLists
  pub is : IsFile file
  pub alike : take shown (file_lines file) ≡ take shown lines

begins_nothing : (lines : List (List ℕ)) (k : ℕ) → k ≡ 1 → BeginsFile lines (k - 1)
begins_nothing lines k one =
    let none : k - 1 ≡ 0 = omega arith in
    record { file = least_file; is = least_is_file; alike = rw none refl }

-- the first line is right
begins_version : (lines rest : List (List ℕ)) (k : ℕ) → lines ≡ line (version_words VERSION) ∷ rest → k ≡ 2 → BeginsFile lines (k - 1)
begins_version lines rest k is two =
    let one : k - 1 ≡ 1 = omega arith in
    record { file = least_file; is = least_is_file; alike = rw (one, lines_by_rows least_sizes no_rows, is) refl }

first_is_version : (lines : List (List ℕ)) (text : List ℕ) (rest : List (List ℕ)) → line_or_bad VERSION_LINE lines ≡ first_is text rest → version_in (words_in text) ≡ Ok tt
    → lines ≡ line (version_words VERSION) ∷ rest
first_is_version lines text rest first known =
    let one = first_line_of VERSION_LINE lines text rest first in
    one.1 ∙ ap (λ (l : List ℕ). l ∷ rest) (words_make_the_line one.0 text (version_words VERSION) one.2 (known_version_is (words_in text) known))

second_is_sizes : (lines : List (List ℕ)) (text : List ℕ) (rest : List (List ℕ)) (z : Sizes) → line_or_bad SIZES_LINE lines ≡ first_is text rest → sizes_in (words_in text) ≡ Some z
    → lines ≡ line (sizes_words z) ∷ rest
second_is_sizes lines text rest z second told =
    let one = first_line_of SIZES_LINE lines text rest second in
    one.1 ∙ ap (λ (l : List ℕ). l ∷ rest) (words_make_the_line one.0 text (sizes_words z) one.2 ((sizes_are_written (words_in text) z told).0))

-- and the second
begins_rows : (lines rest : List (List ℕ)) (z : Sizes) (k : ℕ) → AreWithinLimits z → lines ≡ line (version_words VERSION) ∷ line (sizes_words z) ∷ rest → length rest < 2 ^ 32
    → rows_in FIRST_ROW no_rows rest ≡ Err (bad k) → BeginsFile lines (k - 1)
begins_rows lines rest z k fits is few e =
    let later : 3 ≤ k = bad_is_not_before FIRST_ROW no_rows rest k e in
    let next : k - 1 ≡ suc (suc (k - 3)) = omega arith in
    let begun = bad_line_is_begun FIRST_ROW no_rows rest k no_rows_fit refl (omega (arith, few)) e in
    record {
      file = file_of z begun.rows;
      is = record { sizes = fits; events = begun.fits.events; verdicts = begun.fits.verdicts; few_events = begun.few_events; few_verdicts = begun.few_verdicts };
      alike = rw (next, lines_by_rows z begun.rows, is) (ap (λ (ls : List (List ℕ)). line (version_words VERSION) ∷ line (sizes_words z) ∷ ls) begun.alike);
    }

begins_sized : (lines rest : List (List ℕ)) (k : ℕ) → lines ≡ line (version_words VERSION) ∷ rest → length rest < 2 ^ 32 → sized_file rest ≡ fails (bad k) → BeginsFile lines (k - 1)
begins_sized lines rest k is few e = elim (error_step (line_or_bad SIZES_LINE rest) after_second (bad k) e) [
  | inl none ↦ begins_version lines rest k is (line_number k 2 (first_error SIZES_LINE rest (bad k) none))
  | inr second ↦ elim (error_step (told_at SIZES_LINE (sizes_in (words_in second.0.0))) (λ (sizes : Sizes). file_with sizes second.0.1) (bad k) second.2) [
    | inl untold ↦ begins_version lines rest k is (line_number k 2 (told_error SIZES_LINE (sizes_in (words_in second.0.0)) (bad k) untold))
    | inr sizes ↦
        let told = told_some SIZES_LINE (sizes_in (words_in second.0.0)) sizes.0 sizes.1 in
        let two = second_is_sizes rest second.0.0 second.0.1 sizes.0 second.1 told in
        let shorter : length rest ≡ suc (length second.0.1) = ap length two in
        begins_rows lines second.0.1 sizes.0 k ((sizes_are_written (words_in second.0.0) sizes.0 told).1)
        (is ∙ ap (λ (ls : List (List ℕ)). line (version_words VERSION) ∷ ls) two) (omega (arith, few, shorter)) (bad_of_with sizes.0 second.0.1 k sizes.2)
  ]
]

-- where reading stops as bad at line k, the lines before k begin the text of some file
pub bad_begins_file : (lines : List (List ℕ)) (k : ℕ) → length lines < 2 ^ 32 → file_in lines ≡ fails (bad k) → BeginsFile lines (k - 1)
unfolding file_in
bad_begins_file lines k few e = elim (error_step (line_or_bad VERSION_LINE lines) (λ (first : First). version_in (words_in first.0) >=> λ known. sized_file first.1) (bad k) e) [
  | inl none ↦ begins_nothing lines k (line_number k 1 (first_error VERSION_LINE lines (bad k) none))
  | inr first ↦ elim (error_step (version_in (words_in first.0.0)) (λ known. sized_file first.0.1) (bad k) first.2) [
    | inl wrong ↦ begins_nothing lines k (version_bad (words_in first.0.0) k wrong)
    | inr known ↦
        let is = first_is_version lines first.0.0 first.0.1 first.1 known.1 in
        let shorter : length lines ≡ suc (length first.0.1) = ap length is in
        begins_sized lines first.0.1 k is (omega (arith, few, shorter)) known.2
  ]
]

-- ---- another version

sized_error : (lines : List (List ℕ)) (error : JournalError) → sized_file lines ≡ fails error → (k : ℕ) × (error ≡ bad k)
sized_error lines error e = elim (error_step (line_or_bad SIZES_LINE lines) after_second error e) [
  | inl none ↦ (2, first_error SIZES_LINE lines error none)
  | inr second ↦ elim (error_step (told_at SIZES_LINE (sizes_in (words_in second.0.0))) (λ (sizes : Sizes). file_with sizes second.0.1) error second.2) [
    | inl untold ↦ (2, told_error SIZES_LINE (sizes_in (words_in second.0.0)) error untold)
    | inr sizes ↦ elim (error_step (rows_in FIRST_ROW no_rows second.0.1) (λ (rows : RowLists). done (file_of sizes.0 rows)) error sizes.2) [
      | inl rows ↦ error_is_a_line FIRST_ROW no_rows second.0.1 error rows
      | inr ok ↦ absurd (ok_is_no_error sizes.0 ok.0 error ok.2)
    ]
  ]
]
  where
    ok_is_no_error : (z : Sizes) (rows : RowLists) (error : JournalError) → done (file_of z rows) ≡ fails error → ⊥
    ok_is_no_error z rows error e = cc

version_is_no_line : (k : ℕ) → journal.BadVersion ≡ bad k → ⊥
version_is_no_line k e = cc

abbrev other_words : List ℕ → List (List ℕ)
other_words digits = codes "strobe" ∷ codes "journal" ∷ digits ∷ []

-- the first line tells another version
pub record OtherFirst (lines : List (List ℕ)) : Type 0 where
  pub digits : List ℕ
  pub rest : List (List ℕ)
  pub number : is_number digits ≡ true
  pub other : digits ≡ decimal VERSION → ⊥
  pub first : lines ≡ line (codes "strobe" ∷ codes "journal" ∷ digits ∷ []) ∷ rest

-- where reading answers BadVersion, the first line tells a decimal number that is no version it knows
pub bad_version_is_other : (lines : List (List ℕ)) → file_in lines ≡ fails journal.BadVersion → OtherFirst lines
unfolding file_in
bad_version_is_other lines e =
    elim (error_step (line_or_bad VERSION_LINE lines) (λ (first : First). version_in (words_in first.0) >=> λ known. sized_file first.1) journal.BadVersion e) [
      | inl none ↦ absurd (version_is_no_line VERSION_LINE (first_error VERSION_LINE lines journal.BadVersion none))
      | inr first ↦ elim (error_step (version_in (words_in first.0.0)) (λ known. sized_file first.0.1) journal.BadVersion first.2) [
        | inl wrong ↦
            let other = other_version_is (words_in first.0.0) wrong in
            let one = first_line_of VERSION_LINE lines first.0.0 first.0.1 first.1 in
            record {
              digits = other.digits;
              rest = first.0.1;
              number = other.number;
              other = other.other;
              first = one.1 ∙ ap (λ (l : List ℕ). l ∷ first.0.1) (words_make_the_line one.0 first.0.0 (other_words other.digits) one.2 other.told);
            }
        | inr known ↦ let error = sized_error first.0.1 journal.BadVersion known.2 in absurd (version_is_no_line error.0 error.1)
      ]
    ]

-- where the first line tells such a number, reading answers BadVersion
pub other_is_bad_version : (lines : List (List ℕ)) → OtherFirst lines → file_in lines ≡ fails journal.BadVersion
unfolding file_in
other_is_bad_version lines o =
    let plain = other_is_plain o.digits o.number in
    rw (
      o.first,
      first_line_is VERSION_LINE (line (other_words o.digits)) (join_with_byte 32 (other_words o.digits)) o.rest (content_of_line (other_words o.digits) plain),
      words_are_found (codes "strobe") (codes "journal" ∷ o.digits ∷ []) plain,
      version_is_other o.digits o.number o.other,
    ) refl
