-- A text and its lines: joined they are the text, and the lines of a file's text are the file's.
use Rattle.std.proofs.Common.{◌≡◌, ℕ, suc, ◌+◌, ◌-◌, ◌^◌, ◌<◌, ◌≤◌, ◌⊎◌, Bool, true, false, cond, eqb, take, List, [], ◌∷◌, ◌++◌, length, Result, Ok, Err}
use Rattle.std.proofs.Common.{refl, sym, ap, subst, ◌∙◌, arith, inl, inr}
use Rattle.std.specs.Prelude.{codes}
use Rattle.std.specs.List.{All, enumerate_from, flat_map, join_with_byte, onto_first}
use Rattle.std.specs.Result.{IfOk}
use Rattle.std.proofs.lemmas.Bool.{eqb-true}
use Rattle.std.proofs.lemmas.List.Elements.{All-append, All-cons, All-head, All-nil, All-tail}
use Rattle.st_journal.specs.declared.errors.JournalError.{JournalError}
use Rattle.st_journal.specs.declared.errors.JournalError.TheVariants as journal
use Rattle.st_journal.specs.declared.rows.Row.TheVariants as row
use Rattle.st_journal.specs.declared.versions.TheConstants.{VERSION}
use Rattle.st_journal.specs.Terms.{Event, Verdict}
use Rattle.st_journal.specs.Format.{FileLists, IsFile, FitsFields, FitsVerdict, newline, line, event_words, verdict_words, version_words, sizes_words, end_words, file_lines, journal_text}
use Rattle.st_journal.specs.Lines.{lines, IsFirstBadLine, HasOtherVersion}
use Rattle.st_journal.specs.Reading.{IsAsRead}
use Rattle.st_journal.specs.Rows.{file_in}
use Rattle.st_journal.proofs.FaultLemmas.{file_alike, bad_begins_file, bad_version_is_other, other_is_bad_version}
use Rattle.st_journal.proofs.FileLemmas.{done, fails, read_is_of_the_format, the_format_is_read}
use Rattle.st_journal.proofs.HeadLemmas.{version_is_plain, sizes_are_plain}
use Rattle.st_journal.proofs.LineLemmas.{lines_of_cut}
use Rattle.st_journal.proofs.SplitLemmas.{IsPlain, line_is_cut}
use Rattle.st_journal.proofs.StepLemmas.{row_words, row_is_plain, event_lines, numbered_lines, verdict_line_is}

abbrev joined : List (List ℕ) → List ℕ
joined all = flat_map (λ one_line. one_line) all

-- ---- lines, joined

joined_onto_first : (b : ℕ) (all : List (List ℕ)) → joined (onto_first b all) ≡ b ∷ joined all
joined_onto_first b [] = refl
joined_onto_first b (first ∷ rest) = refl

joined_after : (b : ℕ) (text : List ℕ) (t : Bool) → eqb b newline ≡ t → joined (lines text) ≡ text
    → joined (cond t ((newline ∷ []) ∷ lines text) (onto_first b (lines text))) ≡ b ∷ text
joined_after b text true same rest = let is : b ≡ newline = eqb-true b newline same in rw (is, rest) refl
joined_after b text false other rest = joined_onto_first b (lines text) ∙ ap (λ (t : List ℕ). b ∷ t) rest

-- the lines of a text, one after another, are the text
pub lines_are_joined : (text : List ℕ) → joined (lines text) ≡ text
lines_are_joined [] = refl
lines_are_joined (b ∷ text) = joined_after b text (eqb b newline) refl (lines_are_joined text)

-- a text has no more lines than bytes
few_onto_first : (b : ℕ) (all : List (List ℕ)) → length (onto_first b all) ≤ suc (length all)
few_onto_first b [] = omega arith
few_onto_first b (first ∷ rest) = omega arith

few_after : (b : ℕ) (text : List ℕ) (t : Bool) → length (lines text) ≤ length text
    → length (cond t ((newline ∷ []) ∷ lines text) (onto_first b (lines text))) ≤ suc (length text)
few_after b text true few = omega (arith, few)
few_after b text false few = omega (arith, few, few_onto_first b (lines text))

-- a text has at most as many lines as bytes
pub lines_are_few : (text : List ℕ) → length (lines text) ≤ length text
lines_are_few [] = omega arith
lines_are_few (b ∷ text) = few_after b text (eqb b newline) (lines_are_few text)

-- ---- lines of plain words

-- a line is made of plain words
abbrev pub Made : List ℕ → Type 0
Made whole = (words : List (List ℕ)) × All IsPlain words × (whole ≡ line words)

lines_of_made : (whole : List ℕ) (more : List ℕ) → Made whole → lines (whole ++ more) ≡ whole ∷ lines more
lines_of_made whole more made =
    ap (λ (w : List ℕ). lines (w ++ more)) made.2
    ∙ lines_of_cut (line made.0 ++ more) (join_with_byte 32 made.0) more (line_is_cut made.0 more made.1)
    ∙ ap (λ (w : List ℕ). w ∷ lines more) (sym made.2)

-- lines of words, put one after another, are the lines of what they make
pub lines_of_joined : (all : List (List ℕ)) → All Made all → lines (joined all) ≡ all
lines_of_joined [] made = refl
lines_of_joined (whole ∷ rest) made =
    lines_of_made whole (joined rest) (All-head Made whole rest made) ∙ ap (λ (ls : List (List ℕ)). whole ∷ ls) (lines_of_joined rest (All-tail Made whole rest made))

events_are_made : (events : List Event) → All FitsFields events → All Made (event_lines events)
events_are_made [] fit = All-nil Made
events_are_made (e ∷ events) fit =
    All-cons Made (line (event_words e)) (event_lines events) (event_words e, row_is_plain (row.Event e) (All-head FitsFields e events fit), refl)
    (events_are_made events (All-tail FitsFields e events fit))

verdicts_are_made : (n : ℕ) (verdicts : List Verdict) → n + length verdicts ≤ 2 ^ 32 → All FitsVerdict verdicts → All Made (numbered_lines (enumerate_from n verdicts))
verdicts_are_made n [] few fit = All-nil Made
verdicts_are_made n (v ∷ verdicts) few fit =
    All-cons Made (line (verdict_words (n, v))) (numbered_lines (enumerate_from (n + 1) verdicts))
    (row_words (row.Verdict n v), row_is_plain (row.Verdict n v) (omega (arith, few), All-head FitsVerdict v verdicts fit), sym (verdict_line_is n v))
    (verdicts_are_made (n + 1) verdicts (omega (arith, few)) (All-tail FitsVerdict v verdicts fit))

file_is_made : (file : FileLists) → IsFile file → All Made (file_lines file)
unfolding file_lines
file_is_made file is =
    let told : List (List ℕ) = numbered_lines (enumerate_from 1 file.verdicts) in
    let end : List (List ℕ) = line (end_words file) ∷ [] in
    All-cons Made (line (version_words VERSION)) (line (sizes_words file.sizes) ∷ (event_lines file.events ++ (told ++ end))) (version_words VERSION, version_is_plain, refl)
    (All-cons Made (line (sizes_words file.sizes)) (event_lines file.events ++ (told ++ end)) (sizes_words file.sizes, sizes_are_plain file.sizes is.sizes, refl)
    (All-append Made (event_lines file.events) (told ++ end) (events_are_made file.events is.events)
    (All-append Made told end (verdicts_are_made 1 file.verdicts (omega (arith, is.few_verdicts)) is.verdicts)
    (All-cons Made (line (end_words file)) []
    (end_words file, row_is_plain (row.End (length file.events) (length file.verdicts)) (is.few_events, is.few_verdicts), refl) (All-nil Made)))))

-- the lines of a file's text are the file's
pub lines_of_text : (file : FileLists) → IsFile file → lines (journal_text file) ≡ file_lines file
unfolding journal_text
lines_of_text file is = lines_of_joined (file_lines file) (file_is_made file is)

-- ---- what is told of a text

abbrev Outcome : Type 0
Outcome = Result FileLists JournalError

-- an answer Ok tells a file that has a text, and this is its text
pub read_is_a_journal : (text : List ℕ) (r : Outcome) → IsAsRead (λ (file : FileLists). file) r (file_in (lines text)) → IfOk r (λ file. IsFile file × (text ≡ journal_text file))
unfolding journal_text
read_is_a_journal text (Ok file) gives =
    let is = read_is_of_the_format (lines text) file gives in
    (is.0, sym (lines_are_joined text) ∙ ap joined is.1)
read_is_a_journal text (Err error) gives = tt

given_file : (r : Outcome) (file : FileLists) (read : Outcome) → IsAsRead (λ (file : FileLists). file) r read → read ≡ Ok file → (r ≡ Ok file) ⊎ (r ≡ Err journal.Memory)
given_file (Ok other) file read gives is = inl (sym gives ∙ is)
given_file (Err journal.Memory) file read gives is = inr refl
given_file (Err (journal.BadLine k)) file read gives is = absurd (apart file k (sym is ∙ gives))
  where
    apart : (file : FileLists) (k : ℕ) → done file ≡ fails (journal.BadLine k) → ⊥
    apart file k e = cc
given_file (Err journal.BadVersion) file read gives is = absurd (apart file (sym is ∙ gives))
  where
    apart : (file : FileLists) → done file ≡ fails journal.BadVersion → ⊥
    apart file e = cc

-- at the text of a file the answer is this file, or that memory is wanted
pub journal_is_read : (text : List ℕ) (r : Outcome) (file : FileLists) → IsAsRead (λ (file : FileLists). file) r (file_in (lines text)) → IsFile file → text ≡ journal_text file
    → (r ≡ Ok file) ⊎ (r ≡ Err journal.Memory)
journal_is_read text r file gives is same =
    given_file r file (file_in (lines text)) gives (ap (λ (t : List ℕ). file_in (lines t)) same ∙ ap file_in (lines_of_text file is) ∙ the_format_is_read file is)

-- what is given at an answer
pub given_error : (r : Outcome) (read : Outcome) (k : ℕ) → IsAsRead (λ (file : FileLists). file) r read → r ≡ Err (journal.BadLine k) → read ≡ fails (journal.BadLine k)
given_error r read k gives is = subst (λ (x : Outcome). IsAsRead (λ (file : FileLists). file) x read) is gives

-- where the call answers BadVersion, reading does
pub given_version : (r : Outcome) (read : Outcome) → IsAsRead (λ (file : FileLists). file) r read → r ≡ Err journal.BadVersion → read ≡ fails journal.BadVersion
given_version r read gives is = subst (λ (x : Outcome). IsAsRead (λ (file : FileLists). file) x read) is gives

-- the line that reading stops at is the first that is not of the format
pub bad_line_is_the_first : (text : List ℕ) (k : ℕ) → length text < 2 ^ 32 → file_in (lines text) ≡ fails (journal.BadLine k) → IsFirstBadLine text k
bad_line_is_the_first text k few e =
    let begins = bad_begins_file (lines text) k (omega (arith, few, lines_are_few text)) e in
    record {
      begins = (begins.file, begins.is, ap (take (k - 1)) (lines_of_text begins.file begins.is) ∙ begins.alike);
      ends = λ file is alike.
          let shown : take k (lines text) ≡ take k (file_lines file) = sym alike ∙ ap (take k) (lines_of_text file is) in
          apart file k (sym (the_format_is_read file is) ∙ file_alike (lines text) (file_lines file) k shown e);
    }
  where
    apart : (file : FileLists) (k : ℕ) → done file ≡ fails (journal.BadLine k) → ⊥
    apart file k e = cc

-- the first line alone
first_alone : (l : List ℕ) (rest : List (List ℕ)) → take 1 (l ∷ rest) ≡ l ∷ []
first_alone l rest = refl

first_of : (all : List (List ℕ)) (l : List ℕ) → take 1 all ≡ l ∷ [] → (rest : List (List ℕ)) × (all ≡ l ∷ rest)
first_of [] l e = absurd cc
first_of (m ∷ all) l e = let same : m ≡ l = cc in (all, ap (λ (x : List ℕ). x ∷ all) same)

-- where reading answers BadVersion, the text tells another version
pub bad_version_is_another : (text : List ℕ) → file_in (lines text) ≡ fails journal.BadVersion → HasOtherVersion text
bad_version_is_another text e =
    let other = bad_version_is_other (lines text) e in
    record { digits = other.digits; number = other.number; other = other.other; told = ap (take 1) other.first }

-- where the text tells another version, reading answers BadVersion
pub another_is_bad_version : (text : List ℕ) → HasOtherVersion text → file_in (lines text) ≡ fails journal.BadVersion
another_is_bad_version text o =
    let first = first_of (lines text) (line (codes "strobe" ∷ codes "journal" ∷ o.digits ∷ [])) o.told in
    other_is_bad_version (lines text) (record { digits = o.digits; rest = first.0; number = o.number; other = o.other; first = first.1 })

-- where reading answers BadVersion, the call does, or it answers that memory is wanted
pub given_other : (r : Outcome) (read : Outcome) → IsAsRead (λ (file : FileLists). file) r read → read ≡ fails journal.BadVersion → (r ≡ Err journal.BadVersion) ⊎ (r ≡ Err journal.Memory)
given_other (Ok file) read gives is = absurd (apart file (sym gives ∙ is))
  where
    apart : (file : FileLists) → done file ≡ fails journal.BadVersion → ⊥
    apart file e = cc
given_other (Err journal.Memory) read gives is = inr refl
given_other (Err (journal.BadLine k)) read gives is = absurd (apart k (sym gives ∙ is))
  where
    apart : (k : ℕ) → fails (journal.BadLine k) ≡ fails journal.BadVersion → ⊥
    apart k e = cc
given_other (Err journal.BadVersion) read gives is = inl refl

-- no text has both a bad line and another version for its answer
pub line_is_no_version : (read : Outcome) (k : ℕ) → read ≡ fails (journal.BadLine k) → read ≡ fails journal.BadVersion → ⊥
line_is_no_version read k a b = apart k (sym a ∙ b)
  where
    apart : (k : ℕ) → fails (journal.BadLine k) ≡ fails journal.BadVersion → ⊥
    apart k e = cc
