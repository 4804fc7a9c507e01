-- Laws of reading row by row: what reading gives at its next line.
use Rattle.std.proofs.Common.{◌≡◌, ℕ, ◌+◌, Bool, true, false, List, [], ◌∷◌, length, Option, Some, None, Result, Ok, Err}
use Rattle.std.proofs.Common.{refl, sym, ap, ◌∙◌}
use Rattle.std.specs.Bool.{◌==◌}
use Rattle.std.proofs.lemmas.Bool.{eqb-true, eqb-false}
use Rattle.std.proofs.lemmas.List.{nil_from_length}
use Rattle.st_journal.specs.declared.errors.JournalError.{JournalError}
use Rattle.st_journal.specs.declared.errors.JournalError.TheVariants as journal
use Rattle.st_journal.specs.Lines.{lines}
use Rattle.st_journal.specs.declared.errors.LineFault.{LineFault}
use Rattle.st_journal.specs.declared.errors.LineFault.TheVariants as fault
use Rattle.st_journal.specs.Reading.{IsAsRead, content, error_of, line_or_bad, with_rest}
use Rattle.st_journal.specs.Rows.{RowLists, TakesLine, ended, rows_in, line_step}
use Rattle.st_journal.proofs.LineLemmas.{no_lines}

-- a first line without its end, and the lines after it
abbrev pub First : Type 0
First = List ℕ × List (List ℕ)

-- this first line was taken, and these lines are left
abbrev pub first_is : List ℕ → List (List ℕ) → Result First JournalError
first_is line rest = Ok (line, rest)

abbrev first_of : List ℕ → List (List ℕ) → First
first_of line rest = (line, rest)

-- the line that was taken is what was found before its end, and the lines that are left are those after it
pub first_line_parts : (n : ℕ) (found : Option (List ℕ)) (rest : List (List ℕ)) (line : List ℕ) (more : List (List ℕ))
    → with_rest n found rest ≡ first_is line more → (found ≡ Some line) × (rest ≡ more)
first_line_parts n None rest line more e = absurd cc
first_line_parts n (Some x) rest line more e =
    let pair : first_of x rest ≡ first_of line more = cc in
    (ap (λ (p : First). Some p.0) pair, ap (λ (p : First). p.1) pair)

-- a line was taken: these are the rows now, and this tells whether it was the last line
abbrev pub step_is : RowLists → Bool → Option (RowLists × Bool)
step_is rows is_last = Some (rows, is_last)

-- at a line that tells a row
pub rows_go_on : (n : ℕ) (rows after : RowLists) (all : List (List ℕ)) (line : List ℕ) (more : List (List ℕ))
    → line_or_bad n all ≡ first_is line more → line_step rows line ≡ step_is after false
    → rows_in n rows all ≡ rows_in (n + 1) after more
unfolding rows_in line_or_bad
rows_go_on n rows after [] line more is step = absurd cc
rows_go_on n rows after (first ∷ rest) line more is step =
    let parts = first_line_parts n (content first) rest line more is in
    rw (parts.0, parts.1, step) refl

-- at the counts
pub rows_end : (n : ℕ) (rows after : RowLists) (all : List (List ℕ)) (line : List ℕ) (more : List (List ℕ))
    → line_or_bad n all ≡ first_is line more → line_step rows line ≡ step_is after true
    → rows_in n rows all ≡ ended n after more
unfolding rows_in line_or_bad
rows_end n rows after [] line more is step = absurd cc
rows_end n rows after (first ∷ rest) line more is step =
    let parts = first_line_parts n (content first) rest line more is in
    rw (parts.0, parts.1, step) refl

-- at a line that tells none
pub rows_stop : (n : ℕ) (rows : RowLists) (all : List (List ℕ)) (line : List ℕ) (more : List (List ℕ))
    → line_or_bad n all ≡ first_is line more → line_step rows line ≡ None
    → rows_in n rows all ≡ Err (journal.BadLine n)
unfolding rows_in line_or_bad
rows_stop n rows [] line more is step = absurd cc
rows_stop n rows (first ∷ rest) line more is step =
    let parts = first_line_parts n (content first) rest line more is in
    rw (parts.0, step) refl

-- where no line is left, or the next has no end
no_content : (n : ℕ) (found : Option (List ℕ)) (rest : List (List ℕ)) (error : JournalError) → with_rest n found rest ≡ Err error → (found ≡ None) × (error ≡ journal.BadLine n)
no_content n None rest error e = (refl, cc)
no_content n (Some x) rest error e = absurd cc

rows_missing : (n : ℕ) (rows : RowLists) (all : List (List ℕ)) (error : JournalError) → line_or_bad n all ≡ Err error → rows_in n rows all ≡ Err error
unfolding rows_in line_or_bad
rows_missing n rows [] error e = let same : journal.BadLine n ≡ error = cc in ap (λ (x : JournalError). Err x) same
rows_missing n rows (first ∷ rest) error e = let no = no_content n (content first) rest error e in rw (no.0, no.1) refl

-- what is answered there
pub missing_gives : (error : JournalError) (n : ℕ) (rows : RowLists) (all : List (List ℕ)) (total : Result RowLists JournalError)
    → IsAsRead (λ (parts : First). parts) (Err error) (line_or_bad n all) → rows_in n rows all ≡ total → IsAsRead (λ (rows : RowLists). rows) (Err error) total
missing_gives journal.Memory n rows all total given same = tt
missing_gives (journal.BadLine line) n rows all total given same = sym same ∙ rows_missing n rows all (journal.BadLine line) given
missing_gives journal.BadVersion n rows all total given same = sym same ∙ rows_missing n rows all journal.BadVersion given

-- what is answered at a line that tells no row
pub fault_gives : (fault : LineFault) (n : ℕ) (rows after : RowLists) (all : List (List ℕ)) (line : List ℕ) (more : List (List ℕ)) (total : Result RowLists JournalError)
    → line_or_bad n all ≡ first_is line more → TakesLine (Err fault) (line_step rows line) after
    → rows_in n rows all ≡ total → IsAsRead (λ (rows : RowLists). rows) (Err (error_of fault n)) total
fault_gives fault.Memory n rows after all line more total is takes same = tt
fault_gives fault.Bad n rows after all line more total is takes same = sym same ∙ rows_stop n rows all line more is takes

-- nothing is left after the counts, or something is
pub nothing_left : (n : ℕ) (rows : RowLists) (text : List ℕ) → (length text == 0) ≡ true → ended n rows (lines text) ≡ Ok rows
nothing_left n rows text e = let none : text ≡ [] = nil_from_length text (eqb-true (length text) 0 e) in rw none refl

ended_late : (n : ℕ) (rows : RowLists) (all : List (List ℕ)) → (all ≡ [] → ⊥) → ended n rows all ≡ Err (journal.BadLine (n + 1))
ended_late n rows [] some = absurd (some refl)
ended_late n rows (line ∷ all) some = refl

-- where text is left after the counts, the line after them is bad
pub something_left : (n : ℕ) (rows : RowLists) (text : List ℕ) → (length text == 0) ≡ false → ended n rows (lines text) ≡ Err (journal.BadLine (n + 1))
something_left n rows text some = ended_late n rows (lines text) (λ e. eqb-false (length text) 0 some (ap length (no_lines text e)))
