-- From how a call ended, of words that may be accepted, to what its clauses say.
use Rattle.std.proofs.Common.{◌≡◌, ◌≢◌, ℕ, ◌⊎◌, ◌↔◌, List, Option, Some, None, IsSome, IfSome, inl, inr, refl, sym, ◌∙◌, subst, arith}
use Rattle.st_events.specs.Terms.{RanLists}
use Rattle.st_io.specs.Counts.{RoseBy}
use Rattle.st_io.specs.States.{FilesState, SinkState}
use Rattle.st_top.specs.Commands.{Told, IsInputAccepted, IsInputTold}
use Rattle.st_top.specs.Endings.{IsDoneCall, IsRefusedCall, IsEnded, IsDoneStatus, IsRefusalStatus, AreWordsRefused, HasRunStatus, IsRefusedExactly, IsStatusOf, IsComplete}
use Rattle.st_top.specs.Headline.{IsHeadline}
use Rattle.st_top.specs.Orders.{order_of}
use Rattle.st_top.specs.declared.outcomes.Outcome.{Outcome}
use Rattle.st_words.specs.declared.words.Words.{Words}
use Rattle.st_words.specs.declared.words.Words.TheVariants as words
use Rattle.st_top.proofs.DoneLemmas.{headline_is_shown}
use Rattle.st_top.proofs.EndingLemmas.{ended_call_has_headline, ended_call_has_its_run, done_status_tells_done, refusal_status_tells_refused, accepted_words_are_not_refused}
use Rattle.st_top.proofs.EndingLemmas.{read_fault_comes_by_count, write_fault_comes_by_count, input_is_refused_exactly, written_run_has_its_status, call_is_complete}

-- how a call ended
abbrev pub EndedWith : FilesState → FilesState → Outcome → SinkState → SinkState → Words → Type 0
EndedWith fb fn outcome before now call = IsEnded call fb fn outcome before now

-- what follows of how a call ended holds where the words are accepted
follows : (accepted : Option Words) (P Q : Words → Type 0) → ((call : Words) → P call → Q call) → IfSome accepted P → IfSome accepted Q
follows None P Q rule h = tt
follows (Some call) P Q rule h = rule call h

-- the headline of a call
pub headline_of_call : (accepted : Option Words) (fb fn : FilesState) (outcome : Outcome) (before now : SinkState)
    → IfSome accepted (EndedWith fb fn outcome before now)
    → IfSome outcome.ran (λ ran. IfSome accepted (λ call. IfSome (order_of fb.told call) (λ order. IsHeadline order outcome.status ran before now)))
headline_of_call None fb fn outcome before now ended = nothing outcome.ran
  where
    nothing : (ran : Option RanLists) → IfSome ran (λ r. Unit {0})
    nothing None = tt
    nothing (Some r) = tt
headline_of_call (Some call) fb fn outcome before now ended =
    headline_is_shown fb.told call outcome.status outcome.ran before now (ended_call_has_headline call fb fn outcome before now ended)

-- for the clause `ran`: there is a run exactly where one was done
pub run_of_call : (accepted : Option Words) (fb fn : FilesState) (outcome : Outcome) (before now : SinkState)
    → IfSome accepted (EndedWith fb fn outcome before now)
    → IfSome accepted (λ call. IsSome outcome.ran ↔ (IsSome (order_of fb.told call) × IsDoneStatus outcome.status))
run_of_call accepted fb fn outcome before now =
    follows accepted (EndedWith fb fn outcome before now) _ (λ call h. ended_call_has_its_run call fb fn outcome before now h)

-- for the clause `done`: with the status of a command that was done it was done, and its output is written
pub done_of_call : (accepted : Option Words) (fb fn : FilesState) (outcome : Outcome) (before now : SinkState)
    → IfSome accepted (EndedWith fb fn outcome before now)
    → IfSome accepted (λ call. IsDoneStatus outcome.status → IsDoneCall fb.told call outcome before now)
done_of_call accepted fb fn outcome before now =
    follows accepted (EndedWith fb fn outcome before now) _ (λ call h. done_status_tells_done call fb fn outcome before now h)

-- for the clause `refused`: with the status of a refusal there is a cause, and the line of the refusal was put
pub refusal_of_call : (accepted : Option Words) (fb fn : FilesState) (outcome : Outcome) (before now : SinkState)
    → IfSome accepted (EndedWith fb fn outcome before now)
    → IfSome accepted (λ call. IsRefusalStatus outcome.status → IsRefusedCall call fb fn outcome before now)
refusal_of_call accepted fb fn outcome before now =
    follows accepted (EndedWith fb fn outcome before now) _ (λ call h. refusal_status_tells_refused call fb fn outcome before now h)

-- for the clause `input`: 3 comes exactly where not all that is read is accepted
pub input_of_call : (accepted : Option Words) (fb fn : FilesState) (outcome : Outcome) (before now : SinkState)
    → IfSome accepted (EndedWith fb fn outcome before now)
    → IfSome accepted (λ call. IsRefusedExactly fb.told call outcome.status)
input_of_call accepted fb fn outcome before now =
    follows accepted (EndedWith fb fn outcome before now) _ (λ call h. input_is_refused_exactly call fb fn outcome before now h)

-- for the clause `complete`: accepted inputs and no fault leave a status of the command, or 7
pub complete_of_call : (accepted : Option Words) (fb fn : FilesState) (outcome : Outcome) (before now : SinkState)
    → IfSome accepted (EndedWith fb fn outcome before now)
    → IfSome accepted (λ call. IsComplete call fb fn outcome.status before now)
complete_of_call accepted fb fn outcome before now =
    follows accepted (EndedWith fb fn outcome before now) _ (λ call h. call_is_complete call fb fn outcome before now h)

-- words that are refused tell 2 or 7
refused_words_tell : (outcome : Outcome) (before now : SinkState) → AreWordsRefused outcome before now → (outcome.status ≡ 2) ⊎ (outcome.status ≡ 7)
refused_words_tell outcome before now (inl h) = inl h.status
refused_words_tell outcome before now (inr h) = inr h.status

refused_words_tell_no : (n : ℕ) (outcome : Outcome) (before now : SinkState) → (n ≡ 2 → ⊥) → (n ≡ 7 → ⊥)
    → AreWordsRefused outcome before now → outcome.status ≡ n → ⊥
refused_words_tell_no n outcome before now not_two not_seven refused is = elim (refused_words_tell outcome before now refused) [
  | inl two ↦ not_two (sym is ∙ two)
  | inr seven ↦ not_seven (sym is ∙ seven)
]

-- for the clause `words`: 2 comes only where the words are none that the program takes
pub words_of_call : (accepted : Option Words) (fb fn : FilesState) (outcome : Outcome) (before now : SinkState)
    → IfSome accepted (EndedWith fb fn outcome before now) → outcome.status ≡ 2 → accepted ≡ None
words_of_call None fb fn outcome before now ended two = refl
words_of_call (Some call) fb fn outcome before now ended two = absurd (accepted_words_are_not_refused call fb fn outcome before now ended two)

-- for the clause `read_fault`: 5 comes only where the count of the files' faults rose
pub read_fault_of_call : (accepted : Option Words) (fb fn : FilesState) (outcome : Outcome) (before now : SinkState)
    → IfSome accepted (EndedWith fb fn outcome before now) → (accepted ≡ None → AreWordsRefused outcome before now)
    → outcome.status ≡ 5 → RoseBy 1 fb.faults fn.faults
read_fault_of_call None fb fn outcome before now ended refused five =
    absurd (refused_words_tell_no 5 outcome before now (λ e. omega (arith, e)) (λ e. omega (arith, e)) (refused refl) five)
read_fault_of_call (Some call) fb fn outcome before now ended refused five = read_fault_comes_by_count call fb fn outcome before now ended five

-- for the clause `write_fault`: 6 comes only where the count of the sink's faults rose
pub write_fault_of_call : (accepted : Option Words) (fb fn : FilesState) (outcome : Outcome) (before now : SinkState)
    → IfSome accepted (EndedWith fb fn outcome before now) → (accepted ≡ None → AreWordsRefused outcome before now)
    → outcome.status ≡ 6 → RoseBy 1 before.faults now.faults
write_fault_of_call None fb fn outcome before now ended refused six =
    absurd (refused_words_tell_no 6 outcome before now (λ e. omega (arith, e)) (λ e. omega (arith, e)) (refused refl) six)
write_fault_of_call (Some call) fb fn outcome before now ended refused six = write_fault_comes_by_count call fb fn outcome before now ended six

-- with refused words there is no run
refused_words_leave_no_run : (outcome : Outcome) (before now : SinkState) → AreWordsRefused outcome before now → outcome.ran ≡ None
refused_words_leave_no_run outcome before now (inl h) = h.ran
refused_words_leave_no_run outcome before now (inr h) = h.ran

-- for the clause `run_status`: a run that was written whole has the status of its verdicts and ends
pub run_status_of_call : (accepted : Option Words) (fb fn : FilesState) (outcome : Outcome) (before now : SinkState)
    → IfSome accepted (EndedWith fb fn outcome before now) → (accepted ≡ None → AreWordsRefused outcome before now)
    → IfSome outcome.ran (λ ran. outcome.status ≢ 6 → HasRunStatus outcome.status ran)
run_status_of_call None fb fn outcome before now ended refused =
    subst (λ (o : Option RanLists). IfSome o (λ ran. outcome.status ≢ 6 → HasRunStatus outcome.status ran))
    (sym (refused_words_leave_no_run outcome before now (refused refl))) tt
run_status_of_call (Some call) fb fn outcome before now ended refused =
    written_run_has_its_status fb.told call outcome.status outcome.ran before now (ended_call_has_headline call fb fn outcome before now ended)

-- ---- over one text

-- every file tells the text
all_is_told : (text : List ℕ) (call : Words) → IsInputTold (λ _. Some text) call
all_is_told text (words.Run call) = refl
all_is_told text (words.Check file) = refl
all_is_told text (words.Audit file journal) = (refl, refl)
all_is_told text (words.Gen n) = tt
all_is_told text (words.Demo n) = tt

-- so with counts that stay 0, accepted inputs are enough
pub complete_on_text : (accepted : Option Words) (text : List ℕ) (fb fn : FilesState) (status : ℕ) (before now : SinkState)
    → fb.told ≡ (λ _. Some text) → (RoseBy 1 fb.faults fn.faults → ⊥) → (RoseBy 1 before.faults now.faults → ⊥)
    → IfSome accepted (λ call. IsComplete call fb fn status before now)
    → IfSome accepted (λ call. IsInputAccepted (λ _. Some text) call → IsStatusOf call status ⊎ (status ≡ 7))
complete_on_text accepted text fb fn status before now told no_read no_write =
    follows accepted (λ call. IsComplete call fb fn status before now) _ (λ call complete input.
    complete (subst (λ (t : Told). IsInputTold t call) (sym told) (all_is_told text call)) (subst (λ (t : Told). IsInputAccepted t call) (sym told) input) no_read no_write)

-- the same where nothing can fail to be written
pub run_status_on_text : (status : ℕ) (ran : Option RanLists) → (status ≡ 6 → ⊥)
    → IfSome ran (λ r. status ≢ 6 → HasRunStatus status r) → IfSome ran (λ r. HasRunStatus status r)
run_status_on_text status None no_fault h = tt
run_status_on_text status (Some ran) no_fault h = h no_fault
