-- From how a call ended to what its status tells.
use Rattle.std.proofs.Common.{◌≡◌, ◌≢◌, ℕ, ◌⊎◌, ◌↔◌, Option, Some, None, IsSome, IfSome, inl, inr, refl, sym, ◌∙◌, subst, arith}
use Rattle.st_events.specs.Terms.{RanLists}
use Rattle.st_io.specs.Counts.{RoseBy}
use Rattle.st_io.specs.States.{FilesState, SinkState, GoOn}
use Rattle.st_top.specs.Commands.{Told, HasCause}
use Rattle.st_top.specs.Endings.{IsDoneCall, IsRefusedCall, IsToldRefusal, IsEnded, IsDoneStatus, IsRefusalStatus, HasRunStatus, IsRefusedExactly, IsStatusOf, IsComplete}
use Rattle.st_top.specs.Orders.{order_of}
use Rattle.st_top.specs.Refusals.{refusal_status}
use Rattle.st_top.specs.declared.errors.Refusal.{Refusal}
use Rattle.st_top.specs.declared.errors.Refusal.TheVariants as refusal
use Rattle.st_top.specs.declared.outcomes.Outcome.{Outcome}
use Rattle.st_words.specs.declared.words.Words.{Words}
use Rattle.st_top.proofs.DoneLemmas.{HasHeadline, run_has_its_status, left_has_status, run_status_is_no_fault, done_call_has_status, done_call_has_headline, done_call_has_its_run}
use Rattle.st_top.proofs.InputLemmas.{accepted_input_is_not_refused, done_input_is_accepted}
use Rattle.st_top.proofs.RefusalLemmas.{done_is_no_refusal, words_are_no_cause, two_tells_words, five_tells_a_fault, read_fault_was_counted, memory_needs_no_cause}

-- a refused call leaves no run
nothing_is_left : (told : Told) (call : Words) (outcome : Outcome) (before now : SinkState)
    → outcome.ran ≡ None → IfSome outcome.ran (λ ran. HasHeadline told call outcome.status ran before now)
nothing_is_left told call outcome before now none =
    subst (λ (o : Option RanLists). IfSome o (λ ran. HasHeadline told call outcome.status ran before now)) (sym none) tt

-- the headline
pub ended_call_has_headline : (call : Words) (fb fn : FilesState) (outcome : Outcome) (before now : SinkState)
    → IsEnded call fb fn outcome before now → IfSome outcome.ran (λ ran. HasHeadline fb.told call outcome.status ran before now)
ended_call_has_headline call fb fn outcome before now (inl done) = done_call_has_headline fb.told call outcome before now done
ended_call_has_headline call fb fn outcome before now (inr refused) = nothing_is_left fb.told call outcome before now refused.is_told.ran

-- there is a run exactly where one was ordered and the status is one of a command that was done
pub ended_call_has_its_run : (call : Words) (fb fn : FilesState) (outcome : Outcome) (before now : SinkState)
    → IsEnded call fb fn outcome before now → IsSome outcome.ran ↔ (IsSome (order_of fb.told call) × IsDoneStatus outcome.status)
ended_call_has_its_run call fb fn outcome before now (inl done) =
    let run = done_call_has_its_run fb.told call outcome before now done in
    (λ there. (run.0 there, done_call_has_status fb.told call outcome before now done), λ h. run.1 h.0)
ended_call_has_its_run call fb fn outcome before now (inr refused) =
    let none = refused.is_told.ran in
    (λ there. cc, λ h. absurd (done_is_no_refusal refused.refusal outcome.status refused.is_told.status h.1))

-- with a status of a command that was done, it was
pub done_status_tells_done : (call : Words) (fb fn : FilesState) (outcome : Outcome) (before now : SinkState)
    → IsEnded call fb fn outcome before now → IsDoneStatus outcome.status → IsDoneCall fb.told call outcome before now
done_status_tells_done call fb fn outcome before now (inl done) status = done
done_status_tells_done call fb fn outcome before now (inr refused) status =
    absurd (done_is_no_refusal refused.refusal outcome.status refused.is_told.status status)

-- a status of a refusal is that of some refusal
refusal_of : (status : ℕ) → IsRefusalStatus status → (told : Refusal) × (status ≡ refusal_status told)
refusal_of status (inl is) = (refusal.NoMemory, is)
refusal_of status (inr (inl is)) = (refusal.ReadFault, is)
refusal_of status (inr (inr is)) = (refusal.SourceTooLong, is)

-- a call that was done has no such status
done_call_has_no_refusal : (call : Words) (told : Told) (outcome : Outcome) (before now : SinkState) (refused : Refusal)
    → IsDoneCall told call outcome before now → outcome.status ≡ refusal_status refused → ⊥
done_call_has_no_refusal call told outcome before now refused done is =
    done_is_no_refusal refused outcome.status is (done_call_has_status told call outcome before now done)

-- with a status of a refusal, the command was refused
pub refusal_status_tells_refused : (call : Words) (fb fn : FilesState) (outcome : Outcome) (before now : SinkState)
    → IsEnded call fb fn outcome before now → IsRefusalStatus outcome.status → IsRefusedCall call fb fn outcome before now
refusal_status_tells_refused call fb fn outcome before now (inl done) status =
    let some = refusal_of outcome.status status in
    absurd (done_call_has_no_refusal call fb.told outcome before now some.0 done some.1)
refusal_status_tells_refused call fb fn outcome before now (inr refused) status = refused

-- the cause of the refusal that a status tells, where it tells one alone
cause_of : (call : Words) (fb fn : FilesState) (told other : Refusal) → HasCause call fb fn told → told ≡ other → HasCause call fb fn other
cause_of call fb fn told other cause same = subst (HasCause call fb fn) same cause

-- accepted words are not refused
pub accepted_words_are_not_refused : (call : Words) (fb fn : FilesState) (outcome : Outcome) (before now : SinkState)
    → IsEnded call fb fn outcome before now → outcome.status ≢ 2
accepted_words_are_not_refused call fb fn outcome before now (inl done) = λ two. done_call_has_no_refusal call fb.told outcome before now refusal.Words done two
accepted_words_are_not_refused call fb fn outcome before now (inr refused) = λ two.
    words_are_no_cause call fb fn (cause_of call fb fn refused.refusal refusal.Words refused.cause (two_tells_words refused.refusal (sym refused.is_told.status ∙ two)))

-- a fault of reading was counted
pub read_fault_comes_by_count : (call : Words) (fb fn : FilesState) (outcome : Outcome) (before now : SinkState)
    → IsEnded call fb fn outcome before now → outcome.status ≡ 5 → RoseBy 1 fb.faults fn.faults
read_fault_comes_by_count call fb fn outcome before now (inl done) five = absurd (done_call_has_no_refusal call fb.told outcome before now refusal.ReadFault done five)
read_fault_comes_by_count call fb fn outcome before now (inr refused) five =
    read_fault_was_counted call fb fn
    (cause_of call fb fn refused.refusal refusal.ReadFault refused.cause (five_tells_a_fault refused.refusal (sym refused.is_told.status ∙ five)))

-- a fault of writing was counted
pub write_fault_comes_by_count : (call : Words) (fb fn : FilesState) (outcome : Outcome) (before now : SinkState)
    → IsEnded call fb fn outcome before now → outcome.status ≡ 6 → RoseBy 1 before.faults now.faults
write_fault_comes_by_count call fb fn outcome before now (inl done) six = elim done.written [
  | inl w ↦ absurd (run_status_is_no_fault call done.left.status (left_has_status fb.told call done.left done.done) (sym w.as_own ∙ six))
  | inr w ↦ w.faults
]
write_fault_comes_by_count call fb fn outcome before now (inr refused) six =
    absurd (done_is_no_refusal refused.refusal outcome.status refused.is_told.status (inr (inr (inr (inr six)))))

-- 3 tells exactly that an input is refused
three_is_told : (refused : Refusal) (call : Words) (fb fn : FilesState) (status : ℕ)
    → status ≡ refusal_status refused → HasCause call fb fn refused → status ≢ 5 → status ≢ 7 → status ≡ 3
three_is_told refusal.Words call fb fn status is cause no_fault some = absurd (words_are_no_cause call fb fn cause)
three_is_told refusal.NoMemory call fb fn status is cause no_fault some = absurd (some is)
three_is_told refusal.ReadFault call fb fn status is cause no_fault some = absurd (no_fault is)
three_is_told refusal.SourceTooLong call fb fn status is cause no_fault some = is
three_is_told (refusal.Source why) call fb fn status is cause no_fault some = is
three_is_told refusal.JournalTooLong call fb fn status is cause no_fault some = is
three_is_told (refusal.JournalLine number) call fb fn status is cause no_fault some = is
three_is_told refusal.JournalVersion call fb fn status is cause no_fault some = is

-- 3 comes only where not all that is read is accepted, and wherever something told is not, but for 5 and 7
pub input_is_refused_exactly : (call : Words) (fb fn : FilesState) (outcome : Outcome) (before now : SinkState)
    → IsEnded call fb fn outcome before now → IsRefusedExactly fb.told call outcome.status
input_is_refused_exactly call fb fn outcome before now (inl done) = record {
  only = λ three there. absurd (done_call_has_no_refusal call fb.told outcome before now refusal.SourceTooLong done three);
  wherever = λ not_accepted no_fault some. absurd (not_accepted (done_input_is_accepted fb.told call done.left done.done));
}
input_is_refused_exactly call fb fn outcome before now (inr refused) = record {
  only = λ three there accepted.
      accepted_input_is_not_refused call fb fn refused.refusal refused.cause (sym refused.is_told.status ∙ three) there accepted;
  wherever = λ not_accepted no_fault some. three_is_told refused.refusal call fb fn outcome.status refused.is_told.status refused.cause no_fault some;
}

-- the status of a run that was written whole
pub written_run_has_its_status : (told : Told) (call : Words) (status : ℕ) (ran : Option RanLists) (before now : SinkState)
    → IfSome ran (λ r. HasHeadline told call status r before now) → IfSome ran (λ r. status ≢ 6 → HasRunStatus status r)
written_run_has_its_status told call status None before now h = tt
written_run_has_its_status told call status (Some ran) before now h = λ no_fault. elim h.headline.written [
  | inl w ↦ run_has_its_status ran status w.as_own
  | inr w ↦ absurd (no_fault w.as_fault)
]

-- with accepted inputs and no fault, a command is done and written whole
pub call_is_complete : (call : Words) (fb fn : FilesState) (outcome : Outcome) (before now : SinkState)
    → IsEnded call fb fn outcome before now → IsComplete call fb fn outcome.status before now
call_is_complete call fb fn outcome before now (inl done) = λ there accepted no_read no_write. elim done.written [
  | inl w ↦ inl (subst (IsStatusOf call) (sym w.as_own) (left_has_status fb.told call done.left done.done))
  | inr w ↦ absurd (no_write w.faults)
]
call_is_complete call fb fn outcome before now (inr refused) = λ there accepted no_read no_write.
    inr (memory_is_told refused.refusal refused.is_told.status refused.cause no_read
    (λ three. accepted_input_is_not_refused call fb fn refused.refusal refused.cause three there accepted))
  where
    memory_is_told : (told : Refusal) → outcome.status ≡ refusal_status told → HasCause call fb fn told → ¬ RoseBy 1 fb.faults fn.faults
        → (refusal_status told ≡ 3 → ⊥) → outcome.status ≡ 7
    memory_is_told refusal.NoMemory is cause no_read no_three = is
    memory_is_told refusal.Words is cause no_read no_three = absurd (words_are_no_cause call fb fn cause)
    memory_is_told refusal.ReadFault is cause no_read no_three = absurd (no_read (read_fault_was_counted call fb fn cause))
    memory_is_told refusal.SourceTooLong is cause no_read no_three = absurd (no_three refl)
    memory_is_told (refusal.Source why) is cause no_read no_three = absurd (no_three refl)
    memory_is_told refusal.JournalTooLong is cause no_read no_three = absurd (no_three refl)
    memory_is_told (refusal.JournalLine number) is cause no_read no_three = absurd (no_three refl)
    memory_is_told refusal.JournalVersion is cause no_read no_three = absurd (no_three refl)

-- where a command was refused, or there was no memory to tell why, it came to nothing
pub told_refusal_ends_the_call : (call : Words) (fb fn : FilesState) (outcome : Outcome) (before now : SinkState) (refused : Refusal)
    → HasCause call fb fn refused → IsToldRefusal refused outcome before now ⊎ IsToldRefusal refusal.NoMemory outcome before now
    → IsEnded call fb fn outcome before now
told_refusal_ends_the_call call fb fn outcome before now refused cause (inl is) = inr (record { refusal = refused; cause = cause; is_told = is })
told_refusal_ends_the_call call fb fn outcome before now refused cause (inr is) =
    inr (record { refusal = refusal.NoMemory; cause = memory_needs_no_cause call fb fn; is_told = is })

-- want of memory ends every call, whatever its words say
pub memory_ends_the_call : (accepted : Option Words) (fb fn : FilesState) (outcome : Outcome) (before now : SinkState)
    → IsToldRefusal refusal.NoMemory outcome before now → IfSome accepted (λ call. IsEnded call fb fn outcome before now)
memory_ends_the_call None fb fn outcome before now is = tt
memory_ends_the_call (Some call) fb fn outcome before now is =
    inr (record { refusal = refusal.NoMemory; cause = memory_needs_no_cause call fb fn; is_told = is })

-- files that nobody touched go on
pub untouched_files_go_on : (files : FilesState) → GoOn files files
untouched_files_go_on files = record { told = λ file. refl; faults = omega arith; taken = omega arith }
