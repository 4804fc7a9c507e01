-- Which status a refusal has, and which cause.
use Rattle.std.proofs.Common.{◌≡◌, ℕ, ◌⊎◌, ◌<◌, List, length, Option, IfSome, inl, inr, refl, arith, subst, ◌∙◌}
use Rattle.st_io.specs.Counts.{RoseBy}
use Rattle.st_io.specs.States.{FilesState, GoOn}
use Rattle.st_top.specs.Causes.{IsJournalCause, IsBadAt, IsOfOtherVersion}
use Rattle.st_top.specs.Commands.{HasCause}
use Rattle.st_top.specs.Endings.{IsDoneStatus}
use Rattle.st_top.specs.Refusals.{refusal_status}
use Rattle.st_top.specs.declared.errors.Refusal.{Refusal}
use Rattle.st_top.specs.declared.errors.Refusal.TheVariants.{Words, NoMemory, ReadFault, SourceTooLong, Source, JournalTooLong, JournalLine, JournalVersion}
use Rattle.st_words.specs.declared.words.Words.{Words as CallWords}
use Rattle.st_words.specs.declared.words.Words.TheVariants as words

-- ---- statuses

-- the status of a refusal is 2, 3, 5 or 7
status_of_refusal : (refusal : Refusal) → (refusal_status refusal ≡ 2) ⊎ (refusal_status refusal ≡ 3) ⊎ (refusal_status refusal ≡ 5) ⊎ (refusal_status refusal ≡ 7)
status_of_refusal Words = inl refl
status_of_refusal NoMemory = inr (inr (inr refl))
status_of_refusal ReadFault = inr (inr (inl refl))
status_of_refusal SourceTooLong = inr (inl refl)
status_of_refusal (Source why) = inr (inl refl)
status_of_refusal JournalTooLong = inr (inl refl)
status_of_refusal (JournalLine number) = inr (inl refl)
status_of_refusal JournalVersion = inr (inl refl)

-- a status of a command that was done is none of these
done_is_another : (n : ℕ) → IsDoneStatus n → (n ≡ 2) ⊎ (n ≡ 3) ⊎ (n ≡ 5) ⊎ (n ≡ 7) → ⊥
done_is_another n (inl p) (inl q) = omega (arith, p, q)
done_is_another n (inl p) (inr (inl q)) = omega (arith, p, q)
done_is_another n (inl p) (inr (inr (inl q))) = omega (arith, p, q)
done_is_another n (inl p) (inr (inr (inr q))) = omega (arith, p, q)
done_is_another n (inr (inl p)) (inl q) = omega (arith, p, q)
done_is_another n (inr (inl p)) (inr (inl q)) = omega (arith, p, q)
done_is_another n (inr (inl p)) (inr (inr (inl q))) = omega (arith, p, q)
done_is_another n (inr (inl p)) (inr (inr (inr q))) = omega (arith, p, q)
done_is_another n (inr (inr (inl p))) (inl q) = omega (arith, p, q)
done_is_another n (inr (inr (inl p))) (inr (inl q)) = omega (arith, p, q)
done_is_another n (inr (inr (inl p))) (inr (inr (inl q))) = omega (arith, p, q)
done_is_another n (inr (inr (inl p))) (inr (inr (inr q))) = omega (arith, p, q)
done_is_another n (inr (inr (inr (inl p)))) (inl q) = omega (arith, p, q)
done_is_another n (inr (inr (inr (inl p)))) (inr (inl q)) = omega (arith, p, q)
done_is_another n (inr (inr (inr (inl p)))) (inr (inr (inl q))) = omega (arith, p, q)
done_is_another n (inr (inr (inr (inl p)))) (inr (inr (inr q))) = omega (arith, p, q)
done_is_another n (inr (inr (inr (inr p)))) (inl q) = omega (arith, p, q)
done_is_another n (inr (inr (inr (inr p)))) (inr (inl q)) = omega (arith, p, q)
done_is_another n (inr (inr (inr (inr p)))) (inr (inr (inl q))) = omega (arith, p, q)
done_is_another n (inr (inr (inr (inr p)))) (inr (inr (inr q))) = omega (arith, p, q)

-- no refusal has the status of a command that was done
pub done_is_no_refusal : (refusal : Refusal) (status : ℕ) → status ≡ refusal_status refusal → IsDoneStatus status → ⊥
done_is_no_refusal refusal status is done = done_is_another (refusal_status refusal) (subst IsDoneStatus is done) (status_of_refusal refusal)

-- ---- which refusal a status tells

-- 2 tells that the words are refused, which is no cause where they are accepted
pub words_are_no_cause : (call : CallWords) (before now : FilesState) → HasCause call before now Words → ⊥
words_are_no_cause (words.Run call) before now cause = cause
words_are_no_cause (words.Check file) before now cause = cause
words_are_no_cause (words.Audit file journal) before now (inl cause) = cause
words_are_no_cause (words.Audit file journal) before now (inr cause) = cause.1
words_are_no_cause (words.Gen n) before now cause = cc
words_are_no_cause (words.Demo n) before now cause = cause

-- status 2 is that of wrong words alone
pub two_tells_words : (refusal : Refusal) → refusal_status refusal ≡ 2 → refusal ≡ Words
two_tells_words Words is = refl
two_tells_words NoMemory is = absurd (omega (arith, is))
two_tells_words ReadFault is = absurd (omega (arith, is))
two_tells_words SourceTooLong is = absurd (omega (arith, is))
two_tells_words (Source why) is = absurd (omega (arith, is))
two_tells_words JournalTooLong is = absurd (omega (arith, is))
two_tells_words (JournalLine number) is = absurd (omega (arith, is))
two_tells_words JournalVersion is = absurd (omega (arith, is))

-- 5 tells a fault of reading, which was counted
pub five_tells_a_fault : (refusal : Refusal) → refusal_status refusal ≡ 5 → refusal ≡ ReadFault
five_tells_a_fault ReadFault is = refl
five_tells_a_fault Words is = absurd (omega (arith, is))
five_tells_a_fault NoMemory is = absurd (omega (arith, is))
five_tells_a_fault SourceTooLong is = absurd (omega (arith, is))
five_tells_a_fault (Source why) is = absurd (omega (arith, is))
five_tells_a_fault JournalTooLong is = absurd (omega (arith, is))
five_tells_a_fault (JournalLine number) is = absurd (omega (arith, is))
five_tells_a_fault JournalVersion is = absurd (omega (arith, is))

-- a read fault that a command told was counted by the files
pub read_fault_was_counted : (call : CallWords) (before now : FilesState) → HasCause call before now ReadFault → RoseBy 1 before.faults now.faults
read_fault_was_counted (words.Run call) before now cause = cause
read_fault_was_counted (words.Check file) before now cause = cause
read_fault_was_counted (words.Audit file journal) before now (inl cause) = cause
read_fault_was_counted (words.Audit file journal) before now (inr cause) = cause.1
read_fault_was_counted (words.Gen n) before now cause = cc
read_fault_was_counted (words.Demo n) before now cause = absurd cause

-- want of memory needs no cause
pub memory_needs_no_cause : (call : CallWords) (before now : FilesState) → HasCause call before now NoMemory
memory_needs_no_cause (words.Run call) before now = tt
memory_needs_no_cause (words.Check file) before now = tt
memory_needs_no_cause (words.Audit file journal) before now = inl tt
memory_needs_no_cause (words.Gen n) before now = refl
memory_needs_no_cause (words.Demo n) before now = tt

-- ---- causes of files that are read one after another

-- the cause of a refusal at a file that was read after another is one of both reads together
pub later_cause_is_a_cause : (name : List ℕ) (first before now : FilesState) (refusal : Refusal)
    → GoOn first before → IsJournalCause (before.told name) before now refusal → IsJournalCause (first.told name) first now refusal
later_cause_is_a_cause name first before now NoMemory went cause = tt
later_cause_is_a_cause name first before now ReadFault went cause = let a = went.faults in omega (arith, a, cause)
later_cause_is_a_cause name first before now JournalTooLong went cause = record {
  taken = let a = went.taken in let b = cause.taken in omega (arith, a, b);
  longer = subst (λ (told : Option (List ℕ)). IfSome told (λ text. 67108864 < length text)) (went.told name) cause.longer;
}
later_cause_is_a_cause name first before now (JournalLine number) went cause =
    subst (λ (told : Option (List ℕ)). IfSome told (λ text. IsBadAt text number)) (went.told name) cause
later_cause_is_a_cause name first before now JournalVersion went cause =
    subst (λ (told : Option (List ℕ)). IfSome told IsOfOtherVersion) (went.told name) cause
later_cause_is_a_cause name first before now Words went cause = cause
later_cause_is_a_cause name first before now SourceTooLong went cause = cause
later_cause_is_a_cause name first before now (Source why) went cause = cause

-- what goes on twice goes on
pub go_on_twice : {a b c : FilesState} → GoOn a b → GoOn b c → GoOn a c
go_on_twice {a} {b} {c} first second = record {
  told = λ file. second.told file ∙ first.told file;
  faults = let x = first.faults in let y = second.faults in omega (arith, x, y);
  taken = let x = first.taken in let y = second.taken in omega (arith, x, y);
}
