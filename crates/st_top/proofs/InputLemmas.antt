-- Which inputs are refused.
use Rattle.std.proofs.Common.{◌≡◌, ℕ, ◌<◌, ◌≤◌, List, length, Option, Some, None, IsSome, IfSome, inl, inr, ap, subst, arith}
use Rattle.st_gen.specs.Source.{source_text}
use Rattle.st_io.specs.States.{FilesState}
use Rattle.st_journal.specs.Format.{FileLists, IsFile}
use Rattle.st_source.specs.Accepted.{IsAccepted}
use Rattle.st_ast.specs.declared.declarations.Program.{Program}
use Rattle.st_top.specs.Causes.{IsSourceCause, IsJournalCause, IsTextCause, IsJournalText}
use Rattle.st_top.specs.Commands.{Told, IsDone, HasCause, IsInputAccepted, IsInputTold}
use Rattle.st_top.specs.Deeds.{Left, IsJournalOf, IsOfJournal}
use Rattle.st_top.specs.Programs.{IsOfSource}
use Rattle.st_top.specs.Refusals.{refusal_status}
use Rattle.st_top.specs.declared.errors.Refusal.{Refusal}
use Rattle.st_top.specs.declared.errors.Refusal.TheVariants.{Words, NoMemory, ReadFault, SourceTooLong, Source, JournalTooLong, JournalLine, JournalVersion}
use Rattle.st_words.specs.declared.words.Words.{Words as CallWords}
use Rattle.st_words.specs.declared.words.Words.TheVariants as words

-- a source that is told and accepted is not refused
accepted_source_is_not_refused : (told : Option (List ℕ)) (before now : FilesState) (refusal : Refusal)
    → IsSourceCause told before now refusal → refusal_status refusal ≡ 3 → IsSome told → IfSome told IsAccepted → ⊥
accepted_source_is_not_refused None before now refusal cause three there accepted = cc
accepted_source_is_not_refused (Some text) before now SourceTooLong cause three there accepted =
    let long : 1048576 < length text = cause.longer in
    let short : length text ≤ 1048576 = accepted.source.spelled.short in
    omega (arith, long, short)
accepted_source_is_not_refused (Some text) before now (Source why) cause three there accepted = cause.not_accepted accepted
accepted_source_is_not_refused (Some text) before now NoMemory cause three there accepted = omega (arith, three)
accepted_source_is_not_refused (Some text) before now ReadFault cause three there accepted = omega (arith, three)
accepted_source_is_not_refused (Some text) before now Words cause three there accepted = cause
accepted_source_is_not_refused (Some text) before now JournalTooLong cause three there accepted = cause
accepted_source_is_not_refused (Some text) before now (JournalLine number) cause three there accepted = cause
accepted_source_is_not_refused (Some text) before now JournalVersion cause three there accepted = cause

-- nor is a journal
accepted_journal_is_not_refused : (told : Option (List ℕ)) (before now : FilesState) (refusal : Refusal)
    → IsJournalCause told before now refusal → refusal_status refusal ≡ 3 → IsSome told → IfSome told IsJournalText → ⊥
unfolding IsJournalText
accepted_journal_is_not_refused None before now refusal cause three there accepted = cc
accepted_journal_is_not_refused (Some text) before now JournalTooLong cause three there accepted =
    let long : 67108864 < length text = cause.longer in
    let short : length text ≤ 67108864 = accepted.2.short in
    omega (arith, long, short)
accepted_journal_is_not_refused (Some text) before now (JournalLine number) cause three there accepted = cause.not_journal accepted
accepted_journal_is_not_refused (Some text) before now JournalVersion cause three there accepted = cause.not_journal accepted
accepted_journal_is_not_refused (Some text) before now NoMemory cause three there accepted = omega (arith, three)
accepted_journal_is_not_refused (Some text) before now ReadFault cause three there accepted = omega (arith, three)
accepted_journal_is_not_refused (Some text) before now Words cause three there accepted = cause
accepted_journal_is_not_refused (Some text) before now SourceTooLong cause three there accepted = cause
accepted_journal_is_not_refused (Some text) before now (Source why) cause three there accepted = cause

-- nor is a text that is read from no file
accepted_text_is_not_refused : (text : List ℕ) (refusal : Refusal) → IsTextCause text refusal → refusal_status refusal ≡ 3 → IsAccepted text → ⊥
accepted_text_is_not_refused text (Source why) cause three accepted = cause.not_accepted accepted
accepted_text_is_not_refused text NoMemory cause three accepted = omega (arith, three)
accepted_text_is_not_refused text Words cause three accepted = cause
accepted_text_is_not_refused text ReadFault cause three accepted = cause
accepted_text_is_not_refused text SourceTooLong cause three accepted = cause
accepted_text_is_not_refused text JournalTooLong cause three accepted = cause
accepted_text_is_not_refused text (JournalLine number) cause three accepted = cause
accepted_text_is_not_refused text JournalVersion cause three accepted = cause

-- where all that a command reads is told and accepted, no refusal with status 3 has a cause
pub accepted_input_is_not_refused : (call : CallWords) (before now : FilesState) (refusal : Refusal)
    → HasCause call before now refusal → refusal_status refusal ≡ 3 → IsInputTold before.told call → IsInputAccepted before.told call → ⊥
accepted_input_is_not_refused (words.Run call) before now refusal cause three there accepted =
    accepted_source_is_not_refused (before.told call.file) before now refusal cause three there accepted
accepted_input_is_not_refused (words.Check file) before now refusal cause three there accepted =
    accepted_source_is_not_refused (before.told file) before now refusal cause three there accepted
accepted_input_is_not_refused (words.Audit file journal) before now refusal (inl cause) three there accepted =
    accepted_source_is_not_refused (before.told file) before now refusal cause three there.0 accepted.0
accepted_input_is_not_refused (words.Audit file journal) before now refusal (inr cause) three there accepted =
    accepted_journal_is_not_refused (before.told journal) before now refusal cause.1 three there.1 accepted.1
accepted_input_is_not_refused (words.Gen n) before now refusal cause three there accepted =
    let memory : refusal_status refusal ≡ 7 = ap refusal_status cause in omega (arith, three, memory)
accepted_input_is_not_refused (words.Demo n) before now refusal cause three there accepted =
    accepted_text_is_not_refused (source_text n) refusal cause three accepted

-- a source of a program is accepted
pub source_is_accepted : (told : Option (List ℕ)) (program : Program) → IsOfSource told program → IfSome told IsAccepted
source_is_accepted None program h = tt
source_is_accepted (Some text) program h = subst IsAccepted h.told (record { tree = program; source = h.spelled })

journal_is_accepted : (told : Option (List ℕ)) (file : FileLists) → IsFile file → IsOfJournal told file → IfSome told IsJournalText
unfolding IsJournalText
journal_is_accepted None file fits h = tt
journal_is_accepted (Some text) file fits h = (file, fits, subst (λ (bytes : List ℕ). IsJournalOf bytes file) h.told h.spelled)

-- what was done was accepted
pub done_input_is_accepted : (told : Told) (call : CallWords) (left : Left) → IsDone told call left → IsInputAccepted told call
done_input_is_accepted told (words.Run call) left done = source_is_accepted (told call.file) done.run.program done.run.accepted
done_input_is_accepted told (words.Check file) left done = source_is_accepted (told file) done.program done.accepted
done_input_is_accepted told (words.Audit file journal) left done =
    (source_is_accepted (told file) done.program done.accepted, journal_is_accepted (told journal) done.file done.fits done.read)
done_input_is_accepted told (words.Gen n) left done = tt
done_input_is_accepted told (words.Demo n) left done = source_is_accepted (Some (source_text n)) done.run.program done.run.accepted
