-- Why a call can come to nothing: the status and the line of each refusal.
use Rattle.std.specs.Prelude.{ℕ, List, ◌++◌, codes}
use Rattle.std.specs.Fmt.{decimal}
use Rattle.st_source.specs.Lines.{refusal_line as source_line}
use Rattle.st_top.specs.declared.errors.Refusal.{Refusal}
use Rattle.st_top.specs.declared.errors.Refusal.TheVariants.{Words, NoMemory, ReadFault, SourceTooLong, Source, JournalTooLong, JournalLine, JournalVersion}
use Rattle.st_top.specs.declared.statuses.TheConstants.{STATUS_WORDS, STATUS_INPUT, STATUS_READ_FAULT, STATUS_NO_MEMORY}

-- the status of a refusal
abbrev pub refusal_status : Refusal → ℕ
refusal_status Words = STATUS_WORDS
refusal_status NoMemory = STATUS_NO_MEMORY
refusal_status ReadFault = STATUS_READ_FAULT
refusal_status SourceTooLong = STATUS_INPUT
refusal_status (Source why) = STATUS_INPUT
refusal_status JournalTooLong = STATUS_INPUT
refusal_status (JournalLine number) = STATUS_INPUT
refusal_status JournalVersion = STATUS_INPUT

-- the line of a refusal
abbrev pub refusal_line : Refusal → List ℕ
refusal_line Words = codes "words refused\n"
refusal_line NoMemory = codes "no memory\n"
refusal_line ReadFault = codes "read fault\n"
refusal_line SourceTooLong = codes "source too long\n"
refusal_line (Source why) = source_line why
refusal_line JournalTooLong = codes "journal too long\n"
refusal_line (JournalLine number) = codes "journal line " ++ (decimal number ++ codes "\n")
refusal_line JournalVersion = codes "journal version\n"
