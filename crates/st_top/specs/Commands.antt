-- The commands, a row each: what is left of one that was done, why one comes to nothing, and when all that it reads is accepted.
use Rattle.std.specs.Prelude.{◌≡◌, ℕ, ◌⊎◌, List, Option, IsSome, IfSome}
use Rattle.st_gen.specs.Source.{source_text}
use Rattle.st_io.specs.States.{FilesState}
use Rattle.st_source.specs.Accepted.{IsAccepted}
use Rattle.st_top.specs.Causes.{IsSourceCause, IsJournalCause, IsTextCause, IsJournalText}
use Rattle.st_top.specs.Deeds.{Left, IsRunAs, IsChecked, IsAudited, IsGenerated}
use Rattle.st_top.specs.Orders.{run_order, demo_order}
use Rattle.st_top.specs.declared.errors.Refusal.{Refusal}
use Rattle.st_top.specs.declared.errors.Refusal.TheVariants.{NoMemory}
use Rattle.st_words.specs.declared.words.Words.{Words}
use Rattle.st_words.specs.declared.words.Words.TheVariants as words

-- the bytes of the file of each name, where they are told
abbrev pub Told : Type 0
Told = List ℕ → Option (List ℕ)

-- the command was done, and this is left
abbrev pub IsDone : Told → Words → Left → Type 0
IsDone told (words.Run call) left = IsRunAs (run_order (told call.file) call) left
IsDone told (words.Check file) left = IsChecked (told file) left
IsDone told (words.Audit file journal) left = IsAudited (told file) (told journal) left
IsDone told (words.Gen n) left = IsGenerated n left
IsDone told (words.Demo n) left = IsRunAs (demo_order n) left

-- the cause of a refusal of the command, where its words are accepted; a journal is refused only where its source, if told, is accepted
abbrev pub HasCause : Words → FilesState → FilesState → Refusal → Type 0
HasCause (words.Run call) before now refusal = IsSourceCause (before.told call.file) before now refusal
HasCause (words.Check file) before now refusal = IsSourceCause (before.told file) before now refusal
HasCause (words.Audit file journal) before now refusal =
    IsSourceCause (before.told file) before now refusal
    ⊎ (IfSome (before.told file) IsAccepted × IsJournalCause (before.told journal) before now refusal)
HasCause (words.Gen n) before now refusal = refusal ≡ NoMemory
HasCause (words.Demo n) before now refusal = IsTextCause (source_text n) refusal

-- all that the command reads is accepted, where it is told
abbrev pub IsInputAccepted : Told → Words → Type 0
IsInputAccepted told (words.Run call) = IfSome (told call.file) IsAccepted
IsInputAccepted told (words.Check file) = IfSome (told file) IsAccepted
IsInputAccepted told (words.Audit file journal) = IfSome (told file) IsAccepted × IfSome (told journal) IsJournalText
IsInputAccepted told (words.Gen n) = Unit {0}
IsInputAccepted told (words.Demo n) = IsAccepted (source_text n)

-- each file that the command reads is told
abbrev pub IsInputTold : Told → Words → Type 0
IsInputTold told (words.Run call) = IsSome (told call.file)
IsInputTold told (words.Check file) = IsSome (told file)
IsInputTold told (words.Audit file journal) = IsSome (told file) × IsSome (told journal)
IsInputTold told (words.Gen n) = Unit {0}
IsInputTold told (words.Demo n) = Unit {0}

-- the command reads no file
abbrev pub ReadsNoFile : Words → Type 0
ReadsNoFile (words.Run call) = ⊥
ReadsNoFile (words.Check file) = ⊥
ReadsNoFile (words.Audit file journal) = ⊥
ReadsNoFile (words.Gen n) = Unit {0}
ReadsNoFile (words.Demo n) = Unit {0}
