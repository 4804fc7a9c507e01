-- From what was made of a program to what is left of a command.
use Rattle.std.proofs.Common.{◌≡◌, ℕ, List, Option, Some, None, refl, sym, subst}
use Rattle.std.specs.List.{All}
use Rattle.st_ast.specs.declared.declarations.Program.{Program}
use Rattle.st_audit.specs.declared.findings.Finding.{Finding}
use Rattle.st_events.specs.declared.limits.Sizes.{Sizes}
use Rattle.st_events.specs.Terms.{RanLists, ShapeLists, AreWithinLimits, IsWithinLimits}
use Rattle.st_gen.specs.Source.{source_text}
use Rattle.st_io.specs.States.{FilesState}
use Rattle.st_journal.specs.Format.{FileLists, IsFile, HasUsedArgs}
use Rattle.st_resolved.specs.Terms.{Program as Numbers}
use Rattle.st_resolved.specs.WellFormed.{IsWellFormed}
use Rattle.st_report.specs.Status.{run_status}
use Rattle.st_run_meaning.specs.Runs.{scheduled_run}
use Rattle.st_thread_meaning.specs.Right.{IsRightRun}
use Rattle.st_top.specs.Causes.{IsSourceCause, IsJournalCause}
use Rattle.st_top.specs.Deeds.{Left, IsRunAs, IsChecked, IsGenerated, IsOfJournal, IsAnswer, IsAudited}
use Rattle.st_top.specs.Orders.{Order}
use Rattle.st_top.specs.Outputs.{audit_line, audit_status}
use Rattle.st_top.specs.Programs.{IsOfSource, mutators_of, accepted_line}
use Rattle.st_top.specs.declared.errors.Refusal.{Refusal}
use Rattle.st_top.specs.declared.errors.Refusal.TheVariants.{NoMemory}
use Rattle.st_top.proofs.RunLemmas.{IsShort, legal_journal_has_used_args, scheduled_run_is_short}
use Rattle.st_types.specs.Rules.{resolution, shape_of}

-- ---- the shape and the numbers of a program are those of its tree

-- what holds of both holds of those of the tree
pub holds_of_tree : (tree : Program) (shape : ShapeLists) (numbers : Numbers) (P : ShapeLists → Numbers → Type 0)
    → shape ≡ shape_of tree → numbers ≡ resolution tree → P shape numbers → P (shape_of tree) (resolution tree)
holds_of_tree tree shape numbers P same also h = subst (λ (p : Numbers). P (shape_of tree) p) also (subst (λ (s : ShapeLists). P s numbers) same h)

-- a scheduled run has a journal text
pub run_has_used_args : (shape : ShapeLists) (p : Numbers) (sizes : Sizes) (ran : RanLists) → IsWithinLimits shape → IsRightRun shape p sizes ran → All HasUsedArgs ran.journal
run_has_used_args shape p sizes ran fits right = legal_journal_has_used_args shape sizes ran.journal fits right.legal

-- a run that is the scheduled one has a journal text
pub run_is_short : (shape : ShapeLists) (p : Numbers) (sizes : Sizes) (seed : ℕ) (ran : RanLists)
    → IsWellFormed shape p → AreWithinLimits sizes → ran ≡ scheduled_run shape p sizes seed → IsShort ran
run_is_short shape p sizes seed ran formed limits is = subst IsShort (sym is) (scheduled_run_is_short shape p sizes seed formed limits)

-- ---- runs

same_left : (text output : List ℕ) (own status : ℕ) (ran : Option RanLists) → output ≡ text → status ≡ own
    → ◌≡◌ {A = Left} (record { output = output; status = status; ran = ran }) (record { output = text; status = own; ran = ran })
same_left text output own status ran same also = λ i. record { output = same i; status = also i; ran = ran }

-- a run with the sizes and the seed of the order is the one that was ordered
pub run_is_as_ordered : (order : Order) (tree : Program) (sizes : Sizes) (ran : RanLists) (output : List ℕ) (status : ℕ)
    → sizes ≡ order.sizes (mutators_of tree)
    → ran ≡ scheduled_run (shape_of tree) (resolution tree) sizes order.seed
    → IsRightRun (shape_of tree) (resolution tree) sizes ran
    → output ≡ order.output tree sizes ran
    → status ≡ run_status ran
    → IsOfSource order.source tree
    → IsRunAs order (record { output = output; status = status; ran = Some ran })
run_is_as_ordered order tree sizes ran output status asked by_seed right text own accepted = record {
  ran = ran;
  run = record { program = tree; accepted = accepted; sizes = sizes; as_asked = asked; by_seed = by_seed; right = right };
  is_left = same_left (order.output tree sizes ran) output (run_status ran) status (Some ran) text own;
}

-- ---- sources that are checked and generated

-- the line of counts is that of `check`
pub source_is_checked : (source : Option (List ℕ)) (tree : Program) (output : List ℕ)
    → output ≡ accepted_line tree
    → IsOfSource source tree
    → IsChecked source (record { output = output; status = 0; ran = None })
source_is_checked source tree output text accepted = record { program = tree; accepted = accepted; is_left = same_left (accepted_line tree) output 0 0 None text refl }

-- the text of a number is what `gen` leaves
pub source_is_generated : (n : ℕ) (output : List ℕ) → output ≡ source_text n → IsGenerated n (record { output = output; status = 0; ran = None })
source_is_generated n output text = same_left (source_text n) output 0 0 None text refl

-- ---- audits

-- the answer of the audit is what `audit` leaves
pub journal_is_audited : (source journal : Option (List ℕ)) (tree : Program) (file : FileLists) (found : Option Finding) (output : List ℕ) (status : ℕ)
    → IsFile file
    → IsAnswer tree file found
    → output ≡ audit_line found
    → status ≡ audit_status found
    → IsOfSource source tree
    → IsOfJournal journal file
    → IsAudited source journal (record { output = output; status = status; ran = None })
journal_is_audited source journal tree file found output status fits answer text own accepted read = record {
  program = tree;
  accepted = accepted;
  file = file;
  fits = fits;
  read = read;
  found = found;
  answer = answer;
  is_left = same_left (audit_line found) output (audit_status found) status None text own;
}

-- ---- want of memory

-- want of memory is a cause for any source
pub memory_is_a_source_cause : (told : Option (List ℕ)) (before now : FilesState) (refusal : Refusal) → refusal ≡ NoMemory → IsSourceCause told before now refusal
memory_is_a_source_cause told before now refusal is = subst (IsSourceCause told before now) (sym is) tt

-- and for any journal
pub memory_is_a_journal_cause : (told : Option (List ℕ)) (before now : FilesState) (refusal : Refusal) → refusal ≡ NoMemory → IsJournalCause told before now refusal
memory_is_a_journal_cause told before now refusal is = subst (IsJournalCause told before now) (sym is) tt
