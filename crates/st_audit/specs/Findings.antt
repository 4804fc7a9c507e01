-- What is asked of a journal and its verdicts, and what is found where it does not hold: the first reason in this order.
use Rattle.std.specs.Prelude.{◌≡◌, ◌≢◌, ℕ, ◌+◌, ◌<◌, List, length, Option, Some, None, slice_get}
use Rattle.st_events.specs.declared.events.Event.{Event}
use Rattle.st_events.specs.declared.limits.Sizes.{Sizes}
use Rattle.st_events.specs.declared.verdicts.Verdict.{Verdict}
use Rattle.st_events.specs.Terms.{ShapeLists, IsLegal, own_events, epoch_of}
use Rattle.st_events.specs.declared.errors.Why.{Why}
use Rattle.st_events.specs.declared.verdicts.Plain.{Plain}
use Rattle.st_events.specs.declared.verdicts.Verdict.TheVariants.{Plain as Value}
use Rattle.st_events.specs.Legal.{IsFirstIllegal}
use Rattle.st_resolved.specs.Terms.{Program}
use Rattle.st_thread_meaning.specs.Right.{IsRightVerdict}
use Rattle.st_audit.specs.declared.findings.Finding.{Finding}
use Rattle.st_audit.specs.declared.findings.Finding.TheVariants as found
use Rattle.st_audit.specs.declared.strays.Stray.{Stray}
use Rattle.st_audit.specs.declared.verdicts.Wrong.{Wrong}
use Rattle.st_audit.specs.Differences.{IsFirstDifference, IsTrace}

-- there is a mutator for each thread
abbrev pub HasItsThreads : Program → Sizes → Type 0
HasItsThreads p sizes = sizes.mutators ≡ length p.threads

-- the verdict at this index is right, if there is one; it is that of the check with the next number
abbrev pub IsRightAt : ShapeLists → Program → Sizes → List Event → List Verdict → ℕ → Type 0
IsRightAt shape p sizes es verdicts n = (verdict : Verdict) → slice_get verdicts n ≡ Some verdict → IsRightVerdict shape p sizes es (n + 1) verdict

-- A journal and its verdicts are right: there is a mutator for each thread, the journal is legal, each thread's own events follow its code to
-- some end, there are as many verdicts as launches, and each is right. Nothing is asked of checks that are still active.
pub record IsRightJournal (shape : ShapeLists) (p : Program) (sizes : Sizes) (es : List Event) (verdicts : List Verdict) : Type 0 where
  pub threads : HasItsThreads p sizes
  pub legal : IsLegal shape sizes es
  pub traces : (thread : ℕ) → thread < length p.threads → IsTrace p sizes es thread
  pub count : length verdicts ≡ epoch_of shape sizes es
  pub right : (n : ℕ) → IsRightAt shape p sizes es verdicts n

-- the event at this place is the first that is not legal
pub record IsNotLegal (shape : ShapeLists) (p : Program) (sizes : Sizes) (es : List Event) (place : ℕ) : Type 0 where
  pub threads : HasItsThreads p sizes
  pub why : Why
  pub first : IsFirstIllegal shape sizes es place why

-- the own events of the threads before this one follow their code, and its own event with this number is the first that differs
pub record IsFirstStray (p : Program) (sizes : Sizes) (es : List Event) (thread number : ℕ) : Type 0 where
  pub before : (earlier : ℕ) → earlier < thread → IsTrace p sizes es earlier
  pub is_thread : thread < length p.threads
  pub first : IsFirstDifference p sizes thread (own_events thread es) number

-- the events are legal, and this is the least thread whose own events are not what its code does
pub record IsNotTrace (shape : ShapeLists) (p : Program) (sizes : Sizes) (es : List Event) (thread number : ℕ) : Type 0 where
  pub threads : HasItsThreads p sizes
  pub legal : IsLegal shape sizes es
  pub stray : IsFirstStray p sizes es thread number

-- each thread's events follow its code, and there are so many launches, and another number of verdicts
pub record IsAnotherCount (shape : ShapeLists) (p : Program) (sizes : Sizes) (es : List Event) (verdicts : List Verdict) (launches count : ℕ) : Type 0 where
  pub threads : HasItsThreads p sizes
  pub legal : IsLegal shape sizes es
  pub traces : (thread : ℕ) → thread < length p.threads → IsTrace p sizes es thread
  pub launches_are : launches ≡ epoch_of shape sizes es
  pub verdicts_are : count ≡ length verdicts
  pub differ : count ≢ launches

-- the verdicts of the checks before this one are right, its own is not, and its plain value would be
pub record IsFirstWrong (shape : ShapeLists) (p : Program) (sizes : Sizes) (es : List Event) (verdicts : List Verdict) (number : ℕ) (plain : Plain) : Type 0 where
  pub index : ℕ
  pub number_is : number ≡ index + 1
  pub before : (n : ℕ) → n < index → IsRightAt shape p sizes es verdicts n
  pub verdict : Verdict
  pub its_verdict : slice_get verdicts index ≡ Some verdict
  pub wrong : ¬ IsRightVerdict shape p sizes es number verdict
  pub plain_is_right : IsRightVerdict shape p sizes es number (Value plain)

-- there is a verdict for each launch, and this check is the first whose verdict is wrong
pub record IsWrongVerdict (shape : ShapeLists) (p : Program) (sizes : Sizes) (es : List Event) (verdicts : List Verdict) (number : ℕ) (plain : Plain) : Type 0 where
  pub threads : HasItsThreads p sizes
  pub legal : IsLegal shape sizes es
  pub traces : (thread : ℕ) → thread < length p.threads → IsTrace p sizes es thread
  pub count : length verdicts ≡ epoch_of shape sizes es
  pub first : IsFirstWrong shape p sizes es verdicts number plain

-- what is found of all events: that they are legal, or the first that is not
abbrev pub AreReplayed : ShapeLists → Sizes → List Event → Option ℕ → Type 0
AreReplayed shape sizes es None = IsLegal shape sizes es
AreReplayed shape sizes es (Some place) = (why : Why) × IsFirstIllegal shape sizes es place why

-- what is found of one thread: that its own events follow its code, or that it is a stray, with its first own event that differs
abbrev pub IsComparedAlone : Program → Sizes → ℕ → List Event → Option Stray → Type 0
IsComparedAlone p sizes thread es None = IsTrace p sizes es thread
IsComparedAlone p sizes thread es (Some stray) = (stray.thread ≡ thread) × IsFirstDifference p sizes thread (own_events thread es) stray.event

-- what is found of the first so many threads: that the own events of each follow its code, or the first stray
abbrev pub AreComparedUpTo : Program → Sizes → List Event → ℕ → Option Stray → Type 0
AreComparedUpTo p sizes es count None = (thread : ℕ) → thread < count → IsTrace p sizes es thread
AreComparedUpTo p sizes es count (Some stray) = IsFirstStray p sizes es stray.thread stray.event

-- what is found of all threads: that the own events of each follow its code, or the first stray
abbrev pub AreCompared : Program → Sizes → List Event → Option Stray → Type 0
AreCompared p sizes es None = (thread : ℕ) → thread < length p.threads → IsTrace p sizes es thread
AreCompared p sizes es (Some stray) = IsFirstStray p sizes es stray.thread stray.event

-- what is found of all verdicts: that each that belongs to a launch is right, or the first that is wrong
abbrev pub AreJudged : ShapeLists → Program → Sizes → List Event → List Verdict → Option Wrong → Type 0
AreJudged shape p sizes es verdicts None = (n : ℕ) → n < epoch_of shape sizes es → IsRightAt shape p sizes es verdicts n
AreJudged shape p sizes es verdicts (Some wrong) = IsFirstWrong shape p sizes es verdicts wrong.number wrong.plain

-- What is found: the first of these reasons that applies. Want of memory says nothing.
abbrev pub IsFinding : ShapeLists → Program → Sizes → List Event → List Verdict → Finding → Type 0
IsFinding shape p sizes es verdicts found.Memory = Unit {0}
IsFinding shape p sizes es verdicts found.WrongSizes = ¬ HasItsThreads p sizes
IsFinding shape p sizes es verdicts (found.NotLegal place) = IsNotLegal shape p sizes es place
IsFinding shape p sizes es verdicts (found.NotTrace thread number) = IsNotTrace shape p sizes es thread number
IsFinding shape p sizes es verdicts (found.VerdictCount launches count) = IsAnotherCount shape p sizes es verdicts launches count
IsFinding shape p sizes es verdicts (found.WrongVerdict number plain) = IsWrongVerdict shape p sizes es verdicts number plain
