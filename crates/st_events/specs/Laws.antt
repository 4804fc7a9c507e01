-- The laws of all journals: of every shape, all sizes and any events.
use Rattle.std.specs.Prelude.{◌≡◌, ℕ, ◌*◌, ◌/◌, ◌+◌, ◌≤◌, ◌<◌, ◌⊎◌, Bool, true, false, List, [], ◌∷◌, ◌++◌, length, filter, All, Some}
use Rattle.st_events.specs.declared.events.Args.{Args}
use Rattle.st_events.specs.declared.events.Event.{Event}
use Rattle.st_events.specs.declared.events.Event.TheVariants.{Launch, Retire}
use Rattle.st_events.specs.declared.limits.Sizes.{Sizes}
use Rattle.st_events.specs.declared.verdicts.Verdict.{Verdict}
use Rattle.st_events.specs.Shape.{ShapeLists, IsWithinLimits}
use Rattle.st_events.specs.World.{Launched, next, world_after, is_among, is_lost}
use Rattle.st_events.specs.Legal.{IsLegal, IsLegalNext}
use Rattle.st_events.specs.History.{heap_after, epoch_of, made_by, active_checks, launch_of, lost_pairs, objects_of}
use Rattle.st_events.specs.History.{IsLaunchIn, IsRetireIn, is_launch, is_new_of, own_events, charge_of_all}
use Rattle.st_events.specs.Judge.{IsJudge, IsRightByLaunch, AllowsMoreLost}
use Rattle.st_events.specs.Words.{BringsWords, HoldsWords, IsLaunchOfWords}
use Rattle.st_events.specs.Sound.{Extends, IsSoundWorld}

-- the empty journal is legal; one event more makes of a journal's world its next, and keeps it legal where the event is legal after
-- it; and in a legal journal each event is legal after those before it
pub record GrowByEvents : Type 0 where
  pub empty : (shape : ShapeLists) (sizes : Sizes) → IsLegal shape sizes []
  pub world :
      (shape : ShapeLists) (sizes : Sizes) (es : List Event) (e : Event)
      → world_after shape sizes (es ++ e ∷ []) ≡ next shape sizes (world_after shape sizes es) e
  pub legal :
      (shape : ShapeLists) (sizes : Sizes) (es : List Event) (e : Event)
      → IsLegal shape sizes es
      → IsLegalNext shape sizes (world_after shape sizes es) e
      → IsLegal shape sizes (es ++ e ∷ [])
  pub each :
      (shape : ShapeLists) (sizes : Sizes) (before rest : List Event) (e : Event)
      → IsLegal shape sizes (before ++ e ∷ rest)
      → IsLegalNext shape sizes (world_after shape sizes before) e

-- a prefix of a legal journal is legal
abbrev pub HaveLegalPrefixes : Type 0
HaveLegalPrefixes = (shape : ShapeLists) (sizes : Sizes) (es fs : List Event) → IsLegal shape sizes (es ++ fs) → IsLegal shape sizes es

-- the world after every legal journal is sound: the heap is typed, launches count from 1, active checks have lanes, versions are noted, rows are
-- apart, and launches fit
abbrev pub HaveSoundWorlds : Type 0
HaveSoundWorlds =
    (shape : ShapeLists) (sizes : Sizes) → IsWithinLimits shape
    → (es : List Event)
    → IsLegal shape sizes es → IsSoundWorld shape sizes (world_after shape sizes es)

-- a cell stays in every legal extension, in an object of the same class; so does what is known of a launch, and a lost version
pub record KeepThePast : Type 0 where
  pub cells :
      (shape : ShapeLists) (sizes : Sizes) → IsWithinLimits shape
      → (es fs : List Event)
      → IsLegal shape sizes (es ++ fs)
      → Extends (heap_after shape sizes es) (heap_after shape sizes (es ++ fs))
  pub launches :
      (shape : ShapeLists) (sizes : Sizes) → IsWithinLimits shape
      → (es fs : List Event) (n : ℕ) (launch : Launched)
      → IsLegal shape sizes (es ++ fs)
      → launch_of shape sizes es n ≡ Some launch
      → launch_of shape sizes (es ++ fs) n ≡ Some launch
  pub lost :
      (shape : ShapeLists) (sizes : Sizes) (es fs : List Event) (obj n : ℕ)
      → is_lost (lost_pairs shape sizes es) obj n ≡ true
      → is_lost (lost_pairs shape sizes (es ++ fs)) obj n ≡ true

-- a pool of at least `lanes * (objects + 1)` copies, for the objects of the whole journal, never loses a version
abbrev pub LoseNothing : Type 0
LoseNothing =
    (shape : ShapeLists) (sizes : Sizes) → IsWithinLimits shape
    → (es : List Event)
    → IsLegal shape sizes es
    → sizes.lanes * (objects_of es + 1) ≤ sizes.copies
    → lost_pairs shape sizes es ≡ []

-- a check that is known as launched was launched by an event of the journal, and its past is the heap before that event; what is
-- known of a check is what its Launch says, wherever in a legal journal it stands; and each number is launched at one ticket alone
pub record TellOfLaunches : Type 0 where
  pub found :
      (shape : ShapeLists) (sizes : Sizes) (es : List Event) (n : ℕ) (launch : Launched)
      → launch_of shape sizes es n ≡ Some launch
      → IsLaunchIn shape sizes es n launch
  pub known :
      (shape : ShapeLists) (sizes : Sizes) → IsWithinLimits shape
      → (before rest : List Event) (thread n site : ℕ) (args : Args)
      → IsLegal shape sizes (before ++ Launch thread site n args ∷ rest)
      → launch_of shape sizes (before ++ Launch thread site n args ∷ rest) n
      ≡ Some (record { past = heap_after shape sizes before; thread = thread; site = site; args = args })
  pub one_ticket :
      (shape : ShapeLists) (sizes : Sizes)
      → (before rest before' rest' : List Event) (n thread site thread' site' : ℕ) (args args' : Args)
      → IsLegal shape sizes (before ++ Launch thread site n args ∷ rest)
      → before ++ Launch thread site n args ∷ rest ≡ before' ++ Launch thread' site' n args' ∷ rest'
      → before ≡ before'

-- a check that was launched is active, or was retired by an event of the journal; not both; only launched checks are retired; and each
-- number is retired at one ticket alone, by one thread
pub record TellOfRetires : Type 0 where
  pub active_or_retired :
      (shape : ShapeLists) (sizes : Sizes) (es : List Event) (n : ℕ) (launch : Launched)
      → launch_of shape sizes es n ≡ Some launch
      → (is_among (active_checks shape sizes es) n ≡ true) ⊎ ((thread : ℕ) × IsRetireIn es n thread)
  pub not_both :
      (shape : ShapeLists) (sizes : Sizes) → IsWithinLimits shape
      → (es : List Event) (n thread : ℕ)
      → IsLegal shape sizes es
      → IsRetireIn es n thread
      → is_among (active_checks shape sizes es) n ≡ false
  pub launched :
      (shape : ShapeLists) (sizes : Sizes) → IsWithinLimits shape
      → (es : List Event) (n thread : ℕ)
      → IsLegal shape sizes es
      → IsRetireIn es n thread
      → (launch : Launched) × (launch_of shape sizes es n ≡ Some launch)
  pub one_ticket :
      (shape : ShapeLists) (sizes : Sizes) → IsWithinLimits shape
      → (before rest before' rest' : List Event) (n thread thread' : ℕ)
      → IsLegal shape sizes (before ++ Retire thread n ∷ rest)
      → before ++ Retire thread n ∷ rest ≡ before' ++ Retire thread' n ∷ rest'
      → (before ≡ before') × (thread ≡ thread')

-- the epoch is the number of Launch events, and a mutator has made as many objects as it has New events
pub record CountEvents : Type 0 where
  pub epoch :
      (shape : ShapeLists) (sizes : Sizes) (es : List Event)
      → epoch_of shape sizes es ≡ length (filter is_launch es)
  pub made :
      (shape : ShapeLists) (sizes : Sizes) (es : List Event) (m : ℕ)
      → made_by shape sizes es m ≡ length (filter (is_new_of m) es)

-- where no mutator's own events take more than its charge, the launches of a legal journal are at most as many as all charges pay for, two for each
abbrev pub PayForLaunches : Type 0
PayForLaunches =
    (shape : ShapeLists) (sizes : Sizes) (es : List Event)
    → IsLegal shape sizes es
    → ((m : ℕ) → m < sizes.mutators → charge_of_all (own_events m es) ≤ sizes.events)
    → epoch_of shape sizes es ≤ sizes.mutators * (sizes.events / 2)

-- where the events bring words, the heap after them holds words, and so does each launch
pub record KeepWords : Type 0 where
  pub heap :
      (shape : ShapeLists) (sizes : Sizes) (es : List Event)
      → All BringsWords es
      → HoldsWords (heap_after shape sizes es)
  pub launches :
      (shape : ShapeLists) (sizes : Sizes) (es : List Event) (n : ℕ) (launch : Launched)
      → All BringsWords es
      → launch_of shape sizes es n ≡ Some launch
      → IsLaunchOfWords launch

-- a test of a launch, of what is lost for its check, and of a verdict, that holds also where more is lost, makes a judge: what is right for a
-- legal journal is right for every legal journal that has it as a prefix, and only a launched check has a right verdict
abbrev pub JudgeByLaunches : Type 0
JudgeByLaunches =
    (shape : ShapeLists) → IsWithinLimits shape
    → (test : Sizes → Launched → (ℕ → Bool) → Verdict → Bool)
    → AllowsMoreLost (λ sizes launch lost verdict. test sizes launch lost verdict ≡ true)
    → IsJudge shape (IsRightByLaunch (λ sizes launch lost verdict. test sizes launch lost verdict ≡ true) shape)
