-- What stays in memory where a check is launched
use Rattle.std.proofs.Common.{◌≡◌, ◌≢◌, ℕ, zero, suc, ◌+◌, ◌-◌, ◌<◌, ◌≤◌, ◌==◌, Bool, true, false, List, [], ◌∷◌, ◌++◌, length}
use Rattle.std.proofs.Common.{slice_get, Some, refl, sym, ◌∙◌, ap, subst, arith, length-append}
use Rattle.std.specs.List.{All}
use Rattle.std.proofs.lemmas.List.{map-append}
use Rattle.std.proofs.lemmas.List.Elements.{All-push}
use Rattle.st_events.specs.declared.events.Args.{Args}
use Rattle.st_events.specs.declared.events.Event.TheVariants.{Launch}
use Rattle.st_events.specs.declared.limits.Sizes.{Sizes}
use Rattle.st_events.specs.declared.verdicts.Verdict.{Verdict}
use Rattle.st_events.specs.LegalEvents.{LegalLaunch}
use Rattle.st_events.specs.Sizes.{AreWithinLimits}
use Rattle.st_events.specs.Terms.{ShapeLists, World, Launched, IsLegal, is_among, world_after, launch_of, active_checks, epoch_of}
use Rattle.st_events.proofs.AmongLemmas.{among_front, among_back, same_number, or_first}
use Rattle.st_events.proofs.ExtendsLemmas.{launch_stays}
use Rattle.st_events.proofs.LegalEvents.{legal_launch}
use Rattle.st_events.proofs.LegalLemmas.{each_is_legal, prefix_is_legal}
use Rattle.st_events.proofs.SoundLemmas.{legal_is_sound}
use Rattle.st_events.proofs.WorldLemmas.{world_after_one_more, at_same}
use Rattle.st_resolved.specs.Terms.{Program}
use Rattle.st_resolved.specs.WellFormed.{IsWellFormed}
use Rattle.st_check_meaning.specs.Plain.{check_course}
use Rattle.st_check_meaning.specs.Turns.{turn_of}
use Rattle.st_thread_meaning.specs.Right.{words_of}
use Rattle.st_eval.specs.Evaluations.{IsMadeFor, budget}
use Rattle.st_snap.specs.declared.lanes.Lane.{Lane}
use Rattle.st_snap.specs.Snapshots.{IsLaneOf}
use Rattle.st_run_meaning.specs.States.{State, has_read}
use Rattle.st_sched.specs.declared.checks.ActiveCheck.{ActiveCheck}
use Rattle.st_sched.specs.Checks.{AwaitsTurn}
use Rattle.st_sched.specs.Choosing.{numbers}
use Rattle.st_sched.specs.Standing.{IsInMemory, AreChecks, HasVerdict, AreVerdicts, HasCome, heap_of_journal}
use Rattle.st_sched.specs.UnderWay.{with_launch}
use Rattle.st_sched.proofs.CellLemmas.{launch_reads_well}
use Rattle.st_sched.proofs.CourseLemmas.{turn_has_come, first_turn_is_whole}
use Rattle.st_sched.proofs.RetireLemmas.{check_stays}

-- what is known of the launched check
abbrev launched_now : ShapeLists → Sizes → State → ℕ → ℕ → Args → Launched
launched_now shape sizes s m site args = record { past = (world_after shape sizes s.journal).heap; thread = m; site = site; args = args }

world_after_launch :
    (shape : ShapeLists) (sizes : Sizes) (s : State) (m site : ℕ) (args : Args)
    → (launch_of shape sizes (with_launch shape sizes m site args s).journal (epoch_of shape sizes s.journal + 1) ≡ Some (launched_now shape sizes s m site args))
    × (active_checks shape sizes (with_launch shape sizes m site args s).journal ≡ active_checks shape sizes s.journal ++ (epoch_of shape sizes s.journal + 1) ∷ [])
    × (epoch_of shape sizes (with_launch shape sizes m site args s).journal ≡ epoch_of shape sizes s.journal + 1)
world_after_launch shape sizes s m site args =
    let n = epoch_of shape sizes s.journal + 1 in
    let w = world_after shape sizes s.journal in
    let one = world_after_one_more shape sizes s.journal (Launch m site n args) in
    (ap (λ (w : World). w.launched n) one ∙ at_same n (Some (launched_now shape sizes s m site args)) w.launched, ap (λ (w : World). w.active) one, ap (λ (w : World). w.epoch) one)

-- where the journal with the launch is legal, the launch is legal in the world before it
pub launch_is_legal_there :
    (shape : ShapeLists) (sizes : Sizes) (s : State) (m site : ℕ) (args : Args)
    → IsLegal shape sizes (with_launch shape sizes m site args s).journal
    → LegalLaunch shape sizes (world_after shape sizes s.journal) m (epoch_of shape sizes s.journal + 1) site args
launch_is_legal_there shape sizes s m site args legal =
    legal_launch shape sizes (world_after shape sizes s.journal) m (epoch_of shape sizes s.journal + 1) site args
    (each_is_legal shape sizes s.journal [] (Launch m site (epoch_of shape sizes s.journal + 1) args) legal)

-- the active checks after a launch: those before, each as it was, and the new one, which has read nothing yet
pub checks_after_launch :
    (shape : ShapeLists) (p : Program) (sizes : Sizes) (s : State) (m site : ℕ) (args : Args) (checks : List ActiveCheck) (c : ActiveCheck)
    → IsWellFormed shape p
    → AreWithinLimits sizes
    → IsLegal shape sizes (with_launch shape sizes m site args s).journal
    → AreChecks shape p sizes s checks
    → ((other : Lane) → IsLaneOf (heap_of_journal shape sizes s.journal) other → IsLaneOf (heap_of_journal shape sizes (with_launch shape sizes m site args s).journal) other)
    → IsLaneOf (heap_of_journal shape sizes (with_launch shape sizes m site args s).journal) c.lane
    → c.lane.number ≡ epoch_of shape sizes s.journal + 1
    → IsMadeFor p c.eval
    → budget c.eval ≡ sizes.calls
    → AwaitsTurn p (turn_of (check_course p site (words_of args)) sizes.calls) c.awaits c.eval
    → s.progress (epoch_of shape sizes s.journal + 1) ≡ has_read 0
    → AreChecks shape p sizes (with_launch shape sizes m site args s) (checks ++ c ∷ [])
checks_after_launch shape p sizes s m site args checks c formed limits legal h others lane number made calls turn fresh = record { each = each; in_order = in_order }
  where
    later : State
    later = with_launch shape sizes m site args s

    launch : Launched
    launch = launched_now shape sizes s m site args

    first : LegalLaunch shape sizes (world_after shape sizes s.journal) m (epoch_of shape sizes s.journal + 1) site args
    first = launch_is_legal_there shape sizes s m site args legal

    come : HasCome p sizes launch c.eval c.awaits (s.progress c.lane.number)
    come =
        let reads = launch_reads_well shape p sizes launch (world_after shape sizes s.journal) formed limits
        (legal_is_sound shape sizes formed.shape_fits s.journal (prefix_is_legal shape sizes s.journal _ legal)) refl first.arguments in
        subst (HasCome p sizes launch c.eval c.awaits) (sym (ap s.progress number ∙ fresh))
        (turn_has_come p sizes launch (turn_of (check_course p site (words_of args)) sizes.calls) c.awaits c.eval 0 turn (first_turn_is_whole p sizes launch) reads.small)

    new : IsInMemory shape p sizes later c
    new = record {
      lane = lane;
      made = made;
      budget_is = calls;
      launch = launch;
      launched = ap (launch_of shape sizes later.journal) number ∙ (world_after_launch shape sizes s m site args).0;
      come = come;
    }

    each : All (IsInMemory shape p sizes later) (checks ++ c ∷ [])
    each = All-push (IsInMemory shape p sizes later) checks c
        (λ k d within. check_stays shape p sizes s later _ (others _)
        (λ l e. launch_stays shape sizes formed.shape_fits s.journal _ _ l legal e) refl (h.each k d within)) new

    in_order : numbers (checks ++ c ∷ []) ≡ active_checks shape sizes later.journal
    in_order =
        map-append (λ (x : ActiveCheck). x.lane.number) checks (c ∷ [])
        ∙ ap (λ (n : ℕ). numbers checks ++ n ∷ []) number
        ∙ ap (λ (ns : List ℕ). ns ++ (epoch_of shape sizes s.journal + 1) ∷ []) h.in_order
        ∙ sym (world_after_launch shape sizes s m site args).1

-- ---- verdicts

get_before_last : (vs : List Verdict) (v : Verdict) (i : ℕ) → i < length vs → slice_get (vs ++ v ∷ []) i ≡ slice_get vs i
get_before_last [] v i lt = absurd (omega (arith, lt))
get_before_last (x ∷ xs) v zero lt = refl
get_before_last (x ∷ xs) v (suc i) lt = get_before_last xs v i (omega (arith, lt))

not_in_front : (ns ks : List ℕ) (k : ℕ) → is_among (ns ++ ks) k ≡ false → is_among ns k ≡ false
not_in_front ns ks k h = by (is_among ns k) refl
  where
    by : (b : Bool) → is_among ns k ≡ b → is_among ns k ≡ false
    by true e = let f : false ≡ true = sym h ∙ among_front ns ks k e in cc
    by false e = e

-- after a launch there is one place more for a verdict, and the verdicts of retired checks stay
pub verdicts_after_launch :
    (shape : ShapeLists) (p : Program) (sizes : Sizes) (s : State) (m site : ℕ) (args : Args) (verdicts : List Verdict) (v : Verdict)
    → IsWellFormed shape p
    → IsLegal shape sizes (with_launch shape sizes m site args s).journal
    → AreVerdicts shape p sizes s verdicts
    → AreVerdicts shape p sizes (with_launch shape sizes m site args s) (verdicts ++ v ∷ [])
verdicts_after_launch shape p sizes s m site args verdicts v formed legal h = record {
  count = length-append verdicts (v ∷ []) ∙ ap (λ (n : ℕ). n + 1) h.count ∙ sym world.2;
  retired = λ k one most gone. other k one most (ap (λ (ns : List ℕ). is_among ns k) (sym world.1) ∙ gone);
}
  where
    later : State
    later = with_launch shape sizes m site args s

    n : ℕ
    n = epoch_of shape sizes s.journal + 1

    world : (launch_of shape sizes later.journal n ≡ Some (launched_now shape sizes s m site args))
        × (active_checks shape sizes later.journal ≡ active_checks shape sizes s.journal ++ n ∷ [])
        × (epoch_of shape sizes later.journal ≡ n)
    world = world_after_launch shape sizes s m site args

    other : (k : ℕ) → 1 ≤ k → k ≤ epoch_of shape sizes later.journal → is_among (active_checks shape sizes s.journal ++ n ∷ []) k ≡ false
        → HasVerdict shape p sizes later (verdicts ++ v ∷ []) k
    other k one most gone =
        let differ : k ≢ n = λ same. (let there : is_among (active_checks shape sizes s.journal ++ n ∷ []) n ≡ true =
        among_back (active_checks shape sizes s.journal) (n ∷ []) n (or_first (n == n) false (same_number n)) in
        let f : false ≡ true = sym gone ∙ ap (is_among (active_checks shape sizes s.journal ++ n ∷ [])) same ∙ there in cc) in
        let few : k ≤ epoch_of shape sizes s.journal = omega (arith, most, world.2, differ) in
        let was = h.retired k one few (not_in_front (active_checks shape sizes s.journal) (n ∷ []) k gone) in
        record {
          launch = was.launch;
          launched = launch_stays shape sizes formed.shape_fits s.journal _ k was.launch legal was.launched;
          stands = get_before_last verdicts v (k - 1) (omega (arith, few, one, h.count)) ∙ was.stands;
        }
