-- The run in memory where a check is launched
use Rattle.std.proofs.Common.{◌≡◌, ℕ, ◌+◌, ◌<◌, ◌≤◌, true, List, [], ◌∷◌, ◌++◌, length, slice_get, Some, sym, ◌∙◌, ap, subst, arith, length-append, vec_capacity}
use Rattle.std.specs.Prelude.{option_to_list}
use Rattle.std.specs.List.{All}
use Rattle.std.proofs.lemmas.List.Elements.{All-pop}
use Rattle.std.proofs.lemmas.Option.{slice_get_within, get_or_from_slice_get}
use Rattle.st_events.specs.declared.events.Args.{Args}
use Rattle.st_events.specs.declared.events.Event.TheVariants.{Launch}
use Rattle.st_events.specs.declared.shapes.TheConstants.{MOST_ARGS}
use Rattle.st_events.specs.declared.limits.Sizes.{Sizes}
use Rattle.st_events.specs.declared.shapes.Kind.{Kind}
use Rattle.st_events.specs.declared.verdicts.Verdict.{Verdict}
use Rattle.st_events.specs.Terms.{ShapeLists, IsLegal, World, active_checks, epoch_of}
use Rattle.st_resolved.specs.Terms.{Program}
use Rattle.st_check_meaning.specs.Plain.{check_course}
use Rattle.st_check_meaning.specs.Turns.{turn_of}
use Rattle.st_thread_meaning.specs.Right.{words_of}
use Rattle.st_eval.specs.declared.evals.Eval.{Eval}
use Rattle.st_eval.specs.Evaluations.{IsMadeFor, budget}
use Rattle.st_snap.specs.declared.lanes.Lane.{Lane}
use Rattle.st_snap.specs.Snapshots.{Snapshots, IsLaneOf, IsLegalHeap, HasSpare, world_of, active_now, are_args_of, with_event}
use Rattle.st_run_meaning.specs.States.{State, has_read}
use Rattle.st_run_meaning.proofs.RetiresLemmas.{world_after_retires}
use Rattle.st_sched.specs.declared.checks.ActiveCheck.{ActiveCheck}
use Rattle.st_sched.specs.declared.running.Running.{Running}
use Rattle.st_sched.specs.Checks.{AwaitsTurn}
use Rattle.st_sched.specs.Standing.{AreChecks, AreVerdicts, IsIdleEval, finished_in, heap_of_journal}
use Rattle.st_sched.specs.UnderWay.{HasRoom, IsHistory, Stands, IsUnderWay, IsFresh, CanLaunch, CanLaunchAfter, with_launch, with_retires}
use Rattle.st_sched.proofs.CellLemmas.{args_that_fit}
use Rattle.st_sched.proofs.LaunchLemmas.{launch_is_legal_there, checks_after_launch, verdicts_after_launch}
use Rattle.st_sched.proofs.RetireLemmas.{length_of_numbers}
use Rattle.st_sched.proofs.RunLemmas.{SameRoom, under_way_after}

-- what a launch asks of the heap
pub record LaunchFits (s : Snapshots) (m site : ℕ) (args : Args) : Type 0 where
  pub thread : m < s.sizes.mutators
  pub statement : site < length s.shape.checks
  pub arguments : are_args_of s site args ≡ true
  pub lane : length (active_now s) < s.sizes.lanes
  pub spare : HasSpare s

-- a launch that the journal allows is one that the heap takes: a lane is free, and the journal has room
pub launch_fits : (p : Program) (m site : ℕ) (args : Args) (r : Running) → CanLaunch p m site args r → LaunchFits r.heap m site args
launch_fits p m site args r h =
    let legal = launch_is_legal_there h.run.shape h.run.sizes h.run.state m site args h.after.legal in
    let longer = length-append h.run.state.journal (Launch m site (epoch_of h.run.shape h.run.sizes h.run.state.journal + 1) args ∷ []) in
    subst (λ (s : Snapshots). LaunchFits s m site args) (sym h.run.stands.heap)
    (record { thread = legal.thread; statement = legal.statement; arguments = legal.arguments; lane = legal.lane; spare = omega (arith, h.after.paid, longer) })

-- and of the run: few arguments, an idle evaluator, a place for the verdict and for the check
pub record LaunchHasRoom (args : Args) (r : Running) : Type 0 where
  pub few : args.count ≤ MOST_ARGS
  pub idle : 1 ≤ length r.idle.items
  pub verdicts : length r.verdicts.items < vec_capacity r.verdicts
  pub checks : length r.checks.items < vec_capacity r.checks

-- and the run has memory for it: an idle evaluator, and a place for the check and for its verdict
pub launch_has_room : (p : Program) (m site : ℕ) (args : Args) (r : Running) → CanLaunch p m site args r → LaunchHasRoom args r
launch_has_room p m site args r h =
    let legal = launch_is_legal_there h.run.shape h.run.sizes h.run.state m site args h.after.legal in
    let fit = args_that_fit _ (slice_get h.run.shape.checks site) args legal.arguments in
    let within = slice_get_within h.run.shape.checks site fit.kinds fit.found in
    let small : length fit.kinds ≤ MOST_ARGS =
    subst (λ (kinds : List Kind). length kinds ≤ MOST_ARGS) (get_or_from_slice_get h.run.shape.checks site fit.kinds fit.kinds fit.found)
    (h.run.formed.shape_fits.arguments site fit.kinds within).0 in
    let active : length (active_checks h.run.shape h.run.sizes h.run.state.journal) ≡ length r.checks.items =
    ap length (sym h.run.stands.checks.in_order) ∙ length_of_numbers r.checks.items in
    let room = h.run.stands.room in
    record {
      few = omega (arith, small, fit.count);
      idle = omega (arith, active, legal.lane, room.lanes);
      verdicts = omega (arith, h.few, room.verdicts, h.run.stands.verdicts.count);
      checks = omega (arith, active, legal.lane, room.checks);
    }

-- once the check has a lane, an evaluator and a place for its verdict, the run in memory stands for the state after the launch
pub launch_stands :
    (p : Program) (before after : Running) (m site : ℕ) (args : Args) (eval : Eval) (c : ActiveCheck) (v : Verdict)
    → (t : IsUnderWay p before)
    → IsFresh t
    → c.lane.number ≡ (world_of before.heap).epoch + 1
    → after.heap ≡ with_event before.heap (Launch m site c.lane.number args)
    → IsLegalHeap after.heap
    → ((other : Lane) → IsLaneOf before.heap other → IsLaneOf after.heap other)
    → IsLaneOf after.heap c.lane
    → before.idle.items ≡ after.idle.items ++ option_to_list (Some eval)
    → IsMadeFor p c.eval
    → budget c.eval ≡ budget eval
    → AwaitsTurn p (turn_of (check_course p site (words_of args)) (budget eval)) c.awaits c.eval
    → after.checks.items ≡ before.checks.items ++ c ∷ []
    → after.verdicts.items ≡ before.verdicts.items ++ v ∷ []
    → SameRoom before after
    → Stands t.shape p t.sizes (with_launch t.shape t.sizes m site args t.state) after
launch_stands p before after m site args eval c v t fresh number event legal others lane idle made calls turn checks verdicts same = record {
  heap = heap;
  checks = subst (AreChecks t.shape p t.sizes later) (sym checks)
      (checks_after_launch t.shape p t.sizes t.state m site args before.checks.items c t.formed t.limits is_legal t.stands.checks
      (λ other is. subst (λ (s : Snapshots). IsLaneOf s other) heap (others other (subst (λ (s : Snapshots). IsLaneOf s other) (sym t.stands.heap) is)))
      (subst (λ (s : Snapshots). IsLaneOf s c.lane) heap lane) is_next made (calls ∙ evals.1.budget_is)
      (subst (λ (units : ℕ). AwaitsTurn p (turn_of (check_course p site (words_of args)) units) c.awaits c.eval) evals.1.budget_is turn) fresh);
  idle = evals.0;
  verdicts = subst (AreVerdicts t.shape p t.sizes later) (sym verdicts)
      (verdicts_after_launch t.shape p t.sizes t.state m site args before.verdicts.items v t.formed is_legal t.stands.verdicts);
  room = room;
}
  where
    later : State
    later = with_launch t.shape t.sizes m site args t.state

    is_next : c.lane.number ≡ epoch_of t.shape t.sizes t.state.journal + 1
    is_next = number ∙ ap (λ (s : Snapshots). (world_of s).epoch + 1) t.stands.heap

    heap : after.heap ≡ heap_of_journal t.shape t.sizes later.journal
    heap = event ∙ (λ k. with_event (t.stands.heap k) (Launch m site (is_next k) args))

    is_legal : IsLegal t.shape t.sizes later.journal
    is_legal = subst IsLegalHeap heap legal

    evals : All (IsIdleEval p t.sizes) after.idle.items × IsIdleEval p t.sizes eval
    evals = All-pop (IsIdleEval p t.sizes) before.idle.items after.idle.items (Some eval) idle t.stands.idle

    room : HasRoom t.sizes after
    room =
        let h = t.stands.room in
        let more : length after.checks.items ≡ length before.checks.items + 1 = ap length checks ∙ length-append before.checks.items (c ∷ []) in
        let fewer : length before.idle.items ≡ length after.idle.items + 1 = ap length idle ∙ length-append after.idle.items (eval ∷ []) in
        record {
          lanes = omega (arith, h.lanes, fewer, more);
          checks = omega (arith, h.checks, same.checks);
          idle = omega (arith, h.idle, same.idle);
          verdicts = omega (arith, h.verdicts, same.verdicts);
          ready = omega (arith, h.ready, same.ready);
          ends = omega (arith, h.ends, same.ends);
          no_ends = same.items ∙ h.no_ends;
        }

-- ---- after the checks that have finished are retired

epoch_stays : (shape : ShapeLists) (sizes : Sizes) (s : State) (m : ℕ) (ns : List ℕ) → epoch_of shape sizes (with_retires m ns s).journal ≡ epoch_of shape sizes s.journal
epoch_stays shape sizes s m ns = ap (λ (w : World). w.epoch) (world_after_retires shape sizes s.journal m ns)

-- a launch that is allowed once the finished checks are retired can be done as soon as they are
pub can_launch_after :
    (p : Program) (m site : ℕ) (args : Args) (before after : Running)
    → (h : CanLaunchAfter p m site args before)
    → Stands h.run.shape p h.run.sizes (with_retires m (finished_in before.checks.items) h.run.state) after
    → IsHistory h.run.shape h.run.sizes (with_retires m (finished_in before.checks.items) h.run.state).journal
    → CanLaunch p m site args after
can_launch_after p m site args before after h stands history = record {
  run = under_way_after p before after m (finished_in before.checks.items) h.run stands history;
  after = h.after;
  few = let same = epoch_stays h.run.shape h.run.sizes h.run.state m (finished_in before.checks.items) in omega (arith, same, h.few);
}

-- retiring changes no progress: the check that is launched next has none yet
pub fresh_after :
    (p : Program) (r : Running) (m : ℕ) (ns : List ℕ) (t : IsUnderWay p r)
    → IsFresh t
    → t.state.progress (epoch_of t.shape t.sizes (with_retires m ns t.state).journal + 1) ≡ has_read 0
fresh_after p r m ns t fresh = ap (λ (n : ℕ). t.state.progress (n + 1)) (epoch_stays t.shape t.sizes t.state m ns) ∙ fresh
