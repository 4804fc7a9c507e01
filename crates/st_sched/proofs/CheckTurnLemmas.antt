-- The run in memory after a check's turn
use Rattle.std.proofs.Common.{◌≡◌, ℕ, true, false, length, slice_get, slice_set, Some, sym, ◌∙◌, ap, subst, arith}
use Rattle.std.specs.List.{All}
use Rattle.std.proofs.lemmas.List.{length-set}
use Rattle.st_events.specs.declared.limits.Sizes.{Sizes}
use Rattle.st_events.specs.declared.verdicts.Verdict.TheVariants.{Abandoned}
use Rattle.st_events.specs.Sound.{IsSoundWorld}
use Rattle.st_events.specs.Terms.{ShapeLists, world_after}
use Rattle.st_resolved.specs.Terms.{Program}
use Rattle.st_eval.specs.Evaluations.{IsMadeFor, budget, turn_by}
use Rattle.st_snap.specs.Snapshots.{Snapshots, IsLaneOf, HadCell, word_at_launch, is_lost_for}
use Rattle.st_run_meaning.specs.States.{State}
use Rattle.st_run_meaning.specs.Agents.{Agent, check, has_finished}
use Rattle.st_run_meaning.proofs.AgentLemmas.{chosen_is_ready}
use Rattle.st_sched.specs.declared.checks.ActiveCheck.{ActiveCheck}
use Rattle.st_sched.specs.declared.checks.Awaits.TheVariants.{Cell, Retire}
use Rattle.st_sched.specs.declared.running.Running.{Running}
use Rattle.st_sched.specs.Checks.{is_over, AwaitsTurn}
use Rattle.st_sched.specs.Standing.{AreChecks, AreVerdicts, IsIdleEval, heap_of_journal, number_at}
use Rattle.st_sched.specs.UnderWay.{HasRoom, Stands, IsTurnOf}
use Rattle.st_sched.proofs.ChoiceLemmas.{over_is_finished}
use Rattle.st_sched.proofs.ReadLemmas.{HasReadOne, cell_stood, checks_after_read, verdicts_after_read}
use Rattle.st_sched.proofs.RetireLemmas.{number_is_at}
use Rattle.st_sched.proofs.RunLemmas.{SameRoom, memory_at, world_is_sound}
use Rattle.st_sched.proofs.TurnLemmas.{after_turn}

-- what a read asks for
pub record ReadFits (p : Program) (h : Snapshots) (c : ActiveCheck) (obj field : ℕ) : Type 0 where
  pub made : IsMadeFor p c.eval
  pub lane : IsLaneOf h c.lane
  pub cell : HadCell h c.lane.number obj field

-- an active check that waits for a cell may read it: it has its lane and its evaluator, and the cell stood at its launch
pub read_fits :
    (p : Program) (a : Agent) (r : Running) (i obj field : ℕ) (c : ActiveCheck) (t : IsTurnOf p a r)
    → slice_get r.checks.items i ≡ Some c
    → c.awaits ≡ Cell obj field
    → ReadFits p r.heap c obj field
read_fits p a r i obj field c t at waits =
    let m = memory_at t.run.shape p t.run.sizes t.run.state r.checks.items i c t.run.stands.checks at in
    subst (λ (h : Snapshots). ReadFits p h c obj field) (sym t.run.stands.heap)
    (record { made = m.made; lane = m.lane; cell = cell_stood t.run.shape p t.run.sizes t.run.state c obj field t.run.formed t.run.limits t.sound.legal m waits })

-- what the read made of the check, with the heap as it is in memory
pub record ReadOf (p : Program) (h : Snapshots) (obj field : ℕ) (before after : ActiveCheck) : Type 0 where
  pub lane : after.lane ≡ before.lane
  pub made : IsMadeFor p after.eval
  pub budget_is : budget after.eval ≡ budget before.eval
  pub lost : is_lost_for h obj before.lane.number ≡ true → after.awaits ≡ Retire (Abandoned obj)
  pub read :
      (word : ℕ)
      → is_lost_for h obj before.lane.number ≡ false
      → word_at_launch h before.lane.number obj field ≡ Some word
      → AwaitsTurn p (turn_by p before.eval word) after.awaits after.eval

read_one :
    (shape : ShapeLists) (p : Program) (sizes : Sizes) (s : State) (h : Snapshots) (obj field : ℕ) (before after : ActiveCheck)
    → h ≡ heap_of_journal shape sizes s.journal
    → ReadOf p h obj field before after
    → HasReadOne shape p sizes s obj field before after
read_one shape p sizes s h obj field before after same r =
    let x : ReadOf p (heap_of_journal shape sizes s.journal) obj field before after = subst (λ (y : Snapshots). ReadOf p y obj field before after) same r in
    record { lane = x.lane; made = x.made; budget_is = x.budget_is; lost = x.lost; read = x.read }

-- once the check has read its cell, the run in memory stands for the state after the check's turn
pub read_stands :
    (p : Program) (i obj field : ℕ) (before after : Running) (c d : ActiveCheck) (t : IsTurnOf p (check (number_at before.checks.items i)) before)
    → slice_get before.checks.items i ≡ Some c
    → c.awaits ≡ Cell obj field
    → ReadOf p before.heap obj field c d
    → after.heap ≡ before.heap
    → after.checks.items ≡ slice_set before.checks.items i d
    → after.idle.items ≡ before.idle.items
    → after.verdicts.items ≡ before.verdicts.items
    → SameRoom before after
    → Stands t.run.shape p t.run.sizes (after_turn p (check (number_at before.checks.items i)) before t) after
read_stands p i obj field before after c d t at waits r heap checks idle verdicts same = record {
  heap = heap ∙ t.run.stands.heap;
  checks = subst (AreChecks t.run.shape p t.run.sizes later) (sym checks)
      (checks_after_read t.run.shape p t.run.sizes t.run.state before.checks.items i obj field c d t.run.formed t.run.limits t.sound.legal world.active.rising
      t.run.stands.checks at waits (read_one t.run.shape p t.run.sizes t.run.state before.heap obj field c d t.run.stands.heap r));
  idle = subst (All (IsIdleEval p t.run.sizes)) (sym idle) t.run.stands.idle;
  verdicts = subst (AreVerdicts t.run.shape p t.run.sizes later) (sym verdicts)
      (verdicts_after_read t.run.shape p t.run.sizes t.run.state before.verdicts.items (number_at before.checks.items i)
      (chosen_is_ready t.run.shape p t.run.sizes t.run.state (check (number_at before.checks.items i)) t.next).0 t.run.stands.verdicts);
  room = room;
}
  where
    later : State
    later = after_turn p (check (number_at before.checks.items i)) before t

    world : IsSoundWorld t.run.shape t.run.sizes (world_after t.run.shape t.run.sizes t.run.state.journal)
    world = world_is_sound p before t.run

    room : HasRoom t.run.sizes after
    room =
        let x = t.run.stands.room in
        let as_many : length after.checks.items ≡ length before.checks.items = ap length checks ∙ length-set before.checks.items i d in
        let as_idle : length after.idle.items ≡ length before.idle.items = ap length idle in
        record {
          lanes = omega (arith, x.lanes, as_many, as_idle);
          checks = omega (arith, x.checks, same.checks);
          idle = omega (arith, x.idle, same.idle);
          verdicts = omega (arith, x.verdicts, same.verdicts);
          ready = omega (arith, x.ready, same.ready);
          ends = omega (arith, x.ends, same.ends);
          no_ends = same.items ∙ x.no_ends;
        }

-- a check that takes a turn has not finished
pub turn_is_not_over :
    (p : Program) (i : ℕ) (r : Running) (c : ActiveCheck) (t : IsTurnOf p (check (number_at r.checks.items i)) r)
    → slice_get r.checks.items i ≡ Some c
    → is_over c.awaits ≡ true
    → ⊥
turn_is_not_over p i r c t at over =
    let m = memory_at t.run.shape p t.run.sizes t.run.state r.checks.items i c t.run.stands.checks at in
    let finished = over_is_finished t.run.shape p t.run.sizes t.run.state c m in
    let number : number_at r.checks.items i ≡ c.lane.number = number_is_at r.checks.items i c at in
    let ready = (chosen_is_ready t.run.shape p t.run.sizes t.run.state (check (number_at r.checks.items i)) t.next).1 in
    let f : true ≡ false = sym over ∙ finished ∙ ap (has_finished t.run.shape p t.run.sizes t.run.state) (sym number) ∙ ready in cc

-- ---- other memory

-- what stands, stands in a run that has the same in memory
pub stands_with :
    (shape : ShapeLists) (p : Program) (sizes : Sizes) (s : State) (before after : Running)
    → after.heap ≡ before.heap
    → after.checks.items ≡ before.checks.items
    → after.idle.items ≡ before.idle.items
    → after.verdicts.items ≡ before.verdicts.items
    → SameRoom before after
    → Stands shape p sizes s before
    → Stands shape p sizes s after
stands_with shape p sizes s before after heap checks idle verdicts same h = record {
  heap = heap ∙ h.heap;
  checks = subst (AreChecks shape p sizes s) (sym checks) h.checks;
  idle = subst (All (IsIdleEval p sizes)) (sym idle) h.idle;
  verdicts = subst (AreVerdicts shape p sizes s) (sym verdicts) h.verdicts;
  room = (let x = h.room in
      let as_many : length after.checks.items ≡ length before.checks.items = ap length checks in
      let as_idle : length after.idle.items ≡ length before.idle.items = ap length idle in
      record {
        lanes = omega (arith, x.lanes, as_many, as_idle);
        checks = omega (arith, x.checks, same.checks);
        idle = omega (arith, x.idle, same.idle);
        verdicts = omega (arith, x.verdicts, same.verdicts);
        ready = omega (arith, x.ready, same.ready);
        ends = omega (arith, x.ends, same.ends);
        no_ends = same.items ∙ x.no_ends;
      });
}
