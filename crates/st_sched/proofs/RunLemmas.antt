-- The run in memory where a check is retired
use Rattle.std.proofs.Common.{◌≡◌, ◌≢◌, ℕ, zero, suc, cond, Bool, false, filter, append_assoc, append-nil, ◌+◌, ◌-◌, ◌<◌, ◌≤◌, true, List}
use Rattle.std.proofs.Common.{[], ◌∷◌, ◌++◌, length, take, drop, slice_get, slice_set, Some, refl, sym, ◌∙◌, ap, subst, arith, length-append, vec_capacity}
use Rattle.std.specs.List.{All}
use Rattle.std.proofs.lemmas.List.{length-take, length-drop}
use Rattle.std.proofs.lemmas.List.Elements.{All-push}
use Rattle.std.proofs.lemmas.Option.{slice_get_within, get_or_from_slice_get}
use Rattle.st_events.specs.declared.events.Event.TheVariants.{Retire}
use Rattle.st_events.specs.declared.limits.Sizes.{Sizes}
use Rattle.st_events.specs.declared.verdicts.Verdict.{Verdict}
use Rattle.st_events.specs.Sound.{IsSoundWorld}
use Rattle.st_events.specs.Terms.{ShapeLists, without, world_after, active_checks}
use Rattle.st_events.proofs.SoundLemmas.{legal_is_sound}
use Rattle.st_resolved.specs.Terms.{Program}
use Rattle.st_eval.specs.declared.evals.Eval.{Eval}
use Rattle.st_snap.specs.declared.lanes.Lane.{Lane}
use Rattle.st_snap.specs.Snapshots.{Snapshots, IsLaneOf, IsLegalHeap, with_event}
use Rattle.st_run_meaning.specs.States.{State}
use Rattle.st_run_meaning.specs.Steps.{retires}
use Rattle.st_run_meaning.proofs.RetiresLemmas.{without_is_less}
use Rattle.st_sched.specs.declared.checks.ActiveCheck.{ActiveCheck}
use Rattle.st_sched.specs.declared.running.Running.{Running}
use Rattle.st_sched.specs.Standing.{IsInMemory, AreChecks, AreVerdicts, IsIdleEval, HasVerdictAt, finished_in, heap_of_journal, number_at}
use Rattle.st_sched.specs.Checks.{is_over}
use Rattle.st_sched.specs.Choosing.{numbers}
use Rattle.st_sched.specs.UnderWay.{HasRoom, IsHistory, Stands, IsUnderWay, with_retires}
use Rattle.st_sched.proofs.RetireLemmas.{number_is_at, active_is_there, world_after_retire, checks_after_retire, verdicts_after_retire}

-- the room of each vector is as it was, and the list of ends
pub record SameRoom (before after : Running) : Type 0 where
  pub checks : vec_capacity after.checks ≡ vec_capacity before.checks
  pub idle : vec_capacity after.idle ≡ vec_capacity before.idle
  pub verdicts : vec_capacity after.verdicts ≡ vec_capacity before.verdicts
  pub ready : vec_capacity after.ready ≡ vec_capacity before.ready
  pub ends : vec_capacity after.ends ≡ vec_capacity before.ends
  pub items : after.ends.items ≡ before.ends.items

-- the world of a history is sound
pub world_is_sound : (p : Program) (r : Running) (t : IsUnderWay p r) → IsSoundWorld t.shape t.sizes (world_after t.shape t.sizes t.state.journal)
world_is_sound p r t = legal_is_sound t.shape t.sizes t.formed.shape_fits t.state.journal t.history.legal

-- the check at a place is in memory
pub memory_at :
    (shape : ShapeLists) (p : Program) (sizes : Sizes) (s : State) (checks : List ActiveCheck) (i : ℕ) (c : ActiveCheck)
    → AreChecks shape p sizes s checks → slice_get checks i ≡ Some c → IsInMemory shape p sizes s c
memory_at shape p sizes s checks i c h at =
    subst (IsInMemory shape p sizes s) (get_or_from_slice_get checks i c c at) (h.each i c (slice_get_within checks i c at))

-- what a retire asks for
pub retire_is_possible :
    (p : Program) (r : Running) (i : ℕ) (verdict : Verdict) (t : IsUnderWay p r) (at : HasVerdictAt r.checks.items i verdict)
    → (1 ≤ at.0.lane.number) × (at.0.lane.number - 1 < length r.verdicts.items) × IsLaneOf r.heap at.0.lane
retire_is_possible p r i verdict t at =
    let within : i < length r.checks.items = slice_get_within r.checks.items i at.0 at.1 in
    let there = active_is_there t.shape p t.sizes t.state r.checks.items i t.stands.checks within in
    let number : number_at r.checks.items i ≡ at.0.lane.number = number_is_at r.checks.items i at.0 at.1 in
    let known = (world_is_sound p r t).active.launched (number_at r.checks.items i) there in
    let count = t.stands.verdicts.count in (
      omega (arith, known.0, number),
      omega (arith, known.0, known.1, number, count),
      subst (λ (s : Snapshots). IsLaneOf s at.0.lane) (sym t.stands.heap) (memory_at t.shape p t.sizes t.state r.checks.items i at.0 t.stands.checks at.1).lane,
    )

-- a run in which a check is taken out, its verdict kept and its evaluator idle stands for the state in which the check is retired
pub retire_stands :
    (p : Program) (before after : Running) (m i : ℕ) (verdict : Verdict) (lane : Lane) (eval : Eval)
    → (t : IsUnderWay p before)
    → (at : HasVerdictAt before.checks.items i verdict)
    → lane ≡ at.0.lane
    → eval ≡ at.0.eval
    → after.heap ≡ with_event before.heap (Retire m lane.number)
    → ((other : Lane) → other.number ≢ lane.number → IsLaneOf before.heap other → IsLaneOf after.heap other)
    → after.checks.items ≡ take i before.checks.items ++ drop (i + 1) before.checks.items
    → after.idle.items ≡ before.idle.items ++ eval ∷ []
    → after.verdicts.items ≡ slice_set before.verdicts.items (lane.number - 1) verdict
    → SameRoom before after
    → Stands t.shape p t.sizes (with_retires m (number_at before.checks.items i ∷ []) t.state) after
retire_stands p before after m i verdict lane eval t at is_lane is_eval event others checks idle verdicts same = record {
  heap = heap;
  checks = subst (AreChecks t.shape p t.sizes later) (sym rest)
      (checks_after_retire t.shape p t.sizes t.state m before.checks.items i world.active.rising within t.stands.checks lanes);
  idle = subst (All (IsIdleEval p t.sizes)) (sym idle)
      (All-push (IsIdleEval p t.sizes) before.idle.items eval t.stands.idle
      (subst (IsIdleEval p t.sizes) (sym is_eval) (record { made = memory.made; budget_is = memory.budget_is })));
  verdicts = subst (AreVerdicts t.shape p t.sizes later) (sym (verdicts ∙ ap (λ (k : ℕ). slice_set before.verdicts.items (k - 1) verdict) number))
      (verdicts_after_retire t.shape p t.sizes t.state m before.checks.items i before.verdicts.items verdict world.active t.stands.checks at t.stands.verdicts);
  room = room;
}
  where
    n : ℕ
    n = number_at before.checks.items i

    later : State
    later = with_retires m (n ∷ []) t.state

    world : IsSoundWorld t.shape t.sizes (world_after t.shape t.sizes t.state.journal)
    world = world_is_sound p before t

    within : i < length before.checks.items
    within = slice_get_within before.checks.items i at.0 at.1

    memory : IsInMemory t.shape p t.sizes t.state at.0
    memory = memory_at t.shape p t.sizes t.state before.checks.items i at.0 t.stands.checks at.1

    number : lane.number ≡ n
    number = ap (λ (l : Lane). l.number) is_lane ∙ sym (number_is_at before.checks.items i at.0 at.1)

    heap : after.heap ≡ heap_of_journal t.shape t.sizes later.journal
    heap = event ∙ (λ k. with_event (t.stands.heap k) (Retire m (number k)))

    rest : after.checks.items ≡ take i before.checks.items ++ drop (suc i) before.checks.items
    rest = let next : i + 1 ≡ suc i = omega arith in checks ∙ ap (λ (k : ℕ). take i before.checks.items ++ drop k before.checks.items) next

    lanes : (other : Lane) → other.number ≢ n → IsLaneOf (heap_of_journal t.shape t.sizes t.state.journal) other → IsLaneOf (heap_of_journal t.shape t.sizes later.journal) other
    lanes other differ is =
        subst (λ (s : Snapshots). IsLaneOf s other) heap
        (others other (λ e. differ (e ∙ number)) (subst (λ (s : Snapshots). IsLaneOf s other) (sym t.stands.heap) is))

    room : HasRoom t.sizes after
    room =
        let h = t.stands.room in
        let fewer : length after.checks.items ≡ length (take i before.checks.items) + length (drop (suc i) before.checks.items) =
        ap length rest ∙ length-append (take i before.checks.items) (drop (suc i) before.checks.items) in
        let more : length after.idle.items ≡ length before.idle.items + 1 = ap length idle ∙ length-append before.idle.items (eval ∷ []) in
        let first = length-take i before.checks.items in
        let second = length-drop (suc i) before.checks.items in
        record {
          lanes = omega (arith, h.lanes, fewer, more, first, second, within);
          checks = omega (arith, h.checks, same.checks);
          idle = omega (arith, h.idle, same.idle);
          verdicts = omega (arith, h.verdicts, same.verdicts);
          ready = omega (arith, h.ready, same.ready);
          ends = omega (arith, h.ends, same.ends);
          no_ends = same.items ∙ h.no_ends;
        }

-- the journal stays a history
pub retire_history :
    (p : Program) (before : Running) (after : Snapshots) (m i : ℕ) (verdict : Verdict) (lane : Lane)
    → (t : IsUnderWay p before)
    → (at : HasVerdictAt before.checks.items i verdict)
    → lane ≡ at.0.lane
    → after ≡ with_event before.heap (Retire m lane.number)
    → IsLegalHeap after
    → IsHistory t.shape t.sizes (with_retires m (number_at before.checks.items i ∷ []) t.state).journal
retire_history p before after m i verdict lane t at is_lane event legal =
    let n = number_at before.checks.items i in
    let within : i < length before.checks.items = slice_get_within before.checks.items i at.0 at.1 in
    let number : lane.number ≡ n = ap (λ (l : Lane). l.number) is_lane ∙ sym (number_is_at before.checks.items i at.0 at.1) in
    let heap : after ≡ heap_of_journal t.shape t.sizes (with_retires m (n ∷ []) t.state).journal = event ∙ (λ k. with_event (t.stands.heap k) (Retire m (number k))) in
    let there = active_is_there t.shape p t.sizes t.state before.checks.items i t.stands.checks within in
    let fewer = without_is_less n (active_checks t.shape t.sizes t.state.journal) there in
    let gone : length (active_checks t.shape t.sizes (with_retires m (n ∷ []) t.state).journal) ≡ length (without n (active_checks t.shape t.sizes t.state.journal)) =
    ap length (world_after_retire t.shape t.sizes t.state m n).1 in
    let longer : length (with_retires m (n ∷ []) t.state).journal ≡ length t.state.journal + 1 = length-append t.state.journal (Retire m n ∷ []) in
    record { legal = subst IsLegalHeap heap legal; paid = omega (arith, fewer, gone, longer, t.history.paid) }

-- ---- all that have finished are retired

-- who retired some checks is under way
abbrev pub under_way_after :
    (p : Program) (before after : Running) (m : ℕ) (ns : List ℕ) (t : IsUnderWay p before)
    → Stands t.shape p t.sizes (with_retires m ns t.state) after
    → IsHistory t.shape t.sizes (with_retires m ns t.state).journal
    → IsUnderWay p after
under_way_after p before after m ns t stands history = record {
  shape = t.shape;
  sizes = t.sizes;
  state = with_retires m ns t.state;
  formed = t.formed;
  limits = t.limits;
  stands = stands;
  history = history;
}

-- the sizes of the heap stay
pub same_mutators :
    (p : Program) (before after : Running) (m : ℕ) (ns : List ℕ) (t : IsUnderWay p before)
    → Stands t.shape p t.sizes (with_retires m ns t.state) after
    → after.heap.sizes.mutators ≡ before.heap.sizes.mutators
same_mutators p before after m ns t stands =
    ap (λ (s : Snapshots). s.sizes.mutators) stands.heap ∙ sym (ap (λ (s : Snapshots). s.sizes.mutators) t.stands.heap)

-- those from a place on that have finished
finished_there :
    (checks : List ActiveCheck) (i : ℕ) (c : ActiveCheck)
    → slice_get checks i ≡ Some c
    → finished_in (drop i checks) ≡ cond (is_over c.awaits) (number_at checks i ∷ finished_in (drop (suc i) checks)) (finished_in (drop (suc i) checks))
finished_there [] i c at = absurd (cc)
finished_there (x ∷ xs) zero c at =
    let same : x ≡ c = cc in by (is_over x.awaits) (is_over c.awaits) (ap (λ (y : ActiveCheck). is_over y.awaits) same)
  where
    by : (b t : Bool) → b ≡ t
        → numbers (cond b (x ∷ filter (λ y. is_over y.awaits) xs) (filter (λ y. is_over y.awaits) xs))
        ≡ cond t (x.lane.number ∷ finished_in xs) (finished_in xs)
    by true true e = refl
    by true false e = absurd (cc)
    by false true e = absurd (cc)
    by false false e = refl
finished_there (x ∷ xs) (suc i) c at = finished_there xs i c at

-- the finished checks from a place on: the one at the place, where it has finished, and then those behind it
pub finished_from :
    (checks : List ActiveCheck) (i : ℕ) (c : ActiveCheck) (b : Bool)
    → slice_get checks i ≡ Some c
    → is_over c.awaits ≡ b
    → finished_in (drop i checks) ≡ cond b (number_at checks i ∷ finished_in (drop (i + 1) checks)) (finished_in (drop (i + 1) checks))
finished_from checks i c b at over =
    let next : suc i ≡ i + 1 = omega arith in
    finished_there checks i c at
    ∙ ap (λ (t : Bool). cond t (number_at checks i ∷ finished_in (drop (suc i) checks)) (finished_in (drop (suc i) checks))) over
    ∙ ap (λ (k : ℕ). cond b (number_at checks i ∷ finished_in (drop k checks)) (finished_in (drop k checks))) next

-- what stood behind a place that was taken out
pub rest_behind : (checks : List ActiveCheck) (i : ℕ) → i < length checks → drop i (take i checks ++ drop (i + 1) checks) ≡ drop (i + 1) checks
rest_behind checks i lt = let next : suc i ≡ i + 1 = omega arith in subst (λ (k : ℕ). drop i (take i checks ++ drop k checks) ≡ drop k checks) next (by checks i lt)
  where
    by : (cs : List ActiveCheck) (j : ℕ) → j < length cs → drop j (take j cs ++ drop (suc j) cs) ≡ drop (suc j) cs
    by [] j lt = absurd (omega (arith, lt))
    by (c ∷ cs) zero lt = refl
    by (c ∷ cs) (suc j) lt = by cs j (omega (arith, lt))

-- one check is retired, and then others
pub joined_state :
    (s : State) (m n : ℕ) (rest all : List ℕ)
    → all ≡ n ∷ rest
    → with_retires m rest (with_retires m (n ∷ []) s) ≡ with_retires m all s
joined_state s m n rest all e =
    let journal : (s.journal ++ Retire m n ∷ []) ++ retires m rest ≡ s.journal ++ retires m all =
    append_assoc s.journal (Retire m n ∷ []) (retires m rest) ∙ ap (λ (ns : List ℕ). s.journal ++ retires m ns) (sym e) in
    λ k. record s { journal = journal k }

-- none is retired
pub none_state : (s : State) (m : ℕ) → with_retires m [] s ≡ s
none_state s m = λ k. record s { journal = append-nil s.journal k }

-- how many are left
pub one_fewer : (checks rest : List ActiveCheck) (i : ℕ) → i < length checks → rest ≡ take i checks ++ drop (i + 1) checks → length rest + 1 ≡ length checks
one_fewer checks rest i lt e =
    let l : length rest ≡ length (take i checks) + length (drop (i + 1) checks) = ap length e ∙ length-append (take i checks) (drop (i + 1) checks) in
    omega (arith, lt, l, length-take i checks, length-drop (i + 1) checks)
