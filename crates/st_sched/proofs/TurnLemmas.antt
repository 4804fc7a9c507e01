-- The run in memory after a thread's turn
use Rattle.std.proofs.Common.{◌≡◌, ℕ, ◌+◌, ◌*◌, ◌<◌, ◌≤◌, Bool, true, false, List, [], ◌∷◌, ◌++◌, length}
use Rattle.std.proofs.Common.{Option, None, filter, get_or, slice_get, append_assoc, slice_set, Some, refl, sym, ◌∙◌, ap, subst, arith, length-append}
use Rattle.std.specs.List.{All, AllByRecursion}
use Rattle.std.proofs.lemmas.List.Elements.{recursion_from_All}
use Rattle.st_events.specs.declared.events.Event.{Event}
use Rattle.st_events.specs.declared.events.Event.TheVariants.{Cas, Launch}
use Rattle.st_events.specs.declared.events.Args.{Args}
use Rattle.st_events.specs.declared.limits.Sizes.{Sizes}
use Rattle.st_events.specs.Legal.{is_word}
use Rattle.st_events.specs.Sound.{IsSoundWorld}
use Rattle.st_events.specs.Terms.{ShapeLists, is_lost, lost_pairs, World, Launched, IsLegal, word_at, launch_of, next, world_after, active_checks, epoch_of, is_among, own_events}
use Rattle.st_events.proofs.ExtendsLemmas.{launch_stays}
use Rattle.st_events.proofs.LegalLemmas.{each_is_legal}
use Rattle.st_events.proofs.SoundLemmas.{legal_is_sound}
use Rattle.st_events.proofs.WorldLemmas.{world_after_one_more}
use Rattle.st_resolved.specs.Terms.{Program}
use Rattle.st_thread_meaning.specs.Deeds.{Request, make, load, store, cas, launch}
use Rattle.st_thread_meaning.specs.Laws.{replies_of}
use Rattle.st_thread_meaning.specs.Right.{has_cell_of}
use Rattle.st_thread_meaning.specs.Threads.{Turn, asks_for, reply_of}
use Rattle.st_mutator.specs.Mutators.{turn_of_want}
use Rattle.st_mutator.specs.declared.wants.Want.{Want}
use Rattle.st_mutator.specs.declared.wants.Want.TheVariants as want
use Rattle.st_snap.specs.Snapshots.{Snapshots, HasSpare, world_of, lanes_now, with_event, event_room}
use Rattle.st_run_meaning.specs.States.{Progress, State, has_read, abandoned_at}
use Rattle.st_run_meaning.specs.Agents.{request_of, cells_of, can_turn, can_launch, has_finished, finished_checks, Agent, mutator, number_after}
use Rattle.st_run_meaning.specs.SoundStates.{IsSoundProgress, IsSoundState}
use Rattle.st_run_meaning.specs.Steps.{event_of, retires, retired_for, turn_events, turn_of}
use Rattle.st_run_meaning.proofs.AgentLemmas.{chosen_is_ready}
use Rattle.st_run_meaning.proofs.RetiresLemmas.{world_after_retires}
use Rattle.st_run_meaning.proofs.RoomLemmas.{sound_state_has_room}
use Rattle.st_run_meaning.proofs.SoundLemmas.{turn_keeps_sound}
use Rattle.st_sched.specs.declared.running.Running.{Running}
use Rattle.st_sched.specs.declared.seats.Seat.{Seat}
use Rattle.st_sched.specs.Answering.{event_of_want, reply_to, IsPlainWant, CanAnswer}
use Rattle.st_sched.specs.Checks.{is_over}
use Rattle.st_sched.specs.Seats.{HasReplies}
use Rattle.st_sched.specs.Standing.{AreChecks, AreVerdicts, IsIdleEval, finished_in, heap_of_journal}
use Rattle.st_sched.specs.UnderWay.{AreSeats, HasRoom, IsHistory, Stands, IsFresh, CanLaunchAfter, IsTurnOf, HasSeat, with_retires, with_launch}
use Rattle.st_sched.proofs.ChoiceLemmas.{over_is_finished, finished_numbers}
use Rattle.st_sched.proofs.RetireLemmas.{check_stays}
use Rattle.st_sched.proofs.RunLemmas.{SameRoom}
use Rattle.st_sched.proofs.SeatLemmas.{seat_asks, seats_after_turn}

-- the state after a turn
abbrev pub after_turn : (p : Program) (a : Agent) (r : Running) → IsTurnOf p a r → State
after_turn p a r t = turn_of t.run.shape p t.run.sizes t.run.state a

-- the turn of the agent that is chosen leaves a sound state: so its journal is legal
pub after_is_sound : (p : Program) (a : Agent) (r : Running) (t : IsTurnOf p a r) → IsSoundState t.run.shape p t.run.sizes (after_turn p a r t)
after_is_sound p a r t =
    turn_keeps_sound t.run.shape p t.run.formed t.run.sizes t.run.state a t.sound (chosen_is_ready t.run.shape p t.run.sizes t.run.state a t.next)

-- what the thread's seat asks for is its request
pub want_is_asked :
    (p : Program) (m : ℕ) (w : Want) (r : Running) (t : IsTurnOf p (mutator m) r)
    → HasSeat r.seats.items m w
    → turn_of_want w ≡ request_of p t.run.sizes t.run.state m
want_is_asked p m w r t h =
    ap turn_of_want (sym h.2) ∙ seat_asks t.run.shape p t.run.sizes t.run.state m r.seats.items h.0 t.run.formed t.run.limits t.sound t.seats h.1

-- a want that is no launch, as a request
record IsPlainly (w : Want) : Type 0 where
  request : Request
  asks : turn_of_want w ≡ asks_for request
  event : (s : Snapshots) (m : ℕ) → event_of_want s m w ≡ event_of s.sizes (world_of s) m request
  none : (ns : List ℕ) → retired_for request ns ≡ []

plainly : (w : Want) → IsPlainWant w → IsPlainly w
plainly (want.New class) h = record { request = make class; asks = refl; event = λ s m. refl; none = λ ns. refl }
plainly (want.Load obj field) h = record { request = load obj field; asks = refl; event = λ s m. refl; none = λ ns. refl }
plainly (want.Store obj field value) h = record { request = store obj field value; asks = refl; event = λ s m. refl; none = λ ns. refl }
plainly (want.Cas obj field expect value) h = record { request = cas obj field expect value; asks = refl; event = λ s m. refl; none = λ ns. refl }
plainly (want.Launch site args) h = absurd h
plainly (want.End end) h = absurd h

-- a turn of a thread that asks for no launch: the request, and the one event more
pub record PlainTurn (shape : ShapeLists) (p : Program) (sizes : Sizes) (s : State) (m : ℕ) (w : Want) : Type 0 where
  pub request : Request
  pub asked : request_of p sizes s m ≡ asks_for request
  pub event : event_of_want (heap_of_journal shape sizes s.journal) m w ≡ event_of sizes (world_after shape sizes s.journal) m request
  pub journal : (turn_of shape p sizes s (mutator m)).journal ≡ s.journal ++ event_of_want (heap_of_journal shape sizes s.journal) m w ∷ []

-- a thread that asks for no launch makes one event, and it is the one that its request gives
pub plain_turn :
    (p : Program) (m : ℕ) (w : Want) (r : Running) (t : IsTurnOf p (mutator m) r)
    → HasSeat r.seats.items m w
    → IsPlainWant w
    → PlainTurn t.run.shape p t.run.sizes t.run.state m w
plain_turn p m w r t h plain =
    let q = plainly w plain in
    let s = t.run.state in
    let shape = t.run.shape in
    let sizes = t.run.sizes in
    let asked : request_of p sizes s m ≡ asks_for q.request = sym (want_is_asked p m w r t h) ∙ q.asks in
    let event : event_of_want (heap_of_journal shape sizes s.journal) m w ≡ event_of sizes (world_after shape sizes s.journal) m q.request = q.event (heap_of_journal shape sizes s.journal) m in
    record {
      request = q.request;
      asked = asked;
      event = event;
      journal =
          ap (λ (u : Turn). s.journal ++ turn_events shape p sizes s m u) asked
          ∙ ap (λ (ns : List ℕ). s.journal ++ (retires m ns ++ event_of sizes (world_after shape sizes s.journal) m q.request ∷ [])) (q.none _)
          ∙ ap (λ (e : Event). s.journal ++ e ∷ []) (sym event);
    }

-- what the heap asks of the event
pub record AnswerFits (s : Snapshots) (m : ℕ) (w : Want) : Type 0 where
  pub legal : CanAnswer s m w
  pub spare : HasSpare s

-- what a thread asks for can be done: its event is legal in the heap, and the journal has room for it
pub answer_fits :
    (p : Program) (m : ℕ) (w : Want) (r : Running) (t : IsTurnOf p (mutator m) r)
    → HasSeat r.seats.items m w
    → IsPlainWant w
    → AnswerFits r.heap m w
answer_fits p m w r t h plain =
    let q = plain_turn p m w r t h plain in
    let s = t.run.state in
    let sound = after_is_sound p (mutator m) r t in
    let legal : IsLegal t.run.shape t.run.sizes (s.journal ++ event_of_want (heap_of_journal t.run.shape t.run.sizes s.journal) m w ∷ []) =
    subst (IsLegal t.run.shape t.run.sizes) q.journal sound.legal in
    let room = (sound_state_has_room t.run.shape p t.run.sizes (after_turn p (mutator m) r t) sound).events in
    let longer : length (after_turn p (mutator m) r t).journal ≡ length s.journal + 1 =
    ap length q.journal ∙ length-append s.journal (event_of_want (heap_of_journal t.run.shape t.run.sizes s.journal) m w ∷ []) in
    subst (λ (x : Snapshots). AnswerFits x m w) (sym t.run.stands.heap)
    (record { legal = each_is_legal t.run.shape t.run.sizes s.journal [] _ legal; spare = omega (arith, room, longer) })

-- of the world, neither active checks nor the epoch change
plain_world :
    (shape : ShapeLists) (sizes : Sizes) (w : World) (s : Snapshots) (m : ℕ) (x : Want)
    → IsPlainWant x
    → ((next shape sizes w (event_of_want s m x)).active ≡ w.active) × ((next shape sizes w (event_of_want s m x)).epoch ≡ w.epoch)
plain_world shape sizes w s m (want.New class) h = (refl, refl)
plain_world shape sizes w s m (want.Load obj field) h = (refl, refl)
plain_world shape sizes w s m (want.Store obj field value) h = (refl, refl)
plain_world shape sizes w s m (want.Cas obj field expect value) h = by (is_word (word_at (world_of s).heap obj field) expect)
  where
    by : (b : Bool) → ((next shape sizes w (Cas m obj field expect value b)).active ≡ w.active) × ((next shape sizes w (Cas m obj field expect value b)).epoch ≡ w.epoch)
    by true = (refl, refl)
    by false = (refl, refl)
plain_world shape sizes w s m (want.Launch site args) h = absurd h
plain_world shape sizes w s m (want.End end) h = absurd h

-- once the event is done and nothing else changed, the run in memory stands for the state after the thread's turn
pub answer_stands :
    (p : Program) (m : ℕ) (w : Want) (before after : Running) (t : IsTurnOf p (mutator m) before)
    → HasSeat before.seats.items m w
    → IsPlainWant w
    → after.heap ≡ with_event before.heap (event_of_want before.heap m w)
    → lanes_now after.heap ≡ lanes_now before.heap
    → after.checks.items ≡ before.checks.items
    → after.idle.items ≡ before.idle.items
    → after.verdicts.items ≡ before.verdicts.items
    → SameRoom before after
    → Stands t.run.shape p t.run.sizes (after_turn p (mutator m) before t) after
answer_stands p m w before after t h plain event lanes checks idle verdicts same = record {
  heap = heap;
  checks = subst (AreChecks shape p sizes later) (sym checks) all_checks;
  idle = subst (All (IsIdleEval p sizes)) (sym idle) t.run.stands.idle;
  verdicts = subst (AreVerdicts shape p sizes later) (sym verdicts) all_verdicts;
  room = room;
}
  where
    shape : ShapeLists
    shape = t.run.shape

    sizes : Sizes
    sizes = t.run.sizes

    s : State
    s = t.run.state

    later : State
    later = after_turn p (mutator m) before t

    old : Snapshots
    old = heap_of_journal shape sizes s.journal

    q : PlainTurn shape p sizes s m w
    q = plain_turn p m w before t h plain

    legal : IsLegal shape sizes (s.journal ++ event_of_want old m w ∷ [])
    legal = subst (IsLegal shape sizes) q.journal (after_is_sound p (mutator m) before t).legal

    heap : after.heap ≡ heap_of_journal shape sizes later.journal
    heap = event ∙ (λ k. with_event (t.run.stands.heap k) (event_of_want (t.run.stands.heap k) m w)) ∙ (λ k. heap_of_journal shape sizes (sym q.journal k))

    same_lanes : lanes_now (heap_of_journal shape sizes later.journal) ≡ lanes_now old
    same_lanes = ap lanes_now (sym heap) ∙ lanes ∙ ap lanes_now t.run.stands.heap

    launched : (n : ℕ) (l : Launched) → launch_of shape sizes s.journal n ≡ Some l → launch_of shape sizes later.journal n ≡ Some l
    launched n l e = ap (λ (es : List Event). launch_of shape sizes es n) q.journal ∙ launch_stays shape sizes t.run.formed.shape_fits s.journal _ n l legal e

    world : world_after shape sizes later.journal ≡ next shape sizes (world_after shape sizes s.journal) (event_of_want old m w)
    world = ap (world_after shape sizes) q.journal ∙ world_after_one_more shape sizes s.journal (event_of_want old m w)

    active : active_checks shape sizes later.journal ≡ active_checks shape sizes s.journal
    active = ap (λ (x : World). x.active) world ∙ (plain_world shape sizes (world_after shape sizes s.journal) old m w plain).0

    epoch : epoch_of shape sizes later.journal ≡ epoch_of shape sizes s.journal
    epoch = ap (λ (x : World). x.epoch) world ∙ (plain_world shape sizes (world_after shape sizes s.journal) old m w plain).1

    all_checks : AreChecks shape p sizes later before.checks.items
    all_checks = record {
      each = λ k d lt. (let c = get_or before.checks.items k d in
          check_stays shape p sizes s later c (λ is. ap (λ (ls : List (Option ℕ)). slice_get ls c.lane.index) same_lanes ∙ is)
          (launched c.lane.number) refl (t.run.stands.checks.each k d lt));
      in_order = t.run.stands.checks.in_order ∙ sym active;
    }

    all_verdicts : AreVerdicts shape p sizes later before.verdicts.items
    all_verdicts = record {
      count = t.run.stands.verdicts.count ∙ sym epoch;
      retired = λ n one most gone. (let was = t.run.stands.verdicts.retired n one (omega (arith, most, epoch)) (ap (λ (ns : List ℕ). is_among ns n) (sym active) ∙ gone) in
          record { launch = was.launch; launched = launched n was.launch was.launched; stands = was.stands });
    }

    room : HasRoom sizes after
    room =
        let x = t.run.stands.room in
        let as_many : length after.checks.items ≡ length before.checks.items = ap length checks in
        let as_idle : length after.idle.items ≡ length before.idle.items = ap length idle in
        record {
          lanes = omega (arith, x.lanes, as_many, as_idle);
          checks = omega (arith, x.checks, same.checks);
          idle = omega (arith, x.idle, same.idle);
          verdicts = omega (arith, x.verdicts, same.verdicts);
          ready = omega (arith, x.ready, same.ready);
          ends = omega (arith, x.ends, same.ends);
          no_ends = same.items ∙ x.no_ends;
        }

-- the thread has had its reply
pub answer_seats :
    (p : Program) (m : ℕ) (w : Want) (r : Running) (seat : Seat) (reply : ℕ) (t : IsTurnOf p (mutator m) r)
    → (h : HasSeat r.seats.items m w)
    → IsPlainWant w
    → reply ≡ reply_to r.heap m w
    → ((replies : List ℕ) → HasReplies p t.run.sizes m replies h.0 → HasReplies p t.run.sizes m (replies ++ reply ∷ []) seat)
    → AreSeats p t.run.sizes (after_turn p (mutator m) r t).journal (slice_set r.seats.items m seat)
answer_seats p m w r seat reply t h plain is goes_on =
    let q = plain_turn p m w r t h plain in
    let s = t.run.state in
    let word : reply ≡ reply_of (event_of t.run.sizes (world_after t.run.shape t.run.sizes s.journal) m q.request) =
    is ∙ ap (λ (x : Snapshots). reply_to x m w) t.run.stands.heap ∙ ap reply_of q.event in
    seats_after_turn t.run.shape p t.run.sizes s m q.request r.seats.items seat q.asked t.seats
    (subst (λ (x : ℕ). HasReplies p t.run.sizes m (replies_of (own_events m s.journal) ++ x ∷ []) seat) word
    (goes_on (replies_of (own_events m s.journal)) (t.seats.each m h.0 h.1)))

-- ---- a launch

-- a launch is done, once the checks that have finished are retired
pub launch_turn :
    (p : Program) (m site : ℕ) (args : Args) (r : Running) (t : IsTurnOf p (mutator m) r)
    → HasSeat r.seats.items m (want.Launch site args)
    → after_turn p (mutator m) r t ≡ record (with_launch t.run.shape t.run.sizes m site args (with_retires m (finished_in r.checks.items) t.run.state)) { x = number_after t.run.state.x }
launch_turn p m site args r t h = λ k. record s { x = number_after s.x; journal = journal k }
  where
    s : State
    s = t.run.state

    shape : ShapeLists
    shape = t.run.shape

    sizes : Sizes
    sizes = t.run.sizes

    tests : AllByRecursion (λ c. is_over c.awaits ≡ has_finished shape p sizes s c.lane.number) r.checks.items
    tests = recursion_from_All (λ c. is_over c.awaits ≡ has_finished shape p sizes s c.lane.number) r.checks.items
        (λ k d lt. over_is_finished shape p sizes s (get_or r.checks.items k d) (t.run.stands.checks.each k d lt))

    finished : finished_in r.checks.items ≡ finished_checks shape p sizes s
    finished = finished_numbers (has_finished shape p sizes s) r.checks.items tests ∙ ap (filter (has_finished shape p sizes s)) t.run.stands.checks.in_order

    asked : request_of p sizes s m ≡ asks_for (launch site args)
    asked = sym (want_is_asked p m (want.Launch site args) r t h)

    number : epoch_of shape sizes (s.journal ++ retires m (finished_in r.checks.items)) ≡ epoch_of shape sizes s.journal
    number = ap (λ (w : World). w.epoch) (world_after_retires shape sizes s.journal m (finished_in r.checks.items))

    journal : (turn_of shape p sizes s (mutator m)).journal
        ≡ (s.journal ++ retires m (finished_in r.checks.items)) ++ Launch m site (epoch_of shape sizes (s.journal ++ retires m (finished_in r.checks.items)) + 1) args ∷ []
    journal =
        ap (λ (u : Turn). s.journal ++ turn_events shape p sizes s m u) asked
        ∙ ap (λ (ns : List ℕ). s.journal ++ (retires m ns ++ Launch m site (epoch_of shape sizes s.journal + 1) args ∷ [])) (sym finished)
        ∙ sym (append_assoc s.journal (retires m (finished_in r.checks.items)) (Launch m site (epoch_of shape sizes s.journal + 1) args ∷ []))
        ∙ ap (λ (n : ℕ). (s.journal ++ retires m (finished_in r.checks.items)) ++ Launch m site (n + 1) args ∷ []) (sym number)

-- the check that is launched next has no progress yet
pub turn_is_fresh : (p : Program) (a : Agent) (r : Running) (t : IsTurnOf p a r) → IsFresh t.run
turn_is_fresh p a r t = by (t.run.state.progress n) (t.sound.progress n)
  where
    n : ℕ
    n = epoch_of t.run.shape t.run.sizes t.run.state.journal + 1

    world : IsSoundWorld t.run.shape t.run.sizes (world_after t.run.shape t.run.sizes t.run.state.journal)
    world = legal_is_sound t.run.shape t.run.sizes t.run.formed.shape_fits t.run.state.journal t.sound.legal

    unknown : (o : Option Launched) → launch_of t.run.shape t.run.sizes t.run.state.journal n ≡ o → launch_of t.run.shape t.run.sizes t.run.state.journal n ≡ None
    unknown None e = e
    unknown (Some l) e = let most : n ≤ epoch_of t.run.shape t.run.sizes t.run.state.journal = (world.launches.only n l e).1 in absurd (omega (arith, most))

    none : launch_of t.run.shape t.run.sizes t.run.state.journal n ≡ None
    none = unknown (launch_of t.run.shape t.run.sizes t.run.state.journal n) refl

    by : (q : Progress)
        → IsSoundProgress (cells_of p t.run.sizes (launch_of t.run.shape t.run.sizes t.run.state.journal n))
        (λ obj. is_lost (lost_pairs t.run.shape t.run.sizes t.run.state.journal) obj n) q
        → q ≡ has_read 0
    by (has_read k) h =
        let few : k ≤ length (cells_of p t.run.sizes None) = subst (λ (o : Option Launched). k ≤ length (cells_of p t.run.sizes o)) none h in
        let zero_is : k ≡ 0 = omega (arith, few) in ap has_read zero_is
    by (abandoned_at obj) h =
        let cell : has_cell_of obj (cells_of p t.run.sizes None) ≡ true = subst (λ (o : Option Launched). has_cell_of obj (cells_of p t.run.sizes o) ≡ true) none h.1 in cc

-- what a launch in a turn relies on
pub turn_can_launch :
    (p : Program) (m site : ℕ) (args : Args) (r : Running) (t : IsTurnOf p (mutator m) r)
    → HasSeat r.seats.items m (want.Launch site args)
    → CanLaunchAfter p m site args r
turn_can_launch p m site args r t h =
    let sound = after_is_sound p (mutator m) r t in
    let state = launch_turn p m site args r t h in
    let room = sound_state_has_room t.run.shape p t.run.sizes (after_turn p (mutator m) r t) sound in
    let history : IsHistory t.run.shape t.run.sizes (after_turn p (mutator m) r t).journal = record { legal = sound.legal; paid = room.events } in
    let journal = ap (λ (s : State). s.journal) state in
    let checks : 2 * epoch_of t.run.shape t.run.sizes (with_launch t.run.shape t.run.sizes m site args (with_retires m (finished_in r.checks.items) t.run.state)).journal ≤ event_room t.run.sizes =
    subst (λ (es : List Event). 2 * epoch_of t.run.shape t.run.sizes es ≤ event_room t.run.sizes) journal room.checks in
    let launched : epoch_of t.run.shape t.run.sizes (with_launch t.run.shape t.run.sizes m site args (with_retires m (finished_in r.checks.items) t.run.state)).journal
    ≡ epoch_of t.run.shape t.run.sizes (with_retires m (finished_in r.checks.items) t.run.state).journal + 1 =
    ap (λ (w : World). w.epoch) (world_after_one_more t.run.shape t.run.sizes (with_retires m (finished_in r.checks.items) t.run.state).journal
    (Launch m site (epoch_of t.run.shape t.run.sizes (with_retires m (finished_in r.checks.items) t.run.state).journal + 1) args)) in
    let before : epoch_of t.run.shape t.run.sizes (with_retires m (finished_in r.checks.items) t.run.state).journal ≡ epoch_of t.run.shape t.run.sizes t.run.state.journal =
    ap (λ (w : World). w.epoch) (world_after_retires t.run.shape t.run.sizes t.run.state.journal m (finished_in r.checks.items)) in
    record {
      run = t.run;
      thread = (chosen_is_ready t.run.shape p t.run.sizes t.run.state (mutator m) t.next).0;
      after = subst (IsHistory t.run.shape t.run.sizes) journal history;
      few = omega (arith, checks, launched, before);
    }

-- nothing that stands speaks of the number
pub stands_by_journal :
    (shape : ShapeLists) (p : Program) (sizes : Sizes) (s : State) (x : ℕ) (r : Running)
    → Stands shape p sizes s r
    → Stands shape p sizes (record s { x = x }) r
stands_by_journal shape p sizes s x r h = record {
  heap = h.heap;
  checks = record {
    each = λ k d lt. (let m = h.checks.each k d lt in
        record { lane = m.lane; made = m.made; budget_is = m.budget_is; launch = m.launch; launched = m.launched; come = m.come });
    in_order = h.checks.in_order;
  };
  idle = h.idle;
  verdicts = record {
    count = h.verdicts.count;
    retired = λ n one most gone. (let v = h.verdicts.retired n one most gone in
        record { launch = v.launch; launched = v.launched; stands = v.stands });
  };
  room = h.room;
}

-- once the checks that finished are retired and the new one is launched, the run in memory stands for the state after the turn
pub launch_stands_after :
    (p : Program) (m site : ℕ) (args : Args) (before after : Running) (t : IsTurnOf p (mutator m) before)
    → HasSeat before.seats.items m (want.Launch site args)
    → Stands t.run.shape p t.run.sizes (with_launch t.run.shape t.run.sizes m site args (with_retires m (finished_in before.checks.items) t.run.state)) after
    → Stands t.run.shape p t.run.sizes (after_turn p (mutator m) before t) after
launch_stands_after p m site args before after t h stands =
    subst (λ (s : State). Stands t.run.shape p t.run.sizes s after) (sym (launch_turn p m site args before t h))
    (stands_by_journal t.run.shape p t.run.sizes (with_launch t.run.shape t.run.sizes m site args (with_retires m (finished_in before.checks.items) t.run.state))
    (number_after t.run.state.x) after stands)

-- the thread has had its reply, which is 0
pub launch_seats :
    (p : Program) (m site : ℕ) (args : Args) (r : Running) (seat : Seat) (t : IsTurnOf p (mutator m) r)
    → (h : HasSeat r.seats.items m (want.Launch site args))
    → ((replies : List ℕ) → HasReplies p t.run.sizes m replies h.0 → HasReplies p t.run.sizes m (replies ++ 0 ∷ []) seat)
    → AreSeats p t.run.sizes (after_turn p (mutator m) r t).journal (slice_set r.seats.items m seat)
launch_seats p m site args r seat t h goes_on =
    seats_after_turn t.run.shape p t.run.sizes t.run.state m (launch site args) r.seats.items seat (sym (want_is_asked p m (want.Launch site args) r t h)) t.seats
    (goes_on (replies_of (own_events m t.run.state.journal)) (t.seats.each m h.0 h.1))

-- who takes a turn and asks for no launch asks for something plain
pub plain_if_no_launch :
    (p : Program) (m : ℕ) (w : Want) (r : Running) (t : IsTurnOf p (mutator m) r)
    → HasSeat r.seats.items m w
    → ((site : ℕ) (args : Args) → w ≡ want.Launch site args → ⊥)
    → IsPlainWant w
plain_if_no_launch p m w r t h other = by w (want_is_asked p m w r t h) other
  where
    can : can_turn (request_of p t.run.sizes t.run.state m) (can_launch t.run.shape p t.run.sizes t.run.state) ≡ true
    can = (chosen_is_ready t.run.shape p t.run.sizes t.run.state (mutator m) t.next).1

    by : (x : Want) → turn_of_want x ≡ request_of p t.run.sizes t.run.state m → ((site : ℕ) (args : Args) → x ≡ want.Launch site args → ⊥) → IsPlainWant x
    by (want.New class) e none = tt
    by (want.Load obj field) e none = tt
    by (want.Store obj field value) e none = tt
    by (want.Cas obj field expect value) e none = tt
    by (want.Launch site args) e none = none site args refl
    by (want.End end) e none =
        let f : false ≡ true = ap (λ (u : Turn). can_turn u (can_launch t.run.shape p t.run.sizes t.run.state)) e ∙ can in cc

-- a thread that takes a turn has a seat
pub seat_is_there : (p : Program) (m : ℕ) (r : Running) (t : IsTurnOf p (mutator m) r) → m < length r.seats.items
seat_is_there p m r t =
    let few = (chosen_is_ready t.run.shape p t.run.sizes t.run.state (mutator m) t.next).0 in omega (arith, few, t.seats.count)
